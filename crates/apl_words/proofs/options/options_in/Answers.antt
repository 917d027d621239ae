use Rattle.std.proofs.Common.{rules, sym, ◌≡◌, ◌∙◌, codes, Option, Some, None, option_map}
use Rattle.clap.specs.Matches.{found_of}
use Rattle.clap.specs.Walk.{Text, first_of, rows_of}
use Rattle.clap.specs.declared.parser.matches.Found.{Found}
use Rattle.clap.proofs.WalkLemmas.{first_value-rows}
use Rattle.apl_words.specs.Options.{is_set, turns_in, workload_in}
use Rattle.apl_words.proofs.Matches.{found, no_turns, no_workload}
use Rattle.apl_words.proofs.options.options_in.Goals as goal

pub returns-in_default : goal.returns-in_default
returns-in_default c =
    let f : Found = found_of c.args.matches.now in
    let a : Option Text = option_map (λ s. s.now) c.get_str.result in
    let e : a ≡ first_of (codes "turns") (rows_of f) = c.get_str.ensures ∙ first_value-rows f (codes "turns") in
    let h : turns_in a ≡ None = search rules in
    sym (no_turns (rows_of f) a e h)

pub returns-in_default-workload_in : goal.returns-in_default-workload_in
returns-in_default-workload_in c =
    let f : Found = found_of c.args.matches.now in
    let a : Option Text = option_map (λ s. s.now) c.get_str.result in
    let b : Option Text = option_map (λ s. s.now) c.get_str-2.result in
    let e : a ≡ first_of (codes "turns") (rows_of f) = c.get_str.ensures ∙ first_value-rows f (codes "turns") in
    let g : b ≡ first_of (codes "workload") (rows_of f) = c.get_str-2.ensures ∙ first_value-rows f (codes "workload") in
    let h : turns_in a ≡ Some c.in-Some.turns = search rules in
    let k : workload_in b ≡ None = search rules in
    sym (no_workload (rows_of f) a b c.in-Some.turns e g h k)

pub returns : goal.returns
returns c =
    let f : Found = found_of c.args.matches.now in
    let a : Option Text = option_map (λ s. s.now) c.get_str.result in
    let b : Option Text = option_map (λ s. s.now) c.get_str-2.result in
    let d : Option Text = option_map (λ s. s.now) c.get_str-3.result in
    let e : a ≡ first_of (codes "turns") (rows_of f) = c.get_str.ensures ∙ first_value-rows f (codes "turns") in
    let g : b ≡ first_of (codes "workload") (rows_of f) = c.get_str-2.ensures ∙ first_value-rows f (codes "workload") in
    let t : d ≡ first_of (codes "trace") (rows_of f) = c.get_str-3.ensures ∙ first_value-rows f (codes "trace") in
    let h : turns_in a ≡ Some c.in-Some.turns = search rules in
    let k : workload_in b ≡ Some c.in-Some-workload_in.workload = search rules in
    let is : c.is_set.result ≡ is_set d = search rules in
    sym (found (rows_of f) a b d c.in-Some.turns c.in-Some-workload_in.workload c.is_set.result e g t h k is)
