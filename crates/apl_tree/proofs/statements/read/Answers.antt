use Rattle.std.proofs.Common.{◌≡◌, ◌+◌, ◌<◌, ◌≤◌, length, take, drop, Some, None, refl, sym, ap, ◌∙◌, arith}
use Rattle.std.proofs.lemmas.List.{take_all}
use Rattle.apl_base.specs.declared.faults.Place.{Place}
use Rattle.apl_model.proofs.Machine as machine
use Rattle.apl_tree.proofs.Runs.{run-more, cut_at}
use Rattle.apl_tree.specs.Mirror.{reader_of, reading_of, ending_of}
use Rattle.apl_tree.specs.Outcome.{at_token, at_end}
use Rattle.apl_tree.proofs.statements.read.Goals as goal

pub returns-in-None : goal.returns-in-None
returns-in-None g c =
    let hs = g.C.NameClasses.headings c.args.classes.now in
    let n = c.args.number in
    let ts = c.args.tokens.now in
    let i = c.loop-token.token-index in
    let t = c.token-item.result in
    let x = reader_of c.loop-token.reader in
    let p : Place = record { line = n; column = t.from } in
    let within : i < length ts = omega arith in
    let s : machine.step hs n x t ≡ None = ap (machine.taken x p) (sym c.in_ok-sort.ensures) ∙ sym c.in_ok-next.ensures ∙ ap reading_of c.in-None.is in
    at_token (take i ts) t (drop (i + 1) ts) x (cut_at hs n ts i t within c.token-item.is) c.loop-token.invariant s refl

pub loop-token-preserved : goal.loop-token-preserved
loop-token-preserved g c =
    let hs = g.C.NameClasses.headings c.args.classes.now in
    let n = c.args.number in
    let ts = c.args.tokens.now in
    let i = c.loop-token.token-index in
    let t = c.token-item.result in
    let x = reader_of c.loop-token.reader in
    let p : Place = record { line = n; column = t.from } in
    let within : i < length ts = omega arith in
    run-more hs n ts i t x within c.token-item.is c.loop-token.invariant
    ∙ ap (machine.taken x p) (sym c.in_ok-sort.ensures) ∙ sym c.in_ok-next.ensures ∙ ap reading_of c.in-Some.is

pub returns-in-None-2 : goal.returns-in-None-2
returns-in-None-2 g c =
    let hs = g.C.NameClasses.headings c.args.classes.now in
    let n = c.args.number in
    let ts = c.args.tokens.now in
    let i = c.loop-token.token-index in
    let x = reader_of c.loop-token.reader in
    let past : length ts ≤ i = omega arith in
    at_end x (ap (machine.run hs n (Some machine.start)) (sym (take_all i ts past)) ∙ c.loop-token.invariant)
    (sym c.in_ok-statement.ensures ∙ ap ending_of c.in-None-2.is) c.past_last.ensures
