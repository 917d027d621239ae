use Rattle.std.proofs.Common.{◌≡◌, ℕ, ◌*◌, ◌-◌, ◌≤◌, ℤ, pos, List, length, get_or, ap, sym, subst, ◌∙◌, arith, rules}
use Rattle.std.proofs.lemmas.Int.{to_z-of_z}
use mir.Val.{SFits, to_z, of_z}
use mir.Syntax.{w128}
use Rattle.array_desc.specs.Desc.{DescView, IsDesc}
use Rattle.array_desc.specs.Rows.{Joins}
use Rattle.array_desc.proofs.RunLemmas.{RunFrom, run_begins, run_round, run_fits, run_ends, run_is_all}
use Rattle.array_desc.proofs.runs.last_run.Goals as goal
use Rattle.array_desc.proofs.runs.last_run.Goals.{After-lengths-lengths}

is_desc : (c : After-lengths-lengths) → IsDesc c.args.desc.now
is_desc c = let P : DescView → Type 0 = IsDesc in subst P c.desc.view_is c.desc.invariant.0

lengths_are : (c : After-lengths-lengths) → c.lengths-lengths.result.now ≡ c.args.desc.now.shape
lengths_are c = c.lengths-lengths.ensures.value ∙ ap (λ (d : DescView). d.shape) c.desc.view_is

strides_are : (c : After-lengths-lengths) → c.as_slice-strides.result.now ≡ c.args.desc.now.strides
strides_are c = c.as_slice-strides.ensures ∙ ap (λ d. d.strides) c.desc.view_is

pub loop-axis-init : goal.loop-axis-init
loop-axis-init c =
    let d = c.args.desc.now in
    let P : ℕ → Type 0 = λ k. RunFrom d k k 1 (pos 0) in
    subst P (sym (ap length (lengths_are c))) (run_begins d (is_desc c))

pub overflow_mul-run : goal.overflow_mul-run
overflow_mul-run c =
    let b = (goal.at.overflow_mul-run c).After-lengths-lengths in
    let e = lengths_are b in
    let k : c.loop-axis.axis ≤ length c.args.desc.now.shape = omega (arith, c.loop-axis.auto.axis, ap length e) in
    let h = run_fits c.args.desc.now c.loop-axis.axis _ _ _ (is_desc b) c.loop-axis-test.true k c.requires c.loop-axis.invariant in
    let f = ap (λ (ns : List ℕ). c.loop-axis.run.length * get_or ns (c.loop-axis.axis - 1) 0) e in
    omega (arith, h, f)

pub loop-axis-preserved : goal.loop-axis-preserved
loop-axis-preserved c =
    let b = (goal.at.loop-axis-preserved c).After-lengths-lengths in
    let d = c.args.desc.now in
    let e = lengths_are b in
    let k : c.loop-axis.axis ≤ length d.shape = omega (arith, c.loop-axis.auto.axis, ap length e) in
    let s : SFits w128 (get_or c.as_slice-strides.result.now (c.loop-axis.axis - 1) (pos 0)) = search rules in
    let t : SFits w128 c.in-Some.step = search rules in
    let P : ℤ → Type 0 = λ z. Joins z (get_or d.shape (c.loop-axis.axis - 1) 0) c.loop-axis.run.length c.loop-axis.run.step c.in-Some.step in
    let Q : List ℕ → Type 0 = λ ns. Joins (to_z w128 (of_z w128 (get_or c.as_slice-strides.result.now (c.loop-axis.axis - 1) (pos 0)))) (get_or ns (c.loop-axis.axis - 1) 0) c.loop-axis.run.length c.loop-axis.run.step c.in-Some.step in
    let j = subst P (to_z-of_z w128 _ s ∙ ap (λ v. get_or v (c.loop-axis.axis - 1) (pos 0)) (strides_are b)) (subst Q e c.in-Some.ensures.some) in
    let r = run_round d c.loop-axis.axis _ _ _ _ (is_desc b) c.requires c.loop-axis-test.true k c.loop-axis.invariant j in
    let R : ℕ → Type 0 = λ n. RunFrom d (c.loop-axis.axis - 1) (c.loop-axis.axis - 1) n (to_z w128 (of_z w128 c.in-Some.step)) in
    let S : ℤ → Type 0 = λ z. RunFrom d (c.loop-axis.axis - 1) (c.loop-axis.axis - 1) (c.loop-axis.run.length * get_or d.shape (c.loop-axis.axis - 1) 0) z in
    subst R (ap (λ ns. c.loop-axis.run.length * get_or ns (c.loop-axis.axis - 1) 0) (sym e)) (subst S (sym (to_z-of_z w128 _ t)) r)

pub returns-in-None : goal.returns-in-None
returns-in-None c = run_ends c.args.desc.now c.loop-axis.axis _ _ _ c.loop-axis.invariant c.in-None.ensures.none

pub returns : goal.returns
returns c = run_is_all c.args.desc.now c.loop-axis.axis _ _ _ (omega arith) c.loop-axis.invariant
