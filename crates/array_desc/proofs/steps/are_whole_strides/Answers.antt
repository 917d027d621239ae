use Rattle.std.proofs.Common.{arith, pos, ◌-◌, ℕ, refl, subst, get_or, false, sym, ap, ◌∙◌, ◌≡◌, rules}
use mir.Val.{SFits, of_z}
use mir.Syntax.{w128}
use Rattle.array_desc.specs.Steps.{stride_kept}
use Rattle.array_desc.proofs.Wholes.{WholeFrom, whole_begins, whole_round, whole_differs, whole_fits, same_bits}
use Rattle.array_desc.proofs.Walks.{cell_is}
use Rattle.array_desc.proofs.steps.are_whole_strides.Goals as goal
use Rattle.array_desc.proofs.steps.are_whole_strides.Goals.{After-stride_on}

-- the stride that the axis must have
wanted : (c : After-stride_on) → c.stride_on.result ≡ stride_kept false (pos c.loop-axis.behind) (get_or c.args.lengths.now (c.loop-axis.axis - 1) 0)
wanted c =
    c.stride_on.ensures ∙ ap (λ z. stride_kept false z (get_or c.args.lengths.now (c.loop-axis.axis - 1) 0)) (cell_is _ _ c.from.type_inv c.from.ensures)

pub loop-axis-init : goal.loop-axis-init
loop-axis-init c = whole_begins c.args.strides.now c.args.lengths.now c.requires.axes

pub returns-then-strides-axis : goal.returns-then-strides-axis
returns-then-strides-axis c =
    let d = wanted (goal.at.returns-then-strides-axis c).After-stride_on in
    (λ t. (cc), λ q. absurd (whole_differs c.args.strides.now c.args.lengths.now _ _ c.loop-axis-test.true c.loop-axis.auto.axis c.loop-axis.invariant (λ e. c.if-strides-axis.true (ap (of_z w128) (e ∙ sym d))) q))

pub overflow_mul-behind : goal.overflow_mul-behind
overflow_mul-behind c =
    let h = whole_fits c.args.strides.now c.args.lengths.now _ _ _ c.loop-axis-test.true c.loop-axis.auto.axis c.requires.some c.requires.few c.loop-axis.invariant in
    omega arith

pub loop-axis-preserved : goal.loop-axis-preserved
loop-axis-preserved c =
    let s : SFits w128 (get_or c.args.strides.now (c.loop-axis.axis - 1) (pos 0)) = search rules in
    let e = same_bits _ _ s (record { sfits = c.stride_on.type_inv }) c.if-strides-axis.false in
    whole_round c.args.strides.now c.args.lengths.now _ _ c.loop-axis-test.true c.loop-axis.auto.axis c.requires.axes c.loop-axis.invariant (e ∙ wanted (goal.at.loop-axis-preserved c).After-stride_on)

pub returns : goal.returns
returns c =
    let e : c.loop-axis.axis ≡ 0 = omega arith in
    let P : ℕ → Type 0 = λ k. WholeFrom c.args.strides.now c.args.lengths.now k c.loop-axis.behind in
    (λ t. (subst P e c.loop-axis.invariant).strides, λ q. refl)
