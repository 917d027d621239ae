use Rattle.std.proofs.Common.{◌≡◌, ◌<◌, length, suc, List, ◌∷◌, drop, get_or, add-one, sym, ap, ◌∙◌, ℕ, subst}
use Rattle.std.proofs.Math.Seq.{drop-cons}
use Rattle.drag_along.specs.declared.nodes.Node.{Node}
use Rattle.e_machine.specs.Runs.{Passes, FailsAt, IsStep}
use Rattle.e_machine.proofs.BlockRuns.{block_readable, block_goes, block_fails, block_few, block_ends}
use Rattle.e_machine.proofs.engine.run.Goals as goal

-- the nodes that are left begin with the one at the number
next : (xs : List Node) (k : ℕ) (x : Node) → k < length xs → x ≡ get_or xs k x → drop k xs ≡ x ∷ drop (suc k) xs
next xs k x there is = drop-cons xs k x there ∙ ap (λ (y : Node). y ∷ drop (suc k) xs) (sym is)

pub step-requires-clause-readable : goal.step-requires-clause-readable
step-requires-clause-readable c =
    block_readable c.args.store.now c.loop-number.store c.args.first c.args.count c.args.nodes.now c.loop-number.number c.loop-number.pending c.index-nodes-number.result c.loop-number.invariant.0 c.requires.readable
    (next _ _ _ c.loop-number-test.true c.index-nodes-number.is)

pub returns-in_err-step-clause-counted : goal.returns-in_err-step-clause-counted
returns-in_err-step-clause-counted c =
    block_few _ _ _ _ _ _ _ _ c.index-nodes-number.result c.loop-number.invariant.0
    (next _ _ _ c.loop-number-test.true c.index-nodes-number.is) c.step.ensures.counted

pub returns-then-not-branch-clause-run : goal.returns-then-not-branch-clause-run
returns-then-not-branch-clause-run c =
    let fails : FailsAt c.args.count c.index-nodes-number.result c.loop-number.pending =
    subst (IsStep c.loop-number.store c.args.first c.args.count c.index-nodes-number.result c.loop-number.pending c.step.new.pending) c.if-not-branch.true c.in_ok-step.ensures.step in
    block_fails _ _ _ _ _ _ _ c.index-nodes-number.result c.loop-number.invariant.0 c.loop-number-test.true
    (next _ _ _ c.loop-number-test.true c.index-nodes-number.is) fails

pub returns-then-not-branch-clause-counted : goal.returns-then-not-branch-clause-counted
returns-then-not-branch-clause-counted c =
    block_few _ _ _ _ _ _ _ _ c.index-nodes-number.result c.loop-number.invariant.0
    (next _ _ _ c.loop-number-test.true c.index-nodes-number.is) c.step.ensures.counted

pub loop-number-preserved : goal.loop-number-preserved
loop-number-preserved c =
    let passes : Passes c.loop-number.store c.args.first c.args.count c.index-nodes-number.result c.loop-number.pending c.step.new.pending =
    subst (IsStep c.loop-number.store c.args.first c.args.count c.index-nodes-number.result c.loop-number.pending c.step.new.pending) c.if-not-branch.false c.in_ok-step.ensures.step in (
      rw add-one
          (block_goes _ _ _ _ _ _ _ _ _ c.index-nodes-number.result c.loop-number.invariant.0
          (next _ _ _ c.loop-number-test.true c.index-nodes-number.is) passes c.in_ok-step.ensures.just),
      c.step.ensures.store,
    )

pub returns-clause-run : goal.returns-clause-run
returns-clause-run c = block_ends _ _ _ _ _ _ _ c.loop-number.invariant.0 c.loop-number-test.false
