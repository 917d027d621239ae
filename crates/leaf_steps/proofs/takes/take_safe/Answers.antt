use Rattle.std.proofs.Common.{List, [], ◌∷◌, length, ap, ◌∙◌}
use Rattle.std.proofs.lemmas.List.{length-append}
use Rattle.std.proofs.lemmas.Result.{IfOk-weaker}
use Rattle.drag_along.specs.Segments.{SegmentView}
use Rattle.pending_steps.proofs.LeafLemmas.{newest_taken}
use Rattle.leaf_steps.proofs.TakingLemmas.{newest_safe, older_safe}
use Rattle.leaf_steps.proofs.takes.take_safe.Goals as goal

pub as_leaf-requires-clause-safe : goal.as_leaf-requires-clause-safe
as_leaf-requires-clause-safe c = newest_safe c.args.stack.now c.pop.new.self c.in-Some.newest c.in-Some.ensures.taken c.requires.safe

pub returns-clause-takes : goal.returns-clause-takes
returns-clause-takes c =
    IfOk-weaker c.as_leaf.result _ _ (λ leaf comes.
    newest_taken c.args.store.now c.as_leaf.new.store c.args.stack.now c.pop.new.self c.in-Some.newest leaf c.in-Some.ensures.taken c.requires.lawful c.requires.held comes) c.as_leaf.ensures.comes

pub returns-clause-safe : goal.returns-clause-safe
returns-clause-safe c = older_safe c.args.stack.now c.pop.new.self c.in-Some.newest c.in-Some.ensures.taken c.requires.safe

pub returns-clause-length : goal.returns-clause-length
returns-clause-length c =
    ap (λ (xs : List SegmentView). length xs) c.in-Some.ensures.taken ∙ length-append c.pop.new.self (c.in-Some.newest ∷ [])
