use Rattle.std.proofs.Common.{ℕ, Some, sym, ap, ◌∙◌}
use Rattle.std.specs.Prelude.{◌≡◌, ◌-◌, length, slice_get, None}
use Rattle.std.specs.Option.{option_copied}
use Rattle.drag_along.specs.Views.{only_leaf}
use Rattle.calling_steps.proofs.ReadyLemmas.{has_leaf, is_newest}
use Rattle.calling_steps.proofs.ready.newest_leaf.Goals as goal

pub unreachable-requires : goal.unreachable-requires
unreachable-requires c =
    let at : slice_get c.args.stack.now (length c.args.stack.now - 1) ≡ Some c.entry.result.now = ap (λ (n : ℕ). slice_get c.args.stack.now (n - 1)) (sym c.len.ensures.value) ∙ c.entry.ensures in
    let none : only_leaf c.entry.result.now.nodes ≡ None = sym c.only_leaf.ensures.found ∙ ap option_copied c.in-None.is in
    has_leaf c.entry.result.now c.only_leaf.ensures.segment (c.requires.computed c.entry.result.now at) none

pub returns : goal.returns
returns c =
    let at : slice_get c.args.stack.now (length c.args.stack.now - 1) ≡ Some c.entry.result.now = ap (λ (n : ℕ). slice_get c.args.stack.now (n - 1)) (sym c.len.ensures.value) ∙ c.entry.ensures in
    is_newest c.args.stack.now c.entry.result.now c.in-Some.leaf.now at c.only_leaf.ensures.segment (sym c.in-Some.ensures.found)
