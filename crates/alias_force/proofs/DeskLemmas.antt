-- A desk on which entries and leaves in hand go and come.
use Rattle.std.proofs.Common.{◌≡◌, ℤ, List, arith}
use Rattle.array_store.specs.Stores.{StoreView}
use Rattle.array_store.specs.Follows.{LeafCounts, Follows, Holds, both}
use Rattle.drag_along.specs.declared.leaves.Leaf.{Leaf}
use Rattle.drag_along.specs.Segments.{SegmentView}
use Rattle.drag_along.specs.Lawful.{SameData}
use Rattle.drag_along.proofs.KeptLemmas.{follows_keeps}
use Rattle.value_stack.specs.Stacks.{named_on, IsLawfulStack}
use Rattle.apl_model.specs.Environment.{Environment}
use Rattle.leaf_names.specs.Variables.{named_by_names, variables_of}
use Rattle.leaf_names.proofs.KeptLemmas.{lawful_kept, filling_kept, variables_kept}
use Rattle.alias_force.specs.Desk.{IsLawfulDesk}

pub desk_follows : (old new : StoreView) (names : Environment Leaf) (before after : List SegmentView) (gone came hand : LeafCounts) → IsLawfulDesk old names before (both gone hand) → Follows old new (both (named_on before) gone) (both (named_on after) came) → IsLawfulStack new after → IsLawfulDesk new names after (both came hand) × ((origin : ℤ) → variables_of new origin names ≡ variables_of old origin names)
desk_follows old new names before after gone came hand desk follows lawful =
    let holds : Holds old (both (both (named_on before) gone) (named_by_names names)) = λ key. omega (arith, desk.held key) in
    let same : SameData old new (named_by_names names) =
    follows_keeps old new (both (named_on before) gone) (both (named_on after) came) (named_by_names names) (named_by_names names) follows holds (λ key. omega arith) in (
      record {
        lawful = lawful_kept old new names same desk.lawful;
        filling = filling_kept old new names same desk.filling;
        entries = lawful;
        held = λ key. omega (arith, desk.held key, follows.holders key);
      },
      variables_kept old new names same desk.lawful,
    )
