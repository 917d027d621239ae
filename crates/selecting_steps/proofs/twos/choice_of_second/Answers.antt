use Rattle.std.proofs.Common.{◌≡◌, ◌-◌, ℕ, ℤ, List, length, Some, sym, ap, subst, ◌∙◌, arith}
use Rattle.std.specs.Prelude.{Option, IfOk, IfErr, slice_get}
use Rattle.std.proofs.lemmas.Result.{IfOk-weaker, IfErr-weaker}
use Rattle.std.proofs.lemmas.Int.{to_z-of_z}
use mir.Syntax.{w128}
use Rattle.drag_along.specs.Segments.{SegmentView}
use Rattle.apl_model.specs.Evaluation.{dyadic_value}
use Rattle.leaf_names.specs.Variables.{array_of}
use Rattle.pending_steps.proofs.EndLemmas.{end_shape}
use Rattle.selection_choices.specs.declared.choices.Choice.{Choice}
use Rattle.selection_choices.specs.Choices.{Errs, ChoosesOrTakesMore}
use Rattle.selecting_steps.proofs.NewestLemmas.{newest_leaf, fetched_stays}
use Rattle.drag_along.proofs.FirstLemmas.{leaf_alone}
use Rattle.selecting_steps.proofs.twos.choice_of_second.Goals as goal

pub unreachable-requires : goal.unreachable-requires
unreachable-requires c =
    let at : slice_get c.args.stack.now (length c.args.stack.now - 1) ≡ Some c.entry.result.now =
    ap (λ (k : ℕ). slice_get c.args.stack.now (k - 1)) (sym c.len-newest.ensures.value) ∙ c.entry.ensures in
    leaf_alone c.entry.result.now.nodes (c.requires.leaf c.entry.result.now at) c.only_leaf.ensures.segment.whole (sym c.in_default.ensures.found)

pub choose_two-requires-clause-left : goal.choose_two-requires-clause-left
choose_two-requires-clause-left c =
    let at : slice_get c.args.stack.now (length c.args.stack.now - 1) ≡ Some c.entry.result.now =
    ap (λ (k : ℕ). slice_get c.args.stack.now (k - 1)) (sym c.len-newest.ensures.value) ∙ c.entry.ensures in
    (newest_leaf c.args.store.now c.args.stack.now c.entry.result.now c.in-Some.left.now at c.only_leaf.ensures.segment (sym c.in-Some.ensures.found) c.requires.lawful).lawful

pub returns-clause-chooses : goal.returns-clause-chooses
returns-clause-chooses c =
    let stack = c.args.stack.now in
    let a = array_of c.args.store.now c.in-Some.left.now in
    let at : slice_get c.args.stack.now (length c.args.stack.now - 1) ≡ Some c.entry.result.now =
    ap (λ (k : ℕ). slice_get c.args.stack.now (k - 1)) (sym c.len-newest.ensures.value) ∙ c.entry.ensures in
    let leaf = newest_leaf c.args.store.now stack c.entry.result.now c.in-Some.left.now at c.only_leaf.ensures.segment (sym c.in-Some.ensures.found) c.requires.lawful in
    let index : length c.args.stack.now - 2 ≡ c.len-newest.result - 1 - 1 = omega (arith, c.len-newest.ensures.value) in
    let below : slice_get c.args.stack.now (length c.args.stack.now - 2) ≡ Some c.entry-2.result.now = ap (λ (k : ℕ). slice_get c.args.stack.now k) index ∙ c.entry-2.ensures in
    let shape = ap (λ (s : SegmentView). s.shape) c.behind-stack.view_is ∙ sym (end_shape stack (length stack - 2) c.entry-2.result.now below) in
    let chosen =
    subst (λ (ns : List ℕ). IfOk c.choose_two.result (λ (x : Option Choice). ChoosesOrTakesMore (dyadic_value c.args.origin c.args.f a) c.args.f a ns x)) shape
    (subst (λ (o : ℤ). IfOk c.choose_two.result (λ (x : Option Choice). ChoosesOrTakesMore (dyadic_value o c.args.f a) c.args.f a c.behind-stack.inside.shape x)) (to_z-of_z w128 c.args.origin c.ranges.origin) c.choose_two.ensures.chooses) in
    IfOk-weaker c.choose_two.result _ _ (λ x h. record { older = leaf.older; left = a; is = leaf.is; chooses = h }) chosen

pub returns-clause-refused : goal.returns-clause-refused
returns-clause-refused c =
    let stack = c.args.stack.now in
    let a = array_of c.args.store.now c.in-Some.left.now in
    let at : slice_get c.args.stack.now (length c.args.stack.now - 1) ≡ Some c.entry.result.now =
    ap (λ (k : ℕ). slice_get c.args.stack.now (k - 1)) (sym c.len-newest.ensures.value) ∙ c.entry.ensures in
    let leaf = newest_leaf c.args.store.now stack c.entry.result.now c.in-Some.left.now at c.only_leaf.ensures.segment (sym c.in-Some.ensures.found) c.requires.lawful in
    let index : length c.args.stack.now - 2 ≡ c.len-newest.result - 1 - 1 = omega (arith, c.len-newest.ensures.value) in
    let below : slice_get c.args.stack.now (length c.args.stack.now - 2) ≡ Some c.entry-2.result.now = ap (λ (k : ℕ). slice_get c.args.stack.now k) index ∙ c.entry-2.ensures in
    let shape = ap (λ (s : SegmentView). s.shape) c.behind-stack.view_is ∙ sym (end_shape stack (length stack - 2) c.entry-2.result.now below) in
    let errs =
    subst (λ (ns : List ℕ). IfErr c.choose_two.result (Errs (dyadic_value c.args.origin c.args.f a) ns)) shape
    (subst (λ (o : ℤ). IfErr c.choose_two.result (Errs (dyadic_value o c.args.f a) c.behind-stack.inside.shape)) (to_z-of_z w128 c.args.origin c.ranges.origin) c.choose_two.ensures.refused) in
    IfErr-weaker c.choose_two.result _ _ (λ x h. record { older = leaf.older; left = a; is = leaf.is; errs = h }) errs

pub returns-clause-means : goal.returns-clause-means
returns-clause-means c = (fetched_stays c.args.store.now c.choose_two.new.store c.args.stack.now 8 c.choose_two.ensures.counted c.requires.lawful c.requires.held).means

pub returns-clause-moves : goal.returns-clause-moves
returns-clause-moves c = (fetched_stays c.args.store.now c.choose_two.new.store c.args.stack.now 8 c.choose_two.ensures.counted c.requires.lawful c.requires.held).moves
