use mir.Syntax.{w128}
use Rattle.std.proofs.Common.{◌≡◌, ◌∙◌, ◌||◌, ℕ, List, Bool, true, false, Some, None, Err, length, sym, ap, subst, arith}
use Rattle.std.specs.Prelude.{Option}
use Rattle.std.specs.List.{list_any}
use Rattle.std.proofs.lemmas.Int.{to_z-of_z}
use Rattle.apl_base.specs.declared.faults.ErrorKind.{ErrorKind}
use Rattle.apl_base.specs.Array.{Array, IsShape}
use Rattle.array_store.specs.Stores.{StoreView}
use Rattle.apl_model.specs.Made.{kinds_differ}
use Rattle.apl_model.specs.Subscript.{is_text_position, in_axes, positions_shape}
use Rattle.drag_along.specs.Nodes.{leaf_shape}
use Rattle.leaf_names.specs.Variables.{array_of}
use Rattle.made_picks.specs.Picks.{positions_of}
use Rattle.made_picks.proofs.PositionLemmas.{length-positions}
use Rattle.replacing_steps.specs.Checks.{IsFit, FitsSelected}
use Rattle.replacing_steps.proofs.CheckLemmas.{unfit_fails, text_fails, axis_fails, size_fails, rank_joined, joined_fit, fit_is, fit_some, fit_none, some_is, domain_first, domain_second, domain_none}
use Rattle.replacing_steps.proofs.checks.shape_selected.Goals.{then-any_text-via-then-any_text, then-any_text-via-else-any_text+then-differ}
use Rattle.replacing_steps.proofs.checks.shape_selected.Goals as goal

pub returns-in-Some-clause-refused : goal.returns-in-Some-clause-refused
returns-in-Some-clause-refused c =
    let s : StoreView = c.args.store.now in
    let a : Array = array_of s c.args.array.now in
    let b : Array = array_of s c.args.value.now in
    let ps : List (Option Array) = positions_of s c.args.positions.now in
    let ns : List ℕ = positions_shape a.shape ps in
    let long : length a.shape ≡ length c.args.positions.now = omega (arith, c.if-positions-rank.false, c.rank.ensures.value) in
    let count : length ps ≡ length a.shape = omega (arith, long, length-positions s c.args.positions.now) in
    let joined = joined_fit c.joined_shape-selected.result c.shape.result.now a.shape c.args.positions.now c.shape.ensures c.joined_shape-selected.ensures.shape c.joined_shape-selected.ensures.none s in
    let fit = c.fit_error.ensures s ns (c.joined_rank.ensures ∙ rank_joined s a.shape c.args.positions.now long) joined in
    unfit_fails c.args.origin a b ps count c.in-Some.kind (fit_is b ns c.fit_error.result (Some c.in-Some.kind) fit c.in-Some.is)

pub returns-then-any_text-clause-refused : goal.returns-then-any_text-clause-refused
returns-then-any_text-clause-refused c =
    let s : StoreView = c.args.store.now in
    let a : Array = array_of s c.args.array.now in
    let b : Array = array_of s c.args.value.now in
    let ps : List (Option Array) = positions_of s c.args.positions.now in
    let ns : List ℕ = positions_shape a.shape ps in
    let long : length a.shape ≡ length c.args.positions.now = omega (arith, c.if-positions-rank.false, c.rank.ensures.value) in
    let count : length ps ≡ length a.shape = omega (arith, long, length-positions s c.args.positions.now) in
    let joined = joined_fit c.joined_shape-selected.result c.shape.result.now a.shape c.args.positions.now c.shape.ensures c.joined_shape-selected.ensures.shape c.joined_shape-selected.ensures.none s in
    let fit = c.fit_error.ensures s ns (c.joined_rank.ensures ∙ rank_joined s a.shape c.args.positions.now long) joined in
    let fits : FitsSelected b ns = fit_is b ns c.fit_error.result None fit c.in_default.is in
    text_fails c.args.origin a b ps count fits (elim c.then-any_text.branch [
      | then-any_text-via-then-any_text w ↦ domain_first a ps b (sym (c.any_text.ensures s) ∙ w.if-any_text.true)
      | then-any_text-via-else-any_text+then-differ w ↦ domain_second a ps b (sym (w.differ.ensures s) ∙ w.if-differ.true)
    ])

pub returns-then-not-all_in_axes-clause-refused : goal.returns-then-not-all_in_axes-clause-refused
returns-then-not-all_in_axes-clause-refused c =
    let s : StoreView = c.args.store.now in
    let a : Array = array_of s c.args.array.now in
    let b : Array = array_of s c.args.value.now in
    let ps : List (Option Array) = positions_of s c.args.positions.now in
    let ns : List ℕ = positions_shape a.shape ps in
    let long : length a.shape ≡ length c.args.positions.now = omega (arith, c.if-positions-rank.false, c.rank.ensures.value) in
    let count : length ps ≡ length a.shape = omega (arith, long, length-positions s c.args.positions.now) in
    let joined = joined_fit c.joined_shape-selected.result c.shape.result.now a.shape c.args.positions.now c.shape.ensures c.joined_shape-selected.ensures.shape c.joined_shape-selected.ensures.none s in
    let fit = c.fit_error.ensures s ns (c.joined_rank.ensures ∙ rank_joined s a.shape c.args.positions.now long) joined in
    let fits : FitsSelected b ns = fit_is b ns c.fit_error.result None fit c.in_default.is in
    let numbers : list_any is_text_position ps ≡ false = sym (c.any_text.ensures s) ∙ c.if-any_text.false in
    let kinds : kinds_differ a b ≡ false = sym (c.differ.ensures s) ∙ c.if-differ.false in
    let origin = to_z-of_z w128 c.args.origin c.ranges.origin in
    let within = rw origin at c.all_in_axes.ensures.value in
    axis_fails c.args.origin a b ps count fits (domain_none a ps b numbers kinds) (ap (λ (ms : List ℕ). in_axes c.args.origin ms ps) (sym c.lengths.ensures) ∙ sym within ∙ c.if-not-all_in_axes.true)

pub returns-in-Some-selected-clause-can : goal.returns-in-Some-selected-clause-can
returns-in-Some-selected-clause-can c =
    let s : StoreView = c.args.store.now in
    let a : Array = array_of s c.args.array.now in
    let b : Array = array_of s c.args.value.now in
    let ps : List (Option Array) = positions_of s c.args.positions.now in
    let ns : List ℕ = positions_shape a.shape ps in
    let long : length a.shape ≡ length c.args.positions.now = omega (arith, c.if-positions-rank.false, c.rank.ensures.value) in
    let count : length ps ≡ length a.shape = omega (arith, long, length-positions s c.args.positions.now) in
    let joined = joined_fit c.joined_shape-selected.result c.shape.result.now a.shape c.args.positions.now c.shape.ensures c.joined_shape-selected.ensures.shape c.joined_shape-selected.ensures.none s in
    let fit = c.fit_error.ensures s ns (c.joined_rank.ensures ∙ rank_joined s a.shape c.args.positions.now long) joined in
    let fits : FitsSelected b ns = fit_is b ns c.fit_error.result None fit c.in_default.is in
    let numbers : list_any is_text_position ps ≡ false = sym (c.any_text.ensures s) ∙ c.if-any_text.false in
    let kinds : kinds_differ a b ≡ false = sym (c.differ.ensures s) ∙ c.if-differ.false in
    let origin = to_z-of_z w128 c.args.origin c.ranges.origin in
    let within = rw origin at c.all_in_axes.ensures.value in
    record {
      selected = fit_some c.joined_shape-selected.result c.in-Some-selected.selected _ (λ (ms : List ℕ). ms ≡ ns) joined c.in-Some-selected.is;
      shape = some_is c.joined_shape-selected.result c.in-Some-selected.selected IsShape c.joined_shape-selected.ensures.lawful c.in-Some-selected.is;
      count = count;
      fits = subst (FitsSelected b) (sym (fit_some c.joined_shape-selected.result c.in-Some-selected.selected _ (λ (ms : List ℕ). ms ≡ ns) joined c.in-Some-selected.is)) fits;
      numbers = numbers;
      kinds = kinds;
      on_axes = ap (λ (ms : List ℕ). in_axes c.args.origin ms ps) (sym c.lengths.ensures) ∙ sym within ∙ c.if-not-all_in_axes.false;
    }

pub returns-in-None-clause-refused : goal.returns-in-None-clause-refused
returns-in-None-clause-refused c =
    let s : StoreView = c.args.store.now in
    let a : Array = array_of s c.args.array.now in
    let b : Array = array_of s c.args.value.now in
    let ps : List (Option Array) = positions_of s c.args.positions.now in
    let ns : List ℕ = positions_shape a.shape ps in
    let long : length a.shape ≡ length c.args.positions.now = omega (arith, c.if-positions-rank.false, c.rank.ensures.value) in
    let count : length ps ≡ length a.shape = omega (arith, long, length-positions s c.args.positions.now) in
    let joined = joined_fit c.joined_shape-selected.result c.shape.result.now a.shape c.args.positions.now c.shape.ensures c.joined_shape-selected.ensures.shape c.joined_shape-selected.ensures.none s in
    let fit = c.fit_error.ensures s ns (c.joined_rank.ensures ∙ rank_joined s a.shape c.args.positions.now long) joined in
    let fits : FitsSelected b ns = fit_is b ns c.fit_error.result None fit c.in_default.is in
    let numbers : list_any is_text_position ps ≡ false = sym (c.any_text.ensures s) ∙ c.if-any_text.false in
    let kinds : kinds_differ a b ≡ false = sym (c.differ.ensures s) ∙ c.if-differ.false in
    let origin = to_z-of_z w128 c.args.origin c.ranges.origin in
    let within = rw origin at c.all_in_axes.ensures.value in
    size_fails c.args.origin a b ps count fits (domain_none a ps b numbers kinds) (ap (λ (ms : List ℕ). in_axes c.args.origin ms ps) (sym c.lengths.ensures) ∙ sym within ∙ c.if-not-all_in_axes.false)
    (fit_none c.joined_shape-selected.result _ (λ (ms : List ℕ). ms ≡ ns) joined c.in-None.is)
