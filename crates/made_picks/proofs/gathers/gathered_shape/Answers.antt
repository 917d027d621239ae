use mir.Syntax.{w128}
use Rattle.std.proofs.Common.{◌∙◌, ℕ, List, sym, ap, subst}
use Rattle.std.proofs.lemmas.Int.{to_z-of_z}
use Rattle.apl_base.specs.Array.{IsShape}
use Rattle.leaf_names.specs.Variables.{array_of}
use Rattle.apl_model.specs.Subscript.{in_axes, positions_shape}
use Rattle.made_picks.specs.Picks.{positions_of}
use Rattle.made_picks.proofs.PositionLemmas.{length-positions}
use Rattle.made_picks.proofs.GatherLemmas.{subscript_domain, subscript_index, subscript_limit, subscript_is}
use Rattle.made_picks.proofs.gathers.gathered_shape.Goals as goal

pub returns-then-any_text-clause-refused : goal.returns-then-any_text-clause-refused
returns-then-any_text-clause-refused c =
    subscript_domain c.args.origin (array_of c.args.store.now c.args.b.now) (positions_of c.args.store.now c.args.positions.now)
    (length-positions c.args.store.now c.args.positions.now ∙ c.if-positions-rank.false ∙ c.rank.ensures.value) (sym (c.any_text.ensures c.args.store.now) ∙ c.if-any_text.true)

pub returns-then-not-all_in_axes-clause-refused : goal.returns-then-not-all_in_axes-clause-refused
returns-then-not-all_in_axes-clause-refused c =
    let value = rw (to_z-of_z w128 c.args.origin c.ranges.origin) at c.all_in_axes.ensures.value in
    subscript_index c.args.origin (array_of c.args.store.now c.args.b.now) (positions_of c.args.store.now c.args.positions.now)
    (length-positions c.args.store.now c.args.positions.now ∙ c.if-positions-rank.false ∙ c.rank.ensures.value) (sym (c.any_text.ensures c.args.store.now) ∙ c.if-any_text.false)
    (ap (λ (ns : List ℕ). in_axes c.args.origin ns (positions_of c.args.store.now c.args.positions.now)) (sym c.lengths.ensures) ∙ sym value ∙ c.if-not-all_in_axes.true)

pub returns-in-Some-clause-shape : goal.returns-in-Some-clause-shape
returns-in-Some-clause-shape c =
    c.in-Some.ensures.shape c.args.store.now ∙ ap (λ (ns : List ℕ). positions_shape ns (positions_of c.args.store.now c.args.positions.now)) c.shape.ensures

pub returns-in-Some-clause-array : goal.returns-in-Some-clause-array
returns-in-Some-clause-array c =
    let value = rw (to_z-of_z w128 c.args.origin c.ranges.origin) at c.all_in_axes.ensures.value in
    subscript_is c.args.origin (array_of c.args.store.now c.args.b.now) (positions_of c.args.store.now c.args.positions.now) c.in-Some.made
    (length-positions c.args.store.now c.args.positions.now ∙ c.if-positions-rank.false ∙ c.rank.ensures.value) (sym (c.any_text.ensures c.args.store.now) ∙ c.if-any_text.false)
    (ap (λ (ns : List ℕ). in_axes c.args.origin ns (positions_of c.args.store.now c.args.positions.now)) (sym c.lengths.ensures) ∙ sym value ∙ c.if-not-all_in_axes.false)
    c.in-Some.ensures.lawful (returns-in-Some-clause-shape c)

pub returns-in-None-clause-refused : goal.returns-in-None-clause-refused
returns-in-None-clause-refused c =
    let value = rw (to_z-of_z w128 c.args.origin c.ranges.origin) at c.all_in_axes.ensures.value in
    subscript_limit c.args.origin (array_of c.args.store.now c.args.b.now) (positions_of c.args.store.now c.args.positions.now)
    (length-positions c.args.store.now c.args.positions.now ∙ c.if-positions-rank.false ∙ c.rank.ensures.value) (sym (c.any_text.ensures c.args.store.now) ∙ c.if-any_text.false)
    (ap (λ (ns : List ℕ). in_axes c.args.origin ns (positions_of c.args.store.now c.args.positions.now)) (sym c.lengths.ensures) ∙ sym value ∙ c.if-not-all_in_axes.false)
    (λ lawful. c.in-None.ensures.none c.args.store.now (subst (λ (ns : List ℕ). IsShape (positions_shape ns (positions_of c.args.store.now c.args.positions.now))) (sym c.shape.ensures) lawful))
