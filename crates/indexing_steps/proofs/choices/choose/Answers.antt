use Rattle.std.proofs.Common.{◌≡◌, ℕ, ℤ, List, Err, length, sym, ap, subst, ◌∙◌}
use mir.Syntax.{w128}
use Rattle.std.proofs.lemmas.Int.{to_z-of_z}
use Rattle.pending_laws.specs.Subscripts.{AreItems}
use Rattle.apl_base.specs.declared.faults.ErrorKind.{ErrorKind}
use Rattle.apl_model.specs.Subscript.{in_axes, subscript}
use Rattle.indexing_steps.specs.Operands.{arrays_of}
use Rattle.indexing_steps.proofs.ItemLemmas.{arrays-long}
use Rattle.indexing_steps.proofs.ChoiceLemmas.{items_long, domain_fails, index_fails, fitted_choice}
use Rattle.indexing_steps.proofs.choices.choose.Goals as goal

pub returns-then-has_text-clause-choice : goal.returns-then-has_text-clause-choice
returns-then-has_text-clause-choice c a same =
    let store = c.args.store.now in
    domain_fails c.args.origin a (arrays_of store c.args.positions.now)
    (arrays-long store c.args.positions.now ∙ c.if-positions-rank.false ∙ c.rank.ensures.value ∙ ap (λ (ns : List ℕ). length ns) (sym same))
    (sym (c.if-has_text.ensures store))

pub items_of-requires-clause-numbers : goal.items_of-requires-clause-numbers
items_of-requires-clause-numbers c = sym (c.if-has_text.ensures c.args.store.now)

pub choose_items-requires : goal.choose_items-requires
choose_items-requires c =
    let ps = arrays_of c.args.store.now c.args.positions.now in
    let found = rw c.in-Ok-Some.field-0-is at c.in-Ok-Some.ensures.items in
    let are : AreItems c.args.origin c.args.shape.now ps c.in-Ok-Some.items.items =
    subst (λ (o : ℤ). AreItems o c.args.shape.now ps c.in-Ok-Some.items.items) (to_z-of_z w128 c.args.origin c.ranges.origin) found in
    record { count = items_long c.args.origin c.args.shape.now (arrays_of c.args.store.now c.args.positions.now) c.in-Ok-Some.items.items are }

pub returns-in-Ok-Some-clause-choice : goal.returns-in-Ok-Some-clause-choice
returns-in-Ok-Some-clause-choice c =
    let store = c.args.store.now in
    let ps = arrays_of c.args.store.now c.args.positions.now in
    let found = rw c.in-Ok-Some.field-0-is at c.in-Ok-Some.ensures.items in
    let are : AreItems c.args.origin c.args.shape.now ps c.in-Ok-Some.items.items =
    subst (λ (o : ℤ). AreItems o c.args.shape.now ps c.in-Ok-Some.items.items) (to_z-of_z w128 c.args.origin c.ranges.origin) found in
    fitted_choice c.args.origin c.args.shape.now (arrays_of store c.args.positions.now) c.in-Ok-Some.items.items c.choose_items.result (sym (c.if-has_text.ensures store))
    (arrays-long store c.args.positions.now ∙ c.if-positions-rank.false ∙ c.rank.ensures.value) are c.choose_items.ensures.choice

pub returns-in-Err-clause-choice : goal.returns-in-Err-clause-choice
returns-in-Err-clause-choice c a same =
    let store = c.args.store.now in
    let ps = arrays_of store c.args.positions.now in
    let r = c.in-Err.ensures.refused in
    subst (λ (k : ErrorKind). subscript c.args.origin a ps ≡ Err k) (sym r.0)
    (index_fails c.args.origin a ps (arrays-long store c.args.positions.now ∙ c.if-positions-rank.false ∙ c.rank.ensures.value ∙ ap (λ (ns : List ℕ). length ns) (sym same))
    (sym (c.if-has_text.ensures store)) (ap (λ (ns : List ℕ). in_axes c.args.origin ns ps) same ∙ ap (λ (o : ℤ). in_axes o c.args.shape.now ps) (sym (to_z-of_z w128 c.args.origin c.ranges.origin)) ∙ r.1))
