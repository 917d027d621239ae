use Rattle.std.proofs.Common.{◌-◌, ◌*◌, ℕ, List, length, get_or, sym, ap, ◌∙◌, arith}
use Rattle.apl_base.specs.Array.{size_of}
use Rattle.leaf_names.specs.Variables.{array_of}
use Rattle.product_fns.specs.Folding.{rows_along}
use Rattle.product_fns.proofs.CountLemmas.{computed_as}
use Rattle.product_fns.proofs.GroupLemmas.{identity_fills, some_if, only_as, behind_whole, all_elements}
use Rattle.product_fns.proofs.groups.fill_results.Goals as goal

pub returns-then-n-eq0-clause-value : goal.returns-then-n-eq0-clause-value
returns-then-n-eq0-clause-value c =
    let none = ap (λ (ns : List ℕ). get_or ns c.args.axis 0) (sym c.requires.shape) ∙ sym c.len-n.ensures.value ∙ c.if-n-eq0.true in
    identity_fills (rows_along c.args.f c.args.axis (array_of c.args.store.now c.args.leaf.now)) c.fill_identity.new.results (length c.args.results.now) c.fill_identity.result none (some_if (length c.args.results.now) c.if-is_empty.ensures) c.fill_identity.auto.results c.fill_identity.ensures

pub buffer_length-requires-clause-row : goal.buffer_length-requires-clause-row
buffer_length-requires-clause-row c = (behind_whole c.args.shape.now c.args.axis (length c.args.results.now) c.size_behind-q.result (some_if (length c.args.results.now) c.if-is_empty.ensures) c.requires.many c.size_behind-q.ensures.value).0

pub reduce_groups-requires-clause-row : goal.reduce_groups-requires-clause-row
reduce_groups-requires-clause-row c = (behind_whole c.args.shape.now c.args.axis (length c.args.results.now) c.size_behind-q.result (some_if (length c.args.results.now) c.if-is_empty.ensures) c.requires.many c.size_behind-q.ensures.value).0

pub reduce_groups-requires-clause-whole : goal.reduce_groups-requires-clause-whole
reduce_groups-requires-clause-whole c = (behind_whole c.args.shape.now c.args.axis (length c.args.results.now) c.size_behind-q.result (some_if (length c.args.results.now) c.if-is_empty.ensures) c.requires.many c.size_behind-q.ensures.value).1

pub reduce_groups-requires-clause-places : goal.reduce_groups-requires-clause-places
reduce_groups-requires-clause-places c =
    let all = all_elements c.args.shape.now c.args.axis (length c.args.results.now) c.len-n.result c.requires.axis c.requires.many c.len-n.ensures.value ∙ ap size_of c.requires.shape in
    omega (arith, all)

pub returns-clause-counted : goal.returns-clause-counted
returns-clause-counted c =
    only_as c.args.store.now c.reduce_groups.new.store _ _ _ _ (ap (λ (m : ℕ). length c.args.results.now * (m - 1)) c.len-n.ensures.value)
    (all_elements c.args.shape.now c.args.axis (length c.args.results.now) c.len-n.result c.requires.axis c.requires.many c.len-n.ensures.value) c.reduce_groups.ensures.counted

pub returns-clause-all : goal.returns-clause-all
returns-clause-all c = λ t.
    computed_as c.args.store.now c.reduce_groups.new.store _ _ _ _ (ap (λ (m : ℕ). length c.args.results.now * (m - 1)) c.len-n.ensures.value)
    (all_elements c.args.shape.now c.args.axis (length c.args.results.now) c.len-n.result c.requires.axis c.requires.many c.len-n.ensures.value) (c.reduce_groups.ensures.all t)
