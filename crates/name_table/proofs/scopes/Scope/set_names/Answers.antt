use Rattle.std.proofs.Common.{◌≡◌, true, Option, Some, None, map, sym, ap, ◌∙◌, arith}
use Rattle.std.specs.Option.{option_map, is_some}
use Rattle.std.specs.Map.Iter.{deref_pair}
use Rattle.std.specs.Str.{chars}
use Rattle.std.proofs.lemmas.List.{take_all}
use Rattle.name_table.proofs.OrderLemmas.{names_are, set_texts, texts_added, texts_passed}
use Rattle.name_table.proofs.scopes.Scope.set_names.Goals.{then-is_some+in_ok-push, else-is_some}
use Rattle.name_table.proofs.scopes.Scope.set_names.Goals as goal

no_item : (Y : Type 0) (o : Option Y) → is_some o ≡ true → o ≡ None → ⊥
no_item Y None h e = cc
no_item Y (Some y) h e = cc

pub unreachable-requires : goal.unreachable-requires
unreachable-requires c = no_item _ c.get_index.result (c.get_index.ensures.found.1 (omega (arith, c.loop-at-test.true, c.len-at-end.ensures.len))) c.in_default.is

pub loop-at-preserved : goal.loop-at-preserved
loop-at-preserved c =
    let es = c.self.inside.table.entries in
    let found = sym (sym (ap (option_map deref_pair) c.in-Some.is) ∙ c.get_index.ensures.entry) in
    elim c.if-is_some.branch [
      | then-is_some+in_ok-push w ↦
          texts_added es c.loop-at.at c.in-Some.text.now c.in-Some.bound.now c.loop-at.texts.items c.if-is_some.texts.items w.as_str.result (omega (arith, c.loop-at-test.true, c.len-at-end.ensures.len)) found (sym c.is_some.ensures ∙ w.if-is_some.true)
          c.loop-at.invariant w.as_str.ensures.value (ap (λ v. v.items) w.texts-is ∙ w.in_ok-push.ensures.items)
      | else-is_some w ↦
          texts_passed es c.loop-at.at c.in-Some.text.now c.in-Some.bound.now c.loop-at.texts.items c.if-is_some.texts.items (omega (arith, c.loop-at-test.true, c.len-at-end.ensures.len)) found (sym c.is_some.ensures ∙ w.if-is_some.false)
          c.loop-at.invariant (ap (λ v. v.items) w.texts-is)
    ]

pub returns : goal.returns
returns c =
    let es = c.self.inside.table.entries in
    names_are es c.args.self.now c.loop-at.texts.items c.sort.new.self.items c.loop-text.names.items c.self.view_is c.self.invariant.texts
    (c.loop-at.invariant ∙ ap set_texts (take_all c.loop-at.at es (omega (arith, c.loop-at-test.false, c.len-at-end.ensures.len))))
    c.in_ok-sort.ensures.permutation c.in_ok-sort.ensures.sorted
    (c.loop-text.invariant ∙ ap (map (λ t. chars t.now)) (take_all c.loop-text.text-index c.as_slice-text-items.result.now (omega (arith, c.loop-text-test.false)) ∙ c.as_slice-text-items.ensures.value))
