use Rattle.std.proofs.Common.{◌≡◌, ◌<◌, ◌≤◌, length, sym, subst, ◌∙◌, arith, string_bytes}
use Rattle.std.proofs.lemmas.List.{take_all}
use Rattle.std.proofs.lemmas.Map.Text.{btree_map_updates_text}
use Rattle.std.proofs.lemmas.Result.{IfOk-at_ok}
use Rattle.apl_tree.specs.Prepared.{Answers}
use Rattle.apl_tree.proofs.Prepared.{answers_none, answers_present, answers_inserted}
use Rattle.apl_tree.proofs.lookups.prepared.Goals as goal
use Rattle.apl_tree.proofs.lookups.prepared.Goals.{then-not-contains_key+in_ok-from_str+in_ok-insert, else-not-contains_key}

pub loop-heading-init : goal.loop-heading-init
loop-heading-init c = answers_none c.new-by_text.result c.new-by_text.ensures.empty

pub loop-heading-preserved : goal.loop-heading-preserved
loop-heading-preserved c =
    let hs = c.args.headings.now in
    let i = c.loop-heading.heading-index in
    let h = c.heading-item.result in
    let text = c.as_str-text.result.now in
    let within : i < length hs = omega arith in
    elim c.if-not-contains_key.branch [
      | then-not-contains_key+in_ok-from_str+in_ok-insert w ↦
          let key = IfOk-at_ok (λ s. string_bytes s ≡ text) w.in_ok-from_str.was w.from_str.ensures.ok in
          let sets = btree_map_updates_text (string_bytes w.in_ok-from_str.field-0) c.loop-heading.by_text w.insert.new.self _ w.in_ok-insert.ensures.updates in
          rw w.by_text-is (answers_inserted c.loop-heading.by_text hs i h text within c.heading-item.is c.as_str-text.utf8 c.as_str-text.ensures.characters c.loop-heading.invariant
          w.insert.new.self (sym c.contains_key.ensures ∙ w.if-not-contains_key.true) (rw key at sets))
      | else-not-contains_key w ↦
          rw w.by_text-is (answers_present c.loop-heading.by_text hs i h text within c.heading-item.is c.as_str-text.utf8 c.as_str-text.ensures.characters c.loop-heading.invariant
          (sym c.contains_key.ensures ∙ w.if-not-contains_key.false))
    ]

pub returns : goal.returns
returns c =
    let hs = c.args.headings.now in
    let past : length hs ≤ c.loop-heading.heading-index = omega arith in
    subst (λ ks. Answers c.loop-heading.by_text ks) (take_all c.loop-heading.heading-index hs past) c.loop-heading.invariant
