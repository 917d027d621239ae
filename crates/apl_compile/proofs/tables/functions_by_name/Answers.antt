use Rattle.std.proofs.Common.{◌-◌, ◌≡◌, sym, string_bytes, ◌∙◌, arith}
use Rattle.std.proofs.lemmas.Map.Text.{hash_map_updates_text}
use Rattle.std.proofs.lemmas.List.{get_or_default}
use Rattle.std.proofs.lemmas.Result.{IfOk-at_ok}
use Rattle.apl_compile.proofs.Tabled.{codes_left, codes_told, another_passed, function_put}
use Rattle.apl_compile.proofs.tables.functions_by_name.Goals as goal

pub overflow_sub-code : goal.overflow_sub-code
overflow_sub-code c =
    codes_left c.loop-item.table c.args.items.now c.loop-item.item (c.loop-item.item - 1) c.loop-item.code c.codes_at.result c.index-items-item.result (omega arith) (omega arith) c.index-items-item.is c.codes_at.ensures c.loop-item.invariant.0

pub loop-item-preserved-in_ok-insert : goal.loop-item-preserved-in_ok-insert
loop-item-preserved-in_ok-insert c =
    let items = c.args.items.now in
    let k = c.loop-item.item - 1 in
    let x = c.index-items-item.result in
    let text = c.as_str.result.now in
    let key = IfOk-at_ok (λ s. string_bytes s ≡ text) c.in_ok-from_str.was c.from_str.ensures.ok in
    let sets = hash_map_updates_text (string_bytes c.in_ok-from_str.field-0) c.loop-item.table c.insert.new.self _ c.in_ok-insert.ensures.updates in (
      codes_told c.loop-item.table items c.loop-item.item k c.loop-item.code c.codes_at.result x (omega arith) (omega arith) c.index-items-item.is c.codes_at.ensures c.loop-item.invariant.0,
      function_put c.loop-item.table items c.loop-item.item k c.loop-item.code c.codes_at.result x (omega arith) (omega arith) c.index-items-item.is c.codes_at.ensures c.loop-item.invariant.0 c.loop-item.invariant.1
          c.insert.new.self c.in-Definition.opened c.in-Definition.closed c.in-Definition.header c.in-Definition.body text
          (c.index-items-item.is ∙ get_or_default items k x c.index-items-item-in-loop-item.result (omega arith) ∙ sym c.index-items-item-in-loop-item.is ∙ c.in-Definition.is) c.as_str.utf8 c.as_str.ensures.characters (rw key at sets),
    )

pub loop-item-preserved : goal.loop-item-preserved
loop-item-preserved c =
    let items = c.args.items.now in
    let k = c.loop-item.item - 1 in
    let x = c.index-items-item.result in (
      codes_told c.loop-item.table items c.loop-item.item k c.loop-item.code c.codes_at.result x (omega arith) (omega arith) c.index-items-item.is c.codes_at.ensures c.loop-item.invariant.0,
      another_passed c.loop-item.table items c.loop-item.item k c.loop-item.code c.codes_at.result x (omega arith) (omega arith) c.index-items-item.is c.codes_at.ensures c.loop-item.invariant.0 c.loop-item.invariant.1
          (λ opened closed header body d. c.in_default.not-Definition opened closed header body (c.index-items-item-in-loop-item.is ∙ get_or_default items k c.index-items-item-in-loop-item.result x (omega arith) ∙ sym c.index-items-item.is ∙ d)),
    )
