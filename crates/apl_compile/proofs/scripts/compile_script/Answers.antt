use Rattle.std.proofs.Common.{map, length, ap, sym, subst, ◌∙◌}
use Rattle.apl_model.specs.Mirror.{item_of}
use Rattle.apl_compile.specs.Program.{codes_of}
use Rattle.apl_compile.specs.Tables.{codes_for, HasFunctions, HasLines, HasBodies}
use Rattle.apl_compile.proofs.Tabled.{counted_codes, same_program}
use Rattle.apl_compile.proofs.scripts.compile_script.Goals as goal

pub functions_by_name-requires : goal.functions_by_name-requires
functions_by_name-requires c =
    ap codes_for (c.as_slice-2.ensures ∙ c.in_ok-outline_items.ensures)
    ∙ counted_codes (map item_of c.args.script.items)
    ∙ ap length (sym (c.in_ok-codes.ensures ∙ ap (λ is. codes_of (map item_of is)) c.as_slice.ensures))
    ∙ sym c.len.ensures

pub invariant_of-result : goal.invariant_of-result
invariant_of-result c = (
  ap codes_for c.in_ok-outline_items.ensures
      ∙ counted_codes (map item_of c.args.script.items)
      ∙ ap length (sym (c.in_ok-codes.ensures ∙ ap (λ is. codes_of (map item_of is)) c.as_slice.ensures)),
  subst (λ is. HasFunctions c.in_ok-functions.functions 0 0 is) c.as_slice-2.ensures c.in_ok-functions.ensures,
  subst (λ ls. HasLines c.in_ok-lines.lines 0 ls) c.as_slice-3.ensures c.in_ok-lines.ensures,
  subst (λ is. HasBodies c.in_ok-bodies.bodies 0 is) c.as_slice-4.ensures c.in_ok-bodies.ensures,
)

pub returns : goal.returns
returns c =
    same_program _ _ _ _ _ _ c.in_ok-outline_lines.ensures c.in_ok-outline_items.ensures
    (c.in_ok-codes.ensures ∙ ap (λ is. codes_of (map item_of is)) c.as_slice.ensures)
