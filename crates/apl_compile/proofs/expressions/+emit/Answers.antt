use Rattle.std.proofs.Common.{◌≡◌, ◌++◌, ap, inl, inr}
use Rattle.apl_model.proofs.Bridge.{positions_with}
use Rattle.apl_model.specs.Mirror.{tree_of}
use Rattle.apl_compile.specs.Code.{parts_code, expression_code, positions_code}
use Rattle.apl_compile.proofs.Emitting.{behind, two_behind, parts-two, parts-outer, parts-inner, parts-index, parts-index_assign}
use Rattle.apl_compile.proofs.expressions.+emit.Goals as goal

pub emit_parts-returns-in_ok-emit-in-Two : goal.emit_parts-returns-in_ok-emit-in-Two
emit_parts-returns-in_ok-emit-in-Two t c =
    let e = c.args.e.now in
    let left = c.in-Two.left in
    let right = c.in-Two.right in
    let parts : parts_code (tree_of e) ≡ expression_code (tree_of right) ++ expression_code (tree_of left) = elim c.in-Two.is [
      | inl (f, p, is) ↦ parts-two e left right f p is
      | inr (inl (f, p, is)) ↦ parts-outer e left right f p is
      | inr (inr (f, g, p, is)) ↦ parts-inner e left right f g p is
    ] in
    behind _ c.args.code.now (parts_code (tree_of e)) c.emit-in-Two.new.code (expression_code (tree_of c.get-in-Two-2.result.now)) c.emit-in-Two-2.new.code c.emit-in-Two-2.ensures
    (two_behind c.args.code.now c.emit-in-Two.new.code (expression_code (tree_of c.get-in-Two.result.now)) (expression_code (tree_of right))
    (expression_code (tree_of c.get-in-Two-2.result.now)) (expression_code (tree_of left)) (parts_code (tree_of e))
    c.in_ok-emit-in-Two.ensures (ap (λ x. expression_code (tree_of x)) c.get-in-Two.ensures) (ap (λ x. expression_code (tree_of x)) c.get-in-Two-2.ensures) parts)

pub emit_parts-returns-in_ok-emit_positions-in-Index : goal.emit_parts-returns-in_ok-emit_positions-in-Index
emit_parts-returns-in_ok-emit_positions-in-Index t c =
    let e = c.args.e.now in
    behind _ c.args.code.now (parts_code (tree_of e)) c.emit_positions.new.code (expression_code (tree_of c.get.result.now)) c.emit.new.code c.emit.ensures
    (two_behind c.args.code.now c.emit_positions.new.code (positions_code (positions_with c.as_slice.result.now)) (positions_code (positions_with c.in-Index.read))
    (expression_code (tree_of c.get.result.now)) (expression_code (tree_of c.in-Index.array)) (parts_code (tree_of e))
    c.in_ok-emit_positions-in-Index.ensures (ap (λ x. positions_code (positions_with x)) c.as_slice.ensures) (ap (λ x. expression_code (tree_of x)) c.get.ensures)
    (parts-index e c.in-Index.array c.in-Index.read c.in-Index.place c.in-Index.is))

pub emit_parts-returns-in_ok-emit-in-IndexAssign : goal.emit_parts-returns-in_ok-emit-in-IndexAssign
emit_parts-returns-in_ok-emit-in-IndexAssign t c =
    let e = c.args.e.now in
    behind _ c.args.code.now (parts_code (tree_of e)) c.emit-in-IndexAssign.new.code (positions_code (positions_with c.as_slice-in-IndexAssign.result.now))
    c.emit_positions-in-IndexAssign.new.code c.emit_positions-in-IndexAssign.ensures
    (two_behind c.args.code.now c.emit-in-IndexAssign.new.code (expression_code (tree_of c.get-in-IndexAssign.result.now)) (expression_code (tree_of c.in-IndexAssign.value))
    (positions_code (positions_with c.as_slice-in-IndexAssign.result.now)) (positions_code (positions_with c.in-IndexAssign.written)) (parts_code (tree_of e))
    c.in_ok-emit-in-IndexAssign.ensures (ap (λ x. expression_code (tree_of x)) c.get-in-IndexAssign.ensures)
    (ap (λ x. positions_code (positions_with x)) c.as_slice-in-IndexAssign.ensures)
    (parts-index_assign e c.in-IndexAssign.value c.in-IndexAssign.name c.in-IndexAssign.written c.in-IndexAssign.place c.in-IndexAssign.is))
