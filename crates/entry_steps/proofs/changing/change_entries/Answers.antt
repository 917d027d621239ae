use Rattle.std.proofs.Common.{◌≡◌, Bool, List, sym, ap, ◌∙◌}
use Rattle.apl_compile.specs.declared.codes.Instruction.{Instruction}
use Rattle.apl_compile.specs.declared.codes.Op.TheVariants as op
use Rattle.entry_steps.proofs.ChangeLemmas.{at_op_changed, enough_at, if_err_so, literal_changes, name_changes, name_halted, on_ok_so}
use Rattle.entry_steps.proofs.CountLemmas.{counts_dyadic, counts_index, counts_inner, counts_monadic, counts_outer, counts_reduction}
use Rattle.entry_steps.proofs.EntryLemmas.{not_computed}
use Rattle.entry_steps.proofs.changing.change_entries.Goals as goal

pub returns-in-Lit-clause-changes : goal.returns-in-Lit-clause-changes
returns-in-Lit-clause-changes c =
    on_ok_so c.literal.result _ _ (literal_changes c.args.instruction.now c.in-Lit.literal c.args.machine.now c.literal.new.self c.in-Lit.is) c.literal.ensures.step

pub returns-in-Lit-clause-halted : goal.returns-in-Lit-clause-halted
returns-in-Lit-clause-halted c = if_err_so c.literal.result _ _ (not_computed c.args.instruction.now c.args.machine.now) c.literal.ensures.halted

pub returns-in-Name-clause-changes : goal.returns-in-Name-clause-changes
returns-in-Name-clause-changes c =
    on_ok_so c.name.result _ _ (name_changes c.args.instruction.now c.in-Name.name c.args.machine.now c.name.new.self c.in-Name.is) c.name.ensures.step

pub returns-in-Name-clause-halted : goal.returns-in-Name-clause-halted
returns-in-Name-clause-halted c =
    if_err_so c.name.result _ _ (λ h. name_halted c.args.instruction.now c.in-Name.name c.args.machine.now h c.in-Name.is) c.name.ensures.halted

pub monadic-requires-clause-operand : goal.monadic-requires-clause-operand
monadic-requires-clause-operand c = enough_at c.args.instruction.now (op.Mon c.in-Mon.f) c.args.machine.now 1 1 c.in-Mon.is (counts_monadic c.in-Mon.f) c.requires.ready

pub returns-in-Mon : goal.returns-in-Mon
returns-in-Mon c =
    let r = at_op_changed c.args.instruction.now (op.Mon c.in-Mon.f) c.args.machine.now c.monadic.new.machine c.monadic.result c.in-Mon.is c.monadic.ensures in
    record { changes = r.changes; keeps = r.keeps; halted = r.halted; run = r.run }

pub dyadic-requires-clause-operands : goal.dyadic-requires-clause-operands
dyadic-requires-clause-operands c = enough_at c.args.instruction.now (op.Dya c.in-Dya.f) c.args.machine.now 2 1 c.in-Dya.is (counts_dyadic c.in-Dya.f) c.requires.ready

pub returns-in-Dya : goal.returns-in-Dya
returns-in-Dya c =
    let r = at_op_changed c.args.instruction.now (op.Dya c.in-Dya.f) c.args.machine.now c.dyadic.new.machine c.dyadic.result c.in-Dya.is c.dyadic.ensures in
    record { changes = r.changes; keeps = r.keeps; halted = r.halted; run = r.run }

pub reduce-requires-clause-operand : goal.reduce-requires-clause-operand
reduce-requires-clause-operand c =
    enough_at c.args.instruction.now (op.Red c.in-Red.f c.in-Red.axis) c.args.machine.now 1 1 c.in-Red.is (counts_reduction c.in-Red.f c.in-Red.axis) c.requires.ready

pub returns-in-Red : goal.returns-in-Red
returns-in-Red c =
    let r = at_op_changed c.args.instruction.now (op.Red c.in-Red.f c.in-Red.axis) c.args.machine.now c.reduce.new.machine c.reduce.result c.in-Red.is c.reduce.ensures in
    record { changes = r.changes; keeps = r.keeps; halted = r.halted; run = r.run }

pub multiply_all-requires-clause-operands : goal.multiply_all-requires-clause-operands
multiply_all-requires-clause-operands c = enough_at c.args.instruction.now (op.Outer c.in-Outer.f) c.args.machine.now 2 1 c.in-Outer.is (counts_outer c.in-Outer.f) c.requires.ready

pub returns-in-Outer : goal.returns-in-Outer
returns-in-Outer c =
    let r = at_op_changed c.args.instruction.now (op.Outer c.in-Outer.f) c.args.machine.now c.multiply_all.new.machine c.multiply_all.result c.in-Outer.is c.multiply_all.ensures in
    record { changes = r.changes; keeps = r.keeps; halted = r.halted; run = r.run }

pub multiply-requires-clause-operands : goal.multiply-requires-clause-operands
multiply-requires-clause-operands c =
    enough_at c.args.instruction.now (op.Inner c.in-Inner.f c.in-Inner.g) c.args.machine.now 2 1 c.in-Inner.is (counts_inner c.in-Inner.f c.in-Inner.g) c.requires.ready

pub returns-in-Inner : goal.returns-in-Inner
returns-in-Inner c =
    let r = at_op_changed c.args.instruction.now (op.Inner c.in-Inner.f c.in-Inner.g) c.args.machine.now c.multiply.new.machine c.multiply.result c.in-Inner.is c.multiply.ensures in
    record { changes = r.changes; keeps = r.keeps; halted = r.halted; run = r.run }

-- the mask as a slice is the mask
index_is : (i : Instruction) (mask slice : List Bool) → i.op ≡ op.Index mask → slice ≡ mask → i.op ≡ op.Index slice
index_is i mask slice is same = is ∙ ap (λ (m : List Bool). op.Index m) (sym same)

pub index-requires-clause-operands : goal.index-requires-clause-operands
index-requires-clause-operands c =
    let is = index_is c.args.instruction.now c.in-Index.mask c.as_slice.result.now c.in-Index.is c.as_slice.ensures in
    enough_at c.args.instruction.now (op.Index c.as_slice.result.now) c.args.machine.now _ 1 is (counts_index c.as_slice.result.now) c.requires.ready

pub returns-in-Index : goal.returns-in-Index
returns-in-Index c =
    let is = index_is c.args.instruction.now c.in-Index.mask c.as_slice.result.now c.in-Index.is c.as_slice.ensures in
    let r = at_op_changed c.args.instruction.now (op.Index c.as_slice.result.now) c.args.machine.now c.index.new.machine c.index.result is c.index.ensures in
    record { changes = r.changes; keeps = r.keeps; halted = r.halted; run = r.run }
