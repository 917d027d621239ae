use Rattle.std.proofs.Common.{◌≡◌, ◌∙◌, ◌-◌, length, sym, subst, refl, arith}
use Rattle.indexing_steps.specs.Falls.{Drops}
use Rattle.indexing_steps.specs.Operands.{positions_in}
use Rattle.indexing_steps.proofs.OperandLemmas.{computed_stays}
use Rattle.machine_state.proofs.KeepsLemmas.{keeps}
use Rattle.replacing_steps.proofs.FreeLemmas.{set_to_write, entries_held}
use Rattle.replacing_steps.proofs.MachineLemmas.{to_write_kept, assembled}
use Rattle.replacing_steps.proofs.replacing.write_and_drop.Goals as goal

pub free_to_write-requires-clause-bound : goal.free_to_write-requires-clause-bound
free_to_write-requires-clause-bound c = set_to_write c.args.machine.now c.args.name.now c.args.mask.now c.args.selected.now c.requires.to_write

pub write_in_place-requires-clause-computed : goal.write_in_place-requires-clause-computed
write_in_place-requires-clause-computed c k s low high g =
    let long = c.free_to_write.ensures.length in
    computed_stays c.args.machine.now.stack c.free_to_write.new.machine.stack (length c.args.machine.now.stack - 1 - positions_in c.args.mask.now) (length c.args.machine.now.stack) c.requires.computed c.in_ok-owner.ensures.fewer long k s
    (omega (arith, low, long)) (omega (arith, high, long)) g

pub write_in_place-requires-clause-lawful : goal.write_in_place-requires-clause-lawful
write_in_place-requires-clause-lawful c = (c.requires.lawful.0, c.free_to_write.ensures.keeps.lawful c.requires.lawful.0 c.requires.lawful.1)

pub write_in_place-requires-clause-to_write : goal.write_in_place-requires-clause-to_write
write_in_place-requires-clause-to_write c =
    to_write_kept c.args.machine.now c.free_to_write.new.machine c.args.name.now c.args.mask.now c.args.selected.now (c.free_to_write.ensures.keeps.variables c.requires.lawful.0 c.requires.lawful.1) c.free_to_write.ensures.pending c.requires.to_write

pub drop_many-requires-clause-lawful : goal.drop_many-requires-clause-lawful
drop_many-requires-clause-lawful c =
    let freed = c.free_to_write.ensures.keeps.lawful c.requires.lawful.0 c.requires.lawful.1 in
    (c.in_ok-write_in_place.ensures.writes.lawful c.requires.lawful.0 freed).desk.entries

pub drop_many-requires-clause-held : goal.drop_many-requires-clause-held
drop_many-requires-clause-held c =
    let freed = c.free_to_write.ensures.keeps.lawful c.requires.lawful.0 c.requires.lawful.1 in
    entries_held c.write_in_place.new.machine c.requires.lawful.0 (c.in_ok-write_in_place.ensures.writes.lawful c.requires.lawful.0 freed)

pub returns-clause-replaces : goal.returns-clause-replaces
returns-clause-replaces c =
    let dropped = c.drop_many.ensures.dropped in
    assembled c.args.machine.now c.free_to_write.new.machine c.write_in_place.new.machine _ c.args.name.now c.args.mask.now c.free_to_write.ensures.keeps c.free_to_write.ensures.pending c.in_ok-write_in_place.ensures.writes
    (keeps c.write_in_place.new.machine _ refl refl dropped.moves) (subst (λ n. Drops c.write_in_place.new.machine.store c.drop_many.new.store c.write_in_place.new.machine.stack c.drop_many.new.stack n) c.count_there.ensures dropped) c.requires.lawful.0 c.requires.lawful.1
