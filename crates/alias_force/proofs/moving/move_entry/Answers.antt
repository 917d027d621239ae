use Rattle.std.proofs.Common.{refl, arith}
use Rattle.std.proofs.lemmas.Result.{err_from_is_err_and}
use Rattle.drag_along.specs.Segments.{SegmentView}
use Rattle.value_stack.proofs.EntriesLemmas.{entry_is_lawful}
use Rattle.alias_force.proofs.EntryLemmas.{refuses_entry, refuses_put, moves_entry}
use Rattle.alias_force.proofs.PassLemmas.{held_at, entry_moved, entry_refused}
use Rattle.alias_force.proofs.moving.move_entry.Goals as goal

pub computed-requires-clause-lawful : goal.computed-requires-clause-lawful
computed-requires-clause-lawful c = entry_is_lawful c.args.store.now c.args.stack.now c.args.at c.entry.result.now c.requires.lawful c.entry.ensures

pub put_leaf-requires-clause-held : goal.put_leaf-requires-clause-held
put_leaf-requires-clause-held c =
    λ g there key. omega (arith, held_at c.args.store.now c.args.stack.now c.args.at g c.requires.held there key, c.in_ok-leaf.ensures.follows.holders key)

pub returns-in_err-leaf-clause-refused : goal.returns-in_err-leaf-clause-refused
returns-in_err-leaf-clause-refused c =
    let g : SegmentView = c.entry.result.now in
    let p = err_from_is_err_and c.from_residual.result c.from_residual.ensures.1 in
    let lawful = entry_is_lawful c.args.store.now c.args.stack.now c.args.at g c.requires.lawful c.entry.ensures in
    let held = held_at c.args.store.now c.args.stack.now c.args.at g c.requires.held c.entry.ensures in
    rw (p.1, p.2) (refuses_entry c.args.store.now c.computed.new.store c.args.stack.now c.args.at g c.in_err-leaf.field-0.0 c.entry.ensures lawful held c.in_err-leaf.ensures.follows c.in_err-leaf.ensures.refused)

pub returns-in_err-leaf-clause-means : goal.returns-in_err-leaf-clause-means
returns-in_err-leaf-clause-means c =
    (entry_refused c.args.store.now c.computed.new.store c.args.stack.now c.args.stack.now refl c.in_err-leaf.ensures.follows c.requires.lawful c.requires.held).means

pub returns-in_err-leaf-clause-lawful : goal.returns-in_err-leaf-clause-lawful
returns-in_err-leaf-clause-lawful c =
    (entry_refused c.args.store.now c.computed.new.store c.args.stack.now c.args.stack.now refl c.in_err-leaf.ensures.follows c.requires.lawful c.requires.held).lawful

pub returns-in_default : goal.returns-in_default
returns-in_default c =
    let refused = refuses_put c.args.store.now c.computed.new.store c.put_leaf.new.store c.args.stack.now c.args.at c.entry.result.now c.in_ok-leaf.leaf c.entry.ensures c.computed.ensures.segment c.counts-counts.ensures.store.counts
    c.computed.ensures.store c.in_ok-leaf.ensures.computed c.in_ok-leaf.ensures.follows c.in_default.ensures.gone c.put_leaf.ensures.counts in
    let still = entry_refused c.args.store.now c.put_leaf.new.store c.args.stack.now c.put_leaf.new.stack c.in_default.ensures.kept refused.follows c.requires.lawful c.requires.held in
    record {
      moved = tt;
      kept = c.in_default.ensures.kept;
      refused = refused;
      means = still.means;
      lawful = still.lawful;
      follows = still.follows;
      store = c.put_leaf.ensures.store;
    }

pub returns : goal.returns
returns c =
    let moved = moves_entry c.args.store.now c.computed.new.store c.put_leaf.new.store c.args.stack.now c.put_leaf.new.stack c.args.at c.entry.result.now c.in_ok-leaf.leaf c.entry.ensures c.computed.ensures.segment
    (held_at c.args.store.now c.args.stack.now c.args.at c.entry.result.now c.requires.held c.entry.ensures) c.in_ok-leaf.ensures.computed c.in_ok-leaf.ensures.follows c.in-Ok.ensures.put c.put_leaf.ensures.counts in
    let still = entry_moved c.args.store.now c.put_leaf.new.store c.args.stack.now c.put_leaf.new.stack c.args.at moved c.requires.lawful c.requires.held in
    record {
      moved = moved;
      kept = tt;
      refused = tt;
      means = still.means;
      lawful = still.lawful;
      follows = still.follows;
      store = c.put_leaf.ensures.store;
    }
