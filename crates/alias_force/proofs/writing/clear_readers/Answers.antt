use Rattle.std.proofs.Common.{◌≡◌, Bool, true, false}
use Rattle.alias_force.proofs.ReaderLemmas.{nothing_read, stays_safe, stops_safe, no_fault, clears_of, cleared_of, found_of, lacks_of}
use Rattle.alias_force.proofs.writing.clear_readers.Goals as goal
use Rattle.alias_force.proofs.writing.clear_readers.Goals.{else-whole-via-then-whole+else-is_held_once, else-whole-via-else-whole}

pub returns-in_default-clause-clears : goal.returns-in_default-clause-clears
returns-in_default-clause-clears c =
    rw c.in_default.is (nothing_read c.in_default.field-0 c.in_default.field-1 c.args.store.now c.args.stack.now c.counts-counts.ensures.store.counts)

pub begin_fault-requires : goal.begin_fault-requires
begin_fault-requires c = no_fault _ _ _ _ _ c.in-Err.fault c.in-Err.ensures.refused c.requires.safe c.move_where.ensures.lawful

pub returns-in-Err-clause-refused : goal.returns-in-Err-clause-refused
returns-in-Err-clause-refused c =
    rw (c.begin_fault.ensures, c.in-Stored.is) c.in-Err.ensures.refused

pub returns-in-Err-clause-safe : goal.returns-in-Err-clause-safe
returns-in-Err-clause-safe c = stops_safe _ _ _ _ _ c.in-Err.fault c.in-Err.ensures.refused c.requires.safe

pub returns-then-is_held_once-clause-clears : goal.returns-then-is_held_once-clause-clears
returns-then-is_held_once-clause-clears c =
    let e = c.in_default-move_where.ensures in
    clears_of c.args.store.now c.move_where.new.store c.args.stack.now c.move_where.new.stack c.args.leaf.now c.in-Stored.owner c.in-Stored.desc c.in-Stored.kind c.in-Stored.is (record { moved = e.moved; computes = e.computes; came = e.came; idle = e.idle })

pub returns-then-is_held_once-clause-found : goal.returns-then-is_held_once-clause-found
returns-then-is_held_once-clause-found c =
    let e = c.in_default-move_where.ensures in
    let clear = cleared_of c.args.store.now c.move_where.new.store c.args.stack.now c.move_where.new.stack c.args.leaf.now c.in-Stored.owner c.in-Stored.desc c.in-Stored.kind c.in-Stored.is c.requires.held c.move_where.ensures.follows e.moved in
    found_of c.args.store.now c.move_where.new.store c.args.stack.now c.move_where.new.stack c.args.leaf.now c.in-Stored.owner c.in-Stored.desc c.in-Stored.kind c.in-Stored.is clear
    (c.reads_all-whole.ensures.0 c.if-whole.true) (c.is_held_once.ensures.0 c.if-is_held_once.true)

pub returns-then-is_held_once-clause-safe : goal.returns-then-is_held_once-clause-safe
returns-then-is_held_once-clause-safe c = stays_safe _ c.move_where.new.store c.args.stack.now c.move_where.new.stack c.in_default-move_where.ensures.moved c.requires.safe

pub returns-clause-clears : goal.returns-clause-clears
returns-clause-clears c =
    let e = c.in_default-move_where.ensures in
    clears_of c.args.store.now c.move_where.new.store c.args.stack.now c.move_where.new.stack c.args.leaf.now c.in-Stored.owner c.in-Stored.desc c.in-Stored.kind c.in-Stored.is (record { moved = e.moved; computes = e.computes; came = e.came; idle = e.idle })

pub returns-clause-found : goal.returns-clause-found
returns-clause-found c =
    let e = c.in_default-move_where.ensures in
    let clear = cleared_of c.args.store.now c.move_where.new.store c.args.stack.now c.move_where.new.stack c.args.leaf.now c.in-Stored.owner c.in-Stored.desc c.in-Stored.kind c.in-Stored.is c.requires.held c.move_where.ensures.follows e.moved in
    lacks_of c.args.store.now c.move_where.new.store c.args.stack.now c.move_where.new.stack c.args.leaf.now c.in-Stored.owner c.in-Stored.desc c.in-Stored.kind c.in-Stored.is clear
    (elim c.else-whole.branch [
      | else-whole-via-then-whole+else-is_held_once w ↦ λ all once. absurd (not_both w.is_held_once.result (w.is_held_once.ensures.1 once) w.if-is_held_once.false)
      | else-whole-via-else-whole w ↦ λ all once. (let yes_all : c.reads_all-whole.result ≡ true = c.reads_all-whole.ensures.1 all in absurd (not_both c.reads_all-whole.result yes_all w.if-whole.false))
    ])
  where
    not_both : (b : Bool) → b ≡ true → b ≡ false → ⊥
    not_both b t f = absurd (cc)

pub returns-clause-safe : goal.returns-clause-safe
returns-clause-safe c = stays_safe _ c.move_where.new.store c.args.stack.now c.move_where.new.stack c.in_default-move_where.ensures.moved c.requires.safe
