use Rattle.stored_leaves.proofs.PlacedLemmas.{renamed_follows, unstored_follows}
use Rattle.stored_leaves.proofs.arguments.placed.Goals as goal

pub returns-in_ok-whole-in-Stored-clause-lawful : goal.returns-in_ok-whole-in-Stored-clause-lawful
returns-in_ok-whole-in-Stored-clause-lawful c = c.selected.ensures.lawful c.stored.new.store c.in_ok-whole-in-Stored.ensures.lawful

pub returns-in_ok-whole-in-Stored-clause-follows : goal.returns-in_ok-whole-in-Stored-clause-follows
returns-in_ok-whole-in-Stored-clause-follows c = renamed_follows _ _ _ _ c.selected.ensures.names c.in_ok-whole-in-Stored.ensures.follows

pub returns-in-Line-clause-lawful : goal.returns-in-Line-clause-lawful
returns-in-Line-clause-lawful c = c.numbers.ensures.lawful c.args.store.now

pub returns-in-Line-clause-follows : goal.returns-in-Line-clause-follows
returns-in-Line-clause-follows c = unstored_follows c.args.store.now c.numbers.result c.numbers.ensures.names

pub returns-in_ok-shape_of-in-Places-clause-lawful : goal.returns-in_ok-shape_of-in-Places-clause-lawful
returns-in_ok-shape_of-in-Places-clause-lawful c = c.numbers-in-Places.ensures.lawful c.args.store.now

pub returns-in_ok-shape_of-in-Places-clause-follows : goal.returns-in_ok-shape_of-in-Places-clause-follows
returns-in_ok-shape_of-in-Places-clause-follows c = unstored_follows c.args.store.now c.numbers-in-Places.result c.numbers-in-Places.ensures.names

pub returns-in_ok-shape_of-in-Same-clause-lawful : goal.returns-in_ok-shape_of-in-Same-clause-lawful
returns-in_ok-shape_of-in-Same-clause-lawful c = c.numbers-in-Same.ensures.lawful c.args.store.now

pub returns-in_ok-shape_of-in-Same-clause-follows : goal.returns-in_ok-shape_of-in-Same-clause-follows
returns-in_ok-shape_of-in-Same-clause-follows c = unstored_follows c.args.store.now c.numbers-in-Same.result c.numbers-in-Same.ensures.names
