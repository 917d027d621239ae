-- Entries over a store.
use Rattle.array_store.specs.Follows.{Holds}
use Rattle.value_stack.specs.Stacks.{named_on, IsLawfulStack}
use Rattle.selecting_tests.specs.declared.desks.Desk.{Desk}

-- the entries are lawful, and each owner has a holder for each of their leaves at least
pub record IsSound (d : Desk) : Type 0 where
  pub lawful : IsLawfulStack d.store d.stack
  pub held : Holds d.store (named_on d.stack)
