-- Names and pending expressions over one store.
use Rattle.array_store.specs.Follows.{LeafCounts, none}
use Rattle.alias_force.specs.Desk.{IsLawfulDesk}
use Rattle.writing_tests.specs.declared.desks.Desk.{Desk}

-- lawful, with these leaves in hand
abbrev pub IsSoundBeside : Desk → LeafCounts → Type 0
IsSoundBeside d hand = IsLawfulDesk d.store d.variables.names d.stack hand

-- only leaves of names and entries hold the owners
abbrev pub IsSound : Desk → Type 0
IsSound d = IsSoundBeside d none
