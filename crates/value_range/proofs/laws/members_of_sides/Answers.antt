use Rattle.value_range.proofs.Nested.{in_whole, member_number}
use Rattle.value_range.proofs.laws.members_of_sides.Goals as goal

pub returns-clause-of_parts : goal.returns-clause-of_parts
returns-clause-of_parts c = in_whole

pub returns-clause-of_numbers : goal.returns-clause-of_numbers
returns-clause-of_numbers c = λ side e h k m. member_number side e h m
