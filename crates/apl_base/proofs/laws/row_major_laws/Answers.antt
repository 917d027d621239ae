use Rattle.apl_base.proofs.Sizes.{size_of-append, IsIndex-length, IsIndex-index_at, place_at-below, place_at-index_at, index_at-place_at}
use Rattle.apl_base.proofs.laws.row_major_laws.Goals as goal

pub returns-clause-index : goal.returns-clause-index
returns-clause-index c = IsIndex-index_at

pub returns-clause-place : goal.returns-clause-place
returns-clause-place c = place_at-below

pub returns-clause-back_to_the_place : goal.returns-clause-back_to_the_place
returns-clause-back_to_the_place c = place_at-index_at

pub returns-clause-back_to_the_index : goal.returns-clause-back_to_the_index
returns-clause-back_to_the_index c = index_at-place_at

pub returns-clause-a_number_for_each_axis : goal.returns-clause-a_number_for_each_axis
returns-clause-a_number_for_each_axis c = IsIndex-length

pub returns-clause-joined_size : goal.returns-clause-joined_size
returns-clause-joined_size c = size_of-append
