use Rattle.apl_model.proofs.ReadingRows as readingrows
use Rattle.apl_model.proofs.examples.refusals_of_bytes_and_characters.Goals as goal

pub returns-clause-length : goal.returns-clause-length
returns-clause-length c = readingrows.of_length

pub returns-clause-bytes : goal.returns-clause-bytes
returns-clause-bytes c = readingrows.of_bytes

pub returns-clause-long_line : goal.returns-clause-long_line
returns-clause-long_line c = readingrows.long

pub returns-clause-character : goal.returns-clause-character
returns-clause-character c = readingrows.character

pub returns-clause-point : goal.returns-clause-point
returns-clause-point c = readingrows.point

pub returns-clause-open_text : goal.returns-clause-open_text
returns-clause-open_text c = readingrows.open_text

pub returns-clause-by_phase : goal.returns-clause-by_phase
returns-clause-by_phase c = readingrows.by_phase
