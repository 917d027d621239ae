use Rattle.apl_model.proofs.DepthRow as depthrow
use Rattle.apl_model.proofs.GrammarRows as grammarrows
use Rattle.apl_model.proofs.examples.refusals_of_lines.Goals as goal

pub returns-clause-depth : goal.returns-clause-depth
returns-clause-depth c = depthrow.deep_row

pub returns-clause-open_parenthesis : goal.returns-clause-open_parenthesis
returns-clause-open_parenthesis c = grammarrows.open_parenthesis

pub returns-clause-missing_argument : goal.returns-clause-missing_argument
returns-clause-missing_argument c = grammarrows.missing_argument

pub returns-clause-lone_bracket : goal.returns-clause-lone_bracket
returns-clause-lone_bracket c = grammarrows.lone_bracket

pub returns-clause-two_axes : goal.returns-clause-two_axes
returns-clause-two_axes c = grammarrows.two_axes

pub returns-clause-erase_alone : goal.returns-clause-erase_alone
returns-clause-erase_alone c = grammarrows.erase_alone

pub returns-clause-origin_two : goal.returns-clause-origin_two
returns-clause-origin_two c = grammarrows.origin_two

pub returns-clause-origin_alone : goal.returns-clause-origin_alone
returns-clause-origin_alone c = grammarrows.origin_alone
