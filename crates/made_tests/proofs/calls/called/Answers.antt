use Rattle.made_tests.proofs.CallLemmas.{made_lawful}
use Rattle.made_tests.proofs.calls.called.Goals as goal

pub returns-in-ShapeOf : goal.returns-in-ShapeOf
returns-in-ShapeOf c = made_lawful _ _ _ _ _ c.shape_of.ensures.made

pub returns-in-Ravel : goal.returns-in-Ravel
returns-in-Ravel c = made_lawful _ _ _ _ _ c.ravel.ensures.made

pub returns-in-GradeUp : goal.returns-in-GradeUp
returns-in-GradeUp c = made_lawful _ _ _ _ _ c.grade.ensures.made

pub returns-in-GradeDown : goal.returns-in-GradeDown
returns-in-GradeDown c = made_lawful _ _ _ _ _ c.grade-in-GradeDown.ensures.made

pub returns-in-Reshape : goal.returns-in-Reshape
returns-in-Reshape c = made_lawful _ _ _ _ _ c.reshape.ensures.made

pub returns-in-Catenate : goal.returns-in-Catenate
returns-in-Catenate c = made_lawful _ _ _ _ _ c.catenate.ensures.made

pub returns-in-Overtake : goal.returns-in-Overtake
returns-in-Overtake c = made_lawful _ _ _ _ _ c.overtake.ensures.made

pub returns-in-IndexOf : goal.returns-in-IndexOf
returns-in-IndexOf c = made_lawful _ _ _ _ _ c.index_of.ensures.made

pub returns-in-Member : goal.returns-in-Member
returns-in-Member c = made_lawful _ _ _ _ _ c.member.ensures.made

pub returns-in-Encode : goal.returns-in-Encode
returns-in-Encode c = made_lawful _ _ _ _ _ c.encode.ensures.made

pub returns-in-Decode : goal.returns-in-Decode
returns-in-Decode c = made_lawful _ _ _ _ _ c.decode.ensures.made

pub returns-in-Rotate : goal.returns-in-Rotate
returns-in-Rotate c = made_lawful _ _ _ _ _ c.rotate.ensures.made

pub returns-in-Compress : goal.returns-in-Compress
returns-in-Compress c = made_lawful _ _ _ _ _ c.compress.ensures.made

pub returns-in-Expand : goal.returns-in-Expand
returns-in-Expand c = made_lawful _ _ _ _ _ c.expand.ensures.made
