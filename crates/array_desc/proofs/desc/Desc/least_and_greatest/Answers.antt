use Rattle.std.proofs.Common.{◌∙◌, arith, true, false}
use Rattle.array_desc.proofs.Ends.{end_is_index, ends_span}
use Rattle.array_desc.proofs.Walks.{cell_is}
use Rattle.array_desc.proofs.desc.Desc.least_and_greatest.Goals as goal

pub number_at-requires : goal.number_at-requires
number_at-requires c = end_is_index false c.args.self.now _ c.size.ensures.lawful (omega arith) (c.as_slice-2.ensures ∙ c.end.ensures)

pub number_at-requires-2 : goal.number_at-requires-2
number_at-requires-2 c = end_is_index true c.args.self.now _ c.size.ensures.lawful (omega arith) (c.as_slice-4.ensures ∙ c.end-2.ensures)

pub returns-clause-range : goal.returns-clause-range
returns-clause-range c =
    ends_span c.args.self.now _ _ _ _ c.size.ensures.lawful (omega arith)
    (c.as_slice-2.ensures ∙ c.end.ensures)
    (c.as_slice-4.ensures ∙ c.end-2.ensures)
    (cell_is _ _ c.number_at.type_inv c.number_at.ensures.value)
    (cell_is _ _ c.number_at-2.type_inv c.number_at-2.ensures.value)
