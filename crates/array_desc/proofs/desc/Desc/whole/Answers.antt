use Rattle.std.proofs.Common.{map, ◌∙◌, ap}
use Rattle.std.specs.Int.{int_wrap}
use mir.Syntax.{w128}
use Rattle.array_desc.specs.Steps.{row_strides}
use Rattle.array_desc.proofs.Places.{row_sound, row_places}
use Rattle.array_desc.proofs.desc.Desc.whole.Goals as goal

pub settled-requires : goal.settled-requires
settled-requires c =
    row_sound c.args.shape.now _ _ c.lengths.ensures.lawful
    (c.row_strides_of.ensures.items ∙ ap (λ ns. map (int_wrap w128) (row_strides ns)) c.lengths.ensures.value)
    (c.held_inline.ensures.items ∙ c.lengths-2.ensures.value)

pub returns-clause-places : goal.returns-clause-places
returns-clause-places c =
    row_places c.args.shape.now _ _ c.lengths.ensures.lawful
    (c.row_strides_of.ensures.items ∙ ap (λ ns. map (int_wrap w128) (row_strides ns)) c.lengths.ensures.value)
    (c.held_inline.ensures.items ∙ c.lengths-2.ensures.value)
    c.settled.result
    c.settled.ensures.numbers
