use Rattle.std.proofs.Common.{to_z, of_z, [], ◌∷◌, ◌∙◌}
use Rattle.std.proofs.lemmas.Int.{to_z-of_z}
use mir.Val.{SFits}
use mir.Syntax.{w128}
use Rattle.apl_base.proofs.Integers.{magnitude-below}
use Rattle.beating.proofs.RunLemmas.{vector_index, place_lies, place_cast}
use Rattle.beating.proofs.runs.cell_at.Goals as goal

pub number_at-requires : goal.number_at-requires
number_at-requires c = vector_index c.args.desc.now.shape c.args.j c.requires.vector c.requires.place

pub overflow_cast-number_at : goal.overflow_cast-number_at
overflow_cast-number_at c =
    let s : SFits w128 c.number_at.result = record { sfits = c.number_at.type_inv } in
    let lies = place_lies c.args.store.now c.args.owner c.args.desc.now (c.args.j ∷ []) (to_z w128 (of_z w128 c.number_at.result)) c.requires.lies
    (vector_index c.args.desc.now.shape c.args.j c.requires.vector c.requires.place)
    (to_z-of_z w128 c.number_at.result s ∙ c.number_at.ensures.value) in
    place_cast _ _ lies.0 lies.1 c.requires.few

pub fetch-requires : goal.fetch-requires
fetch-requires c =
    let s : SFits w128 c.number_at.result = record { sfits = c.number_at.type_inv } in
    let lies = place_lies c.args.store.now c.args.owner c.args.desc.now (c.args.j ∷ []) (to_z w128 (of_z w128 c.number_at.result)) c.requires.lies
    (vector_index c.args.desc.now.shape c.args.j c.requires.vector c.requires.place)
    (to_z-of_z w128 c.number_at.result s ∙ c.number_at.ensures.value) in
    magnitude-below _ _ lies.0 lies.1
