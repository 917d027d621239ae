use Rattle.std.proofs.Common.{ℤ, pos, ◌≤◌, length, sym, subst, ◌∙◌}
use Rattle.std.proofs.lemmas.Int.{to_z-of_z}
use mir.Syntax.{w128}
use Rattle.array_desc.specs.Desc.{DescView}
use Rattle.drag_along.specs.Nodes.{leaf_shape}
use Rattle.apl_model.specs.declared.functions.DyaFn.{DyaFn}
use Rattle.apl_model.specs.Evaluation.{dyadic_value}
use Rattle.apl_model.specs.Made as language
use Rattle.apl_model.specs.Whole.{Answer}
use Rattle.leaf_names.specs.Variables.{array_of}
use Rattle.leaf_steps.specs.Making.{IsMade}
use Rattle.leaf_steps.proofs.AxisLemmas.{IsSameAxis, rotated_along, compressed_along, expanded_along}
use Rattle.leaf_steps.proofs.MakingLemmas.{made_by}
use Rattle.leaf_steps.proofs.twos.value_of_two.Goals as goal

pub returns-in-Reshape : goal.returns-in-Reshape
returns-in-Reshape c =
    let a = array_of c.args.store.now c.args.a.now in
    let b = array_of c.args.store.now c.args.b.now in
    subst (λ (f : DyaFn). IsMade c.args.store.now c.reshape.new.store (dyadic_value c.args.origin f a b) c.reshape.result) (sym c.in-Reshape.is)
    (made_by c.args.store.now c.reshape.new.store _ (language.reshape a b) c.reshape.result c.reshape.ensures.made)

pub returns-in-Catenate : goal.returns-in-Catenate
returns-in-Catenate c =
    let a = array_of c.args.store.now c.args.a.now in
    let b = array_of c.args.store.now c.args.b.now in
    subst (λ (f : DyaFn). IsMade c.args.store.now c.catenate.new.store (dyadic_value c.args.origin f a b) c.catenate.result) (sym c.in-Catenate.is)
    (made_by c.args.store.now c.catenate.new.store _ (language.catenate a b) c.catenate.result c.catenate.ensures.made)

pub returns-in-Member : goal.returns-in-Member
returns-in-Member c =
    let a = array_of c.args.store.now c.args.a.now in
    let b = array_of c.args.store.now c.args.b.now in
    subst (λ (f : DyaFn). IsMade c.args.store.now c.member.new.store (dyadic_value c.args.origin f a b) c.member.result) (sym c.in-Member.is)
    (made_by c.args.store.now c.member.new.store _ (language.member a b) c.member.result c.member.ensures.made)

pub returns-in-Encode : goal.returns-in-Encode
returns-in-Encode c =
    let a = array_of c.args.store.now c.args.a.now in
    let b = array_of c.args.store.now c.args.b.now in
    subst (λ (f : DyaFn). IsMade c.args.store.now c.encode.new.store (dyadic_value c.args.origin f a b) c.encode.result) (sym c.in-Encode.is)
    (made_by c.args.store.now c.encode.new.store _ (language.encode a b) c.encode.result c.encode.ensures.made)

pub returns-in-Decode : goal.returns-in-Decode
returns-in-Decode c =
    let a = array_of c.args.store.now c.args.a.now in
    let b = array_of c.args.store.now c.args.b.now in
    subst (λ (f : DyaFn). IsMade c.args.store.now c.decode.new.store (dyadic_value c.args.origin f a b) c.decode.result) (sym c.in-Decode.is)
    (made_by c.args.store.now c.decode.new.store _ (language.decode a b) c.decode.result c.decode.ensures.made)

pub returns-in-IndexOf : goal.returns-in-IndexOf
returns-in-IndexOf c =
    let a = array_of c.args.store.now c.args.a.now in
    let b = array_of c.args.store.now c.args.b.now in
    subst (λ (f : DyaFn). IsMade c.args.store.now c.index_of.new.store (dyadic_value c.args.origin f a b) c.index_of.result) (sym c.in-IndexOf.is)
    (subst (λ (z : ℤ). IsMade c.args.store.now c.index_of.new.store (language.index_of z a b) c.index_of.result) (to_z-of_z w128 c.args.origin c.ranges.origin)
    (made_by c.args.store.now c.index_of.new.store _ _ c.index_of.result c.index_of.ensures.made))

pub returns-in-Rotate : goal.returns-in-Rotate
returns-in-Rotate c =
    let a = array_of c.args.store.now c.args.a.now in
    let b = array_of c.args.store.now c.args.b.now in
    let few : length (leaf_shape c.args.b.now) ≤ 8 = subst (λ (d : DescView). length d.shape ≤ 8) (c.behind-b.view_is ∙ c.desc.ensures) c.rank-rank.ensures.lawful.rank in
    let same = subst (λ (z : ℤ). IsSameAxis z c.in-Rotate.axis c.counted_from_one.result) (to_z-of_z w128 c.args.origin c.ranges.origin) c.counted_from_one.ensures in
    subst (λ (f : DyaFn). IsMade c.args.store.now c.rotate.new.store (dyadic_value c.args.origin f a b) c.rotate.result) (sym c.in-Rotate.is)
    (subst (λ (answer : Answer). IsMade c.args.store.now c.rotate.new.store answer c.rotate.result) (rotated_along c.args.origin c.in-Rotate.axis c.counted_from_one.result a b same few)
    (made_by c.args.store.now c.rotate.new.store _ (language.rotated (pos 1) c.counted_from_one.result a b) c.rotate.result c.rotate.ensures.made))

pub returns-in-Compress : goal.returns-in-Compress
returns-in-Compress c =
    let a = array_of c.args.store.now c.args.a.now in
    let b = array_of c.args.store.now c.args.b.now in
    let few : length (leaf_shape c.args.b.now) ≤ 8 = subst (λ (d : DescView). length d.shape ≤ 8) (c.behind-b.view_is ∙ c.desc.ensures) c.rank-rank.ensures.lawful.rank in
    let same = subst (λ (z : ℤ). IsSameAxis z c.in-Compress.axis c.counted_from_one-in-Compress.result) (to_z-of_z w128 c.args.origin c.ranges.origin) c.counted_from_one-in-Compress.ensures in
    subst (λ (f : DyaFn). IsMade c.args.store.now c.compress.new.store (dyadic_value c.args.origin f a b) c.compress.result) (sym c.in-Compress.is)
    (subst (λ (answer : Answer). IsMade c.args.store.now c.compress.new.store answer c.compress.result) (compressed_along c.args.origin c.in-Compress.axis c.counted_from_one-in-Compress.result a b same few)
    (made_by c.args.store.now c.compress.new.store _ (language.compress (pos 1) c.counted_from_one-in-Compress.result a b) c.compress.result c.compress.ensures.made))

pub returns-in-Expand : goal.returns-in-Expand
returns-in-Expand c =
    let a = array_of c.args.store.now c.args.a.now in
    let b = array_of c.args.store.now c.args.b.now in
    let few : length (leaf_shape c.args.b.now) ≤ 8 = subst (λ (d : DescView). length d.shape ≤ 8) (c.behind-b.view_is ∙ c.desc.ensures) c.rank-rank.ensures.lawful.rank in
    let same = subst (λ (z : ℤ). IsSameAxis z c.in-Expand.axis c.counted_from_one-in-Expand.result) (to_z-of_z w128 c.args.origin c.ranges.origin) c.counted_from_one-in-Expand.ensures in
    subst (λ (f : DyaFn). IsMade c.args.store.now c.expand.new.store (dyadic_value c.args.origin f a b) c.expand.result) (sym c.in-Expand.is)
    (subst (λ (answer : Answer). IsMade c.args.store.now c.expand.new.store answer c.expand.result) (expanded_along c.args.origin c.in-Expand.axis c.counted_from_one-in-Expand.result a b same few)
    (made_by c.args.store.now c.expand.new.store _ (language.expand (pos 1) c.counted_from_one-in-Expand.result a b) c.expand.result c.expand.ensures.made))
