use Rattle.std.proofs.Common.{ℤ, true, false, Ok, sym, subst}
use Rattle.std.proofs.lemmas.Int.{to_z-of_z}
use mir.Syntax.{w128}
use Rattle.apl_model.specs.declared.functions.MonFn.{MonFn}
use Rattle.apl_model.specs.Evaluation.{monadic_value}
use Rattle.apl_model.specs.Made as language
use Rattle.leaf_names.specs.Variables.{array_of}
use Rattle.leaf_steps.specs.Making.{IsMade}
use Rattle.leaf_steps.proofs.MakingLemmas.{made_by, numbers_by}
use Rattle.leaf_steps.proofs.ones.value_of_one.Goals as goal

pub returns-in_ok-iota-in-Iota : goal.returns-in_ok-iota-in-Iota
returns-in_ok-iota-in-Iota c =
    let b = array_of c.args.store.now c.args.b.now in
    subst (λ (f : MonFn). IsMade c.args.store.now c.iota.new.store (monadic_value c.args.origin f b) (Ok c.in_ok-iota-in-Iota.field-0)) (sym c.in-Iota.is)
    (subst (λ (z : ℤ). IsMade c.args.store.now c.iota.new.store (language.interval z b) (Ok c.in_ok-iota-in-Iota.field-0)) (to_z-of_z w128 c.args.origin c.ranges.origin)
    (numbers_by c.args.store.now c.iota.new.store 1 _ c.in_ok-iota-in-Iota.field-0 c.iota.ensures.counted c.in_ok-iota-in-Iota.ensures.interval))

pub returns-in-Shape : goal.returns-in-Shape
returns-in-Shape c =
    let b = array_of c.args.store.now c.args.b.now in
    subst (λ (f : MonFn). IsMade c.args.store.now c.shape_of.new.store (monadic_value c.args.origin f b) c.shape_of.result) (sym c.in-Shape.is)
    (made_by c.args.store.now c.shape_of.new.store _ (language.shape_of b) c.shape_of.result c.shape_of.ensures.made)

pub returns-in-Ravel : goal.returns-in-Ravel
returns-in-Ravel c =
    let b = array_of c.args.store.now c.args.b.now in
    subst (λ (f : MonFn). IsMade c.args.store.now c.ravel.new.store (monadic_value c.args.origin f b) c.ravel.result) (sym c.in-Ravel.is)
    (made_by c.args.store.now c.ravel.new.store _ (language.ravel b) c.ravel.result c.ravel.ensures.made)

pub returns-in-GradeUp : goal.returns-in-GradeUp
returns-in-GradeUp c =
    let b = array_of c.args.store.now c.args.b.now in
    subst (λ (f : MonFn). IsMade c.args.store.now c.grade.new.store (monadic_value c.args.origin f b) c.grade.result) (sym c.in-GradeUp.is)
    (subst (λ (z : ℤ). IsMade c.args.store.now c.grade.new.store (language.grade false z b) c.grade.result) (to_z-of_z w128 c.args.origin c.ranges.origin)
    (made_by c.args.store.now c.grade.new.store _ _ c.grade.result c.grade.ensures.made))

pub returns-in-GradeDown : goal.returns-in-GradeDown
returns-in-GradeDown c =
    let b = array_of c.args.store.now c.args.b.now in
    subst (λ (f : MonFn). IsMade c.args.store.now c.grade-in-GradeDown.new.store (monadic_value c.args.origin f b) c.grade-in-GradeDown.result) (sym c.in-GradeDown.is)
    (subst (λ (z : ℤ). IsMade c.args.store.now c.grade-in-GradeDown.new.store (language.grade true z b) c.grade-in-GradeDown.result) (to_z-of_z w128 c.args.origin c.ranges.origin)
    (made_by c.args.store.now c.grade-in-GradeDown.new.store _ _ c.grade-in-GradeDown.result c.grade-in-GradeDown.ensures.made))
