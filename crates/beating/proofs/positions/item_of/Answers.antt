use Rattle.std.proofs.Common.{refl, arith}
use Rattle.beating.proofs.PositionLemmas.{FoundFirst, FoundLast, leaves_first, leaves_last, found_on_axis, scalar_item, vector_item, step_casts}
use Rattle.beating.proofs.positions.item_of.Goals as goal

pub returns-in_default-clause-refused : goal.returns-in_default-clause-refused
returns-in_default-clause-refused c =
    (refl, leaves_first c.args.positions c.args.is_scalar c.args.origin c.args.length (omega arith) c.requires.positions c.requires.origin c.in_default.ensures.off)

pub returns-in_default-place_of-clause-refused : goal.returns-in_default-place_of-clause-refused
returns-in_default-place_of-clause-refused c =
    (refl, leaves_last c.args.positions c.args.is_scalar c.args.origin c.last_of.result c.args.length (omega arith) c.requires.positions c.requires.origin c.last_of.ensures.value c.in_default-place_of.ensures.off)

pub returns-then-is_scalar-clause-item : goal.returns-then-is_scalar-clause-item
returns-then-is_scalar-clause-item c =
    let first : FoundFirst c.args.positions c.args.is_scalar c.args.origin c.args.length c.in-Some.from =
    record { some = omega arith; are = c.requires.positions; origin = c.requires.origin; is = c.in-Some.ensures.named.0; below = c.in-Some.ensures.named.1 } in
    scalar_item _ _ _ _ _ c.if-is_scalar.true first

pub returns-then-is_scalar-clause-on_axis : goal.returns-then-is_scalar-clause-on_axis
returns-then-is_scalar-clause-on_axis c =
    let first : FoundFirst c.args.positions c.args.is_scalar c.args.origin c.args.length c.in-Some.from =
    record { some = omega arith; are = c.requires.positions; origin = c.requires.origin; is = c.in-Some.ensures.named.0; below = c.in-Some.ensures.named.1 } in
    let last : FoundLast c.args.positions c.args.origin c.last_of.result c.args.length c.in-Some-place_of.field-0 =
    record { value = c.last_of.ensures.value; is = c.in-Some-place_of.ensures.named.0; below = c.in-Some-place_of.ensures.named.1 } in
    found_on_axis _ _ _ _ _ _ _ first last

pub returns-clause-on_axis : goal.returns-clause-on_axis
returns-clause-on_axis c =
    let first : FoundFirst c.args.positions c.args.is_scalar c.args.origin c.args.length c.in-Some.from =
    record { some = omega arith; are = c.requires.positions; origin = c.requires.origin; is = c.in-Some.ensures.named.0; below = c.in-Some.ensures.named.1 } in
    let last : FoundLast c.args.positions c.args.origin c.last_of.result c.args.length c.in-Some-place_of.field-0 =
    record { value = c.last_of.ensures.value; is = c.in-Some-place_of.ensures.named.0; below = c.in-Some-place_of.ensures.named.1 } in
    found_on_axis _ _ _ _ _ _ _ first last

pub overflow_cast-result : goal.overflow_cast-result
overflow_cast-result c =
    let first : FoundFirst c.args.positions c.args.is_scalar c.args.origin c.args.length c.in-Some.from =
    record { some = omega arith; are = c.requires.positions; origin = c.requires.origin; is = c.in-Some.ensures.named.0; below = c.in-Some.ensures.named.1 } in
    let last : FoundLast c.args.positions c.args.origin c.last_of.result c.args.length c.in-Some-place_of.field-0 =
    record { value = c.last_of.ensures.value; is = c.in-Some-place_of.ensures.named.0; below = c.in-Some-place_of.ensures.named.1 } in
    step_casts _ _ _ _ _ _ _ c.requires.length first last

pub returns-clause-item : goal.returns-clause-item
returns-clause-item c =
    let first : FoundFirst c.args.positions c.args.is_scalar c.args.origin c.args.length c.in-Some.from =
    record { some = omega arith; are = c.requires.positions; origin = c.requires.origin; is = c.in-Some.ensures.named.0; below = c.in-Some.ensures.named.1 } in
    let last : FoundLast c.args.positions c.args.origin c.last_of.result c.args.length c.in-Some-place_of.field-0 =
    record { value = c.last_of.ensures.value; is = c.in-Some-place_of.ensures.named.0; below = c.in-Some-place_of.ensures.named.1 } in
    vector_item _ _ _ _ _ _ _ c.requires.length c.if-is_scalar.false first last
