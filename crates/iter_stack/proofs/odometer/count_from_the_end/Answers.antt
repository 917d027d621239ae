use Rattle.std.proofs.Common.{arith}
use Rattle.iter_stack.proofs.Walks.{Last, last_number}
use Rattle.iter_stack.proofs.odometer.count_from_the_end.Goals as goal

pub overflow_sub-numbers : goal.overflow_sub-numbers
overflow_sub-numbers c =
    let last : Last c.args.shape.now c.as_mut_slice-numbers.result.now c.in-Some.last =
    last_number _ _ _ _ _ c.requires c.as_mut_slice-numbers.ensures.value c.rank.ensures.value c.in-Some.ensures.0 c.in-Some.ensures.1
    in
    omega (arith, last.below, c.len-length.ensures.value)

pub bounds-numbers-last : goal.bounds-numbers-last
bounds-numbers-last c =
    let last : Last c.args.shape.now c.as_mut_slice-numbers.result.now c.in-Some.last =
    last_number _ _ _ _ _ c.requires c.as_mut_slice-numbers.ensures.value c.rank.ensures.value c.in-Some.ensures.0 c.in-Some.ensures.1
    in
    last.there

pub overflow_sub-numbers-in-Some : goal.overflow_sub-numbers-in-Some
overflow_sub-numbers-in-Some c =
    let last : Last c.args.shape.now c.as_mut_slice-numbers.result.now c.in-Some.last =
    last_number _ _ _ _ _ c.requires c.as_mut_slice-numbers.ensures.value c.rank.ensures.value c.in-Some.ensures.0 c.in-Some.ensures.1
    in
    omega (arith, last.below, c.len-length.ensures.value)

pub bounds-numbers-last-in-Some : goal.bounds-numbers-last-in-Some
bounds-numbers-last-in-Some c =
    let last : Last c.args.shape.now c.as_mut_slice-numbers.result.now c.in-Some.last =
    last_number _ _ _ _ _ c.requires c.as_mut_slice-numbers.ensures.value c.rank.ensures.value c.in-Some.ensures.0 c.in-Some.ensures.1
    in
    last.there
