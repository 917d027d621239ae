use Rattle.std.proofs.Common.{◌≡◌, ℕ, ◌+◌, ◌-◌, ◌<◌, ◌≤◌, min, ℤ, pos, ◌+ℤ◌, ◌*ℤ◌, List, length, take, refl, ap, sym, subst, ◌∙◌, arith, rules}
use Rattle.std.specs.Int.{int_wrap}
use Rattle.std.specs.List.{refill}
use Rattle.std.proofs.lemmas.Int.{to_z-of_z}
use mir.Val.{SFits, to_z, of_z}
use mir.Syntax.{w128}
use Rattle.apl_base.specs.Array.{size_of}
use Rattle.array_desc.specs.Desc.{DescView}
use Rattle.array_desc.specs.Rows.{WalkView, Walks, Carries, number_on, left_in_row}
use Rattle.array_desc.proofs.Walks.{cell_is}
use Rattle.array_desc.proofs.RowLemmas.{refill_all, walk_numbers, walk_within, walk_reach, walk_carries}
use Rattle.array_desc.proofs.rows.RowWalk.next_row.Goals as goal
use Rattle.array_desc.proofs.rows.RowWalk.next_row.Goals.{After-wrapped_sum}

left : (c : After-wrapped_sum) → c.self.inside.place < size_of c.self.inside.desc.now.shape
left c = let P : WalkView → Type 0 = λ v. v.place < size_of v.desc.shape in subst P (sym c.self.view_is) c.requires.left

walks : (c : After-wrapped_sum) → Walks c.self.inside.desc.now c.self.inside.run.outer c.self.inside.run.length c.self.inside.run.step c.self.inside.index.items c.self.inside.done c.self.inside.place c.self.inside.start
walks c = c.self.invariant.1 (left c)

row_fits : (c : After-wrapped_sum) → c.self.inside.done + c.min-count.result ≤ c.self.inside.run.length
row_fits c = let s = (walks c).stands.left in omega (arith, s)

step_is : (c : After-wrapped_sum) → to_z w128 (of_z w128 c.self.inside.run.step) ≡ c.self.inside.run.step
step_is c = let s : SFits w128 c.self.inside.run.step = search rules in to_z-of_z w128 c.self.inside.run.step s

start_is : (c : After-wrapped_sum) → to_z w128 (of_z w128 c.self.inside.start) ≡ c.self.inside.start
start_is c = let s : SFits w128 c.self.inside.start = search rules in to_z-of_z w128 c.self.inside.start s

from_is : (c : After-wrapped_sum) → to_z w128 (of_z w128 c.wrapped_sum.result) ≡ int_wrap w128 (c.self.inside.start +ℤ int_wrap w128 (c.self.inside.run.step *ℤ pos c.self.inside.done))
from_is c =
    let product = cell_is _ _ c.wrapped_product.type_inv (c.wrapped_product.ensures
    ∙ ap (λ z. int_wrap w128 (z *ℤ to_z w128 (of_z w128 c.from.result))) (step_is c)
    ∙ ap (λ z. int_wrap w128 (c.self.inside.run.step *ℤ z)) (cell_is _ _ c.from.type_inv c.from.ensures)) in
    cell_is _ _ c.wrapped_sum.type_inv (c.wrapped_sum.ensures
    ∙ ap (λ z. int_wrap w128 (z +ℤ to_z w128 (of_z w128 c.wrapped_product.result))) (start_is c)
    ∙ ap (λ z. int_wrap w128 (c.self.inside.start +ℤ z)) product)

numbers : (c : After-wrapped_sum) → (j : ℕ) → j < c.min-count.result → to_z w128 (of_z w128 c.wrapped_sum.result) +ℤ (to_z w128 (of_z w128 c.self.inside.run.step) *ℤ pos j) ≡ number_on c.args.self.now.desc (c.args.self.now.place + j)
numbers c j b =
    let from = to_z w128 (of_z w128 c.wrapped_sum.result) in
    let e = walk_numbers c.self.inside.desc.now _ _ _ _ _ _ _ from c.self.invariant.0 (walks c) (from_is c) c.min-count.result (row_fits c) j b in
    ap (λ z. from +ℤ (z *ℤ pos j)) (step_is c) ∙ e ∙ ap (λ (v : WalkView). number_on v.desc (v.place + j)) c.self.view_is

within : (c : After-wrapped_sum) → c.args.self.now.place + c.min-count.result ≤ size_of c.args.self.now.desc.shape
within c =
    let P : WalkView → Type 0 = λ v. v.place + c.min-count.result ≤ size_of v.desc.shape in
    subst P c.self.view_is (walk_within c.self.inside.desc.now _ _ _ _ _ _ _ (walks c) c.min-count.result (row_fits c))

reach : (c : After-wrapped_sum) → min c.args.most (left_in_row c.args.self.now.desc.shape c.args.self.now.place) ≤ c.min-count.result
reach c =
    let P : WalkView → Type 0 = λ v. left_in_row v.desc.shape v.place ≤ c.self.inside.run.length - c.self.inside.done in
    let h = subst P c.self.view_is (walk_reach c.self.inside.desc.now _ _ _ _ _ _ _ (walks c)) in
    omega (arith, h, c.min-count.ensures)

pub invariant_of-self : goal.invariant_of-self
invariant_of-self c =
    let b = (goal.at.invariant_of-self c).After-wrapped_sum in
    let d = c.self.inside.desc.now in
    let k = c.self.inside.run.outer in
    let ss = c.as_slice.ensures ∙ ap (λ (v : DescView). v.strides) c.desc.view_is in
    let ns = c.lengths.ensures.value ∙ ap (λ (v : DescView). v.shape) c.desc.view_is in
    let is = c.as_mut_slice.ensures.value in
    let new = c.carried-self-inside.new.index in
    let result = c.carried-self-inside.result in
    let P : List ℤ → Type 0 = λ v. Carries (take k v) (take k c.lengths.result.now) c.as_mut_slice.result.now new (to_z w128 (of_z w128 c.self.inside.start)) result in
    let Q : List ℕ → Type 0 = λ v. Carries (take k d.strides) (take k v) c.as_mut_slice.result.now new (to_z w128 (of_z w128 c.self.inside.start)) result in
    let R : List ℕ → Type 0 = λ v. Carries (take k d.strides) (take k d.shape) v new (to_z w128 (of_z w128 c.self.inside.start)) result in
    let S : ℤ → Type 0 = λ z. Carries (take k d.strides) (take k d.shape) c.self.inside.index.items new z result in
    let carries = subst S (start_is b) (subst R is (subst Q ns (subst P ss c.carried-self-inside.ensures))) in
    let l : length new ≡ length c.self.inside.index.items = c.carried-self-inside.auto.index ∙ ap length is in
    let e = refill_all c.self.inside.index.items new l in
    let after = cell_is _ _ c.carried-self-inside.type_inv refl in
    let T : List ℕ → ℤ → Type 0 = λ v z. Walks d c.self.inside.run.outer c.self.inside.run.length c.self.inside.run.step v 0 (c.self.inside.place + c.min-count.result) z in (
      c.self.invariant.0,
      λ p.
          let w = walk_carries d _ _ _ _ new _ _ _ result c.self.invariant.0 (walks b) carries c.min-count.result c.if-self.true p in
          subst (T (refill (length c.self.inside.index.items) c.self.inside.index.items new)) (sym after) (subst (λ (v : List ℕ). T v result) (sym e) w),
    )

pub returns-then-self-clause-numbers : goal.returns-then-self-clause-numbers
returns-then-self-clause-numbers c = numbers (goal.at.returns-then-self-clause-numbers c).After-wrapped_sum

pub returns-then-self-clause-within : goal.returns-then-self-clause-within
returns-then-self-clause-within c = within (goal.at.returns-then-self-clause-within c).After-wrapped_sum

pub returns-then-self-clause-reach : goal.returns-then-self-clause-reach
returns-then-self-clause-reach c = reach (goal.at.returns-then-self-clause-reach c).After-wrapped_sum

pub returns-else-self-clause-numbers : goal.returns-else-self-clause-numbers
returns-else-self-clause-numbers c = numbers (goal.at.returns-else-self-clause-numbers c).After-wrapped_sum

pub returns-else-self-clause-within : goal.returns-else-self-clause-within
returns-else-self-clause-within c = within (goal.at.returns-else-self-clause-within c).After-wrapped_sum

pub returns-else-self-clause-reach : goal.returns-else-self-clause-reach
returns-else-self-clause-reach c = reach (goal.at.returns-else-self-clause-reach c).After-wrapped_sum
