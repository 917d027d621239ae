use Rattle.std.proofs.Common.{◌≡◌, ◌∙◌, ap, length, subst, List, rules}
use Rattle.std.proofs.lemmas.List.Sorted.{answers_always, length_permutation}
use Rattle.std.specs.List.Sorted.{IsPermutation, IsStableByKey}
use Rattle.std.specs.Ordering.{int_cmp}
use Rattle.value_fns.specs.Placed.{Placed, cell_of}
use Rattle.value_fns.proofs.Ordered.{length-placed_from}
use Rattle.value_fns.proofs.orders.index_cells.Goals as goal

pub returns-clause-index : goal.returns-clause-index
returns-clause-index c =
    let keys = answers_always _ (λ a r. r ≡ cell_of a.0.now) _ (λ f a r g called. search rules) in
    record {
      rises = c.in_ok-sort_by_key.ensures.sorted cell_of keys;
      stable = subst (λ (xs : List Placed). IsStableByKey cell_of int_cmp xs c.sort_by_key.new.self.items) c.in_ok-placed.ensures (c.in_ok-sort_by_key.ensures.stable cell_of keys);
      count = length_permutation _ _ c.in_ok-sort_by_key.ensures.permutation ∙ ap length c.in_ok-placed.ensures ∙ length-placed_from 0 c.args.cells.now;
    }

pub returns-clause-permutation : goal.returns-clause-permutation
returns-clause-permutation c =
    subst (λ (xs : List Placed). IsPermutation xs c.sort_by_key.new.self.items) c.in_ok-placed.ensures c.in_ok-sort_by_key.ensures.permutation
