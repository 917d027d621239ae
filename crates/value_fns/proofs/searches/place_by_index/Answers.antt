use Rattle.std.proofs.Common.{int_lt, rules}
use Rattle.std.specs.Int.{w128}
use Rattle.std.proofs.lemmas.Int.{to_z-of_z}
use Rattle.std.proofs.lemmas.List.Sorted.{IsPartitionPoint-from_clause}
use Rattle.value_fns.specs.Placed.{Placed}
use Rattle.value_fns.proofs.Ordered.{Rises-of_index}
use Rattle.value_fns.proofs.Found.{below_first}
use Rattle.value_fns.proofs.searches.place_by_index.Goals as goal

pub place_from-requires-clause-parts : goal.place_from-requires-clause-parts
place_from-requires-clause-parts c =
    let wanted = to_z-of_z w128 c.args.wanted c.ranges.wanted in
    rw wanted (IsPartitionPoint-from_clause (λ (x : Placed). int_lt x.0 c.args.wanted) _ _ c.partition_point-from.ensures.partitioned (below_first c.args.wanted _ (Rises-of_index c.args.cells.now _ c.requires)) (λ a r q k. search rules))
