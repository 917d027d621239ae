use Rattle.std.proofs.Common.{◌≡◌, ◌+◌, take, pos, Some}
use Rattle.apl_base.specs.Number.{IsNumber}
use Rattle.array_store.specs.Stores.{IsStore}
use Rattle.array_store.specs.Counting.{OnlyFetched}
use Rattle.apl_model.specs.Made.{decoded, matched}
use Rattle.leaf_names.specs.Variables.{array_of}
use Rattle.value_fns.specs.Decoded.{spent}
use Rattle.value_fns.proofs.Decoding.{places_of}
use Rattle.value_fns.proofs.decodes.decode_leaves.Given as goal

abbrev pub invariant-loop-place : goal.invariant-loop-place
invariant-loop-place l =
    let a = array_of l.fn.store l.fn.a in
    let b = array_of l.fn.store l.fn.b in
    record {
      so_far : Some l.number ≡ decoded (Some (pos 0)) (take l.place (matched a (places_of a b))) (take l.place (matched b (places_of a b)));
      number : IsNumber l.number;
      counted : OnlyFetched l.fn.store l.store (spent a l.place + spent b l.place);
      store : IsStore l.store;
    }
