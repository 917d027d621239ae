-- From an index to the one that follows it, axis by axis from the last one.
use Rattle.std.proofs.Common.{◌≡◌, ℕ, zero, suc, ◌+◌, ◌-◌, ◌*◌, ◌<◌, ◌≤◌, ℤ, pos, ◌+ℤ◌, ◌-ℤ◌, ◌*ℤ◌, List, [], ◌∷◌, ◌++◌, length, get_or, take, drop, drop-cons, refl, ap, sym, ◌∙◌, arith}
use Rattle.std.specs.Prelude.{slice_set, neg_ℤ}
use Rattle.std.specs.Int.{int_wrap}
use Rattle.std.specs.Int.RustNames.{FitsSigned}
use Rattle.std.proofs.lemmas.Int.{ints, int_wrap_fits, int_wrap-add_left, int_wrap-sub_right}
use Rattle.std.proofs.lemmas.List.{append-nil, take_all}
use Rattle.std.proofs.Math.ListN.{drop_of_length-le}
use mir.Syntax.{w128}
use Rattle.apl_base.specs.Array.{IsIndex, size_of, place_at}
use Rattle.apl_base.specs.Selection.{only_index}
use Rattle.array_desc.specs.Desc.{dot}
use Rattle.array_desc.specs.Rows.{Carries}
use Rattle.apl_base.proofs.Sizes.{IsIndex-length, IsIndex-below}
use Rattle.array_desc.proofs.Indices.{first_index}
use Rattle.array_desc.proofs.Sums.{dot-zeros}

pub place_at-zeros : (ns : List ℕ) → place_at ns (only_index ns) ≡ 0
place_at-zeros [] = refl
place_at-zeros (n ∷ ns) = omega (arith, place_at-zeros ns)

-- what the loop from the last axis on keeps: the axes from k on stood at their last places and are back at the
-- first ones, and the number has gone back with them
pub record CarriedTo (ss : List ℤ) (ns old index : List ℕ) (k : ℕ) (before number : ℤ) : Type 0 where
  pub here : k ≤ length ns
  pub is : index ≡ take k old ++ only_index (drop k ns)
  pub last : place_at (drop k ns) (drop k old) + 1 ≡ size_of (drop k ns)
  pub gone : number ≡ int_wrap w128 (before -ℤ dot (drop k ss) (drop k old))

-- an index with one more at an axis and the first places behind it
abbrev next_at : ℕ → List ℕ → List ℕ → List ℕ
next_at k ns old = take k old ++ (get_or old k 0 + 1) ∷ only_index (drop (suc k) ns)

next_is : (k : ℕ) (ns old : List ℕ) → k < length ns → IsIndex ns old → get_or old k 0 + 1 < get_or ns k 0 → IsIndex ns (next_at k ns old)
next_is zero (n ∷ ns) (i ∷ is) p q h = (h, first_index ns is q.1)
next_is (suc k) (n ∷ ns) (i ∷ is) p q h = (q.0, next_is k ns is (omega (arith, p)) q.1 h)
next_is k [] is p q h = absurd (omega (arith, p))
next_is k (n ∷ ns) [] p q h = absurd q

next_place : (k : ℕ) (ns old : List ℕ) → k < length ns → IsIndex ns old → place_at (drop (suc k) ns) (drop (suc k) old) + 1 ≡ size_of (drop (suc k) ns) → place_at ns (next_at k ns old) ≡ place_at ns old + 1
next_place zero (n ∷ ns) (i ∷ is) p q h = omega (arith, h, place_at-zeros ns)
next_place (suc k) (n ∷ ns) (i ∷ is) p q h = omega (arith, next_place k ns is (omega (arith, p)) q.1 h)
next_place k [] is p q h = absurd (omega (arith, p))
next_place k (n ∷ ns) [] p q h = absurd q

next_term : (s x : ℤ) (i : ℕ) → s *ℤ pos (i + 1) ≡ (s *ℤ pos i) +ℤ s
next_term s x i = omega (arith, ints)

next_dot : (k : ℕ) (ss : List ℤ) (ns old : List ℕ) → k < length ns → length ss ≡ length ns → IsIndex ns old → dot ss (next_at k ns old) ≡ (dot ss old -ℤ dot (drop (suc k) ss) (drop (suc k) old)) +ℤ get_or ss k (pos 0)
next_dot zero (s ∷ ss) (n ∷ ns) (i ∷ is) p l q = omega (arith, ints, dot-zeros ss ns, next_term s s i)
next_dot (suc k) (s ∷ ss) (n ∷ ns) (i ∷ is) p l q = omega (arith, ints, next_dot k ss ns is (omega (arith, p)) (omega (arith, l)) q.1)
next_dot k ss [] is p l q = absurd (omega (arith, p))
next_dot k [] (n ∷ ns) is p l q = absurd (omega (arith, l))
next_dot k (s ∷ ss) (n ∷ ns) [] p l q = absurd q

-- a number set at the end of the part that has stayed
set_there : (k x : ℕ) (old z : List ℕ) → k < length old → slice_set (take (suc k) old ++ z) k x ≡ take k old ++ x ∷ z
set_there zero x (i ∷ is) z p = refl
set_there (suc k) x (i ∷ is) z p = ap (λ v. i ∷ v) (set_there k x is z (omega (arith, p)))
set_there k x [] z p = absurd (omega (arith, p))

pub get_there : (k : ℕ) (old z : List ℕ) → k < length old → get_or (take (suc k) old ++ z) k 0 ≡ get_or old k 0
get_there zero (i ∷ is) z p = refl
get_there (suc k) (i ∷ is) z p = get_there k is z (omega (arith, p))
get_there k [] z p = absurd (omega (arith, p))

unmoved : (b : ℤ) → b ≡ b -ℤ pos 0
unmoved b = omega (arith, ints)

as_sum : (x p : ℤ) → x -ℤ p ≡ x +ℤ neg_ℤ p
as_sum x p = omega (arith, ints)

regroup_back : (b d p : ℤ) → (b -ℤ d) +ℤ neg_ℤ p ≡ b -ℤ (p +ℤ d)
regroup_back b d p = omega (arith, ints)

regroup_on : (b d s x y : ℤ) → x ≡ (y -ℤ d) +ℤ s → (b -ℤ d) +ℤ s ≡ b +ℤ (x -ℤ y)
regroup_on b d s x y e = omega (arith, ints, e)

pub carry_begins : (ss : List ℤ) (ns old : List ℕ) (b : ℤ) → FitsSigned w128 b → length ss ≡ length ns → IsIndex ns old → CarriedTo ss ns old old (length ns) b b
carry_begins ss ns old b f l q =
    let m = IsIndex-length ns old q in
    let d = drop_of_length-le ns {i = length ns} (omega arith) in
    let e = drop_of_length-le ss {i = length ns} (omega (arith, l)) in
    record {
      here = omega arith;
      is = sym (append-nil old) ∙ ap (λ v. v ++ []) (sym (take_all (length ns) old (omega (arith, m)))) ∙ ap (λ v. take (length ns) old ++ only_index v) (sym d);
      last = ap (λ v. place_at v (drop (length ns) old) + 1) d ∙ ap size_of (sym d);
      gone = sym (int_wrap_fits w128 b f) ∙ ap (int_wrap w128) (unmoved b) ∙ ap (λ v. int_wrap w128 (b -ℤ dot v (drop (length ns) old))) (sym e);
    }

-- the number after an axis went back to its first place, as 128 bits keep it
back_number : (b d p : ℤ) → int_wrap w128 (int_wrap w128 (b -ℤ d) -ℤ int_wrap w128 p) ≡ int_wrap w128 (b -ℤ (p +ℤ d))
back_number b d p =
    int_wrap-sub_right w128 (int_wrap w128 (b -ℤ d)) p
    ∙ ap (int_wrap w128) (as_sum (int_wrap w128 (b -ℤ d)) p)
    ∙ int_wrap-add_left w128 (b -ℤ d) (neg_ℤ p)
    ∙ ap (int_wrap w128) (regroup_back b d p)

-- the number after an axis went on by one place
on_number : (b d s x y : ℤ) → x ≡ (y -ℤ d) +ℤ s → int_wrap w128 (int_wrap w128 (b -ℤ d) +ℤ s) ≡ int_wrap w128 (b +ℤ (x -ℤ y))
on_number b d s x y e = int_wrap-add_left w128 (b -ℤ d) s ∙ ap (int_wrap w128) (regroup_on b d s x y e)

last_place : (i n s p : ℕ) → i < n → (i + 1 < n → ⊥) → p + 1 ≡ s → (i * s + p) + 1 ≡ n * s
last_place i n s p b h e = let f : n ≡ i + 1 = omega (arith, b, h) in rw f (omega (arith, e))

round_back : (ss : List ℤ) (ns old index : List ℕ) (k : ℕ) (before number product after : ℤ) → suc k ≤ length ns → length ss ≡ length ns → IsIndex ns old → CarriedTo ss ns old index (suc k) before number → (get_or index k 0 + 1 < get_or ns k 0 → ⊥) → product ≡ int_wrap w128 (get_or ss k (pos 0) *ℤ pos (get_or index k 0)) → after ≡ int_wrap w128 (number -ℤ product) → CarriedTo ss ns old (slice_set index k 0) k before after
round_back ss ns old index k before number product after p l q h c m a =
    let o : k < length old = omega (arith, p, IsIndex-length ns old q) in
    let g : get_or index k 0 ≡ get_or old k 0 = ap (λ v. get_or v k 0) h.is ∙ get_there k old (only_index (drop (suc k) ns)) o in
    let ed = drop-cons ns k 0 p in
    let eo = drop-cons old k 0 o in
    let es = drop-cons ss k (pos 0) (omega (arith, p, l)) in
    let b = IsIndex-below ns old k q p in
    record {
      here = omega (arith, p);
      is = ap (λ v. slice_set v k 0) h.is ∙ set_there k 0 old (only_index (drop (suc k) ns)) o ∙ ap (λ v. take k old ++ only_index v) (sym ed);
      last = rw (ed, eo) (last_place (get_or old k 0) (get_or ns k 0) (size_of (drop (suc k) ns)) (place_at (drop (suc k) ns) (drop (suc k) old)) b (rw g at c) h.last);
      gone = rw (a, h.gone, m, g, es, eo) (back_number before (dot (drop (suc k) ss) (drop (suc k) old)) (get_or ss k (pos 0) *ℤ pos (get_or old k 0)));
    }

pub carry_round : (ss : List ℤ) (ns old index : List ℕ) (k : ℕ) (before number product after : ℤ) → 0 < k → k ≤ length ns → length ss ≡ length ns → IsIndex ns old → CarriedTo ss ns old index k before number → (get_or index (k - 1) 0 + 1 < get_or ns (k - 1) 0 → ⊥) → product ≡ int_wrap w128 (get_or ss (k - 1) (pos 0) *ℤ pos (get_or index (k - 1) 0)) → after ≡ int_wrap w128 (number -ℤ product) → CarriedTo ss ns old (slice_set index (k - 1) 0) (k - 1) before after
carry_round ss ns old index zero before number product after z p l q h c m a = absurd (omega (arith, z))
carry_round ss ns old index (suc k) before number product after z p l q h c m a =
    let e : suc k - 1 ≡ k = omega arith in
    rw e (round_back ss ns old index k before number product after p l q h (rw e at c) (rw e at m) a)

stop_there : (ss : List ℤ) (ns old index : List ℕ) (k : ℕ) (before number after : ℤ) → suc k ≤ length ns → length ss ≡ length ns → IsIndex ns old → CarriedTo ss ns old index (suc k) before number → get_or index k 0 + 1 < get_or ns k 0 → after ≡ int_wrap w128 (number +ℤ get_or ss k (pos 0)) → Carries ss ns old (slice_set index k (get_or index k 0 + 1)) before after
stop_there ss ns old index k before number after p l q h c a =
    let o : k < length old = omega (arith, p, IsIndex-length ns old q) in
    let g : get_or index k 0 ≡ get_or old k 0 = ap (λ v. get_or v k 0) h.is ∙ get_there k old (only_index (drop (suc k) ns)) o in
    let e : slice_set index k (get_or index k 0 + 1) ≡ next_at k ns old =
    ap (λ v. slice_set v k (get_or index k 0 + 1)) h.is ∙ set_there k (get_or index k 0 + 1) old (only_index (drop (suc k) ns)) o ∙ ap (λ v. take k old ++ (v + 1) ∷ only_index (drop (suc k) ns)) g in
    rw e (record {
      is = λ _. next_is k ns old p q (rw g at c);
      next = λ _. next_place k ns old p q h.last;
      number = λ _. rw (a, h.gone) (on_number before (dot (drop (suc k) ss) (drop (suc k) old)) (get_or ss k (pos 0)) (dot ss (next_at k ns old)) (dot ss old) (next_dot k ss ns old p l q));
    })

pub carry_stops : (ss : List ℤ) (ns old index : List ℕ) (k : ℕ) (before number after : ℤ) → 0 < k → k ≤ length ns → length ss ≡ length ns → IsIndex ns old → CarriedTo ss ns old index k before number → get_or index (k - 1) 0 + 1 < get_or ns (k - 1) 0 → after ≡ int_wrap w128 (number +ℤ get_or ss (k - 1) (pos 0)) → Carries ss ns old (slice_set index (k - 1) (get_or index (k - 1) 0 + 1)) before after
carry_stops ss ns old index zero before number after z p l q h c a = absurd (omega (arith, z))
carry_stops ss ns old index (suc k) before number after z p l q h c a =
    let e : suc k - 1 ≡ k = omega arith in
    rw e (stop_there ss ns old index k before number after p l q h (rw e at c) (rw e at a))

none_follows : (n s : ℕ) → n + 1 ≡ s → n + 1 < s → ⊥
none_follows n s e p = omega (arith, e, p)

-- after the first axis no index follows
pub carry_ends : (ss : List ℤ) (ns old index : List ℕ) (k : ℕ) (before number : ℤ) → k ≤ 0 → CarriedTo ss ns old index k before number → Carries ss ns old index before number
carry_ends ss ns old index zero before number z h = record {
  is = λ p. absurd (none_follows _ _ h.last p);
  next = λ p. absurd (none_follows _ _ h.last p);
  number = λ p. absurd (none_follows _ _ h.last p);
}
carry_ends ss ns old index (suc k) before number z h = absurd (omega (arith, z))

-- what is read of the index at the axis is below its length
pub carry_below : (ss : List ℤ) (ns old index : List ℕ) (k : ℕ) (before number : ℤ) → 0 < k → IsIndex ns old → CarriedTo ss ns old index k before number → get_or index (k - 1) 0 < get_or ns (k - 1) 0
carry_below ss ns old index zero before number z q h = absurd (omega (arith, z))
carry_below ss ns old index (suc k) before number z q h =
    let e : suc k - 1 ≡ k = omega arith in
    let o : k < length old = omega (arith, h.here, IsIndex-length ns old q) in
    rw (e, h.is, get_there k old (only_index (drop (suc k) ns)) o) (IsIndex-below ns old k q h.here)
