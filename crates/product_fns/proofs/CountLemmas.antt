-- What was fetched and applied so far.
use Rattle.std.proofs.Common.{◌≡◌, ℕ, ◌+◌, ◌-◌, ◌*◌, ◌<◌, ◌≤◌, refl, sym, ap, ◌∙◌, subst, arith}
use Rattle.std.proofs.Math.Nat.{mul-le-mul_left}
use Rattle.array_store.specs.Stores.{StoreView, AreCounts, IsStore, counted}
use Rattle.array_store.specs.Counting.{OnlyComputed, Computed, after_fetches, after_applications}
use Rattle.array_store.proofs.CountingLemmas.{OnlyComputed-then, OnlyComputed-more, Computed-just, ComputedJust-none, ComputedJust-after_fetches, ComputedJust-after_applications}
use Rattle.drag_along.specs.declared.leaves.Leaf.{Leaf}
use Rattle.drag_along.specs.declared.leaves.Leaf.TheVariants.{Stored, Gen}
use Rattle.e_machine.specs.Forced.{AreRead}

-- one after the other
pub computed_then : (a b c : StoreView) (f g m n : ℕ) → Computed a b f m → Computed b c g n → Computed a c (f + g) (m + n)
computed_then a b c f g m n p q = record {
  all = OnlyComputed-then a b c f g m n p.all q.all;
  exact = q.exact ∙ ap (λ (k : ℕ). counted k g) p.exact ∙ omega arith;
}

-- as many, said otherwise
pub computed_as : (a b : StoreView) (f g m n : ℕ) → f ≡ g → m ≡ n → Computed a b f m → Computed a b g n
computed_as a b f g m n e h p = subst (λ (k : ℕ). Computed a b k n) e (subst (λ (k : ℕ). Computed a b f k) h p)

-- nothing
pub computed_none : (a : StoreView) → AreCounts a.counts → Computed a a 0 0
computed_none a small = Computed-just a a 0 0 small (ComputedJust-none a small)

-- cells that were read
pub computed_read : (a b : StoreView) (leaf : Leaf) (n : ℕ) → AreCounts a.counts → AreRead a b leaf n → Computed a b 0 n
computed_read a b (Stored owner desc kind) n small read =
    subst (λ (s : StoreView). Computed a s 0 n) (sym read) (Computed-just a (after_fetches a n) 0 n small (ComputedJust-after_fetches a n small))
computed_read a b (Gen desc kind) n small read =
    subst (λ (s : StoreView). Computed a s 0 n) (sym read)
    (let none : Computed a a 0 0 = computed_none a small in record { all = OnlyComputed-more a a 0 0 0 n (omega arith) (omega arith) none.all; exact = none.exact })

-- functions that were applied
pub computed_applied : (a b : StoreView) (n : ℕ) → AreCounts a.counts → b ≡ after_applications a n → Computed a b n 0
computed_applied a b n small is =
    subst (λ (s : StoreView). Computed a s n 0) (sym is) (Computed-just a (after_applications a n) n 0 small (ComputedJust-after_applications a n small))

-- so many rows of q more, which were read and applied
pub computed_rows : (a b c d : StoreView) (leaf : Leaf) (f m more : ℕ) → Computed a b f m → IsStore b → AreRead b c leaf more → IsStore c → d ≡ after_applications c more → Computed a d (f + more) (m + more)
computed_rows a b c d leaf f m more before b_store read c_store is =
    computed_as a d _ _ _ _ (omega arith) (omega arith)
    (computed_then a c d f more (m + more) 0
    (computed_as a c (f + 0) f (m + more) (m + more) (omega arith) refl (computed_then a b c f 0 m more before (computed_read b c leaf more b_store.counts read)))
    (computed_applied c d more c_store.counts is))

pub computed_most : (a b : StoreView) (f g m n : ℕ) → f ≤ g → m ≤ n → Computed a b f m → OnlyComputed a b g n
computed_most a b f g m n le few p = OnlyComputed-more a b f g m n le few p.all

-- ---- rows of q

-- one row less
pub row_before : (left q : ℕ) → 0 < left → left * q ≡ (left - 1) * q + q
row_before left q some = let e : left ≡ (left - 1) + 1 = omega arith in ap (λ (m : ℕ). m * q) e ∙ omega arith

-- a row that stands before the end of n rows
pub row_within : (first left n q : ℕ) → 0 < left → left ≤ n → first + (left - 1) * q + q ≤ first + n * q
row_within first left n q some le = omega (arith, row_before left q some, mul-le-mul_left q le)

-- the last row was read
pub computed_first : (a b : StoreView) (leaf : Leaf) (n q : ℕ) → 0 < n → AreCounts a.counts → AreRead a b leaf q → Computed a b ((n - 1 - (n - 1)) * q) ((n - (n - 1)) * q)
computed_first a b leaf n q some small read =
    let none : n - 1 - (n - 1) ≡ 0 = omega arith in
    let one : n - (n - 1) ≡ 1 = omega arith in
    computed_as a b 0 _ q _ (omega arith ∙ ap (λ (m : ℕ). m * q) (sym none)) (omega arith ∙ ap (λ (m : ℕ). m * q) (sym one)) (computed_read a b leaf q small read)

-- and the one before it, to which a function was applied
pub computed_next : (a b c d : StoreView) (leaf : Leaf) (n left q : ℕ) → 0 < left → left < n → Computed a b ((n - 1 - left) * q) ((n - left) * q) → IsStore b → AreRead b c leaf q → IsStore c → d ≡ after_applications c q → Computed a d ((n - 1 - (left - 1)) * q) ((n - (left - 1)) * q)
computed_next a b c d leaf n left q some within before b_store read c_store is =
    let less : n - 1 - (left - 1) ≡ (n - 1 - left) + 1 = omega arith in
    let more : n - (left - 1) ≡ (n - left) + 1 = omega arith in
    computed_as a d _ _ _ _ (omega arith ∙ ap (λ (m : ℕ). m * q) (sym less)) (omega arith ∙ ap (λ (m : ℕ). m * q) (sym more))
    (computed_rows a b c d leaf ((n - 1 - left) * q) ((n - left) * q) q before b_store read c_store is)

-- at most all of them
pub computed_stop : (a b : StoreView) (n now q : ℕ) → Computed a b ((n - 1 - now) * q) ((n - now) * q) → OnlyComputed a b ((n - 1) * q) (n * q)
computed_stop a b n now q p =
    let less : n - 1 - now ≤ n - 1 = omega arith in
    let few : n - now ≤ n = omega arith in
    computed_most a b _ _ _ _ (omega (arith, mul-le-mul_left q less)) (omega (arith, mul-le-mul_left q few)) p

-- all of them
pub computed_end : (a b : StoreView) (n left q : ℕ) → left ≡ 0 → Computed a b ((n - 1 - left) * q) ((n - left) * q) → Computed a b ((n - 1) * q) (n * q)
computed_end a b n left q none p =
    let less : n - 1 - left ≡ n - 1 = omega arith in
    let all : n - left ≡ n = omega arith in
    computed_as a b _ _ _ _ (ap (λ (m : ℕ). m * q) less) (ap (λ (m : ℕ). m * q) all) p

-- ---- elements of a line, in blocks

pub read_as : (a b : StoreView) (leaf : Leaf) (m n : ℕ) → m ≡ n → AreRead a b leaf m → AreRead a b leaf n
read_as a b leaf m n e read = subst (AreRead a b leaf) e read

pub computed_last : (a b : StoreView) (leaf : Leaf) (n : ℕ) → 0 < n → AreCounts a.counts → AreRead a b leaf 1 → Computed a b (n - 1 - (n - 1)) (n - (n - 1))
computed_last a b leaf n some small read = computed_as a b 0 _ 1 _ (omega arith) (omega arith) (computed_read a b leaf 1 small read)

pub computed_block : (a b c d : StoreView) (leaf : Leaf) (n left count : ℕ) → count ≤ left → left < n → Computed a b (n - 1 - left) (n - left) → IsStore b → AreRead b c leaf count → IsStore c → d ≡ after_applications c count → Computed a d (n - 1 - (left - count)) (n - (left - count))
computed_block a b c d leaf n left count few within before b_store read c_store is =
    computed_as a d _ _ _ _ (omega arith) (omega arith) (computed_rows a b c d leaf (n - 1 - left) (n - left) count before b_store read c_store is)
