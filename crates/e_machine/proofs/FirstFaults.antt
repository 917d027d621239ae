-- The search for the first fault over all places, and the cells where there is none.
use Rattle.std.proofs.Common.{◌≡◌, ℕ, zero, suc, ◌+◌, ◌-◌, ◌*◌, ◌<◌, ◌≤◌, ℤ, pos, Bool, false, IsTrue, All, List, [], ◌∷◌, ◌++◌, length, Option, Some, None, unwrap_or, refl, sym, ap, ◌∙◌, subst, arith, inl, inr, length-append}
use Rattle.std.proofs.Math.Nat.{mul-le-mul_right}
use Rattle.std.specs.Option.{ForSome, option_or}
use Rattle.std.proofs.lemmas.Bool.{cases_lt}
use Rattle.std.proofs.lemmas.List.{get_or_append_left, get_or-append-add}
use Rattle.std.proofs.lemmas.List.Elements.{All-append}
use Rattle.apl_base.specs.declared.cells.Kind.TheVariants.{Num}
use Rattle.apl_base.specs.declared.cells.Elem.{Elem}
use Rattle.apl_base.specs.Array.{size_of, index_at, place_at}
use Rattle.apl_base.specs.Elements.{element}
use Rattle.apl_base.specs.Number.{IsCell}
use Rattle.apl_base.proofs.Sizes.{IsIndex-index_at, index_at-place_at, place_at-below}
use Rattle.array_store.specs.Stores.{StoreView, AreCounts}
use Rattle.array_store.specs.Counting.{OnlyComputed, ComputedJust}
use Rattle.array_store.proofs.CountingLemmas.{OnlyComputed-none, OnlyComputed-then, OnlyComputed-more, ComputedJust-none, ComputedJust-then}
use Rattle.drag_along.specs.declared.nodes.Node.{Node}
use Rattle.drag_along.specs.declared.nodes.Node.TheVariants.{Operand, One, Two}
use Rattle.drag_along.specs.Nodes.{functions_in, stored_in, kind_of_nodes}
use Rattle.drag_along.specs.Segments.{SegmentView, IsSegment}
use Rattle.drag_along.specs.Meaning.{value_at, values_at, fails_at, Fails, IsFirstFault}
use Rattle.drag_along.specs.Views.{only_leaf}
use Rattle.scalar_table.specs.Columns.{cell_in, element_in}
use Rattle.e_machine.specs.Forced.{applications, fetches}
use Rattle.e_machine.specs.Runs.{defined, fails_in, values_in, GainsCells, PassesAll, FailsBefore, IsVisit, HasElements}
use Rattle.e_machine.proofs.FirstNodes.{values_counted, fails_counted}

-- after p places: the nodes before `first` fail at none of them, `first` fails somewhere if it is not the number of
-- all nodes, and where it is, these are the cells so far
pub record Searched (s now : StoreView) (g : SegmentView) (p first : ℕ) (cells : List ℤ) : Type 0 where
  pub few : first ≤ length g.nodes
  pub clear : (q : ℕ) → q < p → (j : ℕ) → j < first → fails_in s g q j ≡ false
  pub found : first < length g.nodes → Fails s g first
  pub count : first ≡ length g.nodes → length cells ≡ p
  pub values : first ≡ length g.nodes → (q : ℕ) → q < p → values_in s g q ≡ defined (element_in Num cells q ∷ [])
  pub lawful : first ≡ length g.nodes → All (IsCell Num) cells
  pub cost : OnlyComputed s now (p * functions_in g.nodes) (p * stored_in g.nodes)
  pub exact : first ≡ length g.nodes → ComputedJust s now (p * functions_in g.nodes) (p * stored_in g.nodes)

-- nothing, over no place
just_none : (s : StoreView) (f m : ℕ) → AreCounts s.counts → ComputedJust s s (0 * f) (0 * m)
just_none s f m small =
    let zero_f : 0 ≡ 0 * f = omega arith in
    let zero_m : 0 ≡ 0 * m = omega arith in
    subst (λ (n : ℕ). ComputedJust s s n (0 * m)) zero_f (subst (λ (n : ℕ). ComputedJust s s 0 n) zero_m (ComputedJust-none s small))

pub search_starts : (s : StoreView) (g : SegmentView) (first : ℕ) (cells : List ℤ) → AreCounts s.counts → first ≡ length g.nodes → cells ≡ [] → Searched s s g 0 first cells
search_starts s g first cells small all empty = record {
  few = omega (arith, all);
  clear = λ q h. absurd (omega (arith, h));
  found = λ h. absurd (omega (arith, h, all));
  count = λ h. ap length empty;
  values = λ h q below. absurd (omega (arith, below));
  lawful = λ h k d less. absurd (omega (arith, less, ap length empty));
  cost = OnlyComputed-none s (0 * functions_in g.nodes) (0 * stored_in g.nodes);
  exact = λ h. just_none s (functions_in g.nodes) (stored_in g.nodes) small;
}

-- n places more cost at most what all nodes cost there
cost_next : (s now next : StoreView) (p n f m : ℕ) → OnlyComputed s now (p * f) (p * m) → OnlyComputed now next (n * f) (n * m) → OnlyComputed s next ((p + n) * f) ((p + n) * m)
cost_next s now next p n f m found one =
    OnlyComputed-more s next (p * f + n * f) ((p + n) * f) (p * m + n * m) ((p + n) * m) (omega arith) (omega arith)
    (OnlyComputed-then s now next (p * f) (n * f) (p * m) (n * m) found one)

just_next : (s now next : StoreView) (p n f m : ℕ) → ComputedJust s now (p * f) (p * m) → ComputedJust now next (n * f) (n * m) → ComputedJust s next ((p + n) * f) ((p + n) * m)
just_next s now next p n f m found one =
    let more_f : p * f + n * f ≡ (p + n) * f = omega arith in
    let more_m : p * m + n * m ≡ (p + n) * m = omega arith in
    subst (λ (k : ℕ). ComputedJust s next k ((p + n) * m)) more_f
    (subst (λ (k : ℕ). ComputedJust s next (p * f + n * f) k) more_m (ComputedJust-then s now next (p * f) (n * f) (p * m) (n * m) found one))

-- what holds at the places before and at n more holds at all of them
places_next : (P : ℕ → Type 0) (p n : ℕ) → ((q : ℕ) → q < p → P q) → ((q : ℕ) → q < n → P (p + q)) → (q : ℕ) → q < p + n → P q
places_next P p n old here q below = elim (cases_lt q p) [
  | inl early ↦ old q early
  | inr late ↦ subst P (let e : p + (q - p) ≡ q = omega (arith, late) in e) (here (q - p) (omega (arith, below, late)))
]

-- node k fails at one of the next places, where none before it does at any
search_fails : (s now next : StoreView) (g : SegmentView) (p n first k : ℕ) (cells after : List ℤ) → Searched s now g p first cells → p + n ≤ size_of g.shape → FailsBefore now g first p n k → OnlyComputed now next (n * functions_in g.nodes) (n * stored_in g.nodes) → Searched s next g (p + n) k after
search_fails s now next g p n first k cells after found within fault cost =
    let same : (q j : ℕ) → fails_in now g q j ≡ fails_in s g q j = λ q j. fails_counted s now (index_at g.shape q) g.nodes j [] found.cost.only in
    let less : k < length g.nodes = omega (arith, found.few, fault.below) in
    record {
      few = omega (arith, less);
      clear = places_next (λ q. (j : ℕ) → j < k → fails_in s g q j ≡ false) p n (λ q early j h. found.clear q early j (omega (arith, h, fault.below))) (λ q h j before. sym (same (p + q) j) ∙ fault.none q h j before);
      found = λ h. (
        index_at g.shape (p + fault.place),
        IsIndex-index_at g.shape (p + fault.place) (omega (arith, within, fault.within)),
        sym (same (p + fault.place) k) ∙ fault.fails,
      );
      count = λ h. absurd (omega (arith, h, less));
      values = λ h. absurd (omega (arith, h, less));
      lawful = λ h. absurd (omega (arith, h, less));
      cost = cost_next s now next p n (functions_in g.nodes) (stored_in g.nodes) found.cost cost;
      exact = λ h. absurd (omega (arith, h, less));
    }

-- where a node has failed before, the cells are given up
search_passes : (s now next : StoreView) (g : SegmentView) (p n first : ℕ) (cells after : List ℤ) → Searched s now g p first cells → first < length g.nodes → PassesAll now next g first p n cells after → OnlyComputed now next (n * functions_in g.nodes) (n * stored_in g.nodes) → Searched s next g (p + n) first after
search_passes s now next g p n first cells after found some pass cost = record {
  few = found.few;
  clear = places_next (λ q. (j : ℕ) → j < first → fails_in s g q j ≡ false) p n found.clear (λ q h j before. sym (fails_counted s now (index_at g.shape (p + q)) g.nodes j [] found.cost.only) ∙ pass.none q h j before);
  found = found.found;
  count = λ h. absurd (omega (arith, h, some));
  values = λ h. absurd (omega (arith, h, some));
  lawful = λ h. absurd (omega (arith, h, some));
  cost = cost_next s now next p n (functions_in g.nodes) (stored_in g.nodes) found.cost cost;
  exact = λ h. absurd (omega (arith, h, some));
}

-- the cells of n places more
values_next : (s : StoreView) (g : SegmentView) (p n : ℕ) (cells column : List ℤ) → length cells ≡ p → ((q : ℕ) → q < p → values_in s g q ≡ defined (element_in Num cells q ∷ [])) → ((q : ℕ) → q < n → values_in s g (p + q) ≡ defined (element_in Num column q ∷ [])) → (q : ℕ) → q < p + n → values_in s g q ≡ defined (element_in Num (cells ++ column) q ∷ [])
values_next s g p n cells column many old here =
    let one : ℤ → List (Option Elem) = λ c. defined (element Num c ∷ []) in
    let late : (q : ℕ) → cell_in (cells ++ column) (p + q) ≡ cell_in column q =
    λ q. ap (λ (m : ℕ). cell_in (cells ++ column) (m + q)) (sym many) ∙ get_or-append-add cells column q (pos 0) in
    places_next (λ q. values_in s g q ≡ defined (element_in Num (cells ++ column) q ∷ [])) p n
    (λ q h. old q h ∙ ap one (sym (get_or_append_left cells column (pos 0) q (omega (arith, h, many)))))
    (λ q h. here q h ∙ ap one (sym (late q)))

search_gains : (s now next : StoreView) (g : SegmentView) (p n first : ℕ) (cells column : List ℤ) → Searched s now g p first cells → first ≡ length g.nodes → ((q : ℕ) → q < n → (j : ℕ) → j < first → fails_in now g (p + q) j ≡ false) → length column ≡ n → All (IsCell Num) column → ((q : ℕ) → q < n → values_in now g (p + q) ≡ defined (element_in Num column q ∷ [])) → ComputedJust now next (n * functions_in g.nodes) (n * stored_in g.nodes) → OnlyComputed now next (n * functions_in g.nodes) (n * stored_in g.nodes) → Searched s next g (p + n) first (cells ++ column)
search_gains s now next g p n first cells column found whole none many lawful leaves just cost = record {
  few = found.few;
  clear = places_next (λ q. (j : ℕ) → j < first → fails_in s g q j ≡ false) p n found.clear (λ q h j before. sym (fails_counted s now (index_at g.shape (p + q)) g.nodes j [] found.cost.only) ∙ none q h j before);
  found = found.found;
  count = λ h. omega (arith, length-append cells column, found.count whole, many);
  values = λ h. values_next s g p n cells column (found.count whole) (found.values whole) (λ q below. sym (values_counted s now (index_at g.shape (p + q)) g.nodes [] found.cost.only) ∙ leaves q below);
  lawful = λ h. All-append (IsCell Num) cells column (found.lawful whole) lawful;
  cost = cost_next s now next p n (functions_in g.nodes) (stored_in g.nodes) found.cost cost;
  exact = λ h. just_next s now next p n (functions_in g.nodes) (stored_in g.nodes) (found.exact h) just;
}

-- a block more
pub search_next : (s now next : StoreView) (g : SegmentView) (p n first : ℕ) (cells after : List ℤ) (o : Option ℕ) → Searched s now g p first cells → p + n ≤ size_of g.shape → IsVisit now next g first p n cells after o → OnlyComputed now next (n * functions_in g.nodes) (n * stored_in g.nodes) → Searched s next g (p + n) (unwrap_or o first) after
search_next s now next g p n first cells after (Some k) found within visit cost =
    search_fails s now next g p n first k cells after found within visit cost
search_next s now next g p n first cells after None found within visit cost = elim (cases_lt first (length g.nodes)) [
  | inl some ↦ search_passes s now next g p n first cells after found some visit cost
  | inr most ↦
      let whole : first ≡ length g.nodes = omega (arith, most, found.few) in
      let gain : GainsCells now next g p n cells after = visit.all whole in
      subst (λ (cs : List ℤ). Searched s next g (p + n) first cs) (sym gain.gained)
      (search_gains s now next g p n first cells gain.column found whole visit.none gain.count gain.lawful gain.leaves gain.just cost)
]

-- ---- at the end

no_node : (s : StoreView) (i : List ℕ) (xs : List Node) (k : ℕ) (st : List (Option Elem)) → length xs ≤ k → fails_at s i xs k st ≡ false
no_node s i [] k st h = refl
no_node s i (x ∷ xs) zero st h = absurd (omega (arith, h))
no_node s i (x ∷ xs) (suc k) st h = no_node s i xs k (value_at s i x st) (omega (arith, h))

apart : (b : Bool) → IsTrue b → b ≡ false → ⊥
apart b t f = absurd (cc)

-- no node before `first` fails at any index
none_before : (s now : StoreView) (g : SegmentView) (p first : ℕ) (cells : List ℤ) → Searched s now g p first cells → size_of g.shape ≤ p → (j : ℕ) → j < first → Fails s g j → ⊥
none_before s now g p first cells found all j h fails =
    let i : List ℕ = fails.0 in
    let below : place_at g.shape i < size_of g.shape = place_at-below g.shape i fails.1 in
    apart (fails_at s i g.nodes j []) fails.2
    (ap (λ (x : List ℕ). fails_at s x g.nodes j []) (sym (index_at-place_at g.shape i fails.1)) ∙ found.clear (place_at g.shape i) (omega (arith, below, all)) j h)

pub search_finds : (s now : StoreView) (g : SegmentView) (p first : ℕ) (cells : List ℤ) → Searched s now g p first cells → size_of g.shape ≤ p → first < length g.nodes → IsFirstFault s g first
search_finds s now g p first cells found all some = record {
  fails = found.found some;
  least = λ j h. none_before s now g p first cells found all j h;
}

many_kind : (xs : List Node) → only_leaf xs ≡ None → kind_of_nodes xs ≡ Num
many_kind [] h = refl
many_kind (Operand leaf ∷ []) h = absurd (cc)
many_kind (Operand leaf ∷ x ∷ xs) h = refl
many_kind (One f p ∷ xs) h = refl
many_kind (Two f p ∷ xs) h = refl

computes : (s now : StoreView) (g : SegmentView) (p first : ℕ) (cells : List ℤ) → IsSegment g → only_leaf g.nodes ≡ None → Searched s now g p first cells → p ≡ size_of g.shape → first ≡ length g.nodes → HasElements s now g cells
computes s now g p first cells seg many found all whole =
    record {
      array = record {
        none = λ k fails. elim (cases_lt k first) [
          | inl less ↦ none_before s now g p first cells found (omega (arith, all)) k less fails
          | inr most ↦ apart (fails_at s fails.0 g.nodes k []) fails.2 (no_node s fails.0 g.nodes k [] (omega (arith, most, whole)))
        ];
        kind = sym (seg.kind ∙ many_kind g.nodes many);
        shape = refl;
        count = found.count whole ∙ all;
        cells = λ i index.
            let below : place_at g.shape i < size_of g.shape = place_at-below g.shape i index in
            ap (λ (x : List ℕ). values_at s x g.nodes []) (sym (index_at-place_at g.shape i index))
            ∙ found.values whole (place_at g.shape i) (omega (arith, below, all));
      };
      lawful = found.lawful whole;
      just = subst (λ (n : ℕ). ComputedJust s now (n * functions_in g.nodes) (n * stored_in g.nodes)) all (found.exact whole);
    }

pub search_computes : (s now : StoreView) (g : SegmentView) (p first : ℕ) (cells : List ℤ) → IsSegment g → only_leaf g.nodes ≡ None → Searched s now g p first cells → p ≤ size_of g.shape → size_of g.shape ≤ p → length g.nodes ≤ first → HasElements s now g cells
search_computes s now g p first cells seg many found within all past =
    computes s now g p first cells seg many found (omega (arith, all, within)) (omega (arith, found.few, past))

-- ---- on the way

upto : (s now : StoreView) (p n f m : ℕ) → p ≤ n → OnlyComputed s now (p * f) (p * m) → OnlyComputed s now (n * f) (n * m)
upto s now p n f m h cost = OnlyComputed-more s now (p * f) (n * f) (p * m) (n * m) (mul-le-mul_right f h) (mul-le-mul_right m h) cost

-- so far no more was done than over all places
pub search_costs : (s now : StoreView) (g : SegmentView) (p first : ℕ) (cells : List ℤ) → Searched s now g p first cells → p ≤ size_of g.shape → OnlyComputed s now (applications g) (fetches g)
search_costs s now g p first cells found within = upto s now p (size_of g.shape) (functions_in g.nodes) (stored_in g.nodes) within found.cost

-- nor with a block more
pub search_costs_next : (s now next : StoreView) (g : SegmentView) (p n first : ℕ) (cells : List ℤ) → Searched s now g p first cells → p + n ≤ size_of g.shape → OnlyComputed now next (n * functions_in g.nodes) (n * stored_in g.nodes) → OnlyComputed s next (applications g) (fetches g)
search_costs_next s now next g p n first cells found within cost =
    upto s next (p + n) (size_of g.shape) (functions_in g.nodes) (stored_in g.nodes) within
    (cost_next s now next p n (functions_in g.nodes) (stored_in g.nodes) found.cost cost)

-- ---- what the search answers

-- after p places: the first node that fails at one of them, if one does, and the cells where none does
pub record Finds (s now : StoreView) (g : SegmentView) (p : ℕ) (failed : Option ℕ) (cells : List ℤ) : Type 0 where
  pub below : ForSome failed (λ k. k < length g.nodes)
  pub searched : Searched s now g p (unwrap_or failed (length g.nodes)) cells

pub find_starts : (s : StoreView) (g : SegmentView) (cells : List ℤ) → AreCounts s.counts → cells ≡ [] → Finds s s g 0 None cells
find_starts s g cells small empty = record {
  below = λ k h. absurd (cc);
  searched = search_starts s g (length g.nodes) cells small refl empty;
}

same : (k j : ℕ) → Some k ≡ Some j → k ≡ j
same k j h = cc

-- a block more
pub find_next : (s now next : StoreView) (g : SegmentView) (p n : ℕ) (cells after : List ℤ) (failed earlier : Option ℕ)
    → Finds s now g p failed cells → p + n ≤ size_of g.shape
    → IsVisit now next g (unwrap_or failed (length g.nodes)) p n cells after earlier
    → OnlyComputed now next (n * functions_in g.nodes) (n * stored_in g.nodes)
    → Finds s next g (p + n) (option_or earlier failed) after
find_next s now next g p n cells after failed None found within visit cost = record {
  below = found.below;
  searched = search_next s now next g p n (unwrap_or failed (length g.nodes)) cells after None found.searched within visit cost;
}
find_next s now next g p n cells after failed (Some k) found within visit cost = record {
  below = λ j is. omega (arith, same k j is, visit.below, found.searched.few);
  searched = search_next s now next g p n (unwrap_or failed (length g.nodes)) cells after (Some k) found.searched within visit cost;
}

pub find_finds : (s now : StoreView) (g : SegmentView) (p : ℕ) (failed : Option ℕ) (cells : List ℤ)
    → Finds s now g p failed cells → size_of g.shape ≤ p → ForSome failed (IsFirstFault s g)
find_finds s now g p None cells found all k is = absurd (cc)
find_finds s now g p (Some j) cells found all k is =
    subst (IsFirstFault s g) (same j k is) (search_finds s now g p j cells found.searched all (found.below j refl))

pub find_computes : (s now : StoreView) (g : SegmentView) (p : ℕ) (failed : Option ℕ) (cells : List ℤ)
    → IsSegment g → only_leaf g.nodes ≡ None → Finds s now g p failed cells → p ≤ size_of g.shape → size_of g.shape ≤ p
    → failed ≡ None → HasElements s now g cells
find_computes s now g p None cells seg many found within all is =
    search_computes s now g p (length g.nodes) cells seg many found.searched within all (omega arith)
find_computes s now g p (Some k) cells seg many found within all is = absurd (cc)

-- a node that fails is one of the nodes
pub fault_below : (s : StoreView) (g : SegmentView) (k : ℕ) → IsFirstFault s g k → k < length g.nodes
fault_below s g k fault = elim (cases_lt k (length g.nodes)) [
  | inl less ↦ less
  | inr most ↦ absurd (apart (fails_at s fault.fails.0 g.nodes k []) fault.fails.2 (no_node s fault.fails.0 g.nodes k [] (omega (arith, most))))
]
