-- A visit of a block of places: from a run over the first nodes to what it says of all nodes.
use Rattle.std.proofs.Common.{◌≡◌, ℕ, ◌+◌, ◌*◌, ◌<◌, ◌≤◌, ℤ, pos, false, List, [], ◌∷◌, ◌++◌, length, take, Option, Some, None, refl, sym, ap, ◌∙◌, subst, arith}
use Rattle.std.specs.List.{AllByRecursion}
use Rattle.std.proofs.lemmas.List.{take_all, length-take-le}
use Rattle.std.proofs.lemmas.List.Elements.{All-from_get_or}
use Rattle.apl_base.specs.declared.cells.Kind.{Kind}
use Rattle.apl_base.specs.declared.cells.Kind.TheVariants.{Num}
use Rattle.apl_base.specs.declared.cells.Elem.{Elem}
use Rattle.apl_base.specs.Array.{index_at}
use Rattle.apl_base.specs.Number.{IsCell}
use Rattle.array_store.specs.Stores.{StoreView}
use Rattle.array_store.specs.Counting.{OnlyComputed, ComputedJust}
use Rattle.array_store.proofs.CountingLemmas.{OnlyComputed-more}
use Rattle.drag_along.specs.declared.nodes.Node.{Node}
use Rattle.drag_along.specs.Nodes.{leaf_shape, functions_in, stored_in, pending_after}
use Rattle.drag_along.specs.Segments.{SegmentView, IsSegment}
use Rattle.drag_along.specs.Meaning.{values_at}
use Rattle.drag_along.specs.Views.{only_leaf}
use Rattle.scalar_table.specs.Columns.{cell_in, element_in}
use Rattle.scalar_table.specs.Row.{IsElement}
use Rattle.e_machine.specs.declared.columns.Columns.{Columns}
use Rattle.e_machine.specs.Columns.{pending_at, pending_in, AreColumns}
use Rattle.e_machine.specs.Runs.{HaveIndex, defined, HasValues, FailsFirst, fails_in, values_in, PassesAll, FailsBefore}
use Rattle.e_machine.proofs.BlockRuns.{times-le}
use Rattle.e_machine.proofs.FirstNodes.{EndsInNumber, take_fails, take_readable, functions_in-take, stored_in-take, all_index, nodes_end_in_number}

-- the cost of the first nodes is at most that of all
pub visit_costs : (old new : StoreView) (n first : ℕ) (xs : List Node) → OnlyComputed old new (n * functions_in (take first xs)) (n * stored_in (take first xs)) → OnlyComputed old new (n * functions_in xs) (n * stored_in xs)
visit_costs old new n first xs cost =
    OnlyComputed-more old new (n * functions_in (take first xs)) (n * functions_in xs) (n * stored_in (take first xs)) (n * stored_in xs)
    (times-le n (functions_in (take first xs)) (functions_in xs) (functions_in-take first xs))
    (times-le n (stored_in (take first xs)) (stored_in xs) (stored_in-take first xs)) cost

-- the first nodes have the index of a place of the segment's shape
first_index : (g : SegmentView) (limit p : ℕ) → IsSegment g → HaveIndex p (index_at g.shape p) (take limit g.nodes)
first_index g limit p seg = take_readable (λ leaf. index_at g.shape p ≡ index_at (leaf_shape leaf) p) limit g.nodes (all_index g.shape p g.nodes seg.leaves)

pub visit_fails : (s : StoreView) (g : SegmentView) (limit first n k : ℕ) → IsSegment g → limit ≤ length g.nodes → FailsFirst s first n (take limit g.nodes) k → FailsBefore s g limit first n k
visit_fails s g limit first n k seg few fault =
    let short : length (take limit g.nodes) ≡ limit = length-take-le limit g.nodes few in
    let less : k < limit = omega (arith, fault.there, short) in
    record {
      below = less;
      place = fault.place;
      within = fault.within;
      fails = sym (take_fails s (index_at g.shape (first + fault.place)) limit g.nodes k [] less) ∙ fault.fails (index_at g.shape (first + fault.place)) (first_index g limit (first + fault.place) seg);
      none = λ q h j before.
          sym (take_fails s (index_at g.shape (first + q)) limit g.nodes j [] (omega (arith, before, less)))
          ∙ fault.before q h (index_at g.shape (first + q)) (first_index g limit (first + q) seg) j before;
    }

-- none of the nodes that ran failed
none_failed : (s : StoreView) (g : SegmentView) (limit first n : ℕ) (columns : Columns) → IsSegment g → HasValues s first n (take limit g.nodes) columns → (q : ℕ) → q < n → (j : ℕ) → j < limit → fails_in s g (first + q) j ≡ false
none_failed s g limit first n columns seg run q h j before =
    sym (take_fails s (index_at g.shape (first + q)) limit g.nodes j [] before)
    ∙ run.none q h (index_at g.shape (first + q)) (first_index g limit (first + q) seg) j

-- where not all nodes were run, that none failed is all that is known
pub visit_passes : (old new : StoreView) (g : SegmentView) (limit first n : ℕ) (columns : Columns) (cells after : List ℤ) → IsSegment g → HasValues old first n (take limit g.nodes) columns → (limit ≡ length g.nodes → ⊥) → PassesAll old new g limit first n cells after
visit_passes old new g limit first n columns cells after seg run some = record {
  none = none_failed old g limit first n columns seg run;
  all = λ h. absurd (some h);
}

-- ---- all nodes leave one column

-- one column is as long as there are places, and its cells are those pending
record IsOneColumn (n : ℕ) (columns : Columns) : Type 0 where
  pub kind : Kind
  pub count : length columns.cells.items ≡ n
  pub pending : (q : ℕ) → pending_in n columns q ≡ element_in kind columns.cells.items q ∷ []

one_column : (n : ℕ) (columns : Columns) (ks : List Kind) → columns.kinds ≡ ks → length ks ≡ 1 → AreColumns n columns → IsOneColumn n columns
one_column n columns [] is one are = absurd (omega (arith, one))
one_column n columns (k ∷ []) is one are = record {
  kind = k;
  count = are.count ∙ ap (λ (ks : List Kind). length ks * n) is ∙ (let e : 1 * n ≡ n = omega arith in e);
  pending = λ q. ap (λ (ks : List Kind). pending_at n columns.cells.items ks q) is
      ∙ ap (λ (m : ℕ). element_in k columns.cells.items m ∷ []) (let e : 0 * n + q ≡ q = omega arith in e);
}
one_column n columns (k ∷ m ∷ ks) is one are = absurd (omega (arith, one))

-- which is one of numbers, where they are not one leaf
number_of : (k : Kind) (c : ℤ) (values : List (Option Elem)) → values ≡ defined (record { kind = k; cell = c } ∷ []) → EndsInNumber values → k ≡ Num
number_of k c values is ends = subst EndsInNumber is ends

some_same : (a b : ℕ) → Some a ≡ Some b → a ≡ b
some_same a b e = cc

pub visit_gains : (old new : StoreView) (g : SegmentView) (limit first n : ℕ) (columns : Columns) (cells after : List ℤ) → IsSegment g → only_leaf g.nodes ≡ None → limit ≡ length g.nodes → HasValues old first n (take limit g.nodes) columns → ComputedJust old new (n * functions_in (take limit g.nodes)) (n * stored_in (take limit g.nodes)) → after ≡ cells ++ columns.cells.items → PassesAll old new g limit first n cells after
visit_gains old new g limit first n columns cells after seg many all run just gained =
    let same : take limit g.nodes ≡ g.nodes = take_all limit g.nodes (omega (arith, all)) in
    let left : Some (length columns.kinds) ≡ Some 1 = sym run.kinds ∙ ap (λ (xs : List Node). pending_after xs 0) same ∙ seg.whole in
    let one : IsOneColumn n columns = one_column n columns columns.kinds refl (some_same (length columns.kinds) 1 left) run.columns_are in
    let leaves : (q : ℕ) → q < n → values_in old g (first + q) ≡ defined (element_in one.kind columns.cells.items q ∷ []) =
    λ q h. ap (λ (xs : List Node). values_at old (index_at g.shape (first + q)) xs []) (sym same)
    ∙ run.leaves q h (index_at g.shape (first + q)) (first_index g limit (first + q) seg) ∙ ap defined (one.pending q) in
    let number : (q : ℕ) → q < n → one.kind ≡ Num =
    λ q h. number_of one.kind (cell_in columns.cells.items q) (values_in old g (first + q)) (leaves q h) (nodes_end_in_number old (index_at g.shape (first + q)) g.nodes many seg.whole) in
    let lawful : (q : ℕ) → q < n → IsCell one.kind (cell_in columns.cells.items q) =
    λ q h. (subst (AllByRecursion IsElement) (one.pending q) (run.columns_are.lawful q h)).0 in
    record {
      none = none_failed old g limit first n columns seg run;
      all = λ h. record {
        column = columns.cells.items;
        count = one.count;
        gained = gained;
        lawful = All-from_get_or (IsCell Num) columns.cells.items (pos 0)
            (λ q below. let less : q < n = omega (arith, below, one.count) in subst (λ (k : Kind). IsCell k (cell_in columns.cells.items q)) (number q less) (lawful q less));
        leaves = λ q below. leaves q below ∙ ap (λ (k : Kind). defined (element_in k columns.cells.items q ∷ [])) (number q below);
        just = subst (λ (xs : List Node). ComputedJust old new (n * functions_in xs) (n * stored_in xs)) same just;
      };
    }
