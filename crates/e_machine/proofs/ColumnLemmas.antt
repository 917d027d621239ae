-- Columns of cells: what is pending at a place after a leaf is read, or a function applied.
use Rattle.std.proofs.Common.{◌≡◌, ℕ, suc, ◌+◌, ◌-◌, ◌*◌, ◌<◌, ℤ, pos, false, true, Bool, not, IsTrue, All, List, [], ◌∷◌, ◌++◌, length, map, take, drop, Option, Some, None, refl, sym, ap, ◌∙◌, subst, arith, length-append}
use Rattle.std.specs.Prelude.{is_none}
use Rattle.std.specs.Option.{is_some}
use Rattle.std.specs.List.{AllByRecursion}
use Rattle.std.proofs.lemmas.List.{map-append, get_or_append_left, get_or-append-add, get_or-take, get_or-drop, length-take-le}
use Rattle.std.proofs.lemmas.List.Elements.{All-from_get_or}
use Rattle.apl_base.specs.declared.cells.Kind.{Kind}
use Rattle.apl_base.specs.declared.cells.Kind.TheVariants.{Num}
use Rattle.apl_base.specs.declared.cells.Elem.{Elem}
use Rattle.apl_base.specs.declared.faults.Place.{Place}
use Rattle.apl_base.specs.declared.rows.Mon.{Mon}
use Rattle.apl_base.specs.declared.rows.Dya.{Dya}
use Rattle.apl_base.specs.Array.{index_at}
use Rattle.apl_base.specs.Elements.{element}
use Rattle.apl_base.specs.Number.{IsNumber, IsCell}
use Rattle.apl_base.specs.Scalar.{number, scalar1, scalar2}
use Rattle.apl_base.specs.Selection.{upward}
use Rattle.apl_base.proofs.Upward.{length-map-upward, get_or-map-upward, upward-append}
use Rattle.array_store.specs.Stores.{StoreView}
use Rattle.drag_along.specs.declared.leaves.Leaf.{Leaf}
use Rattle.drag_along.specs.declared.nodes.Node.TheVariants.{Operand, One, Two}
use Rattle.drag_along.specs.Nodes.{leaf_kind, leaf_shape, pending_after}
use Rattle.drag_along.specs.Meaning.{leaf_cell, fails_on}
use Rattle.scalar_table.specs.Columns.{cell_in, element_in, IsColumn}
use Rattle.scalar_table.specs.Row.{IsElement}
use Rattle.e_machine.specs.declared.columns.Columns.{Columns}
use Rattle.e_machine.specs.Columns.{pending_at, pending_in, AreColumns, AreCellsAt, AreValuesAt, IsColumnAt}
use Rattle.e_machine.specs.Forced.{cells_from}
use Rattle.e_machine.specs.Runs.{defined, Goes, Passes, IsStep}

-- ---- what is pending at a place

-- it depends on the cells of the columns alone
pub pending_same : (n : ℕ) (old new : List ℤ) (ks : List Kind) (q : ℕ) → q < n → ((j : ℕ) → j < length ks * n → cell_in new j ≡ cell_in old j) → pending_at n new ks q ≡ pending_at n old ks q
pending_same n old new [] q h same = refl
pending_same n old new (k ∷ ks) q h same =
    let here : cell_in new (length ks * n + q) ≡ cell_in old (length ks * n + q) = same (length ks * n + q) (omega (arith, h)) in
    let rest : pending_at n new ks q ≡ pending_at n old ks q = pending_same n old new ks q h (λ j less. same j (omega (arith, less))) in
    ap (λ (c : ℤ). element k c ∷ pending_at n new ks q) here ∙ ap (λ (es : List Elem). element_in k old (length ks * n + q) ∷ es) rest

-- a column more
pending_more : (n : ℕ) (cells column : List ℤ) (kind : Kind) (ks : List Kind) (q : ℕ) → q < n → length cells ≡ length ks * n → pending_at n (cells ++ column) (kind ∷ ks) q ≡ element_in kind column q ∷ pending_at n cells ks q
pending_more n cells column kind ks q h many =
    let here : cell_in (cells ++ column) (length ks * n + q) ≡ cell_in column q =
    ap (λ (m : ℕ). cell_in (cells ++ column) (m + q)) (sym many) ∙ get_or-append-add cells column q (pos 0) in
    let rest : pending_at n (cells ++ column) ks q ≡ pending_at n cells ks q =
    pending_same n cells (cells ++ column) ks q h (λ j less. get_or_append_left cells column (pos 0) j (omega (arith, less, many))) in
    ap (λ (c : ℤ). element kind c ∷ pending_at n (cells ++ column) ks q) here ∙ ap (λ (es : List Elem). element_in kind column q ∷ es) rest

-- ---- a leaf is read

-- its cell at a place
read_at_place : (s : StoreView) (leaf : Leaf) (first n q : ℕ) → q < n → cell_in (cells_from s leaf first n) q ≡ leaf_cell s leaf (index_at (leaf_shape leaf) (first + q))
read_at_place s leaf first n q h = get_or-map-upward (λ p. leaf_cell s leaf (index_at (leaf_shape leaf) p)) first n q (pos 0) h

read_pending : (s : StoreView) (leaf : Leaf) (first n : ℕ) (old new : Columns) (q : ℕ) → q < n → AreColumns n old → new.cells.items ≡ old.cells.items ++ cells_from s leaf first n → new.kinds ≡ leaf_kind leaf ∷ old.kinds → pending_in n new q ≡ element (leaf_kind leaf) (leaf_cell s leaf (index_at (leaf_shape leaf) (first + q))) ∷ pending_in n old q
read_pending s leaf first n old new q h are cells kinds =
    ap (λ (cs : List ℤ). pending_at n cs new.kinds q) cells
    ∙ ap (λ (ks : List Kind). pending_at n (old.cells.items ++ cells_from s leaf first n) ks q) kinds
    ∙ pending_more n old.cells.items (cells_from s leaf first n) (leaf_kind leaf) old.kinds q h are.count
    ∙ ap (λ (c : ℤ). element (leaf_kind leaf) c ∷ pending_in n old q) (read_at_place s leaf first n q h)

pub length-cells_from : (s : StoreView) (leaf : Leaf) (first n : ℕ) → length (cells_from s leaf first n) ≡ n
length-cells_from s leaf first n = length-map-upward (λ p. leaf_cell s leaf (index_at (leaf_shape leaf) p)) first n

-- the places so far, and then the next ones
pub cells_more : (s : StoreView) (leaf : Leaf) (m n : ℕ) → cells_from s leaf 0 (m + n) ≡ cells_from s leaf 0 m ++ cells_from s leaf m n
cells_more s leaf m n =
    let cell : ℕ → ℤ = λ p. leaf_cell s leaf (index_at (leaf_shape leaf) p) in
    let from : 0 + m ≡ m = omega arith in
    ap (map cell) (upward-append 0 m n ∙ ap (λ k. upward 0 m ++ upward k n) from) ∙ map-append cell (upward 0 m) (upward m n)

pub read_passes : (s : StoreView) (leaf : Leaf) (first n : ℕ) (old new : Columns) → AreColumns n old → new.cells.items ≡ old.cells.items ++ cells_from s leaf first n → new.kinds ≡ leaf_kind leaf ∷ old.kinds → All (IsCell (leaf_kind leaf)) (cells_from s leaf first n) → Passes s first n (Operand leaf) old new
read_passes s leaf first n old new are cells kinds lawful =
    let more : length new.kinds ≡ suc (length old.kinds) = ap length kinds in
    let column : List ℤ = cells_from s leaf first n in
    record {
      columns = record {
        count = ap length cells ∙ length-append old.cells.items column
            ∙ (let e : length old.cells.items + length column ≡ length new.kinds * n = (let m : length new.kinds * n ≡ suc (length old.kinds) * n = ap (λ (k : ℕ). k * n) more in omega (arith, are.count, length-cells_from s leaf first n, m)) in e);
        lawful = λ q h.
            subst (AllByRecursion IsElement) (sym (read_pending s leaf first n old new q h are cells kinds))
            (subst (IsCell (leaf_kind leaf)) (read_at_place s leaf first n q h) (lawful q (pos 0) (omega (arith, h, length-cells_from s leaf first n))), are.lawful q h);
      };
      kinds = ap (λ (m : ℕ). Some m) (sym more);
      goes = λ q h i index. record {
        passes = refl;
        leaves = ap (λ (j : List ℕ). let e : Elem = element (leaf_kind leaf) (leaf_cell s leaf j) in Some e ∷ defined (pending_in n old q)) index.0
            ∙ ap defined (sym (read_pending s leaf first n old new q h are cells kinds));
      };
    }

-- ---- a function is applied to values

goes_one : (s : StoreView) (i : List ℕ) (f : Mon) (p : Place) (es fs rest : List Elem) (b v : Elem) → es ≡ b ∷ rest → fs ≡ v ∷ rest → scalar1 f b ≡ Some v → Goes s i (One f p) es fs
goes_one s i f p es fs rest b v is are has =
    subst (λ (xs : List Elem). Goes s i (One f p) xs fs) (sym is)
    (subst (λ (ys : List Elem). Goes s i (One f p) (b ∷ rest) ys) (sym are)
    (record { passes = ap is_none has; leaves = ap (λ (o : Option Elem). o ∷ defined rest) has }))

goes_two : (s : StoreView) (i : List ℕ) (f : Dya) (p : Place) (es fs rest : List Elem) (a b v : Elem) → es ≡ a ∷ b ∷ rest → fs ≡ v ∷ rest → scalar2 f a b ≡ Some v → Goes s i (Two f p) es fs
goes_two s i f p es fs rest a b v is are has =
    subst (λ (xs : List Elem). Goes s i (Two f p) xs fs) (sym is)
    (subst (λ (ys : List Elem). Goes s i (Two f p) (a ∷ b ∷ rest) ys) (sym are)
    (record { passes = ap is_none has; leaves = ap (λ (o : Option Elem). o ∷ defined rest) has }))

fails_one : (f : Mon) (p : Place) (es rest : List Elem) (b : Elem) → es ≡ b ∷ rest → scalar1 f b ≡ None → IsTrue (fails_on (One f p) (defined es))
fails_one f p es rest b is none = subst (λ (xs : List Elem). IsTrue (fails_on (One f p) (defined xs))) (sym is) (ap is_none none)

fails_two : (f : Dya) (p : Place) (es rest : List Elem) (a b : Elem) → es ≡ a ∷ b ∷ rest → scalar2 f a b ≡ None → IsTrue (fails_on (Two f p) (defined es))
fails_two f p es rest a b is none = subst (λ (xs : List Elem). IsTrue (fails_on (Two f p) (defined xs))) (sym is) (ap is_none none)

-- ---- a function is applied to columns

-- the columns after it: numbers in the place of the column from `start` on
record Becomes (n start : ℕ) (ks : List Kind) (cells : List ℤ) (new : Columns) : Type 0 where
  pub place : start ≡ length ks * n
  pub count : length new.cells.items ≡ start + n
  pub kinds : new.kinds ≡ Num ∷ ks
  pub older : (j : ℕ) → j < start → cell_in new.cells.items j ≡ cell_in cells j
  pub numbers : (q : ℕ) → q < n → IsNumber (cell_in new.cells.items (start + q))

becomes_pending : (n start : ℕ) (ks : List Kind) (cells : List ℤ) (new : Columns) (q : ℕ) → q < n → Becomes n start ks cells new → pending_in n new q ≡ number (cell_in new.cells.items (start + q)) ∷ pending_at n cells ks q
becomes_pending n start ks cells new q h b =
    let after : List ℤ = new.cells.items in
    let rest : pending_at n after ks q ≡ pending_at n cells ks q =
    pending_same n cells after ks q h (λ j less. b.older j (omega (arith, less, b.place))) in
    ap (λ (kinds : List Kind). pending_at n after kinds q) b.kinds
    ∙ ap (λ (es : List Elem). number (cell_in after (length ks * n + q)) ∷ es) rest
    ∙ ap (λ (m : ℕ). number (cell_in after (m + q)) ∷ pending_at n cells ks q) (sym b.place)

becomes_columns : (n start : ℕ) (ks : List Kind) (cells : List ℤ) (new : Columns) → Becomes n start ks cells new → ((q : ℕ) → q < n → AllByRecursion IsElement (pending_at n cells ks q)) → AreColumns n new
becomes_columns n start ks cells new b lawful = record {
  count = (let m : length new.kinds * n ≡ suc (length ks) * n = ap (λ (k : List Kind). length k * n) b.kinds in omega (arith, b.count, b.place, m));
  lawful = λ q h. subst (AllByRecursion IsElement) (sym (becomes_pending n start ks cells new q h b)) (b.numbers q h, lawful q h);
}

-- what was pending before a function of one argument, at a place of its column
one_pending : (n start : ℕ) (kind : Kind) (ks : List Kind) (old : Columns) (q : ℕ) → old.kinds ≡ kind ∷ ks → start ≡ length ks * n → pending_in n old q ≡ element_in kind old.cells.items (start + q) ∷ pending_at n old.cells.items ks q
one_pending n start kind ks old q kinds place =
    ap (λ (k : List Kind). pending_at n old.cells.items k q) kinds
    ∙ ap (λ (m : ℕ). element_in kind old.cells.items (m + q) ∷ pending_at n old.cells.items ks q) (sym place)

-- and of two
two_pending : (n start : ℕ) (left right : Kind) (ks : List Kind) (old : Columns) (q : ℕ) → old.kinds ≡ left ∷ right ∷ ks → start ≡ length ks * n → pending_in n old q ≡ element_in left old.cells.items (start + n + q) ∷ element_in right old.cells.items (start + q) ∷ pending_at n old.cells.items ks q
two_pending n start left right ks old q kinds place =
    let behind : suc (length ks) * n ≡ start + n = omega (arith, place) in
    ap (λ (k : List Kind). pending_at n old.cells.items k q) kinds
    ∙ ap (λ (m : ℕ). element_in left old.cells.items (m + q) ∷ element_in right old.cells.items (length ks * n + q) ∷ pending_at n old.cells.items ks q) behind
    ∙ ap (λ (m : ℕ). element_in left old.cells.items (start + n + q) ∷ element_in right old.cells.items (m + q) ∷ pending_at n old.cells.items ks q) (sym place)

-- where the columns begin
one_start : (n start : ℕ) (kind : Kind) (ks : List Kind) (old : Columns) → AreColumns n old → old.kinds ≡ kind ∷ ks → start + n ≡ length old.cells.items → start ≡ length ks * n
one_start n start kind ks old are kinds last =
    let m : length old.kinds * n ≡ suc (length ks) * n = ap (λ (k : List Kind). length k * n) kinds in omega (arith, are.count, last, m)

two_start : (n start : ℕ) (left right : Kind) (ks : List Kind) (old : Columns) → AreColumns n old → old.kinds ≡ left ∷ right ∷ ks → start + n + n ≡ length old.cells.items → start ≡ length ks * n
two_start n start left right ks old are kinds last =
    let m : length old.kinds * n ≡ suc (suc (length ks)) * n = ap (λ (k : List Kind). length k * n) kinds in omega (arith, are.count, last, m)

-- their cells are lawful
pub one_lawful : (n start : ℕ) (kind : Kind) (ks : List Kind) (old : Columns) → AreColumns n old → old.kinds ≡ kind ∷ ks → start + n ≡ length old.cells.items → AreCellsAt kind old.cells.items start n
one_lawful n start kind ks old are kinds last = λ q h.
    (subst (AllByRecursion IsElement) (one_pending n start kind ks old q kinds (one_start n start kind ks old are kinds last)) (are.lawful q h)).0

pub two_left : (n start : ℕ) (left right : Kind) (ks : List Kind) (old : Columns) → AreColumns n old → old.kinds ≡ left ∷ right ∷ ks → start + n + n ≡ length old.cells.items → AreCellsAt left old.cells.items (start + n) n
two_left n start left right ks old are kinds last = λ q h.
    (subst (AllByRecursion IsElement) (two_pending n start left right ks old q kinds (two_start n start left right ks old are kinds last)) (are.lawful q h)).0

pub two_right : (n start : ℕ) (left right : Kind) (ks : List Kind) (old : Columns) → AreColumns n old → old.kinds ≡ left ∷ right ∷ ks → start + n + n ≡ length old.cells.items → AreCellsAt right old.cells.items start n
two_right n start left right ks old are kinds last = λ q h.
    (subst (AllByRecursion IsElement) (two_pending n start left right ks old q kinds (two_start n start left right ks old are kinds last)) (are.lawful q h)).1.0

-- `f B` over a column
one_becomes : (n start : ℕ) (value : ℕ → Option Elem) (kind : Kind) (ks : List Kind) (old new : Columns) → AreColumns n old → old.kinds ≡ kind ∷ ks → start + n ≡ length old.cells.items → length new.cells.items ≡ length old.cells.items → new.kinds ≡ Num ∷ ks → AreValuesAt value old.cells.items new.cells.items start n → Becomes n start ks old.cells.items new
one_becomes n start value kind ks old new are kinds last many numbers values = record {
  place = one_start n start kind ks old are kinds last;
  count = many ∙ sym last;
  kinds = numbers;
  older = values.older;
  numbers = values.numbers;
}

pub one_step : (f : Mon) (n start : ℕ) (kind : Kind) (ks : List Kind) (old new : Columns) (o : Option ℕ) → AreColumns n old → old.kinds ≡ kind ∷ ks → start + n ≡ length old.cells.items → length new.cells.items ≡ length old.cells.items → new.kinds ≡ Num ∷ ks → IsColumnAt (λ q. scalar1 f (element_in kind old.cells.items (start + q))) old.cells.items new.cells.items start n o → (s : StoreView) (first : ℕ) (place : Place) → IsStep s first n (One f place) old new (is_none o)
one_step f n start kind ks old new None are kinds last many numbers values s first place =
    let at : start ≡ length ks * n = one_start n start kind ks old are kinds last in
    let b : Becomes n start ks old.cells.items new = one_becomes n start (λ q. scalar1 f (element_in kind old.cells.items (start + q))) kind ks old new are kinds last many numbers values in
    record {
      columns = becomes_columns n start ks old.cells.items new b
          (λ q h. (subst (AllByRecursion IsElement) (one_pending n start kind ks old q kinds at) (are.lawful q h)).1);
      kinds = ap (λ (k : List Kind). pending_after (One f place ∷ []) (length k)) kinds ∙ ap (λ (k : List Kind). Some (length k)) (sym numbers);
      goes = λ q h i index.
          goes_one s i f place (pending_in n old q) (pending_in n new q) (pending_at n old.cells.items ks q) (element_in kind old.cells.items (start + q)) (number (cell_in new.cells.items (start + q)))
          (one_pending n start kind ks old q kinds at) (becomes_pending n start ks old.cells.items new q h b) (values.values q h);
    }
one_step f n start kind ks old new (Some k) are kinds last many numbers values s first place = record {
  place = k;
  within = values.0;
  fails = fails_one f place (pending_in n old k) (pending_at n old.cells.items ks k) (element_in kind old.cells.items (start + k))
      (one_pending n start kind ks old k kinds (one_start n start kind ks old are kinds last)) values.1;
}

-- `A f B` over two columns, of which the newest, A, is then left out
two_becomes : (n start : ℕ) (value : ℕ → Option Elem) (left right : Kind) (ks : List Kind) (old new : Columns) (after : List ℤ) → AreColumns n old → old.kinds ≡ left ∷ right ∷ ks → start + n + n ≡ length old.cells.items → length after ≡ length old.cells.items → new.cells.items ≡ take (start + n) after → new.kinds ≡ Num ∷ ks → AreValuesAt value old.cells.items after start n → Becomes n start ks old.cells.items new
two_becomes n start value left right ks old new after are kinds last many cells numbers values =
    let same : (j : ℕ) → j < start + n → cell_in new.cells.items j ≡ cell_in after j =
    λ j h. ap (λ (cs : List ℤ). cell_in cs j) cells ∙ get_or-take (start + n) after j (pos 0) h in
    record {
      place = two_start n start left right ks old are kinds last;
      count = ap length cells ∙ length-take-le (start + n) after (omega (arith, many, last));
      kinds = numbers;
      older = λ j h. same j (omega (arith, h)) ∙ values.older j h;
      numbers = λ q h. subst IsNumber (sym (same (start + q) (omega (arith, h)))) (values.numbers q h);
    }

pub two_step : (f : Dya) (n start : ℕ) (left right : Kind) (ks : List Kind) (old new : Columns) (after : List ℤ) (o : Option ℕ) → AreColumns n old → old.kinds ≡ left ∷ right ∷ ks → start + n + n ≡ length old.cells.items → length after ≡ length old.cells.items → new.cells.items ≡ take (start + n) after → new.kinds ≡ Num ∷ ks → IsColumnAt (λ q. scalar2 f (element_in left old.cells.items (start + n + q)) (element_in right old.cells.items (start + q))) old.cells.items after start n o → (s : StoreView) (first : ℕ) (place : Place) → IsStep s first n (Two f place) old new (is_none o)
two_step f n start left right ks old new after None are kinds last many cells numbers values s first place =
    let at : start ≡ length ks * n = two_start n start left right ks old are kinds last in
    let value : ℕ → Option Elem = λ q. scalar2 f (element_in left old.cells.items (start + n + q)) (element_in right old.cells.items (start + q)) in
    let b : Becomes n start ks old.cells.items new = two_becomes n start value left right ks old new after are kinds last many cells numbers values in
    let same : (q : ℕ) → q < n → cell_in after (start + q) ≡ cell_in new.cells.items (start + q) =
    λ q h. sym (ap (λ (cs : List ℤ). cell_in cs (start + q)) cells ∙ get_or-take (start + n) after (start + q) (pos 0) (omega (arith, h))) in
    record {
      columns = becomes_columns n start ks old.cells.items new b
          (λ q h. (subst (AllByRecursion IsElement) (two_pending n start left right ks old q kinds at) (are.lawful q h)).1.1);
      kinds = ap (λ (k : List Kind). pending_after (Two f place ∷ []) (length k)) kinds ∙ ap (λ (k : List Kind). Some (length k)) (sym numbers);
      goes = λ q h i index.
          goes_two s i f place (pending_in n old q) (pending_in n new q) (pending_at n old.cells.items ks q) (element_in left old.cells.items (start + n + q)) (element_in right old.cells.items (start + q)) (number (cell_in new.cells.items (start + q)))
          (two_pending n start left right ks old q kinds at) (becomes_pending n start ks old.cells.items new q h b) (values.values q h ∙ ap (λ (c : ℤ). Some (number c)) (same q h));
    }
two_step f n start left right ks old new after (Some k) are kinds last many cells numbers values s first place = record {
  place = k;
  within = values.0;
  fails = fails_two f place (pending_in n old k) (pending_at n old.cells.items ks k) (element_in left old.cells.items (start + n + k)) (element_in right old.cells.items (start + k))
      (two_pending n start left right ks old k kinds (two_start n start left right ks old are kinds last)) values.1;
}

-- ---- the same as the calls say it: the cells before and after, and whether nothing is missing

is_none-from : (o : Option ℕ) (b : Bool) → is_some o ≡ not b → is_none o ≡ b
is_none-from None true h = refl
is_none-from None false h = absurd (cc)
is_none-from (Some k) true h = absurd (cc)
is_none-from (Some k) false h = refl

pub one_last : (n len : ℕ) (kind : Kind) (ks : List Kind) (old : Columns) → AreColumns n old → old.kinds ≡ kind ∷ ks → len ≡ length old.cells.items → len - n + n ≡ length old.cells.items
one_last n len kind ks old are kinds all =
    let m : length old.kinds * n ≡ suc (length ks) * n = ap (λ (k : List Kind). length k * n) kinds in omega (arith, are.count, all, m)

pub two_last : (n len : ℕ) (left right : Kind) (ks : List Kind) (old : Columns) → AreColumns n old → old.kinds ≡ left ∷ right ∷ ks → len ≡ length old.cells.items → len - n - n + n + n ≡ length old.cells.items
two_last n len left right ks old are kinds all =
    let m : length old.kinds * n ≡ suc (suc (length ks)) * n = ap (λ (k : List Kind). length k * n) kinds in omega (arith, are.count, all, m)

pub one_applied : (f : Mon) (n start : ℕ) (kind : Kind) (ks : List Kind) (old new : Columns) (now after : List ℤ) (o : Option ℕ) (b : Bool) → AreColumns n old → old.kinds ≡ kind ∷ ks → start + n ≡ length old.cells.items → now ≡ old.cells.items → length after ≡ length now → new.cells.items ≡ after → new.kinds ≡ Num ∷ ks → IsColumnAt (λ q. scalar1 f (element_in kind now (start + q))) now after start n o → is_some o ≡ not b → (s : StoreView) (first : ℕ) (place : Place) → IsStep s first n (One f place) old new b
one_applied f n start kind ks old new now after o b are kinds last same many cells numbers values passes s first place =
    let placed : IsColumnAt (λ q. scalar1 f (element_in kind old.cells.items (start + q))) old.cells.items new.cells.items start n o =
    subst (λ (cs : List ℤ). IsColumnAt (λ q. scalar1 f (element_in kind old.cells.items (start + q))) old.cells.items cs start n o) (sym cells)
    (subst (λ (cs : List ℤ). IsColumnAt (λ q. scalar1 f (element_in kind cs (start + q))) cs after start n o) same values) in
    subst (λ (p : Bool). IsStep s first n (One f place) old new p) (is_none-from o b passes)
    (one_step f n start kind ks old new o are kinds last (ap length cells ∙ many ∙ ap length same) numbers placed s first place)

pub two_applied : (f : Dya) (n start : ℕ) (left right : Kind) (ks : List Kind) (old new : Columns) (now after : List ℤ) (o : Option ℕ) (b : Bool) → AreColumns n old → old.kinds ≡ left ∷ right ∷ ks → start + n + n ≡ length old.cells.items → now ≡ old.cells.items → length after ≡ length now → new.cells.items ≡ take (start + n) after → new.kinds ≡ Num ∷ ks → IsColumnAt (λ q. scalar2 f (element_in left now (start + n + q)) (element_in right now (start + q))) now after start n o → is_some o ≡ not b → (s : StoreView) (first : ℕ) (place : Place) → IsStep s first n (Two f place) old new b
two_applied f n start left right ks old new now after o b are kinds last same many cells numbers values passes s first place =
    let placed : IsColumnAt (λ q. scalar2 f (element_in left old.cells.items (start + n + q)) (element_in right old.cells.items (start + q))) old.cells.items after start n o =
    subst (λ (cs : List ℤ). IsColumnAt (λ q. scalar2 f (element_in left cs (start + n + q)) (element_in right cs (start + q))) cs after start n o) same values in
    subst (λ (p : Bool). IsStep s first n (Two f place) old new p) (is_none-from o b passes)
    (two_step f n start left right ks old new after o are kinds last (many ∙ ap length same) cells numbers placed s first place)

-- ---- a column among the cells, as a list of its own

-- a column of some cells that have become values, behind others that stay
pub column_placed : (value : ℕ → Option Elem) (old new front column rest : List ℤ) (start n : ℕ) → length front ≡ start → length column ≡ n → ((j : ℕ) → j < start → cell_in old j ≡ cell_in front j) → new ≡ front ++ (column ++ rest) → ((q : ℕ) → q < n → value q ≡ Some (number (cell_in column q))) → ((q : ℕ) → q < n → IsNumber (cell_in column q)) → AreValuesAt value old new start n
column_placed value old new front column rest start n begins many kept is values numbers =
    let there : (q : ℕ) → q < n → cell_in new (start + q) ≡ cell_in column q =
    λ q h. ap (λ (cs : List ℤ). cell_in cs (start + q)) is ∙ ap (λ (m : ℕ). cell_in (front ++ (column ++ rest)) (m + q)) (sym begins)
    ∙ get_or-append-add front (column ++ rest) q (pos 0) ∙ get_or_append_left column rest (pos 0) q (omega (arith, h, many)) in
    record {
      older = λ j h. ap (λ (cs : List ℤ). cell_in cs j) is ∙ get_or_append_left front (column ++ rest) (pos 0) j (omega (arith, h, begins)) ∙ sym (kept j h);
      values = λ q h. values q h ∙ ap (λ (c : ℤ). Some (number c)) (sym (there q h));
      numbers = λ q h. subst IsNumber (sym (there q h)) (numbers q h);
    }

-- the right one of two columns, and the left one behind it
right_cell : (cells columns right : List ℤ) (start n q : ℕ) → q < n → columns ≡ drop start cells → right ≡ take n columns → cell_in right q ≡ cell_in cells (start + q)
right_cell cells columns right start n q h are is =
    ap (λ (cs : List ℤ). cell_in cs q) is ∙ get_or-take n columns q (pos 0) h ∙ ap (λ (cs : List ℤ). cell_in cs q) are ∙ get_or-drop start cells q (pos 0)

left_cell : (cells columns left : List ℤ) (start n q : ℕ) → columns ≡ drop start cells → left ≡ drop n columns → cell_in left q ≡ cell_in cells (start + n + q)
left_cell cells columns left start n q are is =
    ap (λ (cs : List ℤ). cell_in cs q) is ∙ get_or-drop n columns q (pos 0) ∙ ap (λ (cs : List ℤ). cell_in cs (n + q)) are ∙ get_or-drop start cells (n + q) (pos 0)
    ∙ ap (cell_in cells) (let e : start + (n + q) ≡ start + n + q = omega arith in e)

pub right_lawful : (kind : Kind) (cells columns right : List ℤ) (start n : ℕ) → columns ≡ drop start cells → right ≡ take n columns → length right ≡ n → AreCellsAt kind cells start n → All (IsCell kind) right
right_lawful kind cells columns right start n are is many lawful =
    All-from_get_or (IsCell kind) right (pos 0)
    (λ q h. let less : q < n = omega (arith, h, many) in subst (IsCell kind) (sym (right_cell cells columns right start n q less are is)) (lawful q less))

pub left_lawful : (kind : Kind) (cells columns left : List ℤ) (start n : ℕ) → columns ≡ drop start cells → left ≡ drop n columns → length left ≡ n → AreCellsAt kind cells (start + n) n → All (IsCell kind) left
left_lawful kind cells columns left start n are is many lawful =
    All-from_get_or (IsCell kind) left (pos 0)
    (λ q h. let less : q < n = omega (arith, h, many) in subst (IsCell kind) (sym (left_cell cells columns left start n q are is)) (lawful q less))

two_value : (f : Dya) (left_kind right_kind : Kind) (cells columns right left : List ℤ) (start n q : ℕ) → q < n → columns ≡ drop start cells → right ≡ take n columns → left ≡ drop n columns → scalar2 f (element_in left_kind cells (start + n + q)) (element_in right_kind cells (start + q)) ≡ scalar2 f (element_in left_kind left q) (element_in right_kind right q)
two_value f left_kind right_kind cells columns right left start n q h are is_right is_left =
    ap (λ (c : ℤ). scalar2 f (element left_kind c) (element_in right_kind cells (start + q))) (sym (left_cell cells columns left start n q are is_left))
    ∙ ap (λ (c : ℤ). scalar2 f (element_in left_kind left q) (element right_kind c)) (sym (right_cell cells columns right start n q h are is_right))

-- they have become the values where the right one has
pub two_placed : (f : Dya) (left_kind right_kind : Kind) (cells front columns right left after : List ℤ) (start n : ℕ) (o : Option ℕ) → cells ≡ front ++ columns → length front ≡ start → columns ≡ drop start cells → right ≡ take n columns → left ≡ drop n columns → length right ≡ n → length after ≡ length right → IsColumn (λ k. scalar2 f (element_in left_kind left k) (element_in right_kind right k)) after o → (o ≡ None → All IsNumber after) → IsColumnAt (λ q. scalar2 f (element_in left_kind cells (start + n + q)) (element_in right_kind cells (start + q))) cells (front ++ (after ++ left)) start n o
two_placed f left_kind right_kind cells front columns right left after start n None whole begins are is_right is_left many same values numbers =
    column_placed (λ q. scalar2 f (element_in left_kind cells (start + n + q)) (element_in right_kind cells (start + q))) cells (front ++ (after ++ left)) front after left start n begins (same ∙ many)
    (λ j h. ap (λ (cs : List ℤ). cell_in cs j) whole ∙ get_or_append_left front columns (pos 0) j (omega (arith, h, begins))) refl
    (λ q h. two_value f left_kind right_kind cells columns right left start n q h are is_right is_left ∙ values q (omega (arith, h, same, many)))
    (λ q h. numbers refl q (pos 0) (omega (arith, h, same, many)))
two_placed f left_kind right_kind cells front columns right left after start n (Some k) whole begins are is_right is_left many same values numbers =
    let less : k < n = omega (arith, values.within, same, many) in
    (less, two_value f left_kind right_kind cells columns right left start n k less are is_right is_left ∙ values.without)
