-- The names that head definitions, gathered one after the other.
use Rattle.std.proofs.Common.{◌≡◌, ℕ, ◌+◌, ◌<◌, List, [], ◌∷◌, ◌++◌, take, map, length, get_or, refl, ap, sym, subst, arith, ◌∙◌, append-nil, Some, None}
use Rattle.std.specs.List.{AllByRecursion, filter_map}
use Rattle.std.specs.List.Sorted.{IsPermutation, IsSortedBy}
use Rattle.std.specs.Ordering.{is_lt, nat_cmp}
use Rattle.std.specs.Cmp.Lexicographic.{slice_cmp}
use Rattle.std.specs.Borrow.{Bor}
use Rattle.std.specs.Str.{IsUtf8, chars}
use Rattle.std.proofs.lemmas.List.{take_more, get_or-map, length-map}
use Rattle.std.proofs.lemmas.List.Elements.{filter_map-append}
use Rattle.std.proofs.lemmas.List.Sorted.{IsPermutation-map}
use Rattle.name_table.proofs.OrderLemmas.{names_sorted}
use Rattle.apl_model.specs.declared.outlines.OutlineItem.{OutlineItem}
use Rattle.apl_model.specs.Immediate.{in_byte_order}
use Rattle.apl_compile.specs.Running.{function_of}

-- these texts are the names of the items
pub record Gathered (texts : List (Bor (List ℕ))) (items : List OutlineItem) : Type 0 where
  pub names : map (λ t. chars t.now) texts ≡ filter_map function_of items
  pub utf8 : AllByRecursion (λ t. IsUtf8 t.now) texts

-- none
pub gathered_none : Gathered [] []
gathered_none = record { names = refl; utf8 = tt }

map_push : {X Y : Type 0} (f : X → Y) (xs : List X) (x : X) → map f (xs ++ x ∷ []) ≡ map f xs ++ f x ∷ []
map_push f [] x = refl
map_push f (y ∷ xs) x = ap (λ ys. f y ∷ ys) (map_push f xs x)

all_push : {X : Type 0} (P : X → Type 0) (xs : List X) (x : X) → AllByRecursion P xs → P x → AllByRecursion P (xs ++ x ∷ [])
all_push P [] x all p = (p, tt)
all_push P (y ∷ xs) x all p = (all.0, all_push P xs x all.1 p)

functions_push : (items : List OutlineItem) (item : OutlineItem) → filter_map function_of (items ++ item ∷ []) ≡ filter_map function_of items ++ filter_map function_of (item ∷ [])
functions_push items item = filter_map-append function_of items (item ∷ [])

one_function : (item : OutlineItem) (name : List ℕ) → function_of item ≡ Some name → filter_map function_of (item ∷ []) ≡ name ∷ []
one_function item name e = rw e refl

no_function : (item : OutlineItem) → function_of item ≡ None → filter_map function_of (item ∷ []) ≡ []
no_function item e = rw e refl

-- an item that heads a definition adds its name
pub gathered_more : (texts new : List (Bor (List ℕ))) (items : List OutlineItem) (at : ℕ) (text : Bor (List ℕ)) (item : OutlineItem) → at < length items
    → item ≡ get_or items at item → function_of item ≡ Some (chars text.now) → IsUtf8 text.now → Gathered texts (take at items) → new ≡ texts ++ text ∷ []
    → Gathered new (take (at + 1) items)
gathered_more texts new items at text item inside is head utf8 g e =
    let first : List OutlineItem = take at items in
    let more : take (at + 1) items ≡ first ++ item ∷ [] = take_more items at item inside ∙ ap (λ x. first ++ x ∷ []) (sym is) in
    record {
      names = ap (map (λ t. chars t.now)) e ∙ map_push (λ (t : Bor (List ℕ)). chars t.now) texts text
          ∙ ap (λ ns. ns ++ chars text.now ∷ []) g.names
          ∙ ap (λ ns. filter_map function_of first ++ ns) (sym (one_function item (chars text.now) head))
          ∙ sym (functions_push first item) ∙ ap (filter_map function_of) (sym more);
      utf8 = subst (AllByRecursion (λ (t : Bor (List ℕ)). IsUtf8 t.now)) (sym e) (all_push (λ (t : Bor (List ℕ)). IsUtf8 t.now) texts text g.utf8 utf8);
    }

-- any other adds nothing
pub gathered_same : (texts : List (Bor (List ℕ))) (items : List OutlineItem) (at : ℕ) (item : OutlineItem) → at < length items
    → item ≡ get_or items at item → function_of item ≡ None → Gathered texts (take at items) → Gathered texts (take (at + 1) items)
gathered_same texts items at item inside is none g =
    let first : List OutlineItem = take at items in
    let more : take (at + 1) items ≡ first ++ item ∷ [] = take_more items at item inside ∙ ap (λ x. first ++ x ∷ []) (sym is) in
    record {
      names = g.names ∙ sym (append-nil (filter_map function_of first)) ∙ ap (λ ns. filter_map function_of first ++ ns) (sym (no_function item none))
          ∙ sym (functions_push first item) ∙ ap (filter_map function_of) (sym more);
      utf8 = g.utf8;
    }

-- all of them, sorted by their bytes
pub sorted_names : (texts sorted : List (Bor (List ℕ))) (names : List (List ℕ)) (items : List OutlineItem) → Gathered texts items → IsPermutation texts sorted
    → IsSortedBy (λ x y. is_lt (slice_cmp nat_cmp x.now y.now)) sorted → names ≡ map (λ t. chars t.now) sorted → names ≡ in_byte_order (filter_map function_of items)
sorted_names texts sorted names items g p up is =
    is
    ∙ sym (map-map sorted)
    ∙ names_sorted (map (λ t. t.now) texts) (map (λ t. t.now) sorted) (utf8 texts g.utf8) (IsPermutation-map (λ (t : Bor (List ℕ)). t.now) texts sorted p) (sorted_now sorted up)
    ∙ ap in_byte_order (map-map texts ∙ g.names)
  where
    map-map : (ts : List (Bor (List ℕ))) → map chars (map (λ t. t.now) ts) ≡ map (λ t. chars t.now) ts
    map-map [] = refl
    map-map (t ∷ ts) = ap (λ (ns : List (List ℕ)). chars t.now ∷ ns) (map-map ts)

    utf8 : (ts : List (Bor (List ℕ))) → AllByRecursion (λ t. IsUtf8 t.now) ts → AllByRecursion IsUtf8 (map (λ t. t.now) ts)
    utf8 [] all = tt
    utf8 (t ∷ ts) all = (all.0, utf8 ts all.1)

    sorted_now : (ts : List (Bor (List ℕ))) → IsSortedBy (λ x y. is_lt (slice_cmp nat_cmp x.now y.now)) ts → IsSortedBy (λ x y. is_lt (slice_cmp nat_cmp x y)) (map (λ t. t.now) ts)
    sorted_now ts up k d low high =
        let nothing : Bor (List ℕ) = record { ref_ptr = (0, 0); now = d } in
        let few : k + 1 < length ts = omega (arith, high, length-map ts (λ (t : Bor (List ℕ)). t.now)) in
        ap (λ (x : List ℕ). is_lt (slice_cmp nat_cmp x (get_or (map (λ t. t.now) ts) k d))) (get_or-map (λ (t : Bor (List ℕ)). t.now) ts (k + 1) nothing d few)
        ∙ ap (λ (x : List ℕ). is_lt (slice_cmp nat_cmp (get_or ts (k + 1) nothing).now x)) (get_or-map (λ (t : Bor (List ℕ)). t.now) ts k nothing d (omega (arith, few)))
        ∙ up k nothing low few
