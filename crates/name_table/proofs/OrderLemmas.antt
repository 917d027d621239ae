-- Names in the order of their bytes: a list in order that has the same members is the one of the definition.
use Rattle.std.proofs.Common.{◌≡◌, ℕ, zero, suc, ◌+◌, ◌<◌, ◌≤◌, ◌==◌, nat_lt, Bool, true, false, if◌then◌else◌, List, [], ◌∷◌, ◌++◌, map, take, length, get_or, slice_get, Bor, String, Option, Some, None, is_some, refl, sym, ap, ◌∙◌, subst, arith, eqb-true}
use Rattle.std.specs.Prelude.{sum_by}
use Rattle.std.specs.List.{AllByRecursion, filter_map}
use Rattle.std.specs.List.Sorted.{IsPermutation, IsSortedBy}
use Rattle.std.specs.Option.{option_map}
use Rattle.std.specs.Ordering.{is_lt, nat_cmp}
use Rattle.std.specs.declared.cmp.Ordering.{Ordering}
use Rattle.std.specs.Cmp.{IsStrictWeakOrder}
use Rattle.std.specs.Cmp.Lexicographic.{slice_cmp, bytes_decides, nat_list_cmp_total}
use Rattle.std.specs.Str.{bytes_eq, chars, IsUtf8, encode_utf8_all}
use Rattle.std.specs.String.{string_bytes}
use Rattle.std.proofs.lemmas.Bool.Decides.{nat_tests}
use Rattle.std.proofs.lemmas.Cmp.{same_from_slice_cmp}
use Rattle.std.proofs.lemmas.List.{take_more, map_push, append-nil, get_or-map, length-map}
use Rattle.std.proofs.lemmas.List.Elements.{recursion_from_All, filter_map-append}
use Rattle.std.proofs.lemmas.List.Sorted.{ranks_by, sorted_far, sum_by-IsPermutation, IsPermutation-map}
use Rattle.std.proofs.lemmas.List.Sums.{sum_by-cons}
use Rattle.std.proofs.lemmas.Str.{encodes-chars}
use Rattle.apl_model.specs.Environment.{Bindings, set_names}
use Rattle.apl_model.specs.Immediate.{stands_before, bytes_before, name_in, in_byte_order}
use Rattle.name_table.specs.Scopes.{bindings_of}

-- ---- the order of texts

-- it is the one by which std sorts them
before_is : (xs ys : List ℕ) (o : Ordering) → o ≡ slice_cmp nat_cmp xs ys → is_lt o ≡ stands_before xs ys
before_is = same_from_slice_cmp nat_cmp is_lt stands_before refl (λ _ _. refl) (λ _ _. refl) (λ x y xs ys o h. grind (arith, nat_tests))

less : List ℕ → List ℕ → Bool
less xs ys = is_lt (slice_cmp nat_cmp xs ys)

less_is : (xs ys : List ℕ) → less xs ys ≡ stands_before xs ys
unfolding less
less_is xs ys = before_is xs ys (slice_cmp nat_cmp xs ys) refl

ranks : IsStrictWeakOrder less
unfolding less
ranks = ranks_by nat_list_cmp_total (λ (x : List ℕ). x)

one_way : (x y : List ℕ) → stands_before x y ≡ true → stands_before y x ≡ false
one_way x y e = sym (less_is y x) ∙ ranks.one_way x y (less_is x y ∙ e)

chain : (x y z : List ℕ) → stands_before x y ≡ false → stands_before y z ≡ false → stands_before x z ≡ false
chain x y z e f = sym (less_is x z) ∙ ranks.chain x y z (less_is x y ∙ e) (less_is y z ∙ f)

both : true ≡ false → ⊥
both e = cc

-- of two texts that differ one stands before the other
same_place : (x y : List ℕ) → stands_before x y ≡ false → stands_before y x ≡ false → x ≡ y
same_place [] [] e f = refl
same_place [] (y ∷ ys) e f = absurd (both e)
same_place (x ∷ xs) [] e f = absurd (both f)
same_place (x ∷ xs) (y ∷ ys) e f = by (x == y) refl (y == x) refl (same_place xs ys) e f
  where
    by : (s : Bool) → x == y ≡ s → (t : Bool) → y == x ≡ t → (stands_before xs ys ≡ false → stands_before ys xs ≡ false → xs ≡ ys)
        → (if s then stands_before xs ys else nat_lt x y) ≡ false → (if t then stands_before ys xs else nat_lt y x) ≡ false → x ∷ xs ≡ y ∷ ys
    by true p true q rest g h = let heads : x ≡ y = eqb-true x y p in ap (λ (n : ℕ). n ∷ xs) heads ∙ ap (λ (ns : List ℕ). y ∷ ns) (rest g h)
    by true p false q rest g h = grind (arith, nat_tests)
    by false p true q rest g h = grind (arith, nat_tests)
    by false p false q rest g h = grind (arith, nat_tests)

-- ---- lists in order

-- nothing further on stands before
abbrev Ordered : List (List ℕ) → Type 0
Ordered [] = Unit {0}
Ordered (x ∷ xs) = AllByRecursion (λ y. stands_before y x ≡ false) xs × Ordered xs

abbrev put_in : List ℕ → List (List ℕ) → List (List ℕ)
put_in x [] = x ∷ []
put_in x (y ∷ ys) = if stands_before y x then y ∷ put_in x ys else x ∷ y ∷ ys

abbrev in_order : List (List ℕ) → List (List ℕ)
in_order [] = []
in_order (x ∷ xs) = put_in x (in_order xs)

-- what is so of each is so where one is put in
put_all : (P : List ℕ → Type 0) (x : List ℕ) (ys : List (List ℕ)) → P x → AllByRecursion P ys → AllByRecursion P (put_in x ys)
put_all P x [] so all = (so, tt)
put_all P x (y ∷ ys) so all = by (stands_before y x) (put_all P x ys so all.1)
  where
    by : (t : Bool) → AllByRecursion P (put_in x ys) → AllByRecursion P (if t then y ∷ put_in x ys else x ∷ y ∷ ys)
    by true rest = (all.0, rest)
    by false rest = (so, all)

order_all : (P : List ℕ → Type 0) (xs : List (List ℕ)) → AllByRecursion P xs → AllByRecursion P (in_order xs)
order_all P [] all = tt
order_all P (x ∷ xs) all = put_all P x (in_order xs) all.0 (order_all P xs all.1)

-- what doesn't stand before y doesn't stand before what y doesn't follow
further : (x y : List ℕ) (zs : List (List ℕ)) → stands_before y x ≡ false → AllByRecursion (λ z. stands_before z y ≡ false) zs → AllByRecursion (λ z. stands_before z x ≡ false) zs
further x y [] e all = tt
further x y (z ∷ zs) e all = (chain z y x all.0 e, further x y zs e all.1)

put_ordered : (x : List ℕ) (ys : List (List ℕ)) → Ordered ys → Ordered (put_in x ys)
put_ordered x [] o = (tt, tt)
put_ordered x (y ∷ ys) o = by (stands_before y x) refl (put_ordered x ys o.1)
  where
    by : (t : Bool) → stands_before y x ≡ t → Ordered (put_in x ys) → Ordered (if t then y ∷ put_in x ys else x ∷ y ∷ ys)
    by true e rest = (put_all (λ z. stands_before z y ≡ false) x ys (one_way y x e) o.0, rest)
    by false e rest = ((e, further x y ys e o.0), o)

ordered : (xs : List (List ℕ)) → Ordered (in_order xs)
ordered [] = tt
ordered (x ∷ xs) = put_ordered x (in_order xs) (ordered xs)

-- from any place on nothing stands before what is earlier
abbrev Far : List (List ℕ) → Type 0
Far xs = (i j : ℕ) (d : List ℕ) → i ≤ j → j < length xs → stands_before (get_or xs j d) (get_or xs i d) ≡ false

far_ordered : (xs : List (List ℕ)) → Far xs → Ordered xs
far_ordered [] far = tt
far_ordered (x ∷ xs) far = (
  recursion_from_All (λ y. stands_before y x ≡ false) xs (λ k d h. far 0 (suc k) d (omega arith) (omega (arith, h))),
  far_ordered xs (λ i j d h within. far (suc i) (suc j) d (omega (arith, h)) (omega (arith, within))),
)

-- ---- how often a text is there

one : List ℕ → List ℕ → ℕ
one x y = if bytes_eq x y then 1 else 0

one-self : (x : List ℕ) → one x x ≡ 1
unfolding one
one-self x = ap (λ t. if t then 1 else 0) ((bytes_decides x x).1 refl)

one-other : (x y : List ℕ) → bytes_eq x y ≡ false → one x y ≡ 0
unfolding one
one-other x y h = ap (λ t. if t then 1 else 0) h

times : List ℕ → List (List ℕ) → ℕ
times x ys = sum_by (one x) ys

times-cons : (x y : List ℕ) (ys : List (List ℕ)) → times x (y ∷ ys) ≡ one x y + times x ys
unfolding times
times-cons x y ys = sum_by-cons (one x) y ys

times-nil : (x : List ℕ) → times x [] ≡ 0
unfolding times
times-nil x = refl

times-permuted : (x : List ℕ) (xs ys : List (List ℕ)) → IsPermutation xs ys → times x ys ≡ times x xs
unfolding times
times-permuted x xs ys p = sum_by-IsPermutation (one x) xs ys p

times-put : (z x : List ℕ) (ys : List (List ℕ)) → times z (put_in x ys) ≡ one z x + times z ys
times-put z x [] = times-cons z x []
times-put z x (y ∷ ys) = by (stands_before y x) (times-put z x ys)
  where
    by : (t : Bool) → times z (put_in x ys) ≡ one z x + times z ys → times z (if t then y ∷ put_in x ys else x ∷ y ∷ ys) ≡ one z x + times z (y ∷ ys)
    by true rest = omega (arith, times-cons z y (put_in x ys), times-cons z y ys)
    by false rest = times-cons z x (y ∷ ys)

times-order : (z : List ℕ) (xs : List (List ℕ)) → times z (in_order xs) ≡ times z xs
times-order z [] = refl
times-order z (x ∷ xs) = omega (arith, times-put z x (in_order xs), times-cons z x xs, times-order z xs)

-- a text that stands before another isn't among those that don't
absent : (x y : List ℕ) (zs : List (List ℕ)) → stands_before x y ≡ true → AllByRecursion (λ z. stands_before z y ≡ false) zs → times x zs ≡ 0
absent x y [] e all = times-nil x
absent x y (z ∷ zs) e all = by (bytes_eq x z) refl (absent x y zs e all.1)
  where
    not_it : one x z ≡ 0 → times x zs ≡ 0 → times x (z ∷ zs) ≡ 0
    not_it h rest = omega (arith, times-cons x z zs, h, rest)

    by : (t : Bool) → bytes_eq x z ≡ t → times x zs ≡ 0 → times x (z ∷ zs) ≡ 0
    by true h rest = absurd (both (sym e ∙ ap (λ w. stands_before w y) ((bytes_decides x z).0 h) ∙ all.0))
    by false h rest = not_it (one-other x z h) rest

irreflexive : (x : List ℕ) → stands_before x x ≡ false
irreflexive x = by (stands_before x x) refl
  where
    by : (t : Bool) → stands_before x x ≡ t → t ≡ false
    by true e = absurd (both (sym e ∙ one_way x x e))
    by false e = refl

-- lists in order that have each text as often are the same
only_one : (xs ys : List (List ℕ)) → Ordered xs → Ordered ys → ((z : List ℕ) → times z xs ≡ times z ys) → xs ≡ ys
only_one [] [] o p same = refl
only_one [] (y ∷ ys) o p same = absurd (omega (arith, same y, times-nil y, times-cons y y ys, one-self y))
only_one (x ∷ xs) [] o p same = absurd (omega (arith, same x, times-nil x, times-cons x x xs, one-self x))
only_one (x ∷ xs) (y ∷ ys) o p same = by (stands_before x y) refl (stands_before y x) refl (λ e. only_one xs ys o.1 p.1 (λ z. omega (arith, same z, times-cons z x xs, times-cons z y ys, ap (one z) e)))
  where
    by : (s : Bool) → stands_before x y ≡ s → (t : Bool) → stands_before y x ≡ t → (x ≡ y → xs ≡ ys) → x ∷ xs ≡ y ∷ ys
    by true e t f rest = absurd (omega (arith, same x, times-cons x x xs, one-self x, absent x y (y ∷ ys) e (irreflexive y, p.0)))
    by false e true f rest = absurd (omega (arith, same y, times-cons y y ys, one-self y, absent y x (x ∷ xs) f (irreflexive x, o.0)))
    by false e false f rest =
        let heads : x ≡ y = same_place x y e f in
        ap (λ (n : List ℕ). n ∷ xs) heads ∙ ap (λ (ns : List (List ℕ)). y ∷ ns) (rest heads)

-- ---- names

-- the names in the order of the definition are those of the texts in order
name-put : (x : List ℕ) (ys : List (List ℕ)) → IsUtf8 x → AllByRecursion IsUtf8 ys → name_in (chars x) (map chars ys) ≡ map chars (put_in x ys)
name-put x [] u us = refl
name-put x (y ∷ ys) u us = ap (λ t. if t then chars y ∷ name_in (chars x) (map chars ys) else chars x ∷ chars y ∷ map chars ys) same ∙ by (stands_before y x) (name-put x ys u us.1)
  where
    same : bytes_before (chars y) (chars x) ≡ stands_before y x
    same = ap (λ (bs : List ℕ). stands_before bs (encode_utf8_all (chars x))) (encodes-chars y us.0) ∙ ap (stands_before y) (encodes-chars x u)

    by : (t : Bool) → name_in (chars x) (map chars ys) ≡ map chars (put_in x ys) → (if t then chars y ∷ name_in (chars x) (map chars ys) else chars x ∷ chars y ∷ map chars ys) ≡ map chars (if t then y ∷ put_in x ys else x ∷ y ∷ ys)
    by true rest = ap (λ (ns : List (List ℕ)). chars y ∷ ns) rest
    by false rest = refl

names-order : (xs : List (List ℕ)) → AllByRecursion IsUtf8 xs → in_byte_order (map chars xs) ≡ map chars (in_order xs)
names-order [] us = refl
names-order (x ∷ xs) us = ap (name_in (chars x)) (names-order xs us.1) ∙ name-put x (in_order xs) us.0 (order_all IsUtf8 xs us.1)

-- texts that were sorted, as names
pub names_sorted : (texts sorted : List (List ℕ)) → AllByRecursion IsUtf8 texts → IsPermutation texts sorted → IsSortedBy (λ x y. is_lt (slice_cmp nat_cmp x y)) sorted → map chars sorted ≡ in_byte_order (map chars texts)
unfolding less
names_sorted texts sorted us p up =
    let far : Far sorted = λ i j d h within. sym (less_is (get_or sorted j d) (get_or sorted i d)) ∙ sorted_far less ranks sorted up i j d h within in
    ap (map chars) (only_one sorted (in_order texts) (far_ordered sorted far) (ordered texts) (λ z. times-permuted z texts sorted p ∙ sym (times-order z texts)))
    ∙ sym (names-order texts us)

-- ---- the texts that are set

module _ {A Y : Type 0} where
  -- the texts of the entries that are set
  abbrev pub set_texts : List (String Y × Option A) → List (List ℕ)
  set_texts es = filter_map (λ e. option_map (λ a. string_bytes e.0) e.1) es

  pub set_texts-names : (es : List (String Y × Option A)) → set_names (bindings_of es) ≡ map chars (set_texts es)
  set_texts-names [] = refl
  set_texts-names ((key, None) ∷ es) = set_texts-names es
  set_texts-names ((key, Some a) ∷ es) = ap (λ (ns : List (List ℕ)). chars (string_bytes key) ∷ ns) (set_texts-names es)

  pub set_texts-utf8 : (es : List (String Y × Option A)) → AllByRecursion (λ e. IsUtf8 (string_bytes e.0)) es → AllByRecursion IsUtf8 (set_texts es)
  set_texts-utf8 [] us = tt
  set_texts-utf8 ((key, None) ∷ es) us = set_texts-utf8 es us.1
  set_texts-utf8 ((key, Some a) ∷ es) us = (us.0, set_texts-utf8 es us.1)

  found_at : (es : List (String Y × Option A)) (at : ℕ) (e : String Y × Option A) → slice_get es at ≡ Some e → get_or es at e ≡ e
  found_at [] at e h = refl
  found_at (x ∷ es) zero e h = cc
  found_at (x ∷ es) (suc at) e h = found_at es at e h

  one_more : (es : List (String Y × Option A)) (at : ℕ) (e : String Y × Option A) → at < length es → slice_get es at ≡ Some e → set_texts (take (at + 1) es) ≡ set_texts (take at es) ++ set_texts (e ∷ [])
  one_more es at e within h =
      ap set_texts (take_more es at e within ∙ ap (λ x. take at es ++ x ∷ []) (found_at es at e h))
      ∙ filter_map-append (λ (x : String Y × Option A). option_map (λ a. string_bytes x.0) x.1) (take at es) (e ∷ [])

  some_text : (key : String Y) (bound : Option A) → is_some bound ≡ true → set_texts ((key, bound) ∷ []) ≡ string_bytes key ∷ []
  some_text key None e = absurd (cc)
  some_text key (Some a) e = refl

  no_text : (key : String Y) (bound : Option A) → is_some bound ≡ false → set_texts ((key, bound) ∷ []) ≡ []
  no_text key None e = refl
  no_text key (Some a) e = absurd (cc)

  -- a name that is set adds its text, any other nothing
  pub texts_added : (es : List (String Y × Option A)) (at : ℕ) (key : String Y) (bound : Option A) (texts new : List (Bor (List ℕ))) (text : Bor (List ℕ)) → at < length es → slice_get es at ≡ Some (key, bound) → is_some bound ≡ true → map (λ t. t.now) texts ≡ set_texts (take at es) → text.now ≡ string_bytes key → new ≡ texts ++ text ∷ [] → map (λ t. t.now) new ≡ set_texts (take (at + 1) es)
  texts_added es at key bound texts new text within h has so_far is put =
      ap (map (λ t. t.now)) put
      ∙ map_push (λ (t : Bor (List ℕ)). t.now) texts text
      ∙ ap (λ (xs : List (List ℕ)). xs ++ text.now ∷ []) so_far
      ∙ ap (λ (x : List ℕ). set_texts (take at es) ++ x ∷ []) is
      ∙ sym (one_more es at (key, bound) within h ∙ ap (λ (xs : List (List ℕ)). set_texts (take at es) ++ xs) (some_text key bound has))

  pub texts_passed : (es : List (String Y × Option A)) (at : ℕ) (key : String Y) (bound : Option A) (texts new : List (Bor (List ℕ))) → at < length es → slice_get es at ≡ Some (key, bound) → is_some bound ≡ false → map (λ t. t.now) texts ≡ set_texts (take at es) → new ≡ texts → map (λ t. t.now) new ≡ set_texts (take (at + 1) es)
  texts_passed es at key bound texts new within h lacks so_far same =
      ap (map (λ t. t.now)) same
      ∙ so_far
      ∙ sym (one_more es at (key, bound) within h ∙ ap (λ (xs : List (List ℕ)). set_texts (take at es) ++ xs) (no_text key bound lacks) ∙ append-nil (set_texts (take at es)))

  -- all of them, sorted, as names
  pub names_are : (es : List (String Y × Option A)) (now : Bindings A) (texts sorted : List (Bor (List ℕ))) (names : List (List ℕ)) → bindings_of es ≡ now → AllByRecursion (λ e. IsUtf8 (string_bytes e.0)) es → map (λ t. t.now) texts ≡ set_texts es → IsPermutation texts sorted → IsSortedBy (λ x y. is_lt (slice_cmp nat_cmp x.now y.now)) sorted → names ≡ map (λ t. chars t.now) sorted → names ≡ in_byte_order (set_names now)
  names_are es now texts sorted names view us all p up is =
      is
      ∙ sym (map-map sorted)
      ∙ names_sorted (map (λ t. t.now) texts) (map (λ t. t.now) sorted) (subst (AllByRecursion IsUtf8) (sym all) (set_texts-utf8 es us)) (IsPermutation-map (λ (t : Bor (List ℕ)). t.now) texts sorted p) (sorted_now sorted up)
      ∙ ap in_byte_order (ap (map chars) all ∙ sym (set_texts-names es) ∙ ap set_names view)
    where
      map-map : (ts : List (Bor (List ℕ))) → map chars (map (λ t. t.now) ts) ≡ map (λ t. chars t.now) ts
      map-map [] = refl
      map-map (t ∷ ts) = ap (λ (ns : List (List ℕ)). chars t.now ∷ ns) (map-map ts)

      sorted_now : (ts : List (Bor (List ℕ))) → IsSortedBy (λ x y. is_lt (slice_cmp nat_cmp x.now y.now)) ts → IsSortedBy (λ x y. is_lt (slice_cmp nat_cmp x y)) (map (λ t. t.now) ts)
      sorted_now ts up k d low high =
          let nothing : Bor (List ℕ) = record { ref_ptr = (0, 0); now = d } in
          let few : k + 1 < length ts = omega (arith, high, length-map ts (λ (t : Bor (List ℕ)). t.now)) in
          ap (λ (x : List ℕ). is_lt (slice_cmp nat_cmp x (get_or (map (λ t. t.now) ts) k d))) (get_or-map (λ (t : Bor (List ℕ)). t.now) ts (k + 1) nothing d few)
          ∙ ap (λ (x : List ℕ). is_lt (slice_cmp nat_cmp (get_or ts (k + 1) nothing).now x)) (get_or-map (λ (t : Bor (List ℕ)). t.now) ts k nothing d (omega (arith, few)))
          ∙ up k nothing low few
