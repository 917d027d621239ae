-- What a table answers of a name or a line's number is what the outline says of it.
use Rattle.std.proofs.Common.{◌≡◌, ℕ, zero, suc, ◌+◌, ◌-◌, ◌<◌, ◌≤◌, ◌==◌, Bool, true, false, not, cond, nat_lt, List, [], ◌∷◌, drop, length, map, get_or, slice_get, String, Option, Some, None, refl, sym, ap, subst, ◌∙◌, arith, lt-ltb, le-ltb, ltb-true, ltb-false}
use Rattle.std.proofs.lemmas.List.{drop-drop, drop_more, length-append, length-map}
use Rattle.std.specs.List.{find, position, position_or_len}
use Rattle.std.specs.Map.{update}
use Rattle.std.specs.Option.{option_map, unwrap_or, MatchOption}
use Rattle.std.specs.Str.{bytes_eq, chars, IsUtf8}
use Rattle.indexmap.specs.IndexMap.{IndexMap, get_by_text}
use Rattle.apl_model.specs.Call.{Routine, routine_of}
use Rattle.apl_model.specs.Environment.{is_same_name}
use Rattle.apl_model.specs.Immediate.{prefix_or}
use Rattle.apl_model.specs.Printed.{body_prefix, plain_prefix}
use Rattle.apl_model.specs.Tree.{Item, statement_item, command_item, definition_item}
use Rattle.apl_model.specs.declared.outlines.OutlineBody.{OutlineBody}
use Rattle.apl_model.specs.declared.outlines.OutlineItem.{OutlineItem}
use Rattle.apl_model.specs.declared.outlines.OutlineItem.TheVariants as outline
use Rattle.apl_model.specs.declared.outlines.OutlineLine.{OutlineLine}
use Rattle.apl_model.specs.declared.scripts.Header.{Header}
use Rattle.apl_compile.specs.declared.codes.Code.{Code}
use Rattle.apl_compile.specs.declared.programs.Function.{Function}
use Rattle.apl_compile.specs.declared.tables.Standing.{Standing}
use Rattle.apl_compile.specs.Lookups.{IsFunctionAt}
use Rattle.apl_compile.specs.Program.{ProgramView, compiled, outline_body, outline_item, codes_of}
use Rattle.apl_compile.specs.Running.{lines_with, routines_from, routines_in, line_text_in, prefix_from}
use Rattle.apl_compile.specs.Tables.{codes_at, codes_for, function_from, place_from, standing_or, standing_from, HasFunctions}
use Rattle.apl_model.proofs.SameNames.{same_tests}

-- ---- numbers of codes

pub fewer_codes : (items : List OutlineItem) (k : ℕ) → codes_for (drop k items) ≤ codes_for items
fewer_codes items zero = omega arith
fewer_codes [] (suc k) = omega arith
fewer_codes (i ∷ is) (suc k) = omega (arith, fewer_codes is k)

pub counted_codes : (items : List Item) → codes_for (map outline_item items) ≡ length (codes_of items)
counted_codes [] = refl
counted_codes (statement_item line t ∷ is) = omega (arith, counted_codes is)
counted_codes (command_item line c ∷ is) = omega (arith, counted_codes is)
counted_codes (definition_item d ∷ is) =
    omega (arith, counted_codes is, length-map d.body outline_body, length-map d.body (λ l. compiled l.line l.statement), length-append (map (λ l. compiled l.line l.statement) d.body) (codes_of is))

-- ---- places in a list

drop_next : {X : Type 0} (x : X) (xs all : List X) (k : ℕ) → x ∷ xs ≡ drop k all → xs ≡ drop (suc k) all
drop_next x xs all k e =
    let more : k + 1 ≡ suc k = omega arith in
    ap (drop 1) e ∙ drop-drop 1 k all ∙ ap (λ n. drop n all) more

drop_further : {X : Type 0} (n k : ℕ) (xs all : List X) → xs ≡ drop k all → drop n xs ≡ drop (k + n) all
drop_further n k xs all e = ap (drop n) e ∙ drop-drop n k all

slice_at : {X : Type 0} (x : X) (xs all : List X) (k : ℕ) → x ∷ xs ≡ drop k all → slice_get all k ≡ Some x
slice_at x xs all zero e = ap (λ l. slice_get l 0) (sym e)
slice_at x xs [] (suc k) e = let d = e in cc
slice_at x xs (y ∷ all) (suc k) e = slice_at x xs all k e

none_is_some : {A : Type 0} {x : A} → None ≡ Some x → ⊥
none_is_some e = cc

some_is_none : {A : Type 0} {x : A} → Some x ≡ None → ⊥
some_is_none e = cc

some_same : {A : Type 0} {x y : A} → Some x ≡ Some y → x ≡ y
some_same e = cc

-- a test that is false passes on both searches
none_by : {A B : Type 0} (b : Bool) (x : A) (y : B) (m : Option A) (n : Option B) → (m ≡ None → n ≡ None) → cond b (Some x) m ≡ None → cond b (Some y) n ≡ None
none_by true x y m n f e = absurd (some_is_none e)
none_by false x y m n f e = f e

-- ---- functions

pub no_function : (name : List ℕ) (items : List OutlineItem) (cs : List Code) (item code : ℕ) → function_from item code items name ≡ None → routine_of (routines_from items cs) name ≡ None
no_function name [] cs item code e = refl
no_function name (outline.Statement line ∷ is) cs item code e = no_function name is (drop 1 cs) (suc item) (code + 1) e
no_function name (outline.Command line c ∷ is) cs item code e = no_function name is cs (suc item) code e
no_function name (outline.Definition opened closed header body ∷ is) cs item code e =
    none_by (is_same_name header.f name) (record { item = item; code = code }) (record { header = header; body = lines_with body cs }) (function_from (suc item) (code + length body) is name) (routine_of (routines_from is (drop (length body) cs)) name)
    (no_function name is (drop (length body) cs) (suc item) (code + length body)) e

module _ (p : ProgramView) (name : List ℕ) (f : Function) where
  -- the definition at this place is the function, or one further on is
  function_by : (b : Bool) (opened closed : ℕ) (header : Header) (body : List OutlineBody) (is : List OutlineItem) (cs : List Code) (item code : ℕ) (rest : Option Function) (others : Option (Routine Code))
      → outline.Definition opened closed header body ∷ is ≡ drop item p.outline.items → cs ≡ drop code p.codes → code + length body ≤ length p.codes
      → routine_of (routines_in p) name ≡ cond b (Some (record { header = header; body = lines_with body cs })) others
      → (routine_of (routines_in p) name ≡ others → rest ≡ Some f → IsFunctionAt p name f)
      → cond b (Some (record { item = item; code = code })) rest ≡ Some f → IsFunctionAt p name f
  function_by true opened closed header body is cs item code rest others i c l r further e =
      subst (IsFunctionAt p name) (some_same e) (record {
        opened = opened;
        closed = closed;
        header = header;
        body = body;
        item = slice_at (outline.Definition opened closed header body) is p.outline.items item i;
        codes = l;
        routine = r ∙ ap (λ ds. Some (record { header = header; body = lines_with body ds })) c;
      })
  function_by false opened closed header body is cs item code rest others i c l r further e = further r e

  pub function_at : (items : List OutlineItem) (cs : List Code) (item code : ℕ) → items ≡ drop item p.outline.items → cs ≡ drop code p.codes → code + codes_for items ≤ length p.codes
      → routine_of (routines_in p) name ≡ routine_of (routines_from items cs) name → function_from item code items name ≡ Some f → IsFunctionAt p name f
  function_at [] cs item code i c l r e = absurd (none_is_some e)
  function_at (outline.Statement line ∷ is) cs item code i c l r e =
      function_at is (drop 1 cs) (suc item) (code + 1) (drop_next (outline.Statement line) is p.outline.items item i) (drop_further 1 code cs p.codes c) (omega (arith, l)) r e
  function_at (outline.Command line d ∷ is) cs item code i c l r e =
      function_at is cs (suc item) code (drop_next (outline.Command line d) is p.outline.items item i) c (omega (arith, l)) r e
  function_at (outline.Definition opened closed header body ∷ is) cs item code i c l r e =
      function_by (is_same_name header.f name) opened closed header body is cs item code (function_from (suc item) (code + length body) is name) (routine_of (routines_from is (drop (length body) cs)) name) i c (omega (arith, l)) r
      (λ s. function_at is (drop (length body) cs) (suc item) (code + length body) (drop_next (outline.Definition opened closed header body) is p.outline.items item i) (drop_further (length body) code cs p.codes c) (omega (arith, l)) s)
      e

pub function_found : (p : ProgramView) (name : List ℕ) (o : Option Function) → codes_for p.outline.items ≤ length p.codes → o ≡ function_from 0 0 p.outline.items name → MatchOption o (routine_of (routines_in p) name ≡ None) (λ f. IsFunctionAt p name f)
function_found p name None l e = no_function name p.outline.items p.codes 0 0 (sym e)
function_found p name (Some f) l e = function_at p name f p.outline.items p.codes 0 0 refl refl (omega (arith, l)) refl (sym e)

-- ---- one item more in the table of functions

passed : (n : ℕ) (x : OutlineItem) (is : List OutlineItem) (from k code : ℕ) (name : List ℕ) → k + 1 ≡ from → n ≡ codes_at x → n ≤ code → ((opened closed : ℕ) (header : Header) (body : List OutlineBody) → x ≡ outline.Definition opened closed header body → ⊥) → function_from k (code - n) (x ∷ is) name ≡ function_from from code is name
passed n (outline.Statement line) is from k code name next count l apart =
    let one : n ≡ 1 = count in
    ap (λ m. function_from m ((code - n) + 1) is name) (omega (arith, next)) ∙ ap (λ m. function_from from m is name) (omega (arith, one, l))
passed n (outline.Command line c) is from k code name next count l apart =
    let zero_more : n ≡ 0 = count in
    ap (λ m. function_from m (code - n) is name) (omega (arith, next)) ∙ ap (λ m. function_from from m is name) (omega (arith, zero_more))
passed n (outline.Definition opened closed header body) is from k code name next count l apart = absurd (apart opened closed header body refl)

defined : (n : ℕ) (opened closed : ℕ) (header : Header) (body : List OutlineBody) (is : List OutlineItem) (from k code : ℕ) (name : List ℕ) → k + 1 ≡ from → n ≡ length body → n ≤ code → function_from k (code - n) (outline.Definition opened closed header body ∷ is) name ≡ cond (is_same_name header.f name) (Some (record { item = k; code = code - n })) (function_from from code is name)
defined n opened closed header body is from k code name next count l =
    ap (λ m. cond (is_same_name header.f name) (Some (record { item = k; code = code - n })) (function_from m ((code - n) + length body) is name)) (omega (arith, next))
    ∙ ap (λ m. cond (is_same_name header.f name) (Some (record { item = k; code = code - n })) (function_from from m is name)) (omega (arith, count, l))

module _ {Y S : Type 0} (table : IndexMap (String Y) Function S) (items : List OutlineItem) (from k code n : ℕ) (x : OutlineItem) (next : k + 1 ≡ from) (within : k < length items) (is : x ≡ get_or items k x) (count : n ≡ codes_at x)
    (told : code + codes_for (drop from items) ≡ codes_for items) where
  items_from : drop k items ≡ x ∷ drop from items
  items_from = drop_more items k x within ∙ ap (λ y. y ∷ drop (k + 1) items) (sym is) ∙ ap (λ m. x ∷ drop m items) next

  -- the codes of the item are left
  pub codes_left : n ≤ code
  codes_left = omega (arith, told, count, fewer_codes items k, ap codes_for items_from)

  pub codes_told : (code - n) + codes_for (drop k items) ≡ codes_for items
  codes_told = omega (arith, told, count, codes_left, ap codes_for items_from)

  pub another_passed : HasFunctions table from code (drop from items) → ((opened closed : ℕ) (header : Header) (body : List OutlineBody) → x ≡ outline.Definition opened closed header body → ⊥) → HasFunctions table k (code - n) (drop k items)
  another_passed has apart = λ text u.
      has text u
      ∙ sym (passed n x (drop from items) from k code (chars text) next count codes_left apart)
      ∙ sym (ap (λ is. function_from k (code - n) is (chars text)) items_from)

  pub function_put : HasFunctions table from code (drop from items) → (new : IndexMap (String Y) Function S) (opened closed : ℕ) (header : Header) (body : List OutlineBody) (text : List ℕ) → x ≡ outline.Definition opened closed header body → IsUtf8 text → chars text ≡ header.f
      → ((bs : List ℕ) → get_by_text new bs ≡ update bytes_eq (get_by_text table) text (Some (record { item = k; code = code - n })) bs) → HasFunctions new k (code - n) (drop k items)
  function_put has new opened closed header body text d utf8 spells sets = λ bs v.
      sets bs
      ∙ ap (λ b. cond b (Some (record { item = k; code = code - n })) (get_by_text table bs)) (sym (same_tests text bs header.f utf8 v spells))
      ∙ ap (λ o. cond (is_same_name header.f (chars bs)) (Some (record { item = k; code = code - n })) o) (has bs v)
      ∙ sym (defined n opened closed header body (drop from items) from k code (chars bs) next (count ∙ ap codes_at d) codes_left)
      ∙ sym (ap (λ is. function_from k (code - n) is (chars bs)) (items_from ∙ ap (λ y. y ∷ drop from items) d))

-- ---- lines

module _ {X : Type 0} (number_of : X → ℕ) (number : ℕ) where
  no_place : (xs : List X) (at : ℕ) → place_from number_of at xs number ≡ None → find (λ x. number_of x == number) xs ≡ None
  no_place [] at e = refl
  no_place (x ∷ xs) at e = none_by (number_of x == number) at x (place_from number_of (suc at) xs number) (find (λ x. number_of x == number) xs) (no_place xs (suc at)) e

  place_by : (b : Bool) (x : X) (xs all : List X) (at k : ℕ) (rest : Option ℕ) (others : Option X) → x ∷ xs ≡ drop at all → (rest ≡ Some k → others ≡ slice_get all k) → cond b (Some at) rest ≡ Some k → cond b (Some x) others ≡ slice_get all k
  place_by true x xs all at k rest others i f e = sym (slice_at x xs all at i) ∙ ap (slice_get all) (some_same e)
  place_by false x xs all at k rest others i f e = f e

  at_place : (all xs : List X) (at k : ℕ) → xs ≡ drop at all → place_from number_of at xs number ≡ Some k → find (λ x. number_of x == number) xs ≡ slice_get all k
  at_place all [] at k i e = absurd (none_is_some e)
  at_place all (x ∷ xs) at k i e =
      place_by (number_of x == number) x xs all at k (place_from number_of (suc at) xs number) (find (λ x. number_of x == number) xs) i
      (at_place all xs (suc at) k (drop_next x xs all at i)) e

  shift_by : (lt : Bool) (at k : ℕ) → option_map (λ j. suc at + j) (cond lt (Some k) None) ≡ option_map (λ j. at + j) (cond lt (Some (1 + k)) None)
  shift_by true at k = ap Some (omega arith)
  shift_by false at k = refl

  lt_next : (k n : ℕ) → nat_lt (suc k) (suc n) ≡ nat_lt k n
  lt_next k n = by (nat_lt k n) refl
    where
      by : (b : Bool) → nat_lt k n ≡ b → nat_lt (suc k) (suc n) ≡ b
      by true e = lt-ltb (suc k) (suc n) (omega (arith, ltb-true k n e))
      by false e = le-ltb (suc k) (suc n) (omega (arith, ltb-false k n e))

  position_step : (b : Bool) (at k n : ℕ) (rest : Option ℕ) → rest ≡ option_map (λ j. suc at + j) (cond (nat_lt k n) (Some k) None) → cond b (Some at) rest ≡ option_map (λ j. at + j) (cond (nat_lt (cond (not b) (1 + k) 0) (suc n)) (Some (cond (not b) (1 + k) 0)) None)
  position_step true at k n rest e =
      let same : at ≡ at + 0 = omega arith in
      ap Some same ∙ ap (λ b. option_map (λ j. at + j) (cond b (Some 0) None)) (sym (lt-ltb 0 (suc n) (omega arith)))
  position_step false at k n rest e =
      let more : suc k ≡ 1 + k = omega arith in
      e ∙ shift_by (nat_lt k n) at k ∙ ap (λ b. option_map (λ j. at + j) (cond b (Some (1 + k)) None)) (sym (lt_next k n)) ∙ ap (λ m. option_map (λ j. at + j) (cond (nat_lt m (suc n)) (Some (1 + k)) None)) more

  place_position : (xs : List X) (at : ℕ) → place_from number_of at xs number ≡ option_map (λ j. at + j) (position (λ x. number_of x == number) xs)
  place_position [] at = refl
  place_position (x ∷ xs) at =
      position_step (number_of x == number) at (position_or_len (λ x. number_of x == number) xs) (length xs) (place_from number_of (suc at) xs number) (place_position xs (suc at))

-- the text of a line that was found, or not
pub no_text : (lines : List OutlineLine) (number : ℕ) → place_from (λ l. l.number) 0 lines number ≡ None → line_text_in lines number ≡ []
no_text lines number e = ap (λ o. unwrap_or (option_map (λ l. l.text) o) []) (no_place (λ (l : OutlineLine). l.number) number lines 0 e)

pub text_at : (lines : List OutlineLine) (number k : ℕ) → place_from (λ l. l.number) 0 lines number ≡ Some k → line_text_in lines number ≡ unwrap_or (option_map (λ l. l.text) (slice_get lines k)) []
text_at lines number k e = ap (λ o. unwrap_or (option_map (λ l. l.text) o) []) (at_place (λ (l : OutlineLine). l.number) number lines lines 0 k refl e)

-- ---- the function that a line stands in

from_zero : (o : Option ℕ) → option_map (λ j. 0 + j) o ≡ o
from_zero None = refl
from_zero (Some k) = ap Some (omega arith)

body_position : (body : List OutlineBody) (number : ℕ) → position (λ l. l.line == number) body ≡ place_from (λ l. l.line) 0 body number
body_position body number = sym (place_position (λ (l : OutlineBody). l.line) number body 0 ∙ from_zero (position (λ l. l.line == number) body))

no_standing_by : (o : Option ℕ) (item : ℕ) (rest : Option Standing) (name others : List ℕ) → (rest ≡ None → others ≡ plain_prefix) → standing_or item o rest ≡ None → prefix_or o name others ≡ plain_prefix
no_standing_by None item rest name others f e = f e
no_standing_by (Some k) item rest name others f e = absurd (some_is_none e)

pub no_standing : (number : ℕ) (items : List OutlineItem) (item : ℕ) → standing_from item items number ≡ None → prefix_from number items ≡ plain_prefix
no_standing number [] item e = refl
no_standing number (outline.Statement line ∷ is) item e = no_standing number is (suc item) e
no_standing number (outline.Command line c ∷ is) item e = no_standing number is (suc item) e
no_standing number (outline.Definition opened closed header body ∷ is) item e =
    ap (λ o. prefix_or o header.f (prefix_from number is)) (body_position body number)
    ∙ no_standing_by (place_from (λ l. l.line) 0 body number) item (standing_from (suc item) is number) header.f (prefix_from number is) (no_standing number is (suc item)) e

-- the line of this number stands in the body of this item
pub record StandsIn (all : List OutlineItem) (prefix : List ℕ) (s : Standing) : Type 0 where
  pub opened : ℕ
  pub closed : ℕ
  pub header : Header
  pub body : List OutlineBody
  pub item : slice_get all s.item ≡ Some (outline.Definition opened closed header body)
  pub prefixed : prefix ≡ body_prefix header.f (suc s.line)

stands_by : (all : List OutlineItem) (s : Standing) (o : Option ℕ) (opened closed : ℕ) (header : Header) (body : List OutlineBody) (is : List OutlineItem) (item : ℕ) (rest : Option Standing) (others : List ℕ)
    → outline.Definition opened closed header body ∷ is ≡ drop item all → (rest ≡ Some s → StandsIn all others s) → standing_or item o rest ≡ Some s → StandsIn all (prefix_or o header.f others) s
stands_by all s (Some k) opened closed header body is item rest others i f e =
    subst (StandsIn all (body_prefix header.f (suc k))) (some_same e) (record {
      opened = opened;
      closed = closed;
      header = header;
      body = body;
      item = slice_at (outline.Definition opened closed header body) is all item i;
      prefixed = refl;
    })
stands_by all s None opened closed header body is item rest others i f e = f e

pub stands_in : (number : ℕ) (all : List OutlineItem) (s : Standing) (items : List OutlineItem) (item : ℕ) → items ≡ drop item all → standing_from item items number ≡ Some s → StandsIn all (prefix_from number items) s
stands_in number all s [] item i e = absurd (none_is_some e)
stands_in number all s (outline.Statement line ∷ is) item i e = stands_in number all s is (suc item) (drop_next (outline.Statement line) is all item i) e
stands_in number all s (outline.Command line c ∷ is) item i e = stands_in number all s is (suc item) (drop_next (outline.Command line c) is all item i) e
stands_in number all s (outline.Definition opened closed header body ∷ is) item i e =
    subst (λ o. StandsIn all (prefix_or o header.f (prefix_from number is)) s) (sym (body_position body number))
    (stands_by all s (place_from (λ l. l.line) 0 body number) opened closed header body is item (standing_from (suc item) is number) (prefix_from number is) i
    (stands_in number all s is (suc item) (drop_next (outline.Definition opened closed header body) is all item i)) e)

-- ---- which item it is

abbrev header_or : Header → Option OutlineItem → Header
header_or d (Some (outline.Definition opened closed header body)) = header
header_or d (Some (outline.Statement line)) = d
header_or d (Some (outline.Command line c)) = d
header_or d None = d

pub same_header : (m : Option OutlineItem) (opened closed : ℕ) (header : Header) (body : List OutlineBody) (first last : ℕ) (head : Header) (lines : List OutlineBody) → m ≡ Some (outline.Definition opened closed header body) → m ≡ Some (outline.Definition first last head lines) → header ≡ head
same_header m opened closed header body first last head lines e f = ap (header_or header) (sym e ∙ f)

abbrev pub is_definition : Option OutlineItem → Bool
is_definition (Some (outline.Definition opened closed header body)) = true
is_definition (Some (outline.Statement line)) = false
is_definition (Some (outline.Command line c)) = false
is_definition None = false

true_is_false : true ≡ false → ⊥
true_is_false e = cc

pub no_other : (m o : Option OutlineItem) (opened closed : ℕ) (header : Header) (body : List OutlineBody) → m ≡ Some (outline.Definition opened closed header body) → m ≡ o → is_definition o ≡ false → ⊥
no_other m o opened closed header body e f g = true_is_false (sym (ap is_definition e) ∙ ap is_definition f ∙ g)

pub nothing_given : {A : Type 0} (o : Option A) (P : Type 0) (Q : A → Type 0) → o ≡ None → P → MatchOption o P Q
nothing_given None P Q e p = p
nothing_given (Some x) P Q e p = absurd (some_is_none e)

-- ---- a program by its parts

abbrev program_with : List OutlineLine → List OutlineItem → List Code → ProgramView
program_with lines items codes = record { outline = record { lines = lines; items = items }; codes = codes }

pub same_program : (ls lines : List OutlineLine) (is items : List OutlineItem) (cs codes : List Code) → ls ≡ lines → is ≡ items → cs ≡ codes → program_with ls is cs ≡ program_with lines items codes
same_program ls lines is items cs codes e f g = ap (λ l. program_with l is cs) e ∙ ap (λ i. program_with lines i cs) f ∙ ap (λ c. program_with lines items c) g
