-- The items of an accepted script are well formed.
use Rattle.std.proofs.Common.{◌≡◌, ℕ, Bool, true, false, cond, List, [], ◌∷◌, ◌++◌, map, Option, None, Some, ◌⊎◌, inl, inr, refl, sym, ap, subst, ◌∙◌, append_assoc}
use Rattle.std.specs.Prelude.{slice_get, codes, length, ◌&&◌}
use Rattle.std.specs.List.{IsAmong, AllByRecursion, AllZip, IsDistinct}
use Rattle.std.specs.Option.{option_to_list}
use lib.Pointwise.{bytes_decides}
use Rattle.apl_model.proofs.Accepted.{among_here, among_there, among_first}
use Rattle.apl_model.proofs.Decide.{false_true}
use Rattle.apl_model.proofs.Rows.{before_after}
use Rattle.apl_model.specs.declared.scripts.Command.{Command}
use Rattle.apl_model.specs.declared.scripts.Command.TheVariants as command
use Rattle.apl_model.proofs.Unique.{token_words, same_words, words_of, names_of, names_of-names, names_of-locals, no_label}
use Rattle.apl_model.specs.Characters.{code}
use Rattle.std.proofs.lemmas.Bool.{eqb-true}
use Rattle.std.proofs.Common.{◌==◌}
use Rattle.apl_model.specs.Environment.{is_same_name}
use Rattle.apl_model.specs.Grammar.{arguments_of, IsStatement}
use Rattle.apl_model.specs.Items.{AreFree, labels, names_of_definition, IsLawfulLine, IsLawfulDefinition, ErasesFree, IsLawfulItem, AreLawful}
use Rattle.apl_model.specs.Lines.{lines_of}
use Rattle.apl_model.specs.Refusal.{outside, IsLineOf, Heads, IsDefined, Occurrence, names_in, label_in, labels_in, declared_in, erased_in, second_heading, second_occurrence, erased, declared, IsAccepted}
use Rattle.apl_model.specs.Script.{is_glyph_token, Part, alone, defined, parts, headings, heading_of, IsHeadOf, IsBodyLine, IsCommandLine, IsDefinition, IsItem}
use Rattle.apl_model.specs.Spelling.{glyph, Spell, before_own_name, header_spelling, command_spelling, name_marks, body_spelling}
use Rattle.apl_model.specs.Tree.{Statement, BodyLine, Definition, Item, statement_item, command_item, definition_item, Script}
use Rattle.apl_model.specs.declared.scripts.Header.{Header}
use Rattle.apl_model.specs.declared.tokens.Heading.{Heading}
use Rattle.apl_model.specs.declared.tokens.Line.{Line}
use Rattle.apl_model.specs.declared.tokens.Token.{Token}
use Rattle.apl_model.specs.declared.tokens.Word.{Word}
use Rattle.apl_model.specs.declared.tokens.Word.TheVariants as word
use Rattle.apl_model.proofs.SameNames.{same_name_is}

-- ---- Names that differ ----

differs : (b : Bool) → (b ≡ true → ⊥) → b ≡ false
differs true f = absurd (f refl)
differs false f = refl

abbrev name_of : Occurrence → List ℕ
name_of o = o.name

abbrev NoSecond : List Occurrence → Type 0
NoSecond os = (before after : List Occurrence) (o p : Occurrence) → os ≡ before ++ (o ∷ after) → IsAmong before p → p.name ≡ o.name → ⊥

others_differ : (x : Occurrence) (before after : List Occurrence) → NoSecond (x ∷ (before ++ after)) → AllByRecursion (λ n. is_same_name x.name n ≡ false) (map name_of after)
others_differ x before [] f = tt
others_differ x before (y ∷ after) f = (
  differs (is_same_name x.name y.name) (λ e. f (x ∷ before) after y x refl (among_here before x x refl) (same_name_is x.name y.name e)),
  others_differ x (before ++ (y ∷ [])) after (subst (λ l. NoSecond (x ∷ l)) (sym (append_assoc before (y ∷ []) after)) f),
)

all_differ : (os : List Occurrence) → NoSecond os → IsDistinct is_same_name (map name_of os)
unfolding IsDistinct
all_differ [] f = tt
all_differ (x ∷ os) f = (others_differ x [] os f, all_differ os (λ before after o p e m g. f (x ∷ before) after o p (ap (λ l. x ∷ l) e) (among_there before x p m) g))

-- ---- The names among tokens ----

by_word : (n : ℕ) (t : Token) (ts : List Token) (w : Word) → map name_of (names_in n ts) ≡ names_of (token_words ts) →
    map name_of (elim w as (λ _. List Occurrence) [ word.Name name ↦ record { name = name; line = n; column = t.from } ∷ names_in n ts | _ ↦ names_in n ts ]) ≡ names_of (w ∷ token_words ts)
by_word n t ts (word.Name m) e = ap (λ l. m ∷ l) e
by_word n t ts (word.Numbers zs) e = e
by_word n t ts (word.Chars zs) e = e
by_word n t ts (word.Glyph c) e = e

names-in : (n : ℕ) (ts : List Token) → map name_of (names_in n ts) ≡ names_of (token_words ts)
names-in n [] = refl
names-in n (t ∷ ts) = by_word n t ts t.word (names-in n ts)

header_names : (f : List ℕ) (z x y : Option (List ℕ)) (ls : List (List ℕ)) →
    names_of (words_of (header_spelling (record { f = f; result = z; left = x; right = y; locals = ls }))) ≡ option_to_list z ++ (option_to_list x ++ (f ∷ (option_to_list y ++ ls)))
header_names f None None None ls = ap (λ l. f ∷ l) (names_of-locals ls)
header_names f None None (Some y) ls = ap (λ l. f ∷ y ∷ l) (names_of-locals ls)
header_names f None (Some x) None ls = ap (λ l. x ∷ f ∷ l) (names_of-locals ls)
header_names f None (Some x) (Some y) ls = ap (λ l. x ∷ f ∷ y ∷ l) (names_of-locals ls)
header_names f (Some z) None None ls = ap (λ l. z ∷ f ∷ l) (names_of-locals ls)
header_names f (Some z) None (Some y) ls = ap (λ l. z ∷ f ∷ y ∷ l) (names_of-locals ls)
header_names f (Some z) (Some x) None ls = ap (λ l. z ∷ x ∷ f ∷ l) (names_of-locals ls)
header_names f (Some z) (Some x) (Some y) ls = ap (λ l. z ∷ x ∷ f ∷ y ∷ l) (names_of-locals ls)

-- the names of a header where they stand
top_names : (l : Line) (h : Header) → IsHeadOf l h → map name_of (names_in l.number l.tokens) ≡ option_to_list h.result ++ (option_to_list h.left ++ (h.f ∷ (option_to_list h.right ++ h.locals)))
top_names l h i = names-in l.number l.tokens ∙ ap names_of (sym (same_words l.number (header_spelling h) l.tokens i.spells)) ∙ header_names h.f h.result h.left h.right h.locals

-- the labels of a body where they stand
colon_word : (w : Word) → (elim w as (λ _. Bool) [ word.Glyph c ↦ c == code ":" | _ ↦ false ]) ≡ true → glyph ":" ≡ w
colon_word (word.Glyph c) e = ap word.Glyph (sym (eqb-true c (code ":") e))
colon_word (word.Numbers zs) e = absurd (false_true e)
colon_word (word.Chars zs) e = absurd (false_true e)
colon_word (word.Name n) e = absurd (false_true e)

colon_test : (w : Word) → glyph ":" ≡ w → (elim w as (λ _. Bool) [ word.Glyph c ↦ c == code ":" | _ ↦ false ]) ≡ true
colon_test w e = subst (λ v. (elim v as (λ _. Bool) [ word.Glyph c ↦ c == code ":" | _ ↦ false ]) ≡ true) e refl

no_label_in : (n : ℕ) (t u : Token) (ts : List Token) → (glyph ":" ≡ u.word → ⊥) → map name_of (label_in n (t ∷ u ∷ ts)) ≡ []
no_label_in n t u ts f = ap (λ b. map name_of (cond b (names_in n (t ∷ [])) [])) (differs (is_glyph_token ":" u) (λ e. f (colon_word u.word e)))

label_name : (hs : List Heading) (n : ℕ) (ts : List Token) (l : Option (List ℕ)) (s : Statement) → IsStatement hs s → Spell n (body_spelling l s) ts → map name_of (label_in n ts) ≡ option_to_list l
label_name hs n [] None s h a = refl
label_name hs n (t ∷ []) None s h a = refl
label_name hs n (t ∷ u ∷ ts) None s h a = no_label_in n t u ts (λ e. no_label hs n t u ts s h a e)
label_name hs n [] (Some m) s h a = absurd a
label_name hs n (t ∷ []) (Some m) s h a = absurd a.1
label_name hs n (t ∷ u ∷ ts) (Some m) s h a =
    ap (λ b. map name_of (cond b (names_in n (t ∷ [])) [])) (colon_test u.word a.1.0) ∙ names-in n (t ∷ []) ∙ ap (λ w. names_of (w ∷ [])) (sym a.0)

map-append : (xs ys : List Occurrence) → map name_of (xs ++ ys) ≡ map name_of xs ++ map name_of ys
map-append [] ys = refl
map-append (x ∷ xs) ys = ap (λ l. x.name ∷ l) (map-append xs ys)

label_names : (hs : List Heading) (ls : List Line) (bs : List BodyLine) → AllZip (IsBodyLine hs) ls bs → map name_of (labels_in ls) ≡ labels bs
label_names hs [] [] a = refl
label_names hs [] (b ∷ bs) a = absurd a
label_names hs (l ∷ ls) [] a = absurd a
label_names hs (l ∷ ls) (b ∷ bs) a = map-append (label_in l.number l.tokens) (labels_in ls) ∙
    (λ i. label_name hs l.number l.tokens b.label b.statement a.0.statement a.0.spells i ++ label_names hs ls bs a.1 i)

joined : (z x : List (List ℕ)) (f : List ℕ) (y ls bs : List (List ℕ)) → (z ++ (x ++ (f ∷ (y ++ ls)))) ++ bs ≡ z ++ (x ++ (f ∷ (y ++ (ls ++ bs))))
joined z x f y ls bs = append_assoc z (x ++ (f ∷ (y ++ ls))) bs ∙ ap (λ l. z ++ l) (append_assoc x (f ∷ (y ++ ls)) bs) ∙ ap (λ l. z ++ (x ++ (f ∷ l))) (append_assoc y ls bs)

-- the names of a definition are those that its lines declare
pub definition_names : (hs : List Heading) (top : Line) (ls : List Line) (last : Line) (d : Definition) → IsDefinition hs top ls last d → map name_of (declared_in top ls) ≡ names_of_definition d
definition_names hs top ls last d i =
    map-append (names_in top.number top.tokens) (labels_in ls) ∙
    (λ k. top_names top d.header i.head k ++ label_names hs ls d.body i.body k) ∙
    joined (option_to_list d.header.result) (option_to_list d.header.left) d.header.f (option_to_list d.header.right) d.header.locals (labels d.body)

-- ---- Names that head a definition ----

-- a name that heads one of the parts heads one of more parts
pub more_heads : (p : Part) (ps : List Part) (n : List ℕ) → Heads ps n → Heads (p ∷ ps) n
more_heads p ps n h = record {
  first = h.first;
  body = h.body;
  header = h.header;
  is_defined = record { last = h.is_defined.last; among = among_there ps p (defined h.first h.body h.is_defined.last) h.is_defined.among; head = h.is_defined.head };
  same = h.same;
}

none_some : {A : Type 0} (k : ℕ) → None ≡ Some k → A
none_some k e = cc

heads_of : (hs : List Heading) (ps : List Part) (is : List Item) (n : List ℕ) (k : ℕ) → AllZip (IsItem hs) ps is → arguments_of (headings is) n ≡ Some k → Heads ps n
heads_of hs [] [] n k z e = none_some k e
heads_of hs [] (i ∷ is) n k z e = absurd z
heads_of hs (p ∷ ps) [] n k z e = absurd z
heads_of hs (alone l ∷ ps) (statement_item m s ∷ is) n k z e = more_heads (alone l) ps n (heads_of hs ps is n k z.1 e)
heads_of hs (alone l ∷ ps) (command_item m c ∷ is) n k z e = more_heads (alone l) ps n (heads_of hs ps is n k z.1 e)
heads_of hs (alone l ∷ ps) (definition_item d ∷ is) n k z e = absurd z.0
heads_of hs (defined top ls None ∷ ps) (i ∷ is) n k z e = absurd z.0
heads_of hs (defined top ls (Some last) ∷ ps) (statement_item m s ∷ is) n k z e = absurd z.0
heads_of hs (defined top ls (Some last) ∷ ps) (command_item m c ∷ is) n k z e = absurd z.0
heads_of hs (defined top ls (Some last) ∷ ps) (definition_item d ∷ is) n k z e =
    (elim (is_same_name d.header.f n) as (λ b. is_same_name d.header.f n ≡ b → cond b (Some ((heading_of d.header).arguments)) (arguments_of (headings is) n) ≡ Some k → Heads (defined top ls (Some last) ∷ ps) n) [
      | true ↦ λ f e. record {
        first = top;
        body = ls;
        header = d.header;
        is_defined = record { last = Some last; among = among_here ps (defined top ls (Some last)) (defined top ls (Some last)) refl; head = z.0.head };
        same = same_name_is d.header.f n f;
      }
      | false ↦ λ f e. more_heads (defined top ls (Some last)) ps n (heads_of hs ps is n k z.1 e)
    ]) refl e

all_names : (P : List ℕ → Type 0) (os : List Occurrence) → ((o : Occurrence) → IsAmong os o → P o.name) → AllByRecursion P (map name_of os)
all_names P [] f = tt
all_names P (o ∷ os) f = (f o (among_here os o o refl), all_names P os (λ p m. f p (among_there os o p m)))

lawful_lines : (hs : List Heading) (ls : List Line) (bs : List BodyLine) → AllZip (IsBodyLine hs) ls bs → AllByRecursion (IsLawfulLine hs) bs
lawful_lines hs [] [] z = tt
lawful_lines hs [] (b ∷ bs) z = absurd z
lawful_lines hs (l ∷ ls) [] z = absurd z
lawful_lines hs (l ∷ ls) (b ∷ bs) z = (record { label = z.0.label; statement = z.0.statement }, lawful_lines hs ls bs z.1)

heads_append : (ps qs : List Part) (n : List ℕ) → Heads ps n → Heads (ps ++ qs) n
heads_append ps qs n h = record {
  first = h.first;
  body = h.body;
  header = h.header;
  is_defined = record { last = h.is_defined.last; among = among_first ps qs (defined h.first h.body h.is_defined.last) h.is_defined.among; head = h.is_defined.head };
  same = h.same;
}

-- the token of a function's own name in its header
own_token : (f : List ℕ) (z x y : Option (List ℕ)) (ls : List (List ℕ)) (n : ℕ) (ts : List Token) → Spell n (header_spelling (record { f = f; result = z; left = x; right = y; locals = ls })) ts →
    (t : Token) × (slice_get ts (length (before_own_name (record { f = f; result = z; left = x; right = y; locals = ls }))) ≡ Some t)
own_token f None None y ls n [] s = absurd s
own_token f None None y ls n (t ∷ []) s = absurd s.1
own_token f None None y ls n (t ∷ u ∷ ts) s = (u, refl)
own_token f None (Some x) y ls n [] s = absurd s
own_token f None (Some x) y ls n (t ∷ []) s = absurd s.1
own_token f None (Some x) y ls n (t ∷ u ∷ []) s = absurd s.1.1
own_token f None (Some x) y ls n (t ∷ u ∷ v ∷ ts) s = (v, refl)
own_token f (Some z) None y ls n [] s = absurd s
own_token f (Some z) None y ls n (t ∷ []) s = absurd s.1
own_token f (Some z) None y ls n (t ∷ u ∷ []) s = absurd s.1.1
own_token f (Some z) None y ls n (t ∷ u ∷ v ∷ []) s = absurd s.1.1.1
own_token f (Some z) None y ls n (t ∷ u ∷ v ∷ w ∷ ts) s = (w, refl)
own_token f (Some z) (Some x) y ls n [] s = absurd s
own_token f (Some z) (Some x) y ls n (t ∷ []) s = absurd s.1
own_token f (Some z) (Some x) y ls n (t ∷ u ∷ []) s = absurd s.1.1
own_token f (Some z) (Some x) y ls n (t ∷ u ∷ v ∷ []) s = absurd s.1.1.1
own_token f (Some z) (Some x) y ls n (t ∷ u ∷ v ∷ w ∷ []) s = absurd s.1.1.1.1
own_token f (Some z) (Some x) y ls n (t ∷ u ∷ v ∷ w ∷ q ∷ ts) s = (q, refl)

-- the test of the two tokens )ERASE finds them
erase_test : (w v : Word) → glyph ")" ≡ w → word.Name (codes "ERASE") ≡ v →
    ((elim w as (λ _. Bool) [ word.Glyph c ↦ c == code ")" | _ ↦ false ]) && (elim v as (λ _. Bool) [ word.Name n ↦ is_same_name n (codes "ERASE") | _ ↦ false ])) ≡ true
erase_test w v e f = rw (← e) (rw (← f) refl)

-- the names behind )ERASE where they stand
erased_names : (n : ℕ) (ns : List (List ℕ)) (ts : List Token) → Spell n (command_spelling (command.Erase ns)) ts → map name_of (erased_in n ts) ≡ ns
erased_names n ns [] s = absurd s
erased_names n ns (t ∷ []) s = absurd s.1
erased_names n ns (t ∷ u ∷ ts) s =
    ap (λ b. map name_of (cond b (names_in n ts) [])) (erase_test t.word u.word s.0 s.1.0) ∙
    names-in n ts ∙ ap names_of (sym (same_words n (name_marks ns) ts s.1.1)) ∙ names_of-names ns

module _ (bytes : List ℕ) (s : Script) (ok : IsAccepted bytes s) where
  abbrev ks : List Line
  ks = lines_of bytes

  abbrev hs : List Heading
  hs = headings s.items

  free_or_heads : (n : List ℕ) (x : Option ℕ) → arguments_of hs n ≡ x → (arguments_of hs n ≡ None) ⊎ Heads (parts ks) n
  free_or_heads n None e = inl e
  free_or_heads n (Some k) e = inr (heads_of hs (parts ks) s.items n k ok.tree.items e)

  lawful_definition : (top : Line) (ls : List Line) (last : Line) (d : Definition) → IsAmong (parts ks) (defined top ls (Some last)) → IsDefinition hs top ls last d → IsLawfulDefinition hs d
  lawful_definition top ls last d m i =
      let there : IsDefined (parts ks) top ls d.header = record { last = Some last; among = m; head = i.head } in
      let names = definition_names hs top ls last d i in
      record {
        header = i.head.header;
        body = lawful_lines hs ls d.body i.body;
        distinct = subst (λ l. IsDistinct is_same_name l) names
            (all_differ (declared_in top ls) (λ before after o p e q g. ok.single _ (second_occurrence top ls d.header before after o p there e q g refl)));
        free = subst (λ l. AllByRecursion (λ n. (n ≡ d.header.f) ⊎ (arguments_of hs n ≡ None)) l) names
            (all_names (λ n. (n ≡ d.header.f) ⊎ (arguments_of hs n ≡ None)) (declared_in top ls) (λ o q. elim (free_or_heads o.name (arguments_of hs o.name) refl) [
              | inl e ↦ inr e
              | inr h ↦ (elim (is_same_name o.name d.header.f) as (λ b. is_same_name o.name d.header.f ≡ b → (o.name ≡ d.header.f) ⊎ (arguments_of hs o.name ≡ None)) [
                | true ↦ λ e. inl (same_name_is o.name d.header.f e)
                | false ↦ λ e. absurd (ok.classes _ (declared top ls d.header o there q (λ g. false_true (sym e ∙ (bytes_decides o.name d.header.f).1 g)) h refl))
              ]) refl
            ]));
      }

  erases_free : (l : Line) (ns : List (List ℕ)) → IsLineOf ks outside l → Spell l.number (command_spelling (command.Erase ns)) l.tokens → AreFree hs ns
  erases_free l ns m a =
      subst (AreFree hs) (erased_names l.number ns l.tokens a) (all_names (λ n. arguments_of hs n ≡ None) (erased_in l.number l.tokens) (λ o q. elim (free_or_heads o.name (arguments_of hs o.name) refl) [
        | inl f ↦ f
        | inr h ↦ absurd (ok.classes _ (erased l o m q h refl))
      ]))

  lawful_command : (l : Line) (n : ℕ) (c : Command) → IsAmong (parts ks) (alone l) → IsCommandLine l n c → ErasesFree hs c
  lawful_command l n command.Vars m i = tt
  lawful_command l n command.Fns m i = tt
  lawful_command l n (command.Origin o) m i = tt
  lawful_command l n (command.Erase ns) m i =
      erases_free l ns m i.spells

  lawful_items : (ps : List Part) (is : List Item) → ((p : Part) → IsAmong ps p → IsAmong (parts ks) p) → AllZip (IsItem hs) ps is → AllByRecursion (IsLawfulItem hs) is
  lawful_items [] [] f z = tt
  lawful_items [] (i ∷ is) f z = absurd z
  lawful_items (p ∷ ps) [] f z = absurd z
  lawful_items (alone l ∷ ps) (statement_item m s ∷ is) f z = (z.0.statement, lawful_items ps is (λ p q. f p (among_there ps (alone l) p q)) z.1)
  lawful_items (alone l ∷ ps) (command_item m c ∷ is) f z =
      ((z.0.command, lawful_command l m c (f (alone l) (among_here ps (alone l) (alone l) refl)) z.0), lawful_items ps is (λ p q. f p (among_there ps (alone l) p q)) z.1)
  lawful_items (alone l ∷ ps) (definition_item d ∷ is) f z = absurd z.0
  lawful_items (defined top ls None ∷ ps) (i ∷ is) f z = absurd z.0
  lawful_items (defined top ls (Some last) ∷ ps) (statement_item m s ∷ is) f z = absurd z.0
  lawful_items (defined top ls (Some last) ∷ ps) (command_item m c ∷ is) f z = absurd z.0
  lawful_items (defined top ls (Some last) ∷ ps) (definition_item d ∷ is) f z = (
    lawful_definition top ls last d (f (defined top ls (Some last)) (among_here ps (defined top ls (Some last)) (defined top ls (Some last)) refl)) z.0,
    lawful_items ps is (λ p q. f p (among_there ps (defined top ls (Some last)) p q)) z.1,
  )

  -- no later definition heads a name that is headed before
  later_differ : (n : List ℕ) (before ps : List Part) (is : List Item) → parts ks ≡ before ++ ps → Heads before n → AllZip (IsItem hs) ps is →
      AllByRecursion (λ m. is_same_name n m ≡ false) (map (λ (h : Heading). h.name) (headings is))
  later_differ n before [] [] e h z = tt
  later_differ n before [] (i ∷ is) e h z = absurd z
  later_differ n before (p ∷ ps) [] e h z = absurd z
  later_differ n before (alone l ∷ ps) (statement_item m s ∷ is) e h z = later_differ n (before ++ (alone l ∷ [])) ps is (e ∙ sym (append_assoc before (alone l ∷ []) ps)) (heads_append before (alone l ∷ []) n h) z.1
  later_differ n before (alone l ∷ ps) (command_item m c ∷ is) e h z = later_differ n (before ++ (alone l ∷ [])) ps is (e ∙ sym (append_assoc before (alone l ∷ []) ps)) (heads_append before (alone l ∷ []) n h) z.1
  later_differ n before (alone l ∷ ps) (definition_item d ∷ is) e h z = absurd z.0
  later_differ n before (defined top ls None ∷ ps) (i ∷ is) e h z = absurd z.0
  later_differ n before (defined top ls (Some last) ∷ ps) (statement_item m s ∷ is) e h z = absurd z.0
  later_differ n before (defined top ls (Some last) ∷ ps) (command_item m c ∷ is) e h z = absurd z.0
  later_differ n before (defined top ls (Some last) ∷ ps) (definition_item d ∷ is) e h z =
      let p = defined top ls (Some last) in
      let t = own_token d.header.f d.header.result d.header.left d.header.right d.header.locals top.number top.tokens z.0.head.spells in (
        differs (is_same_name n d.header.f) (λ f. ok.single _ (second_heading before ps top ls (Some last) d.header t.0 e z.0.head (subst (λ m. Heads before m) (same_name_is n d.header.f f) h) t.1 refl)),
        later_differ n (before ++ (p ∷ [])) ps is (e ∙ sym (append_assoc before (p ∷ []) ps)) (heads_append before (p ∷ []) n h) z.1,
      )

  distinct_headings : (before ps : List Part) (is : List Item) → parts ks ≡ before ++ ps → AllZip (IsItem hs) ps is → IsDistinct is_same_name (map (λ (h : Heading). h.name) (headings is))
  unfolding IsDistinct
  distinct_headings before [] [] e z = tt
  distinct_headings before [] (i ∷ is) e z = absurd z
  distinct_headings before (p ∷ ps) [] e z = absurd z
  distinct_headings before (alone l ∷ ps) (statement_item m s ∷ is) e z = distinct_headings (before ++ (alone l ∷ [])) ps is (e ∙ sym (append_assoc before (alone l ∷ []) ps)) z.1
  distinct_headings before (alone l ∷ ps) (command_item m c ∷ is) e z = distinct_headings (before ++ (alone l ∷ [])) ps is (e ∙ sym (append_assoc before (alone l ∷ []) ps)) z.1
  distinct_headings before (alone l ∷ ps) (definition_item d ∷ is) e z = absurd z.0
  distinct_headings before (defined top ls None ∷ ps) (i ∷ is) e z = absurd z.0
  distinct_headings before (defined top ls (Some last) ∷ ps) (statement_item m s ∷ is) e z = absurd z.0
  distinct_headings before (defined top ls (Some last) ∷ ps) (command_item m c ∷ is) e z = absurd z.0
  distinct_headings before (defined top ls (Some last) ∷ ps) (definition_item d ∷ is) e z =
      let p = defined top ls (Some last) in
      let e' = e ∙ sym (append_assoc before (p ∷ []) ps) in
      let there : Heads (before ++ (p ∷ [])) d.header.f = record { first = top; body = ls; header = d.header; is_defined = record { last = Some last; among = before_after before [] p; head = z.0.head }; same = refl } in
      (later_differ d.header.f (before ++ (p ∷ [])) ps is e' there z.1, distinct_headings (before ++ (p ∷ [])) ps is e' z.1)

  pub items_lawful : AreLawful s.items
  items_lawful = record { each = lawful_items (parts ks) s.items (λ p q. q) ok.tree.items; single = distinct_headings [] (parts ks) s.items refl ok.tree.items }
