-- A script of bytes is accepted exactly where it has no refusal.
use Rattle.std.proofs.Common.{◌≡◌, ℕ, zero, suc, ◌+◌, ◌≤◌, ◌^◌, ◌==◌, true, false, List, [], ◌∷◌, ◌++◌, length, Option, None, Some, ◌⊎◌, inl, inr, refl, sym, ap, subst, ◌∙◌, arith, append_assoc, append-nil}
use Rattle.std.specs.Prelude.{codes}
use Rattle.std.specs.List.{IsAmong, AllZip}
use Rattle.std.specs.Str.Lossy.{utf8_valid_len}
use Rattle.std.proofs.lemmas.Str.{utf8_valid_len_le}
use Rattle.apl_base.specs.declared.faults.Cause.{Cause}
use Rattle.apl_base.specs.declared.faults.Refusal.{Refusal}
use Rattle.apl_model.proofs.Complete.{read_complete}
use Rattle.apl_model.proofs.Decide.{false_true, at_most_known, lawful_known}
use Rattle.apl_model.proofs.Machine.{run, taken, start, sort, finished}
use Rattle.apl_model.specs.Characters.{code}
use Rattle.std.specs.Option.{option_and_then}
use Rattle.std.proofs.lemmas.Bool.{eqb-true}
use Rattle.apl_model.proofs.Unique.{one_header, none_clash, run_none}
use Rattle.apl_model.specs.Grammar.{IsStatement}
use Rattle.apl_model.specs.Laws.{AcceptedExactly}
use Rattle.apl_model.specs.Lines.{numbered, texts_of, lines_of}
use Rattle.apl_model.specs.Refusal.{IsReadingRefusal, ill_formed, long_line, at_fault, LineKind, outside, in_body, first_line, by_itself, IsLawful, IsBeginning, past_last, StopsAt, at_token, past_the_last, IsLineOf, IsHeaderRefusal, no_header, lone, nested, IsOpenDefinition, never_closed, AreClasses, IsGrammarRefusal, outside_definitions, in_a_body, IsLineRefusal, header, double_name, open_definition, name_class, deep, grammar, IsRefusal, too_long, of_reading, of_lines, IsAccepted}
use Rattle.apl_model.specs.Script.{is_glyph_token, opens, closes, is_empty, Part, alone, defined, Inside, parts, inside, headings, heading_of, IsHeadOf, IsBodyLine, IsItem}
use Rattle.apl_model.specs.Spelling.{glyph, Spell, statement_spelling}
use Rattle.apl_model.specs.Tokens.{Piece, Found, fault, pieces, tokens, IsSound, AreSound, IsRead}
use Rattle.apl_model.specs.Tokens as found
use Rattle.apl_model.specs.Tree.{Statement, nothing, BodyLine, Item, statement_item, command_item, definition_item, Script}
use Rattle.apl_model.specs.declared.scripts.Command.TheVariants as command
use Rattle.apl_model.specs.declared.scripts.Header.{Header}
use Rattle.apl_model.specs.declared.tokens.Heading.{Heading}
use Rattle.apl_model.specs.declared.tokens.Line.{Line}
use Rattle.apl_model.specs.declared.tokens.Token.{Token}
use Rattle.apl_model.specs.declared.tokens.Word.{Word}
use Rattle.apl_model.specs.declared.tokens.Word.TheVariants as word

-- ---- Members of a list ----

pub among_here : {A : Type 0} (xs : List A) (x v : A) → v ≡ x → IsAmong (x ∷ xs) v
among_here xs x v e = (0, (omega arith, e))

pub among_there : {A : Type 0} (xs : List A) (x v : A) → IsAmong xs v → IsAmong (x ∷ xs) v
among_there xs x v h = (suc h.0, (let b = h.1.0 in omega arith, h.1.1))

pub among_cases : {A : Type 0} (xs : List A) (x v : A) → IsAmong (x ∷ xs) v → (v ≡ x) ⊎ IsAmong xs v
among_cases xs x v (zero, h) = inl h.1
among_cases xs x v (suc i, h) = let b = h.0 in inr (i, (omega arith, h.1))

pub among_none : {A : Type 0} (v : A) → IsAmong [] v → ⊥
among_none v h = let b = h.1.0 in omega arith

-- members of one of two lists are members of both together
pub among_first : {A : Type 0} (xs ys : List A) (v : A) → IsAmong xs v → IsAmong (xs ++ ys) v
among_first [] ys v m = absurd (among_none v m)
among_first (x ∷ xs) ys v m = elim (among_cases xs x v m) [
  | inl e ↦ among_here (xs ++ ys) x v e
  | inr k ↦ among_there (xs ++ ys) x v (among_first xs ys v k)
]

-- ---- Where lines stop ----

module _ (kind : LineKind) (hs : List Heading) (n : ℕ) (line : List ℕ) (ts : List Token) (read : IsRead line ts) where
  begins : IsLawful kind hs n ts → (before rest : List Token) → ts ≡ before ++ rest → IsBeginning kind hs n before
  begins l before rest e = record {
    text = line;
    rest = rest;
    read = subst (λ v. IsRead line v) e read;
    lawful = subst (λ v. IsLawful kind hs n v) e l;
  }

  -- a lawful line stops nowhere
  pub no_stop : (column : ℕ) → IsLawful kind hs n ts → StopsAt kind hs n ts column → ⊥
  no_stop column l (at_token before t after e b nb c) = nb (begins l (before ++ (t ∷ [])) after (e ∙ sym (append_assoc before (t ∷ []) after)))
  no_stop column l (past_the_last b nl c) = nl l

  -- another one stops somewhere
  pub some_stop : IsBeginning kind hs n [] → (IsLawful kind hs n ts → ⊥) → ((column : ℕ) → StopsAt kind hs n ts column → ⊥) → ⊥
  some_stop b nl none = go [] ts refl b
    where
      go : (before after : List Token) → ts ≡ before ++ after → IsBeginning kind hs n before → ⊥
      go before [] e b = none (past_last ts) (past_the_last (subst (λ v. IsBeginning kind hs n v) (sym (e ∙ append-nil before)) b) nl refl)
      go before (t ∷ after) e b = none t.from (at_token before t after e b
          (λ b'. go (before ++ (t ∷ [])) after (e ∙ sym (append_assoc before (t ∷ []) after)) b') refl)

pub outside_begins : (hs : List Heading) (n : ℕ) → IsBeginning outside hs n []
outside_begins hs n = record { text = []; rest = []; read = record { sound = tt; same = refl }; lawful = inl (nothing, tt, tt) }

pub body_begins : (hs : List Heading) (n : ℕ) → IsBeginning in_body hs n []
body_begins hs n = record { text = []; rest = []; read = record { sound = tt; same = refl }; lawful = (None, nothing, tt, tt, tt) }

pub header_begins : (hs : List Heading) (n : ℕ) → IsBeginning first_line hs n []
header_begins hs n = record {
  text = codes "∇F";
  rest = tokens (codes "∇F");
  read = record { sound = (tt, (tt, tt)); same = refl };
  lawful = (
    record { f = codes "F"; result = None; left = None; right = None; locals = [] },
    record { f = refl; result = tt; left = tt; right = tt; locals = tt; both = λ e. e },
    (refl, (refl, tt)),
  );
}

-- ---- The lines of the parts ----

-- where a part comes from
abbrev pub From : List Line → Part → Type 0
From ls (alone l) = IsAmong ls l
From ls (defined first body last) = IsAmong ls first × (opens first.tokens ≡ true) × ((l : Line) → IsAmong body l → IsAmong ls l)

from_more : (l : Line) (ls : List Line) (p : Part) → From ls p → From (l ∷ ls) p
from_more l ls (alone m) h = among_there ls l m h
from_more l ls (defined top body last) h = (among_there ls l top h.0, h.1, λ m b. among_there ls l m (h.2 m b))

abbrev Comes : List Line → Type 0
Comes ls = ((p : Part) → IsAmong (parts ls) p → From ls p) ×
    (((l : Line) → IsAmong (inside ls).body l → IsAmong ls l) × ((p : Part) → IsAmong (inside ls).after p → From ls p))

comes_parts : (l : Line) (ls : List Line) → Comes ls → (p : Part) → IsAmong (parts (l ∷ ls)) p → From (l ∷ ls) p
comes_parts l ls c p h = elim (is_empty l.tokens) as (λ b. IsAmong (elim b [
  | true ↦ parts ls
  | false ↦ elim (opens l.tokens) [
    | true ↦ let i = inside ls in defined l i.body i.last ∷ i.after
    | false ↦ alone l ∷ parts ls
  ]
]) p → From (l ∷ ls) p) [
  | true ↦ λ m. from_more l ls p (c.0 p m)
  | false ↦ λ m. (elim (opens l.tokens) as (λ b. opens l.tokens ≡ b → IsAmong (elim b [
    | true ↦ let i = inside ls in defined l i.body i.last ∷ i.after
    | false ↦ alone l ∷ parts ls
  ]) p → From (l ∷ ls) p) [
    | true ↦ λ o m. elim (among_cases (inside ls).after (defined l (inside ls).body (inside ls).last) p m) [
      | inl e ↦ subst (λ q. From (l ∷ ls) q) (sym e) (among_here ls l l refl, o, λ k b. among_there ls l k (c.1.0 k b))
      | inr k ↦ from_more l ls p (c.1.1 p k)
    ]
    | false ↦ λ o m. elim (among_cases (parts ls) (alone l) p m) [
      | inl e ↦ subst (λ q. From (l ∷ ls) q) (sym e) (among_here ls l l refl)
      | inr k ↦ from_more l ls p (c.0 p k)
    ]
  ]) refl m
] h

comes_inside : (l : Line) (ls : List Line) → Comes ls →
    ((m : Line) → IsAmong (inside (l ∷ ls)).body m → IsAmong (l ∷ ls) m) × ((p : Part) → IsAmong (inside (l ∷ ls)).after p → From (l ∷ ls) p)
comes_inside l ls c = elim (closes l.tokens) as (λ b. let r : Inside = elim b [
  | true ↦ record { body = []; last = Some l; after = parts ls }
  | false ↦ let i = inside ls in record { body = l ∷ i.body; last = i.last; after = i.after }
] in
    ((m : Line) → IsAmong r.body m → IsAmong (l ∷ ls) m) × ((p : Part) → IsAmong r.after p → From (l ∷ ls) p)) [
      | true ↦ (λ m h. absurd (among_none m h), λ p h. from_more l ls p (c.0 p h))
      | false ↦ (
        λ m h. elim (among_cases (inside ls).body l m h) [ inl e ↦ among_here ls l m e | inr k ↦ among_there ls l m (c.1.0 m k) ],
        λ p h. from_more l ls p (c.1.1 p h),
      )
    ]

comes : (ls : List Line) → Comes ls
comes [] = (λ p h. absurd (among_none p h), (λ l h. absurd (among_none l h), λ p h. absurd (among_none p h)))
comes (l ∷ ls) = let c = comes ls in (comes_parts l ls c, comes_inside l ls c)

pub part_from : (ls : List Line) (p : Part) → IsAmong (parts ls) p → From ls p
part_from ls = (comes ls).0

pub line_among : (ls : List Line) (kind : LineKind) (l : Line) → IsLineOf ls kind l → IsAmong ls l
line_among ls outside l h = part_from ls (alone l) h
line_among ls in_body l (top, body, last, h, b) = (part_from ls (defined top body last) h).2 l b
line_among ls first_line l (body, last, h) = (part_from ls (defined l body last) h).0
line_among ls by_itself l h = absurd h

-- ---- An accepted script has no refusal ----

pub zip_at : {A B : Type 0} (R : A → B → Type 0) (xs : List A) (ys : List B) (x : A) → AllZip R xs ys → IsAmong xs x → (y : B) × R x y
zip_at R [] ys x h m = absurd (among_none x m)
zip_at R (x' ∷ xs) [] x h m = absurd h
zip_at R (x' ∷ xs) (y ∷ ys) x h m = elim (among_cases xs x' x m) [ inl e ↦ (y, subst (λ v. R v y) (sym e) h.0) | inr k ↦ zip_at R xs ys x h.1 k ]

-- each line of a script is lawful
pub outside_lawful : (hs : List Heading) (l : Line) (i : Item) → IsItem hs (alone l) i → IsLawful outside hs l.number l.tokens
outside_lawful hs l (statement_item n s) h = inl (s, h.statement, h.spells)
outside_lawful hs l (command_item n c) h = inr (c, h.command, h.spells)
outside_lawful hs l (definition_item d) h = absurd h

pub body_lawful : (hs : List Heading) (top : Line) (body : List Line) (last : Option Line) (l : Line) (i : Item) → IsItem hs (defined top body last) i → IsAmong body l → IsLawful in_body hs l.number l.tokens
body_lawful hs top body None l i h m = absurd h
body_lawful hs top body (Some last) l (statement_item n s) h m = absurd h
body_lawful hs top body (Some last) l (command_item n c) h m = absurd h
body_lawful hs top body (Some last) l (definition_item d) h m = let b = zip_at (IsBodyLine hs) body d.body l h.body m in (b.0.label, b.0.statement, b.1.label, b.1.statement, b.1.spells)

pub head_lawful : (hs ks : List Heading) (top : Line) (body : List Line) (last : Option Line) (i : Item) → IsItem hs (defined top body last) i → IsLawful first_line ks top.number top.tokens
head_lawful hs ks top body None i h = absurd h
head_lawful hs ks top body (Some last) (statement_item n s) h = absurd h
head_lawful hs ks top body (Some last) (command_item n c) h = absurd h
head_lawful hs ks top body (Some last) (definition_item d) h = (d.header, h.head.header, h.head.spells)

never_open : (hs : List Heading) (top : Line) (body : List Line) (i : Item) → IsItem hs (defined top body None) i → ⊥
never_open hs top body i h = h

-- the classes of the parts are those of the items
pub same_classes : (hs : List Heading) (ps : List Part) (is : List Item) (ks : List Heading) → AllZip (IsItem hs) ps is → AreClasses ps ks → ks ≡ headings is
same_classes hs [] [] [] x c = refl
same_classes hs [] [] (k ∷ ks) x c = absurd c
same_classes hs [] (i ∷ is) ks x c = absurd x
same_classes hs (p ∷ ps) [] ks x c = absurd x
same_classes hs (alone l ∷ ps) (statement_item n s ∷ is) ks x c = same_classes hs ps is ks x.1 c
same_classes hs (alone l ∷ ps) (command_item n d ∷ is) ks x c = same_classes hs ps is ks x.1 c
same_classes hs (alone l ∷ ps) (definition_item d ∷ is) ks x c = absurd x.0
same_classes hs (defined top body last ∷ ps) (i ∷ is) [] x c = absurd c
same_classes hs (defined top body None ∷ ps) (i ∷ is) (k ∷ ks) x c = absurd x.0
same_classes hs (defined top body (Some last) ∷ ps) (statement_item n s ∷ is) (k ∷ ks) x c = absurd x.0
same_classes hs (defined top body (Some last) ∷ ps) (command_item n d ∷ is) (k ∷ ks) x c = absurd x.0
same_classes hs (defined top body (Some last) ∷ ps) (definition_item d ∷ is) (k ∷ ks) x c =
    let e = one_header top.number top.tokens c.0.0 d.header c.0.1.header x.0.head.header c.0.1.spells x.0.head.spells in
    let f : k ≡ heading_of d.header = c.0.2 ∙ ap heading_of e in
    let g = same_classes hs ps is ks x.1 c.1 in
    λ i. f i ∷ g i

-- ∇ begins no statement, no command and no line of a body
nabla_word : (w : Word) → (elim w [ word.Glyph c ↦ c == code "∇" | _ ↦ false ]) ≡ true → glyph "∇" ≡ w
nabla_word (word.Glyph c) e = ap word.Glyph (sym (eqb-true c (code "∇") e))
nabla_word (word.Numbers zs) e = absurd (false_true e)
nabla_word (word.Chars zs) e = absurd (false_true e)
nabla_word (word.Name n) e = absurd (false_true e)

name_no_nabla : (l : List ℕ) (w : Word) → word.Name l ≡ w → glyph "∇" ≡ w → ⊥
name_no_nabla l w e f = cc

paren_no_nabla : (w : Word) → glyph ")" ≡ w → glyph "∇" ≡ w → ⊥
paren_no_nabla w e f = let g : ◌≡◌ {A = ℕ} 41 8711 = cc in omega arith

nabla_statement : (hs : List Heading) (n : ℕ) (t : Token) (ts : List Token) (s : Statement) → IsStatement hs s → Spell n (statement_spelling s) (t ∷ ts) → is_glyph_token "∇" t ≡ true → ⊥
nabla_statement hs n t ts s h a e = none_clash (sym (read_complete hs n s h (t ∷ ts) a) ∙ ap (option_and_then finished)
    (subst (λ w. run hs n (taken start (record { line = n; column = t.from }) (sort hs w)) ts ≡ None) (nabla_word t.word e) (run_none hs n ts)))

nabla_body : (hs : List Heading) (n : ℕ) (t : Token) (ts : List Token) → IsLawful in_body hs n (t ∷ ts) → is_glyph_token "∇" t ≡ true → ⊥
nabla_body hs n t ts (None, s, a, h, sp) e = nabla_statement hs n t ts s h sp e
nabla_body hs n t ts (Some l, s, a, h, sp) e = name_no_nabla l t.word sp.0 (nabla_word t.word e)

nabla_outside : (hs : List Heading) (n : ℕ) (t : Token) (ts : List Token) → IsLawful outside hs n (t ∷ ts) → is_glyph_token "∇" t ≡ true → ⊥
nabla_outside hs n t ts (inl (s, h, sp)) e = nabla_statement hs n t ts s h sp e
nabla_outside hs n t ts (inr (command.Vars, h, sp)) e = paren_no_nabla t.word sp.0 (nabla_word t.word e)
nabla_outside hs n t ts (inr (command.Fns, h, sp)) e = paren_no_nabla t.word sp.0 (nabla_word t.word e)
nabla_outside hs n t ts (inr (command.Erase ns, h, sp)) e = paren_no_nabla t.word sp.0 (nabla_word t.word e)
nabla_outside hs n t ts (inr (command.Origin o, h, sp)) e = paren_no_nabla t.word sp.0 (nabla_word t.word e)

closing_outside : (hs : List Heading) (n : ℕ) (ts : List Token) → IsLawful outside hs n ts → closes ts ≡ true → ⊥
closing_outside hs n [] h e = cc
closing_outside hs n (t ∷ []) h e = nabla_outside hs n t [] h e
closing_outside hs n (t ∷ u ∷ ts) h e = cc

sound_fault : (p : Piece) (c : Cause) → IsSound p → p.found ≡ fault c → ⊥
sound_fault p c s e = unsound p.found s e
  where
    unsound : (v : Found) → (elim v as (λ _. Type 0) [ fault c ↦ ⊥ | _ ↦ Unit {0} ]) → v ≡ fault c → ⊥
    unsound (fault d) s e = s
    unsound (found.number z) s e = cc
    unsound (found.text cs) s e = cc
    unsound (found.name n) s e = cc
    unsound (found.glyph g) s e = cc

sound_among : (ps : List Piece) (p : Piece) → AreSound ps → IsAmong ps p → IsSound p
sound_among [] p s m = absurd (among_none p m)
sound_among (q ∷ ps) p s m = elim (among_cases ps q p m) [ inl e ↦ subst IsSound (sym e) s.0 | inr k ↦ sound_among ps p s.1 k ]

module _ (bytes : List ℕ) (s : Script) (ok : IsAccepted bytes s) where
  abbrev ls : List Line
  ls = lines_of bytes

  abbrev hs : List Heading
  hs = headings s.items

  stops_nowhere : (kind : LineKind) (ks : List Heading) (l : Line) (column : ℕ) → IsLineOf ls kind l → IsLawful kind ks l.number l.tokens → StopsAt kind ks l.number l.tokens column → ⊥
  stops_nowhere kind ks l column m h x = no_stop kind ks l.number l.text l.tokens (ok.lines l (line_among ls kind l m)).1 column h x

  no_reading : (r : Refusal) → IsReadingRefusal bytes r → ⊥
  no_reading r (ill_formed h e) = let w = ok.whole in omega arith
  no_reading r (long_line l m h e) = let w = (ok.lines l m).0 in omega arith
  no_reading r (at_fault l p c m q f e) = sound_fault p c (sound_among (pieces l.text) p (ok.lines l m).1.sound q) f

  no_header_refusal : (r : Refusal) → IsHeaderRefusal ls r → ⊥
  no_header_refusal r (no_header l column m x e) =
      let i = zip_at (IsItem hs) (parts ls) s.items (defined l m.0 m.1) ok.tree.items m.2 in
      stops_nowhere first_line [] l column m (head_lawful hs [] l m.0 m.1 i.0 i.1) x
  no_header_refusal r (lone l m c e) =
      let i = zip_at (IsItem hs) (parts ls) s.items (alone l) ok.tree.items m in
      closing_outside hs l.number l.tokens (outside_lawful hs l i.0 i.1) c
  no_header_refusal r (nested l t u ts m f g e) =
      let i = zip_at (IsItem hs) (parts ls) s.items (defined m.0 m.1 m.2) ok.tree.items m.3 in
      let h = body_lawful hs m.0 m.1 m.2 l i.0 i.1 m.4 in
      nabla_body hs l.number t (u ∷ ts) (subst (λ v. IsLawful in_body hs l.number v) f h) g

  no_open : (r : Refusal) → IsOpenDefinition ls r → ⊥
  no_open r (never_closed top body t ts m f e) =
      let i = zip_at (IsItem hs) (parts ls) s.items (defined top body None) ok.tree.items m in
      never_open hs top body i.0 i.1

  no_grammar : (r : Refusal) → IsGrammarRefusal ls r → ⊥
  no_grammar r (outside_definitions l ks column c m x e) =
      let i = zip_at (IsItem hs) (parts ls) s.items (alone l) ok.tree.items m in
      let f = same_classes hs (parts ls) s.items ks ok.tree.items c in
      stops_nowhere outside ks l column m (subst (λ v. IsLawful outside v l.number l.tokens) (sym f) (outside_lawful hs l i.0 i.1)) x
  no_grammar r (in_a_body l ks column c m x e) =
      let i = zip_at (IsItem hs) (parts ls) s.items (defined m.0 m.1 m.2) ok.tree.items m.3 in
      let f = same_classes hs (parts ls) s.items ks ok.tree.items c in
      stops_nowhere in_body ks l column m (subst (λ v. IsLawful in_body v l.number l.tokens) (sym f) (body_lawful hs m.0 m.1 m.2 l i.0 i.1 m.4)) x

  no_line_refusal : (r : Refusal) → IsLineRefusal ls r → ⊥
  no_line_refusal r (header x) = no_header_refusal r x
  no_line_refusal r (double_name x) = ok.single r x
  no_line_refusal r (open_definition x) = no_open r x
  no_line_refusal r (name_class x) = ok.classes r x
  no_line_refusal r (deep x) = ok.shallow r x
  no_line_refusal r (grammar x) = no_grammar r x

  pub no_refusal : (r : Refusal) → IsRefusal bytes r → ⊥
  no_refusal r (too_long h e) = let w = ok.short in omega arith
  no_refusal r (of_reading x) = no_reading r x
  no_refusal r (of_lines x) = no_line_refusal r x

-- ---- A script without refusals is accepted ----

-- the lines of a script have the tokens of their texts
pub numbered_tokens : (n : ℕ) (texts : List (List ℕ)) (l : Line) → IsAmong (numbered n texts) l → tokens l.text ≡ l.tokens
numbered_tokens n [] l m = absurd (among_none l m)
numbered_tokens n (t ∷ ts) l m = elim (among_cases (numbered (n + 1) ts) (record { number = n; text = t; tokens = tokens t }) l m) [
  | inl e ↦ ap (λ (k : Line). tokens k.text) e ∙ sym (ap (λ (k : Line). k.tokens) e)
  | inr k ↦ numbered_tokens (n + 1) ts l k
]

sound_by : (v : Found) → ((c : Cause) → v ≡ fault c → ⊥) → (elim v as (λ _. Type 0) [ fault c ↦ ⊥ | _ ↦ Unit {0} ])
sound_by (fault d) f = f d refl
sound_by (found.number z) f = tt
sound_by (found.text cs) f = tt
sound_by (found.name n) f = tt
sound_by (found.glyph g) f = tt

-- pieces without faults are sound
pub all_sound : (ps : List Piece) → ((p : Piece) (c : Cause) → IsAmong ps p → p.found ≡ fault c → ⊥) → AreSound ps
all_sound [] f = tt
all_sound (p ∷ ps) f = (sound_by p.found (λ c e. f p c (among_here ps p p refl) e), all_sound ps (λ q c m e. f q c (among_there ps p q m) e))

-- what opens a definition has two tokens or more
pub opens_two : (ts : List Token) → opens ts ≡ true → (t : Token) × (us : List Token) × (ts ≡ t ∷ us)
opens_two [] e = absurd (false_true e)
opens_two (t ∷ []) e = absurd (false_true e)
opens_two (t ∷ u ∷ ts) e = (t, u ∷ ts, refl)

module _ (bytes : List ℕ) (none : (r : Refusal) → IsRefusal bytes r → ⊥) where
  abbrev ls' : List Line
  ls' = lines_of bytes

  is_short : length bytes ≤ 2 ^ 20
  is_short = elim (at_most_known (length bytes) (2 ^ 20)) [ inl h ↦ h | inr h ↦ absurd (none _ (too_long (let k : (length bytes ≤ 2 ^ 20) → ⊥ = h in omega arith) refl)) ]

  is_whole : utf8_valid_len bytes ≡ length bytes
  is_whole = elim (at_most_known (length bytes) (utf8_valid_len bytes)) [
    | inl h ↦ (let k = utf8_valid_len_le bytes in omega arith)
    | inr h ↦ absurd (none _ (of_reading (ill_formed (let k : (length bytes ≤ utf8_valid_len bytes) → ⊥ = h in omega arith) refl)))
  ]

  is_read : (l : Line) → IsAmong ls' l → IsRead l.text l.tokens
  is_read l m = record {
    sound = all_sound (pieces l.text) (λ p c q e. none _ (of_reading (at_fault l p c m q e refl)));
    same = numbered_tokens 1 (texts_of bytes) l m;
  }

  are_lines : (l : Line) → IsAmong ls' l → (length l.text ≤ 1000) × IsRead l.text l.tokens
  are_lines l m = (elim (at_most_known (length l.text) 1000) [ inl h ↦ h | inr h ↦ absurd (none _ (of_reading (long_line l m (let k : (length l.text ≤ 1000) → ⊥ = h in omega arith) refl))) ], is_read l m)

  -- each definition has a header
  has_header : (top : Line) (body : List Line) (last : Option Line) → IsAmong (parts ls') (defined top body last) → (h : Header) × IsHeadOf top h
  has_header top body last m = elim (lawful_known first_line [] top.number top.tokens) [
    | inl x ↦ (x.0, record { header = x.1; spells = x.2 })
    | inr n ↦ absurd (some_stop first_line [] top.number top.text top.tokens (is_read top (line_among ls' first_line top (body, last, m))) (header_begins [] top.number) n
        (λ column x. none _ (of_lines (header (no_header top column (body, last, m) x refl)))))
  ]

  -- so there are classes
  has_classes : (ps : List Part) → ((p : Part) → IsAmong ps p → IsAmong (parts ls') p) → (hs : List Heading) × AreClasses ps hs
  has_classes [] f = ([], tt)
  has_classes (alone l ∷ ps) f = has_classes ps (λ p m. f p (among_there ps (alone l) p m))
  has_classes (defined top body last ∷ ps) f =
      let h = has_header top body last (f (defined top body last) (among_here ps (defined top body last) (defined top body last) refl)) in
      let r = has_classes ps (λ p m. f p (among_there ps (defined top body last) p m)) in
      (heading_of h.0 ∷ r.0, ((h.0, h.1, refl), r.1))

  module _ (hs : List Heading) (classes : AreClasses (parts ls') hs) where
    has_outside : (l : Line) → IsAmong (parts ls') (alone l) → IsLawful outside hs l.number l.tokens
    has_outside l m = elim (lawful_known outside hs l.number l.tokens) [
      | inl x ↦ x
      | inr n ↦ absurd (some_stop outside hs l.number l.text l.tokens (is_read l (line_among ls' outside l m)) (outside_begins hs l.number) n
          (λ column x. none _ (of_lines (grammar (outside_definitions l hs column classes m x refl)))))
    ]

    has_body_line : (l : Line) → IsLineOf ls' in_body l → (b : BodyLine) × IsBodyLine hs l b
    has_body_line l m = elim (lawful_known in_body hs l.number l.tokens) [
      | inl x ↦ (record { line = l.number; label = x.0; statement = x.1 }, record { number = refl; label = x.2; statement = x.3; spells = x.4 })
      | inr n ↦ absurd (some_stop in_body hs l.number l.text l.tokens (is_read l (line_among ls' in_body l m)) (body_begins hs l.number) n
          (λ column x. none _ (of_lines (grammar (in_a_body l hs column classes m x refl)))))
    ]

    has_body : (bs : List Line) → ((l : Line) → IsAmong bs l → IsLineOf ls' in_body l) → (b : List BodyLine) × AllZip (IsBodyLine hs) bs b
    has_body [] f = ([], tt)
    has_body (l ∷ bs) f =
        let b = has_body_line l (f l (among_here bs l l refl)) in
        let r = has_body bs (λ k m. f k (among_there bs l k m)) in
        (b.0 ∷ r.0, (b.1, r.1))

    -- the items of parts, with the classes that they give
    has_items : (ps : List Part) (ks : List Heading) → ((p : Part) → IsAmong ps p → IsAmong (parts ls') p) → AreClasses ps ks → (is : List Item) × AllZip (IsItem hs) ps is × (headings is ≡ ks)
    has_items [] [] f c = ([], tt, refl)
    has_items [] (k ∷ ks) f c = absurd c
    has_items (alone l ∷ ps) ks f c =
        let r = has_items ps ks (λ p m. f p (among_there ps (alone l) p m)) c in
        elim (has_outside l (f (alone l) (among_here ps (alone l) (alone l) refl))) [
          | inl x ↦ (statement_item l.number x.0 ∷ r.0, (record { number = refl; statement = x.1; spells = x.2 }, r.1), r.2)
          | inr x ↦ (command_item l.number x.0 ∷ r.0, (record { number = refl; command = x.1; spells = x.2 }, r.1), r.2)
        ]
    has_items (defined top body last ∷ ps) [] f c = absurd c
    has_items (defined top body None ∷ ps) (k ∷ ks) f c =
        let m = f (defined top body None) (among_here ps (defined top body None) (defined top body None) refl) in
        let t = opens_two top.tokens (part_from ls' (defined top body None) m).1 in
        absurd (none _ (of_lines (open_definition (never_closed top body t.0 t.1 m t.2 refl))))
    has_items (defined top body (Some last) ∷ ps) (k ∷ ks) f c =
        let m = f (defined top body (Some last)) (among_here ps (defined top body (Some last)) (defined top body (Some last)) refl) in
        let r = has_items ps ks (λ p q. f p (among_there ps (defined top body (Some last)) p q)) c.1 in
        let b = has_body body (λ l q. (top, body, Some last, m, q)) in (
          definition_item (record { opened = top.number; closed = last.number; header = c.0.0; body = b.0 }) ∷ r.0,
          (record { opened = refl; closed = refl; head = c.0.1; body = b.1 }, r.1),
          (λ i. sym c.0.2 i ∷ r.2 i),
        )

  pub accepted : (s : Script) × IsAccepted bytes s
  accepted =
      let c = has_classes (parts ls') (λ p m. m) in
      let r = has_items c.0 c.1 (parts ls') c.0 (λ p m. m) c.1 in (
        record { lines = ls'; items = r.0 },
        record {
          short = is_short;
          whole = is_whole;
          lines = are_lines;
          tree = record { lines = refl; items = subst (λ h. AllZip (IsItem h) (parts ls') r.0) (sym r.2) r.1 };
          shallow = λ r x. none r (of_lines (deep x));
          single = λ r x. none r (of_lines (double_name x));
          classes = λ r x. none r (of_lines (name_class x));
        },
      )

pub accepted_exactly : AcceptedExactly
accepted_exactly bytes = (λ x r i. no_refusal bytes x.0 x.1 r i, λ f. accepted bytes f)
