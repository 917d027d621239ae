-- Trees that spell the same tokens are equal.
use Rattle.std.proofs.Common.{◌≡◌, ℕ, ◌==◌, cond, true, false, List, [], ◌∷◌, ◌++◌, Option, None, Some, refl, sym, ap, subst, ◌∙◌}
use Rattle.std.specs.Prelude.{codes}
use Rattle.std.specs.Option.{option_and_then}
use Rattle.std.specs.List.{AllZip}
use Rattle.apl_base.specs.declared.faults.Place.{Place}
use Rattle.apl_model.proofs.Complete.{read_complete}
use Rattle.apl_model.proofs.Machine.{other, sort, Stack, Status, first, must, may, operand, glyph_first, glyph_after, axis_or_none, axis_opened, axis_given, after_jot, after_jot_dot, after_dot, after_quad, State, state, taken, step, run, start, finished, read}
use Rattle.apl_model.specs.Characters.{code}
use Rattle.apl_model.specs.Environment.{is_same_name}
use Rattle.apl_model.specs.Grammar.{IsStatement, IsHeader}
use Rattle.apl_model.specs.Laws.{OneExpression, OneStatement, OneBodyLine, OneCommand, OneHeader, OneScript}
use Rattle.apl_model.specs.Spelling.{Mark, at, some, glyph, statement_spelling, command_spelling, header_spelling, name_marks, local_marks, Spell}
use Rattle.apl_model.specs.Script.{Part, alone, defined, parts, headings, heading_of, IsBodyLine, IsStatementLine, IsCommandLine, IsDefinition, IsItem}
use Rattle.apl_model.specs.Tree.{Statement, expression, BodyLine, Definition, Item, statement_item, command_item, definition_item}
use Rattle.apl_model.specs.declared.scripts.Command.{Command}
use Rattle.apl_model.specs.declared.scripts.Command.TheVariants as command
use Rattle.apl_model.specs.declared.scripts.Header.{Header}
use Rattle.apl_model.specs.declared.tokens.Heading.{Heading}
use Rattle.apl_model.specs.declared.tokens.Line.{Line}
use Rattle.apl_model.specs.declared.tokens.Token.{Token}
use Rattle.apl_model.specs.declared.tokens.Word.{Word}
use Rattle.apl_model.specs.declared.tokens.Word.TheVariants as word

pub one_statement : OneStatement
one_statement hs n ts s r h i a b = let e = read_complete hs n s h ts a in let f = read_complete hs n r i ts b in cc

pub one_expression : OneExpression
one_expression hs n ts s r h i a b = let e = one_statement hs n ts (expression s) (expression r) h i a b in cc

-- a token that is none of the grammar of statements stops the reader
pub other_stops : (o : Stack) (x : Status) (p : Place) → taken (state o x) p other ≡ None
other_stops o first p = refl
other_stops o must p = refl
other_stops o may p = refl
other_stops o (operand e) p = refl
other_stops o (glyph_first f None q) p = refl
other_stops o (glyph_first f (Some m) q) p = refl
other_stops o (glyph_after f e q) p = refl
other_stops o (axis_or_none a) p = refl
other_stops o (axis_opened a) p = refl
other_stops o (axis_given a x) p = refl
other_stops o (after_jot e q) p = refl
other_stops o (after_jot_dot e q) p = refl
other_stops o (after_dot f e q) p = refl
other_stops o (after_quad q) p = refl

pub run_none : (hs : List Heading) (n : ℕ) (ts : List Token) → run hs n None ts ≡ None
run_none hs n [] = refl
run_none hs n (t ∷ ts) = run_none hs n ts

pub stopped_at : (hs : List Heading) (n : ℕ) (x : Option State) (u : Token) (ts : List Token) → glyph ":" ≡ u.word → run hs n x (u ∷ ts) ≡ None
stopped_at hs n None u ts e = run_none hs n ts
stopped_at hs n (Some x) u ts e =
    subst (λ w. run hs n (taken x (record { line = n; column = u.from }) (sort hs w)) ts ≡ None) e
    (ap (λ v. run hs n v ts) (other_stops x.stack x.status (record { line = n; column = u.from })) ∙ run_none hs n ts)

-- no statement has : as its second token
pub no_label : {A : Type 0} (hs : List Heading) (n : ℕ) (t u : Token) (ts : List Token) (s : Statement) → IsStatement hs s →
    Spell n (statement_spelling s) (t ∷ u ∷ ts) → glyph ":" ≡ u.word → A
no_label hs n t u ts s h a e =
    let f = read_complete hs n s h (t ∷ u ∷ ts) a in
    let g : read hs n (t ∷ u ∷ ts) ≡ None = ap (option_and_then finished) (stopped_at hs n (step hs n start t) u ts e) in
    absurd (clash (sym f ∙ g))
  where
    clash : {s : Statement} → Some s ≡ None → ⊥
    clash e = cc

pub one_body_line : OneBodyLine
one_body_line hs n ts None None s r h i a b = (refl, one_statement hs n ts s r h i a b)
one_body_line hs n [] None (Some m) s r h i a b = absurd b
one_body_line hs n (t ∷ []) None (Some m) s r h i a b = absurd b.1
one_body_line hs n (t ∷ u ∷ ts) None (Some m) s r h i a b = no_label hs n t u ts s h a b.1.0
one_body_line hs n [] (Some l) m s r h i a b = absurd a
one_body_line hs n (t ∷ []) (Some l) m s r h i a b = absurd a.1
one_body_line hs n (t ∷ u ∷ ts) (Some l) None s r h i a b = no_label hs n t u ts r i b a.1.0
one_body_line hs n (t ∷ u ∷ ts) (Some l) (Some m) s r h i a b =
    (let e = a.0 in let f = b.0 in cc, one_statement hs n ts s r h i a.1.1 b.1.1)

-- ---- Commands and headers, by their words alone ----

abbrev pub word_of : Mark → Word
word_of (at p w) = w
word_of (some w) = w

abbrev pub words_of : List Mark → List Word
words_of [] = []
words_of (m ∷ ms) = word_of m ∷ words_of ms

abbrev pub token_words : List Token → List Word
token_words [] = []
token_words (t ∷ ts) = t.word ∷ token_words ts

pub same_words : (n : ℕ) (ms : List Mark) (ts : List Token) → Spell n ms ts → words_of ms ≡ token_words ts
same_words n [] [] s = refl
same_words n [] (t ∷ ts) s = absurd s
same_words n (m ∷ ms) [] s = absurd s
same_words n (at p w ∷ ms) (t ∷ ts) s = let e = same_words n ms ts s.1 in let f = s.0.1 in cc
same_words n (some w ∷ ms) (t ∷ ts) s = let e = same_words n ms ts s.1 in let f = s.0 in cc

-- the names among words
abbrev pub names_of : List Word → List (List ℕ)
names_of [] = []
names_of (word.Name n ∷ ws) = n ∷ names_of ws
names_of (_ ∷ ws) = names_of ws

pub names_of-names : (ns : List (List ℕ)) → names_of (words_of (name_marks ns)) ≡ ns
names_of-names [] = refl
names_of-names (n ∷ ns) = ap (λ l. n ∷ l) (names_of-names ns)

pub names_of-locals : (ns : List (List ℕ)) → names_of (words_of (local_marks ns)) ≡ ns
names_of-locals [] = refl
names_of-locals (n ∷ ns) = ap (λ l. n ∷ l) (names_of-locals ns)

abbrev pub origin_read : List Word → Option Command
origin_read (word.Numbers (o ∷ []) ∷ []) = Some (command.Origin o)
origin_read _ = None

abbrev pub command_read : List Word → Option Command
command_read (w ∷ word.Name m ∷ ws) =
    cond (is_same_name m (codes "VARS")) (Some command.Vars) (cond (is_same_name m (codes "FNS")) (Some command.Fns)
    (cond (is_same_name m (codes "ERASE")) (Some (command.Erase (names_of ws))) (origin_read ws)))
command_read _ = None

pub command_complete : (c : Command) → command_read (words_of (command_spelling c)) ≡ Some c
command_complete command.Vars = refl
command_complete command.Fns = refl
command_complete (command.Erase ns) = ap (λ l. Some (command.Erase l)) (names_of-names ns)
command_complete (command.Origin o) = refl

pub one_command : OneCommand
one_command n ts c d a b =
    let e = command_complete c in let f = command_complete d in
    let g = same_words n (command_spelling c) ts a in let k = same_words n (command_spelling d) ts b in cc

abbrev pub function_read : Option (List ℕ) → List Word → Option Header
function_read z (word.Name x ∷ word.Name f ∷ word.Name y ∷ ws) = Some (record { f = f; result = z; left = Some x; right = Some y; locals = names_of ws })
function_read z (word.Name f ∷ word.Name y ∷ ws) = Some (record { f = f; result = z; left = None; right = Some y; locals = names_of ws })
function_read z (word.Name f ∷ ws) = Some (record { f = f; result = z; left = None; right = None; locals = names_of ws })
function_read z _ = None

abbrev pub header_read : List Word → Option Header
header_read (w ∷ word.Name z ∷ word.Glyph c ∷ ws) = cond (c == code "←") (function_read (Some z) ws) (function_read None (word.Name z ∷ word.Glyph c ∷ ws))
header_read (w ∷ ws) = function_read None ws
header_read [] = None

pub no_right : false ≡ true → ⊥
no_right e = cc

pub header_complete : (f : List ℕ) (z x y : Option (List ℕ)) (ls : List (List ℕ)) → IsHeader (record { f = f; result = z; left = x; right = y; locals = ls }) →
    header_read (words_of (header_spelling (record { f = f; result = z; left = x; right = y; locals = ls }))) ≡ Some (record { f = f; result = z; left = x; right = y; locals = ls })
header_complete f None None None [] h = refl
header_complete f None None None (l ∷ ls) h = ap (λ v. Some (record { f = f; result = None; left = None; right = None; locals = l ∷ v })) (names_of-locals ls)
header_complete f None None (Some y) [] h = refl
header_complete f None None (Some y) (l ∷ ls) h = ap (λ v. Some (record { f = f; result = None; left = None; right = Some y; locals = l ∷ v })) (names_of-locals ls)
header_complete f None (Some x) (Some y) ls h = ap (λ v. Some (record { f = f; result = None; left = Some x; right = Some y; locals = v })) (names_of-locals ls)
header_complete f (Some z) None None [] h = refl
header_complete f (Some z) None None (l ∷ ls) h = ap (λ v. Some (record { f = f; result = Some z; left = None; right = None; locals = l ∷ v })) (names_of-locals ls)
header_complete f (Some z) None (Some y) [] h = refl
header_complete f (Some z) None (Some y) (l ∷ ls) h = ap (λ v. Some (record { f = f; result = Some z; left = None; right = Some y; locals = l ∷ v })) (names_of-locals ls)
header_complete f (Some z) (Some x) (Some y) ls h = ap (λ v. Some (record { f = f; result = Some z; left = Some x; right = Some y; locals = v })) (names_of-locals ls)
header_complete f z (Some x) None ls h = absurd (no_right (h.both refl))

pub one_header : OneHeader
one_header n ts h k i j a b =
    let e = header_complete h.f h.result h.left h.right h.locals i in let f = header_complete k.f k.result k.left k.right k.locals j in
    let g = same_words n (header_spelling h) ts a in let l = same_words n (header_spelling k) ts b in cc

-- ---- Scripts ----

pub close_stops : (hs : List Heading) (n : ℕ) (t : Token) (ts : List Token) → glyph ")" ≡ t.word → run hs n (Some start) (t ∷ ts) ≡ None
close_stops hs n t ts e = subst (λ w. run hs n (taken start (record { line = n; column = t.from }) (sort hs w)) ts ≡ None) e (run_none hs n ts)

pub none_clash : {A : Type 0} {s : Statement} → Some s ≡ None → A
none_clash e = cc

pub closed_out : {A : Type 0} (hs : List Heading) (n : ℕ) (t : Token) (ts : List Token) (s : Statement) → IsStatement hs s →
    Spell n (statement_spelling s) (t ∷ ts) → glyph ")" ≡ t.word → A
closed_out hs n t ts s h a e = none_clash (sym (read_complete hs n s h (t ∷ ts) a) ∙ ap (option_and_then finished) (close_stops hs n t ts e))

-- no statement begins as a command does
pub no_command : {A : Type 0} (hs : List Heading) (n : ℕ) (ts : List Token) (s : Statement) (c : Command) → IsStatement hs s →
    Spell n (statement_spelling s) ts → Spell n (command_spelling c) ts → A
no_command hs n [] s command.Vars h a b = absurd b
no_command hs n [] s command.Fns h a b = absurd b
no_command hs n [] s (command.Erase ns) h a b = absurd b
no_command hs n [] s (command.Origin o) h a b = absurd b
no_command hs n (t ∷ ts) s command.Vars h a b = closed_out hs n t ts s h a b.0
no_command hs n (t ∷ ts) s command.Fns h a b = closed_out hs n t ts s h a b.0
no_command hs n (t ∷ ts) s (command.Erase ns) h a b = closed_out hs n t ts s h a b.0
no_command hs n (t ∷ ts) s (command.Origin o) h a b = closed_out hs n t ts s h a b.0

pub one_statement_item : (hs : List Heading) (l : Line) (n m : ℕ) (s r : Statement) → IsStatementLine hs l n s → IsStatementLine hs l m r → statement_item n s ≡ statement_item m r
one_statement_item hs l n m s r a b =
    let e = one_statement hs l.number l.tokens s r a.statement b.statement a.spells b.spells in
    let f = a.number in let g = b.number in cc

pub one_command_item : (l : Line) (n m : ℕ) (c d : Command) → IsCommandLine l n c → IsCommandLine l m d → command_item n c ≡ command_item m d
one_command_item l n m c d a b = let e = one_command l.number l.tokens c d a.spells b.spells in let f = a.number in let g = b.number in cc

pub one_line : (hs : List Heading) (l : Line) (b c : BodyLine) → IsBodyLine hs l b → IsBodyLine hs l c → b ≡ c
one_line hs l b c x y =
    let e = one_body_line hs l.number l.tokens b.label c.label b.statement c.statement x.statement y.statement x.spells y.spells in
    let f : b.line ≡ c.line = x.number ∙ sym y.number in
    λ i. record { line = f i; label = e.0 i; statement = e.1 i }

pub one_body : (hs : List Heading) (ls : List Line) (bs cs : List BodyLine) → AllZip (IsBodyLine hs) ls bs → AllZip (IsBodyLine hs) ls cs → bs ≡ cs
one_body hs [] [] [] x y = refl
one_body hs [] [] (c ∷ cs) x y = absurd y
one_body hs [] (b ∷ bs) cs x y = absurd x
one_body hs (l ∷ ls) [] cs x y = absurd x
one_body hs (l ∷ ls) (b ∷ bs) [] x y = absurd y
one_body hs (l ∷ ls) (b ∷ bs) (c ∷ cs) x y = λ i. one_line hs l b c x.0 y.0 i ∷ one_body hs ls bs cs x.1 y.1 i

pub one_definition : (hs : List Heading) (top : Line) (ls : List Line) (last : Line) (d e : Definition) → IsDefinition hs top ls last d → IsDefinition hs top ls last e → d ≡ e
one_definition hs top ls last d e x y =
    let o : d.opened ≡ e.opened = x.opened ∙ sym y.opened in
    let c : d.closed ≡ e.closed = x.closed ∙ sym y.closed in
    let h = one_header top.number top.tokens d.header e.header x.head.header y.head.header x.head.spells y.head.spells in
    let b = one_body hs ls d.body e.body x.body y.body in
    λ i. record { opened = o i; closed = c i; header = h i; body = b i }

pub one_item : (hs : List Heading) (p : Part) (a b : Item) → IsItem hs p a → IsItem hs p b → a ≡ b
one_item hs (alone l) (statement_item n s) (statement_item m r) x y = one_statement_item hs l n m s r x y
one_item hs (alone l) (statement_item n s) (command_item m c) x y = no_command hs l.number l.tokens s c x.statement x.spells y.spells
one_item hs (alone l) (command_item n c) (statement_item m s) x y = no_command hs l.number l.tokens s c y.statement y.spells x.spells
one_item hs (alone l) (command_item n c) (command_item m d) x y = one_command_item l n m c d x y
one_item hs (alone l) (statement_item n s) (definition_item d) x y = absurd y
one_item hs (alone l) (command_item n c) (definition_item d) x y = absurd y
one_item hs (alone l) (definition_item d) b x y = absurd x
one_item hs (defined top ls (Some last)) (definition_item d) (definition_item e) x y = ap definition_item (one_definition hs top ls last d e x y)
one_item hs (defined top ls (Some last)) (definition_item d) (statement_item m s) x y = absurd y
one_item hs (defined top ls (Some last)) (definition_item d) (command_item m c) x y = absurd y
one_item hs (defined top ls (Some last)) (statement_item n s) b x y = absurd x
one_item hs (defined top ls (Some last)) (command_item n c) b x y = absurd x
one_item hs (defined top ls None) a b x y = absurd x

pub one_list : (hs : List Heading) (ps : List Part) (is js : List Item) → AllZip (IsItem hs) ps is → AllZip (IsItem hs) ps js → is ≡ js
one_list hs [] [] [] x y = refl
one_list hs [] [] (j ∷ js) x y = absurd y
one_list hs [] (i ∷ is) js x y = absurd x
one_list hs (p ∷ ps) [] js x y = absurd x
one_list hs (p ∷ ps) (i ∷ is) [] x y = absurd y
one_list hs (p ∷ ps) (i ∷ is) (j ∷ js) x y = λ k. one_item hs p i j x.0 y.0 k ∷ one_list hs ps is js x.1 y.1 k

-- the classes that an item gives
abbrev pub heading_in : Item → List Heading
heading_in (statement_item n s) = []
heading_in (command_item n c) = []
heading_in (definition_item d) = heading_of d.header ∷ []

pub headings-cons : (i : Item) (is : List Item) → headings (i ∷ is) ≡ heading_in i ++ headings is
headings-cons (statement_item n s) is = refl
headings-cons (command_item n c) is = refl
headings-cons (definition_item d) is = refl

pub one_heading : (hs ks : List Heading) (p : Part) (a b : Item) → IsItem hs p a → IsItem ks p b → heading_in a ≡ heading_in b
one_heading hs ks (alone l) (statement_item n s) (statement_item m r) x y = refl
one_heading hs ks (alone l) (statement_item n s) (command_item m c) x y = refl
one_heading hs ks (alone l) (command_item n c) (statement_item m s) x y = refl
one_heading hs ks (alone l) (command_item n c) (command_item m d) x y = refl
one_heading hs ks (alone l) (statement_item n s) (definition_item d) x y = absurd y
one_heading hs ks (alone l) (command_item n c) (definition_item d) x y = absurd y
one_heading hs ks (alone l) (definition_item d) b x y = absurd x
one_heading hs ks (defined top ls (Some last)) (definition_item d) (definition_item e) x y =
    ap (λ h. heading_of h ∷ []) (one_header top.number top.tokens d.header e.header x.head.header y.head.header x.head.spells y.head.spells)
one_heading hs ks (defined top ls (Some last)) (definition_item d) (statement_item m s) x y = absurd y
one_heading hs ks (defined top ls (Some last)) (definition_item d) (command_item m c) x y = absurd y
one_heading hs ks (defined top ls (Some last)) (statement_item n s) b x y = absurd x
one_heading hs ks (defined top ls (Some last)) (command_item n c) b x y = absurd x
one_heading hs ks (defined top ls None) a b x y = absurd x

pub same_headings : (hs ks : List Heading) (ps : List Part) (is js : List Item) → AllZip (IsItem hs) ps is → AllZip (IsItem ks) ps js → headings is ≡ headings js
same_headings hs ks [] [] [] x y = refl
same_headings hs ks [] [] (j ∷ js) x y = absurd y
same_headings hs ks [] (i ∷ is) js x y = absurd x
same_headings hs ks (p ∷ ps) [] js x y = absurd x
same_headings hs ks (p ∷ ps) (i ∷ is) [] x y = absurd y
same_headings hs ks (p ∷ ps) (i ∷ is) (j ∷ js) x y =
    headings-cons i is ∙ (λ k. one_heading hs ks p i j x.0 y.0 k ++ same_headings hs ks ps is js x.1 y.1 k) ∙ sym (headings-cons j js)

-- lines have at most one script
pub one_script : OneScript
one_script ls s r x y =
    let e = same_headings (headings s.items) (headings r.items) (parts ls) s.items r.items x.items y.items in
    let z : AllZip (IsItem (headings s.items)) (parts ls) r.items = subst (λ h. AllZip (IsItem h) (parts ls) r.items) (sym e) y.items in
    let f = one_list (headings s.items) (parts ls) s.items r.items x.items z in
    let g : s.lines ≡ r.lines = x.lines ∙ sym y.lines in
    λ k. record { lines = g k; items = f k }
