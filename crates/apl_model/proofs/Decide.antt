-- Whether tokens are a line of the language can be decided: the reader gives the only tree that there may be.
use Rattle.std.proofs.Common.{◌≡◌, ℕ, ◌<◌, ◌≤◌, ◌^◌, ◌==◌, Bool, true, false, List, [], ◌∷◌, length, Option, None, Some, ◌⊎◌, inl, inr, refl, ap, subst, ℤ, pos, arith}
use Rattle.std.specs.Bool.{Decides}
use Rattle.std.specs.Option.{IsSome}
use Rattle.std.specs.List.{AllByRecursion}
use Rattle.std.specs.Ordering.{int_eq}
use Rattle.std.proofs.lemmas.Bool.Decides.{Decides-eqb, Decides-int_eq, Decides-ltb}
use lib.Signed.{◌≤ℤ◌, le_z}
use lib.Dec.{T}
use Rattle.std.specs.Prelude.{negsuc, neg_ℤ, nat_lt, IsTrue}
use Rattle.apl_base.specs.Number.{IsNumber, IsCell}
use Rattle.apl_base.specs.declared.cells.TheConstants.{M}
use Rattle.apl_base.specs.declared.cells.Kind.{Kind}
use Rattle.apl_base.specs.declared.cells.Kind.TheVariants as kind
use Rattle.apl_base.specs.declared.faults.Place.{Place}
use Rattle.apl_model.proofs.Complete.{read_complete}
use Rattle.apl_model.proofs.Machine.{read}
use Rattle.apl_model.proofs.Unique.{token_words, command_read, command_complete, header_read, header_complete, same_words, no_label}
use Rattle.apl_model.specs.Characters.{is_name}
use Rattle.apl_model.specs.Grammar.{arguments_of, IsVariable, IsFunction, IsFilled, IsLiteral, IsAxis, IsMonadic, IsDyadic, IsOperand, HasPosition, IsExpression, ArePositions, IsStatement, IsOptionalName, IsCommand, IsHeader}
use Rattle.apl_model.specs.Refusal.{LineKind, outside, in_body, first_line, by_itself, IsLawful}
use Rattle.apl_model.specs.Spelling.{Mark, at, some, glyph, statement_spelling, body_spelling, command_spelling, header_spelling, Fits, Spell}
use Rattle.apl_model.specs.Tree.{Tree, constant, variable, call, parenthesis, monadic, dyadic, reduction, outer_product, inner_product, subscript, assignment, indexed_assignment, output, elided, given, Positions, no_position, position, Statement, nothing, branch, expression}
use Rattle.apl_model.specs.declared.functions.Axis.{Axis}
use Rattle.apl_model.specs.declared.functions.Axis.TheVariants as axis
use Rattle.apl_model.specs.declared.functions.DyaFn.{DyaFn}
use Rattle.apl_model.specs.declared.functions.DyaFn.TheVariants as two
use Rattle.apl_model.specs.declared.functions.MonFn.{MonFn}
use Rattle.apl_model.specs.declared.functions.MonFn.TheVariants as one
use Rattle.apl_model.specs.declared.scripts.Command.{Command}
use Rattle.apl_model.specs.declared.scripts.Command.TheVariants as command
use Rattle.apl_model.specs.declared.scripts.Header.{Header}
use Rattle.apl_model.specs.declared.tokens.Heading.{Heading}
use Rattle.apl_model.specs.declared.tokens.Token.{Token}
use Rattle.apl_model.specs.declared.tokens.Word.{Word}
use Rattle.apl_model.specs.declared.tokens.Word.TheVariants as word
use Rattle.apl_model.specs.declared.trees.Literal.{Literal}

-- it holds, or it doesn't
abbrev pub Known : Type 0 → Type 0
Known P = P ⊎ (P → ⊥)

pub always : Known (Unit {0})
always = inl tt

pub never : Known ⊥
never = inr (λ x. x)

pub like : {P Q : Type 0} → (P → Q) → (Q → P) → Known P → Known Q
like f g (inl p) = inl (f p)
like f g (inr n) = inr (λ q. n (g q))

pub two_known : {P Q : Type 0} → Known P → Known Q → Known (P × Q)
two_known (inl p) (inl q) = inl (p, q)
two_known (inl p) (inr n) = inr (λ x. n x.1)
two_known (inr n) k = inr (λ x. n x.0)

pub three_known : {P Q R : Type 0} → Known P → Known Q → Known R → Known (P × Q × R)
three_known a b c = like (λ x. (x.0, x.1.0, x.1.1)) (λ x. (x.0, (x.1, x.2))) (two_known a (two_known b c))

pub four_known : {P Q R S : Type 0} → Known P → Known Q → Known R → Known S → Known (P × Q × R × S)
four_known a b c d = like (λ x. (x.0, x.1.0, x.1.1, x.1.2)) (λ x. (x.0, (x.1, x.2, x.3))) (two_known a (three_known b c d))

pub false_true : false ≡ true → ⊥
false_true e = cc

pub tested : {P : Type 0} (b : Bool) → Decides b P → Known P
tested true d = inl (d.0 refl)
tested false d = inr (λ p. false_true (d.1 p))

pub true_known : (b : Bool) → Known (b ≡ true)
true_known true = inl refl
true_known false = inr false_true

pub T_known : (b : Bool) → Known (T b)
T_known true = inl tt
T_known false = inr (λ x. x)

pub nat_known : (m n : ℕ) → Known (m ≡ n)
nat_known m n = tested (m == n) (Decides-eqb m n)

pub int_known : (x y : ℤ) → Known (x ≡ y)
int_known x y = tested (int_eq x y) (Decides-int_eq x y)

pub le_known : (x y : ℤ) → Known (x ≤ℤ y)
le_known x y = like (λ t. record { le = t }) (λ r. r.le) (T_known (le_z x y))

pub lt_known : (m n : ℕ) → Known (m < n)
lt_known m n = tested (nat_lt m n) (Decides-ltb m n)

pub at_most_known : (m n : ℕ) → Known (m ≤ n)
at_most_known m n = elim (lt_known n m) [ inl h ↦ inr (λ k. omega arith) | inr h ↦ inl (omega arith) ]

pub list_known : {A : Type 0} → ((x y : A) → Known (x ≡ y)) → (xs ys : List A) → Known (xs ≡ ys)
list_known k [] [] = inl refl
list_known k [] (y ∷ ys) = inr (λ e. cc)
list_known k (x ∷ xs) [] = inr (λ e. cc)
list_known k (x ∷ xs) (y ∷ ys) = elim (k x y) [
  | inl e ↦ elim (list_known k xs ys) [ inl f ↦ inl (λ i. e i ∷ f i) | inr n ↦ inr (λ g. n (let h : xs ≡ ys = cc in h)) ]
  | inr n ↦ inr (λ g. n (let h : x ≡ y = cc in h))
]

pub all_known : {A : Type 0} (P : A → Type 0) → ((x : A) → Known (P x)) → (xs : List A) → Known (AllByRecursion P xs)
all_known P k [] = inl tt
all_known P k (x ∷ xs) = two_known (k x) (all_known P k xs)

pub word_known : (v w : Word) → Known (v ≡ w)
word_known (word.Numbers xs) (word.Numbers ys) = like (λ e. ap word.Numbers e) (λ e. cc) (list_known int_known xs ys)
word_known (word.Numbers xs) (word.Chars ys) = inr (λ e. cc)
word_known (word.Numbers xs) (word.Name n) = inr (λ e. cc)
word_known (word.Numbers xs) (word.Glyph c) = inr (λ e. cc)
word_known (word.Chars xs) (word.Chars ys) = like (λ e. ap word.Chars e) (λ e. cc) (list_known int_known xs ys)
word_known (word.Chars xs) (word.Numbers ys) = inr (λ e. cc)
word_known (word.Chars xs) (word.Name n) = inr (λ e. cc)
word_known (word.Chars xs) (word.Glyph c) = inr (λ e. cc)
word_known (word.Name n) (word.Name m) = like (λ e. ap word.Name e) (λ e. cc) (list_known nat_known n m)
word_known (word.Name n) (word.Numbers ys) = inr (λ e. cc)
word_known (word.Name n) (word.Chars ys) = inr (λ e. cc)
word_known (word.Name n) (word.Glyph c) = inr (λ e. cc)
word_known (word.Glyph c) (word.Glyph d) = like (λ e. ap word.Glyph e) (λ e. cc) (nat_known c d)
word_known (word.Glyph c) (word.Numbers ys) = inr (λ e. cc)
word_known (word.Glyph c) (word.Chars ys) = inr (λ e. cc)
word_known (word.Glyph c) (word.Name n) = inr (λ e. cc)

pub place_known : (p q : Place) → Known (p ≡ q)
place_known p q = like (λ e. λ i. record { line = e.0 i; column = e.1 i }) (λ e. (ap (λ (r : Place). r.line) e, ap (λ (r : Place). r.column) e)) (two_known (nat_known p.line q.line) (nat_known p.column q.column))

pub fits_known : (n : ℕ) (m : Mark) (t : Token) → Known (Fits n m t)
fits_known n (at p w) t = two_known (place_known p (record { line = n; column = t.from })) (word_known w t.word)
fits_known n (some w) t = word_known w t.word

pub spell_known : (n : ℕ) (ms : List Mark) (ts : List Token) → Known (Spell n ms ts)
spell_known n [] [] = always
spell_known n [] (t ∷ ts) = never
spell_known n (m ∷ ms) [] = never
spell_known n (m ∷ ms) (t ∷ ts) = two_known (fits_known n m t) (spell_known n ms ts)

pub number_known : (z : ℤ) → Known (IsNumber z)
number_known z = like (λ x. record { least = x.0; most = x.1 }) (λ x. (x.least, x.most)) (two_known (le_known (neg_ℤ M) z) (le_known z M))

pub cell_known : (k : Kind) (z : ℤ) → Known (IsCell k z)
cell_known kind.Num z = number_known z
cell_known kind.Char (pos c) = true_known _
cell_known kind.Char (negsuc c) = never

pub filled_known : (k : Kind) (zs : List ℤ) → Known (IsFilled (record { kind = k; cells = zs }))
filled_known kind.Num zs = lt_known 0 (length zs)
filled_known kind.Char zs = always

pub literal_known : (l : Literal) → Known (IsLiteral l)
literal_known l = like (λ x. record { cells = x.0; filled = x.1; few = x.2 }) (λ x. (x.cells, x.filled, x.few))
    (three_known (all_known (IsCell l.kind) (cell_known l.kind) l.cells) (filled_known l.kind l.cells) (at_most_known (length l.cells) (2 ^ 40)))

pub arguments_known : (x y : Option ℕ) → Known (x ≡ y)
arguments_known None None = inl refl
arguments_known None (Some y) = inr (λ e. cc)
arguments_known (Some x) None = inr (λ e. cc)
arguments_known (Some x) (Some y) = like (λ e. ap Some e) (λ e. cc) (nat_known x y)

pub variable_known : (hs : List Heading) (n : List ℕ) → Known (IsVariable hs n)
variable_known hs n = like (λ x. record { name = x.0; free = x.1 }) (λ x. (x.name, x.free)) (two_known (true_known (is_name n)) (arguments_known (arguments_of hs n) None))

pub function_known : (hs : List Heading) (n : List ℕ) (k : ℕ) → Known (IsFunction hs n k)
function_known hs n k = like (λ x. record { name = x.0; heads = x.1 }) (λ x. (x.name, x.heads)) (two_known (true_known (is_name n)) (arguments_known (arguments_of hs n) (Some k)))

pub axis_known : (x : Axis) → Known (IsAxis x)
axis_known axis.Last = always
axis_known axis.First = always
axis_known (axis.Numbered k) = number_known k

pub monadic_known : (f : MonFn) → Known (IsMonadic f)
monadic_known (one.Reverse x) = axis_known x
monadic_known (one.Scalar f) = always
monadic_known one.Iota = always
monadic_known one.Shape = always
monadic_known one.Ravel = always
monadic_known one.Transpose = always
monadic_known one.GradeUp = always
monadic_known one.GradeDown = always

pub dyadic_known : (f : DyaFn) → Known (IsDyadic f)
dyadic_known (two.Rotate x) = axis_known x
dyadic_known (two.Compress x) = axis_known x
dyadic_known (two.Expand x) = axis_known x
dyadic_known (two.Scalar f) = always
dyadic_known two.Reshape = always
dyadic_known two.Catenate = always
dyadic_known two.Transpose = always
dyadic_known two.Take = always
dyadic_known two.Skip = always
dyadic_known two.IndexOf = always
dyadic_known two.Member = always
dyadic_known two.Encode = always
dyadic_known two.Decode = always

pub operand_known : (e : Tree) → Known (IsOperand e)
operand_known (constant l p) = always
operand_known (variable n p) = always
operand_known (call f elided elided p) = always
operand_known (call f elided (given r) p) = never
operand_known (call f (given l) elided p) = never
operand_known (call f (given l) (given r) p) = never
operand_known (parenthesis e p) = always
operand_known (monadic f right p) = never
operand_known (dyadic f left right p) = never
operand_known (reduction f x right p) = never
operand_known (outer_product f left right p) = never
operand_known (inner_product f g left right p) = never
operand_known (subscript a qs p) = always
operand_known (assignment n value p) = never
operand_known (indexed_assignment n qs value p) = never
operand_known (output value p) = never

pub has_known : (qs : Positions) → Known (HasPosition qs)
has_known no_position = never
has_known (position q qs) = always

module _ (hs : List Heading) where
  mutual
    pub expression_known : (e : Tree) → Known (IsExpression hs e)
    expression_known (constant l p) = literal_known l
    expression_known (variable n p) = variable_known hs n
    expression_known (call f elided elided p) = function_known hs f 0
    expression_known (call f elided (given right) p) = two_known (function_known hs f 1) (expression_known right)
    expression_known (call f (given left) elided p) = never
    expression_known (call f (given left) (given right) p) = four_known (function_known hs f 2) (operand_known left) (expression_known left) (expression_known right)
    expression_known (parenthesis e p) = expression_known e
    expression_known (monadic f right p) = two_known (monadic_known f) (expression_known right)
    expression_known (dyadic f left right p) = four_known (dyadic_known f) (operand_known left) (expression_known left) (expression_known right)
    expression_known (reduction f x right p) = two_known (axis_known x) (expression_known right)
    expression_known (outer_product f left right p) = three_known (operand_known left) (expression_known left) (expression_known right)
    expression_known (inner_product f g left right p) = three_known (operand_known left) (expression_known left) (expression_known right)
    expression_known (subscript a qs p) = four_known (operand_known a) (expression_known a) (has_known qs) (positions_known qs)
    expression_known (assignment n value p) = two_known (variable_known hs n) (expression_known value)
    expression_known (indexed_assignment n qs value p) = four_known (variable_known hs n) (has_known qs) (positions_known qs) (expression_known value)
    expression_known (output value p) = expression_known value

    pub positions_known : (qs : Positions) → Known (ArePositions hs qs)
    positions_known no_position = always
    positions_known (position elided qs) = two_known always (positions_known qs)
    positions_known (position (given e) qs) = two_known (expression_known e) (positions_known qs)

  pub statement_known : (s : Statement) → Known (IsStatement hs s)
  statement_known nothing = always
  statement_known (branch e p) = expression_known e
  statement_known (expression e) = expression_known e

-- where there is one candidate at most, it decides
pub by_candidate : {A : Type 0} (P : A → Type 0) (r : Option A) → ((a : A) → P a → r ≡ Some a) → ((a : A) → Known (P a)) → Known ((a : A) × P a)
by_candidate P None e k = inr (λ x. let f = e x.0 x.1 in cc)
by_candidate P (Some a) e k = elim (k a) [
  | inl p ↦ inl (a, p)
  | inr n ↦ inr (λ x. let f = e x.0 x.1 in let g : x.0 ≡ a = cc in n (subst P g x.1))
]

pub statement_line_known : (hs : List Heading) (n : ℕ) (ts : List Token) → Known ((s : Statement) × (IsStatement hs s × Spell n (statement_spelling s) ts))
statement_line_known hs n ts = by_candidate (λ s. IsStatement hs s × Spell n (statement_spelling s) ts) (read hs n ts)
    (λ s x. read_complete hs n s x.0 ts x.1) (λ s. two_known (statement_known hs s) (spell_known n (statement_spelling s) ts))

pub or_known : {P Q : Type 0} → Known P → Known Q → Known (P ⊎ Q)
or_known (inl p) k = inl (inl p)
or_known (inr n) (inl q) = inl (inr q)
or_known (inr n) (inr m) = inr (either n m)
  where
    either : {P Q : Type 0} → (P → ⊥) → (Q → ⊥) → P ⊎ Q → ⊥
    either n m (inl p) = n p
    either n m (inr q) = m q

pub command_known : (c : Command) → Known (IsCommand c)
command_known command.Vars = always
command_known command.Fns = always
command_known (command.Erase ns) = two_known (lt_known 0 (length ns)) (all_known (λ n. IsTrue (is_name n)) (λ n. true_known (is_name n)) ns)
command_known (command.Origin o) = or_known (int_known o (pos 0)) (int_known o (pos 1))

pub command_line_known : (n : ℕ) (ts : List Token) → Known ((c : Command) × (IsCommand c × Spell n (command_spelling c) ts))
command_line_known n ts = by_candidate (λ c. IsCommand c × Spell n (command_spelling c) ts) (command_read (token_words ts))
    (λ c x. subst (λ w. command_read w ≡ Some c) (same_words n (command_spelling c) ts x.1) (command_complete c))
    (λ c. two_known (command_known c) (spell_known n (command_spelling c) ts))

pub optional_known : (x : Option (List ℕ)) → Known (IsOptionalName x)
optional_known None = always
optional_known (Some n) = true_known (is_name n)

pub sides_known : (x y : Option (List ℕ)) → Known (IsSome x → IsSome y)
sides_known None y = inl (λ e. cc)
sides_known (Some x) None = inr (λ f. false_true (f refl))
sides_known (Some x) (Some y) = inl (λ e. refl)

pub header_known : (h : Header) → Known (IsHeader h)
header_known h = like (λ x. record { f = x.0; result = x.1.0; left = x.1.1; right = x.1.2.0; locals = x.1.2.1; both = x.1.2.2 }) (λ x. (x.f, (x.result, x.left, (x.right, x.locals, x.both))))
    (two_known (true_known (is_name h.f)) (three_known (optional_known h.result) (optional_known h.left)
    (three_known (optional_known h.right) (all_known (λ n. IsTrue (is_name n)) (λ n. true_known (is_name n)) h.locals) (sides_known h.left h.right))))

pub header_line_known : (n : ℕ) (ts : List Token) → Known ((h : Header) × (IsHeader h × Spell n (header_spelling h) ts))
header_line_known n ts = by_candidate (λ h. IsHeader h × Spell n (header_spelling h) ts) (header_read (token_words ts))
    (λ h x. subst (λ w. header_read w ≡ Some h) (same_words n (header_spelling h) ts x.1) (header_complete h.f h.result h.left h.right h.locals x.0))
    (λ h. two_known (header_known h) (spell_known n (header_spelling h) ts))

pub label_known : (w v : Word) → Known ((l : List ℕ) × (word.Name l ≡ w) × (glyph ":" ≡ v))
label_known (word.Name m) v = like (λ e. (m, refl, e)) (λ x. x.2) (word_known (glyph ":") v)
label_known (word.Numbers zs) v = inr (λ x. let e = x.1 in cc)
label_known (word.Chars zs) v = inr (λ x. let e = x.1 in cc)
label_known (word.Glyph c) v = inr (λ x. let e = x.1 in cc)

-- a line of a body without a label is a statement
unlabelled : (hs : List Heading) (n : ℕ) (ts : List Token) → ((l : List ℕ) (s : Statement) → Spell n (body_spelling (Some l) s) ts → ⊥) → Known (IsLawful in_body hs n ts)
unlabelled hs n ts none = like (λ x. (None, x.0, tt, x.1.0, x.1.1)) back (statement_line_known hs n ts)
  where
    back : IsLawful in_body hs n ts → (s : Statement) × (IsStatement hs s × Spell n (statement_spelling s) ts)
    back (None, s, a, h, sp) = (s, (h, sp))
    back (Some l, s, a, h, sp) = absurd (none l s sp)

labelled : (hs : List Heading) (n : ℕ) (t u : Token) (ts : List Token) (l : List ℕ) → word.Name l ≡ t.word → glyph ":" ≡ u.word → Known (IsLawful in_body hs n (t ∷ u ∷ ts))
labelled hs n t u ts l e f = like (λ x. (Some l, x.1.0, x.0, x.1.1.0, (e, (f, x.1.1.1)))) back (two_known (variable_known hs l) (statement_line_known hs n ts))
  where
    back : IsLawful in_body hs n (t ∷ u ∷ ts) → IsVariable hs l × ((s : Statement) × (IsStatement hs s × Spell n (statement_spelling s) ts))
    back (None, s, a, h, sp) = no_label hs n t u ts s h sp f
    back (Some m, s, a, h, sp) = let g = sp.0 in let k : m ≡ l = cc in (subst (λ v. IsVariable hs v) k a, (s, (h, sp.1.1)))

pub body_known : (hs : List Heading) (n : ℕ) (ts : List Token) → Known (IsLawful in_body hs n ts)
body_known hs n [] = unlabelled hs n [] (λ l s x. x)
body_known hs n (t ∷ []) = unlabelled hs n (t ∷ []) (λ l s x. x.1)
body_known hs n (t ∷ u ∷ ts) = elim (label_known t.word u.word) [
  | inl x ↦ labelled hs n t u ts x.0 x.1 x.2
  | inr no' ↦ unlabelled hs n (t ∷ u ∷ ts) (λ l s x. no' (l, x.0, x.1.0))
]

flat : {A : Type 0} {P Q : A → Type 0} → Known ((a : A) × (P a × Q a)) → Known ((a : A) × P a × Q a)
flat k = like (λ x. (x.0, x.1.0, x.1.1)) (λ x. (x.0, (x.1, x.2))) k

-- whether tokens are a lawful line of a kind is decided
pub lawful_known : (kind : LineKind) (hs : List Heading) (n : ℕ) (ts : List Token) → Known (IsLawful kind hs n ts)
lawful_known outside hs n ts = or_known (flat (statement_line_known hs n ts)) (flat (command_line_known n ts))
lawful_known in_body hs n ts = body_known hs n ts
lawful_known first_line hs n ts = flat (header_line_known n ts)
lawful_known by_itself hs n ts = flat (statement_line_known hs n ts)
