-- The reader of proofs/Machine comes to the tree of each statement that spells the tokens.
use Rattle.std.proofs.Common.{◌≡◌, ℕ, List, [], ◌∷◌, ◌++◌, Option, None, Some, refl, sym, ap, subst, ◌∙◌, append_assoc, append-nil}
use Rattle.apl_base.specs.declared.faults.Place.{Place}
use Rattle.apl_base.specs.declared.rows.Dya.{Dya}
use Rattle.apl_base.specs.declared.rows.Dya.TheVariants as dya
use Rattle.apl_base.specs.declared.rows.Mon.{Mon}
use Rattle.apl_base.specs.declared.rows.Mon.TheVariants as mon
use Rattle.std.specs.Option.{option_and_then}
use Rattle.apl_base.specs.declared.cells.Kind.{Kind}
use Rattle.apl_base.specs.declared.cells.Kind.TheVariants as kind
use Rattle.std.proofs.Common.{ℤ}
use Rattle.apl_model.proofs.Machine.{Sort, literal, named, scalar, plain, turn, slash, slash_first, backslash, jot, dot, assign, arrow, quad, open_paren, close_paren, open_bracket, close_bracket, semicolon, other, sort, for_call, for_monadic, for_dyadic, for_reduction, for_outer, for_inner, for_assignment, for_indexed, for_output, Stack, bottom, waiting, in_parenthesis, in_subscript, Along, reduces, reverses, rotates, compresses, expands, along_axis, first, must, may, operand, glyph_first, glyph_after, axis_or_none, after_jot_dot, after_dot, State, state, awaits, begun, Wound, wind, then_position, close_parenthesis, close_subscript, next_position, taken, step, run, start, finished, finished_with, read}
use Rattle.apl_model.specs.Grammar.{IsExpression, IsOperand, IsStatement, HasPosition, ArePositions}
use Rattle.apl_model.specs.Spelling.{Mark, at, some, glyph, dya_glyph, along, monadic_marks, dyadic_marks, literal_word, spelling, position_spelling, statement_spelling, Fits, Spell}
use Rattle.apl_model.specs.Tree.{Tree, constant, variable, call, parenthesis, monadic, dyadic, reduction, outer_product, inner_product, subscript, assignment, indexed_assignment, output, Slot, elided, given, Positions, no_position, position, Statement, nothing, branch, expression}
use Rattle.apl_model.specs.declared.functions.Axis.{Axis}
use Rattle.apl_model.specs.declared.functions.Axis.TheVariants as axis
use Rattle.apl_model.specs.declared.functions.DyaFn.{DyaFn}
use Rattle.apl_model.specs.declared.functions.DyaFn.TheVariants as two
use Rattle.apl_model.specs.declared.functions.MonFn.{MonFn}
use Rattle.apl_model.specs.declared.functions.MonFn.TheVariants as one
use Rattle.apl_model.specs.declared.tokens.Heading.{Heading}
use Rattle.apl_model.specs.declared.tokens.Token.{Token}
use Rattle.apl_model.specs.declared.tokens.Word.{Word}
use Rattle.apl_model.specs.declared.tokens.Word.TheVariants as word

-- a token that an expression may begin with
abbrev pub IsStarter : Sort → Type 0
IsStarter (literal l) = Unit {0}
IsStarter (named n k) = Unit {0}
IsStarter (scalar f m) = Unit {0}
IsStarter (plain f g) = Unit {0}
IsStarter turn = Unit {0}
IsStarter quad = Unit {0}
IsStarter open_paren = Unit {0}
IsStarter _ = ⊥

pub may_ready : (o : Stack) (p : Place) (s : Sort) → IsStarter s → taken (state o may) p s ≡ begun o p s
may_ready o p (literal l) i = refl
may_ready o p (named m k) i = refl
may_ready o p (scalar v w) i = refl
may_ready o p (plain v w) i = refl
may_ready o p turn i = refl
may_ready o p slash i = absurd i
may_ready o p slash_first i = absurd i
may_ready o p backslash i = absurd i
may_ready o p jot i = absurd i
may_ready o p dot i = absurd i
may_ready o p assign i = absurd i
may_ready o p arrow i = absurd i
may_ready o p quad i = refl
may_ready o p open_paren i = refl
may_ready o p close_paren i = absurd i
may_ready o p open_bracket i = absurd i
may_ready o p close_bracket i = absurd i
may_ready o p semicolon i = absurd i
may_ready o p other i = absurd i

pub first_ready : (o : Stack) (p : Place) (s : Sort) → IsStarter s → taken (state o first) p s ≡ begun o p s
first_ready o p (literal l) i = refl
first_ready o p (named m k) i = refl
first_ready o p (scalar v w) i = refl
first_ready o p (plain v w) i = refl
first_ready o p turn i = refl
first_ready o p slash i = absurd i
first_ready o p slash_first i = absurd i
first_ready o p backslash i = absurd i
first_ready o p jot i = absurd i
first_ready o p dot i = absurd i
first_ready o p assign i = absurd i
first_ready o p arrow i = absurd i
first_ready o p quad i = refl
first_ready o p open_paren i = refl
first_ready o p close_paren i = absurd i
first_ready o p open_bracket i = absurd i
first_ready o p close_bracket i = absurd i
first_ready o p semicolon i = absurd i
first_ready o p other i = absurd i

pub glyph_first_ready : (o : Stack) (f : Dya) (m' : Mon) (q p : Place) (s : Sort) → IsStarter s → taken (state o (glyph_first f (Some m') q)) p s ≡ begun (waiting (for_monadic (one.Scalar m') q) o) p s
glyph_first_ready o f m' q p (literal l) i = refl
glyph_first_ready o f m' q p (named m k) i = refl
glyph_first_ready o f m' q p (scalar v w) i = refl
glyph_first_ready o f m' q p (plain v w) i = refl
glyph_first_ready o f m' q p turn i = refl
glyph_first_ready o f m' q p slash i = absurd i
glyph_first_ready o f m' q p slash_first i = absurd i
glyph_first_ready o f m' q p backslash i = absurd i
glyph_first_ready o f m' q p jot i = absurd i
glyph_first_ready o f m' q p dot i = absurd i
glyph_first_ready o f m' q p assign i = absurd i
glyph_first_ready o f m' q p arrow i = absurd i
glyph_first_ready o f m' q p quad i = refl
glyph_first_ready o f m' q p open_paren i = refl
glyph_first_ready o f m' q p close_paren i = absurd i
glyph_first_ready o f m' q p open_bracket i = absurd i
glyph_first_ready o f m' q p close_bracket i = absurd i
glyph_first_ready o f m' q p semicolon i = absurd i
glyph_first_ready o f m' q p other i = absurd i

pub glyph_after_ready : (o : Stack) (f : Dya) (e : Tree) (q p : Place) (s : Sort) → IsStarter s → taken (state o (glyph_after f e q)) p s ≡ begun (waiting (for_dyadic (two.Scalar f) e q) o) p s
glyph_after_ready o f e q p (literal l) i = refl
glyph_after_ready o f e q p (named m k) i = refl
glyph_after_ready o f e q p (scalar v w) i = refl
glyph_after_ready o f e q p (plain v w) i = refl
glyph_after_ready o f e q p turn i = refl
glyph_after_ready o f e q p slash i = absurd i
glyph_after_ready o f e q p slash_first i = absurd i
glyph_after_ready o f e q p backslash i = absurd i
glyph_after_ready o f e q p jot i = absurd i
glyph_after_ready o f e q p dot i = absurd i
glyph_after_ready o f e q p assign i = absurd i
glyph_after_ready o f e q p arrow i = absurd i
glyph_after_ready o f e q p quad i = refl
glyph_after_ready o f e q p open_paren i = refl
glyph_after_ready o f e q p close_paren i = absurd i
glyph_after_ready o f e q p open_bracket i = absurd i
glyph_after_ready o f e q p close_bracket i = absurd i
glyph_after_ready o f e q p semicolon i = absurd i
glyph_after_ready o f e q p other i = absurd i

pub axis_ready : (o : Stack) (a : Along) (p : Place) (s : Sort) → IsStarter s → taken (state o (axis_or_none a)) p s ≡ begun (waiting (along_axis a axis.Last) o) p s
axis_ready o a p (literal l) i = refl
axis_ready o a p (named m k) i = refl
axis_ready o a p (scalar v w) i = refl
axis_ready o a p (plain v w) i = refl
axis_ready o a p turn i = refl
axis_ready o a p slash i = absurd i
axis_ready o a p slash_first i = absurd i
axis_ready o a p backslash i = absurd i
axis_ready o a p jot i = absurd i
axis_ready o a p dot i = absurd i
axis_ready o a p assign i = absurd i
axis_ready o a p arrow i = absurd i
axis_ready o a p quad i = refl
axis_ready o a p open_paren i = refl
axis_ready o a p close_paren i = absurd i
axis_ready o a p open_bracket i = absurd i
axis_ready o a p close_bracket i = absurd i
axis_ready o a p semicolon i = absurd i
axis_ready o a p other i = absurd i

abbrev pub mon_of : Dya → Option Mon
mon_of dya.Add = Some mon.Plus
mon_of dya.Sub = Some mon.Minus
mon_of dya.Mul = Some mon.Sign
mon_of dya.Div = Some mon.Recip
mon_of dya.Pow = None
mon_of dya.Max = Some mon.Ceil
mon_of dya.Min = Some mon.Floor
mon_of dya.Residue = Some mon.Abs
mon_of dya.And = None
mon_of dya.Or = None
mon_of dya.Nand = None
mon_of dya.Nor = None
mon_of dya.Lt = None
mon_of dya.Le = None
mon_of dya.Eq = None
mon_of dya.Ge = None
mon_of dya.Gt = None
mon_of dya.Ne = None

pub sort_dya : (hs : List Heading) (f : Dya) → sort hs (dya_glyph f) ≡ scalar f (mon_of f)
sort_dya hs dya.Add = refl
sort_dya hs dya.Sub = refl
sort_dya hs dya.Mul = refl
sort_dya hs dya.Div = refl
sort_dya hs dya.Pow = refl
sort_dya hs dya.Max = refl
sort_dya hs dya.Min = refl
sort_dya hs dya.Residue = refl
sort_dya hs dya.And = refl
sort_dya hs dya.Or = refl
sort_dya hs dya.Nand = refl
sort_dya hs dya.Nor = refl
sort_dya hs dya.Lt = refl
sort_dya hs dya.Le = refl
sort_dya hs dya.Eq = refl
sort_dya hs dya.Ge = refl
sort_dya hs dya.Gt = refl
sort_dya hs dya.Ne = refl

pub sort_literal : (hs : List Heading) (k : Kind) (zs : List ℤ) → sort hs (literal_word (record { kind = k; cells = zs })) ≡ literal (record { kind = k; cells = zs })
sort_literal hs kind.Num zs = refl
sort_literal hs kind.Char zs = refl

-- a state in which an expression may begin, and what is then open
pub record Ready (x : State) (o : Stack) : Type 0 where
  pub ready : (p : Place) (s : Sort) → IsStarter s → taken x p s ≡ begun o p s

pub must_ready : (o : Stack) → Ready (state o must) o
must_ready o = record { ready = λ p s i. refl }

-- the last operand of an expression, with what then waits for it
abbrev pub unwound : Tree → Stack → Wound
unwound (call f left (given right) p) o = unwound right (waiting (for_call f left p) o)
unwound (monadic f right p) o = unwound right (waiting (for_monadic f p) o)
unwound (dyadic f left right p) o = unwound right (waiting (for_dyadic f left p) o)
unwound (reduction f x right p) o = unwound right (waiting (for_reduction f x p) o)
unwound (outer_product f left right p) o = unwound right (waiting (for_outer f left p) o)
unwound (inner_product f g left right p) o = unwound right (waiting (for_inner f g left p) o)
unwound (assignment n value p) o = unwound value (waiting (for_assignment n p) o)
unwound (indexed_assignment n qs value p) o = unwound value (waiting (for_indexed n qs p) o)
unwound (output value p) o = unwound value (waiting (for_output p) o)
unwound e o = record { tree = e; stack = o }

pub wind_unwound : (e : Tree) (o : Stack) → wind (unwound e o).tree (unwound e o).stack ≡ wind e o
wind_unwound (constant l p) o = refl
wind_unwound (variable n p) o = refl
wind_unwound (call f left elided p) o = refl
wind_unwound (call f left (given right) p) o = wind_unwound right (waiting (for_call f left p) o)
wind_unwound (parenthesis e p) o = refl
wind_unwound (monadic f right p) o = wind_unwound right (waiting (for_monadic f p) o)
wind_unwound (dyadic f left right p) o = wind_unwound right (waiting (for_dyadic f left p) o)
wind_unwound (reduction f x right p) o = wind_unwound right (waiting (for_reduction f x p) o)
wind_unwound (outer_product f left right p) o = wind_unwound right (waiting (for_outer f left p) o)
wind_unwound (inner_product f g left right p) o = wind_unwound right (waiting (for_inner f g left p) o)
wind_unwound (subscript a qs p) o = refl
wind_unwound (assignment n value p) o = wind_unwound value (waiting (for_assignment n p) o)
wind_unwound (indexed_assignment n qs value p) o = wind_unwound value (waiting (for_indexed n qs p) o)
wind_unwound (output value p) o = wind_unwound value (waiting (for_output p) o)

abbrev pub after : Tree → Stack → State
after e o = let w = unwound e o in state w.stack (operand w.tree)

pub operand_is : (e : Tree) (o : Stack) → IsOperand e → after e o ≡ state o (operand e)
operand_is (constant l p) o i = refl
operand_is (variable n p) o i = refl
operand_is (call f elided elided p) o i = refl
operand_is (call f elided (given r) p) o i = absurd i
operand_is (call f (given l) elided p) o i = absurd i
operand_is (call f (given l) (given r) p) o i = absurd i
operand_is (parenthesis e p) o i = refl
operand_is (monadic f right p) o i = absurd i
operand_is (dyadic f left right p) o i = absurd i
operand_is (reduction f x right p) o i = absurd i
operand_is (outer_product f left right p) o i = absurd i
operand_is (inner_product f g left right p) o i = absurd i
operand_is (subscript a qs p) o i = refl
operand_is (assignment n value p) o i = absurd i
operand_is (indexed_assignment n qs value p) o i = absurd i
operand_is (output value p) o i = absurd i

-- positions after positions
abbrev pub joined : Positions → Positions → Positions
joined done no_position = done
joined done (position q qs) = joined (then_position done q) qs

abbrev pub plus : Positions → Positions → Positions
plus no_position qs = qs
plus (position q done) qs = position q (plus done qs)

pub plus-none : (done : Positions) → plus done no_position ≡ done
plus-none no_position = refl
plus-none (position q done) = ap (position q) (plus-none done)

pub plus-then : (done : Positions) (q : Slot) (qs : Positions) → plus (then_position done q) qs ≡ plus done (position q qs)
plus-then no_position q qs = refl
plus-then (position r done) q qs = ap (position r) (plus-then done q qs)

pub joined-plus : (done qs : Positions) → joined done qs ≡ plus done qs
joined-plus done no_position = sym (plus-none done)
joined-plus done (position q qs) = joined-plus (then_position done q) qs ∙ plus-then done q qs

module _ (hs : List Heading) (n : ℕ) where
  -- the reader comes from x to y over the tokens that fit the first marks, and the rest is left
  pub record Reaches (x : State) (ts : List Token) (y : State) (ks : List Mark) : Type 0 where
    pub rest : List Token
    pub fits : Spell n ks rest
    pub same : run hs n (Some x) ts ≡ run hs n (Some y) rest

  pub record Leads (x : State) (ms : List Mark) (y : State) : Type 0 where
    pub go : (ks : List Mark) (ts : List Token) → Spell n (ms ++ ks) ts → Reaches x ts y ks

  pub leads_nil : {x : State} → Leads x [] x
  leads_nil = record { go = λ ks ts s. record { rest = ts; fits = s; same = refl } }

  pub leads_then : {x y z : State} (a : List Mark) {b : List Mark} → Leads x a y → Leads y b z → Leads x (a ++ b) z
  leads_then {x} {y} {z} a {b} f g = record {
    go = λ ks ts s.
        let s' : Spell n (a ++ (b ++ ks)) ts = subst (λ l. Spell n l ts) (append_assoc a b ks) s in
        let r = f.go (b ++ ks) ts s' in
        let q = g.go ks r.rest r.fits in
        record { rest = q.rest; fits = q.fits; same = r.same ∙ q.same };
  }

  pub leads_assoc : {x z : State} (a b c : List Mark) → Leads x (a ++ (b ++ c)) z → Leads x ((a ++ b) ++ c) z
  leads_assoc {x} {z} a b c f = subst (λ l. Leads x l z) (sym (append_assoc a b c)) f

  -- one token, after which the state may depend on the token
  pub leads_token : {x z : State} (m : Mark) {b : List Mark} (y : Token → State) →
      ((t : Token) → Fits n m t → step hs n x t ≡ Some (y t)) → ((t : Token) → Fits n m t → Leads (y t) b z) → Leads x (m ∷ b) z
  leads_token {x} {z} m {b} y e f = record { go = go }
    where
      go : (ks : List Mark) (ts : List Token) → Spell n (m ∷ (b ++ ks)) ts → Reaches x ts z ks
      go ks [] s = absurd s
      go ks (t ∷ ts) s = let r = (f t s.0).go ks ts s.1 in
          record { rest = r.rest; fits = r.fits; same = ap (λ v. run hs n v ts) (e t s.0) ∙ r.same }

  pub place_of : Token → Place
  place_of t = record { line = n; column = t.from }

  pub step_at : (x : State) (p : Place) (w : Word) (t : Token) {r : Option State} → Fits n (at p w) t → taken x p (sort hs w) ≡ r → step hs n x t ≡ r
  step_at x p w t {r} f e = subst (λ q. taken x q (sort hs t.word) ≡ r) f.0 (subst (λ v. taken x p (sort hs v) ≡ r) f.1 e)

  pub step_some : (x : State) (w : Word) (t : Token) {r : Option State} → Fits n (some w) t → taken x (record { line = n; column = t.from }) (sort hs w) ≡ r → step hs n x t ≡ r
  step_some x w t {r} f e = subst (λ v. taken x (record { line = n; column = t.from }) (sort hs v) ≡ r) f e

  pub leads_at : {x y z : State} (p : Place) (w : Word) {b : List Mark} → taken x p (sort hs w) ≡ Some y → Leads y b z → Leads x (at p w ∷ b) z
  leads_at {x} {y} p w e f = leads_token (at p w) (λ t. y) (λ t i. step_at x p w t i e) (λ t i. f)

  pub leads_some : {x y z : State} (w : Word) {b : List Mark} → ((q : Place) → taken x q (sort hs w) ≡ Some y) → Leads y b z → Leads x (some w ∷ b) z
  leads_some {x} {y} w e f = leads_token (some w) (λ t. y) (λ t i. step_some x w t i (e (record { line = n; column = t.from }))) (λ t i. f)

  -- where the place of the token is kept for a while
  pub leads_some_at : {x z : State} (w : Word) {b : List Mark} (y : Place → State) → ((q : Place) → taken x q (sort hs w) ≡ Some (y q)) → ((q : Place) → Leads (y q) b z) → Leads x (some w ∷ b) z
  leads_some_at {x} w y e f = leads_token (some w) (λ t. y (record { line = n; column = t.from })) (λ t i. step_some x w t i (e (record { line = n; column = t.from }))) (λ t i. f (record { line = n; column = t.from }))

  -- [ k ]
  pub number_leads : (o : Stack) (a : Along) (k : ℤ) → Leads (state o (axis_or_none a)) (some (glyph "[") ∷ some (word.Numbers (k ∷ [])) ∷ some (glyph "]") ∷ []) (awaits (along_axis a (axis.Numbered k)) o)
  number_leads o a k = leads_some (glyph "[") (λ q. refl) (leads_some (word.Numbers (k ∷ [])) (λ q. refl) (leads_some (glyph "]") (λ q. refl) leads_nil))

  -- marks after which an expression may begin
  pub record Part (x : State) (ms : List Mark) (o : Stack) : Type 0 where
    pub to : State
    pub leads : Leads x ms to
    pub ready : Ready to o

  pub monadic_part : (x : State) (o : Stack) (p : Place) → Ready x o → (f : MonFn) → Part x (monadic_marks f p) (waiting (for_monadic f p) o)
  monadic_part x o p r (one.Scalar mon.Plus) =
      record { to = state o (glyph_first dya.Add (Some mon.Plus) p); leads = leads_at p (glyph "+") (r.ready p (scalar dya.Add (Some mon.Plus)) tt) leads_nil; ready = record { ready = glyph_first_ready o dya.Add mon.Plus p } }
  monadic_part x o p r (one.Scalar mon.Minus) =
      record { to = state o (glyph_first dya.Sub (Some mon.Minus) p); leads = leads_at p (glyph "-") (r.ready p (scalar dya.Sub (Some mon.Minus)) tt) leads_nil; ready = record { ready = glyph_first_ready o dya.Sub mon.Minus p } }
  monadic_part x o p r (one.Scalar mon.Sign) =
      record { to = state o (glyph_first dya.Mul (Some mon.Sign) p); leads = leads_at p (glyph "×") (r.ready p (scalar dya.Mul (Some mon.Sign)) tt) leads_nil; ready = record { ready = glyph_first_ready o dya.Mul mon.Sign p } }
  monadic_part x o p r (one.Scalar mon.Recip) =
      record { to = state o (glyph_first dya.Div (Some mon.Recip) p); leads = leads_at p (glyph "÷") (r.ready p (scalar dya.Div (Some mon.Recip)) tt) leads_nil; ready = record { ready = glyph_first_ready o dya.Div mon.Recip p } }
  monadic_part x o p r (one.Scalar mon.Ceil) =
      record { to = state o (glyph_first dya.Max (Some mon.Ceil) p); leads = leads_at p (glyph "⌈") (r.ready p (scalar dya.Max (Some mon.Ceil)) tt) leads_nil; ready = record { ready = glyph_first_ready o dya.Max mon.Ceil p } }
  monadic_part x o p r (one.Scalar mon.Floor) =
      record { to = state o (glyph_first dya.Min (Some mon.Floor) p); leads = leads_at p (glyph "⌊") (r.ready p (scalar dya.Min (Some mon.Floor)) tt) leads_nil; ready = record { ready = glyph_first_ready o dya.Min mon.Floor p } }
  monadic_part x o p r (one.Scalar mon.Abs) =
      record { to = state o (glyph_first dya.Residue (Some mon.Abs) p); leads = leads_at p (glyph "|") (r.ready p (scalar dya.Residue (Some mon.Abs)) tt) leads_nil; ready = record { ready = glyph_first_ready o dya.Residue mon.Abs p } }
  monadic_part x o p r (one.Scalar mon.Not) = record { to = awaits (for_monadic (one.Scalar mon.Not) p) o; leads = leads_at p (glyph "~") (r.ready p (plain (Some (one.Scalar mon.Not)) None) tt) leads_nil; ready = must_ready (waiting (for_monadic (one.Scalar mon.Not) p) o) }
  monadic_part x o p r (one.Scalar mon.Fact) = record { to = awaits (for_monadic (one.Scalar mon.Fact) p) o; leads = leads_at p (glyph "!") (r.ready p (plain (Some (one.Scalar mon.Fact)) None) tt) leads_nil; ready = must_ready (waiting (for_monadic (one.Scalar mon.Fact) p) o) }
  monadic_part x o p r one.Iota = record { to = awaits (for_monadic one.Iota p) o; leads = leads_at p (glyph "⍳") (r.ready p (plain (Some one.Iota) (Some two.IndexOf)) tt) leads_nil; ready = must_ready (waiting (for_monadic one.Iota p) o) }
  monadic_part x o p r one.Shape = record { to = awaits (for_monadic one.Shape p) o; leads = leads_at p (glyph "⍴") (r.ready p (plain (Some one.Shape) (Some two.Reshape)) tt) leads_nil; ready = must_ready (waiting (for_monadic one.Shape p) o) }
  monadic_part x o p r one.Ravel = record { to = awaits (for_monadic one.Ravel p) o; leads = leads_at p (glyph ",") (r.ready p (plain (Some one.Ravel) (Some two.Catenate)) tt) leads_nil; ready = must_ready (waiting (for_monadic one.Ravel p) o) }
  monadic_part x o p r one.Transpose = record { to = awaits (for_monadic one.Transpose p) o; leads = leads_at p (glyph "⍉") (r.ready p (plain (Some one.Transpose) (Some two.Transpose)) tt) leads_nil; ready = must_ready (waiting (for_monadic one.Transpose p) o) }
  monadic_part x o p r one.GradeUp = record { to = awaits (for_monadic one.GradeUp p) o; leads = leads_at p (glyph "⍋") (r.ready p (plain (Some one.GradeUp) None) tt) leads_nil; ready = must_ready (waiting (for_monadic one.GradeUp p) o) }
  monadic_part x o p r one.GradeDown = record { to = awaits (for_monadic one.GradeDown p) o; leads = leads_at p (glyph "⍒") (r.ready p (plain (Some one.GradeDown) None) tt) leads_nil; ready = must_ready (waiting (for_monadic one.GradeDown p) o) }
  monadic_part x o p r (one.Reverse axis.First) = record { to = awaits (for_monadic (one.Reverse axis.First) p) o; leads = leads_at p (glyph "⊖") (r.ready p (plain (Some (one.Reverse axis.First)) (Some (two.Rotate axis.First))) tt) leads_nil; ready = must_ready (waiting (for_monadic (one.Reverse axis.First) p) o) }
  monadic_part x o p r (one.Reverse axis.Last) = record { to = state o (axis_or_none (reverses p)); leads = leads_at p (glyph "⌽") (r.ready p turn tt) leads_nil; ready = record { ready = axis_ready o (reverses p) } }
  monadic_part x o p r (one.Reverse (axis.Numbered k)) = record { to = awaits (for_monadic (one.Reverse (axis.Numbered k)) p) o; leads = leads_at p (glyph "⌽") (r.ready p turn tt) (number_leads o (reverses p) k); ready = must_ready (waiting (for_monadic (one.Reverse (axis.Numbered k)) p) o) }

  pub dyadic_part : (e : Tree) (o : Stack) (p : Place) (f : DyaFn) → Part (state o (operand e)) (dyadic_marks f p) (waiting (for_dyadic f e p) o)
  dyadic_part e o p (two.Scalar f) = record { to = state o (glyph_after f e p); leads = leads_at p (dya_glyph f) (ap (λ s. taken (state o (operand e)) p s) (sort_dya hs f)) leads_nil; ready = record { ready = glyph_after_ready o f e p } }
  dyadic_part e o p two.Reshape = record { to = awaits (for_dyadic two.Reshape e p) o; leads = leads_at p (glyph "⍴") refl leads_nil; ready = must_ready (waiting (for_dyadic two.Reshape e p) o) }
  dyadic_part e o p two.Catenate = record { to = awaits (for_dyadic two.Catenate e p) o; leads = leads_at p (glyph ",") refl leads_nil; ready = must_ready (waiting (for_dyadic two.Catenate e p) o) }
  dyadic_part e o p two.Transpose = record { to = awaits (for_dyadic two.Transpose e p) o; leads = leads_at p (glyph "⍉") refl leads_nil; ready = must_ready (waiting (for_dyadic two.Transpose e p) o) }
  dyadic_part e o p two.Take = record { to = awaits (for_dyadic two.Take e p) o; leads = leads_at p (glyph "↑") refl leads_nil; ready = must_ready (waiting (for_dyadic two.Take e p) o) }
  dyadic_part e o p two.Skip = record { to = awaits (for_dyadic two.Skip e p) o; leads = leads_at p (glyph "↓") refl leads_nil; ready = must_ready (waiting (for_dyadic two.Skip e p) o) }
  dyadic_part e o p two.IndexOf = record { to = awaits (for_dyadic two.IndexOf e p) o; leads = leads_at p (glyph "⍳") refl leads_nil; ready = must_ready (waiting (for_dyadic two.IndexOf e p) o) }
  dyadic_part e o p two.Member = record { to = awaits (for_dyadic two.Member e p) o; leads = leads_at p (glyph "∈") refl leads_nil; ready = must_ready (waiting (for_dyadic two.Member e p) o) }
  dyadic_part e o p two.Encode = record { to = awaits (for_dyadic two.Encode e p) o; leads = leads_at p (glyph "⊤") refl leads_nil; ready = must_ready (waiting (for_dyadic two.Encode e p) o) }
  dyadic_part e o p two.Decode = record { to = awaits (for_dyadic two.Decode e p) o; leads = leads_at p (glyph "⊥") refl leads_nil; ready = must_ready (waiting (for_dyadic two.Decode e p) o) }
  dyadic_part e o p (two.Rotate axis.First) = record { to = awaits (for_dyadic (two.Rotate axis.First) e p) o; leads = leads_at p (glyph "⊖") refl leads_nil; ready = must_ready (waiting (for_dyadic (two.Rotate axis.First) e p) o) }
  dyadic_part e o p (two.Compress axis.First) = record { to = awaits (for_dyadic (two.Compress axis.First) e p) o; leads = leads_at p (glyph "⌿") refl leads_nil; ready = must_ready (waiting (for_dyadic (two.Compress axis.First) e p) o) }
  dyadic_part e o p (two.Expand axis.First) = record { to = awaits (for_dyadic (two.Expand axis.First) e p) o; leads = leads_at p (glyph "⍀") refl leads_nil; ready = must_ready (waiting (for_dyadic (two.Expand axis.First) e p) o) }
  dyadic_part e o p (two.Rotate axis.Last) = record { to = state o (axis_or_none (rotates e p)); leads = leads_at p (glyph "⌽") refl leads_nil; ready = record { ready = axis_ready o (rotates e p) } }
  dyadic_part e o p (two.Rotate (axis.Numbered k)) = record { to = awaits (for_dyadic (two.Rotate (axis.Numbered k)) e p) o; leads = leads_at p (glyph "⌽") refl (number_leads o (rotates e p) k); ready = must_ready (waiting (for_dyadic (two.Rotate (axis.Numbered k)) e p) o) }
  dyadic_part e o p (two.Compress axis.Last) = record { to = state o (axis_or_none (compresses e p)); leads = leads_at p (glyph "/") refl leads_nil; ready = record { ready = axis_ready o (compresses e p) } }
  dyadic_part e o p (two.Compress (axis.Numbered k)) = record { to = awaits (for_dyadic (two.Compress (axis.Numbered k)) e p) o; leads = leads_at p (glyph "/") refl (number_leads o (compresses e p) k); ready = must_ready (waiting (for_dyadic (two.Compress (axis.Numbered k)) e p) o) }
  dyadic_part e o p (two.Expand axis.Last) = record { to = state o (axis_or_none (expands e p)); leads = leads_at p (glyph "\\") refl leads_nil; ready = record { ready = axis_ready o (expands e p) } }
  dyadic_part e o p (two.Expand (axis.Numbered k)) = record { to = awaits (for_dyadic (two.Expand (axis.Numbered k)) e p) o; leads = leads_at p (glyph "\\") refl (number_leads o (expands e p) k); ready = must_ready (waiting (for_dyadic (two.Expand (axis.Numbered k)) e p) o) }

  pub reduction_part : (o : Stack) (f : Dya) (m : Option Mon) (q p : Place) (x : Axis) → Part (state o (glyph_first f m q)) (along "/" "⌿" x p) (waiting (for_reduction f x p) o)
  reduction_part o f m q p axis.Last = record { to = state o (axis_or_none (reduces f p)); leads = leads_at p (glyph "/") refl leads_nil; ready = record { ready = axis_ready o (reduces f p) } }
  reduction_part o f m q p axis.First = record { to = awaits (for_reduction f axis.First p) o; leads = leads_at p (glyph "⌿") refl leads_nil; ready = must_ready (waiting (for_reduction f axis.First p) o) }
  reduction_part o f m q p (axis.Numbered k) = record { to = awaits (for_reduction f (axis.Numbered k) p) o; leads = leads_at p (glyph "/") refl (number_leads o (reduces f p) k); ready = must_ready (waiting (for_reduction f (axis.Numbered k) p) o) }

  pub from_ready : {x : State} {o : Stack} (r : Ready x o) (p : Place) {s s' : Sort} {y : Option State} → s ≡ s' → IsStarter s' → begun o p s' ≡ y → taken x p s ≡ y
  from_ready {x} r p {s} {s'} e i b = ap (λ v. taken x p v) e ∙ r.ready p s' i ∙ b

  -- an operand leaves the stack as it is
  pub as_operand : {x : State} {ms : List Mark} (e : Tree) (o : Stack) → IsOperand e → Leads x ms (after e o) → Leads x ms (state o (operand e))
  as_operand {x} {ms} e o i f = subst (λ y. Leads x ms y) (operand_is e o i) f

  pub closing : (e : Tree) (p q : Place) (o : Stack) → taken (after e (in_parenthesis p o)) q close_paren ≡ Some (state o (operand (parenthesis e p)))
  closing e p q o = ap (λ w. close_parenthesis w.tree w.stack) (wind_unwound e (in_parenthesis p o))

  pub bracket : (e a : Tree) (done : Positions) (p q : Place) (o : Stack) → taken (after e (in_subscript a done p o)) q close_bracket ≡ Some (state o (operand (subscript a (then_position done (given e)) p)))
  bracket e a done p q o = ap (λ w. close_subscript (given w.tree) w.stack) (wind_unwound e (in_subscript a done p o))

  pub separator : (e a : Tree) (done : Positions) (p q : Place) (o : Stack) → taken (after e (in_subscript a done p o)) q semicolon ≡ Some (state (in_subscript a (then_position done (given e)) p o) may)
  separator e a done p q o = ap (λ w. next_position (given w.tree) w.stack) (wind_unwound e (in_subscript a done p o))

  mutual
    pub expression_leads : (e : Tree) → IsExpression hs e → (x : State) (o : Stack) → Ready x o → Leads x (spelling e) (after e o)
    expression_leads (constant l p) h x o r = leads_at p (literal_word l) (from_ready r p (sort_literal hs l.kind l.cells) tt refl) leads_nil
    expression_leads (variable m p) h x o r = leads_at p (word.Name m) (from_ready r p (ap (named m) h.free) tt refl) leads_nil
    expression_leads (call f elided elided p) h x o r = leads_at p (word.Name f) (from_ready r p (ap (named f) h.heads) tt refl) leads_nil
    expression_leads (call f elided (given right) p) h x o r =
        leads_at p (word.Name f) (from_ready r p (ap (named f) h.0.heads) tt refl)
        (expression_leads right h.1 (awaits (for_call f elided p) o) (waiting (for_call f elided p) o) (must_ready (waiting (for_call f elided p) o)))
    expression_leads (call f (given left) elided p) h x o r = absurd h
    expression_leads (call f (given left) (given right) p) h x o r =
        leads_then (spelling left) (as_operand left o h.1 (expression_leads left h.2 x o r))
        (leads_at p (word.Name f) (ap (λ s. taken (state o (operand left)) p s) (ap (named f) h.0.heads))
        (expression_leads right h.3 (awaits (for_call f (given left) p) o) (waiting (for_call f (given left) p) o) (must_ready (waiting (for_call f (given left) p) o))))
    expression_leads (parenthesis e p) h x o r =
        leads_at p (glyph "(") (from_ready r p refl tt refl)
        (leads_then (spelling e) (expression_leads e h (state (in_parenthesis p o) must) (in_parenthesis p o) (must_ready (in_parenthesis p o)))
        (leads_some (glyph ")") (λ q. closing e p q o) leads_nil))
    expression_leads (monadic f right p) h x o r = let a = monadic_part x o p r f in
        leads_then (monadic_marks f p) a.leads (expression_leads right h.1 a.to (waiting (for_monadic f p) o) a.ready)
    expression_leads (dyadic f left right p) h x o r = let a = dyadic_part left o p f in
        leads_then (spelling left) (as_operand left o h.1 (expression_leads left h.2 x o r))
        (leads_then (dyadic_marks f p) a.leads (expression_leads right h.3 a.to (waiting (for_dyadic f left p) o) a.ready))
    expression_leads (reduction f x' right p) h x o r =
        leads_some_at (dya_glyph f) (λ q. state o (glyph_first f (mon_of f) q)) (λ q. from_ready r q (sort_dya hs f) tt refl)
        (λ q. let a = reduction_part o f (mon_of f) q p x' in
        leads_then (along "/" "⌿" x' p) a.leads (expression_leads right h.1 a.to (waiting (for_reduction f x' p) o) a.ready))
    expression_leads (outer_product f left right p) h x o r =
        leads_then (spelling left) (as_operand left o h.0 (expression_leads left h.1 x o r))
        (leads_at p (glyph "∘") refl (leads_some (glyph ".") (λ q. refl)
        (leads_some (dya_glyph f) (λ q. ap (λ s. taken (state o (after_jot_dot left p)) q s) (sort_dya hs f))
        (expression_leads right h.2 (awaits (for_outer f left p) o) (waiting (for_outer f left p) o) (must_ready (waiting (for_outer f left p) o))))))
    expression_leads (inner_product f g left right p) h x o r =
        leads_then (spelling left) (as_operand left o h.0 (expression_leads left h.1 x o r))
        (leads_some_at (dya_glyph f) (λ q. state o (glyph_after f left q)) (λ q. ap (λ s. taken (state o (operand left)) q s) (sort_dya hs f))
        (λ q. leads_at p (glyph ".") refl
        (leads_some (dya_glyph g) (λ q'. ap (λ s. taken (state o (after_dot f left p)) q' s) (sort_dya hs g))
        (expression_leads right h.2 (awaits (for_inner f g left p) o) (waiting (for_inner f g left p) o) (must_ready (waiting (for_inner f g left p) o))))))
    expression_leads (subscript a qs p) h x o r =
        leads_then (spelling a) (as_operand a o h.0 (expression_leads a h.1 x o r))
        (positions_leads qs h.2 h.3 a no_position p o (at p (glyph "[")) (state o (operand a)) (λ t i. step_at (state o (operand a)) p (glyph "[") t i refl)
        (subst (λ v. Leads (state o (operand (subscript a v p))) [] (state o (operand (subscript a qs p)))) (sym (joined-plus no_position qs)) leads_nil))
    expression_leads (assignment m value p) h x o r =
        leads_at p (word.Name m) (from_ready r p (ap (named m) h.0.free) tt refl)
        (leads_some (glyph "←") (λ q. refl)
        (expression_leads value h.1 (awaits (for_assignment m p) o) (waiting (for_assignment m p) o) (must_ready (waiting (for_assignment m p) o))))
    expression_leads (indexed_assignment m qs value p) h x o r =
        leads_some_at (word.Name m) (λ q. state o (operand (variable m q))) (λ q. from_ready r q (ap (named m) h.0.free) tt refl)
        (λ q. positions_leads qs h.1 h.2 (variable m q) no_position p o (at p (glyph "[")) (state o (operand (variable m q))) (λ t i. step_at (state o (operand (variable m q))) p (glyph "[") t i refl)
        (subst (λ v. Leads (state o (operand (subscript (variable m q) v p))) (some (glyph "←") ∷ spelling value) (after value (waiting (for_indexed m qs p) o))) (sym (joined-plus no_position qs))
        (leads_some (glyph "←") (λ q'. refl)
        (expression_leads value h.3 (awaits (for_indexed m qs p) o) (waiting (for_indexed m qs p) o) (must_ready (waiting (for_indexed m qs p) o))))))
    expression_leads (output value p) h x o r =
        leads_at p (glyph "⎕") (from_ready r p refl tt refl)
        (leads_some (glyph "←") (λ q. refl)
        (expression_leads value h (awaits (for_output p) o) (waiting (for_output p) o) (must_ready (waiting (for_output p) o))))

    pub positions_leads : (qs : Positions) → HasPosition qs → ArePositions hs qs → (a : Tree) (done : Positions) (p : Place) (o : Stack) (lead : Mark) (x : State) →
        ((t : Token) → Fits n lead t → step hs n x t ≡ Some (state (in_subscript a done p o) may)) →
        {b : List Mark} {z : State} → Leads (state o (operand (subscript a (joined done qs) p))) b z →
        Leads x (position_spelling lead qs ++ (some (glyph "]") ∷ b)) z
    positions_leads no_position h i a done p o lead x e {b} {z} f = absurd h
    positions_leads (position elided no_position) h i a done p o lead x e {b} {z} f =
        leads_token lead (λ t. state (in_subscript a done p o) may) e (λ t k. leads_some (glyph "]") (λ q. refl) f)
    positions_leads (position (given c) no_position) h i a done p o lead x e {b} {z} f =
        leads_token lead (λ t. state (in_subscript a done p o) may) e
        (λ t k. leads_assoc (spelling c) [] (some (glyph "]") ∷ b)
        (leads_then (spelling c) (expression_leads c i.0 (state (in_subscript a done p o) may) (in_subscript a done p o) (record { ready = may_ready (in_subscript a done p o) }))
        (leads_some (glyph "]") (λ q. bracket c a done p q o) f)))
    positions_leads (position elided (position q qs)) h i a done p o lead x e {b} {z} f =
        leads_token lead (λ t. state (in_subscript a done p o) may) e
        (λ t k. positions_leads (position q qs) tt i.1 a (then_position done elided) p o (some (glyph ";")) (state (in_subscript a done p o) may)
        (λ t' k'. step_some (state (in_subscript a done p o) may) (glyph ";") t' k' refl) f)
    positions_leads (position (given c) (position q qs)) h i a done p o lead x e {b} {z} f =
        leads_token lead (λ t. state (in_subscript a done p o) may) e
        (λ t k. leads_assoc (spelling c) (position_spelling (some (glyph ";")) (position q qs)) (some (glyph "]") ∷ b)
        (leads_then (spelling c) (expression_leads c i.0 (state (in_subscript a done p o) may) (in_subscript a done p o) (record { ready = may_ready (in_subscript a done p o) }))
        (positions_leads (position q qs) tt i.1 a (then_position done (given c)) p o (some (glyph ";")) (after c (in_subscript a done p o))
        (λ t' k'. step_some (after c (in_subscript a done p o)) (glyph ";") t' k' (separator c a done p (record { line = n; column = t'.from }) o)) f)))

  pub nothing_left : (y : State) (ts : List Token) → Spell n [] ts → run hs n (Some y) ts ≡ Some y
  nothing_left y [] s = refl
  nothing_left y (t ∷ ts) s = absurd s

  pub ends : {x y : State} (ms : List Mark) → Leads x ms y → (ts : List Token) → Spell n ms ts → run hs n (Some x) ts ≡ Some y
  ends {x} {y} ms f ts s =
      let r = f.go [] ts (subst (λ l. Spell n l ts) (sym (append-nil ms)) s) in
      r.same ∙ nothing_left y r.rest r.fits

  pub finished_after : (e : Tree) (b : Option Place) → finished (after e (bottom b)) ≡ finished_with e (bottom b)
  finished_after e b = ap (λ w. finished_with w.tree w.stack) (wind_unwound e (bottom b))

  -- the reader gives each statement that spells the tokens
  pub read_complete : (s : Statement) → IsStatement hs s → (ts : List Token) → Spell n (statement_spelling s) ts → read hs n ts ≡ Some s
  read_complete nothing h ts s = ap (option_and_then finished) (ends [] leads_nil ts s)
  read_complete (branch e p) h ts s =
      ap (option_and_then finished) (ends (at p (glyph "→") ∷ spelling e)
      (leads_at p (glyph "→") refl (expression_leads e h (state (bottom (Some p)) must) (bottom (Some p)) (must_ready (bottom (Some p))))) ts s)
      ∙ finished_after e (Some p)
  read_complete (expression e) h ts s =
      ap (option_and_then finished) (ends (spelling e)
      (expression_leads e h start (bottom None) (record { ready = first_ready (bottom None) })) ts s)
      ∙ finished_after e None
