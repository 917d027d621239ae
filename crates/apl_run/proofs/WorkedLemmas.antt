-- Small scripts of statements alone are accepted, and so their answers are computed.
use Rattle.std.proofs.Common.{◌≡◌, ℕ, ◌≤◌, ◌<◌, ◌^◌, List, [], ◌∷◌, length, Option, Some, None, refl, sym, subst, arith, inl, inr, pos}
use Rattle.std.specs.List.{AllByRecursion, IsAmong}
use Rattle.apl_base.specs.declared.cells.Kind.TheVariants.{Num}
use Rattle.apl_base.specs.declared.faults.Place.{Place}
use Rattle.apl_base.specs.declared.faults.Refusal.{Refusal}
use Rattle.apl_base.specs.declared.rows.Dya.{Dya}
use Rattle.apl_base.specs.declared.faults.TheConstants.{MOST_BYTES}
use Rattle.apl_model.proofs.Accepted.{among_cases, among_first, among_none}
use Rattle.apl_model.specs.Lines.{lines_of}
use Rattle.apl_model.specs.Refusal.{too_deep, opened, Heads, IsAccepted, IsDeep, IsDoubleName, IsFirst, IsFirstIfAny, IsNameClass, IsReadingRefusal, IsRefusal, second_heading, second_occurrence, assigned, erased, declared}
use Rattle.apl_model.specs.Script.{Part, alone, defined, parts, IsScript}
use Rattle.apl_model.specs.Tree.{Script, Item, Tree, constant, dyadic, expression, statement_item}
use Rattle.apl_model.specs.declared.functions.DyaFn.TheVariants as two
use Rattle.apl_model.specs.declared.tokens.Line.{Line}
use Rattle.apl_model.specs.declared.tokens.Token.{Token}
use Rattle.apl_read.proofs.FirstRefusal.{all_read, all_short, all_whole, first_refusal}
use Rattle.apl_read.specs.Refusals.{reading_refusal}
use Rattle.apl_defn.proofs.ScriptLemmas.{reading_refused}

-- a line by itself, of which no parenthesis is too deep
abbrev pub IsFlat : Part → Type 0
IsFlat (alone l) = too_deep 0 l.tokens ≡ None
IsFlat (defined first body last) = ⊥

flat_among : (ps : List Part) → AllByRecursion IsFlat ps → (p : Part) → IsAmong ps p → IsFlat p
flat_among [] all p m = absurd (among_none p m)
flat_among (q ∷ ps) all p m = elim (among_cases ps q p m) [
  | inl e ↦ subst IsFlat (sym e) all.0
  | inr n ↦ flat_among ps all.1 p n
]

none_some : {A : Type 0} (o : Option A) (a : A) → o ≡ None → o ≡ Some a → ⊥
none_some o a is_none is_some = cc

module _ (bytes : List ℕ) (flat : AllByRecursion IsFlat (parts (lines_of bytes))) where
  no_definition : (first : Line) (body : List Line) (last : Option Line) → IsAmong (parts (lines_of bytes)) (defined first body last) → ⊥
  no_definition first body last m = flat_among (parts (lines_of bytes)) flat (defined first body last) m

  no_heading : (n : List ℕ) → Heads (parts (lines_of bytes)) n → ⊥
  no_heading n h = no_definition h.first h.body h.is_defined.last h.is_defined.among

  none_deep : (r : Refusal) → IsDeep (lines_of bytes) r → ⊥
  none_deep r (opened l t (inl out) deep e) = none_some _ t (flat_among (parts (lines_of bytes)) flat (alone l) out) deep
  none_deep r (opened l t (inr (first, body, last, m, in_body)) deep e) = no_definition first body last m

  none_double : (r : Refusal) → IsDoubleName (lines_of bytes) r → ⊥
  none_double r (second_heading before after first body last h t split head earlier at e) =
      no_definition earlier.first earlier.body earlier.is_defined.last
      (subst (λ ps. IsAmong ps (defined earlier.first earlier.body earlier.is_defined.last)) (sym split)
      (among_first before (defined first body last ∷ after) _ earlier.is_defined.among))
  none_double r (second_occurrence first body h before after o p is_defined split m same e) = no_definition first body is_defined.last is_defined.among

  none_of_class : (r : Refusal) → IsNameClass (lines_of bytes) r → ⊥
  none_of_class r (assigned l before after t u n within split word glyph heads e) = no_heading n heads
  none_of_class r (erased l o out m heads e) = no_heading o.name heads
  none_of_class r (declared first body h o is_defined m other heads e) = no_heading o.name heads

  -- statements that can be read and have a tree
  pub accepted : (s : Script) → length bytes ≤ MOST_BYTES → reading_refusal bytes ≡ None → IsScript (lines_of bytes) s → IsAccepted bytes s
  accepted s short none tree =
      let unread : ((r : Refusal) → IsReadingRefusal bytes r → ⊥) = subst (λ o. IsFirstIfAny (IsReadingRefusal bytes) o) none (first_refusal bytes) in
      record {
        short = short;
        whole = all_whole bytes unread;
        lines = λ l m. (all_short bytes unread l m, all_read bytes unread l m);
        tree = tree;
        shallow = none_deep;
        single = none_double;
        classes = none_of_class;
      }

-- the first refusal that reading finds is that of the script
pub refused_first : (bytes : List ℕ) (r : Refusal) → length bytes ≤ MOST_BYTES → reading_refusal bytes ≡ Some r → IsFirst (IsRefusal bytes) r
refused_first bytes r short is = reading_refused bytes short r (subst (λ o. IsFirstIfAny (IsReadingRefusal bytes) o) is (first_refusal bytes))

-- ---- trees

abbrev pub at : ℕ → ℕ → Place
at line column = record { line = line; column = column }

abbrev pub number : ℕ → Place → Tree
number n place = constant (record { kind = Num; cells = pos n ∷ [] }) place

-- a function of two arguments between two numbers at the beginning of a line
abbrev pub between : ℕ → ℕ → Dya → ℕ → Item
between line a f b = statement_item line (expression (dyadic (two.Scalar f) (number a (at line 1)) (number b (at line 3)) (at line 2)))

-- a number at the beginning of a line
abbrev pub alone_on : ℕ → ℕ → Item
alone_on line n = statement_item line (expression (number n (at line 1)))

-- the script of these bytes that has these items
abbrev pub script_with : List ℕ → List Item → Script
script_with bytes items = record { lines = lines_of bytes; items = items }

pub one_fits : 1 ≤ 2 ^ 40
one_fits = omega arith

pub one_is_some : 0 < 1
one_is_some = omega arith
