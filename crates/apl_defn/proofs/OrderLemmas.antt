-- The refusals of forms come before those of uses, so the first refusal of a script is found in two passes.
use Rattle.std.proofs.Common.{◌≡◌, ℕ, List, inl, inr, refl, ap, subst, arith}
use Rattle.std.specs.List.{AllZip}
use Rattle.apl_base.specs.declared.faults.Cause.TheVariants as cause
use Rattle.apl_base.specs.declared.faults.Refusal.{Refusal}
use Rattle.apl_model.proofs.Accepted.{same_classes}
use Rattle.apl_model.proofs.Rows.{phase_is}
use Rattle.apl_model.specs.Refusal.{refusal, AreClasses, IsNameClass, assigned, erased, declared, IsDeep, opened, IsGrammarRefusal, outside_definitions, in_a_body, IsLineRefusal, header, double_name, open_definition, name_class, deep, grammar, phase, order, IsNotAfter, IsFirst}
use Rattle.apl_model.specs.Script.{Part, alone, defined, parts, IsItem, IsScript}
use Rattle.apl_model.specs.Tree.{Item}
use Rattle.apl_model.specs.declared.tokens.Heading.{Heading}
use Rattle.apl_model.specs.declared.tokens.Line.{Line}
use Rattle.apl_defn.proofs.PhaseLemmas.{form_is, header_form, double_form, open_form, use_is, class_use, deep_use, grammar_use}
use Rattle.apl_defn.specs.PartRefusals.{OfSome, AfterOthers, IsFormRefusal, IsUseRefusal}

-- a part is refused for its form in the second phase
form_phase : (before : List Part) (p : Part) (r : Refusal) → IsFormRefusal before p r → phase r.cause ≡ 2
form_phase before (alone l) r h = phase_is r cause.Header _ _ h.is
form_phase before (defined top body last) r (inl h) = phase_is r cause.Header _ _ h.is
form_phase before (defined top body last) r (inr (inl h)) = phase_is r cause.Header _ _ h.2.is
form_phase before (defined top body last) r (inr (inr (inl h))) = phase_is r cause.DoubleName _ _ h.is
form_phase before (defined top body last) r (inr (inr (inr (inl h)))) = phase_is r cause.DoubleName _ _ h.repeated.is
form_phase before (defined top body last) r (inr (inr (inr (inr h)))) = phase_is r cause.OpenDefinition _ _ h.is

class_phase : (ls : List Line) (r : Refusal) → IsNameClass ls r → phase r.cause ≡ 3
class_phase ls r (assigned a b c d f g h i j k l e) = phase_is r cause.NameClass _ _ e
class_phase ls r (erased a b c d f e) = phase_is r cause.NameClass _ _ e
class_phase ls r (declared a b c d f g h i e) = phase_is r cause.NameClass _ _ e

deep_phase : (ls : List Line) (r : Refusal) → IsDeep ls r → phase r.cause ≡ 3
deep_phase ls r (opened a b c d e) = phase_is r cause.Deep _ _ e

grammar_phase : (ls : List Line) (r : Refusal) → IsGrammarRefusal ls r → phase r.cause ≡ 3
grammar_phase ls r (outside_definitions a b c d f g e) = phase_is r cause.Grammar _ _ e
grammar_phase ls r (in_a_body a b c d f g e) = phase_is r cause.Grammar _ _ e

earlier_phase : (r s : Refusal) → phase r.cause ≡ 2 → phase s.cause ≡ 3 → IsNotAfter (order r) (order s)
earlier_phase r s e f = inl (omega arith)

module _ (ls : List Line) where
  -- the first refusal of a form is the first of all
  pub first_form : (r : Refusal) → IsFirst (AfterOthers IsFormRefusal (parts ls)) r → IsFirst (IsLineRefusal ls) r
  first_form r h = record { refuses = form_is ls r h.refuses; first = go }
    where
      early : phase r.cause ≡ 2
      early = form_phase h.refuses.before h.refuses.part r h.refuses.refuses

      go : (s : Refusal) → IsLineRefusal ls s → IsNotAfter (order r) (order s)
      go s (header x) = h.first s (header_form ls s x)
      go s (double_name x) = h.first s (double_form ls s x)
      go s (open_definition x) = h.first s (open_form ls s x)
      go s (name_class x) = earlier_phase r s early (class_phase ls s x)
      go s (deep x) = earlier_phase r s early (deep_phase ls s x)
      go s (grammar x) = earlier_phase r s early (grammar_phase ls s x)

  module _ (none : (r : Refusal) → AfterOthers IsFormRefusal (parts ls) r → ⊥) (hs : List Heading) (classes : AreClasses (parts ls) hs) where
    -- where no form is refused, what refuses the script is the use of something
    line_use : (r : Refusal) → IsLineRefusal ls r → OfSome (IsUseRefusal hs) (parts ls) r
    line_use r (header x) = absurd (none r (header_form ls r x))
    line_use r (double_name x) = absurd (none r (double_form ls r x))
    line_use r (open_definition x) = absurd (none r (open_form ls r x))
    line_use r (name_class x) = class_use ls hs classes r x
    line_use r (deep x) = deep_use ls hs classes r x
    line_use r (grammar x) = grammar_use ls hs classes r x

    pub first_use : (r : Refusal) → IsFirst (OfSome (IsUseRefusal hs) (parts ls)) r → IsFirst (IsLineRefusal ls) r
    first_use r h = record { refuses = use_is ls hs classes r h.refuses; first = λ s x. h.first s (line_use s x) }

    pub no_use : ((r : Refusal) → OfSome (IsUseRefusal hs) (parts ls) r → ⊥) → (r : Refusal) → IsLineRefusal ls r → ⊥
    no_use f r x = f r (line_use r x)

-- items of the parts over their own classes are a script's
pub script_is : (ls : List Line) (hs : List Heading) (items : List Item) → AreClasses (parts ls) hs → AllZip (IsItem hs) (parts ls) items →
    IsScript ls (record { lines = ls; items = items })
script_is ls hs items c z = record {
  lines = refl;
  items = subst (λ v. AllZip (IsItem v) (parts ls) items) (same_classes hs (parts ls) items hs z c) z;
}
