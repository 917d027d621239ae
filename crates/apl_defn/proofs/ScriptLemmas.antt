-- A script is read where both passes find no refusal, and else the first one is what they find.
use Rattle.std.proofs.Common.{◌≡◌, ℕ, ◌≤◌, length, true, List, [], ◌∷◌, Option, None, Some, refl, sym, subst}
use Rattle.std.specs.Prelude.{map, Result, Ok, Err}
use Rattle.std.specs.List.{IsAmong}
use Rattle.std.specs.Str.Lossy.{utf8_valid_len}
use Rattle.apl_base.specs.declared.faults.Cause.TheVariants as cause
use Rattle.apl_base.specs.declared.faults.Refusal.{Refusal}
use Rattle.apl_base.specs.declared.faults.TheConstants.{MOST_BYTES}
use Rattle.apl_model.proofs.Accepted.{part_from, opens_two}
use Rattle.apl_model.specs.Mirror.{item_of}
use Rattle.apl_model.proofs.Rows.{first_in_reading, first_in_lines}
use Rattle.apl_model.specs.Lines.{lines_of}
use Rattle.apl_model.specs.Refusal.{refusal, IsReadingRefusal, never_closed, AreClasses, IsLineRefusal, double_name, name_class, deep, IsRefusal, IsFirst, IsAccepted, IsFirstIfAny}
use Rattle.apl_model.specs.Script.{Part, alone, defined, parts, opens, heading_of, IsScript}
use Rattle.apl_model.specs.Tokens.{IsRead}
use Rattle.apl_model.specs.Tree.{Script}
use Rattle.apl_model.specs.declared.scripts.Header.{Header}
use Rattle.apl_model.specs.declared.tokens.Heading.{Heading}
use Rattle.apl_model.specs.declared.tokens.Line.{Line}
use Rattle.apl_model.specs.declared.tokens.Token.{Token}
use Rattle.apl_model.specs.ReadFaults.{IsRefusedFirst}
use Rattle.apl_model.specs.declared.faults.ReadFault.{ReadFault}
use Rattle.apl_model.specs.declared.faults.ReadFault.TheVariants as fault
use Rattle.apl_model.specs.ReadFaults.{IfRefused}
use Rattle.apl_read.proofs.FirstRefusal.{reading_phase}
use Rattle.apl_defn.proofs.OrderLemmas.{first_form, first_use, no_use, script_is}
use Rattle.apl_defn.proofs.PhaseLemmas.{open_form}
use Rattle.apl_defn.specs.PartRefusals.{OfSome, AfterOthers, IsFormRefusal, IsUseRefusal}
use Rattle.apl_defn.specs.Passes.{AreHeaders, AreForms, AreUses}
use Rattle.apl_defn.specs.Reading.{AreAccepted}
use Rattle.apl_defn.specs.declared.forms.Forms.{Forms}
use Rattle.apl_defn.specs.declared.uses.Uses.{Uses}

-- the classes of headers are those of the definitions
pub classes_are : (ps : List Part) (hs : List Header) → AreHeaders ps hs → AreClasses ps (map heading_of hs)
classes_are [] [] a = tt
classes_are [] (h ∷ hs) a = absurd a
classes_are (alone l ∷ ps) hs a = classes_are ps hs a
classes_are (defined top body last ∷ ps) [] a = absurd a
classes_are (defined top body last ∷ ps) (h ∷ hs) a = ((h, a.0, refl), classes_are ps hs a.1)

pub is_none : (o : Option Refusal) → ((r : Refusal) → o ≡ Some r → ⊥) → o ≡ None
is_none None f = refl
is_none (Some r) f = absurd (f r refl)

module _ (ls : List Line) (f : Forms) (forms : AreForms (parts ls) f) where
  -- a refusal of the first pass is the first of all
  pub form_refused : (r : Refusal) → f.earliest ≡ Some r → IsFirst (IsLineRefusal ls) r
  form_refused r e = first_form ls r (subst (λ o. IsFirstIfAny (AfterOthers IsFormRefusal (parts ls)) o) e forms.earliest)

  module _ (none : f.earliest ≡ None) where
    no_form : (r : Refusal) → AfterOthers IsFormRefusal (parts ls) r → ⊥
    no_form = subst (λ o. IsFirstIfAny (AfterOthers IsFormRefusal (parts ls)) o) none forms.earliest

    -- without one each definition is closed
    pub all_closed : (first : Line) (body : List Line) → IsAmong (parts ls) (defined first body None) → ⊥
    all_closed first body m =
        let t = opens_two first.tokens (part_from ls (defined first body None) m).1 in
        no_form (refusal cause.OpenDefinition first.number t.0.from) (open_form ls (refusal cause.OpenDefinition first.number t.0.from) (never_closed first body t.0 t.1 m t.2 refl))

    module _ (u : Uses) (uses : AreUses (map heading_of f.headers.items) (parts ls) u) where
      abbrev hs : List Heading
      hs = map heading_of f.headers.items

      classes : AreClasses (parts ls) hs
      classes = classes_are (parts ls) f.headers.items (forms.headers none)

      -- a refusal of the second pass is then the first of all
      pub use_refused : (r : Refusal) → u.earliest ≡ Some r → IsFirst (IsLineRefusal ls) r
      use_refused r e = first_use ls no_form hs classes r (subst (λ o. IsFirstIfAny (OfSome (IsUseRefusal hs) (parts ls)) o) e uses.earliest)

      -- and without one the items are the script's
      pub all_read : u.earliest ≡ None → AreAccepted ls (record { lines = ls; items = map item_of u.items.items })
      all_read e = record {
        tree = script_is ls hs (map item_of u.items.items) classes (uses.items e);
        none = no_use ls no_form hs classes (subst (λ o. IsFirstIfAny (OfSome (IsUseRefusal hs) (parts ls)) o) e uses.earliest);
      }

-- ---- A script of bytes ----

pub refused_like : {A : Type 0} (r : Result A ReadFault) (P Q : Refusal → Type 0) → ((o : Refusal) → P o → Q o) → IfRefused r P → IfRefused r Q
refused_like (Ok a) P Q f h = tt
refused_like (Err (fault.Refused o)) P Q f h = f o h
refused_like (Err fault.NoMemory) P Q f h = tt

pub refused_first : (A : Type 0) (x : ReadFault) (P : Refusal → Type 0) → IsRefusedFirst x P → IfRefused {A = A} (Err x) (IsFirst P)
refused_first A (fault.Refused o) P h = h
refused_first A fault.NoMemory P h = tt

module _ (bytes : List ℕ) (short : length bytes ≤ MOST_BYTES) where
  -- a refusal of reading is the first of all
  pub reading_refused : (r : Refusal) → IsFirst (IsReadingRefusal bytes) r → IsFirst (IsRefusal bytes) r
  reading_refused r h = first_in_reading bytes r short (reading_phase bytes r h.refuses) h.refuses h.first

  module _ (ls : List Line) (same : ls ≡ lines_of bytes) where
    -- where nothing refuses the reading, a refusal of the lines is
    pub lines_refused : ((r : Refusal) → IsReadingRefusal bytes r → ⊥) → (r : Refusal) → IsFirst (IsLineRefusal ls) r → IsFirst (IsRefusal bytes) r
    lines_refused none r h = first_in_lines bytes r short none (subst (λ v. IsFirst (IsLineRefusal v) r) same h)

    pub lines_accepted : (s : Script) → utf8_valid_len bytes ≡ length bytes → ((l : Line) → IsAmong (lines_of bytes) l → length l.text ≤ 1000) →
        ((l : Line) → IsAmong (lines_of bytes) l → IsRead l.text l.tokens) → AreAccepted ls s → IsAccepted bytes s
    lines_accepted s w f r a = record {
      short = short;
      whole = w;
      lines = λ l m. (f l m, r l m);
      tree = subst (λ v. IsScript v s) same a.tree;
      shallow = λ o x. none o (deep x);
      single = λ o x. none o (double_name x);
      classes = λ o x. none o (name_class x);
    }
      where
        none : (o : Refusal) → IsLineRefusal (lines_of bytes) o → ⊥
        none o x = a.none o (subst (λ v. IsLineRefusal v o) (sym same) x)
