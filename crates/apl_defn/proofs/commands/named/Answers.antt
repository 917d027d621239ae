-- The name is that of the literal that its text is.
use Rattle.std.proofs.Common.{◌≡◌, ℕ, Bool, true, false, cond, List, [], None, Some, refl, sym, ap, ◌∙◌, codes}
use Rattle.std.specs.Char.{encode_utf8}
use Rattle.std.specs.Cmp.Lexicographic.{bytes_decides}
use Rattle.std.specs.Str.{chars, encode_utf8_all}
use Rattle.apl_base.proofs.Booleans.{by_false}
use Rattle.apl_model.specs.Environment.{is_same_name}
use Rattle.apl_model.specs.declared.scripts.Command.TheVariants as command
use Rattle.apl_defn.specs.CommandSteps as step
use Rattle.apl_defn.specs.declared.commands.CommandSoFar.TheVariants as so_far
use Rattle.apl_defn.proofs.commands.named.Goals as goal

-- the tests of the definition, by what they are
named_is : (n : List ℕ) (a b c d : Bool) → is_same_name n (codes "VARS") ≡ a → is_same_name n (codes "FNS") ≡ b → is_same_name n (codes "ERASE") ≡ c → is_same_name n (codes "ORIGIN") ≡ d →
    cond a (Some (so_far.Whole command.Vars)) (cond b (Some (so_far.Whole command.Fns)) (cond c (Some (so_far.Erases [])) (cond d (Some so_far.Origin) None))) ≡ step.named n
named_is n a b c d e f g h = λ i. cond (sym e i) (Some (so_far.Whole command.Vars)) (cond (sym f i) (Some (so_far.Whole command.Fns)) (cond (sym g i) (Some (so_far.Erases [])) (cond (sym h i) (Some so_far.Origin) None)))

-- a name whose text is the literal is that word
is_it : (n bytes w : List ℕ) → chars bytes ≡ n → bytes ≡ w → chars w ≡ w → is_same_name n w ≡ true
is_it n bytes w e f g = (bytes_decides n w).1 (sym e ∙ ap chars f ∙ g)

-- and one whose text is not is another
is_not : (n bytes w : List ℕ) → bytes ≡ encode_utf8_all n → (bytes ≡ w → ⊥) → encode_utf8_all w ≡ w → is_same_name n w ≡ false
is_not n bytes w e f g = by_false (is_same_name n w) (n ≡ w) (bytes_decides n w).0 (λ h. f (e ∙ ap encode_utf8_all h ∙ g))

pub returns-in-VARS : goal.returns-in-VARS
unfolding chars
returns-in-VARS c =
    let n = c.args.name.now in
    named_is n true _ _ _ (is_it n c.as_str.result.now (codes "VARS") c.as_str.ensures.characters c.in-VARS.is refl) refl refl refl

pub returns-in-FNS : goal.returns-in-FNS
unfolding chars encode_utf8
returns-in-FNS c =
    let n = c.args.name.now in
    let b = c.as_str.result.now in
    named_is n false true _ _ (is_not n b (codes "VARS") c.as_str.ensures.bytes c.in-FNS.not-VARS refl)
    (is_it n b (codes "FNS") c.as_str.ensures.characters c.in-FNS.is refl) refl refl

pub returns-in-ERASE : goal.returns-in-ERASE
unfolding chars encode_utf8
returns-in-ERASE c =
    let n = c.args.name.now in
    let b = c.as_str.result.now in
    ap (λ ns. Some (so_far.Erases ns)) c.new.ensures
    ∙ named_is n false false true _ (is_not n b (codes "VARS") c.as_str.ensures.bytes c.in-ERASE.not-VARS refl)
    (is_not n b (codes "FNS") c.as_str.ensures.bytes c.in-ERASE.not-FNS refl)
    (is_it n b (codes "ERASE") c.as_str.ensures.characters c.in-ERASE.is refl) refl

pub returns-in-ORIGIN : goal.returns-in-ORIGIN
unfolding chars encode_utf8
returns-in-ORIGIN c =
    let n = c.args.name.now in
    let b = c.as_str.result.now in
    named_is n false false false true (is_not n b (codes "VARS") c.as_str.ensures.bytes c.in-ORIGIN.not-VARS refl)
    (is_not n b (codes "FNS") c.as_str.ensures.bytes c.in-ORIGIN.not-FNS refl)
    (is_not n b (codes "ERASE") c.as_str.ensures.bytes c.in-ORIGIN.not-ERASE refl)
    (is_it n b (codes "ORIGIN") c.as_str.ensures.characters c.in-ORIGIN.is refl)

pub returns-in_default : goal.returns-in_default
unfolding encode_utf8
returns-in_default c =
    let n = c.args.name.now in
    let b = c.as_str.result.now in
    named_is n false false false false (is_not n b (codes "VARS") c.as_str.ensures.bytes c.in_default.not-VARS refl)
    (is_not n b (codes "FNS") c.as_str.ensures.bytes c.in_default.not-FNS refl)
    (is_not n b (codes "ERASE") c.as_str.ensures.bytes c.in_default.not-ERASE refl)
    (is_not n b (codes "ORIGIN") c.as_str.ensures.bytes c.in_default.not-ORIGIN refl)
