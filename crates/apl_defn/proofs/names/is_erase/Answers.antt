use Rattle.std.proofs.Common.{◌≡◌, ℕ, Bool, true, false, List, refl, sym, ap, ◌∙◌}
use Rattle.std.specs.Prelude.{codes}
use Rattle.std.specs.Char.{encode_utf8}
use Rattle.std.specs.Cmp.Lexicographic.{bytes_decides}
use Rattle.std.specs.Str.{chars, encode_utf8_all, bytes_eq}
use Rattle.std.proofs.lemmas.Slice.Eq.{bytes_eq-Decides}
use Rattle.std.proofs.lemmas.Str.{chars-encodes}
use Rattle.apl_model.specs.Environment.{is_same_name}
use Rattle.apl_model.specs.Script.{is_name_token}
use Rattle.apl_model.specs.declared.tokens.Word.{Word}
use Rattle.apl_model.specs.declared.tokens.Word.TheVariants as word
use Rattle.apl_defn.proofs.names.is_erase.Goals as goal

abbrev erase : List ℕ
erase = codes "ERASE"

erase_bytes : encode_utf8_all erase ≡ erase
unfolding encode_utf8
erase_bytes = refl

erase_characters : chars erase ≡ erase
erase_characters = ap chars (sym erase_bytes) ∙ chars-encodes erase refl

-- two tests that find the same are the same
same_test : (a b : Bool) → (a ≡ true → b ≡ true) → (b ≡ true → a ≡ true) → a ≡ b
same_test true b f g = sym (f refl)
same_test false true f g = g refl
same_test false false f g = refl

compared : (n bytes : List ℕ) → chars bytes ≡ n → bytes ≡ encode_utf8_all n → bytes_eq bytes erase ≡ is_same_name n erase
compared n bytes e f = same_test (bytes_eq bytes erase) (is_same_name n erase)
    (λ t. (bytes_decides n erase).1 (sym e ∙ ap chars ((bytes_eq-Decides bytes erase).0 t) ∙ erase_characters))
    (λ t. (bytes_eq-Decides bytes erase).1 (f ∙ ap encode_utf8_all ((bytes_decides n erase).0 t) ∙ erase_bytes))

abbrev named_erase : Word → Bool
named_erase w = elim w [ word.Name n ↦ is_same_name n erase | _ ↦ false ]

pub returns-in-Name : goal.returns-in-Name
returns-in-Name c =
    c.eq.ensures ∙ compared c.in-Name.name c.as_str.result.now c.as_str.ensures.characters c.as_str.ensures.bytes ∙ ap named_erase (sym c.in-Name.is)
