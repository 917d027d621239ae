-- Reports, as bytes.
use Rattle.std.proofs.Common.{◌≡◌, ℕ, ◌+◌, ◌-◌, List, [], ◌∷◌, ◌++◌, length, replicate, refl, sym, ap, ◌∙◌, subst, codes, decimal, append_assoc, length-append, arith, encode_utf8_all}
use Rattle.std.proofs.lemmas.List.{replicate-append-replicate}
use Rattle.std.specs.Str.{IsUtf8, chars}
use Rattle.apl_base.specs.declared.faults.ErrorKind.{ErrorKind}
use Rattle.apl_base.specs.declared.faults.ErrorKind.TheVariants as error
use Rattle.apl_base.specs.declared.faults.Place.{Place}
use Rattle.apl_model.specs.declared.outlines.Outline.{Outline}
use Rattle.apl_compile.specs.Running.{line_text_in, prefix_from, report_in}
use Rattle.apl_model.specs.Printed.{body_prefix, error_name, newline, plain_prefix, report_text}
use Rattle.apl_print.specs.Lines.{pointed}
use Rattle.apl_print.proofs.Utf8.{Adds, adds-as, adds-own, adds-then, bytes-of-chars, IsOwn, own-test, own-append}

-- one part after the other
cut : (t a b : List ℕ) → t ++ (a ++ b) ≡ (t ++ a) ++ b
cut t a b = sym (append_assoc t a b)

-- a text of characters
adds-chars : (t line : List ℕ) → IsUtf8 line → Adds t (t ++ line) (chars line)
adds-chars t line text = ap (λ xs. t ++ xs) (sym (bytes-of-chars line text))

-- ---- blanks

pub blanks_then : (t t1 t2 : List ℕ) (m n : ℕ) → Adds t t1 (replicate m 32) → Adds t1 t2 (replicate n 32) → Adds t t2 (replicate (m + n) 32)
blanks_then t t1 t2 m n p q =
    adds-as t t2 (replicate m 32 ++ replicate n 32) (replicate (m + n) 32) (adds-then t t1 t2 (replicate m 32) (replicate n 32) p q) (replicate-append-replicate m n 32)

-- the blanks before a column, and a caret
pub caret_bytes : (t t1 t2 : List ℕ) (n column : ℕ) → n ≡ column - 1 → Adds t t1 (replicate n 32) → t2 ≡ t1 ++ codes "^\n" → Adds t t2 (replicate (column - 1) 32 ++ codes "^\n")
caret_bytes t t1 t2 n column e p q =
    adds-then t t1 t2 (replicate (column - 1) 32) (codes "^\n") (subst (λ k. Adds t t1 (replicate k 32)) e p) (adds-own t1 t2 (codes "^\n") q (own-test (codes "^\n") refl))

-- ---- lines

-- a line with what stands before it, and a caret under its column
pub pointed_bytes : (prefix line : List ℕ) (column : ℕ) (t t1 t2 t3 : List ℕ) → Adds t t1 (prefix ++ (line ++ newline)) → Adds t1 t2 (replicate (length prefix) 32) →
    Adds t2 t3 (replicate (column - 1) 32 ++ codes "^\n") → Adds t t3 (pointed prefix line column)
pointed_bytes prefix line column t t1 t2 t3 p q r =
    let m : ℕ = length prefix in
    let n : ℕ = column - 1 in
    let caret : List ℕ = codes "^\n" in
    adds-as t t3 ((prefix ++ (line ++ newline)) ++ (replicate m 32 ++ (replicate n 32 ++ caret))) (pointed prefix line column)
    (adds-then t t1 t3 (prefix ++ (line ++ newline)) (replicate m 32 ++ (replicate n 32 ++ caret)) p (adds-then t1 t2 t3 (replicate m 32) (replicate n 32 ++ caret) q r))
    (append_assoc prefix (line ++ newline) (replicate m 32 ++ (replicate n 32 ++ caret))
    ∙ ap (λ xs. prefix ++ xs) (append_assoc line newline (replicate m 32 ++ (replicate n 32 ++ caret))
    ∙ ap (λ xs. line ++ (newline ++ xs)) (sym (append_assoc (replicate m 32) (replicate n 32) caret) ∙ ap (λ xs. xs ++ caret) (replicate-append-replicate m n 32))))

-- a line outside definitions
pub plain_bytes : (line : List ℕ) (t t1 : List ℕ) → IsUtf8 line → t1 ≡ t ++ (plain_prefix ++ (line ++ newline)) → Adds t t1 (plain_prefix ++ (chars line ++ newline))
plain_bytes line t t1 text e =
    let u : List ℕ = t ++ plain_prefix in
    let v : List ℕ = u ++ line in
    adds-then t u t1 plain_prefix (chars line ++ newline)
    (adds-own t u plain_prefix refl (own-test plain_prefix refl))
    (adds-then u v t1 (chars line) newline (adds-chars u line text)
    (adds-own v t1 newline (e ∙ cut t plain_prefix (line ++ newline) ∙ cut u line newline) (own-test newline refl)))

-- a line of a body
pub body_bytes : (name : List ℕ) (k : ℕ) (named digits line t t1 : List ℕ) → named ≡ encode_utf8_all name → digits ≡ decimal k → IsOwn digits → IsUtf8 line →
    t1 ≡ t ++ (named ++ (91 ∷ (digits ++ (93 ∷ 32 ∷ (line ++ newline))))) → Adds t t1 (body_prefix name k ++ (chars line ++ newline))
body_bytes name k named digits line t t1 n d own text e =
    let t2 : List ℕ = t ++ named in
    let t3 : List ℕ = t2 ++ codes "[" in
    let t4 : List ℕ = t3 ++ digits in
    let t5 : List ℕ = t4 ++ codes "] " in
    let t6 : List ℕ = t5 ++ line in
    let parts : t1 ≡ t6 ++ newline =
    e ∙ cut t named (91 ∷ (digits ++ (93 ∷ 32 ∷ (line ++ newline)))) ∙ cut t2 (codes "[") (digits ++ (93 ∷ 32 ∷ (line ++ newline)))
    ∙ cut t3 digits (93 ∷ 32 ∷ (line ++ newline)) ∙ cut t4 (codes "] ") (line ++ newline) ∙ cut t5 line newline in
    let a : Adds t t2 name = ap (λ xs. t ++ xs) n in
    let b : Adds t2 t3 (codes "[") = adds-own t2 t3 (codes "[") refl (own-test (codes "[") refl) in
    let c : Adds t3 t4 (decimal k) = subst (λ ds. Adds t3 t4 ds) d (adds-own t3 t4 digits refl own) in
    let f : Adds t4 t5 (codes "] ") = adds-own t4 t5 (codes "] ") refl (own-test (codes "] ") refl) in
    adds-then t t5 t1 (body_prefix name k) (chars line ++ newline)
    (adds-then t t4 t5 ((name ++ codes "[") ++ decimal k) (codes "] ")
    (adds-then t t3 t4 (name ++ codes "[") (decimal k) (adds-then t t2 t3 name (codes "[") a b) c) f)
    (adds-then t5 t6 t1 (chars line) newline (adds-chars t5 line text) (adds-own t6 t1 newline parts (own-test newline refl)))

-- as many blanks as such a prefix has characters
pub body_blanks : (name : List ℕ) (k count shown : ℕ) (t t1 t2 : List ℕ) → count ≡ length name → shown ≡ length (decimal k) →
    Adds t t1 (replicate count 32) → Adds t1 t2 (replicate (shown + 3) 32) → Adds t t2 (replicate (length (body_prefix name k)) 32)
body_blanks name k count shown t t1 t2 c s p q =
    let all : count + (shown + 3) ≡ length (body_prefix name k) =
    omega (arith, c, s, length-append ((name ++ codes "[") ++ decimal k) (codes "] "), length-append (name ++ codes "[") (decimal k), length-append name (codes "[")) in
    subst (λ n. Adds t t2 (replicate n 32)) all (blanks_then t t1 t2 count (shown + 3) p q)

-- ---- whole reports

own_name : (kind : ErrorKind) → IsOwn (error_name kind)
own_name error.Value = own-test (codes "VALUE") refl
own_name error.Domain = own-test (codes "DOMAIN") refl
own_name error.Length = own-test (codes "LENGTH") refl
own_name error.Rank = own-test (codes "RANK") refl
own_name error.Index = own-test (codes "INDEX") refl
own_name error.Limit = own-test (codes "LIMIT") refl
own_name error.Depth = own-test (codes "DEPTH") refl

pub report_bytes : (kind : ErrorKind) (prefix line : List ℕ) (column : ℕ) (t t1 t2 : List ℕ) → t ≡ error_name kind → t1 ≡ t ++ codes " ERROR\n" →
    Adds t1 t2 (pointed prefix line column) → t2 ≡ encode_utf8_all (report_text kind prefix line column)
report_bytes kind prefix line column t t1 t2 n e p =
    let name : List ℕ = error_name kind in
    let blanks : List ℕ = replicate (length prefix + (column - 1)) 32 in
    let head : List ℕ = (name ++ codes " ERROR") ++ newline in
    let caret : List ℕ = codes "^\n" in
    let first : Adds [] t1 (name ++ codes " ERROR\n") =
    adds-own [] t1 (name ++ codes " ERROR\n") (e ∙ ap (λ xs. xs ++ codes " ERROR\n") n) (own-append name (codes " ERROR\n") (own_name kind) (own-test (codes " ERROR\n") refl)) in
    let shape : (name ++ codes " ERROR\n") ++ pointed prefix line column ≡ report_text kind prefix line column =
    ap (λ xs. xs ++ pointed prefix line column) (cut name (codes " ERROR") newline)
    ∙ cut head prefix (line ++ (newline ++ (blanks ++ caret)))
    ∙ cut (head ++ prefix) line (newline ++ (blanks ++ caret))
    ∙ cut ((head ++ prefix) ++ line) newline (blanks ++ caret)
    ∙ cut (((head ++ prefix) ++ line) ++ newline) blanks caret
    ∙ cut ((((head ++ prefix) ++ line) ++ newline) ++ blanks) (codes "^") newline in
    adds-as [] t2 ((name ++ codes " ERROR\n") ++ pointed prefix line column) (report_text kind prefix line column)
    (adds-then [] t1 t2 (name ++ codes " ERROR\n") (pointed prefix line column) first p) shape

-- the report at a place of an outline, where this is what stands before its line, and these are the line's bytes
pub report_in_bytes : (o : Outline) (kind : ErrorKind) (place : Place) (prefix line t t1 t2 : List ℕ) → prefix_from place.line o.items ≡ prefix → chars line ≡ line_text_in o.lines place.line →
    t ≡ error_name kind → t1 ≡ t ++ codes " ERROR\n" → Adds t1 t2 (pointed prefix (chars line) place.column) → t2 ≡ encode_utf8_all (report_in o kind place)
report_in_bytes o kind place prefix line t t1 t2 p l n e q =
    report_bytes kind prefix (chars line) place.column t t1 t2 n e q
    ∙ ap (λ xs. encode_utf8_all (report_text kind xs (chars line) place.column)) (sym p)
    ∙ ap (λ xs. encode_utf8_all (report_text kind (prefix_from place.line o.items) xs place.column)) l
