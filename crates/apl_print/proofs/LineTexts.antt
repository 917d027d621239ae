-- The lines of refusals and costs, as bytes.
use Rattle.std.proofs.Common.{◌≡◌, ℕ, ◌+◌, ◌-◌, replicate, ◌^◌, ◌<◌, ℤ, pos, length, map, take, get_or, arith, List, [], ◌∷◌, ◌++◌, refl, sym, subst, ap, ◌∙◌, codes, decimal, append_assoc, append-nil, encode_utf8_all}
use Rattle.std.specs.Char.{encode_utf8}
use Rattle.std.specs.List.{flat_map}
use Rattle.std.proofs.lemmas.Grind.{flat_map-append}
use Rattle.std.proofs.lemmas.List.{take_more}
use Rattle.std.proofs.lemmas.Str.{encode_ascii}
use Rattle.apl_base.specs.declared.faults.Refusal.{Refusal}
use Rattle.apl_base.specs.declared.faults.Cause.{Cause}
use Rattle.apl_base.specs.declared.faults.Cause.TheVariants.{TooLong, Utf8, LineLong, Character, Number, OpenText, Header, DoubleName, OpenDefinition, NameClass, Deep, Grammar}
use Rattle.array_desc.specs.Desc.{DescView}
use Rattle.drag_along.specs.declared.leaves.Leaf.{Leaf}
use Rattle.drag_along.specs.Nodes.{leaf_desc}
use Rattle.apl_model.specs.Printed.{blank, newline, number_text, right_justified}
use Rattle.apl_print.specs.declared.costs.Cost.{Cost}
use Rattle.apl_print.specs.Lines.{cause_words, cost_line, desc_line, line_of, numbers_field, refusal_line, source_fields, view_fields}
use Rattle.apl_print.proofs.Utf8.{Adds, adds-as, adds-own, adds-then, IsOwn, own-decimal, own-line, own-test}

-- four fields on a line
four_fields : (a b c d bs : List ℕ) → bs ≡ a ++ (32 ∷ (b ++ (32 ∷ (c ++ (32 ∷ (d ++ (10 ∷ []))))))) → IsOwn a → IsOwn b → IsOwn c → IsOwn d → bs ≡ encode_utf8_all (line_of (a ∷ b ∷ c ∷ d ∷ []))
four_fields a b c d bs e p q r s =
    let shape : a ++ (32 ∷ (b ++ (32 ∷ (c ++ (32 ∷ (d ++ (10 ∷ []))))))) ≡ line_of (a ∷ b ∷ c ∷ d ∷ []) =
    sym (append_assoc a (32 ∷ (b ++ (32 ∷ (c ++ (32 ∷ (d ++ [])))))) newline ∙ ap (λ xs. a ++ (32 ∷ xs))
    (append_assoc b (32 ∷ (c ++ (32 ∷ (d ++ [])))) newline ∙ ap (λ xs. b ++ (32 ∷ xs))
    (append_assoc c (32 ∷ (d ++ [])) newline ∙ ap (λ xs. c ++ (32 ∷ (xs ++ newline))) (append-nil d)))) in
    e ∙ shape ∙ sym (own-line a (b ∷ c ∷ d ∷ []) p (q, (r, (s, tt)))).same

pub cost_bytes : (c : Cost) (bs : List ℕ) → c.line < 2 ^ 64 → c.begun < 2 ^ 64 → c.ops < 2 ^ 64 → bs ≡ codes "COST" ++ (32 ∷ (decimal c.line ++ (32 ∷ (decimal c.begun ++ (32 ∷ (decimal c.ops ++ (10 ∷ []))))))) → bs ≡ encode_utf8_all (cost_line c)
cost_bytes c bs l b o e =
    four_fields (codes "COST") (decimal c.line) (decimal c.begun) (decimal c.ops) bs e
    (own-test (codes "COST") refl) (own-decimal c.line l) (own-decimal c.begun b) (own-decimal c.ops o)

own_cause : (c : Cause) → IsOwn (cause_words c)
own_cause TooLong = own-test (codes "TOO LONG") refl
own_cause Utf8 = own-test (codes "UTF8") refl
own_cause LineLong = own-test (codes "LINE LONG") refl
own_cause Character = own-test (codes "CHARACTER") refl
own_cause Number = own-test (codes "NUMBER") refl
own_cause OpenText = own-test (codes "OPEN TEXT") refl
own_cause Header = own-test (codes "HEADER") refl
own_cause DoubleName = own-test (codes "DOUBLE NAME") refl
own_cause OpenDefinition = own-test (codes "OPEN DEFINITION") refl
own_cause NameClass = own-test (codes "NAME CLASS") refl
own_cause Deep = own-test (codes "DEEP") refl
own_cause Grammar = own-test (codes "GRAMMAR") refl

pub refusal_bytes : (r : Refusal) (bs : List ℕ) → r.line < 2 ^ 64 → r.column < 2 ^ 64 → bs ≡ codes "REFUSED" ++ (32 ∷ (decimal r.line ++ (32 ∷ (decimal r.column ++ (32 ∷ (cause_words r.cause ++ (10 ∷ []))))))) → bs ≡ encode_utf8_all (refusal_line r)
refusal_bytes r bs l c e =
    four_fields (codes "REFUSED") (decimal r.line) (decimal r.column) (cause_words r.cause) bs e
    (own-test (codes "REFUSED") refl) (own-decimal r.line l) (own-decimal r.column c) (own_cause r.cause)

-- ---- numbers joined by commas

comma : ℤ → List ℕ
comma z = codes "," ++ number_text z

pub number_more : (t t1 t2 t3 : List ℕ) (zs : List ℤ) (i : ℕ) → i < length zs →
    Adds t t1 (flat_map (λ z. codes "," ++ number_text z) (take i zs)) → t2 ≡ t1 ++ encode_utf8 44 → Adds t2 t3 (number_text (get_or zs i (pos 0))) →
    Adds t t3 (flat_map (λ z. codes "," ++ number_text z) (take (i + 1) zs))
number_more t t1 t2 t3 zs i h p q r =
    let f : ℤ → List ℕ = λ z. codes "," ++ number_text z in
    let last : ℤ = get_or zs i (pos 0) in
    let own : Adds t1 t2 (codes ",") = adds-own t1 t2 (codes ",") (q ∙ ap (λ xs. t1 ++ xs) (encode_ascii 44 (omega arith))) (own-test (codes ",") refl) in
    adds-as t t3 (flat_map f (take i zs) ++ (codes "," ++ number_text last)) (flat_map f (take (i + 1) zs))
    (adds-then t t1 t3 (flat_map f (take i zs)) (codes "," ++ number_text last) p (adds-then t1 t2 t3 (codes ",") (number_text last) own r))
    (sym (ap (flat_map f) (take_more zs i (pos 0) h) ∙ flat_map-append f (take i zs) (last ∷ []) ∙ ap (λ xs. flat_map f (take i zs) ++ xs) (append-nil (f last))))

pub numbers_bytes : (t t1 t2 : List ℕ) (z : ℤ) (zs numbers : List ℤ) → numbers ≡ z ∷ zs → Adds t t1 (number_text z) →
    Adds t1 t2 (flat_map (λ z. codes "," ++ number_text z) zs) → Adds t t2 (numbers_field numbers)
numbers_bytes t t1 t2 z zs numbers e p q =
    subst (λ ns. Adds t t2 (numbers_field ns)) (sym e) (adds-then t t1 t2 (number_text z) (flat_map (λ z. codes "," ++ number_text z) zs) p q)

-- ---- the line of a variable

-- one field more, behind a blank
field_more : (t t1 t2 : List ℕ) (field : List ℕ) → t1 ≡ t ++ encode_utf8 32 → Adds t1 t2 field → Adds t t2 (blank ++ field)
field_more t t1 t2 field p q =
    adds-then t t1 t2 blank field (adds-own t t1 blank (p ∙ ap (λ xs. t ++ xs) (encode_ascii 32 (omega arith))) (own-test blank refl)) q

pub view_bytes : (d : DescView) (lengths : List ℤ) (t t1 t2 t3 t4 t5 t6 : List ℕ) → lengths ≡ map pos d.shape → t1 ≡ t ++ encode_utf8 32 → Adds t1 t2 (number_text d.base) →
    t3 ≡ t2 ++ encode_utf8 32 → Adds t3 t4 (numbers_field d.strides) → t5 ≡ t4 ++ encode_utf8 32 → Adds t5 t6 (numbers_field lengths) →
    Adds t t6 (flat_map (λ field. blank ++ field) (view_fields d))
view_bytes d lengths t t1 t2 t3 t4 t5 t6 e a b f g h k =
    let base : List ℕ = blank ++ number_text d.base in
    let strides : List ℕ = blank ++ numbers_field d.strides in
    let shape : List ℕ = blank ++ numbers_field (map pos d.shape) in
    let last : Adds t4 t6 shape = field_more t4 t5 t6 (numbers_field (map pos d.shape)) h (subst (λ zs. Adds t5 t6 (numbers_field zs)) e k) in
    adds-as t t6 (base ++ (strides ++ shape)) (flat_map (λ field. blank ++ field) (view_fields d))
    (adds-then t t2 t6 base (strides ++ shape) (field_more t t1 t2 (number_text d.base) a b)
    (adds-then t2 t4 t6 strides shape (field_more t2 t3 t4 (numbers_field d.strides) f g) last))
    (ap (λ xs. base ++ (strides ++ xs)) (sym (append-nil shape)))

pub desc_bytes : (name : List ℕ) (leaf : Leaf) (named t t1 t2 t3 t4 : List ℕ) → named ≡ encode_utf8_all name → t ≡ codes "DESC " → t1 ≡ t ++ named →
    Adds t1 t2 (flat_map (λ field. blank ++ field) (source_fields leaf)) → Adds t2 t3 (flat_map (λ field. blank ++ field) (view_fields (leaf_desc leaf))) → t4 ≡ t3 ++ encode_utf8 10 →
    t4 ≡ encode_utf8_all (desc_line name leaf)
desc_bytes name leaf named t t1 t2 t3 t4 n a b p q r =
    let f : List ℕ → List ℕ = λ field. blank ++ field in
    let source : List ℕ = flat_map f (source_fields leaf) in
    let view : List ℕ = flat_map f (view_fields (leaf_desc leaf)) in
    let word : List ℕ = codes "DESC " in
    let first : Adds [] t word = adds-own [] t word a (own-test word refl) in
    let second : Adds t t1 name = b ∙ ap (λ xs. t ++ xs) n in
    let last : Adds t3 t4 newline = adds-own t3 t4 newline (r ∙ ap (λ xs. t3 ++ xs) (encode_ascii 10 (omega arith))) (own-test newline refl) in
    let shape : (word ++ name) ++ (source ++ view) ≡ codes "DESC" ++ ((blank ++ name) ++ flat_map f (source_fields leaf ++ view_fields (leaf_desc leaf))) =
    append_assoc word name (source ++ view) ∙ ap (λ xs. word ++ (name ++ xs)) (sym (flat_map-append f (source_fields leaf) (view_fields (leaf_desc leaf)))) in
    adds-as [] t4 (((word ++ name) ++ (source ++ view)) ++ newline) (desc_line name leaf)
    (adds-then [] t3 t4 ((word ++ name) ++ (source ++ view)) newline
    (adds-then [] t1 t3 (word ++ name) (source ++ view) (adds-then [] t t1 word name first second) (adds-then t1 t2 t3 source view p q)) last)
    (ap (λ xs. xs ++ newline) shape)

-- ---- fields

-- blanks, and the text behind them
pub justified_bytes : (width : ℕ) (text : List ℕ) (t t1 t2 : List ℕ) → Adds t t1 (replicate (width - length text) 32) → Adds t1 t2 text → Adds t t2 (right_justified width text)
justified_bytes width text t t1 t2 p q = adds-then t t1 t2 (replicate (width - length text) 32) text p q

pub blanks_are : (n m : ℕ) (t t1 u : List ℕ) → n ≡ m → u ≡ t1 → Adds t t1 (replicate n 32) → Adds t u (replicate m 32)
blanks_are n m t t1 u e same p = same ∙ subst (λ k. Adds t t1 (replicate k 32)) e p

pub no_blanks : (m : ℕ) (t u : List ℕ) → m ≡ 0 → u ≡ t → Adds t u (replicate m 32)
no_blanks m t u e same = same ∙ subst (λ k. Adds t t (replicate k 32)) (sym e) (sym (append-nil t))
