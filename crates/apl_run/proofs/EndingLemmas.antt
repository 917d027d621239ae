-- Lines that are written piece by piece.
use Rattle.std.proofs.Common.{◌≡◌, ℕ, ◌<◌, ◌≤◌, List, [], ◌∷◌, ◌++◌, take, drop, length, flat_map, Option, Result, Ok, Err, OnOk, OnErr, refl, sym, ap, ◌∙◌, subst, append-nil, append_assoc, arith, inl, inr, suc, ◌+◌, zero, slice_index_or, codes, decimal, Some, IfSome, IsSome, encode_utf8_all}
use Rattle.std.proofs.lemmas.List.{take-append-drop}
use Rattle.std.proofs.lemmas.Grind.{flat_map-append}
use Rattle.apl_outside.specs.Bytes.{Gains, GainsPart}
use Rattle.apl_print.specs.Bytes.{GainsPrefix}
use Rattle.script_run.proofs.SceneLemmas.{front-behind, front-of-more, gains-nothing}
use Rattle.apl_words.specs.Workload.{workload_text}
use Rattle.apl_run.specs.Answers.{script_bytes}
use Rattle.apl_run.specs.Statuses.{full_line, line_end}
use Rattle.apl_run.specs.Traces.{GainsLast, IsFront}

-- a part is a front
pub part-front : (a b : Option (List ℕ)) (xs : List ℕ) → GainsPart a b xs → GainsPrefix a b xs
part-front a b xs p = record { front = take p.count xs; rest = drop p.count xs; whole = take-append-drop p.count xs; gained = p.gained }

-- what an error tells
pub on-err : {A E : Type 0} (P Q : Type 0) (r : Result A E) → (P → Q) → OnErr r P → OnErr r Q
on-err P Q (Ok a) next h = tt
on-err P Q (Err e) next h = next h

-- a line, as it went out or not
pub last-gained : {A E : Type 0} (r : Result A E) (line : List ℕ) (rose : Type 0) (a b : Option (List ℕ))
    → OnOk r (Gains a b line) → OnErr r (GainsPrefix a b line) → OnErr r rose → GainsLast line rose a b
last-gained (Ok x) line rose a b ok err up = record { last = line; at_last = inl refl; gained = ok }
last-gained (Err e) line rose a b ok err up =
    record { last = err.front; at_last = inr (up, record { rest = err.rest; is = err.whole }); gained = err.gained }

-- no line
pub none-gained : (rose : Type 0) (a : Option (List ℕ)) → GainsLast [] rose a a
none-gained rose a = record { last = []; at_last = inl refl; gained = gains-nothing a }

-- ---- one line for each of some names

-- the lines of the first names, and of one more
pub lines-more : {A : Type 0} (f : A → List ℕ) (xs : List A) (k : ℕ) (x : A) → k < length xs → x ≡ slice_index_or xs k x → flat_map f (take (suc k) xs) ≡ flat_map f (take k xs) ++ f x
lines-more f [] k x h e = absurd (omega (arith, h))
lines-more f (y ∷ ys) zero x h e = append-nil (f y) ∙ ap f (sym e)
lines-more f (y ∷ ys) (suc k) x h e =
    ap (λ zs. f y ++ zs) (lines-more f ys k x (omega (arith, h)) e) ∙ sym (append_assoc (f y) (flat_map f (take k ys)) (f x))

-- and of the others
pub lines-all : {A : Type 0} (f : A → List ℕ) (xs : List A) (k : ℕ) → flat_map f xs ≡ flat_map f (take k xs) ++ flat_map f (drop k xs)
lines-all f xs k = ap (λ ys. flat_map f ys) (sym (take-append-drop k xs)) ∙ flat_map-append f (take k xs) (drop k xs)

-- the front of one line more is a front of all lines
pub lines-front : {A : Type 0} (f : A → List ℕ) (xs : List A) (k : ℕ) (x : A) (a b c : Option (List ℕ)) → k < length xs → x ≡ slice_index_or xs k x
    → Gains a b (flat_map f (take k xs)) → GainsPrefix b c (f x) → GainsPrefix a c (flat_map f xs)
lines-front f xs k x a b c h e g p =
    subst (λ (ys : List ℕ). GainsPrefix a c ys) (sym (lines-all f xs (suc k) ∙ ap (λ ys. ys ++ flat_map f (drop (suc k) xs)) (lines-more f xs k x h e)))
    (front-of-more a c (flat_map f (take k xs) ++ f x) (flat_map f (drop (suc k) xs)) (front-behind a b c (flat_map f (take k xs)) (f x) g p))

-- ---- pieces of a line

-- the first of two texts was not written whole
pub one-err : (a b : Option (List ℕ)) (xs first second : List ℕ) → xs ≡ first → GainsPart a b xs → GainsPrefix a b (first ++ second)
one-err a b xs first second e p = front-of-more a b first second (subst (λ (zs : List ℕ). GainsPrefix a b zs) e (part-front a b xs p))

-- or the second one
pub two-err : {A E : Type 0} (a b c : Option (List ℕ)) (xs ys first second : List ℕ) → xs ≡ first → ys ≡ second → Gains a b xs → (r : Result A E) → OnErr r (GainsPart b c ys)
    → OnErr r (GainsPrefix a c (first ++ second))
two-err a b c xs ys first second e f g r h =
    on-err (GainsPart b c ys) (GainsPrefix a c (first ++ second)) r
    (λ p. front-behind a b c first second (subst (λ (zs : List ℕ). Gains a b zs) e g) (subst (λ (zs : List ℕ). GainsPrefix b c zs) f (part-front b c ys p))) h

-- the line of a text that was lent
pub lent-line : {A E : Type 0} (r : Result A E) (bytes line : List ℕ) (rose : Type 0) (a b : Option (List ℕ)) → bytes ≡ line
    → OnOk r (Gains a b bytes) → OnErr r (GainsPart a b bytes) → OnErr r rose → GainsLast line rose a b
lent-line r bytes line rose a b e ok err up =
    subst (λ (zs : List ℕ). GainsLast zs rose a b) e (last-gained r bytes rose a b ok (on-err (GainsPart a b bytes) (GainsPrefix a b bytes) r (part-front a b bytes) err) up)

-- the line of a store without room
pub asked-err : (a b : Option (List ℕ)) (text : List ℕ) (asked : ℕ) → text ≡ decimal asked → GainsPrefix a b (codes " " ++ text) → GainsPrefix a b (line_end asked)
asked-err a b text asked e p = front-of-more a b (codes " " ++ decimal asked) (codes "\n") (subst (λ (zs : List ℕ). GainsPrefix a b (codes " " ++ zs)) e p)

pub live-err : (a b : Option (List ℕ)) (text : List ℕ) (live asked : ℕ) → text ≡ decimal live → GainsPrefix a b (codes "WS FULL " ++ text) → GainsPrefix a b (full_line live asked)
live-err a b text live asked e p = front-of-more a b (codes "WS FULL " ++ decimal live) (line_end asked) (subst (λ (zs : List ℕ). GainsPrefix a b (codes "WS FULL " ++ zs)) e p)

pub full-err : {A E : Type 0} (a b c : Option (List ℕ)) (text : List ℕ) (live asked : ℕ) → text ≡ decimal live → Gains a b (codes "WS FULL " ++ text)
    → (r : Result A E) → OnErr r (GainsPrefix b c (line_end asked)) → OnErr r (GainsPrefix a c (full_line live asked))
full-err a b c text live asked e g r h =
    on-err (GainsPrefix b c (line_end asked)) (GainsPrefix a c (full_line live asked)) r
    (front-behind a b c (codes "WS FULL " ++ decimal live) (line_end asked) (subst (λ (zs : List ℕ). Gains a b (codes "WS FULL " ++ zs)) e g)) h

-- ---- the bytes of a workload

pub workload-told : (number : Option ℕ) (k : ℕ) (left : Option (List ℕ)) (bytes : List ℕ) → number ≡ Some k → bytes ≡ encode_utf8_all (workload_text k) → IfSome (script_bytes number left) (λ told. bytes ≡ told)
workload-told number k left bytes e f = subst (λ (n : Option ℕ). IfSome (script_bytes n left) (λ told. bytes ≡ told)) (sym e) f

-- the lines of a list by another name
pub lines-as : {A : Type 0} (f : A → List ℕ) (xs ys : List A) (a b : Option (List ℕ)) → xs ≡ ys → GainsPrefix a b (flat_map f xs) → GainsPrefix a b (flat_map f ys)
lines-as f xs ys a b e p = subst (λ zs. GainsPrefix a b (flat_map f zs)) e p
