-- Elements of one kind are sought by their cells, and elements of two kinds are not found.
use Rattle.std.proofs.Common.{◌≡◌, ℕ, ◌+◌, Bool, true, false, not, cond, ◌&&◌, ℤ, List, [], ◌∷◌, length, map, replicate, ◌++◌, take, drop, refl, sym, ap, ◌∙◌, arith}
use Rattle.std.specs.List.{position_or_len}
use Rattle.std.specs.Ordering.{int_eq}
use Rattle.apl_base.specs.declared.cells.Kind.{Kind}
use Rattle.apl_base.specs.Array.{Array}
use Rattle.apl_base.specs.Elements.{element}
use Rattle.apl_base.specs.Scalar.{is_same, is_same_kind}
use Rattle.std.proofs.lemmas.List.{length-map}
use Rattle.value_fns.proofs.Mapped.{whole_back}
use Rattle.apl_model.specs.Made.{counted_from}
use Rattle.value_fns.specs.Placed.{first_place}
use Rattle.value_fns.specs.Searches.{first_places}

-- of one kind
same_place : (k l : Kind) (z : ℤ) (cells : List ℤ) → is_same_kind k l ≡ true → position_or_len (is_same (element k z)) (map (element l) cells) ≡ first_place cells z
same_place k l z [] e = refl
same_place k l z (c ∷ cells) e =
    ap (λ (t : Bool). cond (not (t && int_eq z c)) (1 + position_or_len (is_same (element k z)) (map (element l) cells)) 0) e
    ∙ ap (λ (n : ℕ). cond (not (int_eq z c)) (1 + n) 0) (same_place k l z cells e)

-- of two kinds
other_place : (k l : Kind) (z : ℤ) (cells : List ℤ) → is_same_kind k l ≡ false → position_or_len (is_same (element k z)) (map (element l) cells) ≡ length cells
other_place k l z [] e = refl
other_place k l z (c ∷ cells) e =
    ap (λ (t : Bool). cond (not (t && int_eq z c)) (1 + position_or_len (is_same (element k z)) (map (element l) cells)) 0) e
    ∙ ap (λ (n : ℕ). 1 + n) (other_place k l z cells e) ∙ omega arith

same_places : (o : ℤ) (k l : Kind) (wanted cells : List ℤ) → is_same_kind k l ≡ true → map (λ z. counted_from o (first_place cells z)) wanted ≡ map (counted_from o) (map (λ e. position_or_len (is_same e) (map (element l) cells)) (map (element k) wanted))
same_places o k l [] cells e = refl
same_places o k l (z ∷ wanted) cells e =
    let head : counted_from o (first_place cells z) ≡ counted_from o (position_or_len (is_same (element k z)) (map (element l) cells)) = ap (counted_from o) (sym (same_place k l z cells e)) in
    let rest = same_places o k l wanted cells e in
    cc

other_places : (o : ℤ) (k l : Kind) (wanted cells : List ℤ) → is_same_kind k l ≡ false → replicate (length wanted) (counted_from o (length cells)) ≡ map (counted_from o) (map (λ e. position_or_len (is_same e) (map (element l) cells)) (map (element k) wanted))
other_places o k l [] cells e = refl
other_places o k l (z ∷ wanted) cells e =
    let head : counted_from o (length cells) ≡ counted_from o (position_or_len (is_same (element k z)) (map (element l) cells)) = ap (counted_from o) (sym (other_place k l z cells e)) in
    let rest = other_places o k l wanted cells e in
    cc

-- where arrays are of two kinds, no element of one is found in the other
pub none_found : (o : ℤ) (a b : Array) (t : Bool) (m n : ℕ) (none : ℤ) → t ≡ is_same_kind b.kind a.kind → t ≡ false → length a.cells ≡ n → length b.cells ≡ m → none ≡ counted_from o n → replicate m none ≡ map (counted_from o) (first_places a b)
none_found o a b t m n none e f long many is =
    ap (λ (z : ℤ). replicate m z) (is ∙ ap (counted_from o) (sym long)) ∙ ap (λ (k : ℕ). replicate k (counted_from o (length a.cells))) (sym many)
    ∙ other_places o b.kind a.kind b.cells a.cells (sym e ∙ f)

-- the cells that are found in a slice of the cells that were read, as a vector has them afterwards
pub found_all : (o : ℤ) (a b : Array) (t : Bool) (n : ℕ) (cells slice items empty read after : List ℤ) → t ≡ is_same_kind b.kind a.kind → t ≡ true → empty ≡ [] → items ≡ empty ++ read → read ≡ b.cells → slice ≡ items → cells ≡ a.cells → after ≡ map (λ z. counted_from o (first_place cells z)) slice → n ≡ length items → take n (after ++ drop (length after) items) ≡ map (counted_from o) (first_places a b)
found_all o a b t n cells slice items empty read after kinds one none gained is whole among found long =
    let all : items ≡ b.cells = gained ∙ ap (λ (xs : List ℤ). xs ++ read) none ∙ is in
    let many : length after ≡ length slice = ap length found ∙ length-map slice (λ z. counted_from o (first_place cells z)) in
    whole_back n after items (long ∙ sym (ap length whole) ∙ sym many)
    ∙ found
    ∙ ap (map (λ z. counted_from o (first_place cells z))) (whole ∙ all)
    ∙ ap (λ (xs : List ℤ). map (λ z. counted_from o (first_place xs z)) b.cells) among
    ∙ same_places o b.kind a.kind b.cells a.cells (sym kinds ∙ one)
