-- The examples of refusals of bytes and characters.
use Rattle.std.proofs.Common.{◌≡◌, ℕ, zero, suc, ◌+◌, ◌<◌, ◌≤◌, ◌^◌, List, [], ◌∷◌, ◌++◌, length, inl, inr, refl, sym, ap, subst, ◌∙◌, arith, true, codes, map}
use Rattle.std.specs.List.{IsAmong, AllByRecursion}
use Rattle.std.specs.Char.{encode_utf8}
use Rattle.std.specs.Str.{encode_utf8_all, all_scalars, chars, is_utf8}
use Rattle.std.specs.Str.Lossy.{utf8_valid_len}
use lib.Dec.{lit≤, lit<}
use Rattle.apl_base.specs.declared.faults.Cause.{Cause}
use Rattle.apl_base.specs.declared.faults.Cause.TheVariants as cause
use Rattle.apl_base.specs.declared.faults.Refusal.{Refusal}
use Rattle.apl_model.proofs.Accepted.{among_here}
use Rattle.apl_model.proofs.GrammarRows.{line_1, line_2}
use Rattle.apl_model.proofs.Rows.{OnLine, AtFault, lines_in, lines_of_text, whole_text, reading_all, first_in_reading}
use Rattle.apl_model.specs.Examples as example
use Rattle.apl_model.specs.Examples.{blanks}
use Rattle.apl_model.specs.Lines.{lines_of, cut, onto_first, without_mark, without_return, numbered}
use Rattle.apl_model.specs.Refusal.{refusal, IsReadingRefusal, ill_formed, long_line, at_fault, IsRefusal, too_long, rank, phase, order, IsNotAfter, IsFirst}
use Rattle.apl_model.specs.Tokens.{Piece, fault, pieces, pieces_after}
use Rattle.apl_model.specs.declared.tokens.Line.{Line}

-- a text whose first refusal is one of reading
text_row : (cs : List ℕ) (r : Refusal) (ls : List Line) → all_scalars cs ≡ true → length (encode_utf8_all cs) ≤ 2 ^ 20 → lines_in cs ≡ ls → phase r.cause ≡ 1 →
    (lines_of (encode_utf8_all cs) ≡ ls → IsReadingRefusal (encode_utf8_all cs) r) → AllByRecursion (OnLine (λ o. IsNotAfter (order r) (order o))) ls →
    IsFirst (IsRefusal (encode_utf8_all cs)) r
text_row cs r ls h s e p i a =
    let lines : lines_of (encode_utf8_all cs) ≡ ls = lines_of_text cs h ∙ e in
    let whole = whole_text cs h in
    first_in_reading (encode_utf8_all cs) r s p (i lines)
    (reading_all (encode_utf8_all cs) (λ o. IsNotAfter (order r) (order o)) ls lines (λ u. absurd (omega arith)) a)

-- a fault on the last of the lines
fault_in : (bytes : List ℕ) (ls : List Line) (l : Line) (p : Piece) (c : Cause) → IsAmong ls l → IsAmong (pieces l.text) p → p.found ≡ fault c →
    lines_of bytes ≡ ls → IsReadingRefusal bytes (refusal c l.number p.from)
fault_in bytes ls l p c m q f e = at_fault l p c (subst (λ v. IsAmong v l) (sym e) m) q f refl

-- the first refusal is not after itself, nor after a later column or line
abbrev same : (a b c d : ℕ) → IsNotAfter (a ∷ b ∷ c ∷ d ∷ []) (a ∷ b ∷ c ∷ d ∷ [])
same a b c d = inr (refl, inr (refl, inr (refl, inr (refl, tt))))

pub point : example.RefusalOfPoint
unfolding encode_utf8
point = text_row (codes "3.5") (refusal cause.Number 1 1) (line_1 (codes "3.5") ∷ []) refl (lit≤ tt) refl refl
    (fault_in (encode_utf8_all (codes "3.5")) (line_1 (codes "3.5") ∷ []) (line_1 (codes "3.5")) (record { from = 1; past = 4; found = fault cause.Number }) cause.Number
    (0, (lit< tt, refl)) (0, (lit< tt, refl)) refl)
    ((λ h. inr (refl, inr (refl, inl (lit< tt))), (same 1 1 1 4, tt)), tt)

pub open_text : example.RefusalOfOpenText
unfolding encode_utf8
open_text = text_row (codes "'AB") (refusal cause.OpenText 1 1) (line_1 (codes "'AB") ∷ []) refl (lit≤ tt) refl refl
    (fault_in (encode_utf8_all (codes "'AB")) (line_1 (codes "'AB") ∷ []) (line_1 (codes "'AB")) (record { from = 1; past = 4; found = fault cause.OpenText }) cause.OpenText
    (0, (lit< tt, refl)) (0, (lit< tt, refl)) refl)
    ((λ h. inr (refl, inr (refl, inl (lit< tt))), (same 1 1 1 5, tt)), tt)

pub character : example.RefusalOfCharacter
unfolding encode_utf8
character = text_row (codes "2@3") (refusal cause.Character 1 2) (line_1 (codes "2@3") ∷ []) refl (lit≤ tt) refl refl
    (fault_in (encode_utf8_all (codes "2@3")) (line_1 (codes "2@3") ∷ []) (line_1 (codes "2@3")) (record { from = 2; past = 3; found = fault cause.Character }) cause.Character
    (0, (lit< tt, refl)) (1, (lit< tt, refl)) refl)
    ((λ h. inr (refl, inr (refl, inl (lit< tt))), (tt, (same 1 1 2 3, (tt, tt)))), tt)

pub by_phase : example.RefusalByPhase
unfolding encode_utf8
by_phase = text_row (codes "A]" ++ (10 ∷ codes "3.5")) (refusal cause.Number 2 1) (line_1 (codes "A]") ∷ line_2 (codes "3.5") ∷ []) refl (lit≤ tt) refl refl
    (fault_in (encode_utf8_all (codes "A]" ++ (10 ∷ codes "3.5"))) (line_1 (codes "A]") ∷ line_2 (codes "3.5") ∷ []) (line_2 (codes "3.5")) (record { from = 1; past = 4; found = fault cause.Number }) cause.Number
    (1, (lit< tt, refl)) (0, (lit< tt, refl)) refl)
    ((λ h. absurd (let k : 1000 < 2 = h in omega arith), (tt, (tt, tt))), ((λ h. inr (refl, inr (refl, inl (lit< tt))), (same 1 2 1 4, tt)), tt))

length_blanks : (n : ℕ) → length (blanks n) ≡ n
unfolding blanks
length_blanks zero = refl
length_blanks (suc n) = ap suc (length_blanks n)

scalar_blanks : (n : ℕ) → all_scalars (blanks n) ≡ true
unfolding blanks
scalar_blanks zero = refl
scalar_blanks (suc n) = scalar_blanks n

bytes_of_blanks : (n : ℕ) → length (encode_utf8_all (blanks n)) ≡ n
unfolding blanks encode_utf8
bytes_of_blanks zero = refl
bytes_of_blanks (suc n) = ap suc (bytes_of_blanks n)

cut_blanks : (n : ℕ) → cut (blanks (suc n)) ≡ blanks (suc n) ∷ []
unfolding blanks
cut_blanks zero = refl
cut_blanks (suc n) = ap (onto_first 32) (cut_blanks n)

unmarked_blanks : (n : ℕ) → without_mark (blanks n) ≡ blanks n
unfolding blanks
unmarked_blanks zero = refl
unmarked_blanks (suc n) = refl

unreturned_blanks : (n : ℕ) → without_return (blanks n) ≡ blanks n
unfolding blanks
unreturned_blanks zero = refl
unreturned_blanks (suc zero) = refl
unreturned_blanks (suc (suc n)) = ap (λ l. 32 ∷ l) (unreturned_blanks (suc n))

no_pieces : (n k : ℕ) → pieces_after 0 k (blanks n) ≡ []
unfolding blanks
no_pieces zero k = refl
no_pieces (suc n) k = no_pieces n (k + 1)

line_of_blanks : (n : ℕ) → lines_in (blanks (suc n)) ≡ line_1 (blanks (suc n)) ∷ []
line_of_blanks n = ap (λ l. numbered 1 (map without_return (cut l))) (unmarked_blanks (suc n))
    ∙ ap (λ ls. numbered 1 (map without_return ls)) (cut_blanks n)
    ∙ ap (λ l. line_1 l ∷ []) (unreturned_blanks (suc n))

pub long : example.RefusalOfLongLine
long =
    let h : 1000 < length (blanks 1001) = (let e = length_blanks 1001 in omega arith) in
    text_row (blanks 1001) (refusal cause.LineLong 1 1001) (line_1 (blanks 1001) ∷ []) (scalar_blanks 1001)
    (let e = bytes_of_blanks 1001 in omega arith) (line_of_blanks 1000) refl
    (λ e. long_line (line_1 (blanks 1001)) (subst (λ v. IsAmong v (line_1 (blanks 1001))) (sym e) (among_here [] (line_1 (blanks 1001)) (line_1 (blanks 1001)) refl)) h refl)
    ((λ h. same 1 1 1001 2, subst (λ ps. AllByRecursion (AtFault (λ o. IsNotAfter (order (refusal cause.LineLong 1 1001)) (order o)) 1) ps) (sym (no_pieces 1001 1)) tt), tt)

pub of_bytes : example.RefusalOfBytes
unfolding encode_utf8 chars utf8_valid_len is_utf8
of_bytes = first_in_reading (0x32 ∷ 0x2B ∷ 0xFF ∷ []) (refusal cause.Utf8 1 3) (lit≤ tt) refl (ill_formed (lit< tt) refl)
    (reading_all (0x32 ∷ 0x2B ∷ 0xFF ∷ []) (λ o. IsNotAfter (order (refusal cause.Utf8 1 3)) (order o)) (line_1 (codes "2+") ∷ []) refl
    (λ u. same 1 1 3 1) ((λ h. inr (refl, inr (refl, inl (lit< tt))), (tt, (tt, tt))), tt))

zero_first : (a b c d : ℕ) → IsNotAfter (0 ∷ 0 ∷ 0 ∷ 0 ∷ []) (a ∷ b ∷ c ∷ d ∷ [])
zero_first (suc a) b c d = inl (omega arith)
zero_first zero (suc b) c d = inr (refl, inl (omega arith))
zero_first zero zero (suc c) d = inr (refl, inr (refl, inl (omega arith)))
zero_first zero zero zero (suc d) = inr (refl, inr (refl, inr (refl, inl (omega arith))))
zero_first zero zero zero zero = same 0 0 0 0

pub of_length : example.RefusalOfLength
of_length = record {
  refuses = too_long (let e = length_blanks 1048577 in omega arith) refl;
  first = λ o x. zero_first (phase o.cause) o.line o.column (rank o.cause);
}
