-- What stands at an index of a line, and where reading goes on.
use Rattle.std.proofs.Common.{◌≡◌, ℕ, zero, suc, ◌+◌, ◌<◌, ◌≤◌, ◌==◌, nat_lt, Bool, true, false, List, [], ◌∷◌, length, drop, get_or, refl, ap, sym, ◌∙◌, arith, Option, Some, None, drop-cons, add-one, add-zero, eq-eqb}
use Rattle.std.specs.Prelude.{nat_le, if◌then◌else◌, IfSome, map, ℤ, pos}
use Rattle.std.proofs.Math.Seq.{drop-length}
use Rattle.std.proofs.lemmas.List.{drop-drop, length-drop}
use Rattle.std.proofs.lemmas.Bool.{eqb-true, leb-true, ltb-true, lt-ltb, le-leb}
use Rattle.apl_base.specs.declared.faults.Cause.TheVariants as cause
use Rattle.apl_model.specs.Characters.{is_blank, code}
use Rattle.apl_model.specs.Tokens.{Beginning, beginning, Piece, text, pieces_after, pieces, tokens, tokens_of_pieces}
use Rattle.apl_base.specs.declared.faults.Refusal.{Refusal}
use Rattle.apl_model.specs.declared.tokens.Token.{Token}
use Rattle.apl_model.specs.declared.tokens.Word.TheVariants as word
use Rattle.apl_model.specs.ReadFaults.{IsRefusedAs, IsInColumn}
use Rattle.apl_model.specs.declared.faults.ReadFault.{ReadFault}
use Rattle.apl_model.specs.declared.faults.ReadFault.TheVariants.{Refused, NoMemory}
use Rattle.std.specs.Option.{option_map}
use Rattle.apl_read.proofs.FirstRefusal.{fault_from}
use Rattle.apl_read.specs.Pieces.{pieces_from, made_before}
use Rattle.apl_read.specs.Refusals.{Fault, first_fault, long_fault, line_fault, refusal_of_fault}
use Rattle.apl_read.specs.declared.made.Made.{Made}

-- the pieces after one that covers n characters more
skip : (n k : ℕ) (cs : List ℕ) → n ≤ length cs → pieces_after n k cs ≡ pieces_after 0 (k + n) (drop n cs)
skip zero k cs h = ap (λ m. pieces_after 0 m cs) (sym (add-zero k))
skip (suc n) k [] h = absurd (omega arith)
skip (suc n) k (c ∷ cs) h =
    let e : k + 1 + n ≡ k + suc n = omega arith in
    skip n (k + 1) cs (omega arith) ∙ ap (λ m. pieces_after 0 m (drop n cs)) e

-- the pieces from a character on, by whether it is a blank, and whether a comment begins there
abbrev standing : Bool → Bool → ℕ → ℕ → List ℕ → List Piece
standing a b k c cs = elim a [
  | true ↦ pieces_after zero (k + 1) cs
  | false ↦ elim b [
    | true ↦ []
    | false ↦ record { from = k; past = k + 1 + (beginning c cs).more; found = (beginning c cs).found } ∷ pieces_after (beginning c cs).more (k + 1) cs
  ]
]

module _ (line : List ℕ) (at : ℕ) (lt : at < length line) where
  cut : drop at line ≡ get_or line at 0 ∷ drop (at + 1) line
  cut = rw (add-one, drop-cons line at 0)

  pub at_blank : is_blank (get_or line at 0) ≡ true → pieces_from at line ≡ pieces_from (at + 1) line
  at_blank h = ap (λ l. pieces_after 0 (at + 1) l) cut ∙ ap (λ b. standing b (get_or line at 0 == code "⍝") (at + 1) (get_or line at 0) (drop (at + 1) line)) h

  pub at_comment : is_blank (get_or line at 0) ≡ false → get_or line at 0 ≡ 9053 → pieces_from at line ≡ pieces_from (length line) line
  at_comment h k = ap (λ l. pieces_after 0 (at + 1) l) cut
      ∙ ap (λ b. standing b (get_or line at 0 == code "⍝") (at + 1) (get_or line at 0) (drop (at + 1) line)) h
      ∙ ap (λ b. standing false b (at + 1) (get_or line at 0) (drop (at + 1) line)) (eq-eqb (get_or line at 0) 9053 k)
      ∙ sym (ap (λ l. pieces_after 0 (length line + 1) l) (drop-length line))

  pub at_piece : is_blank (get_or line at 0) ≡ false → (get_or line at 0 ≡ 9053 → ⊥) → (b : Beginning) → b ≡ beginning (get_or line at 0) (drop (at + 1) line) →
      at + 1 + b.more ≤ length line →
      pieces_from at line ≡ record { from = at + 1; past = at + 1 + b.more + 1; found = b.found } ∷ pieces_from (at + 1 + b.more) line
  at_piece h ne b e within =
      let rest = drop (at + 1) line in
      let c = get_or line at 0 in
      let no_comment : (c == 9053) ≡ false = (elim (c == 9053) as (λ t. (c == 9053) ≡ t → t ≡ false) [ true ↦ λ f. absurd (ne (eqb-true c 9053 f)) | false ↦ λ f. refl ]) refl in
      let l = length-drop (at + 1) line in
      let fits : b.more ≤ length rest = omega arith in
      let past : at + 1 + 1 + b.more ≡ at + 1 + b.more + 1 = omega arith in
      let onward : pieces_after b.more (at + 1 + 1) rest ≡ pieces_from (at + 1 + b.more) line =
      skip b.more (at + 1 + 1) rest fits ∙ ap (λ n. pieces_after 0 n (drop b.more rest)) past ∙ ap (λ v. pieces_after 0 (at + 1 + b.more + 1) v) (drop-drop b.more (at + 1) line) in
      let f = sym e in
      ap (λ v. pieces_after 0 (at + 1) v) cut
      ∙ ap (λ v. standing v (c == code "⍝") (at + 1) c rest) h
      ∙ ap (λ v. standing false v (at + 1) c rest) no_comment
      ∙ (λ i. record { from = at + 1; past = at + 1 + 1 + (f i).more; found = (f i).found } ∷ pieces_after (f i).more (at + 1 + 1) rest)
      ∙ (λ i. record { from = at + 1; past = past i; found = b.found } ∷ onward i)

-- what was read of a line so far, and the rest decides
pub record IsScanned (line : List ℕ) (at : ℕ) (made : Made) : Type 0 where
  pub within : at ≤ length line
  pub fault : first_fault (pieces line) ≡ first_fault (pieces_from at line)
  pub tokens : length line ≤ 1000 → tokens line ≡ made_before made (tokens_of_pieces (pieces_from at line))

none_left : (line : List ℕ) → pieces_from (length line) line ≡ []
none_left line = ap (λ v. pieces_after 0 (length line + 1) v) (drop-length line)

far : (k : ℕ) (o : Option Fault) → 1000 < k → IfSome o (λ f. k ≤ f.column) → long_fault o ≡ record { column = 1001; cause = cause.LineLong }
far k None h s = refl
far k (Some f) h s = elim (nat_le f.column 1000) as (λ b. nat_le f.column 1000 ≡ b → (let x : Fault = if b then f else record { column = 1001; cause = cause.LineLong } in x) ≡ record { column = 1001; cause = cause.LineLong }) [
  | true ↦ λ e. let small = leb-true f.column 1000 e in absurd (omega arith)
  | false ↦ λ e. refl
] refl

pub too_long : (line : List ℕ) (at : ℕ) (made : Made) → IsScanned line at made → 1000 < length line → 1000 ≤ at →
    line_fault line ≡ Some (record { column = 1001; cause = cause.LineLong })
too_long line at made s long h =
    let t : nat_lt 1000 (length line) ≡ true = lt-ltb 1000 (length line) long in
    let e : long_fault (first_fault (pieces line)) ≡ record { column = 1001; cause = cause.LineLong } =
    ap long_fault s.fault ∙ far (at + 1) (first_fault (pieces_from at line)) (omega arith) (fault_from (at + 1) (drop at line)) in
    ap (λ b. if b then Some (long_fault (first_fault (pieces line))) else first_fault (pieces line)) t ∙ ap (λ f. Some f) e

pub no_fault : (line : List ℕ) (made : Made) → IsScanned line (length line) made → length line ≤ 1000 → line_fault line ≡ None
no_fault line made s short =
    let t : nat_lt 1000 (length line) ≡ false = (elim (nat_lt 1000 (length line)) as (λ b. nat_lt 1000 (length line) ≡ b → b ≡ false) [
      | true ↦ λ e. let k = ltb-true 1000 (length line) e in absurd (omega arith)
      | false ↦ λ e. refl
    ]) refl in
    ap (λ b. if b then Some (long_fault (first_fault (pieces line))) else first_fault (pieces line)) t ∙ s.fault ∙ ap first_fault (none_left line)

pub all_tokens : (line : List ℕ) (made : Made) → IsScanned line (length line) made → length line ≤ 1000 → tokens line ≡ made_before made []
all_tokens line made s short = s.tokens short ∙ ap (λ ps. made_before made (tokens_of_pieces ps)) (none_left line)

-- the tokens of a text, and of the pieces after it
abbrev cells_in : List Token → List ℤ
cells_in [] = []
cells_in (t ∷ ts) = elim (t.word) [ word.Chars zs ↦ zs | _ ↦ [] ]

text_alone : (from past : ℕ) (cs : List ℕ) → cells_in (tokens_of_pieces (record { from = from; past = past; found = text cs } ∷ [])) ≡ map pos cs
text_alone from past [] = refl
text_alone from past (c ∷ cs) = ap (λ zs. pos c ∷ zs) (text_alone from past cs)

pub text_token : (from past : ℕ) (cs : List ℕ) (ps : List Piece) →
    tokens_of_pieces (record { from = from; past = past; found = text cs } ∷ ps) ≡ record { from = from; past = past; word = word.Chars (map pos cs) } ∷ tokens_of_pieces ps
text_token from past cs ps = ap (λ zs. record { from = from; past = past; word = word.Chars zs } ∷ tokens_of_pieces ps) (text_alone from past cs)

-- a fault that stands near enough is the line's
pub near_refused : (line : List ℕ) (n column : ℕ) (fault : ReadFault) (o : Option Fault) → first_fault (pieces line) ≡ o → IsRefusedAs fault (option_map (refusal_of_fault n) o) →
    IsInColumn fault column → column ≤ 1000 → IsRefusedAs fault (option_map (refusal_of_fault n) (line_fault line))
near_refused line n column (Refused r) None e h at near = let x : None ≡ Some r = h in absurd (cc)
near_refused line n column (Refused r) (Some f) e h at near =
    let same : refusal_of_fault n f ≡ r = cc in
    let place : f.column ≡ r.column = ap (λ (v : Refusal). v.column) same in
    let small : nat_le f.column 1000 ≡ true = le-leb f.column 1000 (omega arith) in
    let kept : long_fault (Some f) ≡ f = ap (λ b. let x : Fault = if b then f else record { column = 1001; cause = cause.LineLong } in x) small in
    let known : line_fault line ≡ Some f = (ap (λ o. if nat_lt 1000 (length line) then Some (long_fault o) else o) e
    ∙ (elim (nat_lt 1000 (length line)) as (λ b. (if b then Some (long_fault (Some f)) else Some f) ≡ Some f) [ true ↦ ap (λ v. Some v) kept | false ↦ refl ])) in
    ap (option_map (refusal_of_fault n)) known ∙ h
near_refused line n column NoMemory o e h at near = tt
