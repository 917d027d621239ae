-- The first refusal of a script's bytes and characters, as it is computed, is the first of all that there are.
use Rattle.std.proofs.Common.{◌≡◌, ℕ, zero, suc, ◌+◌, ◌<◌, ◌≤◌, ◌==◌, nat_lt, true, false, Bool, List, [], ◌∷◌, length, take, Option, None, Some, ◌⊎◌, inl, inr, refl, sym, ap, subst, ◌∙◌, arith}
use Rattle.std.specs.Prelude.{nat_le, if◌then◌else◌, map, IfSome}
use Rattle.std.specs.List.{IsAmong, prefix_len}
use Rattle.std.specs.Option.{option_or, option_map, unwrap_or}
use Rattle.std.specs.Str.Lossy.{utf8_valid_len}
use Rattle.std.proofs.lemmas.Bool.{ltb-true, ltb-false, leb-true, leb-false}
use Rattle.std.proofs.lemmas.Str.{utf8_valid_len_le}
use Rattle.apl_base.specs.declared.faults.Cause.{Cause}
use Rattle.apl_base.specs.declared.faults.Cause.TheVariants as cause
use Rattle.apl_base.specs.declared.faults.Refusal.{Refusal}
use Rattle.apl_model.proofs.Accepted.{among_here, among_there, among_cases, among_none, numbered_tokens, all_sound}
use Rattle.apl_model.specs.Characters.{is_letter, begins_number, code, is_glyph, read_as, is_number_part, number_of, is_blank}
use Rattle.apl_model.specs.Lines.{readable, without_mark, cut, onto_first, without_return, texts_of, numbered, lines_of}
use Rattle.apl_model.specs.Refusal.{refusal, place_after, place_of_end, IsReadingRefusal, ill_formed, long_line, at_fault, rank, phase, order, IsNotAfter, IsFirstIfAny}
use Rattle.apl_model.specs.Tokens.{Found, number, text, name, glyph, fault, Beginning, quoted, name_at, number_at, text_at, beginning, Piece, pieces_after, pieces, tokens, IsRead}
use Rattle.apl_model.specs.declared.tokens.Line.{Line}
use Rattle.apl_read.specs.Refusals.{Fault, first_fault, long_fault, line_fault, refusal_of_fault, lines_refusal, bytes_refusal, reading_refusal}

-- ---- The pieces of a line stand in order ----

-- a fault of a piece has one of three causes
abbrev IsPlain : Found → Type 0
IsPlain (fault c) = (phase c ≡ 1) × (2 < rank c)
IsPlain (number z) = Unit {0}
IsPlain (text cs) = Unit {0}
IsPlain (name n) = Unit {0}
IsPlain (glyph g) = Unit {0}

abbrev Ordered : ℕ → ℕ → List Piece → Type 0
Ordered k e [] = Unit {0}
Ordered k e (p ∷ ps) = (k ≤ p.from) × (p.from < e) × IsPlain p.found × Ordered (p.from + 1) e ps

either : (b : Bool) (x y : Beginning) → IsPlain x.found → IsPlain y.found → IsPlain (if b then x else y).found
either true x y h k = h
either false x y h k = k

plain_number : (w : List ℕ) → IsPlain (unwrap_or (option_map number (number_of w)) (fault cause.Number))
plain_number w = elim (number_of w) as (λ o. IsPlain (unwrap_or (option_map number o) (fault cause.Number))) [
  | None ↦ (refl, omega arith)
  | Some z ↦ tt
]

plain_text : (cs : List ℕ) → IsPlain (text_at cs).found
plain_text cs = elim (quoted cs) as (λ o. IsPlain (let b : Beginning = elim o [
  | None ↦ record { found = fault cause.OpenText; more = length cs }
  | Some q ↦ record { found = text q.characters; more = q.covers }
] in b).found) [ None ↦ (refl, omega arith) | Some q ↦ tt ]

plain_beginning : (c : ℕ) (cs : List ℕ) → IsPlain (beginning c cs).found
plain_beginning c cs =
    let none : Beginning = record { found = fault cause.Character; more = 0 } in
    let g : Beginning = if is_glyph (read_as c) then record { found = glyph (read_as c); more = 0 } else none in
    let t : Beginning = if c == code "'" then text_at cs else g in
    let n : Beginning = if begins_number c then number_at c cs else t in
    either (is_letter c) (name_at c cs) n tt
    (either (begins_number c) (number_at c cs) t (plain_number (c ∷ take (prefix_len is_number_part cs) cs))
    (either (c == code "'") (text_at cs) g (plain_text cs)
    (either (is_glyph (read_as c)) (record { found = glyph (read_as c); more = 0 }) none tt (refl, omega arith))))

later : (k e : ℕ) (ps : List Piece) → Ordered (k + 1) e ps → Ordered k e ps
later k e [] h = tt
later k e (p ∷ ps) h = (let a = h.0 in omega arith, h.1, h.2, h.3)

pub ordered : (n k e : ℕ) (cs : List ℕ) → k + length cs ≤ e → Ordered k e (pieces_after n k cs)
ordered n k e [] h = tt
ordered (suc n) k e (c ∷ cs) h = later k e (pieces_after n (k + 1) cs) (ordered n (k + 1) e cs (omega arith))
ordered zero k e (c ∷ cs) h =
    let b = beginning c cs in
    let more : Ordered (k + 1) e (pieces_after b.more (k + 1) cs) = ordered b.more (k + 1) e cs (omega arith) in
    elim (is_blank c) as (λ t. Ordered k e (elim t [
      | true ↦ pieces_after zero (k + 1) cs
      | false ↦ elim (c == code "⍝") [
        | true ↦ []
        | false ↦ record { from = k; past = k + 1 + b.more; found = b.found } ∷ pieces_after b.more (k + 1) cs
      ]
    ])) [
      | true ↦ later k e (pieces_after zero (k + 1) cs) (ordered zero (k + 1) e cs (omega arith))
      | false ↦ elim (c == code "⍝") as (λ t. Ordered k e (elim t [
        | true ↦ []
        | false ↦ record { from = k; past = k + 1 + b.more; found = b.found } ∷ pieces_after b.more (k + 1) cs
      ])) [
        | true ↦ tt
        | false ↦ (omega arith, omega arith, plain_beginning c cs, more)
      ]
    ]

-- where a piece stands
record Stands (k e : ℕ) (p : Piece) : Type 0 where
  least : k ≤ p.from
  most : p.from < e
  plain : IsPlain p.found

stands : (k e : ℕ) (ps : List Piece) (p : Piece) → Ordered k e ps → IsAmong ps p → Stands k e p
stands k e [] p h m = absurd (among_none p m)
stands k e (q ∷ ps) p h m = elim (among_cases ps q p m) [
  | inl same ↦ subst (λ v. Stands k e v) (sym same) (record { least = h.0; most = h.1; plain = h.2 })
  | inr there ↦ let s = stands (q.from + 1) e ps p h.3 there in
      let a = s.least in let b = h.0 in record { least = omega arith; most = s.most; plain = s.plain }
]

-- ---- The first fault among pieces ----

record Faulty (ps : List Piece) (f : Fault) : Type 0 where
  piece : Piece
  among : IsAmong ps piece
  found : piece.found ≡ fault f.cause
  at : f.column ≡ piece.from

-- not after, on one line
abbrev Before : Fault → Fault → Type 0
Before f g = IsNotAfter (f.column ∷ rank f.cause ∷ []) (g.column ∷ rank g.cause ∷ [])

record IsKnown (k e : ℕ) (f : Fault) : Type 0 where
  least : k ≤ f.column
  most : f.column < e
  phase : phase f.cause ≡ 1
  rank : 2 < rank f.cause

faulty_known : (k e : ℕ) (ps : List Piece) (f : Fault) → Ordered k e ps → Faulty ps f → IsKnown k e f
faulty_known k e ps f o h =
    let s = stands k e ps h.piece o h.among in
    let a = s.least in let b = s.most in let c = h.at in
    let q : IsPlain (fault f.cause) = subst IsPlain h.found s.plain in
    record { least = omega arith; most = omega arith; phase = q.0; rank = q.1 }

abbrev IsFirstFault : List Piece → Option Fault → Type 0
IsFirstFault ps None = (f : Fault) → Faulty ps f → ⊥
IsFirstFault ps (Some f) = Faulty ps f × ((g : Fault) → Faulty ps g → Before f g)

add_sound : (p : Piece) (ps : List Piece) (o : Option Fault) → ((c : Cause) → p.found ≡ fault c → ⊥) → IsFirstFault ps o → IsFirstFault (p ∷ ps) o
add_sound p ps None ne h = λ f g. elim (among_cases ps p g.piece g.among) [
  | inl same ↦ ne f.cause (ap (λ (v : Piece). v.found) (sym same) ∙ g.found)
  | inr there ↦ h f (record { piece = g.piece; among = there; found = g.found; at = g.at })
]
add_sound p ps (Some f) ne h = (
  record { piece = h.0.piece; among = among_there ps p h.0.piece h.0.among; found = h.0.found; at = h.0.at },
  λ g m. elim (among_cases ps p m.piece m.among) [
    | inl same ↦ absurd (ne g.cause (ap (λ (v : Piece). v.found) (sym same) ∙ m.found))
    | inr there ↦ h.1 g (record { piece = m.piece; among = there; found = m.found; at = m.at })
  ],
)

abbrev cause_of : Found → Cause
cause_of (fault c) = c
cause_of (number z) = cause.Number
cause_of (text cs) = cause.Number
cause_of (name n) = cause.Number
cause_of (glyph g) = cause.Number

first_fault_is : (k e : ℕ) (ps : List Piece) → Ordered k e ps → IsFirstFault ps (first_fault ps)
first_fault_is k e [] o = λ f h. among_none h.piece h.among
first_fault_is k e (p ∷ ps) o = go (first_fault_is (p.from + 1) e ps o.3) p.found refl
  where
    go : IsFirstFault ps (first_fault ps) → (x : Found) → p.found ≡ x → IsFirstFault (p ∷ ps) (elim x [
      | fault c ↦ Some (record { column = p.from; cause = c })
      | _ ↦ first_fault ps
    ])
    go rest (fault c) same = (
      record { piece = p; among = among_here ps p p refl; found = same; at = refl },
      λ g m. elim (among_cases ps p m.piece m.among) [
        | inl here ↦
            let at : p.from ≡ g.column = ap (λ (v : Piece). v.from) (sym here) ∙ sym m.at in
            let cs : fault c ≡ fault g.cause = sym same ∙ ap (λ (v : Piece). v.found) (sym here) ∙ m.found in
            inr (at, inr (ap (λ x. rank (cause_of x)) cs, tt))
        | inr there ↦ let s = (stands (p.from + 1) e ps m.piece o.3 there).least in let a = m.at in inl (omega arith)
      ],
    )
    go rest (number z) same = add_sound p ps (first_fault ps) (λ c h. let x : number z ≡ fault c = sym same ∙ h in cc) rest
    go rest (text cs) same = add_sound p ps (first_fault ps) (λ c h. let x : text cs ≡ fault c = sym same ∙ h in cc) rest
    go rest (name n) same = add_sound p ps (first_fault ps) (λ c h. let x : name n ≡ fault c = sym same ∙ h in cc) rest
    go rest (glyph g) same = add_sound p ps (first_fault ps) (λ c h. let x : glyph g ≡ fault c = sym same ∙ h in cc) rest

-- no fault stands before where the pieces begin
known_least : (k e : ℕ) (ps : List Piece) (o : Option Fault) → Ordered k e ps → IsFirstFault ps o → IfSome o (λ f. k ≤ f.column)
known_least k e ps None o h = tt
known_least k e ps (Some f) o h = (faulty_known k e ps f o h.0).least

pub fault_from : (k : ℕ) (cs : List ℕ) → IfSome (first_fault (pieces_after 0 k cs)) (λ f. k ≤ f.column)
fault_from k cs =
    let o = ordered 0 k (k + length cs) cs (omega arith) in
    let ps = pieces_after 0 k cs in
    known_least k (k + length cs) ps (first_fault ps) o (first_fault_is k (k + length cs) ps o)

-- ---- The first fault of a line ----

abbrev long : Fault
long = record { column = 1001; cause = cause.LineLong }

data Fails (line : List ℕ) (f : Fault) : Type 0 where
  too_long : 1000 < length line → f ≡ long → Fails line f
  faulty : Faulty (pieces line) f → Fails line f

line_ordered : (line : List ℕ) → Ordered 1 (1 + length line) (pieces line)
line_ordered line = ordered 0 1 (1 + length line) line (omega arith)

-- what is known of a line's fault
record InLine (line : List ℕ) (f : Fault) : Type 0 where
  most : f.column ≤ length line
  phase : phase f.cause ≡ 1

fails_known : (line : List ℕ) (f : Fault) → Fails line f → InLine line f
fails_known line f (too_long h e) = subst (λ v. InLine line v) (sym e) (record { most = omega arith; phase = refl })
fails_known line f (faulty h) = let s = faulty_known 1 (1 + length line) (pieces line) f (line_ordered line) h in
    let a = s.most in record { most = omega arith; phase = s.phase }

abbrev IsFirstIn : List ℕ → Option Fault → Type 0
IsFirstIn line None = (f : Fault) → Fails line f → ⊥
IsFirstIn line (Some f) = Fails line f × ((g : Fault) → Fails line g → Before f g)

before_itself : (f g : Fault) → f ≡ g → Before f g
before_itself f g e = inr (ap (λ (v : Fault). v.column) e, inr (ap (λ (v : Fault). rank v.cause) e, tt))

-- what comes before a column before 1,001 and what not
long_before : (line : List ℕ) (g : Fault) → 1000 < g.column → Fails line g → Before long g
long_before line g h (too_long l e) = before_itself long g (sym e)
long_before line g h (faulty m) =
    let s = (faulty_known 1 (1 + length line) (pieces line) g (line_ordered line) m).rank in
    elim (nat_lt 1001 g.column) as (λ b. nat_lt 1001 g.column ≡ b → Before long g) [
      | true ↦ λ e. inl (ltb-true 1001 g.column e)
      | false ↦ λ e. let k = ltb-false 1001 g.column e in let same : 1001 ≡ g.column = omega arith in inr (same, inl s)
    ] refl

of_long : (line : List ℕ) → 1000 < length line → (o : Option Fault) → IsFirstFault (pieces line) o → IsFirstIn line (Some (long_fault o))
of_long line l None h = (
  too_long l refl,
  λ g k. elim k [
    | too_long l2 e ↦ before_itself long g (sym e)
    | faulty m ↦ absurd (h g m)
  ],
)
of_long line l (Some f) h = elim (nat_le f.column 1000) as (λ b. nat_le f.column 1000 ≡ b → IsFirstIn line (Some (let x : Fault = if b then f else long in x))) [
  | true ↦ λ e. let small = leb-true f.column 1000 e in (
    faulty h.0,
    λ g k. elim k [
      | too_long l2 e2 ↦ subst (λ v. Before f v) (sym e2) (inl (omega arith))
      | faulty m ↦ h.1 g m
    ],
  )
  | false ↦ λ e. let great = leb-false f.column 1000 e in (
    too_long l refl,
    λ g k. elim k [
      | too_long l2 e2 ↦ before_itself long g (sym e2)
      | faulty m ↦ long_before line g (elim (h.1 g m) [ inl lt ↦ omega arith | inr same ↦ let a = same.0 in omega arith ]) (faulty m)
    ],
  )
] refl

of_short : (line : List ℕ) → length line ≤ 1000 → (o : Option Fault) → IsFirstFault (pieces line) o → IsFirstIn line o
of_short line l None h = λ f k. elim k [ too_long l2 e ↦ omega arith | faulty m ↦ h f m ]
of_short line l (Some f) h = (faulty h.0, λ g k. elim k [ too_long l2 e ↦ absurd (omega arith) | faulty m ↦ h.1 g m ])

line_fault_is : (line : List ℕ) → IsFirstIn line (line_fault line)
line_fault_is line =
    let o = first_fault (pieces line) in
    let h : IsFirstFault (pieces line) o = first_fault_is 1 (1 + length line) (pieces line) (line_ordered line) in
    elim (nat_lt 1000 (length line)) as (λ b. nat_lt 1000 (length line) ≡ b → IsFirstIn line (if b then Some (long_fault o) else o)) [
      | true ↦ λ e. of_long line (ltb-true 1000 (length line) e) o h
      | false ↦ λ e. of_short line (ltb-false 1000 (length line) e) o h
    ] refl

-- ---- The first refusal of lines ----

record InLines (n : ℕ) (ts : List (List ℕ)) (r : Refusal) : Type 0 where
  line : Line
  fault : Fault
  among : IsAmong (numbered n ts) line
  fails : Fails line.text fault
  same : r ≡ refusal_of_fault line.number fault

least_number : (n : ℕ) (ts : List (List ℕ)) (l : Line) → IsAmong (numbered n ts) l → n ≤ l.number
least_number n [] l m = absurd (among_none l m)
least_number n (t ∷ ts) l m = elim (among_cases (numbered (n + 1) ts) (record { number = n; text = t; tokens = tokens t }) l m) [
  | inl same ↦ let e = ap (λ (v : Line). v.number) same in omega arith
  | inr there ↦ let h = least_number (n + 1) ts l there in omega arith
]

abbrev IsFirstOf : ℕ → List (List ℕ) → Option Refusal → Type 0
IsFirstOf n ts None = (r : Refusal) → InLines n ts r → ⊥
IsFirstOf n ts (Some r) = InLines n ts r × ((s : Refusal) → InLines n ts s → IsNotAfter (order r) (order s))

not_after : (n : ℕ) (f g : Fault) → phase f.cause ≡ 1 → phase g.cause ≡ 1 → Before f g → IsNotAfter (order (refusal_of_fault n f)) (order (refusal_of_fault n g))
not_after n f g p q b = inr (p ∙ sym q, inr (refl, b))

in_later_line : (n m : ℕ) (f g : Fault) → phase f.cause ≡ 1 → phase g.cause ≡ 1 → n < m → IsNotAfter (order (refusal_of_fault n f)) (order (refusal_of_fault m g))
in_later_line n m f g p q b = inr (p ∙ sym q, inl b)

-- a line before others
module _ (n : ℕ) (t : List ℕ) (ts : List (List ℕ)) where
  abbrev top : Line
  top = record { number = n; text = t; tokens = tokens t }

  more_in : (r : Refusal) → InLines (n + 1) ts r → InLines n (t ∷ ts) r
  more_in r h = record { line = h.line; fault = h.fault; among = among_there (numbered (n + 1) ts) top h.line h.among; fails = h.fails; same = h.same }

  here_or : (r : Refusal) → InLines n (t ∷ ts) r → ((f : Fault) × Fails t f × (r ≡ refusal_of_fault n f)) ⊎ InLines (n + 1) ts r
  here_or r h = elim (among_cases (numbered (n + 1) ts) top h.line h.among) [
    | inl same ↦ inl (h.fault, subst (λ (v : Line). Fails v.text h.fault) same h.fails, h.same ∙ ap (λ (v : Line). refusal_of_fault v.number h.fault) same)
    | inr there ↦ inr (record { line = h.line; fault = h.fault; among = there; fails = h.fails; same = h.same })
  ]

  without : (o : Option Refusal) → ((f : Fault) → Fails t f → ⊥) → IsFirstOf (n + 1) ts o → IsFirstOf n (t ∷ ts) o
  without None none h = λ r k. elim (here_or r k) [ inl (f, fails, e) ↦ none f fails | inr there ↦ h r there ]
  without (Some r) none h = (more_in r h.0, λ s k. elim (here_or s k) [ inl (f, fails, e) ↦ absurd (none f fails) | inr there ↦ h.1 s there ])

  with_fault : (f : Fault) → Fails t f → ((g : Fault) → Fails t g → Before f g) → IsFirstOf n (t ∷ ts) (Some (refusal_of_fault n f))
  with_fault f fails first =
      let p = (fails_known t f fails).phase in (
        record { line = top; fault = f; among = among_here (numbered (n + 1) ts) top top refl; fails = fails; same = refl },
        λ s k. elim (here_or s k) [
          | inl (g, fg, e) ↦ subst (λ v. IsNotAfter (order (refusal_of_fault n f)) (order v)) (sym e) (not_after n f g p (fails_known t g fg).phase (first g fg))
          | inr there ↦ let b = least_number (n + 1) ts there.line there.among in
              subst (λ v. IsNotAfter (order (refusal_of_fault n f)) (order v)) (sym there.same)
              (in_later_line n there.line.number f there.fault p (fails_known there.line.text there.fault there.fails).phase (omega arith))
        ],
      )

  first_of_more : (o : Option Fault) (q : Option Refusal) → IsFirstIn t o → IsFirstOf (n + 1) ts q → IsFirstOf n (t ∷ ts) (option_or (option_map (refusal_of_fault n) o) q)
  first_of_more None q h k = without q h k
  first_of_more (Some f) q h k = with_fault f h.0 h.1

lines_first : (n : ℕ) (ts : List (List ℕ)) → IsFirstOf n ts (lines_refusal n ts)
lines_first n [] = λ r h. among_none h.line h.among
lines_first n (t ∷ ts) = first_of_more n t ts (line_fault t) (lines_refusal (n + 1) ts) (line_fault_is t) (lines_first (n + 1) ts)

-- ---- What can't be read stands behind all that can ----

abbrev Bound : ℕ → ℕ → ℕ × ℕ → Type 0
Bound n l P = (n < P.0) ⊎ ((n ≡ P.0) × (l < P.1))

shorter_bound : (n a b : ℕ) (P : ℕ × ℕ) → b ≤ a → Bound n a P → Bound n b P
shorter_bound n a b P h (inl lt) = inl lt
shorter_bound n a b P h (inr k) = let x = k.1 in inr (k.0, omega arith)

abbrev Rest : ℕ → List (List ℕ) → ℕ × ℕ → Type 0
Rest n [] P = Unit {0}
Rest n (t ∷ ts) P = Bound n (length t) P × Rest (n + 1) ts P

-- the first line has k characters more before these
abbrev Within : ℕ → ℕ → List (List ℕ) → ℕ × ℕ → Type 0
Within n k [] P = Bound n k P
Within n k (t ∷ ts) P = Bound n (length t + k) P × Rest (n + 1) ts P

rest_from : (n : ℕ) (ts : List (List ℕ)) (P : ℕ × ℕ) → Within n 0 ts P → Rest n ts P
rest_from n [] P h = tt
rest_from n (t ∷ ts) P h = (shorter_bound n (length t + 0) (length t) P (omega arith) h.0, h.1)

above : (line column : ℕ) (cs : List ℕ) → line ≤ (place_after line column cs).0
above line column [] = omega arith
above line column (c ∷ cs) = elim (c == 10) as (λ b. line ≤ (place_after (if b then line + 1 else line) (if b then 1 else column + 1) cs).0) [
  | true ↦ let h = above (line + 1) 1 cs in omega arith
  | false ↦ above line (column + 1) cs
]

onto : (c n k : ℕ) (ls : List (List ℕ)) (P : ℕ × ℕ) → Within n (k + 1) ls P → Within n k (onto_first c ls) P
onto c n k [] P h = (shorter_bound n (k + 1) (length (c ∷ []) + k) P (omega arith) h, tt)
onto c n k (l ∷ ls) P h = (shorter_bound n (length l + (k + 1)) (length (c ∷ l) + k) P (omega arith) h.0, h.1)

in_place : (n k : ℕ) (cs : List ℕ) → Within n k (cut cs) (place_after n (k + 1) cs)
in_place n k [] = inr (refl, omega arith)
in_place n k (c ∷ cs) = elim (c == 10) as (λ b. Within n k (if b then [] ∷ cut cs else onto_first c (cut cs)) (place_after (if b then n + 1 else n) (if b then 1 else k + 1 + 1) cs)) [
  | true ↦ let P = place_after (n + 1) 1 cs in let a = above (n + 1) 1 cs in (inl (omega arith), rest_from (n + 1) (cut cs) P (in_place (n + 1) 0 cs))
  | false ↦ onto c n k (cut cs) (place_after n (k + 1 + 1) cs) (in_place n (k + 1) cs)
]

no_longer : (t : List ℕ) → length (without_return t) ≤ length t
no_longer [] = omega arith
no_longer (c ∷ []) = elim (c == 13) as (λ b. length (if b then [] else (c ∷ [])) ≤ length (c ∷ [])) [ true ↦ omega arith | false ↦ omega arith ]
no_longer (c ∷ d ∷ cs) = let h = no_longer (d ∷ cs) in omega arith

line_bound : (n : ℕ) (ts : List (List ℕ)) (P : ℕ × ℕ) (l : Line) → Rest n ts P → IsAmong (numbered n (map without_return ts)) l → Bound l.number (length l.text) P
line_bound n [] P l h m = absurd (among_none l m)
line_bound n (t ∷ ts) P l h m = elim (among_cases (numbered (n + 1) (map without_return ts)) (record { number = n; text = without_return t; tokens = tokens (without_return t) }) l m) [
  | inl same ↦ subst (λ (v : Line). Bound v.number (length v.text) P) (sym same) (shorter_bound n (length t) (length (without_return t)) P (no_longer t) h.0)
  | inr there ↦ line_bound (n + 1) ts P l h.1 there
]

end_behind : (bytes : List ℕ) (l : Line) → IsAmong (lines_of bytes) l → Bound l.number (length l.text) (place_of_end bytes)
end_behind bytes l m =
    let cs = without_mark (readable bytes) in
    line_bound 1 (cut cs) (place_of_end bytes) l (rest_from 1 (cut cs) (place_of_end bytes) (in_place 1 0 cs)) m

-- ---- The whole ----

module _ (bytes : List ℕ) where
  into_lines : (r : Refusal) → IsReadingRefusal bytes r →
      ((utf8_valid_len bytes < length bytes) × (r ≡ refusal cause.Utf8 (place_of_end bytes).0 (place_of_end bytes).1)) ⊎ InLines 1 (texts_of bytes) r
  into_lines r (ill_formed h e) = inl (h, e)
  into_lines r (long_line l m h e) = inr (record { line = l; fault = long; among = m; fails = too_long h refl; same = e })
  into_lines r (at_fault l p c m mp f e) = inr (record {
    line = l;
    fault = record { column = p.from; cause = c };
    among = m;
    fails = faulty (record { piece = p; among = mp; found = f; at = refl });
    same = e;
  })

  from_lines : (r : Refusal) → InLines 1 (texts_of bytes) r → IsReadingRefusal bytes r
  from_lines r h = go h.fails
    where
      go : Fails h.line.text h.fault → IsReadingRefusal bytes r
      go (too_long l e) = long_line h.line h.among l (h.same ∙ ap (refusal_of_fault h.line.number) e)
      go (faulty m) = at_fault h.line m.piece h.fault.cause h.among m.among m.found (h.same ∙ ap (λ k. refusal h.fault.cause h.line.number k) m.at)

  of_lines_first : (o : Option Refusal) → IsFirstOf 1 (texts_of bytes) o → IsFirstIfAny (IsReadingRefusal bytes) (option_or o (bytes_refusal bytes))
  of_lines_first (Some r) h = record {
    refuses = from_lines r h.0;
    first = λ s k. elim (into_lines s k) [
      | inl (short, e) ↦
          let l = h.0.line in
          let f = h.0.fault in
          let known = fails_known l.text f h.0.fails in
          let x = known.most in
          subst (λ v. IsNotAfter (order v) (order s)) (sym h.0.same) (subst (λ v. IsNotAfter (order (refusal_of_fault l.number f)) (order v)) (sym e) (
          inr (
            known.phase,
            elim (end_behind bytes l h.0.among) [
              | inl lt ↦ inl lt
              | inr (same, lt) ↦ inr (same, inl (omega arith))
            ],
          )))
      | inr there ↦ h.1 s there
    ];
  }
  of_lines_first None h = elim (nat_lt (utf8_valid_len bytes) (length bytes)) as (λ b. nat_lt (utf8_valid_len bytes) (length bytes) ≡ b →
      IsFirstIfAny (IsReadingRefusal bytes) (if b then Some (refusal cause.Utf8 (place_of_end bytes).0 (place_of_end bytes).1) else None)) [
        | true ↦ λ e. record {
          refuses = ill_formed (ltb-true (utf8_valid_len bytes) (length bytes) e) refl;
          first = λ s k. elim (into_lines s k) [
            | inl (short, same) ↦ subst (λ v. IsNotAfter (order (refusal cause.Utf8 (place_of_end bytes).0 (place_of_end bytes).1)) (order v)) (sym same) (inr (refl, inr (refl, inr (refl, inr (refl, tt)))))
            | inr there ↦ absurd (h s there)
          ];
        }
        | false ↦ λ e s k. elim (into_lines s k) [
          | inl (short, same) ↦ let g = ltb-false (utf8_valid_len bytes) (length bytes) e in omega arith
          | inr there ↦ h s there
        ]
      ] refl

pub first_refusal : (bytes : List ℕ) → IsFirstIfAny (IsReadingRefusal bytes) (reading_refusal bytes)
first_refusal bytes = of_lines_first bytes (lines_refusal 1 (texts_of bytes)) (lines_first 1 (texts_of bytes))

-- ---- A script without such a refusal ----

module _ (bytes : List ℕ) (none : (r : Refusal) → IsReadingRefusal bytes r → ⊥) where
  pub all_whole : utf8_valid_len bytes ≡ length bytes
  all_whole = elim (nat_lt (utf8_valid_len bytes) (length bytes)) as (λ b. nat_lt (utf8_valid_len bytes) (length bytes) ≡ b → utf8_valid_len bytes ≡ length bytes) [
    | true ↦ λ e. absurd (none (refusal cause.Utf8 (place_of_end bytes).0 (place_of_end bytes).1) (ill_formed (ltb-true (utf8_valid_len bytes) (length bytes) e) refl))
    | false ↦ λ e. let g = ltb-false (utf8_valid_len bytes) (length bytes) e in let h = utf8_valid_len_le bytes in omega arith
  ] refl

  pub all_short : (l : Line) → IsAmong (lines_of bytes) l → length l.text ≤ 1000
  all_short l m = elim (nat_lt 1000 (length l.text)) as (λ b. nat_lt 1000 (length l.text) ≡ b → length l.text ≤ 1000) [
    | true ↦ λ e. absurd (none (refusal cause.LineLong l.number 1001) (long_line l m (ltb-true 1000 (length l.text) e) refl))
    | false ↦ λ e. ltb-false 1000 (length l.text) e
  ] refl

  pub all_read : (l : Line) → IsAmong (lines_of bytes) l → IsRead l.text l.tokens
  all_read l m = record {
    sound = all_sound (pieces l.text) (λ p c mp e. none (refusal c l.number p.from) (at_fault l p c m mp e refl));
    same = numbered_tokens 1 (texts_of bytes) l m;
  }

-- each such refusal comes in the first phase
pub reading_phase : (bytes : List ℕ) (r : Refusal) → IsReadingRefusal bytes r → phase r.cause ≡ 1
reading_phase bytes r h = elim (into_lines bytes r h) [
  | inl (short, e) ↦ ap (λ (v : Refusal). phase v.cause) e
  | inr there ↦ ap (λ (v : Refusal). phase v.cause) there.same ∙ (fails_known there.line.text there.fault there.fails).phase
]
