-- The slice of a token, read alone, is the token.
use Rattle.std.proofs.Common.{◌≡◌, ℕ, zero, suc, ◌+◌, ◌-◌, ◌<◌, ◌≤◌, ◌==◌, Bool, true, false, List, [], ◌∷◌, take, drop, None, ◌⊎◌, inl, inr, ℤ, refl, sym, ap, subst, ◌∙◌, arith}
use Rattle.std.proofs.lemmas.List.{append-nil}
use Rattle.std.specs.List.{IsAmong}
use Rattle.apl_model.proofs.Accepted.{among_cases, among_there, among_none}
use Rattle.apl_model.proofs.Beginnings.{piece_of, next, beginning_keeps}
use Rattle.apl_model.proofs.TokenOrder.{InOrder, pieces_in_order, tokens_in_order}
use Rattle.apl_model.specs.Characters.{code, is_blank}
use Rattle.apl_model.specs.Laws.{StandInOrder, TokensAreSlices}
use Rattle.apl_model.specs.Tokens.{Found, number, text, name, glyph, fault, Beginning, beginning, Piece, pieces_after, number_before, tokens_of_pieces, IsSound, AreSound}
use Rattle.apl_model.specs.declared.tokens.Token.{Token}
use Rattle.apl_model.specs.declared.tokens.Word.{Word}
use Rattle.apl_model.specs.declared.tokens.Word.TheVariants as word

-- what begins at a character of a line that ends behind it
ends_behind : (m c : ℕ) (cs : List ℕ) → IsSound (piece_of 0 (beginning c cs)) → (beginning c cs).more ≤ m → beginning c (take m cs) ≡ beginning c cs
ends_behind m c cs s h = ap (beginning c) (sym (append-nil (take m cs))) ∙ beginning_keeps m c cs None s h

-- ---- The pieces before a column ----

-- the first of some pieces: those that end before a column, where the next one begins there or later
abbrev Front : ℕ → List Piece → List Piece → Type 0
Front j [] [] = Unit {0}
Front j [] (q ∷ qs) = ⊥
Front j (p ∷ ps) [] = j ≤ p.from
Front j (p ∷ ps) (q ∷ qs) = (p ≡ q) × (p.past ≤ j) × Front j ps qs

none_before : (j : ℕ) (ps qs : List Piece) → InOrder j ps → Front j ps qs → [] ≡ qs
none_before j [] [] i f = refl
none_before j [] (q ∷ qs) i f = absurd f
none_before j (p ∷ ps) [] i f = refl
none_before j (p ∷ ps) (q ∷ qs) i f = let a = i.0 in let b = i.1 in let c = f.1 in absurd (omega arith)

sound_front : (j : ℕ) (ps qs : List Piece) → AreSound ps → Front j ps qs → AreSound qs
sound_front j [] [] s f = tt
sound_front j [] (q ∷ qs) s f = absurd f
sound_front j (p ∷ ps) [] s f = tt
sound_front j (p ∷ ps) (q ∷ qs) s f = (subst IsSound f.0 s.0, sound_front j ps qs s.1 f.2)

abbrev pieces_by : Bool → Bool → ℕ → ℕ → List ℕ → List Piece
pieces_by a b k c cs = next a b (pieces_after 0 (k + 1) cs) (piece_of k (beginning c cs)) (pieces_after (beginning c cs).more (k + 1) cs)

char_front : (a b : Bool) (k c m : ℕ) (cs : List ℕ) (qs : List Piece) → is_blank c ≡ a → (c == code "⍝") ≡ b →
    AreSound (pieces_by a b k c cs) → Front (k + suc m) (pieces_by a b k c cs) qs →
    ((n : ℕ) (rs : List Piece) → AreSound (pieces_after n (k + 1) cs) → n ≤ m → Front (k + suc m) (pieces_after n (k + 1) cs) rs → pieces_after n (k + 1) (take m cs) ≡ rs) →
    pieces_after 0 k (c ∷ take m cs) ≡ qs
char_front true b k c m cs qs ea eb s f g = ap (λ a. pieces_by a (c == code "⍝") k c (take m cs)) ea ∙ g 0 qs s (omega arith) f
char_front false true k c m cs [] ea eb s f g = ap (λ a. pieces_by a (c == code "⍝") k c (take m cs)) ea ∙ ap (λ b. pieces_by false b k c (take m cs)) eb
char_front false true k c m cs (q ∷ qs) ea eb s f g = absurd f
char_front false false k c m cs [] ea eb s f g = let l : k + suc m ≤ k = f in absurd (omega arith)
char_front false false k c m cs (q ∷ qs) ea eb s f g =
    let h : (beginning c cs).more ≤ m = (let l : k + 1 + (beginning c cs).more ≤ k + suc m = f.1 in omega arith) in
    let e = ends_behind m c cs s.0 h in
    ap (λ a. pieces_by a (c == code "⍝") k c (take m cs)) ea ∙ ap (λ b. pieces_by false b k c (take m cs)) eb
    ∙ ap (λ (d : Beginning). piece_of k d ∷ pieces_after d.more (k + 1) (take m cs)) e
    ∙ ap (λ ps. piece_of k (beginning c cs) ∷ ps) (g (beginning c cs).more qs s.1 h f.2) ∙ ap (λ v. v ∷ qs) f.0

no_pieces : (n k j m : ℕ) (qs : List Piece) → Front j (pieces_after n k []) qs → pieces_after n k (take m []) ≡ qs
no_pieces zero k j zero [] f = refl
no_pieces zero k j (suc m) [] f = refl
no_pieces (suc n) k j zero [] f = refl
no_pieces (suc n) k j (suc m) [] f = refl
no_pieces zero k j m (q ∷ qs) f = absurd f
no_pieces (suc n) k j m (q ∷ qs) f = absurd f

-- a line that ends there has those pieces
front_pieces : (n k m : ℕ) (cs : List ℕ) (qs : List Piece) → AreSound (pieces_after n k cs) → n ≤ m → Front (k + m) (pieces_after n k cs) qs → pieces_after n k (take m cs) ≡ qs
front_pieces n k m [] qs s h f = no_pieces n k (k + m) m qs f
front_pieces (suc n) k zero (c ∷ cs) qs s h f = absurd (omega arith)
front_pieces (suc n) k (suc m) (c ∷ cs) qs s h f =
    let e : k + suc m ≡ (k + 1) + m = omega arith in
    front_pieces n (k + 1) m cs qs s (omega arith) (subst (λ j. Front j (pieces_after n (k + 1) cs) qs) e f)
front_pieces zero k zero (c ∷ cs) qs s h f = none_before (k + 0) (pieces_after 0 k (c ∷ cs)) qs (pieces_in_order 0 k (c ∷ cs)) f
front_pieces zero k (suc m) (c ∷ cs) qs s h f =
    char_front (is_blank c) (c == code "⍝") k c m cs qs refl refl s f (λ n rs t i g.
    let e : k + suc m ≡ (k + 1) + m = omega arith in
    front_pieces n (k + 1) m cs rs t i (subst (λ j. Front j (pieces_after n (k + 1) cs) rs) e g))

-- ---- The pieces of a token ----

abbrev Starts : List Piece → Token → Type 0
Starts [] t = ⊥
Starts (p ∷ ps) t = t.from ≡ p.from

record PiecesOf (ps : List Piece) (t : Token) : Type 0 where
  own : List Piece
  front : Front t.past ps own
  starts : Starts ps t
  ends : t.from < t.past
  token : tokens_of_pieces own ≡ t ∷ []

nothing_before : (j : ℕ) (ps : List Piece) → InOrder j ps → Front j ps []
nothing_before j [] i = tt
nothing_before j (p ∷ ps) i = i.0

abbrev one : ℕ → ℕ → Found → Piece
one a b v = record { from = a; past = b; found = v }

-- a piece that is a token by itself
alone : (a b : ℕ) (v : Found) (ps : List Piece) (w : Word) → a < b → InOrder b ps → tokens_of_pieces (one a b v ∷ []) ≡ record { from = a; past = b; word = w } ∷ [] →
    PiecesOf (one a b v ∷ ps) (record { from = a; past = b; word = w })
alone a b v ps w l i e = record { own = one a b v ∷ []; front = (refl, omega arith, nothing_before b ps i); starts = refl; ends = l; token = e }

pub same_head : (t u : Token) (ts us : List Token) → t ∷ ts ≡ u ∷ us → t ≡ u
same_head t u ts us e = cc

none_some : {A : Type 0} (t : Token) (us : List Token) → [] ≡ t ∷ us → A
none_some t us e = cc

abbrev number_by : Word → ℕ → ℕ → ℤ → Token → List Token → List Token
number_by w a b z u vs = elim w [
  | word.Numbers zs ↦ record { from = a; past = u.past; word = word.Numbers (z ∷ zs) } ∷ vs
  | _ ↦ record { from = a; past = b; word = word.Numbers (z ∷ []) } ∷ u ∷ vs
]

first_number : (a b : ℕ) (z : ℤ) (ps : List Piece) (t : Token) (us : List Token) → a < b → InOrder b ps → ((u : Token) (vs : List Token) → tokens_of_pieces ps ≡ u ∷ vs → PiecesOf ps u) →
    number_before a b z (tokens_of_pieces ps) ≡ t ∷ us → PiecesOf (one a b (number z) ∷ ps) t
first_number a b z ps t us l i g e = by_tokens (tokens_of_pieces ps) refl e
  where
    single : PiecesOf (one a b (number z) ∷ ps) (record { from = a; past = b; word = word.Numbers (z ∷ []) })
    single = alone a b (number z) ps (word.Numbers (z ∷ [])) l i refl

    by_word : (w : Word) (u : Token) (vs : List Token) → u.word ≡ w → tokens_of_pieces ps ≡ u ∷ vs → number_by w a b z u vs ≡ t ∷ us → PiecesOf (one a b (number z) ∷ ps) t
    by_word (word.Numbers zs) u vs f h k =
        let r = g u vs h in
        let o : StandInOrder b (u ∷ vs) = subst (StandInOrder b) h (tokens_in_order b ps i) in
        let o0 = o.0 in let o1 = o.1 in
        subst (PiecesOf (one a b (number z) ∷ ps)) (same_head (record { from = a; past = u.past; word = word.Numbers (z ∷ zs) }) t vs us k) (record {
          own = one a b (number z) ∷ r.own;
          front = (refl, omega arith, r.front);
          starts = refl;
          ends = omega arith;
          token = ap (number_before a b z) r.token ∙ ap (λ w. number_by w a b z u []) f;
        })
    by_word (word.Chars zs) u vs f h k = subst (PiecesOf (one a b (number z) ∷ ps)) (same_head _ t (u ∷ vs) us k) single
    by_word (word.Name n) u vs f h k = subst (PiecesOf (one a b (number z) ∷ ps)) (same_head _ t (u ∷ vs) us k) single
    by_word (word.Glyph c) u vs f h k = subst (PiecesOf (one a b (number z) ∷ ps)) (same_head _ t (u ∷ vs) us k) single

    by_tokens : (ts : List Token) → tokens_of_pieces ps ≡ ts → number_before a b z ts ≡ t ∷ us → PiecesOf (one a b (number z) ∷ ps) t
    by_tokens [] h k = subst (PiecesOf (one a b (number z) ∷ ps)) (same_head _ t [] us k) single
    by_tokens (u ∷ vs) h k = by_word u.word u vs refl h k

first_piece : (a b : ℕ) (v : Found) (ps : List Piece) (t : Token) (us : List Token) → a < b → InOrder b ps → IsSound (one a b v) →
    ((u : Token) (vs : List Token) → tokens_of_pieces ps ≡ u ∷ vs → PiecesOf ps u) → tokens_of_pieces (one a b v ∷ ps) ≡ t ∷ us → PiecesOf (one a b v ∷ ps) t
first_piece a b (number z) ps t us l i s g e = first_number a b z ps t us l i g e
first_piece a b (text cs) ps t us l i s g e = subst (PiecesOf (one a b (text cs) ∷ ps)) (same_head _ t (tokens_of_pieces ps) us e) (alone a b (text cs) ps _ l i refl)
first_piece a b (name n) ps t us l i s g e = subst (PiecesOf (one a b (name n) ∷ ps)) (same_head _ t (tokens_of_pieces ps) us e) (alone a b (name n) ps (word.Name n) l i refl)
first_piece a b (glyph c) ps t us l i s g e = subst (PiecesOf (one a b (glyph c) ∷ ps)) (same_head _ t (tokens_of_pieces ps) us e) (alone a b (glyph c) ps (word.Glyph c) l i refl)
first_piece a b (fault c) ps t us l i s g e = absurd s

first_token : (j : ℕ) (ps : List Piece) (t : Token) (us : List Token) → InOrder j ps → AreSound ps → tokens_of_pieces ps ≡ t ∷ us → PiecesOf ps t
first_token j [] t us i s e = none_some t us e
first_token j (p ∷ ps) t us i s e =
    first_piece p.from p.past p.found ps t us i.1 i.2 s.0 (λ u vs h. first_token p.past ps u vs i.2 s.1 h) e

-- ---- Where a token is found ----

-- a token of pieces is the first one, or one of those behind the first piece
among_piece : (a b : ℕ) (v : Found) (ps : List Piece) (t : Token) → IsAmong (tokens_of_pieces (one a b v ∷ ps)) t →
    ((us : List Token) × (tokens_of_pieces (one a b v ∷ ps) ≡ t ∷ us)) ⊎ IsAmong (tokens_of_pieces ps) t
among_piece a b (number z) ps t m = by_tokens (tokens_of_pieces ps) m
  where
    by_word : (w : Word) (u : Token) (vs : List Token) → IsAmong (number_by w a b z u vs) t → ((us : List Token) × (number_by w a b z u vs ≡ t ∷ us)) ⊎ IsAmong (u ∷ vs) t
    by_word (word.Numbers zs) u vs m = elim (among_cases vs _ t m) [ inl e ↦ inl (vs, ap (λ x. x ∷ vs) (sym e)) | inr k ↦ inr (among_there vs u t k) ]
    by_word (word.Chars zs) u vs m = elim (among_cases (u ∷ vs) _ t m) [ inl e ↦ inl (u ∷ vs, ap (λ x. x ∷ u ∷ vs) (sym e)) | inr k ↦ inr k ]
    by_word (word.Name n) u vs m = elim (among_cases (u ∷ vs) _ t m) [ inl e ↦ inl (u ∷ vs, ap (λ x. x ∷ u ∷ vs) (sym e)) | inr k ↦ inr k ]
    by_word (word.Glyph c) u vs m = elim (among_cases (u ∷ vs) _ t m) [ inl e ↦ inl (u ∷ vs, ap (λ x. x ∷ u ∷ vs) (sym e)) | inr k ↦ inr k ]

    by_tokens : (ts : List Token) → IsAmong (number_before a b z ts) t → ((us : List Token) × (number_before a b z ts ≡ t ∷ us)) ⊎ IsAmong ts t
    by_tokens [] m = elim (among_cases [] _ t m) [ inl e ↦ inl ([], ap (λ x. x ∷ []) (sym e)) | inr k ↦ inr k ]
    by_tokens (u ∷ vs) m = by_word u.word u vs m
among_piece a b (text cs) ps t m = elim (among_cases (tokens_of_pieces ps) _ t m) [ inl e ↦ inl (tokens_of_pieces ps, ap (λ x. x ∷ tokens_of_pieces ps) (sym e)) | inr k ↦ inr k ]
among_piece a b (name n) ps t m = elim (among_cases (tokens_of_pieces ps) _ t m) [ inl e ↦ inl (tokens_of_pieces ps, ap (λ x. x ∷ tokens_of_pieces ps) (sym e)) | inr k ↦ inr k ]
among_piece a b (glyph c) ps t m = elim (among_cases (tokens_of_pieces ps) _ t m) [ inl e ↦ inl (tokens_of_pieces ps, ap (λ x. x ∷ tokens_of_pieces ps) (sym e)) | inr k ↦ inr k ]
among_piece a b (fault c) ps t m = inr m

-- the token stands at or behind the first column, and its slice is read as it, from its column on
abbrev ReadsAt : Token → ℕ → ℕ → List ℕ → Type 0
ReadsAt t k from cs =
    let ps = pieces_after 0 from (take (t.past - from) (drop (from - k) cs)) in
    (k ≤ from) × AreSound ps × (tokens_of_pieces ps ≡ t ∷ [])

one_more : (t : Token) (k c : ℕ) (cs : List ℕ) → ReadsAt t (k + 1) t.from cs → ReadsAt t k t.from (c ∷ cs)
one_more t k c cs r =
    let h = r.0 in
    let e : t.from - k ≡ suc (t.from - (k + 1)) = omega arith in
    subst (λ j. let ps = pieces_after 0 t.from (take (t.past - t.from) (drop j (c ∷ cs))) in (k ≤ t.from) × AreSound ps × (tokens_of_pieces ps ≡ t ∷ [])) (sym e) (omega arith, r.1, r.2)

-- the first token of pieces that begin here
here : (t : Token) (k : ℕ) (cs : List ℕ) (ps : List Piece) → pieces_after 0 k cs ≡ ps → Starts ps t → PiecesOf ps t → AreSound ps → t.from ≡ k → ReadsAt t k t.from cs
here t k cs ps e st r s f =
    let l = r.ends in
    let m : k + (t.past - k) ≡ t.past = omega arith in
    let z : k - k ≡ 0 = omega arith in
    let own : pieces_after 0 k (take (t.past - k) cs) ≡ r.own =
    front_pieces 0 k (t.past - k) cs r.own (subst AreSound (sym e) s) (omega arith) (subst (λ j. Front j (pieces_after 0 k cs) r.own) (sym m) (subst (λ v. Front t.past v r.own) (sym e) r.front)) in
    subst (λ j. ReadsAt t k j cs) (sym f)
    (subst (λ j. let qs = pieces_after 0 k (take (t.past - k) (drop j cs)) in (k ≤ k) × AreSound qs × (tokens_of_pieces qs ≡ t ∷ [])) (sym z)
    (omega arith, subst AreSound (sym own) (sound_front t.past ps r.own s r.front), ap tokens_of_pieces own ∙ r.token))

char_slice : (a b : Bool) (k c : ℕ) (cs : List ℕ) (t : Token) → is_blank c ≡ a → (c == code "⍝") ≡ b → AreSound (pieces_by a b k c cs) → IsAmong (tokens_of_pieces (pieces_by a b k c cs)) t →
    ((n : ℕ) → AreSound (pieces_after n (k + 1) cs) → IsAmong (tokens_of_pieces (pieces_after n (k + 1) cs)) t → ReadsAt t (k + 1) t.from cs) → ReadsAt t k t.from (c ∷ cs)
char_slice true b k c cs t ea eb s m g = one_more t k c cs (g 0 s m)
char_slice false true k c cs t ea eb s m g = absurd (among_none t m)
char_slice false false k c cs t ea eb s m g =
    let b = beginning c cs in
    let ps = pieces_after b.more (k + 1) cs in
    let all : pieces_after 0 k (c ∷ cs) ≡ piece_of k b ∷ ps = ap (λ a. pieces_by a (c == code "⍝") k c cs) ea ∙ ap (λ b. pieces_by false b k c cs) eb in
    let order : InOrder (k + 0) (piece_of k b ∷ ps) = subst (InOrder (k + 0)) all (pieces_in_order 0 k (c ∷ cs)) in
    elim (among_piece k (k + 1 + b.more) b.found ps t m) [
      | inl x ↦ (let r = first_token (k + 0) (piece_of k b ∷ ps) t x.0 order s x.1 in here t k (c ∷ cs) (piece_of k b ∷ ps) all r.starts r s r.starts)
      | inr y ↦ one_more t k c cs (g b.more s.1 y)
    ]

slices : (n k : ℕ) (cs : List ℕ) (t : Token) → AreSound (pieces_after n k cs) → IsAmong (tokens_of_pieces (pieces_after n k cs)) t → ReadsAt t k t.from cs
slices zero k [] t s m = absurd (among_none t m)
slices (suc n) k [] t s m = absurd (among_none t m)
slices (suc n) k (c ∷ cs) t s m = one_more t k c cs (slices n (k + 1) cs t s m)
slices zero k (c ∷ cs) t s m = char_slice (is_blank c) (c == code "⍝") k c cs t refl refl s m (λ n u i. slices n (k + 1) cs t u i)

pub line_slices : TokensAreSlices
line_slices line ts t r m = let x = slices 0 1 line t r.sound (subst (λ v. IsAmong v t) (sym r.same) m) in (x.1, x.2)
