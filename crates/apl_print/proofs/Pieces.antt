-- A text that goes to a sink in pieces.
use Rattle.std.proofs.Common.{◌≡◌, ℕ, List, [], ◌++◌, take, drop, Option, Some, None, refl, ap, sym, ◌∙◌, append_assoc, append-nil}
use Rattle.std.proofs.lemmas.List.{take-append-drop}
use Rattle.apl_outside.specs.Bytes.{Gains, GainsPart}
use Rattle.apl_outside.proofs.Parts.{gains_then}
use Rattle.apl_print.specs.Bytes.{GainsPrefix}

-- a sink has gained these bytes up to some of them, which are still to come
pub record Sent (old new : Option (List ℕ)) (bytes back : List ℕ) : Type 0 where
  pub front : List ℕ
  pub whole : front ++ back ≡ bytes
  pub gained : Gains old new front

-- nothing is gained by no bytes
pub gains-nothing : (old : Option (List ℕ)) → Gains old old []
gains-nothing None = refl
gains-nothing (Some held) = ap Some (sym (append-nil held))

-- before the first piece
pub sent-nothing : (old : Option (List ℕ)) (bytes back : List ℕ) → back ≡ bytes → Sent old old bytes back
sent-nothing old bytes back e = record { front = []; whole = e; gained = gains-nothing old }

-- one piece more
pub sent-more : (a b c : Option (List ℕ)) (bytes back piece rest : List ℕ) → Sent a b bytes back → back ≡ piece ++ rest → Gains b c piece → Sent a c bytes rest
sent-more a b c bytes back piece rest s e p = record {
  front = s.front ++ piece;
  whole = append_assoc s.front piece rest ∙ ap (λ xs. s.front ++ xs) (sym e) ∙ s.whole;
  gained = gains_then a b c s.front piece s.gained p;
}

-- what is still to come may be cut in another way
pub sent-as : (a b : Option (List ℕ)) (bytes back rest : List ℕ) → Sent a b bytes back → back ≡ rest → Sent a b bytes rest
sent-as a b bytes back rest s e = record { front = s.front; whole = ap (λ xs. s.front ++ xs) (sym e) ∙ s.whole; gained = s.gained }

-- all pieces so far are a prefix
pub prefix-sent : (a b : Option (List ℕ)) (bytes back : List ℕ) → Sent a b bytes back → GainsPrefix a b bytes
prefix-sent a b bytes back s = record { front = s.front; rest = back; whole = s.whole; gained = s.gained }

-- and so they are with a front of what is still to come
pub prefix-front : (a b c : Option (List ℕ)) (bytes back piece rest : List ℕ) → Sent a b bytes back → back ≡ piece ++ rest → GainsPrefix b c piece → GainsPrefix a c bytes
prefix-front a b c bytes back piece rest s e p =
    let cut : back ≡ p.front ++ (p.rest ++ rest) =
    e ∙ ap (λ xs. xs ++ rest) (sym p.whole) ∙ append_assoc p.front p.rest rest in
    prefix-sent a c bytes (p.rest ++ rest) (sent-more a b c bytes back p.front (p.rest ++ rest) s cut p.gained)

-- with the last piece all is sent
pub gains-sent : (a b c : Option (List ℕ)) (bytes back piece : List ℕ) → Sent a b bytes back → back ≡ piece → Gains b c piece → Gains a c bytes
gains-sent a b c bytes back piece s e p =
    let all : s.front ++ piece ≡ bytes = ap (λ xs. s.front ++ xs) (sym e) ∙ s.whole in
    let gained : Gains a c (s.front ++ piece) = gains_then a b c s.front piece s.gained p in
    rw all at gained

-- one piece alone, of which a part was sent
pub prefix-alone : (a b : Option (List ℕ)) (bytes : List ℕ) → GainsPart a b bytes → GainsPrefix a b bytes
prefix-alone a b bytes p = record { front = take p.count bytes; rest = drop p.count bytes; whole = take-append-drop p.count bytes; gained = p.gained }

-- nothing was sent
pub prefix-nothing : (a : Option (List ℕ)) (bytes : List ℕ) → GainsPrefix a a bytes
prefix-nothing a bytes = record { front = []; rest = bytes; whole = refl; gained = gains-nothing a }
