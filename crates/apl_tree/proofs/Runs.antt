-- Runs of the reader over some of the tokens.
use Rattle.std.proofs.Common.{◌≡◌, ℕ, zero, suc, ◌+◌, ◌-◌, ◌<◌, List, [], ◌∷◌, ◌++◌, length, take, drop, get_or, slice_get, Option, None, Some, refl, sym, ap, ◌∙◌, arith}
use Rattle.std.proofs.lemmas.List.{drop_more, take_more, take-append-drop}
use Rattle.std.specs.Option.{option_and_then}
use Rattle.apl_model.proofs.Complete.{read_complete}
use Rattle.apl_model.proofs.Machine.{State, step, run, start, finished, read}
use Rattle.apl_model.specs.Refusal.{past_last}
use Rattle.apl_model.specs.declared.tokens.Heading.{Heading}
use Rattle.apl_model.specs.declared.tokens.Token.{Token}
use Rattle.apl_model.specs.Grammar.{IsStatement}
use Rattle.apl_model.specs.Spelling.{statement_spelling, Spell}
use Rattle.apl_model.specs.Tree.{Statement}
use Rattle.apl_tree.specs.Outcome.{Stops, at_token, at_end}

module _ (hs : List Heading) (n : ℕ) where
  pub run-append : (x : Option State) (ts us : List Token) → run hs n x (ts ++ us) ≡ run hs n (run hs n x ts) us
  run-append x [] us = refl
  run-append x (t ∷ ts) us = run-append (option_and_then (λ y. step hs n y t) x) ts us

  pub run-none : (ts : List Token) → run hs n None ts ≡ None
  run-none [] = refl
  run-none (t ∷ ts) = run-none ts

  -- one token more
  pub run-more : (ts : List Token) (i : ℕ) (t : Token) (x : State) → i < length ts → t ≡ get_or ts i t →
      run hs n (Some start) (take i ts) ≡ Some x → run hs n (Some start) (take (i + 1) ts) ≡ step hs n x t
  run-more ts i t x l e r =
      ap (run hs n (Some start)) (take_more ts i t l ∙ ap (λ u. take i ts ++ u ∷ []) (sym e))
      ∙ run-append (Some start) (take i ts) (t ∷ []) ∙ ap (λ y. run hs n y (t ∷ [])) r

  pub cut_at : (ts : List Token) (i : ℕ) (t : Token) → i < length ts → t ≡ get_or ts i t → ts ≡ take i ts ++ (t ∷ drop (i + 1) ts)
  cut_at ts i t l e = sym (take-append-drop i ts) ∙ ap (λ us. take i ts ++ us) (drop_more ts i t l ∙ ap (λ u. u ∷ drop (i + 1) ts) (sym e))

  -- where the reader stops there is no statement
  stopped : (ts : List Token) (column : ℕ) → Stops hs n ts column → read hs n ts ≡ None
  stopped ts column (at_token before t after x e r s c) =
      ap (λ us. option_and_then finished (run hs n (Some start) us)) e
      ∙ ap (option_and_then finished) (run-append (Some start) before (t ∷ after) ∙ ap (λ y. run hs n y (t ∷ after)) r ∙ ap (λ y. run hs n y after) s ∙ run-none after)
  stopped ts column (at_end x r f c) = ap (option_and_then finished) r ∙ f

  none_clash : {s : Statement} → Some s ≡ None → ⊥
  none_clash e = cc

  pub stops_without : (ts : List Token) (column : ℕ) → Stops hs n ts column → ((s : Statement) × IsStatement hs s × Spell n (statement_spelling s) ts) → ⊥
  stops_without ts column h w = none_clash (sym (read_complete hs n w.0 w.1 ts w.2) ∙ stopped ts column h)

-- the last token of a list
past_at : (ts : List Token) (k : ℕ) (t : Token) → length ts ≡ suc k → Some t ≡ slice_get ts k → t.past ≡ past_last ts
past_at [] k t l e = absurd (omega arith)
past_at (u ∷ []) zero t l e = let f : t ≡ u = cc in ap (λ (v : Token). v.past) f
past_at (u ∷ []) (suc k) t l e = absurd (omega arith)
past_at (u ∷ v ∷ ts) zero t l e = absurd (omega arith)
past_at (u ∷ v ∷ ts) (suc k) t l e = past_at (v ∷ ts) k t (omega arith) e

pub past_last-last : (ts : List Token) (t : Token) → Some t ≡ slice_get ts (length ts - 1) → t.past ≡ past_last ts
past_last-last [] t e = absurd (clash e)
  where
    clash : {u : Token} → Some u ≡ None → ⊥
    clash e = cc
past_last-last (u ∷ ts) t e = past_at (u ∷ ts) (length (u ∷ ts) - 1) t (omega arith) e
