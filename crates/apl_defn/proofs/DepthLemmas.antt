-- The depth of a line, token by token.
use Rattle.std.proofs.Common.{◌≡◌, ℕ, ◌≤◌, List, drop}
use Rattle.apl_model.specs.Refusal.{too_deep}
use Rattle.apl_model.specs.declared.tokens.Token.{Token}

-- so many are open after the first tokens, and nowhere before too many
pub record IsShallow (ts : List Token) (i depth : ℕ) : Type 0 where
  pub left : too_deep 0 ts ≡ too_deep depth (drop i ts)
  pub few : depth ≤ 64
