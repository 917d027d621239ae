-- A line that is cut behind some of its tokens, and goes on with another text.
use Rattle.std.proofs.Common.{ℕ, List, ◌++◌, sym, ap, subst, ◌∙◌, arith}
use Rattle.apl_model.specs.Tokens.{pieces, pieces_after, tokens_of_pieces, AreSound, IsRead}
use Rattle.apl_model.specs.declared.tokens.Token.{Token}
use Rattle.apl_tree.proofs.Cuts.{cut, pieces_cut}
use Rattle.apl_tree.proofs.Places.{sound_append}
use Rattle.apl_tree.proofs.SplitTokens.{AreApart, split}
use Rattle.apl_tree.proofs.Tails.{tokens_at}

-- some line has these tokens, and then those of this text
pub record IsContinued (before : List Token) (more : List ℕ) : Type 0 where
  pub text : List ℕ
  pub column : ℕ
  pub read : IsRead text (before ++ tokens_at column more)

-- the first tokens of a line go on with each text that has no fault, and no number behind a number
pub continued : (line : List ℕ) (before after : List Token) (more : List ℕ) → IsRead line (before ++ after) →
    ((k : ℕ) → AreSound (pieces_after 0 k more)) → ((k : ℕ) → AreApart before (tokens_at k more)) → IsContinued before more
continued line before after more r sound apart =
    let s = split (pieces line) r.sound before after r.same in
    let c = pieces_cut 0 1 line s.j r.sound (omega arith) in
    record {
      text = cut c.l line more;
      column = c.column;
      read = record {
        sound = subst AreSound (sym (c.same more)) (sound_append s.j (pieces line) (pieces_after 0 c.column more) r.sound (sound c.column));
        same = ap tokens_of_pieces (c.same more) ∙ s.same (pieces_after 0 c.column more) (apart c.column);
      };
    }
