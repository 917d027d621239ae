use Rattle.std.proofs.Common.{◌++◌, ◌∷◌, [], arith, ◌∙◌, ap, decimal, codes}
use Rattle.apl_print.proofs.LineTexts.{refusal_bytes}
use Rattle.apl_print.proofs.lines.line_of_refusal.Goals as goal

pub returns : goal.returns
returns c =
    refusal_bytes c.args.refusal.now _ (omega arith) (omega arith)
    (c.in_ok-text.ensures.ok ∙ ap (λ words. codes "REFUSED" ++ (32 ∷ (decimal c.args.refusal.now.line ++ (32 ∷ (decimal c.args.refusal.now.column ++ (32 ∷ (words ++ (10 ∷ [])))))))) c.words_of-words.ensures)
