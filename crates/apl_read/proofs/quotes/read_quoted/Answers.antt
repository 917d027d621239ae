use Rattle.std.proofs.Common.{◌≡◌, [], ◌∷◌, ◌++◌, ◌+◌, get_or, subst, sym, ap, ◌∙◌}
use Rattle.std.proofs.lemmas.Grind.{get_or_default_zero}
use Rattle.apl_read.proofs.QuoteLemmas.{IsQuotedSoFar, by_plain, by_doubled}
use Rattle.apl_read.proofs.quotes.read_quoted.Goals as goal

pub loop-at-preserved-then-c-ne39 : goal.loop-at-preserved-then-c-ne39
loop-at-preserved-then-c-ne39 c =
    let rest = c.args.rest.now in
    let at = c.loop-at.at in
    let cs = c.loop-at.characters.items in
    let item : c.index-rest-at.result ≡ get_or rest at 0 = c.index-rest-at.is ∙ get_or_default_zero rest at c.index-rest-at.result c.loop-at-test.true in
    let e : c.push.new.self.items ≡ cs ++ get_or rest at 0 ∷ [] = c.in_ok-push.ensures.items ∙ ap (λ x. cs ++ x ∷ []) item in
    subst (λ v. IsQuotedSoFar rest (at + 1) v) (sym e) (by_plain rest at cs c.loop-at.invariant c.loop-at-test.true (λ f. c.if-c-ne39.true (item ∙ f)))

pub loop-at-preserved : goal.loop-at-preserved
loop-at-preserved c =
    let rest = c.args.rest.now in
    let at = c.loop-at.at in
    let cs = c.loop-at.characters.items in
    let item : c.index-rest-at.result ≡ get_or rest at 0 = c.index-rest-at.is ∙ get_or_default_zero rest at c.index-rest-at.result c.loop-at-test.true in
    let second : c.index-rest-at-then-at-rest.result ≡ get_or rest (at + 1) 0 =
    c.index-rest-at-then-at-rest.is ∙ get_or_default_zero rest (at + 1) c.index-rest-at-then-at-rest.result c.if-at-rest.true in
    let e : c.push-then-rest-at-eq39.new.self.items ≡ cs ++ get_or rest at 0 ∷ [] = c.in_ok-push-2.ensures.items ∙ ap (λ x. cs ++ x ∷ []) item in
    subst (λ v. IsQuotedSoFar rest (at + 2) v) (sym e)
    (by_doubled rest at cs c.loop-at.invariant c.loop-at-test.true (sym item ∙ c.if-c-ne39.false) c.if-at-rest.true (sym second ∙ c.if-rest-at-eq39.true))
