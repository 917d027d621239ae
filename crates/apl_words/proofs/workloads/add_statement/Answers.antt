use Rattle.std.proofs.Common.{arith, ◌≡◌, ◌+◌, ◌++◌, ap, refl, sym, ◌∙◌, append-nil, append_assoc, codes, decimal, [], List, ℕ}
use Rattle.std.specs.Char.{encode_utf8}
use Rattle.std.proofs.lemmas.Result.{on_ok_weaker}
use Rattle.apl_words.specs.Workload.{statement}
use Rattle.apl_words.proofs.Texts.{adds, adds_more, adds_plain}
use Rattle.apl_words.proofs.workloads.add_statement.Goals as goal

pub returns-in-0 : goal.returns-in-0
unfolding encode_utf8
returns-in-0 c = on_ok_weaker _ (adds _ _ _ _ (codes "A←1000|A+") [] _ _ (omega arith) refl refl
    (ap (λ n. statement n c.args.p) c.in-0.is ∙ sym (append-nil (codes "A←1000|A+" ++ decimal c.args.p)))) c.add_around.ensures

pub returns-in_ok-push_str-in-1 : goal.returns-in_ok-push_str-in-1
unfolding encode_utf8
returns-in_ok-push_str-in-1 c = adds_plain _ _ _ (codes "A←⌽A") _ refl (ap (λ n. statement n c.args.p) c.in-1.is) c.in_ok-push_str-in-1.ensures.bytes

pub returns-in-2 : goal.returns-in-2
unfolding encode_utf8
returns-in-2 c = on_ok_weaker _ (adds _ _ _ _ (codes "A←") (codes "⌽A") _ _ (omega arith) refl refl
    (ap (λ n. statement n c.args.p) c.in-2.is)) c.add_around-in-2.ensures

pub returns-in_ok-add_around-in-3 : goal.returns-in_ok-add_around-in-3
unfolding encode_utf8
returns-in_ok-add_around-in-3 c =
    let p : ℕ = c.args.p in
    let first : List ℕ = codes "A←(" ++ decimal p ++ codes "↓A)," in
    on_ok_weaker _ (adds_more _ _ _ _ _ [] (codes "↑A") first _ _ (omega arith) refl refl
    (ap (λ n. statement n p) c.in-3.is ∙ append_assoc first (decimal p) (codes "↑A"))
    (adds _ _ _ _ (codes "A←(") (codes "↓A),") first p (omega arith) refl refl refl c.in_ok-add_around-in-3.ensures)) c.add_around-in-3-2.ensures

pub returns-in_ok-add_around-in-4 : goal.returns-in_ok-add_around-in-4
unfolding encode_utf8
returns-in_ok-add_around-in-4 c =
    let p : ℕ = c.args.p in
    let first : List ℕ = codes "A[" ++ decimal (p + 1) ++ codes "]←" in
    on_ok_weaker _ (adds_more _ _ _ _ _ [] [] first _ _ (omega arith) refl refl
    (ap (λ n. statement n p) c.in-4.is ∙ ap (λ t. first ++ t) (sym (append-nil (decimal p))))
    (adds _ _ _ _ (codes "A[") (codes "]←") first (p + 1) (omega arith) refl refl refl c.in_ok-add_around-in-4.ensures)) c.add_around-in-4-2.ensures

pub returns-in-5 : goal.returns-in-5
unfolding encode_utf8
returns-in-5 c = on_ok_weaker _ (adds _ _ _ _ (codes "B←") (codes "↑3×⌽A") _ _ (omega arith) refl refl
    (ap (λ n. statement n c.args.p) c.in-5.is)) c.add_around-in-5.ensures

pub returns-in_ok-push_str-in-6 : goal.returns-in_ok-push_str-in-6
unfolding encode_utf8
returns-in_ok-push_str-in-6 c = adds_plain _ _ _ (codes "A←1000|A+⌽A") _ refl (ap (λ n. statement n c.args.p) c.in-6.is) c.in_ok-push_str-in-6.ensures.bytes

pub returns-in_default : goal.returns-in_default
unfolding encode_utf8
returns-in_default c =
    let seven : c.args.number ≡ 7 = omega arith in
    on_ok_weaker _ (adds _ _ _ _ (codes "S←+/") (codes "↑A×2") _ _ (omega arith) refl refl
    (ap (λ n. statement n c.args.p) seven)) c.add_around-in_default.ensures
