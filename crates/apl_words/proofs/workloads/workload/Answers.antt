use Rattle.std.proofs.Common.{rules, arith, ap, sym, subst, ◌≡◌, ◌+◌, ◌-◌, ◌∙◌, suc, ◌++◌, encode_utf8_all}
use Rattle.std.specs.Char.{encode_utf8}
use Rattle.apl_words.specs.Workload.{line_by, next_seed}
use Rattle.apl_words.proofs.Texts.{Written, written_all, written_more, written_none}
use Rattle.apl_words.proofs.workloads.workload.Goals as goal

pub loop-line-init : goal.loop-line-init
unfolding encode_utf8
loop-line-init c =
    let begun : c.push_str.new.self.bytes.items ≡ _ = c.in_ok-push_str.ensures.bytes in
    let from : c.from-seed.result ≡ c.args.k = search rules in
    (subst (Written c.push_str.new.self.bytes.items c.args.k 5000) (sym from) (written_none _ c.args.k (search rules)), omega arith)

pub loop-line-preserved : goal.loop-line-preserved
loop-line-preserved c =
    let left : 5000 - c.loop-line._line ≡ suc (5000 - (c.loop-line._line + 1)) = omega arith in
    let now : Written c.loop-line.text.bytes.items c.args.k (suc (5000 - (c.loop-line._line + 1))) c.loop-line.seed =
    subst (λ n. Written c.loop-line.text.bytes.items c.args.k n c.loop-line.seed) left c.loop-line.invariant.0 in
    let is : c.next_seed-seed.result ≡ next_seed c.loop-line.seed = c.next_seed-seed.ensures.next in
    let more : c.add_line.new.text.bytes.items ≡ c.loop-line.text.bytes.items ++ encode_utf8_all (line_by (next_seed c.loop-line.seed)) =
    c.in_ok-add_line.ensures ∙ ap (λ s. c.loop-line.text.bytes.items ++ encode_utf8_all (line_by s)) is in (
      subst (Written c.add_line.new.text.bytes.items c.args.k (5000 - (c.loop-line._line + 1))) (sym is)
          (written_more _ _ c.args.k _ c.loop-line.seed now more),
      c.next_seed-seed.ensures.below,
    )

pub returns : goal.returns
unfolding encode_utf8
returns c =
    let none : 5000 - c.loop-line._line ≡ 0 = omega arith in
    let now : Written c.loop-line.text.bytes.items c.args.k 0 c.loop-line.seed =
    subst (λ n. Written c.loop-line.text.bytes.items c.args.k n c.loop-line.seed) none c.loop-line.invariant.0 in
    written_all _ _ c.args.k c.loop-line.seed now (search rules)
