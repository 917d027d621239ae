use Rattle.std.proofs.Common.{◌-◌, ◌∙◌, ap, subst, sym, get_or}
use Rattle.apl_base.specs.Selection.{reverse_index}
use Rattle.array_desc.specs.Desc.{DescView, Selects}
use Rattle.array_desc.proofs.Maps.{back_lengths, reverse_reads}
use Rattle.array_desc.proofs.Sums.{makes-selects, selects-read}
use Rattle.array_desc.proofs.desc.Desc.reverse.Goals as goal

pub returns-clause-selects : goal.returns-clause-selects
returns-clause-selects c =
    let old = c.args.self.now in
    let k = c.args.axis in
    let shape_is = ap (λ (v : DescView). v.shape) c.self.view_is in
    let n = c.len-n.ensures.value ∙ ap (λ v. get_or v k 0) shape_is in
    let last = c.saturating_sub.ensures ∙ ap (λ v. v - 1) n in
    let s = makes-selects _ _ _ old c.settled.result _ _ c.run_on.ensures c.settled.ensures.shape c.settled.ensures.numbers in
    let t = selects-read old c.settled.result _ _ _ (reverse_index old.shape k) (back_lengths old.shape k _ n) (λ i q. reverse_reads old.shape k _ c.requires last i q) s in
    let P : DescView → Type 0 = λ v. Selects old v old.shape (reverse_index old.shape k) in
    subst P (sym c.settled-2.view_is) t
