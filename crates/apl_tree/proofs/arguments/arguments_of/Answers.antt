use Rattle.std.proofs.Common.{◌≡◌, ◌<◌, length, sym, ◌∙◌, arith, false, true}
use Rattle.apl_tree.proofs.Heads.{heads_here, heads_on}
use Rattle.apl_tree.proofs.arguments.arguments_of.Goals as goal

pub returns-then-is : goal.returns-then-is
returns-then-is c =
    let hs = c.as_slice-heading-items.result.now in
    let i = c.loop-heading.heading-index in
    let within : i < length hs = omega arith in
    let e = heads_here hs i c.heading-item.result c.args.name.now within c.heading-item.is (c.is.ensures.0 c.if-is.true) in
    let inv = c.loop-heading.invariant in
    let s = c.as_slice-heading-items.ensures in cc

not_both : false ≡ true → ⊥
not_both e = cc

pub loop-heading-preserved : goal.loop-heading-preserved
loop-heading-preserved c =
    let hs = c.as_slice-heading-items.result.now in
    let i = c.loop-heading.heading-index in
    let within : i < length hs = omega arith in
    let e = heads_on hs i c.heading-item.result c.args.name.now within c.heading-item.is (λ x. not_both (sym c.if-is.false ∙ c.is.ensures.1 x)) in
    let inv = c.loop-heading.invariant in
    let s = c.as_slice-heading-items.ensures in cc
