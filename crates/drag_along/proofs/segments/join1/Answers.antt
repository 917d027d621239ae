use Rattle.std.proofs.Common.{◌≡◌, ◌∙◌, sym, ap, subst}
use Rattle.drag_along.specs.Nodes.{functions_in}
use Rattle.drag_along.specs.Segments.{SegmentView, named_by, joined1}
use Rattle.drag_along.specs.Meaning.{entry}
use Rattle.drag_along.specs.Lawful.{IsLawful}
use Rattle.drag_along.proofs.JoinLemmas.{IfOk-weaker, IsLawful-joined1, entry-joined1, named_by-joined1, functions_in-joined1}
use Rattle.drag_along.proofs.segments.join1.Goals as goal

pub returns-clause-lawful : goal.returns-clause-lawful
returns-clause-lawful c =
    IfOk-weaker (λ (j : SegmentView). j ≡ joined1 c.args.f c.args.place c.args.right) _ _ c.with_one.ensures.exact
    (λ j e store h. subst (IsLawful store) (sym e)
    (IsLawful-joined1 store c.args.f c.args.place c.args.right c.with_one.ensures.right c.with_one.ensures.sound h))

pub returns-clause-meaning : goal.returns-clause-meaning
returns-clause-meaning c =
    IfOk-weaker (λ (j : SegmentView). j ≡ joined1 c.args.f c.args.place c.args.right) _ _ c.with_one.ensures.exact
    (λ j e store. ap (entry store) e ∙ entry-joined1 store c.args.f c.args.place c.args.right c.with_one.ensures.right)

pub returns-clause-leaves : goal.returns-clause-leaves
returns-clause-leaves c =
    IfOk-weaker (λ (j : SegmentView). j ≡ joined1 c.args.f c.args.place c.args.right) _ _ c.with_one.ensures.exact
    (λ j e key. ap (λ (g : SegmentView). named_by g key) e ∙ named_by-joined1 c.args.f c.args.place c.args.right key)

pub returns-clause-functions : goal.returns-clause-functions
returns-clause-functions c =
    IfOk-weaker (λ (j : SegmentView). j ≡ joined1 c.args.f c.args.place c.args.right) _ _ c.with_one.ensures.exact
    (λ j e. ap (λ (g : SegmentView). functions_in g.nodes) e ∙ functions_in-joined1 c.args.f c.args.place c.args.right)
