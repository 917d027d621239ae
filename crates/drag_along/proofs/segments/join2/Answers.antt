use Rattle.std.proofs.Common.{◌≡◌, ◌∙◌, sym, ap, subst}
use Rattle.drag_along.specs.Nodes.{functions_in}
use Rattle.drag_along.specs.Segments.{SegmentView, named_by, joined2}
use Rattle.drag_along.specs.Meaning.{entry}
use Rattle.drag_along.specs.Lawful.{IsLawful}
use Rattle.drag_along.proofs.JoinLemmas.{IfOk-weaker, IsLawful-joined2, entry-joined2, named_by-joined2, functions_in-joined2}
use Rattle.drag_along.proofs.segments.join2.Goals as goal

pub returns-clause-lawful : goal.returns-clause-lawful
returns-clause-lawful c =
    IfOk-weaker (λ (j : SegmentView). j ≡ joined2 c.args.f c.args.place c.args.left c.args.right) _ _ c.with_two.ensures.exact
    (λ j e store h g. subst (IsLawful store) (sym e)
    (IsLawful-joined2 store c.args.f c.args.place c.args.left c.args.right c.with_two.ensures.left c.with_two.ensures.right c.requires.shapes c.with_two.ensures.sound g h))

pub returns-clause-meaning : goal.returns-clause-meaning
returns-clause-meaning c =
    IfOk-weaker (λ (j : SegmentView). j ≡ joined2 c.args.f c.args.place c.args.left c.args.right) _ _ c.with_two.ensures.exact
    (λ j e store. ap (entry store) e ∙ entry-joined2 store c.args.f c.args.place c.args.left c.args.right c.with_two.ensures.left c.with_two.ensures.right c.requires.shapes)

pub returns-clause-leaves : goal.returns-clause-leaves
returns-clause-leaves c =
    IfOk-weaker (λ (j : SegmentView). j ≡ joined2 c.args.f c.args.place c.args.left c.args.right) _ _ c.with_two.ensures.exact
    (λ j e key. ap (λ (g : SegmentView). named_by g key) e ∙ named_by-joined2 c.args.f c.args.place c.args.left c.args.right key)

pub returns-clause-functions : goal.returns-clause-functions
returns-clause-functions c =
    IfOk-weaker (λ (j : SegmentView). j ≡ joined2 c.args.f c.args.place c.args.left c.args.right) _ _ c.with_two.ensures.exact
    (λ j e. ap (λ (g : SegmentView). functions_in g.nodes) e ∙ functions_in-joined2 c.args.f c.args.place c.args.left c.args.right)
