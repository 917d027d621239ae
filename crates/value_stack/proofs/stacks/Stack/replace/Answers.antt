use Rattle.std.proofs.Common.{◌≡◌, length, get_or, ap, sym, subst, arith}
use Rattle.drag_along.specs.Segments.{SegmentView}
use Rattle.value_stack.proofs.StackLemmas.{named_on-replaced}
use Rattle.value_stack.proofs.stacks.Stack.replace.Goals as goal

pub returns-clause-leaves : goal.returns-clause-leaves
returns-clause-leaves c =
    let read : c.replace.result ≡ get_or c.self.inside.entries.items c.args.at c.replace.result =
    subst (λ (g : SegmentView). g ≡ get_or c.self.inside.entries.items c.args.at g) (sym c.replace.ensures.value) c.index_mut.ensures.value in
    named_on-replaced _ _ c.args.at c.args.s c.replace.new.dest c.replace.result c.self.view_is
    (omega (arith, ap length c.self.view_is, c.requires)) read c.replace.ensures.after
