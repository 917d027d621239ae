use Rattle.std.proofs.Common.{◌≡◌, drop}
use Rattle.apl_model.specs.Grammar as grammar
use Rattle.apl_tree.proofs.arguments.arguments_of.Given as goal

abbrev pub invariant-loop-heading : goal.invariant-loop-heading
invariant-loop-heading l = grammar.arguments_of (drop l.heading-index l.classes.headings) l.name ≡ grammar.arguments_of l.classes.headings l.name
