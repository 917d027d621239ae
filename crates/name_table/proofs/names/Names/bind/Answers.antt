use Rattle.std.proofs.Common.{map, sym, ap, subst, ◌∙◌}
use Rattle.drag_along.specs.declared.leaves.Leaf.{Leaf}
use Rattle.drag_along.specs.Lawful.{IsLawfulLeaf}
use Rattle.apl_model.specs.Environment.{Environment}
use Rattle.apl_model.specs.Frames.{unset}
use Rattle.leaf_names.specs.Variables.{named_by_names, EachLeaf, FillsOwner, variables_of}
use Rattle.name_table.proofs.LettingLemmas.{variables-bound, bound-each, bound-named}
use Rattle.name_table.proofs.PlaceLemmas.{whole-pushed}
use Rattle.name_table.proofs.names.Names.bind.Goals as goal

pub returns-clause-bound : goal.returns-clause-bound
returns-clause-bound c =
    whole-pushed c.self.inside.globals c.self.inside.frames.items c.args.self.now c.self.view_is c.push.new.self.items c.in_ok-frame.frame (map unset c.args.declared.now) c.in_ok-push.ensures.items c.in_ok-frame.ensures.unset

pub returns-clause-means : goal.returns-clause-means
returns-clause-means c = λ store origin. ap (variables_of store origin) (returns-clause-bound c) ∙ variables-bound store origin c.args.declared.now c.args.self.now

pub returns-clause-lawful : goal.returns-clause-lawful
returns-clause-lawful c = λ store each. subst (EachLeaf (IsLawfulLeaf store)) (sym (returns-clause-bound c)) (bound-each (IsLawfulLeaf store) c.args.declared.now c.args.self.now each)

pub returns-clause-fills : goal.returns-clause-fills
returns-clause-fills c = λ store each. subst (EachLeaf (FillsOwner store)) (sym (returns-clause-bound c)) (bound-each (FillsOwner store) c.args.declared.now c.args.self.now each)

pub returns-clause-leaves : goal.returns-clause-leaves
returns-clause-leaves c = λ key. ap (λ (e : Environment Leaf). named_by_names e key) (returns-clause-bound c) ∙ bound-named c.args.declared.now c.args.self.now key
