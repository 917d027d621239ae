use Rattle.std.proofs.Common.{◌≡◌, ℕ, Option, List, [], ◌∷◌, ap, ◌∙◌, arith}
use Rattle.drag_along.specs.declared.leaves.Leaf.{Leaf}
use Rattle.apl_model.specs.Environment.{Bindings, Environment, bound_in, erased}
use Rattle.leaf_names.specs.Variables.{named_by_option}
use Rattle.leaf_names.proofs.CountLemmas.{unset-named}
use Rattle.name_table.proofs.LettingLemmas.{erased-lets_go, erased-means}
use Rattle.name_table.proofs.PlaceLemmas.{whole}
use Rattle.name_table.proofs.names.Names.erase.Goals as goal

was_bound : (now : Environment Leaf) (globals : Bindings Leaf) (bound : Option Leaf) (name : List ℕ) → globals ≡ now.globals → bound ≡ bound_in globals name → bound ≡ bound_in now.globals name
was_bound now globals bound name same e = e ∙ ap (λ (bs : Bindings Leaf). bound_in bs name) same

pub let_go-requires : goal.let_go-requires
let_go-requires c = λ key.
    let found = was_bound c.args.self.now c.self.inside.globals c.unset.result c.args.name.now (ap (λ (e : Environment Leaf). e.globals) c.self.view_is) c.unset.ensures.old in
    omega (arith, c.requires.held key, ap (λ (o : Option Leaf). named_by_option o key) found, unset-named c.args.self.now.globals c.args.name.now key)

pub returns-clause-erased : goal.returns-clause-erased
returns-clause-erased c =
    ap (λ (bs : Bindings Leaf). whole bs c.self.inside.frames.items) c.unset.ensures.unset ∙ ap (erased (c.args.name.now ∷ [])) c.self.view_is

pub returns-clause-means : goal.returns-clause-means
returns-clause-means c =
    erased-means c.args.store.now c.let_go.new.store c.args.self.now (whole c.unset.new.self c.self.inside.frames.items) c.args.name.now c.unset.result (returns-clause-erased c)
    (was_bound c.args.self.now c.self.inside.globals c.unset.result c.args.name.now (ap (λ (e : Environment Leaf). e.globals) c.self.view_is) c.unset.ensures.old) c.requires.held c.let_go.ensures.follows c.requires.lawful

pub returns-clause-leaves : goal.returns-clause-leaves
returns-clause-leaves c =
    erased-lets_go c.args.store.now c.let_go.new.store c.args.self.now (whole c.unset.new.self c.self.inside.frames.items) c.args.name.now c.unset.result (returns-clause-erased c)
    (was_bound c.args.self.now c.self.inside.globals c.unset.result c.args.name.now (ap (λ (e : Environment Leaf). e.globals) c.self.view_is) c.unset.ensures.old) c.requires.held c.let_go.ensures.follows c.requires.lawful c.let_go.ensures.counts
