use Rattle.std.proofs.Common.{Option, ap, arith}
use Rattle.drag_along.specs.declared.leaves.Leaf.{Leaf}
use Rattle.leaf_names.specs.Variables.{named_by_option}
use Rattle.leaf_names.proofs.CountLemmas.{look_up-named}
use Rattle.name_table.proofs.SettingLemmas.{set-is, set-lawful, set-fills, set-means, set-follows}
use Rattle.name_table.proofs.names.Names.set.Goals as goal

pub let_go-requires : goal.let_go-requires
let_go-requires c = λ key.
    omega (arith, c.requires.held key, c.in_ok-fitted.ensures.follows.holders key, look_up-named c.args.self.now c.args.name.now key, ap (λ (o : Option Leaf). named_by_option o key) c.in-Ok.ensures.old)

pub returns-in-Ok-clause-set : goal.returns-in-Ok-clause-set
returns-in-Ok-clause-set c =
    set-is c.args.store.now c.fitted.new.store c.let_go.new.store c.args.self.now c.put.new.self c.args.name.now c.args.leaf c.in_ok-fitted.fitted c.in-Ok.old c.requires.lawful c.requires.held
    c.in_ok-fitted.ensures.put c.in_ok-fitted.ensures.stands c.in_ok-fitted.ensures.follows c.in-Ok.ensures.old c.in-Ok.ensures.put c.let_go.ensures.follows c.let_go.ensures.counts

pub returns-in-Ok-clause-means : goal.returns-in-Ok-clause-means
returns-in-Ok-clause-means c =
    set-means c.args.store.now c.fitted.new.store c.let_go.new.store c.args.self.now c.put.new.self c.args.name.now c.args.leaf c.in_ok-fitted.fitted c.in-Ok.old c.requires.lawful c.requires.held
    c.in_ok-fitted.ensures.put c.in_ok-fitted.ensures.stands c.in_ok-fitted.ensures.follows c.in-Ok.ensures.old c.in-Ok.ensures.put c.let_go.ensures.follows c.let_go.ensures.counts

pub returns-in-Ok-clause-lawful : goal.returns-in-Ok-clause-lawful
returns-in-Ok-clause-lawful c =
    set-lawful c.args.store.now c.fitted.new.store c.let_go.new.store c.args.self.now c.put.new.self c.args.name.now c.args.leaf c.in_ok-fitted.fitted c.in-Ok.old c.requires.lawful c.requires.held
    c.in_ok-fitted.ensures.put c.in_ok-fitted.ensures.stands c.in_ok-fitted.ensures.follows c.in-Ok.ensures.old c.in-Ok.ensures.put c.let_go.ensures.follows c.let_go.ensures.counts

pub returns-in-Ok-clause-fills : goal.returns-in-Ok-clause-fills
returns-in-Ok-clause-fills c =
    set-fills c.args.store.now c.fitted.new.store c.let_go.new.store c.args.self.now c.put.new.self c.args.name.now c.args.leaf c.in_ok-fitted.fitted c.in-Ok.old c.requires.lawful c.requires.held
    c.in_ok-fitted.ensures.put c.in_ok-fitted.ensures.stands c.in_ok-fitted.ensures.follows c.in-Ok.ensures.old c.in-Ok.ensures.put c.let_go.ensures.follows c.let_go.ensures.counts c.in_ok-fitted.ensures.fills

pub returns-in-Ok-clause-follows : goal.returns-in-Ok-clause-follows
returns-in-Ok-clause-follows c =
    set-follows c.args.store.now c.fitted.new.store c.let_go.new.store c.args.self.now c.put.new.self c.args.name.now c.args.leaf c.in_ok-fitted.fitted c.in-Ok.old c.requires.lawful c.requires.held
    c.in_ok-fitted.ensures.put c.in_ok-fitted.ensures.stands c.in_ok-fitted.ensures.follows c.in-Ok.ensures.old c.in-Ok.ensures.put c.let_go.ensures.follows c.let_go.ensures.counts
