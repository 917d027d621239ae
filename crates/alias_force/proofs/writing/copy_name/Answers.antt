use Rattle.std.proofs.Common.{◌≡◌, Some, sym, ◌∙◌, arith}
use Rattle.array_store.specs.Follows.{none, Follows}
use Rattle.drag_along.specs.declared.leaves.Leaf.{Leaf}
use Rattle.drag_along.specs.Nodes.{named_by_leaf}
use Rattle.apl_model.specs.Environment.{Environment, look_up}
use Rattle.e_machine.specs.Forced.{IsCopy}
use Rattle.alias_force.proofs.NameLemmas.{bound_lawful, bound_held, bound_to_copy, copies_name, names_stay}
use Rattle.alias_force.proofs.writing.copy_name.Goals as goal

pub own-requires : goal.own-requires
own-requires g c = bound_lawful _ _ _ _ (sym c.in-Some.ensures) c.requires.lawful

pub returns-in_err-copy-clause-variables : goal.returns-in_err-copy-clause-variables
returns-in_err-copy-clause-variables g c =
    (names_stay c.args.store.now c.own.new.store (g.H.Holder.names c.args.holder.now) none none c.requires.lawful (λ key. omega (arith, c.requires.held key)) c.in_err-copy.ensures.follows).variables

pub returns-in_err-copy-clause-lawful : goal.returns-in_err-copy-clause-lawful
returns-in_err-copy-clause-lawful g c =
    (names_stay c.args.store.now c.own.new.store (g.H.Holder.names c.args.holder.now) none none c.requires.lawful (λ key. omega (arith, c.requires.held key)) c.in_err-copy.ensures.follows).lawful

pub returns-in_err-copy-clause-filling : goal.returns-in_err-copy-clause-filling
returns-in_err-copy-clause-filling g c =
    (names_stay c.args.store.now c.own.new.store (g.H.Holder.names c.args.holder.now) none none c.requires.lawful (λ key. omega (arith, c.requires.held key)) c.in_err-copy.ensures.follows).filling

pub release-requires : goal.release-requires
release-requires g c = λ key.
    omega (arith, bound_held c.args.store.now (g.H.Holder.names c.args.holder.now) c.args.name.now c.give.result c.give.ensures.old c.requires.held key, c.in_ok-copy.ensures.follows.holders key)

pub returns-clause-copied : goal.returns-clause-copied
returns-clause-copied g c = λ leaf bound.
    let names : Environment Leaf = g.H.Holder.names c.args.holder.now in
    let found : look_up names c.args.name.now ≡ Some c.in-Some.leaf.now = sym c.in-Some.ensures in
    let copied : leaf ≡ c.in-Some.leaf.now = (let e : Some leaf ≡ Some c.in-Some.leaf.now = sym bound ∙ found in cc) in
    let gone : c.give.result ≡ leaf = (let e : Some c.give.result ≡ Some leaf = sym {b = Some c.give.result} c.give.ensures.old ∙ bound in cc) in
    let is : IsCopy c.args.store.now c.own.new.store leaf c.in_ok-copy.copy = rw copied c.in_ok-copy.ensures.copy in
    let let_go : Follows c.own.new.store c.release.new.store (named_by_leaf leaf) none = rw gone at c.release.ensures.follows in
    let its_key : c.in-Stored.owner ≡ is.made.key = (let e = c.in-Stored.is in let f = is.made.view.is in cc) in
    copies_name c.args.store.now c.own.new.store c.release.new.store names (g.H.Holder.names c.give.new.self) c.args.name.now leaf c.in_ok-copy.copy c.in-Stored.owner c.counts-counts.ensures.store.counts
    (bound_held c.args.store.now names c.args.name.now leaf bound c.requires.held) is its_key c.give.ensures.put let_go c.release.ensures.counts

pub returns-clause-variables : goal.returns-clause-variables
returns-clause-variables g c =
    let names : Environment Leaf = g.H.Holder.names c.args.holder.now in
    let leaf : Leaf = c.in-Some.leaf.now in
    let bound : look_up names c.args.name.now ≡ Some leaf = sym c.in-Some.ensures in
    let gone : c.give.result ≡ leaf = (let e : Some c.give.result ≡ Some leaf = sym {b = Some c.give.result} c.give.ensures.old ∙ bound in cc) in
    let let_go : Follows c.own.new.store c.release.new.store (named_by_leaf leaf) none = rw gone at c.release.ensures.follows in
    (bound_to_copy c.args.store.now c.own.new.store c.release.new.store names (g.H.Holder.names c.give.new.self) c.args.name.now leaf c.in_ok-copy.copy c.requires.lawful c.requires.held bound c.in_ok-copy.ensures.copy c.in_ok-copy.ensures.follows c.give.ensures.put let_go).variables

pub returns-clause-lawful : goal.returns-clause-lawful
returns-clause-lawful g c =
    let names : Environment Leaf = g.H.Holder.names c.args.holder.now in
    let leaf : Leaf = c.in-Some.leaf.now in
    let bound : look_up names c.args.name.now ≡ Some leaf = sym c.in-Some.ensures in
    let gone : c.give.result ≡ leaf = (let e : Some c.give.result ≡ Some leaf = sym {b = Some c.give.result} c.give.ensures.old ∙ bound in cc) in
    let let_go : Follows c.own.new.store c.release.new.store (named_by_leaf leaf) none = rw gone at c.release.ensures.follows in
    (bound_to_copy c.args.store.now c.own.new.store c.release.new.store names (g.H.Holder.names c.give.new.self) c.args.name.now leaf c.in_ok-copy.copy c.requires.lawful c.requires.held bound c.in_ok-copy.ensures.copy c.in_ok-copy.ensures.follows c.give.ensures.put let_go).lawful

pub returns-clause-filling : goal.returns-clause-filling
returns-clause-filling g c =
    let names : Environment Leaf = g.H.Holder.names c.args.holder.now in
    let leaf : Leaf = c.in-Some.leaf.now in
    let bound : look_up names c.args.name.now ≡ Some leaf = sym c.in-Some.ensures in
    let gone : c.give.result ≡ leaf = (let e : Some c.give.result ≡ Some leaf = sym {b = Some c.give.result} c.give.ensures.old ∙ bound in cc) in
    let let_go : Follows c.own.new.store c.release.new.store (named_by_leaf leaf) none = rw gone at c.release.ensures.follows in
    (bound_to_copy c.args.store.now c.own.new.store c.release.new.store names (g.H.Holder.names c.give.new.self) c.args.name.now leaf c.in_ok-copy.copy c.requires.lawful c.requires.held bound c.in_ok-copy.ensures.copy c.in_ok-copy.ensures.follows c.give.ensures.put let_go).filling

pub returns-clause-follows : goal.returns-clause-follows
returns-clause-follows g c =
    let names : Environment Leaf = g.H.Holder.names c.args.holder.now in
    let leaf : Leaf = c.in-Some.leaf.now in
    let bound : look_up names c.args.name.now ≡ Some leaf = sym c.in-Some.ensures in
    let gone : c.give.result ≡ leaf = (let e : Some c.give.result ≡ Some leaf = sym {b = Some c.give.result} c.give.ensures.old ∙ bound in cc) in
    let let_go : Follows c.own.new.store c.release.new.store (named_by_leaf leaf) none = rw gone at c.release.ensures.follows in
    (bound_to_copy c.args.store.now c.own.new.store c.release.new.store names (g.H.Holder.names c.give.new.self) c.args.name.now leaf c.in_ok-copy.copy c.requires.lawful c.requires.held bound c.in_ok-copy.ensures.copy c.in_ok-copy.ensures.follows c.give.ensures.put let_go).follows
