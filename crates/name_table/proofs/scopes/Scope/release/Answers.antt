use Rattle.std.proofs.Common.{◌≡◌, ◌<◌, List, [], ◌∷◌, ◌++◌, length, IsSome, Option, Some, None, refl, ap, ◌∙◌, arith}
use Rattle.std.specs.Option.{option_to_list}
use Rattle.name_table.proofs.ReleaseLemmas.{going_held, going_on, going_ended}
use Rattle.name_table.proofs.scopes.Scope.release.Goals as goal

no_item : (Y : Type 0) → IsSome {T = Y} None → ⊥
no_item Y h = cc

nothing_left : (X Y : Type 0) (es : List X) (r : Option Y) → (0 < length es → IsSome r) → r ≡ None → es ≡ []
nothing_left X Y [] r found e = refl
nothing_left X Y (x ∷ es) None found e = absurd (no_item Y (found (omega arith)))
nothing_left X Y (x ∷ es) (Some y) found e = absurd (cc)

pub let_go-requires : goal.let_go-requires
let_go-requires c =
    going_held c.args.store.now c.loop-bound.store c.self.inside.table.entries c.loop-bound.table.entries c.pop.new.self.entries c.in-Some.field-0-0 c.in-Some.bound
    (c.pop.ensures.entries ∙ ap (λ o. c.pop.new.self.entries ++ option_to_list o) c.in-Some.is) c.loop-bound.invariant.going

pub loop-bound-preserved : goal.loop-bound-preserved
loop-bound-preserved c = record {
  going =
      going_on c.args.store.now c.loop-bound.store c.let_go.new.store c.self.inside.table.entries c.loop-bound.table.entries c.pop.new.self.entries c.in-Some.field-0-0 c.in-Some.bound
      (c.pop.ensures.entries ∙ ap (λ o. c.pop.new.self.entries ++ option_to_list o) c.in-Some.is) c.loop-bound.invariant.going c.let_go.ensures.follows;
  counts = c.let_go.ensures.counts ∙ c.loop-bound.invariant.counts;
  store = c.let_go.ensures.store;
}

pub returns-clause-follows : goal.returns-clause-follows
returns-clause-follows c =
    going_ended c.args.store.now c.loop-bound.store c.self.inside.table.entries c.loop-bound.table.entries c.args.self (nothing_left _ _ c.loop-bound.table.entries c.pop.result c.pop.ensures.found.1 c.in_default.is) c.self.view_is c.loop-bound.invariant.going
