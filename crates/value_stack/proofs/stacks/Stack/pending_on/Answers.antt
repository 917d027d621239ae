use Rattle.std.proofs.Common.{◌≡◌, length, vec_len, refl, arith, rules}
use Rattle.value_stack.specs.Stacks.{Reads}
use Rattle.value_stack.proofs.StackLemmas.{least_found, none_next, none_left, not_both}
use Rattle.value_stack.proofs.stacks.Stack.pending_on.Goals as goal

pub returns-then-names : goal.returns-then-names
returns-then-names c =
    let same : length c.self.inside.entries.items ≡ vec_len c.self.inside.entries = search rules in
    least_found (Reads c.args.owner) _ _ c.args.from c.loop-position.position c.index.result.now c.self.view_is c.loop-position.auto.position
    (omega (arith, same, c.len-position-end.ensures, c.loop-position-test.true)) c.index.ensures (c.if-names.ensures.value.0 refl) c.loop-position.invariant

pub loop-position-preserved : goal.loop-position-preserved
loop-position-preserved c =
    let same : length c.self.inside.entries.items ≡ vec_len c.self.inside.entries = search rules in
    none_next (Reads c.args.owner) _ c.args.from c.loop-position.position c.index.result.now (omega (arith, same, c.len-position-end.ensures, c.loop-position-test.true)) c.index.ensures
    (λ reads. not_both _ _ refl refl (c.if-names.ensures.value.1 reads)) c.loop-position.invariant

pub returns : goal.returns
returns c =
    let same : length c.self.inside.entries.items ≡ vec_len c.self.inside.entries = search rules in
    none_left (Reads c.args.owner) _ _ c.args.from c.loop-position.position c.self.view_is (omega (arith, same, c.len-position-end.ensures, c.loop-position-test.false)) c.loop-position.invariant
