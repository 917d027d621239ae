use Rattle.std.proofs.Common.{◌≡◌, ◌+◌, ◌<◌, ◌∙◌, ◌++◌, length, refl, sym, ap, arith}
use Rattle.std.proofs.lemmas.List.{length-map}
use Rattle.drag_along.specs.Meaning.{entry}
use Rattle.alias_force.proofs.SafeLemmas.{safe_means}
use Rattle.machine_state.specs.declared.machines.Machine.{Machine}
use Rattle.machine_state.proofs.KeepsLemmas.{keeps}
use Rattle.d_machine.proofs.FinishLemmas.{keeps_then, last_there, left_below, none_above}
use Rattle.d_machine.proofs.PerformLemmas.{reaches_always}
use Rattle.d_machine.proofs.running.finish.Goals as goal

pub returns-in_err-settle_entries-clause-keeps : goal.returns-in_err-settle_entries-clause-keeps
returns-in_err-settle_entries-clause-keeps c = reaches_always c.from_residual.result _ (keeps _ _ refl refl c.settle_entries.ensures.moves)

pub returns-clause-arrays : goal.returns-clause-arrays
returns-clause-arrays c =
    let arrays = safe_means c.settle_entries.new.store c.settle_entries.new.stack c.settle_entries.ensures.moves.lawful c.in_ok-settle_entries.ensures.safe in
    (arrays.0, sym c.settle_entries.ensures.means ∙ arrays.1)

pub returns-clause-ends : goal.returns-clause-ends
returns-clause-ends c older younger all low =
    let m : Machine = c.args.machine.now in
    let some : 0 < length c.settle_entries.new.stack = omega (arith, c.requires.base, c.if-len-base.false, c.len.ensures.value, c.settle_entries.ensures.length) in
    let last = last_there c.settle_entries.new.stack some in
    let many : length (older ++ younger) ≡ c.args.base + 1 =
    ap length (sym all) ∙ length-map m.stack (entry m.store) ∙ omega (arith, c.requires.base, c.requires.one, c.if-len-base.false, c.len.ensures.value) in
    left_below older younger _ (entry c.settle_entries.new.store last.0) c.args.base
    (sym all ∙ sym c.settle_entries.ensures.means ∙ c.drop_newest.ensures.dropped last.0 last.1) low many

pub returns-clause-keeps : goal.returns-clause-keeps
returns-clause-keeps c =
    let m : Machine = c.args.machine.now in
    let settled : Machine = record m { store = c.settle_entries.new.store; stack = c.settle_entries.new.stack } in
    let dropped : Machine = record settled { store = c.drop_newest.new.store; stack = c.drop_newest.new.stack } in
    keeps_then m settled dropped (keeps m settled refl refl c.settle_entries.ensures.moves) (keeps settled dropped refl refl c.drop_newest.ensures.moves)

pub returns-then-len-base-clause-arrays : goal.returns-then-len-base-clause-arrays
returns-then-len-base-clause-arrays c = c.requires.below (sym c.if-len-base.true ∙ c.len.ensures.value)

pub returns-then-len-base-clause-ends : goal.returns-then-len-base-clause-ends
returns-then-len-base-clause-ends c older younger all low =
    all ∙ none_above older younger c.args.base low (ap length (sym all) ∙ length-map c.args.machine.now.stack (entry c.args.machine.now.store) ∙ sym c.len.ensures.value ∙ c.if-len-base.true)

pub returns-clause-run : goal.returns-clause-run
returns-clause-run c = record { names = refl; turns = refl; begun = refl; traced = refl; costs = refl; origin = refl; limit = c.drop_newest.ensures.moves.follows.limit ∙ c.settle_entries.ensures.moves.follows.limit }

pub returns-in_err-settle_entries-clause-run : goal.returns-in_err-settle_entries-clause-run
returns-in_err-settle_entries-clause-run c = record { names = refl; turns = refl; begun = refl; traced = refl; costs = refl; origin = refl; limit = c.settle_entries.ensures.moves.follows.limit }
