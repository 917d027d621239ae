use Rattle.std.proofs.Common.{◌≡◌, ◌≤◌, refl, arith}
use Rattle.apl_cost.proofs.examples.examples_of_costs.Goals as goal

pub returns-clause-work : goal.returns-clause-work
returns-clause-work c = (omega arith, (omega arith, tt))

pub returns-clause-above : goal.returns-clause-above
returns-clause-above c = λ h. let e : 18 ≤ 17 = h.0 in omega (arith, e)

pub returns-clause-no_statement : goal.returns-clause-no_statement
returns-clause-no_statement c = λ h. h.1.1

pub returns-clause-sharing : goal.returns-clause-sharing
returns-clause-sharing c = (λ e. absurd cc, (λ e. refl, tt))

pub returns-clause-dear_sharing : goal.returns-clause-dear_sharing
returns-clause-dear_sharing c = λ h. let e : 1 ≡ 0 = h.1.0 refl in omega (arith, e)

pub returns-clause-second_writes : goal.returns-clause-second_writes
returns-clause-second_writes c = record {
  shares = (λ e. absurd cc, (λ e. absurd cc, (λ e. absurd cc, tt)));
  writes = (λ w. absurd (let f = w.first in cc), (λ w. refl, tt));
}

pub returns-clause-dear_writes : goal.returns-clause-dear_writes
returns-clause-dear_writes c = λ h. let e : 1 ≡ 0 = h.writes.1.0
    (record { name = _; first = refl; second = refl; lines = refl; directly = refl; first_well = refl; second_well = refl }) in omega (arith, e)

pub returns-clause-room : goal.returns-clause-room
returns-clause-room c = refl

pub returns-clause-no_stop : goal.returns-clause-no_stop
returns-clause-no_stop c = λ h. omega (arith, h)

pub returns-clause-one_statement : goal.returns-clause-one_statement
returns-clause-one_statement c before after h = h 29 refl

pub returns-clause-shares : goal.returns-clause-shares
returns-clause-shares c = refl

pub returns-clause-single_writes : goal.returns-clause-single_writes
returns-clause-single_writes c = refl
