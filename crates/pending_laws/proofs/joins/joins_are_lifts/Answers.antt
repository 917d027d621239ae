use Rattle.pending_laws.proofs.JoinLemmas.{one_is_the_lift, two_are_the_lift, one_fault_is_domain, two_faults_are_domain}
use Rattle.pending_laws.proofs.joins.joins_are_lifts.Goals as goal

pub returns : goal.returns
returns c = record { one = one_is_the_lift; two = two_are_the_lift; one_domain = one_fault_is_domain; two_domain = two_faults_are_domain }
