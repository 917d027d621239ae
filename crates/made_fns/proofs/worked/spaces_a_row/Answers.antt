use Rattle.made_fns.proofs.TestLemmas.{answered_lawful}
use Rattle.made_fns.proofs.worked.spaces_a_row.Goals as goal

pub is_made-requires : goal.is_made-requires
is_made-requires c = answered_lawful _ _ _ _ _ c.in_ok-made.ensures.made
