use Rattle.array_store.proofs.FollowsLemmas.{follows_then, follows_beside, holds_beside, leaf_kept}
use Rattle.array_store.proofs.laws.follows_laws.Goals as goal

pub returns : goal.returns
returns c =
    record { then = follows_then; beside = follows_beside; holds = holds_beside; kept = leaf_kept }
