use Rattle.array_store.proofs.CameLemmas.{renews_nothing, renews_then, renews_made, renews_held, renews_freed, renews_counted, renews_written, live_at_most}
use Rattle.array_store.proofs.laws.came_laws.Goals as goal

pub returns : goal.returns
returns c =
    record {
      nothing = renews_nothing;
      then = renews_then;
      made = renews_made;
      held = renews_held;
      freed = renews_freed;
      counted = renews_counted;
      written = renews_written;
      live = live_at_most;
    }
