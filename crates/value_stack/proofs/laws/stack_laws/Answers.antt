use Rattle.value_stack.proofs.EntriesLemmas.{named_on_both, unread_is_unnamed, entry_is_lawful, stack_kept, replaced, pushed_stack, unread_written}
use Rattle.value_stack.proofs.laws.stack_laws.Goals as goal

pub returns : goal.returns
returns c =
    record {
      both = named_on_both;
      unread = unread_is_unnamed;
      entry = entry_is_lawful;
      kept = stack_kept;
      replaced = replaced;
      pushed = pushed_stack;
      written = unread_written;
    }
