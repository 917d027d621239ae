use Rattle.std.proofs.Common.{Some, None}
use Rattle.std.proofs.lemmas.List.{get_or-set_same, get_or-set_other}
use Rattle.array_store.proofs.FollowsLemmas.{cells_of-kept, kind_of-kept, interval_of-kept}
use Rattle.array_store.proofs.StoreLemmas.{nobody_holds_none, written_is_only}
use Rattle.array_store.proofs.laws.look_up_laws.Goals as goal

pub returns : goal.returns
returns c =
    record {
      says = λ a b key same. (cells_of-kept a b key same, kind_of-kept a b key same, interval_of-kept a b key same);
      put = λ s key o within. get_or-set_same s.owners key (Some o) None within;
      others = λ s key other o differs. get_or-set_other s.owners key other (Some o) None differs;
      none = nobody_holds_none;
      written = written_is_only;
    }
