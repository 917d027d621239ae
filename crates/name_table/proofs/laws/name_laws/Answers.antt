use Rattle.name_table.proofs.BindingLemmas.{set_is_found, set_leaves_others, erased_is_unset, erased_leaves_others}
use Rattle.name_table.proofs.laws.name_laws.Goals as goal

pub returns : goal.returns
returns g c = record {
  found = set_is_found _;
  others = set_leaves_others _;
  erased = erased_is_unset _;
  others_than_erased = erased_leaves_others _;
}
