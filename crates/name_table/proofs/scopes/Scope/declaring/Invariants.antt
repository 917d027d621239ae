use Rattle.std.proofs.Common.{◌≡◌, map, take}
use Rattle.apl_model.specs.Frames.{unset}
use Rattle.name_table.specs.Scopes.{AreNames}
use Rattle.name_table.proofs.scopes.Scope.declaring.Given as goal

abbrev pub invariant-loop-name : goal.invariant-loop-name
invariant-loop-name l = record {
  so_far : l.scope ≡ map unset (take l.name-index l.declared);
  names : AreNames l.scope;
}
