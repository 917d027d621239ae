use Rattle.name_table.proofs.UnsetLemmas.{next_is_new, next_is_unset}
use Rattle.name_table.proofs.scopes.Scope.declaring.Goals as goal

pub put_new-requires : goal.put_new-requires
put_new-requires c =
    next_is_new _ c.args.declared.now c.requires c.loop-name.name-index c.loop-name-test.true c.name-item.result c.name-item.is c.loop-name.scope c.loop-name.invariant.so_far

pub loop-name-preserved : goal.loop-name-preserved
loop-name-preserved c = record {
  so_far =
      next_is_unset _ c.args.declared.now c.requires c.loop-name.name-index c.loop-name-test.true c.name-item.result c.name-item.is c.loop-name.scope c.put_new.new.self c.loop-name.invariant.so_far c.in-Ok.ensures.bound;
  names = c.put_new.ensures.names;
}
