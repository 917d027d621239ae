use Rattle.std.proofs.Common.{◌≡◌, OnOk, arith}
use Rattle.apl_model.specs.Environment.{bound_to}
use Rattle.name_table.specs.Scopes.{bindings_of, IsTable}
use Rattle.name_table.proofs.TableLemmas.{put_or_kept, told}
use Rattle.name_table.proofs.scopes.Scope.put_new.Goals as goal

done : (c : goal.After-given_back) → IsTable c.insert.new.self.entries × OnOk c.insert.result (bindings_of c.insert.new.self.entries ≡ bound_to c.args.self.now c.args.name.now c.args.bound)
done c =
    put_or_kept c.insert.result c.in-Ok.text c.as_str.result.now c.args.name.now c.in-Ok.ensures.ok c.as_str.utf8 c.as_str.ensures.characters
    c.self.inside.table.entries c.insert.new.self.entries c.args.self.now c.args.bound c.self.view_is c.self.invariant (omega (arith, c.len-len.ensures.len, c.len-len.ensures.small)) c.insert.ensures.entries c.insert.ensures.err

pub invariant_of-self : goal.invariant_of-self
invariant_of-self c = (done c).0

pub returns-clause-bound : goal.returns-clause-bound
returns-clause-bound c = told c.insert.result c.given_back.result _ (λ refused. refused.value.1) _ c.given_back.ensures (done c).1

pub returns-clause-names : goal.returns-clause-names
returns-clause-names c = (done c).0.names
