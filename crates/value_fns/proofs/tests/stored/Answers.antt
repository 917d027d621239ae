use Rattle.std.proofs.Common.{◌≡◌, length, ◌∙◌, arith}
use Rattle.apl_base.specs.Array.{size_of}
use Rattle.e_machine.proofs.WholeLemmas.{stands-made}
use Rattle.value_fns.proofs.tests.stored.Goals as goal

pub returns : goal.returns
returns c = record {
  lawful =
      (stands-made _ _ _ _ c.args.shape.now _ _ c.in_ok-owner.ensures.made (c.in_ok-cells.ensures.count ∙ (let e : length c.args.values.now ≡ size_of c.args.shape.now = omega arith in e)) c.whole_view.ensures).lawful;
}
