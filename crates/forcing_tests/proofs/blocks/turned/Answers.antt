use Rattle.std.proofs.Common.{◌≡◌, ◌∙◌, length, ap, arith}
use Rattle.forcing_tests.proofs.blocks.turned.Goals as goal

pub own-requires : goal.own-requires
own-requires c = c.counting.ensures.lawful c.args.store.now

pub turned_on-requires : goal.turned_on-requires
turned_on-requires c =
    omega (arith, ap length (c.in_ok-leaf.ensures.copy.stands.shape.same ∙ c.counting.ensures.shape ∙ c.in_ok-shape.ensures.ok))

pub turned_on-requires-2 : goal.turned_on-requires-2
turned_on-requires-2 c =
    omega (arith, ap length (c.turned_on.ensures.shape ∙ c.in_ok-leaf.ensures.copy.stands.shape.same ∙ c.counting.ensures.shape ∙ c.in_ok-shape.ensures.ok))

pub returns : goal.returns
returns c = c.turned_on-2.ensures.lawful _ (c.turned_on.ensures.lawful _ c.in_ok-leaf.ensures.copy.stands.lawful)
