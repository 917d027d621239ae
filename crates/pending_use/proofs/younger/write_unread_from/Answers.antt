use Rattle.std.proofs.Common.{◌≡◌, drop, sym, subst, arith}
use Rattle.array_store.specs.Stores.{StoreView}
use Rattle.value_stack.specs.Stacks.{entries, IsLawfulStack}
use Rattle.pending_use.proofs.YoungerEntries.{older_alone, younger_kept}
use Rattle.pending_use.proofs.younger.write_unread_from.Goals as goal

pub returns-clause-older : goal.returns-clause-older
returns-clause-older c = λ yes. older_alone c.args.stack.now c.args.owner c.args.from c.in_default.ensures

pub returns-clause-lawful : goal.returns-clause-lawful
returns-clause-lawful c = λ holds lawful.
    subst (λ (s : StoreView). IsLawfulStack s (drop c.args.from c.args.stack.now)) (sym c.write.ensures.written)
    (younger_kept c.args.store.now c.args.stack.now c.args.owner c.args.from c.args.place _ (omega (arith, c.requires.alone)) c.requires.place holds c.in_default.ensures lawful).0

pub returns-clause-means : goal.returns-clause-means
returns-clause-means c = λ holds lawful.
    subst (λ (s : StoreView). entries s (drop c.args.from c.args.stack.now) ≡ entries c.args.store.now (drop c.args.from c.args.stack.now)) (sym c.write.ensures.written)
    (younger_kept c.args.store.now c.args.stack.now c.args.owner c.args.from c.args.place _ (omega (arith, c.requires.alone)) c.requires.place holds c.in_default.ensures lawful).1
