use Rattle.apl_model.specs.Product.{inner}
use Rattle.leaf_names.specs.Variables.{array_of}
use Rattle.leaf_steps.proofs.ProductLemmas.{product_by}
use Rattle.leaf_steps.proofs.products.multiplied.Goals as goal

pub returns : goal.returns
returns c =
    product_by _ c.args.store.now c.inner.new.store _ _ (inner c.args.f c.args.g (array_of c.args.store.now c.args.a.now) (array_of c.args.store.now c.args.b.now)) c.inner.result c.inner.ensures.answer
