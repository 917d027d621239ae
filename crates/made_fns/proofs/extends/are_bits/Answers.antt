use Rattle.leaf_names.specs.Variables.{array_of}
use Rattle.made_fns.proofs.KeepLemmas.{bits_then, bits_else}
use Rattle.made_fns.proofs.extends.are_bits.Goals as goal
use Rattle.std.proofs.Common.{◌∙◌, sym}

pub returns-then-not-is_text-clause-value : goal.returns-then-not-is_text-clause-value
returns-then-not-is_text-clause-value c =
    bits_then (array_of c.args.store.now c.args.leaf.now) _ c.all_between.ensures.value (sym (c.is_text.ensures c.args.store.now) ∙ c.if-not-is_text.true)

pub returns-else-not-is_text-clause-value : goal.returns-else-not-is_text-clause-value
returns-else-not-is_text-clause-value c =
    bits_else (array_of c.args.store.now c.args.leaf.now) _ (c.is_text.ensures c.args.store.now) c.if-not-is_text.false
