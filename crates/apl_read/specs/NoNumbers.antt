-- Tokens that are no literal of numbers.
use Rattle.apl_model.specs.declared.tokens.Word.{Word}
use Rattle.apl_model.specs.declared.tokens.Word.TheVariants.{Numbers}

abbrev pub IsNoNumbers : Word → Type 0
IsNoNumbers (Numbers zs) = ⊥
IsNoNumbers _ = Unit {0}
