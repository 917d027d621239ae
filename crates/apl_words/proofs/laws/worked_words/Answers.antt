use Rattle.std.proofs.Common.{refl}
use Rattle.clap.proofs.OnLiterals.{clap_on_literals}
use Rattle.apl_words.specs.Laws.{AllWords, NoWords, RefusedWords}
use Rattle.apl_words.proofs.laws.worked_words.Goals as goal

none : NoWords
unfolding clap_on_literals
none = refl

all : AllWords
unfolding clap_on_literals
all = refl

refused : RefusedWords
unfolding clap_on_literals
refused = (refl, refl, refl)

pub returns : goal.returns
returns c = record { none = none; all = all; refused = refused; seed = refl }
