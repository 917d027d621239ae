-- What some small scripts come to with the words of a command line, by the definitions alone: worked examples.
use Rattle.std.specs.Prelude.{◌≡◌, List, [], ◌∷◌, map, Some, codes, encode_utf8_all}
use Prim.Native.String.{String}
use Rattle.apl_words.specs.Options.{options_of}
use Rattle.apl_words.specs.declared.options.Options.{Options}
use Rattle.apl_run.specs.Answers.{Answer, IsAnswer, bytes_of, status_of}
use Rattle.apl_run.specs.declared.statuses.Status.{Status}

-- with these words, the script that this text is ends with this status and prints this
pub record ComesTo (words : List String) (text : String) (status : Status) (printed : String) : Type 0 where
  pub options : Options
  pub taken : options_of (map codes words) ≡ Some options
  pub answer : Answer
  pub is : IsAnswer (encode_utf8_all (codes text)) options.turns answer
  pub ends : status_of answer ≡ status
  pub prints : bytes_of answer ≡ encode_utf8_all (codes printed)
