-- The examples are computed, the characters of their bytes included.
use Rattle.std.proofs.Common.{◌≡◌, ◌≤◌, length, refl, arith, [], ◌∷◌, Some, None, List, ℕ, false}
use Rattle.std.specs.Prelude.{codes, encode_utf8_all}
use Rattle.std.specs.Char.{encode_utf8}
use Rattle.std.specs.Fmt.{digits}
use Rattle.std.specs.Str.{chars, is_utf8}
use Rattle.std.specs.Str.Lossy.{utf8_valid_len}
use Rattle.apl_base.specs.declared.faults.Cause.TheVariants.{Character}
use Rattle.apl_base.specs.declared.rows.Dya.TheVariants as dya
use Rattle.apl_model.specs.Immediate.{immediate}
use Rattle.apl_model.specs.Lines.{lines_of}
use Rattle.apl_model.specs.Refusal.{refusal, IsAccepted, IsFirst, IsRefusal}
use Rattle.apl_model.specs.Script.{IsScript}
use Rattle.apl_model.specs.Tree.{Script}
use Rattle.clap.proofs.OnLiterals.{clap_on_literals}
use Rattle.apl_run.proofs.WorkedLemmas.{accepted, alone_on, between, one_fits, one_is_some, refused_first, script_with}
use Rattle.apl_run.specs.Answers.{ran, refused}
use Rattle.apl_run.proofs.laws.worked_answers.Goals as goal

-- 2+3
abbrev sum_bytes : List ℕ
sum_bytes = encode_utf8_all (codes "2+3\n")

abbrev sum : Script
sum = script_with sum_bytes (between 1 2 dya.Add 3 ∷ [])

sum_is : IsScript (lines_of sum_bytes) sum
unfolding chars is_utf8 utf8_valid_len encode_utf8
sum_is = assumption (one_fits, one_is_some)

sum_accepted : IsAccepted sum_bytes sum
unfolding chars is_utf8 utf8_valid_len encode_utf8
sum_accepted = accepted sum_bytes (refl, tt) sum (omega arith) refl sum_is

pub returns-clause-accepted : goal.returns-clause-accepted
unfolding chars is_utf8 utf8_valid_len encode_utf8 digits clap_on_literals
returns-clause-accepted c = record {
  options = record { turns = 1000000; traced = false; workload = None };
  taken = refl;
  answer = ran (immediate sum 1000000);
  is = (sum, sum_accepted, refl);
  ends = refl;
  prints = refl;
}

-- 1÷0, and 7
abbrev fault_bytes : List ℕ
fault_bytes = encode_utf8_all (codes "1÷0\n7\n")

abbrev fault : Script
fault = script_with fault_bytes (between 1 1 dya.Div 0 ∷ alone_on 2 7 ∷ [])

fault_is : IsScript (lines_of fault_bytes) fault
unfolding chars is_utf8 utf8_valid_len encode_utf8
fault_is = assumption (one_fits, one_is_some)

fault_accepted : IsAccepted fault_bytes fault
unfolding chars is_utf8 utf8_valid_len encode_utf8
fault_accepted = accepted fault_bytes (refl, (refl, tt)) fault (omega arith) refl fault_is

pub returns-clause-reported : goal.returns-clause-reported
unfolding chars is_utf8 utf8_valid_len encode_utf8 digits clap_on_literals
returns-clause-reported c = record {
  options = record { turns = 1000000; traced = false; workload = None };
  taken = refl;
  answer = ran (immediate fault 1000000);
  is = (fault, fault_accepted, refl);
  ends = refl;
  prints = refl;
}

-- 2+3, and a character that is none of the language
abbrev strange_bytes : List ℕ
strange_bytes = encode_utf8_all (codes "2+3\n2{3\n")

strange_refused : IsFirst (IsRefusal strange_bytes) (refusal Character 2 2)
unfolding chars is_utf8 utf8_valid_len encode_utf8
strange_refused = refused_first strange_bytes (refusal Character 2 2) (omega arith) refl

pub returns-clause-refused : goal.returns-clause-refused
unfolding chars is_utf8 utf8_valid_len encode_utf8 digits clap_on_literals
returns-clause-refused c = record {
  options = record { turns = 1000000; traced = false; workload = None };
  taken = refl;
  answer = refused (refusal Character 2 2);
  is = strange_refused;
  ends = refl;
  prints = refl;
}

-- 2+3, and 7
abbrev two_bytes : List ℕ
two_bytes = encode_utf8_all (codes "2+3\n7\n")

abbrev two : Script
two = script_with two_bytes (between 1 2 dya.Add 3 ∷ alone_on 2 7 ∷ [])

two_is : IsScript (lines_of two_bytes) two
unfolding chars is_utf8 utf8_valid_len encode_utf8
two_is = assumption (one_fits, one_is_some)

two_accepted : IsAccepted two_bytes two
unfolding chars is_utf8 utf8_valid_len encode_utf8
two_accepted = accepted two_bytes (refl, (refl, tt)) two (omega arith) refl two_is

pub returns-clause-spent : goal.returns-clause-spent
unfolding chars is_utf8 utf8_valid_len encode_utf8 digits clap_on_literals
returns-clause-spent c = record {
  options = record { turns = 1; traced = false; workload = None };
  taken = refl;
  answer = ran (immediate two 1);
  is = (two, two_accepted, refl);
  ends = refl;
  prints = refl;
}

pub returns-clause-exhausted : goal.returns-clause-exhausted
unfolding chars is_utf8 utf8_valid_len encode_utf8 digits clap_on_literals
returns-clause-exhausted c = record {
  options = record { turns = 0; traced = false; workload = None };
  taken = refl;
  answer = ran (immediate sum 0);
  is = (sum, sum_accepted, refl);
  ends = refl;
  prints = refl;
}
