-- Which instructions change entries alone, and sound code.
use Rattle.std.specs.Prelude.{List}
use Rattle.std.specs.List.{AllByRecursion}
use Rattle.apl_model.specs.Grammar.{IsLiteral}
use Rattle.apl_compile.specs.declared.codes.Instruction.{Instruction}
use Rattle.apl_compile.specs.declared.codes.Op.{Op}
use Rattle.apl_compile.specs.declared.codes.Op.TheVariants as op
use Rattle.apl_compile.specs.Lawful.{IsLawfulCode}

-- an instruction changes entries alone
abbrev pub ChangesEntries : Op → Type 0
ChangesEntries (op.Lit literal) = Unit {0}
ChangesEntries (op.Name name) = Unit {0}
ChangesEntries (op.Mon f) = Unit {0}
ChangesEntries (op.Dya f) = Unit {0}
ChangesEntries (op.Red f axis) = Unit {0}
ChangesEntries (op.Outer f) = Unit {0}
ChangesEntries (op.Inner f g) = Unit {0}
ChangesEntries (op.Index mask) = Unit {0}
ChangesEntries (op.Asg name) = ⊥
ChangesEntries (op.Iasg name mask) = ⊥
ChangesEntries (op.Call f arguments whole) = ⊥
ChangesEntries op.Show = ⊥
ChangesEntries op.Print = ⊥
ChangesEntries op.Goto = ⊥
ChangesEntries op.End = ⊥

-- ---- literals of the language

-- a literal that an instruction puts is one of the language
abbrev pub HasLawfulLiteral : Op → Type 0
HasLawfulLiteral (op.Lit literal) = IsLiteral literal
HasLawfulLiteral (op.Name name) = Unit {0}
HasLawfulLiteral (op.Mon f) = Unit {0}
HasLawfulLiteral (op.Dya f) = Unit {0}
HasLawfulLiteral (op.Red f axis) = Unit {0}
HasLawfulLiteral (op.Outer f) = Unit {0}
HasLawfulLiteral (op.Inner f g) = Unit {0}
HasLawfulLiteral (op.Index mask) = Unit {0}
HasLawfulLiteral (op.Asg name) = Unit {0}
HasLawfulLiteral (op.Iasg name mask) = Unit {0}
HasLawfulLiteral (op.Call f arguments whole) = Unit {0}
HasLawfulLiteral op.Show = Unit {0}
HasLawfulLiteral op.Print = Unit {0}
HasLawfulLiteral op.Goto = Unit {0}
HasLawfulLiteral op.End = Unit {0}

abbrev pub HasLawfulLiterals : List Instruction → Type 0
HasLawfulLiterals code = AllByRecursion (λ i. HasLawfulLiteral i.op) code

-- ---- sound code

-- the code of a statement of the language
pub record IsSoundCode (code : List Instruction) : Type 0 where
  pub lawful : IsLawfulCode code
  pub literals : HasLawfulLiterals code
