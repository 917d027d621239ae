use Rattle.std.proofs.Common.{◌≡◌, ◌++◌, drop, map}
use Rattle.apl_model.specs.Mirror.{body_line_of}
use Rattle.apl_compile.specs.Program.{compiled}
use Rattle.apl_compile.proofs.scripts.compile_body.Given as goal

abbrev pub invariant-loop-line : goal.invariant-loop-line
invariant-loop-line l =
    l.codes ++ map (λ b. compiled b.line b.statement) (map body_line_of (drop l.line-index l.body))
    ≡ l.initial.codes ++ map (λ b. compiled b.line b.statement) (map body_line_of l.body)
