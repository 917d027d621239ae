-- What the look-ups of a program answer.
use Rattle.std.specs.Prelude.{◌≡◌, ℕ, ◌+◌, ◌≤◌, List, drop, length, slice_get, Some}
use Rattle.apl_model.specs.declared.outlines.OutlineBody.{OutlineBody}
use Rattle.apl_model.specs.declared.outlines.OutlineItem.TheVariants as outline
use Rattle.apl_model.specs.declared.scripts.Header.{Header}
use Rattle.apl_model.specs.Call.{routine_of}
use Rattle.apl_compile.specs.declared.programs.Function.{Function}
use Rattle.apl_compile.specs.Program.{ProgramView}
use Rattle.apl_compile.specs.Running.{lines_with, routines_in}

-- this is the function of the name: its definition is this item of the outline, and the codes of its lines stand one
-- after the other from this one on
pub record IsFunctionAt (p : ProgramView) (name : List ℕ) (f : Function) : Type 0 where
  pub opened : ℕ
  pub closed : ℕ
  pub header : Header
  pub body : List OutlineBody
  pub item : slice_get p.outline.items f.item ≡ Some (outline.Definition opened closed header body)
  pub codes : f.code + length body ≤ length p.codes
  pub routine : routine_of (routines_in p) name ≡ Some (record { header = header; body = lines_with body (drop f.code p.codes) })
