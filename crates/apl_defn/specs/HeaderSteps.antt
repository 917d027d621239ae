-- The reader of the first line of a definition, behind its ∇: its state is what was read so far.
use Rattle.std.specs.Prelude.{ℕ, ◌==◌, if◌then◌else◌, List, [], ◌∷◌, ◌++◌, Option, None, Some}
use Rattle.apl_model.specs.Characters.{code}
use Rattle.apl_model.specs.declared.scripts.Header.{Header}
use Rattle.apl_model.specs.declared.tokens.Word.{Word}
use Rattle.apl_model.specs.declared.tokens.Word.TheVariants as word
use Rattle.apl_defn.specs.declared.headers.HeaderSoFar.{HeaderSoFar}
use Rattle.apl_defn.specs.declared.headers.HeaderSoFar.TheVariants as so_far

-- the header of a function without arguments
abbrev pub named : Option (List ℕ) → List ℕ → HeaderSoFar
named z f = so_far.Named (record { f = f; result = z; left = None; right = None; locals = [] })

-- a header with one argument more, where it has at most one: a second one makes the name before it the function's
abbrev pub with_argument : Header → List ℕ → Option HeaderSoFar
with_argument h y = elim (h.left) [
  | None ↦ elim (h.right) [
    | None ↦ Some (so_far.Named (record { f = h.f; result = h.result; left = None; right = Some y; locals = h.locals }))
    | Some f ↦ Some (so_far.Named (record { f = f; result = h.result; left = Some h.f; right = Some y; locals = h.locals }))
  ]
  | Some x ↦ None
]

abbrev pub with_local : Header → List ℕ → Header
with_local h l = record { f = h.f; result = h.result; left = h.left; right = h.right; locals = h.locals ++ (l ∷ []) }

abbrev pub takes_name : HeaderSoFar → List ℕ → Option HeaderSoFar
takes_name so_far.Opened n = Some (named None n)
takes_name (so_far.Named h) n = with_argument h n
takes_name (so_far.Assigned z) n = Some (named (Some z) n)
takes_name (so_far.Semicolon h) n = Some (so_far.Local (with_local h n))
takes_name (so_far.Local h) n = None

-- the one name of a header is that of the result
abbrev pub as_result : Header → Option HeaderSoFar
as_result h = elim (h.result) [
  | None ↦ elim (h.left) [
    | None ↦ elim (h.right) [ None ↦ Some (so_far.Assigned h.f) | Some y ↦ None ]
    | Some x ↦ None
  ]
  | Some z ↦ None
]

abbrev pub takes_arrow : HeaderSoFar → Option HeaderSoFar
takes_arrow so_far.Opened = None
takes_arrow (so_far.Named h) = as_result h
takes_arrow (so_far.Assigned z) = None
takes_arrow (so_far.Semicolon h) = None
takes_arrow (so_far.Local h) = None

abbrev pub takes_semicolon : HeaderSoFar → Option HeaderSoFar
takes_semicolon so_far.Opened = None
takes_semicolon (so_far.Named h) = Some (so_far.Semicolon h)
takes_semicolon (so_far.Assigned z) = None
takes_semicolon (so_far.Semicolon h) = None
takes_semicolon (so_far.Local h) = Some (so_far.Semicolon h)

-- what was read with one word more, where a header goes on with it
abbrev pub takes : HeaderSoFar → Word → Option HeaderSoFar
takes x (word.Numbers zs) = None
takes x (word.Chars zs) = None
takes x (word.Name n) = takes_name x n
takes x (word.Glyph c) = if c == code "←" then takes_arrow x else (if c == code ";" then takes_semicolon x else None)

-- the header, where it may end here
abbrev pub finished : HeaderSoFar → Option Header
finished so_far.Opened = None
finished (so_far.Named h) = Some h
finished (so_far.Assigned z) = None
finished (so_far.Semicolon h) = None
finished (so_far.Local h) = Some h
