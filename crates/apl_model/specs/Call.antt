-- Calls, their lines and their turns, for any kind of statement that has a meaning, any values and any states.
use Rattle.std.specs.Prelude.{ℕ, zero, suc, ℤ, ◌+ℤ◌, pos, negsuc, List, map, slice_get, Option, Some, None}
use Rattle.std.specs.List.{find}
use Rattle.apl_base.specs.declared.faults.ErrorKind.TheVariants as error
use Rattle.apl_base.specs.declared.faults.Place.{Place}
use Rattle.apl_model.specs.declared.scripts.Command.{Command}
use Rattle.apl_model.specs.declared.scripts.Header.{Header}
use Rattle.apl_model.specs.Environment.{is_same_name}
use Rattle.apl_model.specs.Order.{CallsOf}
use Rattle.apl_model.specs.Outcome.{Outcome, done, fails, spent, and_then, Flow, onwards, to_line}

-- a line of a function's body: the number of its line in the script, its label, and what it does
pub record RoutineLine (T : Type 0) : Type 0 where
  pub line : ℕ
  pub label : Option (List ℕ)
  pub statement : T

-- a function: its header and the lines of its body
pub record Routine (T : Type 0) : Type 0 where
  pub header : Header
  pub body : List (RoutineLine T)

-- the labels of a body, line by line
abbrev pub labels_of : {T : Type 0} → List (RoutineLine T) → List (Option (List ℕ))
labels_of body = map (λ l. l.label) body

-- what turns, calls and commands do to a state of a type S, with values of a type V
pub record States (S V : Type 0) : Type 0 where
  -- how many statements may still begin, and how many have
  pub turns : S → ℕ
  pub begun : S → ℕ
  -- a statement begins, and so many more may
  pub begin : ℕ → S → S
  -- a statement ends: its line in the script, and its number among the statements begun
  pub end : ℕ → ℕ → S → S
  -- a call begins: the function's header and labels, its left and its right argument
  pub enter : Header → List (Option (List ℕ)) → Option V → Option V → S → S
  -- the value of the result's name, where the header has one
  pub result : Option (List ℕ) → S → Option V
  -- a call ends
  pub leave : S → S
  -- all calls end
  pub unwind : S → S
  -- a text is printed
  pub tell : List ℕ → S → S
  -- a command; the names are those that head a definition
  pub obey : List (List ℕ) → Command → S → S

-- the line of this number, counted from 1
abbrev pub line_at : {T : Type 0} → List (RoutineLine T) → ℤ → Option (RoutineLine T)
line_at body (pos zero) = None
line_at body (pos (suc k)) = slice_get body k
line_at body (negsuc k) = None

-- the number of the line that follows line k
abbrev pub next_line : ℤ → Flow → ℤ
next_line k onwards = k +ℤ pos 1
next_line k (to_line n) = n

-- the function of this name, if it is one
abbrev pub routine_of : {T : Type 0} → List (Routine T) → List ℕ → Option (Routine T)
routine_of routines f = find (λ r. is_same_name r.header.f f) routines

module _ {S V : Type 0} (M : States S V) where
  -- a statement that ended, well or by an error, is entered; one that a spent budget cut off is not
  abbrev pub entered : {A : Type 0} → ℕ → ℕ → Outcome S A → Outcome S A
  entered line number (done a s) = done a (M.end line number s)
  entered line number (fails kind place s) = fails kind place (M.end line number s)
  entered line number (spent s) = spent s

  -- A turn is one statement begun, also an empty one. With no turns left it is not begun.
  abbrev pub turn : {A : Type 0} → ℕ → ℕ → (S → Outcome S A) → S → Outcome S A
  turn line zero act s = spent s
  turn line (suc left) act s = entered line (suc (M.begun s)) (act (M.begin left s))

  -- a turn of those that are left
  abbrev pub on_turn : {A : Type 0} → ℕ → (S → Outcome S A) → S → Outcome S A
  on_turn line act s = turn line (M.turns s) act s

module _ {S V T : Type 0} (M : States S V) (meaning : CallsOf S V → T → S → Outcome S Flow) where
  -- a line, where there is one, takes a turn and says which line is next; a number that is no line ends the call
  abbrev pub run_line : CallsOf S V → Option (RoutineLine T) → S → (Flow → S → Outcome S (Unit {0})) → Outcome S (Unit {0})
  run_line calls None s next = done tt s
  run_line calls (Some l) s next = and_then (on_turn M l.line (meaning calls l.statement) s) next

  -- The lines of a body from number k on. As each takes a turn, there are at most so many of them as turns are
  -- left.
  abbrev pub run_lines : CallsOf S V → List (RoutineLine T) → ℕ → ℤ → S → Outcome S (Unit {0})
  run_lines calls body zero k s = run_line calls (line_at body k) s (λ flow t. spent t)
  run_lines calls body (suc n) k s = run_line calls (line_at body k) s (λ flow t. run_lines calls body n (next_line k flow) t)

  -- A call makes its frame, runs the body from line 1, and gives the value that the result's name then has.
  abbrev pub run_routine : CallsOf S V → Routine T → Option V → Option V → S → Outcome S (Option V)
  run_routine calls r left right s =
      let inside = M.enter r.header (labels_of r.body) left right s in
      and_then (run_lines calls r.body (M.turns s) (pos 1) inside) (λ _ t. done (M.result r.header.result t) (M.leave t))

  -- a name that heads no definition has no value (it stands in no accepted script)
  abbrev pub run_found : CallsOf S V → Option (Routine T) → Place → Option V → Option V → S → Outcome S (Option V)
  run_found calls None place left right s = fails error.Value place s
  run_found calls (Some r) place left right s = run_routine calls r left right s

  -- what a call means while so many more calls may be pending; beyond them it is a DEPTH ERROR at its name
  abbrev pub call_within : List (Routine T) → ℕ → CallsOf S V
  call_within routines zero f place left right s = fails error.Depth place s
  call_within routines (suc n) f place left right s =
      run_found (call_within routines n) (routine_of routines f) place left right s

  -- 256 calls may be pending
  abbrev pub calls_of : List (Routine T) → CallsOf S V
  calls_of routines = call_within routines 256
