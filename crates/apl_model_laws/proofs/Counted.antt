-- Each part of a run keeps its turns, and takes back nothing that was printed.
use Rattle.std.proofs.Common.{◌≡◌, ℕ, suc, List, [], ◌∷◌, ◌++◌, length, map, Option, refl, sym, ap, ◌∙◌, arith, append_assoc, append-nil}
use Rattle.std.specs.List.{filter_map}
use Rattle.apl_base.specs.declared.faults.Place.{Place}
use Rattle.apl_base.specs.Array.{Array}
use Rattle.apl_model.specs.Call.{Routine, calls_of}
use Rattle.apl_model.specs.Frames.{with_turn, with_ended}
use Rattle.apl_model.specs.Evaluation.{State, Calls, statement_flow}
use Rattle.apl_model.specs.Immediate.{of_states, run_items, routine, report, definitions_of, step_of, well, beginning}
use Rattle.apl_model.specs.Tree.{Statement, Script, Item, Definition}
use Rattle.apl_model_laws.specs.Turns.{TakesTurns, CallsKeepTurns, ExpressionsKeepTurns, PositionsKeepTurns, StatementsKeepTurns, FunctionsKeepTurns, RunsKeepTurns, ImmediateEndsAtMost}
use Rattle.apl_model_laws.specs.Printing.{BeginsWith, CallsKeepPrinted, ExpressionsKeepPrinted, StatementsKeepPrinted, FunctionsKeepPrinted}
use Rattle.apl_model_laws.proofs.Kept.{IsKept, Leads, leads_value, leads_positions, leads_statement, leads_call, run_kept}

length_one_more : {A : Type 0} (xs : List A) (x : A) → length (xs ++ x ∷ []) ≡ suc (length xs)
length_one_more [] x = refl
length_one_more (y ∷ ys) x = ap (λ n. suc n) (length_one_more ys x)

turns_over : (s t : State) (left line number : ℕ) → s.turns ≡ suc left → TakesTurns (with_turn left s) t → TakesTurns s (with_ended line number t)
turns_over s t left line number e h =
    let l = length_one_more t.ended (record { line = line; begun = number }) in
    record { turns = omega (arith, h.turns, e); begun = omega (arith, h.begun); ended = omega (arith, l, h.ended) }

pub turns_kept : IsKept TakesTurns
turns_kept = record {
  same = λ s. record { turns = refl; begun = omega arith; ended = omega arith };
  onward = λ s t u a b. record { turns = b.turns ∙ a.turns; begun = omega (arith, a.begun, b.begun); ended = omega (arith, a.ended, b.ended) };
  variables = λ s e. record { turns = refl; begun = omega arith; ended = omega arith };
  printed = λ s text. record { turns = refl; begun = omega arith; ended = omega arith };
  cut = λ s t left e h. record { turns = omega (arith, h.turns, e); begun = omega (arith, h.begun); ended = omega (arith, h.ended) };
  over = turns_over;
}

-- a relation of what is printed alone
pub record Grows (s t : State) : Type 0 where
  pub grows : BeginsWith t.printed s.printed

begins_self : (text : List ℕ) → BeginsWith text text
begins_self text = ([], sym (append-nil text))

pub begins_onward : (a b c : List ℕ) → BeginsWith b a → BeginsWith c b → BeginsWith c a
begins_onward a b c f g = (f.0 ++ g.0, g.1 ∙ ap (λ x. x ++ g.0) f.1 ∙ append_assoc a f.0 g.0)

pub printed_kept : IsKept Grows
printed_kept = record {
  same = λ s. record { grows = begins_self s.printed };
  onward = λ s t u a b. record { grows = begins_onward s.printed t.printed u.printed a.grows b.grows };
  variables = λ s e. record { grows = begins_self s.printed };
  printed = λ s text. record { grows = (text, refl) };
  cut = λ s t left e h. record { grows = h.grows };
  over = λ s t left line number e h. record { grows = h.grows };
}

-- ---- the laws of turns

calls_lead : (calls : Calls) → CallsKeepTurns calls → (f : List ℕ) (place : Place) (left right : Option Array) (s : State) → Leads TakesTurns s (calls f place left right s)
calls_lead calls h f place left right s = record { to = h f place left right s }

pub expressions_keep_turns : ExpressionsKeepTurns
expressions_keep_turns calls h t s = (leads_value TakesTurns turns_kept calls (calls_lead calls h) t s).to

pub positions_keep_turns : PositionsKeepTurns
positions_keep_turns calls h qs s = (leads_positions TakesTurns turns_kept calls (calls_lead calls h) qs s).to

pub statements_keep_turns : StatementsKeepTurns
statements_keep_turns calls h t s = (leads_statement TakesTurns turns_kept calls (calls_lead calls h) t s).to

pub functions_keep_turns : FunctionsKeepTurns
functions_keep_turns routines n f place left right s =
    (leads_call Statement statement_flow TakesTurns turns_kept (leads_statement TakesTurns turns_kept) routines n f place left right s).to

-- the run of items keeps every relation that each step keeps
pub items_kept : (R : State → State → Type 0) → IsKept R → (script : Script) (items : List Item) (n : ℕ) → R (beginning n) (run_items script items n).state
items_kept R k script items n =
    let definitions : List Definition = definitions_of script.items in
    let routines : List (Routine Statement) = map routine definitions in
    run_kept Statement (statement_flow (calls_of of_states statement_flow routines)) (map (λ d. d.header.f) definitions) (report script) R k
    (leads_statement R k (calls_of of_states statement_flow routines) (leads_call Statement statement_flow R k (leads_statement R k) routines 256))
    (filter_map step_of items) well (beginning n)

pub runs_keep_turns : RunsKeepTurns
runs_keep_turns script items n =
    let h = items_kept TakesTurns turns_kept script items n in
    record { turns = omega (arith, h.turns); ended = omega (arith, h.ended) }

pub immediate_ends_at_most : ImmediateEndsAtMost
immediate_ends_at_most script n =
    let h = runs_keep_turns script script.items n in omega (arith, h.turns, h.ended)

-- ---- the laws of what stays printed

calls_grow : (calls : Calls) → CallsKeepPrinted calls → (f : List ℕ) (place : Place) (left right : Option Array) (s : State) → Leads Grows s (calls f place left right s)
calls_grow calls h f place left right s = record { to = record { grows = h f place left right s } }

pub expressions_keep_printed : ExpressionsKeepPrinted
expressions_keep_printed calls h t s = (leads_value Grows printed_kept calls (calls_grow calls h) t s).to.grows

pub statements_keep_printed : StatementsKeepPrinted
statements_keep_printed calls h t s = (leads_statement Grows printed_kept calls (calls_grow calls h) t s).to.grows

pub functions_keep_printed : FunctionsKeepPrinted
functions_keep_printed routines n f place left right s =
    (leads_call Statement statement_flow Grows printed_kept (leads_statement Grows printed_kept) routines n f place left right s).to.grows
