-- Two runs, one after the other: what they leave together, where what the second one prints and ends is told from the end
-- of the first one on.
use Rattle.std.proofs.Common.{◌≡◌, ℕ, ◌+◌, ◌-◌, ◌^◌, ◌<◌, ◌≤◌, Bool, List, [], ◌∷◌, ◌++◌, sum_by, Option, Some, None, IsTrue, encode_utf8_all, flat_map, inl, inr, refl, sym, ap, ◌∙◌, subst, append_assoc, append-nil, le_trans, arith}
use Rattle.std.proofs.lemmas.Grind.{flat_map-append}
use Rattle.std.proofs.lemmas.List.{map-append}
use Rattle.std.proofs.lemmas.List.Sums.{sum_by-append}
use Rattle.std.proofs.lemmas.Str.{encodes-append}
use Rattle.apl_outside.specs.Bytes.{Gains}
use Rattle.apl_outside.specs.Faults.{Rose}
use Rattle.apl_outside.proofs.Parts.{gains_then}
use Rattle.apl_print.specs.Bytes.{GainsPrefix}
use Rattle.apl_print.specs.Lines.{cost_line}
use Rattle.apl_print.specs.declared.costs.Cost.{Cost}
use Rattle.apl_model.specs.Evaluation.{State, Ended}
use Rattle.d_machine.specs.Answers.{ComesTo, EndsAt, Scene, StopsBefore, TellsOperations, TracesAll, TracesFirst, lines_of, operations, statements_in}
use Rattle.run_laws.specs.ItemRuns.{behind, Grows}
use Rattle.script_run.specs.ProgramRuns.{Keeps}

-- ---- bytes

-- nothing is gained by no bytes
pub gains-nothing : (a : Option (List ℕ)) → Gains a a []
gains-nothing None = refl
gains-nothing (Some held) = ap Some (sym (append-nil held))

-- all of some bytes and then a front of others is a front of both
pub front-behind : (a b c : Option (List ℕ)) (xs ys : List ℕ) → Gains a b xs → GainsPrefix b c ys → GainsPrefix a c (xs ++ ys)
front-behind a b c xs ys g p = record {
  front = xs ++ p.front;
  rest = p.rest;
  whole = append_assoc xs p.front p.rest ∙ ap (λ zs. xs ++ zs) p.whole;
  gained = gains_then a b c xs p.front g p.gained;
}

-- a front of some bytes is one of more
pub front-of-more : (a b : Option (List ℕ)) (xs ys : List ℕ) → GainsPrefix a b xs → GainsPrefix a b (xs ++ ys)
front-of-more a b xs ys p = record {
  front = p.front;
  rest = p.rest ++ ys;
  whole = sym (append_assoc p.front p.rest ys) ∙ ap (λ zs. zs ++ ys) p.whole;
  gained = p.gained;
}

-- all of some bytes is a front of them
pub front-all : (a b : Option (List ℕ)) (xs : List ℕ) → Gains a b xs → GainsPrefix a b xs
front-all a b xs g = record { front = xs; rest = []; whole = append-nil xs; gained = g }

-- and nothing is
pub front-none : (a : Option (List ℕ)) (xs : List ℕ) → GainsPrefix a a xs
front-none a xs = record { front = []; rest = xs; whole = refl; gained = gains-nothing a }

lines-append : (xs ys : List Cost) → lines_of (xs ++ ys) ≡ lines_of xs ++ lines_of ys
lines-append xs ys = ap encode_utf8_all (flat_map-append cost_line xs ys) ∙ encodes-append (flat_map cost_line xs) (flat_map cost_line ys)

-- ---- counts of faults

-- a count that rose in the second of two runs rose in both together
pub rose-later : (a b c : ℕ) → a ≤ b → Rose b c → Rose a c
rose-later a b c h (inl r) = inl (omega (arith, h, r))
rose-later a b c h (inr r) = inr r

-- and one that rose in the first
pub rose-sooner : (a b c : ℕ) → b ≤ c → Rose a b → Rose a c
rose-sooner a b c h (inl r) = inl (omega (arith, h, r))
rose-sooner a b c h (inr r) = inr (le_trans r h)

-- ---- what stays

pub keeps-same : (a : Scene) → Keeps a a
keeps-same a = record { limit = refl; traced = refl; untraced = λ h. (refl, refl); out_faults = omega (arith); trace_faults = omega (arith) }

pub keeps-then : (a b c : Scene) → Keeps a b → Keeps b c → Keeps a c
keeps-then a b c k l = record {
  limit = l.limit ∙ k.limit;
  traced = l.traced ∙ k.traced;
  untraced = λ h. let m = k.untraced h in let n = l.untraced (k.traced ∙ h) in (n.0 ∙ m.0, n.1 ∙ m.1);
  out_faults = le_trans k.out_faults l.out_faults;
  trace_faults = le_trans k.trace_faults l.trace_faults;
}

-- the trace of the first run is the trace of the second one
traced-on : (a b : Scene) → Keeps a b → IsTrue a.machine.traced → IsTrue b.machine.traced
traced-on a b k h = subst (λ (t : Bool). IsTrue t) (sym k.traced) h

-- ---- the trace

traces-all-then : (a b c : Scene) (xs ys : List Ended) → TracesAll a b xs → TracesAll b c ys → TracesAll a c (xs ++ ys)
traces-all-then a b c xs ys t u = record {
  gained = t.gained ++ u.gained;
  costs = u.costs ∙ ap (λ zs. zs ++ u.gained) t.costs ∙ append_assoc a.machine.costs.items t.gained u.gained;
  statements = map-append _ t.gained u.gained ∙ ap (λ zs. zs ++ statements_in u.gained) t.statements ∙ ap (λ zs. xs ++ zs) u.statements;
  lines = subst (λ (zs : List ℕ). Gains a.trace c.trace zs) (sym (lines-append t.gained u.gained))
      (gains_then a.trace b.trace c.trace (lines_of t.gained) (lines_of u.gained) t.lines u.lines);
}

module _ (Out : Option (List ℕ) → Option (List ℕ) → List ℕ → Type 0)
    (join : (a b c : Option (List ℕ)) (xs ys : List ℕ) → Gains a b xs → Out b c ys → Out a c (xs ++ ys)) where
  traces-first-then : (a b c : Scene) (xs ys : List Ended) → TracesAll a b xs → TracesFirst Out b c ys → TracesFirst Out a c (xs ++ ys)
  traces-first-then a b c xs ys t u = record {
    gained = t.gained ++ u.gained;
    others = u.others;
    costs = u.costs ∙ ap (λ zs. zs ++ u.gained) t.costs ∙ append_assoc a.machine.costs.items t.gained u.gained;
    statements = ap (λ zs. zs ++ u.others) (map-append _ t.gained u.gained) ∙ append_assoc (statements_in t.gained) (statements_in u.gained) u.others
        ∙ ap (λ zs. zs ++ (statements_in u.gained ++ u.others)) t.statements ∙ ap (λ zs. xs ++ zs) u.statements;
    lines = subst (λ (zs : List ℕ). Out a.trace c.trace zs) (sym (lines-append t.gained u.gained))
        (join a.trace b.trace c.trace (lines_of t.gained) (lines_of u.gained) t.lines u.lines);
  }

  -- a run that came to a state, and one from there on that was stopped
  pub stops-then : (a b c : Scene) (s t : State) → Keeps a b → ComesTo a b s → StopsBefore Out b c t → StopsBefore Out a c (behind s t)
  stops-then a b c s t k h u = record {
    printed = subst (λ (zs : List ℕ). GainsPrefix a.out c.out zs) (sym (encodes-append s.printed t.printed))
        (front-behind a.out b.out c.out (encode_utf8_all s.printed) (encode_utf8_all t.printed) h.printed u.printed);
    traced = λ h'. traces-first-then a b c s.ended t.ended (h.traced h') (u.traced (traced-on a b k h'));
  }

-- a run that was stopped before a state was stopped before a later one
pub stops-earlier : (Out : Option (List ℕ) → Option (List ℕ) → List ℕ → Type 0) (a b : Scene) (s t : State) → StopsBefore Out a b s → Grows s t → StopsBefore Out a b t
stops-earlier Out a b s t h g = record {
  printed = subst (λ (zs : List ℕ). GainsPrefix a.out b.out zs) (sym (ap encode_utf8_all g.printed ∙ encodes-append s.printed g.from.printed))
      (front-of-more a.out b.out (encode_utf8_all s.printed) (encode_utf8_all g.from.printed) h.printed);
  traced = λ h'. let t = h.traced h' in record {
    gained = t.gained;
    others = t.others ++ g.from.ended;
    costs = t.costs;
    statements = sym (append_assoc (statements_in t.gained) t.others g.from.ended) ∙ ap (λ zs. zs ++ g.from.ended) t.statements ∙ sym g.ended;
    lines = t.lines;
  };
}

-- ---- a run that came to a state, and another one from there on

pub comes-then : (a b c : Scene) (s t : State) → Keeps a b → ComesTo a b s → ComesTo b c t → ComesTo a c (behind s t)
comes-then a b c s t k h u = record {
  rest = u.rest;
  variables = u.variables;
  turns = u.turns;
  begun = u.begun;
  printed = subst (λ (zs : List ℕ). Gains a.out c.out zs) (sym (encodes-append s.printed t.printed))
      (gains_then a.out b.out c.out (encode_utf8_all s.printed) (encode_utf8_all t.printed) h.printed u.printed);
  traced = λ h'. traces-all-then a b c s.ended t.ended (h.traced h') (u.traced (traced-on a b k h'));
}

-- the entries that came tell of every operation, as those of both runs do
operations-then : (a b c : Scene) (xs ys : List Cost) → b.machine.costs.items ≡ a.machine.costs.items ++ xs → c.machine.costs.items ≡ b.machine.costs.items ++ ys
    → TellsOperations a b → TellsOperations b c → TellsOperations a c
operations-then a b c xs ys e f t u gained g bound =
    let later : operations c.machine ≡ operations b.machine + sum_by (λ k. k.ops) ys = u ys f bound in
    let below : operations b.machine < 2 ^ 64 - 1 = omega (arith, later, bound) in
    let earlier : operations b.machine ≡ operations a.machine + sum_by (λ k. k.ops) xs = t xs e below in
    let both : xs ++ ys ≡ gained = append-left a.machine.costs.items (xs ++ ys) gained
    (sym (append_assoc a.machine.costs.items xs ys) ∙ ap (λ zs. zs ++ ys) (sym e) ∙ sym f ∙ g) in
    let sums : sum_by (λ k. k.ops) gained ≡ sum_by (λ k. k.ops) xs + sum_by (λ k. k.ops) ys =
    ap (λ zs. sum_by (λ (k : Cost). k.ops) zs) (sym both) ∙ sum_by-append (λ (k : Cost). k.ops) xs ys in
    omega (arith, later, earlier, sums)
  where
    append-left : (zs xs ys : List Cost) → zs ++ xs ≡ zs ++ ys → xs ≡ ys
    append-left [] xs ys e = e
    append-left (z ∷ zs) xs ys e = append-left zs xs ys (ap rest e)
      where
        rest : List Cost → List Cost
        rest [] = []
        rest (y ∷ ys) = ys

pub ends-then : (a b c : Scene) (s t : State) → Keeps a b → EndsAt a b s → EndsAt b c t → EndsAt a c (behind s t)
ends-then a b c s t k h u = record {
  comes = comes-then a b c s t k h.comes u.comes;
  operations = λ h'.
      let on = traced-on a b k h' in
      let first = h.comes.traced h' in
      let second = u.comes.traced on in
      operations-then a b c first.gained second.gained first.costs second.costs (h.operations h') (u.operations on);
}
