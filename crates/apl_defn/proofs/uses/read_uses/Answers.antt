use Rattle.std.proofs.Common.{◌≡◌, ◌∷◌, ◌++◌, List, Option, None, Some, length, drop, sym, ap, arith, subst, ◌∙◌}
use Rattle.std.specs.Option.{option_copied, option_to_list}
use Rattle.apl_model.specs.Script.{parts, alone, defined}
use Rattle.apl_model.specs.declared.scripts.Header.{Header}
use Rattle.apl_defn.proofs.FormLemmas.{read_part}
use Rattle.apl_defn.proofs.UseLemmas.{uses_alone, uses_defined, next_header, part_among}
use Rattle.apl_defn.specs.Parts.{part_of}
use Rattle.apl_defn.specs.Passes.{AreHeaders}
use Rattle.apl_defn.proofs.uses.read_uses.Goals as goal
use Rattle.apl_defn.proofs.uses.read_uses.Goals.{in_default-2-via-in-Some+in_default, in_default-2-via-in_default}

same_rest : {h k : Header} {xs ys : List Header} → h ∷ xs ≡ k ∷ ys → xs ≡ ys
same_rest e = cc

-- where there is a first header, it is taken
one_taken : (h : Header) (left all rest : List Header) (o : Option Header) → all ≡ h ∷ left → all ≡ option_to_list o ++ rest → rest ≡ drop 1 all → o ≡ None → ⊥
one_taken h left all rest o e f g n =
    let a : all ≡ rest = f ∙ ap (λ v. option_to_list v ++ rest) n in
    let b : rest ≡ left = g ∙ ap (λ v. drop 1 v) e in
    let c = ap length (sym e ∙ a ∙ b) in
    omega arith

pub add_outside-requires : goal.add_outside-requires
add_outside-requires c =
    let ls = c.args.lines.now in
    let rest = c.loop-part.parts.rest.now in
    let more = c.next.new.self.rest.now in
    let e = subst (λ p. parts rest ≡ part_of p ∷ parts more) c.in-Alone.is c.in-Some.ensures.parts in
    read_part ls (alone c.in-Alone.line.now) c.requires.read
    (part_among c.args.lookup.now ls rest more c.loop-part.uses c.loop-part.uses (alone c.in-Alone.line.now) c.loop-part.headers.items e c.loop-part.invariant)

pub loop-part-preserved-in-Continue-1 : goal.loop-part-preserved-in-Continue-1
loop-part-preserved-in-Continue-1 c =
    let ls = c.args.lines.now in
    let rest = c.loop-part.parts.rest.now in
    let more = c.next.new.self.rest.now in
    let e = subst (λ p. parts rest ≡ part_of p ∷ parts more) c.in-Alone.is c.in-Some.ensures.parts in
    uses_alone c.args.lookup.now ls rest more c.loop-part.uses c.add_outside.new.self c.in-Alone.line.now c.loop-part.headers.items e c.loop-part.invariant c.in_ok-add_outside-in-Alone.ensures

pub add_definition-requires-clause-read : goal.add_definition-requires-clause-read
add_definition-requires-clause-read c =
    let ls = c.args.lines.now in
    let rest = c.loop-part.parts.rest.now in
    let more = c.next.new.self.rest.now in
    let e = subst (λ p. parts rest ≡ part_of p ∷ parts more) c.in-Defined.is c.in-Some.ensures.parts in
    let p = defined c.in-Defined.first.now c.in-Defined.body.now (option_copied c.in-Defined.last) in
    (read_part ls p c.requires.read (part_among c.args.lookup.now ls rest more c.loop-part.uses c.loop-part.uses p c.loop-part.headers.items e c.loop-part.invariant)).2

pub loop-part-preserved : goal.loop-part-preserved
loop-part-preserved c =
    let hs = c.args.lookup.now in
    let ls = c.args.lines.now in
    let rest = c.loop-part.parts.rest.now in
    let more = c.next.new.self.rest.now in
    let u = c.loop-part.uses in
    let top = c.in-Defined.first.now in
    let body = c.in-Defined.body.now in
    let e = subst (λ p. parts rest ≡ part_of p ∷ parts more) c.in-Defined.is c.in-Some.ensures.parts in
    let f = subst (λ l. parts rest ≡ defined top body (option_copied l) ∷ parts more) c.in-Some-Some.is-1 e in
    let n = next_header hs ls rest more u u top body (Some c.in-Some-Some.last.now) c.loop-part.headers.items f c.loop-part.invariant in
    let left : n.1 ≡ c.pop_front.new.self.items = same_rest (sym n.2 ∙ c.in-Some-Some.ensures.items) in
    uses_defined hs ls rest more u c.add_definition.new.self top body (Some c.in-Some-Some.last.now) c.loop-part.headers.items c.pop_front.new.self.items f c.loop-part.invariant
    (subst (λ v. AreHeaders (parts more) v) left n.4) c.in_ok-add_definition-in-Some-Some.ensures

pub unreachable-requires : goal.unreachable-requires
unreachable-requires c =
    let hs = c.args.lookup.now in
    let ls = c.args.lines.now in
    let rest = c.loop-part.parts.rest.now in
    let more = c.next.new.self.rest.now in
    let u = c.loop-part.uses in
    let top = c.in-Defined.first.now in
    let body = c.in-Defined.body.now in
    let e = subst (λ p. parts rest ≡ part_of p ∷ parts more) c.in-Defined.is c.in-Some.ensures.parts in
    elim c.in_default-2.branch [
      | in_default-2-via-in-Some+in_default w ↦
          (let f = subst (λ l. parts rest ≡ defined top body (option_copied l) ∷ parts more) w.in_default-2.is-1 e in
          c.requires.closed top body (part_among hs ls rest more u u (defined top body None) c.loop-part.headers.items f c.loop-part.invariant))
      | in_default-2-via-in_default w ↦
          (let n = next_header hs ls rest more u u top body (option_copied c.in-Defined.last) c.loop-part.headers.items e c.loop-part.invariant in
          one_taken n.0 n.1 c.loop-part.headers.items c.pop_front.new.self.items c.pop_front.result n.2 c.pop_front.ensures.items c.pop_front.ensures.rest w.in_default-2.is-0)
    ]
