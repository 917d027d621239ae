use Rattle.std.proofs.Common.{◌≡◌, ℕ, ℤ, List, [], ◌∷◌, ◌++◌, sym, ap, ◌∙◌}
use Rattle.apl_base.specs.Array.{Array}
use Rattle.apl_model.specs.Evaluation.{literal_shape}
use Rattle.pending_steps.proofs.LiteralLemmas.{literal_stands, many_shape}
use Rattle.pending_steps.proofs.literals.stored_literal.Goals as goal

pub returns-clause-stands : goal.returns-clause-stands
returns-clause-stands c =
    let literal = c.args.literal.now in
    let cells : c.extend_from_slice.new.self.items ≡ literal.cells = c.in-Ok-extend_from_slice.ensures.items ∙ ap (λ (zs : List ℤ). zs ++ c.as_slice.result.now) c.in-Ok.ensures.empty ∙ c.as_slice.ensures in
    let shape : c.vector_shape-shape.result ≡ literal_shape literal.cells = c.vector_shape-shape.ensures ∙ ap (λ (n : ℕ). n ∷ []) c.len-count.ensures ∙ sym (many_shape literal.cells c.requires.many) in
    let is =
    ap (λ (ns : List ℕ). let a : Array = record { kind = literal.kind; shape = ns; cells = c.extend_from_slice.new.self.items } in a) shape
    ∙ ap (λ (zs : List ℤ). let a : Array = record { kind = literal.kind; shape = literal_shape literal.cells; cells = zs } in a) cells in
    literal_stands c.args.store.now c.make_leaf.new.store literal _ c.in_ok-make_leaf.field-0 is c.in_ok-make_leaf.ensures.made
