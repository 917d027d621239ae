use Rattle.std.proofs.Common.{◌≡◌, ap, ◌∙◌, sym, take, drop, Some, arith}
use Rattle.std.proofs.lemmas.List.{take_rest}
use Rattle.apl_outside.specs.Memory.{SourceState}
use Rattle.apl_outside.proofs.Parts.{front_given}
use Rattle.apl_outside.proofs.memory_source.MemSourceSource.pull.Goals as goal

pub returns-clause-taken : goal.returns-clause-taken
returns-clause-taken c =
    let at = c.self.inside.at in
    let bytes = c.self.inside.bytes.items in
    let now : drop at bytes ≡ c.args.self.now.left = ap (λ (s : SourceState). s.left) c.self.view_is in
    let copied : c.copy_from_slice.new.self ≡ take c.min-count.result (drop at bytes) = rw (take_rest, c.deref-2.ensures.value) at c.copy_from_slice.ensures.after in
    let rest = rw (take_rest, c.deref-2.ensures.value) at c.min.ensures in
    ap Some (sym now ∙ front_given bytes c.copy_from_slice.new.self c.args.buf.now at c.min-count.result copied (omega (arith, rest, c.min-count.ensures)))
