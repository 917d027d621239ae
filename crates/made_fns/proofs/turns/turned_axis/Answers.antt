use Rattle.std.proofs.Common.{◌≡◌, ℕ, pos, Err, sym, ◌∙◌, subst}
use Rattle.apl_base.specs.declared.faults.ErrorKind.{ErrorKind}
use Rattle.array_store.specs.Stores.{StoreView}
use Rattle.apl_model.specs.Made.{rotated}
use Rattle.leaf_names.specs.Variables.{array_of}
use Rattle.made_fns.specs.Answers.{GoesAlong}
use Rattle.made_fns.proofs.Finish.{by_error}
use Rattle.made_fns.proofs.TurnLemmas.{rotated_text, rotated_is}
use Rattle.made_fns.proofs.turns.turned_axis.Goals as goal

pub returns-in_err-fit-clause-refused : goal.returns-in_err-fit-clause-refused
returns-in_err-fit-clause-refused c =
    by_error (λ (kind : ErrorKind). (store : StoreView) → rotated (pos 1) c.args.axis (array_of store c.args.a.now) (array_of store c.args.b.now) ≡ Err kind) c.from_residual-in_err-fit.result _ c.from_residual-in_err-fit.ensures.1
    (λ store. c.in_err-fit.ensures.refused c.args.axis store (subst (λ (r : ℕ). GoesAlong c.args.axis r c.in_ok-along.along) c.rank.ensures.value (λ make. c.in_ok-along.ensures.along make)))

pub returns-then-is_text-clause-refused : goal.returns-then-is_text-clause-refused
returns-then-is_text-clause-refused c = λ store.
    rotated_text c.args.axis c.in_ok-along.along (array_of store c.args.a.now) (array_of store c.args.b.now) (subst (λ (r : ℕ). GoesAlong c.args.axis r c.in_ok-along.along) c.rank.ensures.value (λ make. c.in_ok-along.ensures.along make)) c.in_ok-fit.ensures.ranks c.in_ok-fit.ensures.fits (sym (c.is_text.ensures store) ∙ c.if-is_text.true)

pub returns-clause-array : goal.returns-clause-array
returns-clause-array c = λ store.
    rotated_is c.args.axis c.in_ok-along.along (array_of store c.args.a.now) (array_of store c.args.b.now) (subst (λ (r : ℕ). GoesAlong c.args.axis r c.in_ok-along.along) c.rank.ensures.value (λ make. c.in_ok-along.ensures.along make)) c.in_ok-fit.ensures.ranks c.in_ok-fit.ensures.fits (sym (c.is_text.ensures store) ∙ c.if-is_text.false)
