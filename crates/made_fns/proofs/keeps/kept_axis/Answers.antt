use Rattle.std.proofs.Common.{◌≡◌, ◌<◌, ◌⊎◌, ℕ, subst, arith}
use Rattle.leaf_names.specs.Variables.{array_of}
use Rattle.made_fns.specs.Answers.{GoesAlong}
use Rattle.made_fns.proofs.Lengths.{length-array_of}
use Rattle.made_fns.proofs.KeepLemmas.{kept_length, kept_domain, kept_is, can_keep}
use Rattle.made_fns.proofs.keeps.kept_axis.Goals as goal

pub returns-then-not-fits-clause-refused : goal.returns-then-not-fits-clause-refused
returns-then-not-fits-clause-refused c =
    kept_length c.args.axis c.in_ok-along.along (array_of c.args.store.now c.args.a.now) (array_of c.args.store.now c.args.b.now) _ (omega (arith, c.rank.ensures.value, c.if-rank-gt1.false)) (subst (λ (r : ℕ). GoesAlong c.args.axis r c.in_ok-along.along) c.rank-rank_of_b.ensures.value (λ make. c.in_ok-along.ensures.along make)) c.fits.ensures c.if-not-fits.true

pub returns-then-not-are_bits-clause-refused : goal.returns-then-not-are_bits-clause-refused
returns-then-not-are_bits-clause-refused c =
    kept_domain c.args.axis c.in_ok-along.along (array_of c.args.store.now c.args.a.now) (array_of c.args.store.now c.args.b.now) _ _ (omega (arith, c.rank.ensures.value, c.if-rank-gt1.false)) (subst (λ (r : ℕ). GoesAlong c.args.axis r c.in_ok-along.along) c.rank-rank_of_b.ensures.value (λ make. c.in_ok-along.ensures.along make)) c.fits.ensures c.if-not-fits.false c.are_bits.ensures.value c.if-not-are_bits.true

pub returns-clause-can : goal.returns-clause-can
returns-clause-can c = λ s.
    can_keep c.in_ok-along.along (array_of s c.args.a.now) (array_of s c.args.b.now) _ (length-array_of s c.args.a.now) (subst (λ (r : ℕ). (c.in_ok-along.along < r) ⊎ ((r ≡ 0) × (c.in_ok-along.along ≡ 0))) c.rank-rank_of_b.ensures.value c.in_ok-along.ensures.within) c.fits.ensures c.if-not-fits.false

pub returns-clause-array : goal.returns-clause-array
returns-clause-array c =
    kept_is c.args.axis c.in_ok-along.along (array_of c.args.store.now c.args.a.now) (array_of c.args.store.now c.args.b.now) _ _ (omega (arith, c.rank.ensures.value, c.if-rank-gt1.false)) (subst (λ (r : ℕ). GoesAlong c.args.axis r c.in_ok-along.along) c.rank-rank_of_b.ensures.value (λ make. c.in_ok-along.ensures.along make)) c.fits.ensures c.if-not-fits.false c.are_bits.ensures.value c.if-not-are_bits.false
