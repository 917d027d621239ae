use Rattle.std.proofs.Common.{◌≡◌, ◌<◌, ◌⊎◌, ℕ, subst, arith}
use Rattle.leaf_names.specs.Variables.{array_of}
use Rattle.made_fns.specs.Answers.{GoesAlong}
use Rattle.made_fns.proofs.SpaceLemmas.{spaced_domain, spaced_goes}
use Rattle.made_fns.proofs.spaces.bits_axis.Goals as goal

pub returns-then-not-are_bits-clause-refused : goal.returns-then-not-are_bits-clause-refused
returns-then-not-are_bits-clause-refused c =
    spaced_domain c.args.axis c.in_ok-along.along (array_of c.args.store.now c.args.a.now) (array_of c.args.store.now c.args.b.now) _ (omega (arith, c.rank.ensures.value, c.if-rank-gt1.false)) (subst (λ (r : ℕ). GoesAlong c.args.axis r c.in_ok-along.along) c.rank-rank_of_b.ensures.value (λ make. c.in_ok-along.ensures.along make)) c.are_bits.ensures.value c.if-not-are_bits.true

pub returns-clause-within : goal.returns-clause-within
returns-clause-within c =
    subst (λ (r : ℕ). (c.in_ok-along.along < r) ⊎ ((r ≡ 0) × (c.in_ok-along.along ≡ 0))) c.rank-rank_of_b.ensures.value c.in_ok-along.ensures.within

pub returns-clause-array : goal.returns-clause-array
returns-clause-array c =
    spaced_goes c.args.axis c.in_ok-along.along (array_of c.args.store.now c.args.a.now) (array_of c.args.store.now c.args.b.now) _ (omega (arith, c.rank.ensures.value, c.if-rank-gt1.false)) (subst (λ (r : ℕ). GoesAlong c.args.axis r c.in_ok-along.along) c.rank-rank_of_b.ensures.value (λ make. c.in_ok-along.ensures.along make)) c.are_bits.ensures.value c.if-not-are_bits.false
