use Rattle.std.proofs.Common.{rules, length, vec_len, ◌≡◌, ◌∙◌, refl, arith}
use mir.Syntax.{w128}
use Rattle.std.proofs.lemmas.Int.{to_z-of_z}
use Rattle.store_use.proofs.Rounds.{rounded}
use Rattle.store_use.proofs.written_and_let_go.Goals as goal

pub returns-clause-read : goal.returns-clause-read
returns-clause-read c =
    let round = rounded _ _ _ _ _ _ _ _ _ _ _ _ (record { makes = c.in_ok-owner.ensures.made; one_holder = refl; holds = c.hold.ensures.held; lets_go = c.release.ensures.kept; writes = c.write.ensures.written; reads = c.fetch-read.ensures.counted; frees = c.release-2.ensures.freed }) in
    let len : length c.args.cells.items ≡ vec_len c.args.cells = search rules in
    to_z-of_z w128 _ (record { sfits = c.fetch-read.type_inv }) ∙ c.fetch-read.ensures.value ∙ round.cell_read (omega (arith, len, c.requires.in_range)) ∙ to_z-of_z w128 _ c.ranges.cell

pub returns-clause-owners : goal.returns-clause-owners
returns-clause-owners c =
    let round = rounded _ _ _ _ _ _ _ _ _ _ _ _ (record { makes = c.in_ok-owner.ensures.made; one_holder = refl; holds = c.hold.ensures.held; lets_go = c.release.ensures.kept; writes = c.write.ensures.written; reads = c.fetch-read.ensures.counted; frees = c.release-2.ensures.freed }) in
    round.owners

pub returns-clause-live : goal.returns-clause-live
returns-clause-live c =
    let round = rounded _ _ _ _ _ _ _ _ _ _ _ _ (record { makes = c.in_ok-owner.ensures.made; one_holder = refl; holds = c.hold.ensures.held; lets_go = c.release.ensures.kept; writes = c.write.ensures.written; reads = c.fetch-read.ensures.counted; frees = c.release-2.ensures.freed }) in
    round.live
