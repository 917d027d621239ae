use mir.Syntax.{w128}
use Rattle.std.proofs.Common.{rules, ℤ, List, length, vec_len, get_or, pos, ◌≡◌, ◌<◌, ap, ◌∙◌, refl, arith, length-set}
use Rattle.std.proofs.lemmas.Int.{to_z-of_z}
use Rattle.std.proofs.lemmas.List.{get_or-set_same}
use Rattle.array_store.specs.Stores.{OwnerView}
use Rattle.array_store.proofs.StoreLemmas.{owner_of-found}
use Rattle.store_use.proofs.TwoOwners.{HasTwo-used, HasTwo-counted, HasOne-freed, owners-freed, live-freed}
use Rattle.store_use.proofs.side_by_side.Goals as goal

pub fetch-kept-requires : goal.fetch-kept-requires
fetch-kept-requires c =
    let two = HasTwo-used _ _ _ _ _ _ _ _ _ _ _ _ refl c.in_ok-first.ensures.made c.in-Ok.ensures.made c.hold.ensures.held c.write.ensures.written c.release-2.ensures.kept in
    let cells = ap (λ (o : OwnerView). length o.cells) (owner_of-found c.release-2.new.self c.in_ok-first.first _ two.first) in
    let len : length c.args.left.items ≡ vec_len c.args.left = search rules in
    omega (arith, cells, len, c.requires.in_left)

pub fetch-written-requires : goal.fetch-written-requires
fetch-written-requires c =
    let two = HasTwo-used _ _ _ _ _ _ _ _ _ _ _ _ refl c.in_ok-first.ensures.made c.in-Ok.ensures.made c.hold.ensures.held c.write.ensures.written c.release-2.ensures.kept in
    let two' = HasTwo-counted _ _ _ _ _ _ _ _ two c.fetch-kept.ensures.counted in
    let cells = ap (λ (o : OwnerView). length o.cells) (owner_of-found c.fetch-kept.new.self c.in-Ok.second _ two'.second) in
    let len : length c.args.right.items ≡ vec_len c.args.right = search rules in
    omega (arith, cells, len, c.requires.in_right, length-set {A = ℤ})

pub release-requires-3 : goal.release-requires-3
release-requires-3 c =
    let two = HasTwo-used _ _ _ _ _ _ _ _ _ _ _ _ refl c.in_ok-first.ensures.made c.in-Ok.ensures.made c.hold.ensures.held c.write.ensures.written c.release-2.ensures.kept in
    let two' = HasTwo-counted _ _ _ _ _ _ _ _ two c.fetch-kept.ensures.counted in
    let two'' = HasTwo-counted _ _ _ _ _ _ _ _ two' c.fetch-written.ensures.counted in
    let first = ap (λ (o : OwnerView). o.holders) (owner_of-found c.fetch-written.new.self c.in_ok-first.first _ two''.first) in
    omega (arith, first)

pub release-requires-4 : goal.release-requires-4
release-requires-4 c =
    let two = HasTwo-used _ _ _ _ _ _ _ _ _ _ _ _ refl c.in_ok-first.ensures.made c.in-Ok.ensures.made c.hold.ensures.held c.write.ensures.written c.release-2.ensures.kept in
    let two' = HasTwo-counted _ _ _ _ _ _ _ _ two c.fetch-kept.ensures.counted in
    let two'' = HasTwo-counted _ _ _ _ _ _ _ _ two' c.fetch-written.ensures.counted in
    let first = ap (λ (o : OwnerView). o.holders) (owner_of-found c.fetch-written.new.self c.in_ok-first.first _ two''.first) in
    let one = HasOne-freed _ _ _ _ _ _ _ two'' (c.release-3.ensures.freed first) in
    let second = ap (λ (o : OwnerView). o.holders) (owner_of-found c.release-3.new.self c.in-Ok.second _ one.owner) in
    omega (arith, second)

pub returns-clause-left : goal.returns-clause-left
returns-clause-left c =
    let two = HasTwo-used _ _ _ _ _ _ _ _ _ _ _ _ refl c.in_ok-first.ensures.made c.in-Ok.ensures.made c.hold.ensures.held c.write.ensures.written c.release-2.ensures.kept in
    let cells = ap (λ (o : OwnerView). o.cells) (owner_of-found c.release-2.new.self c.in_ok-first.first _ two.first) in
    to_z-of_z w128 _ (record { sfits = c.fetch-kept.type_inv }) ∙ c.fetch-kept.ensures.value ∙ ap (λ (cs : List ℤ). get_or cs c.args.place (pos 0)) cells

pub returns-clause-right : goal.returns-clause-right
returns-clause-right c =
    let two = HasTwo-used _ _ _ _ _ _ _ _ _ _ _ _ refl c.in_ok-first.ensures.made c.in-Ok.ensures.made c.hold.ensures.held c.write.ensures.written c.release-2.ensures.kept in
    let two' = HasTwo-counted _ _ _ _ _ _ _ _ two c.fetch-kept.ensures.counted in
    let cells = ap (λ (o : OwnerView). o.cells) (owner_of-found c.fetch-kept.new.self c.in-Ok.second _ two'.second) in
    let len : length c.args.right.items ≡ vec_len c.args.right = search rules in
    let within : c.args.place < length c.args.right.items = omega (arith, len, c.requires.in_right) in
    to_z-of_z w128 _ (record { sfits = c.fetch-written.type_inv }) ∙ c.fetch-written.ensures.value ∙ ap (λ (cs : List ℤ). get_or cs c.args.place (pos 0)) cells ∙ get_or-set_same c.args.right.items c.args.place _ (pos 0) within ∙ to_z-of_z w128 _ c.ranges.cell

pub returns-clause-owners : goal.returns-clause-owners
returns-clause-owners c =
    let two = HasTwo-used _ _ _ _ _ _ _ _ _ _ _ _ refl c.in_ok-first.ensures.made c.in-Ok.ensures.made c.hold.ensures.held c.write.ensures.written c.release-2.ensures.kept in
    let two' = HasTwo-counted _ _ _ _ _ _ _ _ two c.fetch-kept.ensures.counted in
    let two'' = HasTwo-counted _ _ _ _ _ _ _ _ two' c.fetch-written.ensures.counted in
    let first = ap (λ (o : OwnerView). o.holders) (owner_of-found c.fetch-written.new.self c.in_ok-first.first _ two''.first) in
    let one = HasOne-freed _ _ _ _ _ _ _ two'' (c.release-3.ensures.freed first) in
    let second = ap (λ (o : OwnerView). o.holders) (owner_of-found c.release-3.new.self c.in-Ok.second _ one.owner) in
    owners-freed _ _ _ _ _ one (c.release-4.ensures.freed second)

pub returns-clause-live : goal.returns-clause-live
returns-clause-live c =
    let two = HasTwo-used _ _ _ _ _ _ _ _ _ _ _ _ refl c.in_ok-first.ensures.made c.in-Ok.ensures.made c.hold.ensures.held c.write.ensures.written c.release-2.ensures.kept in
    let two' = HasTwo-counted _ _ _ _ _ _ _ _ two c.fetch-kept.ensures.counted in
    let two'' = HasTwo-counted _ _ _ _ _ _ _ _ two' c.fetch-written.ensures.counted in
    let first = ap (λ (o : OwnerView). o.holders) (owner_of-found c.fetch-written.new.self c.in_ok-first.first _ two''.first) in
    let one = HasOne-freed _ _ _ _ _ _ _ two'' (c.release-3.ensures.freed first) in
    let second = ap (λ (o : OwnerView). o.holders) (owner_of-found c.release-3.new.self c.in-Ok.second _ one.owner) in
    live-freed _ _ _ _ _ one (c.release-4.ensures.freed second)
