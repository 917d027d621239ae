-- The leaf that a name is given: the one at hand, or its copy.
use Rattle.std.proofs.Common.{◌≡◌, ℕ, ◌+◌, ◌<◌, ℤ, List, [], ◌∷◌, length, Option, Some, None, unwrap_or, Result, Ok, Err, IfOk, IfErr, OnOk, refl, sym, ap, ◌∙◌, subst, inl, inr, arith}
use Rattle.std.specs.Option.{option_map}
use Rattle.apl_base.specs.Array.{size_of}
use Rattle.array_desc.specs.Desc.{IsDesc}
use Rattle.array_store.specs.Stores.{OwnerView, OwnerData, StoreView, AreCounts, HasRoom, owner_at, owner_data, no_owner, holders_of, cells_of, new_owner}
use Rattle.array_store.specs.Came.{Renews}
use Rattle.array_store.specs.Counting.{Costs}
use Rattle.array_store.specs.Follows.{LeafCounts, Follows, Holds, none, both}
use Rattle.array_store.specs.declared.ids.Counts.{Counts}
use Rattle.array_store.specs.declared.ids.BeginFault.{BeginFault}
use Rattle.array_store.specs.declared.ids.BeginFault.TheVariants as begin
use Rattle.array_store.proofs.CameLemmas.{renews_nothing, renews_then, renews_made, renews_counted}
use Rattle.array_store.proofs.CountingLemmas.{costs_nothing, costs_then, costs_more, costs_fetched, costs_made}
use Rattle.array_store.proofs.FollowsLemmas.{follows_then, follows_beside, follows_counted}
use Rattle.drag_along.specs.declared.leaves.Leaf.{Leaf}
use Rattle.drag_along.specs.Nodes.{leaf_desc, named_by_leaf}
use Rattle.drag_along.specs.Lawful.{IsLawfulLeaf}
use Rattle.drag_along.specs.Views.{StandsForArray}
use Rattle.drag_along.proofs.KeptLemmas.{follows_keeps}
use Rattle.e_machine.specs.Forced.{IsCopy, IsCopyFault, named_by_answer}
use Rattle.leaf_names.specs.Variables.{array_of, FillsOwner}
use Rattle.name_table.specs.Names.{elements_of, IsPut, IsSetFault}
use Rattle.array_store.proofs.GoneLemmas.{renews_gone}
use Rattle.leaf_names.proofs.StandsLemmas.{stands_kept}

-- ---- an owner that no leaf names that goes

owner_with : OwnerData → ℕ → OwnerView
owner_with d n = record { cells = d.cells; kind = d.kind; holders = n; interval = d.interval }

same_owner : (o : OwnerView) (m : Option OwnerView) → option_map owner_data m ≡ Some (owner_data o) → (unwrap_or m no_owner).holders ≡ o.holders → m ≡ Some o
unfolding owner_with
same_owner o None e h = absurd (cc)
same_owner o (Some p) e h =
    let data_same : owner_data p ≡ owner_data o = cc in
    ap (λ (x : OwnerView). Some x) (ap (λ (d : OwnerData). owner_with d p.holders) data_same ∙ ap (owner_with (owner_data o)) h)

pub kept_owner : (a b : StoreView) (gone : LeafCounts) (key : ℕ) (o : OwnerView) → Follows a b gone none → gone key ≡ 0 → owner_at a key ≡ Some o → 0 < o.holders → owner_at b key ≡ Some o
kept_owner a b gone key o f unnamed found held =
    let had : holders_of a key ≡ o.holders = ap (λ (m : Option OwnerView). (unwrap_or m no_owner).holders) found in
    same_owner o (owner_at b key) (f.kept key (omega (arith, had, held, unnamed)) ∙ ap (option_map owner_data) found) (omega (arith, f.holders key, had, unnamed))

-- ---- arrays that leaves stand for

-- it stands for its own
pub stands_itself : (s : StoreView) (leaf : Leaf) → IsDesc (leaf_desc leaf) → IsLawfulLeaf s leaf → StandsForArray s leaf (array_of s leaf)
stands_itself s leaf desc lawful = record { lawful = lawful; shape = record { desc = desc; same = refl }; kind = refl; array = refl }

-- ---- what is put

pub put_itself : (s : StoreView) (leaf : Leaf) → FillsOwner s leaf → IsPut s s leaf leaf
put_itself s leaf fills = inl (record { fills = fills; same = refl; counts = refl; renews = renews_nothing s })

-- the owner of a copy is new
module _ (old copied : StoreView) (leaf copy : Leaf) (is : IsCopy old copied leaf copy) where
  pub its_free : holders_of old is.made.key ≡ 0
  its_free =
      ap (λ (m : Option OwnerView). (unwrap_or m no_owner).holders)
      (sym (ap (λ (s : StoreView). owner_at s is.made.key) is.made.made.counts.only) ∙ is.made.made.makes.was_free)

  pub copy_renews : Renews old copied (record { key = is.made.key; cells = elements_of leaf } ∷ [])
  copy_renews =
      let o : OwnerView = new_owner (array_of old leaf).cells (array_of old leaf).kind in
      let all : Renews old copied (record { key = is.made.key; cells = length (array_of old leaf).cells } ∷ []) =
      renews_then old is.made.made.between copied [] (record { key = is.made.key; cells = length (array_of old leaf).cells } ∷ [])
      (renews_counted old is.made.made.between is.made.made.counts.only) (renews_made is.made.made.between copied is.made.key o is.made.made.makes) in
      subst (λ n. Renews old copied (record { key = is.made.key; cells = n } ∷ [])) is.made.count all

  -- a copy is put
  pub put_copy : (FillsOwner old leaf → ⊥) → HasRoom old (elements_of leaf) → IsPut old copied leaf copy
  put_copy partial room =
      inr (record {
        partial = partial;
        room = room;
        copied = copied;
        copy = is;
        counts = refl;
        owner = is.made.made.makes.made;
        renews = copy_renews;
      })

  -- which fills its owner
  pub copy_fills : (s : StoreView) → owner_at s is.made.key ≡ Some (new_owner (array_of old leaf).cells (array_of old leaf).kind) → FillsOwner s copy
  copy_fills s found =
      let cells : cells_of s is.made.key ≡ (array_of old leaf).cells = ap (λ (m : Option OwnerView). (unwrap_or m no_owner).cells) found in
      subst (FillsOwner s) (sym is.made.view.is) (omega (arith, ap (λ (cs : List ℤ). length cs) cells, is.made.count, ap size_of is.made.view.whole.shape))

-- what was put stays so while other leaves go, those that name no owner which came
pub put_later : (old new later : StoreView) (leaf put : Leaf) (gone : LeafCounts) → IsPut old new leaf put → Follows new later gone none → ((key : ℕ) → holders_of old key ≡ 0 → gone key ≡ 0) → later.counts ≡ new.counts → IsPut old later leaf put
put_later old new later leaf put gone (inl p) f unnamed same =
    inl (record { fills = p.fills; same = p.same; counts = same ∙ p.counts; renews = renews_then old new later [] [] p.renews (renews_gone new later gone f) })
put_later old new later leaf put gone (inr p) f unnamed same =
    inr (record {
      partial = p.partial;
      room = p.room;
      copied = p.copied;
      copy = p.copy;
      counts = same ∙ p.counts;
      owner =
          kept_owner new later gone p.copy.made.key (new_owner (array_of old leaf).cells (array_of old leaf).kind) f (unnamed p.copy.made.key (its_free old p.copied leaf put p.copy)) p.owner (omega arith);
      renews =
          renews_then old new later (record { key = p.copy.made.key; cells = elements_of leaf } ∷ []) [] p.renews (renews_gone new later gone f);
    })

-- ---- what it cost

no_cost : (old new : StoreView) (n : ℕ) → new.counts ≡ old.counts → Costs old new n n 0
no_cost old new n same = costs_more old new 0 n 0 n 0 0 (omega arith) (omega arith) (omega arith) (costs_nothing old new same)

pub free_cost : (old new : StoreView) (leaf : Leaf) → new.counts ≡ old.counts → Costs old new (elements_of leaf) (elements_of leaf) 0
free_cost old new leaf same = no_cost old new (elements_of leaf) same

copy_cost : (old copied : StoreView) (leaf copy : Leaf) → AreCounts old.counts → AreCounts copied.counts → IsCopy old copied leaf copy → Costs old copied (elements_of leaf) (elements_of leaf) 0
copy_cost old copied leaf copy before after is =
    let n : ℕ = elements_of leaf in
    let between : StoreView = is.made.made.between in
    let o : OwnerView = new_owner (array_of old leaf).cells (array_of old leaf).kind in
    let fetched : Costs old between n 0 0 = costs_fetched old between n is.made.made.counts in
    let alike : copied.counts.fetched ≡ between.counts.fetched = ap (λ (k : Counts). k.fetched) is.made.made.makes.counts in
    let small : AreCounts between.counts = record {
      fetched = omega (arith, alike, after.fetched);
      made = omega (arith, before.made, is.made.made.counts.made);
      applied = omega (arith, before.applied, is.made.made.counts.applied);
    } in
    let makes : Costs between copied 0 (length (array_of old leaf).cells) 0 = costs_made between copied is.made.key o small is.made.made.makes in
    costs_more old copied (n + 0) n (0 + length (array_of old leaf).cells) n (0 + 0) 0 (omega arith) (omega (arith, is.made.count)) (omega arith)
    (costs_then old between copied n 0 0 (length (array_of old leaf).cells) 0 0 fetched makes)

-- ---- the answer of copying, after the leaf that was at hand is let go

module _ (old copied new : StoreView) (leaf : Leaf) (partial : FillsOwner old leaf → ⊥) (held : Holds old (named_by_leaf leaf)) (gone : Follows copied new (named_by_leaf leaf) none) (same : new.counts ≡ copied.counts) where
  unnamed : (key : ℕ) → holders_of old key ≡ 0 → named_by_leaf leaf key ≡ 0
  unnamed key e = omega (arith, held key, e)

  pub answer_put : (r : Result Leaf BeginFault) → IfOk r (IsCopy old copied leaf) → OnOk r (HasRoom old (elements_of leaf)) → IfOk r (IsPut old new leaf)
  answer_put (Ok copy) is room = put_later old copied new leaf copy (named_by_leaf leaf) (put_copy old copied leaf copy is partial room) gone unnamed same
  answer_put (Err why) is room = tt

  pub answer_stands : (r : Result Leaf BeginFault) → IfOk r (IsCopy old copied leaf) → Follows old copied none (named_by_answer r) → IfOk r (λ put. StandsForArray new put (array_of old leaf))
  answer_stands (Ok copy) is follows =
      let beside : Holds copied (both (named_by_leaf leaf) (named_by_leaf copy)) = λ key. omega (arith, follows.holders key, held key) in
      stands_kept copied new copy (array_of old leaf) (follows_keeps copied new (named_by_leaf leaf) none (named_by_leaf copy) (named_by_leaf copy) gone beside (λ key. omega arith)) is.stands
  answer_stands (Err why) is follows = tt

  pub answer_fills : (r : Result Leaf BeginFault) → IfOk r (IsCopy old copied leaf) → IfOk r (FillsOwner new)
  answer_fills (Ok copy) is =
      copy_fills old copied leaf copy is new
      (kept_owner copied new (named_by_leaf leaf) is.made.key (new_owner (array_of old leaf).cells (array_of old leaf).kind) gone (unnamed is.made.key (its_free old copied leaf copy is)) is.made.made.makes.made (omega arith))
  answer_fills (Err why) is = tt

  pub answer_follows : (answer : LeafCounts) → Follows old copied none answer → Follows old new (named_by_leaf leaf) answer
  answer_follows answer follows =
      follows_then old copied new (named_by_leaf leaf) (both answer (named_by_leaf leaf)) answer
      (follows_counted old copied (both none (named_by_leaf leaf)) (both answer (named_by_leaf leaf)) (named_by_leaf leaf) (both answer (named_by_leaf leaf)) (λ key. omega arith) (λ key. refl) (follows_beside old copied none answer (named_by_leaf leaf) follows))
      (follows_counted copied new (both (named_by_leaf leaf) answer) (both none answer) (both answer (named_by_leaf leaf)) answer (λ key. omega arith) (λ key. omega arith) (follows_beside copied new (named_by_leaf leaf) none answer gone))

  refusal : (why : BeginFault) → IsCopyFault old copied leaf why → IsSetFault old new leaf why
  refusal (begin.WsFull live asked) f =
      record { partial = partial; live = f.live; asked = f.asked; full = f.full; counts = same ∙ ap (λ (s : StoreView). s.counts) f.unchanged }
  refusal begin.NoMemory f = λ h. f.0

  pub answer_refused : (r : Result Leaf BeginFault) → IfErr r (IsCopyFault old copied leaf) → IfErr r (IsSetFault old new leaf)
  answer_refused (Ok copy) f = tt
  answer_refused (Err why) f = refusal why f

  then_let_go : Costs old copied (elements_of leaf) (elements_of leaf) 0 → Costs old new (elements_of leaf) (elements_of leaf) 0
  then_let_go c =
      costs_more old new (elements_of leaf + 0) (elements_of leaf) (elements_of leaf + 0) (elements_of leaf) (0 + 0) 0 (omega arith) (omega arith) (omega arith)
      (costs_then old copied new (elements_of leaf) 0 (elements_of leaf) 0 0 0 c (costs_nothing copied new same))

  fault_cost : (why : BeginFault) → IsCopyFault old copied leaf why → Costs old copied (elements_of leaf) (elements_of leaf) 0
  fault_cost (begin.WsFull live asked) f = no_cost old copied (elements_of leaf) (ap (λ (s : StoreView). s.counts) f.unchanged)
  fault_cost begin.NoMemory f =
      costs_more old copied (elements_of leaf) (elements_of leaf) 0 (elements_of leaf) 0 0 (omega arith) (omega arith) (omega arith) (costs_fetched old copied (elements_of leaf) f.1)

  pub answer_costs : AreCounts old.counts → AreCounts copied.counts → (r : Result Leaf BeginFault) → IfOk r (IsCopy old copied leaf) → IfErr r (IsCopyFault old copied leaf) → Costs old new (elements_of leaf) (elements_of leaf) 0
  answer_costs before after (Ok copy) is f = then_let_go (copy_cost old copied leaf copy before after is)
  answer_costs before after (Err why) is f = then_let_go (fault_cost why f)
