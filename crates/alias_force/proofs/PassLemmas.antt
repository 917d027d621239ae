-- A pass over a stack, from the oldest entry on.
use Rattle.std.proofs.Common.{◌≡◌, ℕ, zero, suc, ◌+◌, ◌-◌, ◌<◌, ◌≤◌, Bool, true, false, cond, inl, inr, List, [], ◌∷◌, ◌++◌, length, map, Some, refl, sym, ap, ◌∙◌, subst, arith, append_assoc}
use Rattle.std.specs.Prelude.{slice_get, slice_set}
use Rattle.std.specs.List.{filter}
use Rattle.std.proofs.lemmas.Bool.{cases_lt}
use Rattle.std.proofs.lemmas.List.{append-nil, map-append, length-append}
use Rattle.std.proofs.lemmas.List.Elements.{AllZip-push, filter-append}
use Rattle.std.proofs.lemmas.List.Sums.{sum_by-append}
use Rattle.std.proofs.Math.Seq.{set-append_seam}
use Rattle.apl_base.specs.Interval.{exact_interval}
use Rattle.array_store.specs.Stores.{StoreView, AreCounts, holders_of, cells_of, interval_of, data_at}
use Rattle.array_store.specs.Follows.{LeafCounts, Follows, Holds, none, both}
use Rattle.array_store.specs.Came.{Came}
use Rattle.array_store.proofs.FollowsLemmas.{follows_then, follows_beside, follows_counted, holds_then, cells_of-kept, interval_of-kept}
use Rattle.array_store.proofs.CameLemmas.{renews_nothing, renews_then}
use Rattle.drag_along.specs.declared.leaves.Leaf.{Leaf}
use Rattle.drag_along.specs.Nodes.{named_by_leaf}
use Rattle.drag_along.specs.Segments.{SegmentView, named_by, leaf_segment}
use Rattle.drag_along.specs.Meaning.{Meaning, entry}
use Rattle.drag_along.specs.Lawful.{IsLawful}
use Rattle.drag_along.proofs.KeptLemmas.{follows_keeps}
use Rattle.value_stack.specs.Stacks.{named_on, entries, IsLawfulStack, IsReplaced}
use Rattle.value_stack.proofs.EntriesLemmas.{named_on-cons, named_on_both, replaced, stack_kept}
use Rattle.e_machine.specs.declared.faults.ForceFault.{ForceFault}
use Rattle.e_machine.specs.Forced.{elements_of, applications, fetches}
use Rattle.alias_force.specs.Moving.{IsOwn, IsMoved, AreMoved, ComputesAll, CostsAtMost, OwnersCame, StopsAt}
use Rattle.alias_force.specs.Steps.{MovesEntry, RefusesEntry}
use Rattle.alias_force.proofs.EntryLemmas.{one_of-self, computes_costs}
use Rattle.array_store.proofs.GoneLemmas.{renews_gone}

-- the pass stands before an entry: older ones are moved, younger ones are as they were
pub record IsOnItsWay (test : SegmentView → Bool) (old now : StoreView) (before stack : List SegmentView) (at : ℕ) : Type 0 where
  pub older : List SegmentView
  pub moved : List SegmentView
  pub younger : List SegmentView
  pub before_is : before ≡ older ++ younger
  pub stack_is : stack ≡ moved ++ younger
  pub place : length moved ≡ at
  pub are_moved : AreMoved test now older moved
  pub lawful : IsLawfulStack now stack
  pub means : entries now stack ≡ entries old before
  pub follows : Follows old now (named_on before) (named_on stack)
  pub holds : Holds now (named_on stack)
  pub computes : ComputesAll old now (filter test older) 0
  pub came : OwnersCame old now (map elements_of (filter test older))
  pub idle : filter test older ≡ [] → now ≡ old

-- ---- its beginning

pub on_its_way : (test : SegmentView → Bool) (s : StoreView) (stack : List SegmentView) → AreCounts s.counts → IsLawfulStack s stack → Holds s (named_on stack) → IsOnItsWay test s s stack stack 0
on_its_way test s stack small lawful holds = record {
  older = [];
  moved = [];
  younger = stack;
  before_is = refl;
  stack_is = refl;
  place = refl;
  are_moved = tt;
  lawful = lawful;
  means = refl;
  follows = record { holders = λ key. refl; kept = λ key h. refl; limit = refl };
  holds = holds;
  computes = record { applied = omega (arith, small.applied); made = omega (arith, small.made); fetched = record { low = omega arith; high = omega arith } };
  came = record { came = []; renews = renews_nothing s; cells = refl };
  idle = λ e. refl;
}

-- ---- one entry further

-- the entry at the place is the first of the younger ones
first_younger : (younger : List SegmentView) (g : SegmentView) → slice_get younger 0 ≡ Some g → (rest : List SegmentView) × (younger ≡ g ∷ rest)
first_younger [] g there = absurd (cc)
first_younger (x ∷ xs) g there = let is : x ≡ g = cc in (xs, ap (λ (y : SegmentView). y ∷ xs) is)

at_seam : (moved younger : List SegmentView) (g : SegmentView) → slice_get (moved ++ younger) (length moved) ≡ Some g → (rest : List SegmentView) × (younger ≡ g ∷ rest)
at_seam [] younger g there = first_younger younger g there
at_seam (x ∷ moved) younger g there = at_seam moved younger g there

-- the entries that are so, with one more
one_so : (test : SegmentView → Bool) (older : List SegmentView) (g : SegmentView) → test g ≡ true → filter test (older ++ g ∷ []) ≡ filter test older ++ g ∷ []
one_so test older g is_so =
    filter-append test older (g ∷ []) ∙ ap (λ (b : Bool). filter test older ++ cond b (g ∷ []) []) is_so

one_not : (test : SegmentView → Bool) (older : List SegmentView) (g : SegmentView) → test g ≡ false → filter test (older ++ g ∷ []) ≡ filter test older
one_not test older g is_not =
    filter-append test older (g ∷ []) ∙ ap (λ (b : Bool). filter test older ++ cond b (g ∷ []) []) is_not ∙ append-nil (filter test older)

-- an entry that is not so stays
pub passes_by : (test : SegmentView → Bool) (old now : StoreView) (before stack : List SegmentView) (at : ℕ) (g : SegmentView) → IsOnItsWay test old now before stack at → slice_get stack at ≡ Some g → test g ≡ false → IsOnItsWay test old now before stack (at + 1)
passes_by test old now before stack at g way there is_not =
    let seam = at_seam way.moved way.younger g (ap (slice_get (way.moved ++ way.younger)) way.place ∙ ap (λ (xs : List SegmentView). slice_get xs at) (sym way.stack_is) ∙ there) in
    let rest : List SegmentView = seam.0 in
    let none : filter test (way.older ++ g ∷ []) ≡ filter test way.older = one_not test way.older g is_not in
    record {
      older = way.older ++ g ∷ [];
      moved = way.moved ++ g ∷ [];
      younger = rest;
      before_is = way.before_is ∙ ap (λ (xs : List SegmentView). way.older ++ xs) seam.1 ∙ sym (append_assoc way.older (g ∷ []) rest);
      stack_is = way.stack_is ∙ ap (λ (xs : List SegmentView). way.moved ++ xs) seam.1 ∙ sym (append_assoc way.moved (g ∷ []) rest);
      place = omega (arith, way.place, length-append way.moved (g ∷ []));
      are_moved = AllZip-push (IsMoved test now) way.older way.moved g g way.are_moved (record { own = λ so. absurd (cc); same = λ so. refl });
      lawful = way.lawful;
      means = way.means;
      follows = way.follows;
      holds = way.holds;
      computes = subst (λ (xs : List SegmentView). ComputesAll old now xs 0) (sym none) way.computes;
      came = subst (λ (xs : List SegmentView). OwnersCame old now (map elements_of xs)) (sym none) way.came;
      idle = λ e. way.idle (sym none ∙ e);
    }

-- ---- an entry that is moved

-- no leaf comes to an owner that is held once, but for one that goes
abbrev pub ComesElsewhere : StoreView → LeafCounts → LeafCounts → Type 0
ComesElsewhere s gone came = (key : ℕ) → holders_of s key ≡ 1 → gone key ≡ 0 → came key ≡ 0

-- as where one comes to an owner that nobody held
pub to_free : (s : StoreView) (gone came : LeafCounts) → ((key : ℕ) → 0 < came key → holders_of s key ≡ 0) → ComesElsewhere s gone came
to_free s gone came free key once none_gone = elim (cases_lt 0 (came key)) [
  | inl some ↦ absurd (omega (arith, free key some, once))
  | inr few ↦ omega (arith, few)
]

-- an owner that an entry alone holds is named by no other one, and stays as it is
own_kept : (s t : StoreView) (y : SegmentView) (gone came : LeafCounts) → IsOwn s y → Holds s (both (named_by y) gone) → Follows s t gone came → ComesElsewhere s gone came → IsOwn t y
own_kept s t y gone came own holds follows elsewhere =
    let key : ℕ = own.key in
    let by_leaf : named_by_leaf own.leaf key ≡ 1 = ap (λ (l : Leaf). named_by_leaf l key) own.view.is ∙ one_of-self key in
    let named : named_by y key ≡ 1 = omega (arith, ap (λ (x : SegmentView). named_by x key) own.is, by_leaf) in
    let apart : gone key ≡ 0 = omega (arith, holds key, own.own.alone, named) in
    let none_came : came key ≡ 0 = elsewhere key own.own.alone apart in
    let kept : data_at t key ≡ data_at s key = follows.kept key (omega (arith, apart, own.own.alone)) in
    let cells : cells_of t key ≡ cells_of s key = cells_of-kept s t key kept in
    let interval : interval_of t key ≡ interval_of s key = interval_of-kept s t key kept in
    let alone : holders_of t key ≡ 1 = omega (arith, follows.holders key, own.own.alone, apart, none_came) in
    record {
      key = key;
      leaf = own.leaf;
      is = own.is ∙ ap (leaf_segment own.leaf) (sym interval);
      view = own.view;
      own = record {
        fills = record { live = omega (arith, alone); count = ap length cells ∙ own.own.fills.count };
        alone = alone;
        exact = interval ∙ own.own.exact ∙ ap exact_interval (sym cells);
      };
    }

pub all_kept : (test : SegmentView → Bool) (s t : StoreView) (xs ys : List SegmentView) (gone came : LeafCounts) → AreMoved test s xs ys → Holds s (both (named_on ys) gone) → Follows s t gone came → ComesElsewhere s gone came → AreMoved test t xs ys
all_kept test s t [] [] gone came all holds follows elsewhere = tt
all_kept test s t [] (y ∷ ys) gone came all holds follows elsewhere = all
all_kept test s t (x ∷ xs) [] gone came all holds follows elsewhere = all
all_kept test s t (x ∷ xs) (y ∷ ys) gone came all holds follows elsewhere = (
  record {
    own = λ so. own_kept s t y gone came (all.0.own so) (λ key. omega (arith, holds key, named_on-cons y ys key)) follows elsewhere;
    same = all.0.same;
  },
  all_kept test s t xs ys gone came all.1 (λ key. omega (arith, holds key, named_on-cons y ys key)) follows elsewhere,
)

-- one cost after another
computes_then : (a b c : StoreView) (xs ys : List SegmentView) → ComputesAll a b xs 0 → ComputesAll b c ys 0 → ComputesAll a c (xs ++ ys) 0
computes_then a b c xs ys p q = record {
  applied = omega (arith, p.applied, q.applied, sum_by-append applications xs ys);
  made = omega (arith, p.made, q.made, sum_by-append elements_of xs ys);
  fetched = record {
    low = omega (arith, p.fetched.low, q.fetched.low);
    high = omega (arith, p.fetched.high, q.fetched.high, sum_by-append fetches xs ys);
  };
}

-- owners that came before, and after
came_then : (a b c : StoreView) (m n : List ℕ) → OwnersCame a b m → OwnersCame b c n → OwnersCame a c (m ++ n)
came_then a b c m n p q = record {
  came = p.came ++ q.came;
  renews = renews_then a b c p.came q.came p.renews q.renews;
  cells =
      map-append (λ (x : Came). x.cells) p.came q.came ∙ ap (λ (xs : List ℕ). xs ++ map (λ (x : Came). x.cells) q.came) p.cells ∙ ap (λ (xs : List ℕ). m ++ xs) q.cells;
}

named_on_parts : (older younger : List SegmentView) (g : SegmentView) (key : ℕ) → named_on (older ++ g ∷ younger) key ≡ named_by g key + both (named_on older) (named_on younger) key
named_on_parts older younger g key = omega (arith, named_on_both older (g ∷ younger) key, named_on-cons g younger key)

-- the stack after an entry came in the place of one
replaced_one : (s t : StoreView) (older younger : List SegmentView) (g c : SegmentView) → IsLawfulStack s (older ++ g ∷ younger) → Holds s (named_on (older ++ g ∷ younger)) → Follows s t (named_by g) (named_by c) → IsLawful t c → entry t c ≡ entry s g → IsLawfulStack t (older ++ c ∷ younger) × (entries t (older ++ c ∷ younger) ≡ entries s (older ++ g ∷ younger))
replaced_one s t older younger g c lawful holds follows is_lawful means =
    let gone : (older ++ g ∷ []) ++ younger ≡ older ++ g ∷ younger = append_assoc older (g ∷ []) younger in
    let came : (older ++ c ∷ []) ++ younger ≡ older ++ c ∷ younger = append_assoc older (c ∷ []) younger in
    let beside : LeafCounts = λ key. holders_of s key - named_on (older ++ g ∷ younger) key in
    let r : IsReplaced s t older (c ∷ []) younger (both none beside) =
    replaced s t older (g ∷ []) (c ∷ []) younger none none beside (subst (IsLawfulStack s) (sym gone) lawful)
    (λ key. omega (arith, holds key, ap (λ (xs : List SegmentView). named_on xs key) gone))
    (follows_counted s t (named_by g) (named_by c) (both (named_on (g ∷ [])) none) (both (named_on (c ∷ [])) none) (λ key. omega (arith, named_on-cons g [] key)) (λ key. omega (arith, named_on-cons c [] key)) follows)
    (is_lawful, tt) in (
      subst (IsLawfulStack t) came r.lawful,
      ap (entries t) (sym came) ∙ r.means ∙ ap (λ (m : Meaning). (entries s older ++ m ∷ []) ++ entries s younger) means
          ∙ ap (λ (ms : List Meaning). ms ++ entries s younger) (sym (map-append (entry s) older (g ∷ []))) ∙ sym (map-append (entry s) (older ++ g ∷ []) younger) ∙ ap (entries s) gone,
    )

-- the entry at the place is moved
pub moves_on : (test : SegmentView → Bool) (old now next : StoreView) (before stack after : List SegmentView) (at : ℕ) → IsOnItsWay test old now before stack at → (m : MovesEntry now next stack after at) → test m.gone ≡ true → IsOnItsWay test old next before after (at + 1)
moves_on test old now next before stack after at way m is_so =
    let g : SegmentView = m.gone in
    let c : SegmentView = m.came in
    let seam = at_seam way.moved way.younger g (ap (slice_get (way.moved ++ way.younger)) way.place ∙ ap (λ (xs : List SegmentView). slice_get xs at) (sym way.stack_is) ∙ m.there) in
    let rest : List SegmentView = seam.0 in
    let was : stack ≡ way.moved ++ g ∷ rest = way.stack_is ∙ ap (λ (xs : List SegmentView). way.moved ++ xs) seam.1 in
    let is : after ≡ way.moved ++ c ∷ rest =
    m.put ∙ ap (λ (xs : List SegmentView). slice_set xs at c) was ∙ ap (λ (n : ℕ). slice_set (way.moved ++ g ∷ rest) n c) (sym way.place) ∙ set-append_seam way.moved g rest c in
    let so : filter test (way.older ++ g ∷ []) ≡ filter test way.older ++ g ∷ [] = one_so test way.older g is_so in
    let holds : Holds now (named_on (way.moved ++ g ∷ rest)) = λ key. omega (arith, way.holds key, ap (λ (xs : List SegmentView). named_on xs key) was) in
    let one = replaced_one now next way.moved rest g c (subst (IsLawfulStack now) was way.lawful) holds m.follows m.lawful m.means in
    let others : LeafCounts = both (named_on way.moved) (named_on rest) in
    let step : Follows now next (named_on stack) (named_on after) =
    follows_counted now next (both (named_by g) others) (both (named_by c) others) (named_on stack) (named_on after)
    (λ key. ap (λ (xs : List SegmentView). named_on xs key) was ∙ named_on_parts way.moved rest g key)
    (λ key. ap (λ (xs : List SegmentView). named_on xs key) is ∙ named_on_parts way.moved rest c key)
    (follows_beside now next (named_by g) (named_by c) others m.follows) in
    let kept : AreMoved test next way.older way.moved =
    all_kept test now next way.older way.moved (named_by g) (named_by c) way.are_moved (λ key. omega (arith, holds key, named_on_parts way.moved rest g key)) m.follows (to_free now (named_by g) (named_by c) m.free) in
    record {
      older = way.older ++ g ∷ [];
      moved = way.moved ++ c ∷ [];
      younger = rest;
      before_is = way.before_is ∙ ap (λ (xs : List SegmentView). way.older ++ xs) seam.1 ∙ sym (append_assoc way.older (g ∷ []) rest);
      stack_is = is ∙ sym (append_assoc way.moved (c ∷ []) rest);
      place = omega (arith, way.place, length-append way.moved (c ∷ []));
      are_moved = AllZip-push (IsMoved test next) way.older way.moved g c kept (record { own = λ yes_so. m.own; same = λ not_so. absurd (not_so is_so) });
      lawful = subst (IsLawfulStack next) (sym is) one.0;
      means = ap (entries next) is ∙ one.1 ∙ ap (entries now) (sym was) ∙ way.means;
      follows = follows_then old now next (named_on before) (named_on stack) (named_on after) way.follows step;
      holds = holds_then now next (named_on stack) (named_on after) step way.holds;
      computes = subst (λ (xs : List SegmentView). ComputesAll old next xs 0) (sym so) (computes_then old now next (filter test way.older) (g ∷ []) way.computes m.computes);
      came = subst (OwnersCame old next) (sym (ap (map elements_of) so ∙ map-append elements_of (filter test way.older) (g ∷ []))) (came_then old now next (map elements_of (filter test way.older)) (elements_of g ∷ []) way.came m.owners);
      idle = λ e. absurd (omega (arith, length-append (filter test way.older) (g ∷ []), ap length (sym so ∙ e)));
    }

-- ---- an entry that is refused

costs_then : (a b c : StoreView) (xs ys : List SegmentView) → CostsAtMost a b xs → CostsAtMost b c ys → CostsAtMost a c (xs ++ ys)
costs_then a b c xs ys p q = record {
  fetched_rose = record { low = omega (arith, p.fetched_rose.low, q.fetched_rose.low); high = omega (arith, p.fetched_rose.high, q.fetched_rose.high, sum_by-append fetches xs ys) };
  made_rose = record { low = omega (arith, p.made_rose.low, q.made_rose.low); high = omega (arith, p.made_rose.high, q.made_rose.high, sum_by-append elements_of xs ys) };
  applied_rose = record { low = omega (arith, p.applied_rose.low, q.applied_rose.low); high = omega (arith, p.applied_rose.high, q.applied_rose.high, sum_by-append applications xs ys) };
}

-- all entries are as they were where something was only counted
pub stack_counted : (now next : StoreView) (stack : List SegmentView) → Holds now (named_on stack) → Follows now next none none → IsLawfulStack now stack → IsLawfulStack next stack × (entries next stack ≡ entries now stack)
stack_counted now next stack holds follows lawful =
    stack_kept now next stack (follows_keeps now next none none (named_on stack) (named_on stack) follows (λ key. omega (arith, holds key)) (λ key. omega arith)) lawful

pub stops : (test : SegmentView → Bool) (old now next : StoreView) (before stack : List SegmentView) (at : ℕ) (fault : ForceFault) → AreCounts old.counts → IsOnItsWay test old now before stack at → (r : RefusesEntry now next stack at fault) → test r.segment ≡ true → StopsAt test old next before stack fault
stops test old now next before stack at fault small way r is_so =
    let g : SegmentView = r.segment in
    let seam = at_seam way.moved way.younger g (ap (slice_get (way.moved ++ way.younger)) way.place ∙ ap (λ (xs : List SegmentView). slice_get xs at) (sym way.stack_is) ∙ r.there) in
    let rest : List SegmentView = seam.0 in
    let was : stack ≡ way.moved ++ g ∷ rest = way.stack_is ∙ ap (λ (xs : List SegmentView). way.moved ++ xs) seam.1 in
    let holds : Holds now (both (named_on way.moved) none) = λ key. omega (arith, way.holds key, ap (λ (xs : List SegmentView). named_on xs key) was, named_on_parts way.moved rest g key) in
    record {
      older = way.older;
      moved = way.moved;
      segment = g;
      younger = rest;
      before_is = way.before_is ∙ ap (λ (xs : List SegmentView). way.older ++ xs) seam.1;
      after_is = was;
      are_moved = all_kept test now next way.older way.moved none none way.are_moved holds r.follows (λ key once none_gone. refl);
      tested = is_so;
      refused = r.refused;
      costs = costs_then old now next (filter test way.older) (g ∷ []) (computes_costs old now (filter test way.older) small way.computes) r.costs;
      came = subst (OwnersCame old next) (append-nil (map elements_of (filter test way.older)))
          (came_then old now next (map elements_of (filter test way.older)) [] way.came (record { came = []; renews = renews_gone now next none r.follows; cells = refl }));
    }

-- ---- the entry at a place

-- its leaves are held
pub held_at : (s : StoreView) (stack : List SegmentView) (at : ℕ) (g : SegmentView) → Holds s (named_on stack) → slice_get stack at ≡ Some g → Holds s (named_by g)
held_at s stack at g holds there = λ key. omega (arith, holds key, named_at stack at g key there)
  where
    named_at : (xs : List SegmentView) (n : ℕ) (x : SegmentView) (key : ℕ) → slice_get xs n ≡ Some x → named_by x key ≤ named_on xs key
    named_at [] n x key e = absurd (cc)
    named_at (y ∷ xs) zero x key e = let is : y ≡ x = cc in omega (arith, named_on-cons y xs key, ap (λ (z : SegmentView). named_by z key) is)
    named_at (y ∷ xs) (suc n) x key e = omega (arith, named_on-cons y xs key, named_at xs n x key e)

-- it is the one that was tested
pub tested_at : (test : SegmentView → Bool) (stack : List SegmentView) (at : ℕ) (g h : SegmentView) (b : Bool) → slice_get stack at ≡ Some g → slice_get stack at ≡ Some h → b ≡ test h → b ≡ true → test g ≡ true
tested_at test stack at g h b there here value so =
    let is : g ≡ h = (let e : Some g ≡ Some h = sym there ∙ here in cc) in
    ap test is ∙ sym value ∙ so

-- ---- one entry of a stack

-- the stack is lawful, its entries mean what they meant, and holders follow its leaves
pub record IsStillStack (s t : StoreView) (stack after : List SegmentView) : Type 0 where
  pub lawful : IsLawfulStack t after
  pub means : entries t after ≡ entries s stack
  pub follows : Follows s t (named_on stack) (named_on after)

-- the entries before one, and those after it
split_at : (stack : List SegmentView) (at : ℕ) (g : SegmentView) → slice_get stack at ≡ Some g → (older : List SegmentView) × (younger : List SegmentView) × (stack ≡ older ++ g ∷ younger) × (length older ≡ at)
split_at [] at g there = absurd (cc)
split_at (x ∷ xs) zero g there = let is : x ≡ g = cc in ([], xs, ap (λ (y : SegmentView). y ∷ xs) is, refl)
split_at (x ∷ xs) (suc n) g there =
    let rest = split_at xs n g there in
    (x ∷ rest.0, rest.1, ap (λ (ys : List SegmentView). x ∷ ys) rest.2, ap suc rest.3)

pub entry_moved : (s t : StoreView) (stack after : List SegmentView) (at : ℕ) → MovesEntry s t stack after at → IsLawfulStack s stack → Holds s (named_on stack) → IsStillStack s t stack after
entry_moved s t stack after at m lawful holds =
    let g : SegmentView = m.gone in
    let c : SegmentView = m.came in
    let split = split_at stack at g m.there in
    let older : List SegmentView = split.0 in
    let younger : List SegmentView = split.1 in
    let was : stack ≡ older ++ g ∷ younger = split.2 in
    let is : after ≡ older ++ c ∷ younger =
    m.put ∙ ap (λ (xs : List SegmentView). slice_set xs at c) was ∙ ap (λ (n : ℕ). slice_set (older ++ g ∷ younger) n c) (sym split.3) ∙ set-append_seam older g younger c in
    let one = replaced_one s t older younger g c (subst (IsLawfulStack s) was lawful) (λ key. omega (arith, holds key, ap (λ (xs : List SegmentView). named_on xs key) was)) m.follows m.lawful m.means in
    let others : LeafCounts = both (named_on older) (named_on younger) in
    record {
      lawful = subst (IsLawfulStack t) (sym is) one.0;
      means = ap (entries t) is ∙ one.1 ∙ ap (entries s) (sym was);
      follows = follows_counted s t (both (named_by g) others) (both (named_by c) others) (named_on stack) (named_on after)
          (λ key. ap (λ (xs : List SegmentView). named_on xs key) was ∙ named_on_parts older younger g key)
          (λ key. ap (λ (xs : List SegmentView). named_on xs key) is ∙ named_on_parts older younger c key)
          (follows_beside s t (named_by g) (named_by c) others m.follows);
    }

-- where an entry was refused
pub entry_refused : (s t : StoreView) (stack after : List SegmentView) → after ≡ stack → Follows s t none none → IsLawfulStack s stack → Holds s (named_on stack) → IsStillStack s t stack after
entry_refused s t stack after kept follows lawful holds =
    let all = stack_counted s t stack holds follows lawful in
    record {
      lawful = subst (IsLawfulStack t) (sym kept) all.0;
      means = ap (entries t) kept ∙ all.1;
      follows = follows_counted s t (both none (named_on stack)) (both none (named_on stack)) (named_on stack) (named_on after)
          (λ key. omega arith) (λ key. omega (arith, ap (λ (xs : List SegmentView). named_on xs key) kept)) (follows_beside s t none none (named_on stack) follows);
    }
