-- A subscript that was made.
use Rattle.std.proofs.Common.{◌≡◌, ℕ, ℤ, ◌+◌, ◌-◌, Bool, List, [], ◌∷◌, ◌++◌, length, map, inr, Option, Some, Ok, Err, refl, sym, ap, ◌∙◌, arith, append_assoc}
use Rattle.std.proofs.lemmas.List.{length-append, length-map, length-reverse}
use Rattle.std.specs.Prelude.{reverse, slice_get}
use Rattle.apl_base.specs.declared.faults.Place.{Place}
use Rattle.apl_base.specs.Array.{Array}
use Rattle.array_store.specs.Stores.{StoreView}
use Rattle.array_store.specs.Follows.{Follows, Holds, both, none}
use Rattle.array_store.proofs.FollowsLemmas.{follows_then, follows_after, holds_then}
use Rattle.drag_along.specs.declared.leaves.Leaf.{Leaf}
use Rattle.drag_along.specs.Nodes.{named_by_leaf}
use Rattle.drag_along.specs.Segments.{SegmentView}
use Rattle.drag_along.specs.Meaning.{Meaning, Means, entry}
use Rattle.drag_along.specs.Lawful.{IsLawfulLeaf}
use Rattle.drag_along.proofs.OneLeafLemmas.{one_leaf_means}
use Rattle.leaf_names.specs.Variables.{array_of}
use Rattle.value_stack.proofs.EntriesLemmas.{entry_is_lawful}
use Rattle.value_stack.specs.Stacks.{named_on, entries, IsLawfulStack}
use Rattle.apl_model.specs.Subscript.{subscript}
use Rattle.apl_compile.specs.declared.codes.Op.TheVariants as op
use Rattle.apl_model.specs.Whole.{Answer}
use Rattle.made_leaf.specs.declared.faults.MadeFault.{MadeFault}
use Rattle.made_leaf.specs.declared.faults.MadeFault.TheVariants as made
use Rattle.made_leaf.specs.Made.{IsMadeBy, Fetched}
use Rattle.pending_steps.specs.Shapes.{AreArrays}
use Rattle.pending_steps.proofs.LiteralLemmas.{beside_made}
use Rattle.pending_steps.specs.Steps.{Moves}
use Rattle.pending_steps.specs.Leaves.{PutsLeaf}
use Rattle.leaf_steps.specs.Origins.{StepsFrom, IsHaltedFrom}
use Rattle.leaf_steps.specs.Making.{StandsForAnswer, IsMade, halt_at}
use Rattle.leaf_steps.proofs.MakingLemmas.{made_by}
use Rattle.indexing_steps.specs.Falls.{DropsBelow, PutsOver}
use Rattle.indexing_steps.specs.Operands.{positions_in, IsLeafEntry, ArePositions, arrays_of, AreOperands}
use Rattle.indexing_steps.proofs.FallLemmas.{HasNewest, has_newest}
use Rattle.indexing_steps.proofs.OperandLemmas.{leaf_lawful, operands_are}
use Rattle.indexing_steps.proofs.AnswerLemmas.{first_part, second_part, answer_steps, answer_refuses}
use Rattle.value_stack.proofs.NewestLemmas.{newest_at}
use Rattle.leaf_names.proofs.StandsLemmas.{array_is}

abbrev mean : Array → Meaning
mean a = Means a

-- a leaf is put there, and entries below it are let go
pub put_over : (old new : StoreView) (before between after : List SegmentView) (leaf : Leaf) (count : ℕ) → PutsLeaf old before between leaf → DropsBelow old new between after count → PutsOver old new before after leaf count
put_over old new before between after leaf count puts d =
    let top : Meaning = mean (array_of old leaf) in
    let whole : entries old before ++ top ∷ [] ≡ (d.older ++ d.gone) ++ d.newest ∷ [] = sym puts.means ∙ d.was in
    let under : entries old before ≡ d.older ++ d.gone = first_part (entries old before) (d.older ++ d.gone) (top ∷ []) (d.newest ∷ []) whole refl in
    let last : top ∷ [] ≡ d.newest ∷ [] = second_part (entries old before) (d.older ++ d.gone) (top ∷ []) (d.newest ∷ []) whole refl in
    let newest : top ≡ d.newest = cc in
    record {
      older = d.older;
      gone = d.gone;
      number = d.number;
      was = under;
      is = d.is ∙ ap (λ (m : Meaning). d.older ++ m ∷ []) (sym newest);
      moves = record {
        lawful = d.moves.lawful;
        follows = follows_then old old new (both (named_on before) (named_by_leaf leaf)) (both (named_on between) none) (both (named_on after) none) puts.moves.follows d.moves.follows;
      };
    }

-- one entry more
pub one_longer : (old : StoreView) (before between : List SegmentView) (leaf : Leaf) → PutsLeaf old before between leaf → length between ≡ length before + 1
one_longer old before between leaf puts =
    omega (arith, ap (λ (ms : List Meaning). length ms) puts.means, length-map between (entry old), length-map before (entry old), length-append (entries old before) (mean (array_of old leaf) ∷ []))

pub put_held : (old : StoreView) (before between : List SegmentView) (leaf : Leaf) → PutsLeaf old before between leaf → Holds old (both (named_on before) (named_by_leaf leaf)) → Holds old (named_on between)
put_held old before between leaf puts h key =
    omega (arith, holds_then old old (both (named_on before) (named_by_leaf leaf)) (both (named_on between) none) puts.moves.follows h key)

-- the operands, which are leaves
pub record AreLeaves (store : StoreView) (mask : List Bool) (stack : List SegmentView) (array : Leaf) (leaves : List (Option Leaf)) : Type 0 where
  pub lawful : IsLawfulLeaf store array
  pub operands : AreOperands mask (entries store stack) (array_of store array) (arrays_of store leaves)

pub are_leaves : (store : StoreView) (mask : List Bool) (stack : List SegmentView) (end : ℕ) (array : Leaf) (leaves : List (Option Leaf)) → ArePositions mask stack end leaves → end + 1 ≡ length stack → ((s : SegmentView) → slice_get stack end ≡ Some s → IsLeafEntry s array) → IsLawfulStack store stack → AreLeaves store mask stack array leaves
are_leaves store mask stack end array leaves p long one lawful =
    let n : HasNewest stack = has_newest stack (omega (arith, long)) in
    let place : end ≡ length stack - 1 = omega (arith, long) in
    let at : slice_get stack end ≡ Some n.newest = ap (λ (k : ℕ). slice_get stack k) place ∙ newest_at stack n.older n.newest n.whole in
    let leaf : IsLeafEntry n.newest array = one n.newest at in
    record {
      lawful = leaf_lawful store n.newest array leaf (entry_is_lawful store stack end n.newest lawful at);
      operands = operands_are store mask stack end leaves n.newest (array_of store array) p long at (one_leaf_means store n.newest array leaf.segment leaf.is);
    }

-- the step
pub gathered_steps : (origin : ℤ) (mask : List Bool) (place : Place) (old mid new : StoreView) (before after : List SegmentView) (array leaf : Leaf) (leaves : List (Option Leaf)) → AreLeaves old mask before array leaves → StandsForAnswer mid (subscript origin (array_of old array) (arrays_of old leaves)) leaf → entries mid before ≡ entries old before → PutsOver mid new before after leaf (1 + positions_in mask)
    → StepsFrom origin (record { place = place; op = op.Index mask }) (1 + positions_in mask) 1 (entries old before) (entries new after)
gathered_steps origin mask place old mid new before after array leaf leaves l s kept p =
    let a : Array = array_of old array in
    let o = l.operands in
    let there : List Meaning = map mean (reverse o.there) in
    let split : o.older ++ (there ++ mean a ∷ []) ≡ p.older ++ p.gone = sym (append_assoc o.older there (mean a ∷ [])) ∙ sym o.are ∙ sym kept ∙ p.was in
    let long : length (there ++ mean a ∷ []) ≡ length p.gone =
    omega (arith, length-append there (mean a ∷ []), length-map (reverse o.there) mean, length-reverse o.there, o.number, p.number) in
    let older : o.older ≡ p.older = first_part o.older p.older (there ++ mean a ∷ []) p.gone split long in
    answer_steps origin mask place (entries old before) (entries new after) a s.array (arrays_of old leaves) o s.is
    (p.is ∙ ap (λ (b : Array). p.older ++ mean b ∷ []) (array_is mid leaf s.array s.stands) ∙ ap (λ (ms : List Meaning). ms ++ mean s.array ∷ []) (sym older))

pub made_moves : (old mid new : StoreView) (before after : List SegmentView) (leaf : Leaf) (count : ℕ) → Follows old mid none (named_by_leaf leaf) → PutsOver mid new before after leaf count → Moves old new before after none none
made_moves old mid new before after leaf count came p = record {
  lawful = p.moves.lawful;
  follows =
      follows_then old mid new (both (named_on before) none) (both (named_on before) (named_by_leaf leaf)) (both (named_on after) none)
      (follows_after old mid none (named_by_leaf leaf) (named_on before) came) p.moves.follows;
}

-- the leaf and the entries are held
pub made_held : (old mid : StoreView) (before : List SegmentView) (leaf : Leaf) → Follows old mid none (named_by_leaf leaf) → Holds old (named_on before) → Holds mid (both (named_on before) (named_by_leaf leaf))
made_held old mid before leaf came h key = omega (arith, h key, came.holders key)

-- where nothing was made
pub unmade_moves : (old new : StoreView) (stack : List SegmentView) → Follows old new none none → IsLawfulStack new stack → Moves old new stack stack none none
unmade_moves old new stack follows lawful = record { lawful = lawful; follows = follows_after old new none none (named_on stack) follows }

-- a leaf that was made: it stands for the answer, and the entries are as they were
pub record IsGathered (old mid : StoreView) (stack : List SegmentView) (answer : Answer) (leaf : Leaf) : Type 0 where
  pub stands : StandsForAnswer mid answer leaf
  pub follows : Follows old mid none (named_by_leaf leaf)
  pub entries_lawful : IsLawfulStack mid stack
  pub kept : entries mid stack ≡ entries old stack

pub ok_gathered : (old mid : StoreView) (most : ℕ) (answer : Answer) (leaf : Leaf) (stack : List SegmentView) → IsMadeBy (Fetched old most) old mid answer (Ok leaf) → IsLawfulStack old stack → Holds old (named_on stack) → IsGathered old mid stack answer leaf
ok_gathered old mid most answer leaf stack h lawful holds =
    let m : IsMade old mid answer (Ok leaf) = made_by old mid most answer (Ok leaf) h in
    let k = beside_made old mid (named_by_leaf leaf) stack m.follows lawful holds in
    record { stands = m.answers; follows = m.follows; entries_lawful = k.0; kept = k.1 }

pub fault_moves : (old mid : StoreView) (most : ℕ) (answer : Answer) (fault : MadeFault) (stack : List SegmentView) → IsMadeBy (Fetched old most) old mid answer (Err fault) → IsLawfulStack old stack → Holds old (named_on stack) → Moves old mid stack stack none none
fault_moves old mid most answer fault stack h lawful holds =
    let m : IsMade old mid answer (Err fault) = made_by old mid most answer (Err fault) h in
    unmade_moves old mid stack m.follows (beside_made old mid none stack m.follows lawful holds).0

pub fault_halts : (origin : ℤ) (mask : List Bool) (place : Place) (old mid : StoreView) (most : ℕ) (stack : List SegmentView) (array : Leaf) (leaves : List (Option Leaf)) (fault : MadeFault) → AreLeaves old mask stack array leaves → AreArrays old stack → IsMadeBy (Fetched old most) old mid (subscript origin (array_of old array) (arrays_of old leaves)) (Err fault)
    → IsHaltedFrom origin (record { place = place; op = op.Index mask }) (1 + positions_in mask) old.limit (entries old stack) (halt_at place fault)
fault_halts origin mask place old mid most stack array leaves (made.Error kind) l arrays h =
    inr (answer_refuses origin mask place old stack (entries old stack) (array_of old array) (arrays_of old leaves) kind arrays refl l.operands h.is)
fault_halts origin mask place old mid most stack array leaves (made.WsFull live asked) l arrays h = omega (arith, h.held, h.full)
fault_halts origin mask place old mid most stack array leaves made.NoMemory l arrays h = tt
