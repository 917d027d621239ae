-- Literals that come as entries.
use Rattle.std.proofs.Common.{◌≡◌, ◌≢◌, ℕ, ℤ, List, [], ◌∷◌, ◌++◌, length, Ok, refl, sym, ap, subst, ◌∙◌, arith}
use Rattle.std.proofs.lemmas.List.{append-nil}
use Rattle.apl_base.specs.Array.{Array}
use Rattle.apl_base.specs.declared.faults.Place.{Place}
use Rattle.array_store.specs.Stores.{StoreView}
use Rattle.array_store.specs.Counting.{OnlyCounted}
use Rattle.array_store.specs.Follows.{LeafCounts, Follows, Holds, none}
use Rattle.drag_along.specs.declared.leaves.Leaf.{Leaf}
use Rattle.drag_along.specs.Segments.{SegmentView}
use Rattle.drag_along.specs.Meaning.{Meaning, Means, leaf_array}
use Rattle.drag_along.specs.Views.{StandsForArray}
use Rattle.drag_along.proofs.KeptLemmas.{follows_keeps}
use Rattle.value_stack.specs.Stacks.{named_on, entries, IsLawfulStack}
use Rattle.value_stack.proofs.EntriesLemmas.{stack_kept}
use Rattle.e_machine.specs.Forced.{IsNewLeaf}
use Rattle.apl_model.specs.declared.trees.Literal.{Literal}
use Rattle.apl_model.specs.Evaluation.{Calls, literal_array, literal_shape}
use Rattle.apl_compile.specs.declared.codes.Op.TheVariants as op
use Rattle.leaf_names.specs.Variables.{array_of}
use Rattle.made_leaf.specs.Made.{IsAnswered}
use Rattle.made_leaf.proofs.MadeLemmas.{leaf_made, made_stands}
use Rattle.standing.specs.Stand.{Stand, going, ended, stand_on}
use Rattle.standing.specs.Laws.{Takes}
use Rattle.pending_steps.specs.Leaves.{PutsLeaf}
use Rattle.pending_steps.specs.Steps.{Steps}

-- where leaves only come, a stack is lawful as before and means what it meant
pub beside_made : (old new : StoreView) (came : LeafCounts) (stack : List SegmentView) → Follows old new none came → IsLawfulStack old stack → Holds old (named_on stack) → IsLawfulStack new stack × (entries new stack ≡ entries old stack)
beside_made old new came stack follows lawful holds =
    stack_kept old new stack (follows_keeps old new none came (named_on stack) (named_on stack) follows (λ key. omega (arith, holds key)) (λ key. omega arith)) lawful

-- the shape of a literal that hasn't one cell
pub many_shape : (cells : List ℤ) → length cells ≢ 1 → literal_shape cells ≡ length cells ∷ []
many_shape [] h = refl
many_shape (z ∷ []) h = absurd (h refl)
many_shape (y ∷ z ∷ zs) h = refl

-- a leaf that was made of the cells of a literal stands for its array
pub literal_stands : (old new : StoreView) (literal : Literal) (a : Array) (leaf : Leaf) → a ≡ literal_array literal → IsNewLeaf (λ between. between ≡ old) new a leaf → StandsForArray new leaf (literal_array literal)
literal_stands old new literal a leaf is made =
    let answered : IsAnswered (OnlyCounted old) new (Ok a) leaf = leaf_made (OnlyCounted old) old new (Ok a) a a leaf refl refl refl made in
    let same : answered.array ≡ a = cc in
    subst (StandsForArray new leaf) (same ∙ is) (made_stands old new answered.array leaf answered.comes)

literal_taken : (literal : Literal) (place : Place) (calls : Calls) (z : Stand) → Takes calls (record { place = place; op = op.Lit literal }) (stand_on z []) (stand_on z (Means (literal_array literal) ∷ []))
literal_taken literal place calls (going vs to s) rest = refl
literal_taken literal place calls (ended o) rest = refl

-- it comes as the newest entry
pub literal_step : (literal : Literal) (place : Place) (old made : StoreView) (before after : List SegmentView) (leaf : Leaf) → entries made before ≡ entries old before → PutsLeaf made before after leaf → StandsForArray made leaf (literal_array literal) → Steps (record { place = place; op = op.Lit literal }) 0 1 (entries old before) (entries made after)
literal_step literal place old made before after leaf same puts stands =
    let array : array_of made leaf ≡ literal_array literal = ap (λ (ns : List ℕ). leaf_array made ns leaf) stands.shape.same ∙ stands.array in
    record {
      older = entries old before;
      taken = [];
      given = Means (literal_array literal) ∷ [];
      was = sym (append-nil (entries old before));
      is = puts.means ∙ ap (λ (ms : List Meaning). ms ++ Means (array_of made leaf) ∷ []) same ∙ ap (λ (a : Array). entries old before ++ Means a ∷ []) array;
      operands = refl;
      values = refl;
      step = λ calls z. literal_taken literal place calls z;
    }
