-- Outer products that stay pending.
use Rattle.std.proofs.Common.{◌≡◌, ℕ, ◌+◌, List, [], ◌∷◌, ◌++◌, Option, Some, None, Ok, Err, refl, sym, ap, ◌∙◌, subst, arith}
use Rattle.std.specs.Prelude.{◌↔◌, IfOk, Result}
use Rattle.apl_base.specs.declared.cells.Interval.{Interval}
use Rattle.apl_base.specs.declared.faults.ErrorKind.TheVariants as error
use Rattle.apl_base.specs.declared.faults.Place.{Place}
use Rattle.apl_base.specs.declared.rows.Dya.{Dya}
use Rattle.apl_base.specs.Array.{Array, IsShape}
use Rattle.array_store.specs.Stores.{StoreView}
use Rattle.array_store.specs.Follows.{both}
use Rattle.drag_along.specs.declared.leaves.Leaf.{Leaf}
use Rattle.drag_along.specs.declared.nodes.Node.{Node}
use Rattle.drag_along.specs.declared.nodes.Node.TheVariants.{Operand, One, Two}
use Rattle.drag_along.specs.Nodes.{leaf_shape, named_by_leaf}
use Rattle.drag_along.specs.Segments.{SegmentView, IsSegment, named_by, leaf_segment, joined2}
use Rattle.drag_along.specs.Meaning.{Meaning, Means, leaf_array, entry, combined2}
use Rattle.drag_along.specs.Lawful.{IsLawful, IsLawfulLeaf, IsLeafInterval, LeafWithin}
use Rattle.drag_along.specs.Views.{only_leaf}
use Rattle.drag_along.proofs.OneLeafLemmas.{one_leaf_segment, one_leaf_lawful}
use Rattle.beating.specs.declared.selections.Selection.{Selection}
use Rattle.beating.specs.declared.selections.Selection.TheVariants as select
use Rattle.beating.specs.Selecting.{SelectsLeaf, SelectsNodes, selected, selected_meaning}
use Rattle.beating.proofs.NodeLemmas.{selected_names}
use Rattle.apl_model.specs.Whole.{within_limit, or_domain}
use Rattle.pending_laws.specs.Joins.{meaning_of}
use Rattle.pending_laws.proofs.ExtensionLemmas.{outer_join_is_the_product}
use Rattle.product_fns.specs.Outer.{outer_of, named_by_both, IsExtended, IsPendingProduct}
use Rattle.apl_model_laws.proofs.Refusals.{over_limit, passes_limit}

-- ---- limits

-- a DOMAIN ERROR is no LIMIT ERROR
pub domain_is_no_limit : {X : Type 0} (o : Option X) (make : X → Array) → or_domain o make ≡ Err error.Limit → ⊥
domain_is_no_limit None make h = cc
domain_is_no_limit (Some x) make h = cc

-- so lengths that make a shape are within it
pub within_is_no_limit : {X : Type 0} (ns : List ℕ) (o : Option X) (make : X → Array) → IsShape ns → within_limit ns (λ _. or_domain o make) ≡ Err error.Limit → ⊥
within_is_no_limit ns o make h e = domain_is_no_limit o make (sym (passes_limit ns (λ _. or_domain o make) h) ∙ e)

pub outer_past_limit : (s : StoreView) (f : Dya) (a b : Leaf) → (IsShape (leaf_shape a ++ leaf_shape b) → ⊥) → outer_of s f a b ≡ Err error.Limit
outer_past_limit s f a b h = over_limit (leaf_shape a ++ leaf_shape b) _ h

pub outer_within_limit : (s : StoreView) (f : Dya) (a b : Leaf) → IsShape (leaf_shape a ++ leaf_shape b) → outer_of s f a b ≡ Err error.Limit → ⊥
outer_within_limit s f a b h e = within_is_no_limit (leaf_shape a ++ leaf_shape b) _ _ h e

-- which of both it is, by whether the joined lengths make a shape
pub limit_exact : {R : Type 0} (s : StoreView) (f : Dya) (a b : Leaf) (r limit : R) → (IsShape (leaf_shape a ++ leaf_shape b)) → (r ≡ limit → ⊥) → (r ≡ limit) ↔ (outer_of s f a b ≡ Err error.Limit)
limit_exact s f a b r limit h other = (λ e. absurd (other e), λ e. absurd (outer_within_limit s f a b h e))

-- what is so of a value, if there is one
pub if_ok : {T E : Type 0} (r : Result T E) (P Q : T → Type 0) → ((x : T) → P x → Q x) → IfOk r P → IfOk r Q
if_ok (Ok x) P Q h p = h x p
if_ok (Err e) P Q h p = tt

-- ---- one leaf

record OneRead (by : Selection) (leaf : Leaf) (nodes : List Node) : Type 0 where
  pub read : Leaf
  pub selects : SelectsLeaf by leaf read
  pub is : nodes ≡ Operand read ∷ []

one_read : (by : Selection) (leaf : Leaf) (nodes : List Node) → SelectsNodes by (Operand leaf ∷ []) nodes → OneRead by leaf nodes
one_read by leaf [] h = absurd h
one_read by leaf (Operand read ∷ []) h = record { read = read; selects = h.0; is = refl }
one_read by leaf (Operand read ∷ x ∷ xs) h = absurd h.1
one_read by leaf (One f p ∷ xs) h = absurd h
one_read by leaf (Two f p ∷ xs) h = absurd h

-- a leaf that is read by a selection
pub extended_is : (s : StoreView) (by : Selection) (leaf : Leaf) (range : Interval) (old new : SegmentView) → IsLawfulLeaf s leaf → IsLeafInterval s leaf range → LeafWithin s leaf range → old ≡ leaf_segment leaf range → SelectsNodes by old.nodes new.nodes → new.range ≡ old.range → IsSegment new → (IsLawful s old → IsLawful s new) → (IsLawful s old → entry s new ≡ selected_meaning by (entry s old)) → entry s old ≡ Means (leaf_array s (leaf_shape leaf) leaf) → IsExtended s by leaf new
extended_is s by leaf range old new lawful known within was nodes same segment kept meaning means =
    let one : OneRead by leaf new.nodes = one_read by leaf new.nodes (rw was at nodes) in
    let only : only_leaf new.nodes ≡ Some one.read = ap only_leaf one.is in
    let ranged : new.range ≡ range = same ∙ ap (λ (g : SegmentView). g.range) was in
    let old_lawful : IsLawful s old = subst (IsLawful s) (sym was) ((one_leaf_lawful s leaf range).1 (lawful, within)) in
    record {
      read = one.read;
      range = range;
      selects = one.selects;
      known = known;
      is = one_leaf_segment new one.read segment only ∙ ap (leaf_segment one.read) ranged;
      whole = segment;
      lawful = kept old_lawful;
      means = meaning old_lawful ∙ ap (selected_meaning by) means;
    }

-- it names what the leaf names
pub extended_names : (s : StoreView) (by : Selection) (leaf : Leaf) (g : SegmentView) → IsExtended s by leaf g → (key : ℕ) → named_by g key ≡ named_by_leaf leaf key
extended_names s by leaf g h key =
    let one : named_by g key ≡ named_by_leaf h.read key + 0 = ap (λ (x : SegmentView). named_by x key) h.is in
    let same : named_by_leaf h.read key + 0 ≡ named_by_leaf leaf key + 0 = selected_names by (Operand leaf ∷ []) (Operand h.read ∷ []) (h.selects, tt) key in
    omega arith

-- ---- the product

pub product_means : (s : StoreView) (f : Dya) (place : Place) (a b : Leaf) (left right : SegmentView) (m : Meaning) → IsShape (leaf_shape a ++ leaf_shape b) → IsExtended s (select.OuterLeft (leaf_shape b)) a left → IsExtended s (select.OuterRight (leaf_shape a)) b right → m ≡ combined2 f place (entry s left) (entry s right) → m ≡ meaning_of place (outer_of s f a b)
product_means s f place a b left right m fits l r e =
    e ∙ ap (λ (x : Meaning). combined2 f place x (entry s right)) l.means
    ∙ ap (λ (y : Meaning). combined2 f place (Means (selected (select.OuterLeft (leaf_shape b)) (leaf_array s (leaf_shape a) a))) y) r.means
    ∙ outer_join_is_the_product f place (leaf_array s (leaf_shape a) a) (leaf_array s (leaf_shape b) b) fits

pub product_is : (s : StoreView) (f : Dya) (place : Place) (a b : Leaf) (left right segment : SegmentView) → IsExtended s (select.OuterLeft (leaf_shape b)) a left → IsExtended s (select.OuterRight (leaf_shape a)) b right → segment ≡ joined2 f place left right → IsPendingProduct s f place a b segment
product_is s f place a b left right segment l r e = record {
  left = l.read;
  right = r.read;
  left_range = l.range;
  right_range = r.range;
  left_selects = l.selects;
  right_selects = r.selects;
  left_known = l.known;
  right_known = r.known;
  joined = e ∙ ap (λ (x : SegmentView). joined2 f place x right) l.is ∙ ap (λ (y : SegmentView). joined2 f place (leaf_segment l.read l.range) y) r.is;
}

pub product_names : (s : StoreView) (a b : Leaf) (left right segment : SegmentView) → IsExtended s (select.OuterLeft (leaf_shape b)) a left → IsExtended s (select.OuterRight (leaf_shape a)) b right → ((key : ℕ) → named_by segment key ≡ both (named_by right) (named_by left) key) → (key : ℕ) → named_by segment key ≡ named_by_both a b key
product_names s a b left right segment l r names key =
    omega (arith, names key, extended_names s (select.OuterLeft (leaf_shape b)) a left l key, extended_names s (select.OuterRight (leaf_shape a)) b right r key)
