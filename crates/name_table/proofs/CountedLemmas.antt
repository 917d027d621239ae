-- How often names and an owner go together at most.
use Rattle.std.proofs.Common.{ℕ, ◌*◌, ◌^◌, ◌≤◌, List, [], ◌∷◌, length, Option, Some, None, arith}
use Rattle.std.specs.List.{All}
use Rattle.std.proofs.lemmas.List.Elements.{All-head, All-tail}
use Rattle.drag_along.specs.declared.leaves.Leaf.{Leaf}
use Rattle.drag_along.specs.declared.leaves.Leaf.TheVariants.{Stored, Gen}
use Rattle.apl_model.specs.Environment.{Bindings}
use Rattle.leaf_names.specs.Variables.{named_by_option, named_by_bindings}
use Rattle.leaf_names.proofs.CountLemmas.{named-cons, in_frames, frames-cons}
use Rattle.name_table.specs.Laws.{NamedAtMost}

option-once : (o : Option Leaf) (key : ℕ) → named_by_option o key ≤ 1
option-once None key = omega arith
option-once (Some (Stored owner desc kind)) key = grind arith
option-once (Some (Gen desc kind)) key = omega arith

bindings-once : (bs : Bindings Leaf) (key : ℕ) → named_by_bindings bs key ≤ length bs
bindings-once [] key = omega arith
bindings-once (b ∷ bs) key = omega (arith, named-cons b bs key, option-once b.1 key, bindings-once bs key)

frames-most : (fs : List (Bindings Leaf)) (key most : ℕ) → All (λ f. length f ≤ most) fs → in_frames fs key ≤ length fs * most
frames-most [] key most few = omega arith
frames-most (f ∷ fs) key most few =
    let head : length f ≤ most = All-head (λ (g : Bindings Leaf). length g ≤ most) f fs few in
    let rest = frames-most fs key most (All-tail (λ (g : Bindings Leaf). length g ≤ most) f fs few) in
    omega (arith, frames-cons f fs key, bindings-once f key, head, rest)

pub named_at_most : NamedAtMost
named_at_most names key are =
    let most : ℕ = 2 ^ 64 in
    let few : All (λ f. length f ≤ most) names.frames = λ k d within. omega (arith, (are.frames k d within).few) in
    omega (arith, frames-most names.frames key most few, bindings-once names.globals key, are.globals.few)
