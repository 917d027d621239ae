-- What a mask takes.
use Rattle.std.proofs.Common.{◌≡◌, ◌+◌, Bool, true, false, List, [], ◌∷◌, ◌++◌, length, map, Option, Some, None, refl, ap, ◌∙◌, arith}
use Rattle.std.specs.Prelude.{IfSome}
use Rattle.std.specs.List.{AllByRecursion}
use Rattle.std.specs.Option.{option_map}
use Rattle.std.proofs.lemmas.List.Sums.{sum_by-cons}
use Rattle.apl_compile.specs.Execution.{taken, with_position}
use Rattle.indexing_steps.specs.Operands.{positions_in, spread}

pub count-yes : (mask : List Bool) → positions_in (true ∷ mask) ≡ 1 + positions_in mask
count-yes mask = sum_by-cons _ true mask

pub count-no : (mask : List Bool) → positions_in (false ∷ mask) ≡ positions_in mask
count-no mask = sum_by-cons _ false mask ∙ omega arith

-- those that are there are taken, and what follows is left
pub taken_spread : {V : Type 0} (mask : List Bool) (there vs : List V) → length there ≡ positions_in mask → taken mask (there ++ vs) ≡ Some (record { positions = spread mask there; left = vs })
taken_spread [] [] vs h = refl
taken_spread [] (v ∷ there) vs h = absurd (omega (arith, h))
taken_spread (false ∷ mask) there vs h = ap (option_map (with_position None)) (taken_spread mask there vs (h ∙ count-no mask))
taken_spread (true ∷ mask) [] vs h = absurd (omega (arith, h, count-yes mask))
taken_spread (true ∷ mask) (v ∷ there) vs h = ap (option_map (with_position (Some v))) (taken_spread mask there vs (omega (arith, h, count-yes mask)))

-- one more that is left out, and one more that is there
pub spread-no : {V : Type 0} (mask : List Bool) (there : List V) → spread (mask ++ false ∷ []) there ≡ spread mask there ++ None ∷ []
spread-no [] there = refl
spread-no {V} (false ∷ mask) there = ap (λ (ps : List (Option V)). None ∷ ps) (spread-no mask there)
spread-no {V} (true ∷ mask) [] = ap (λ (ps : List (Option V)). None ∷ ps) (spread-no mask [])
spread-no {V} (true ∷ mask) (v ∷ there) = ap (λ (ps : List (Option V)). Some v ∷ ps) (spread-no mask there)

pub spread-yes : {V : Type 0} (mask : List Bool) (there : List V) (v : V) → length there ≡ positions_in mask → spread (mask ++ true ∷ []) (there ++ v ∷ []) ≡ spread mask there ++ Some v ∷ []
spread-yes [] [] v h = refl
spread-yes [] (w ∷ there) v h = absurd (omega (arith, h))
spread-yes {V} (false ∷ mask) there v h = ap (λ (ps : List (Option V)). None ∷ ps) (spread-yes mask there v (h ∙ count-no mask))
spread-yes (true ∷ mask) [] v h = absurd (omega (arith, h, count-yes mask))
spread-yes {V} (true ∷ mask) (w ∷ there) v h = ap (λ (ps : List (Option V)). Some w ∷ ps) (spread-yes mask there v (omega (arith, h, count-yes mask)))

-- seen through a function
pub spread-map : {V W : Type 0} (f : V → W) (mask : List Bool) (there : List V) → spread mask (map f there) ≡ map (option_map f) (spread mask there)
spread-map f [] there = refl
spread-map {V} {W} f (false ∷ mask) there = ap (λ (ps : List (Option W)). None ∷ ps) (spread-map f mask there)
spread-map {V} {W} f (true ∷ mask) [] = ap (λ (ps : List (Option W)). None ∷ ps) (spread-map f mask [])
spread-map {V} {W} f (true ∷ mask) (v ∷ there) = ap (λ (ps : List (Option W)). Some (f v) ∷ ps) (spread-map f mask there)

-- what is so of each that is there
pub spread-all : {V : Type 0} (P : V → Type 0) (mask : List Bool) (there : List V) → AllByRecursion P there → AllByRecursion (λ p. IfSome p P) (spread mask there)
spread-all P [] there h = tt
spread-all P (false ∷ mask) there h = (tt, spread-all P mask there h)
spread-all P (true ∷ mask) [] h = (tt, spread-all P mask [] h)
spread-all P (true ∷ mask) (v ∷ there) h = (h.0, spread-all P mask there h.1)
