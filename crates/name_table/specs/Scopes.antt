-- The names of the globals or of one frame, and what is so of all names.
use Rattle.std.specs.Prelude.{◌≡◌, ℕ, ◌^◌, ◌<◌, true, false, List, ◌∷◌, ◌++◌, map, length, reverse, String, Option}
use Rattle.std.specs.List.{AllByRecursion, All, IsDistinct}
use Rattle.std.specs.Str.{chars, IsUtf8}
use Rattle.std.specs.String.{string_bytes}
use Rattle.apl_model.specs.Environment.{Bindings, Environment, is_same_name, declares, declared_in}

-- ---- one table

-- the names of bindings, in their order
abbrev pub names_of : {A : Type 0} → Bindings A → List (List ℕ)
names_of bindings = map (λ b. b.0) bindings

-- names that differ, and are fewer than 2^64
pub record AreNames {A : Type 0} (bindings : Bindings A) : Type 0 where
  pub differ : IsDistinct is_same_name (names_of bindings)
  pub few : length bindings < 2 ^ 64

-- so are the globals, and the names of each frame; and there are fewer than 2^63 frames
pub record AreAllNames {A : Type 0} (names : Environment A) : Type 0 where
  pub globals : AreNames names.globals
  pub frames : All AreNames names.frames
  pub deep : length names.frames < 2 ^ 63

-- ---- a table by texts

-- a table as bindings: each text is the list of its characters
abbrev pub bindings_of : {A Y : Type 0} → List (String Y × Option A) → Bindings A
bindings_of entries = map (λ e. (chars (string_bytes e.0), e.1)) entries

-- what is so of every table
pub record IsTable {A Y : Type 0} (entries : List (String Y × Option A)) : Type 0 where
  pub texts : AllByRecursion (λ e. IsUtf8 (string_bytes e.0)) entries
  pub names : AreNames (bindings_of entries)

-- ---- where a name is declared, in frames of which the last is the innermost

-- the frame at this place declares the name, and none after it does
pub record IsInnermost {A : Type 0} (frames : List (Bindings A)) (name : List ℕ) (at : ℕ) : Type 0 where
  pub frame : Bindings A
  pub before : List (Bindings A)
  pub after : List (Bindings A)
  pub place : length before ≡ at
  pub there : frames ≡ before ++ frame ∷ after
  pub declares : declares frame name ≡ true
  pub hidden : declared_in (reverse after) name ≡ false
