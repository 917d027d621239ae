-- The kind of a selection is that of the array selected from.
use Rattle.std.proofs.Common.{◌≡◌, ◌==◌, not, ◌&&◌, ◌||◌, ℤ, pos, ◌+ℤ◌, int_le, int_lt, unsigned_abs, List, map, length, Option, refl}
use Rattle.std.specs.List.{list_any}
use Rattle.apl_base.specs.declared.faults.ErrorKind.TheVariants as error
use Rattle.apl_base.specs.Array.{Array}
use Rattle.apl_base.specs.Selection.{drop_shape}
use Rattle.apl_model.specs.declared.functions.Axis.{Axis}
use Rattle.apl_model.specs.declared.functions.Axis.TheVariants.{Last, First, Numbered}
use Rattle.apl_model.specs.Made.{is_above_one, take_or_pad, drop_from, reversed, transposed, less_origin, are_axes, taken_shape}
use Rattle.apl_model.specs.Subscript as places
use Rattle.apl_model.specs.Subscript.{is_text_position, in_axes, positions_shape}
use Rattle.apl_model.specs.Whole.{Answer, count, rank, is_text}
use Rattle.apl_cost_laws.proofs.Cells.{Makes, makes-ok, makes-if, makes-or, makes-within}

abbrev pub OfKind : Array → Answer → Type 0
OfKind b answer = Makes (λ c. c.kind ≡ b.kind) answer

pub take-kind : (a b : Array) → OfKind b (take_or_pad a b)
take-kind a b =
    makes-if _ error.Rank (is_above_one a) _ (λ _. makes-if _ error.Length (not (count a == length (taken_shape a b))) _
    (λ _. makes-if _ error.Domain (is_text a) _ (λ _. makes-within _ (map unsigned_abs a.cells) _ (makes-ok _ _ refl))))

pub drop-kind : (a b : Array) → OfKind b (drop_from a b)
drop-kind a b =
    makes-if _ error.Rank (is_above_one a) _ (λ _. makes-if _ error.Length (not (count a == length (taken_shape a b))) _
    (λ _. makes-if _ error.Domain (is_text a) _ (λ _. makes-within _ (drop_shape (taken_shape a b) a.cells) _ (makes-ok _ _ refl))))

pub transpose-kind : (o : ℤ) (a b : Array) → OfKind b (transposed o a b)
transpose-kind o a b =
    makes-if _ error.Rank (is_above_one a) _ (λ _. makes-if _ error.Length (not (count a == rank b)) _
    (λ _. makes-or _ error.Domain (is_text a || not (are_axes (less_origin o a))) _ (λ _. makes-ok _ _ refl)))

pub reverse-kind : (o : ℤ) (axis : Axis) (b : Array) → OfKind b (reversed o axis b)
reverse-kind o Last b = makes-ok _ _ refl
reverse-kind o First b = makes-ok _ _ refl
reverse-kind o (Numbered k) b = makes-if _ error.Rank (not (int_le o k && int_lt k (o +ℤ pos (rank b)))) _ (λ _. makes-ok _ _ refl)

pub subscript-kind : (o : ℤ) (b : Array) (ps : List (Option Array)) → OfKind b (places.subscript o b ps)
subscript-kind o b ps =
    makes-if _ error.Rank (not (length ps == rank b)) _ (λ _. makes-if _ error.Domain (list_any is_text_position ps) _
    (λ _. makes-if _ error.Index (not (in_axes o b.shape ps)) _ (λ _. makes-within _ (positions_shape b.shape ps) _ (makes-ok _ _ refl))))
