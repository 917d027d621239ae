-- Selections that have lengths are made without error, and have them: each condition is a test that holds.
use Rattle.std.proofs.Common.{◌≡◌, ℕ, ◌==◌, ◌-◌, pos, ◌+ℤ◌, ◌-ℤ◌, unsigned_abs, int_le, int_lt, Bool, true, false, not, ◌&&◌, ◌||◌, List, map, length, Some, Ok, refl}
use Rattle.std.specs.List.{list_all, list_any}
use Rattle.apl_base.specs.declared.faults.ErrorKind.TheVariants as error
use Rattle.apl_base.specs.Array.{Array}
use Rattle.apl_base.specs.Elements.{all_defined, tabulated, gathered}
use Rattle.apl_base.specs.Selection.{take_shape, drop_shape, drop_index, reverse_index, transpose_shape, transpose_index}
use Rattle.apl_model.specs.declared.functions.Axis.TheVariants.{Last, First, Numbered}
use Rattle.apl_model.specs.Made.{is_above_one, less_origin, are_axes, read_or_fill, taken_places, with_shape}
use Rattle.apl_model.specs.Subscript.{is_text_position, in_axes, positions_shape, positions_index}
use Rattle.apl_model.specs.Whole.{count, rank, is_text, is_shape, error_if, error_or}
use Rattle.apl_cost.specs.Ranges.{counts_fit, is_run}
use Rattle.apl_cost.specs.Plain.{shape_where, with_axes}
use Rattle.apl_cost.specs.Laws.{HasShape, TakesHaveLengths, DropsHaveLengths, TransposesHaveLengths, ReversalsHaveLengths, SubscriptsHaveLengths}

take-made : (above each text fits small : Bool) (v : Array) (ns : List ℕ) →
    shape_where (not above && each && not text && fits && small) v.shape ≡ Some ns →
    HasShape (error_if error.Rank above (error_if error.Length (not each) (error_if error.Domain text (error_or error.Limit (not small) (λ _. Ok v))))) ns
take-made true each text fits small v ns h = absurd (cc)
take-made false false text fits small v ns h = absurd (cc)
take-made false true true fits small v ns h = absurd (cc)
take-made false true false false small v ns h = absurd (cc)
take-made false true false true false v ns h = absurd (cc)
take-made false true false true true v ns h = record { array = v; made = refl; shape = cc }

drop-made : (above each text small : Bool) (v : Array) (ns : List ℕ) →
    shape_where (not above && each && not text && small) v.shape ≡ Some ns →
    HasShape (error_if error.Rank above (error_if error.Length (not each) (error_if error.Domain text (error_or error.Limit (not small) (λ _. Ok v))))) ns
drop-made above each text small v ns h = take-made above each text small small v ns (twice above each text small h)
  where
    twice : (above each text small : Bool) → shape_where (not above && each && not text && small) v.shape ≡ Some ns →
        shape_where (not above && each && not text && small && small) v.shape ≡ Some ns
    twice true each text small h = absurd (cc)
    twice false false text small h = absurd (cc)
    twice false true true small h = absurd (cc)
    twice false true false false h = absurd (cc)
    twice false true false true h = h

transpose-made : (above each text axes : Bool) (v : Array) (ns : List ℕ) →
    shape_where (not above && each && not text && axes) v.shape ≡ Some ns →
    HasShape (error_if error.Rank above (error_if error.Length (not each) (error_or error.Domain (text || not axes) (λ _. Ok v)))) ns
transpose-made true each text axes v ns h = absurd (cc)
transpose-made false false text axes v ns h = absurd (cc)
transpose-made false true true axes v ns h = absurd (cc)
transpose-made false true false false v ns h = absurd (cc)
transpose-made false true false true v ns h = record { array = v; made = refl; shape = cc }

numbered-made : (axis : Bool) (v : Array) (ns : List ℕ) → shape_where axis v.shape ≡ Some ns → HasShape (error_if error.Rank (not axis) (Ok v)) ns
numbered-made false v ns h = absurd (cc)
numbered-made true v ns h = record { array = v; made = refl; shape = cc }

subscript-made : (each runs text inside small : Bool) (v : Array) (ns : List ℕ) →
    shape_where (each && runs && not text && inside && small) v.shape ≡ Some ns →
    HasShape (error_if error.Rank (not each) (error_if error.Domain text (error_if error.Index (not inside) (error_or error.Limit (not small) (λ _. Ok v))))) ns
subscript-made false runs text inside small v ns h = absurd (cc)
subscript-made true false text inside small v ns h = absurd (cc)
subscript-made true true true inside small v ns h = absurd (cc)
subscript-made true true false false small v ns h = absurd (cc)
subscript-made true true false true false v ns h = absurd (cc)
subscript-made true true false true true v ns h = record { array = v; made = refl; shape = cc }

pub takes_have_lengths : TakesHaveLengths
takes_have_lengths a b ns h =
    let ms = with_axes a b.shape in
    take-made (is_above_one a) (count a == length ms) (is_text a) (counts_fit ms a.cells) (is_shape (take_shape a.cells))
    (tabulated b.kind (take_shape a.cells) (λ is. read_or_fill (with_shape b ms) (all_defined (taken_places ms a.cells is)))) ns h

pub drops_have_lengths : DropsHaveLengths
drops_have_lengths a b ns h =
    let ms = with_axes a b.shape in
    drop-made (is_above_one a) (count a == length ms) (is_text a) (is_shape (drop_shape ms a.cells))
    (gathered (drop_shape ms a.cells) (drop_index ms a.cells) (with_shape b ms)) ns h

pub transposes_have_lengths : TransposesHaveLengths
transposes_have_lengths o a b ns h =
    let axes = map unsigned_abs (less_origin o a) in
    transpose-made (is_above_one a) (count a == rank b) (is_text a) (are_axes (less_origin o a))
    (gathered (transpose_shape axes b.shape) (transpose_index axes) b) ns h

pub reversals_have_lengths : ReversalsHaveLengths
reversals_have_lengths o Last b ns h = record { array = gathered b.shape (reverse_index b.shape (rank b - 1)) b; made = refl; shape = cc }
reversals_have_lengths o First b ns h = record { array = gathered b.shape (reverse_index b.shape 0) b; made = refl; shape = cc }
reversals_have_lengths o (Numbered k) b ns h =
    numbered-made (int_le o k && int_lt k (o +ℤ pos (rank b))) (gathered b.shape (reverse_index b.shape (unsigned_abs (k -ℤ o))) b) ns h

pub subscripts_have_lengths : SubscriptsHaveLengths
subscripts_have_lengths o ps b ns h =
    subscript-made (length ps == rank b) (list_all is_run ps) (list_any is_text_position ps) (in_axes o b.shape ps) (is_shape (positions_shape b.shape ps))
    (gathered (positions_shape b.shape ps) (positions_index o b.shape ps) b) ns h
