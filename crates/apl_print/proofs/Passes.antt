-- The elements of a leaf that go to a sink block after block.
use Rattle.std.proofs.Common.{◌≡◌, ℕ, ◌+◌, ◌-◌, ◌<◌, ◌≤◌, ℤ, List, [], ◌∷◌, ◌++◌, length, take, drop, length-drop, Option, refl, sym, ap, ◌∙◌, subst, append_assoc, append-nil, arith, encode_utf8_all}
use Rattle.std.proofs.lemmas.Str.{encodes-append}
use Rattle.std.proofs.Math.Seq.{take-length}
use Rattle.array_store.specs.Stores.{StoreView, AreCounts}
use Rattle.drag_along.specs.declared.leaves.Leaf.{Leaf}
use Rattle.e_machine.specs.Forced.{AreRead, cells_from}
use Rattle.apl_outside.specs.Bytes.{Gains}
use Rattle.apl_print.specs.Bytes.{GainsPrefix, Passes}
use Rattle.apl_print.specs.declared.grids.Grid.{Grid}
use Rattle.apl_print.specs.declared.grids.Spot.{Spot}
use Rattle.apl_print.specs.Layout.{column_after, elements_text, IsSpot, spot_after, start, widened}
use Rattle.apl_print.proofs.ColumnWidths.{column_after-append, widened-append}
use Rattle.apl_print.proofs.Layouts.{elements-append, spot_after-append}
use Rattle.apl_print.proofs.Pieces.{gains-nothing, gains-sent, prefix-front, prefix-sent, Sent, sent-more}
use Rattle.apl_print.proofs.Reading.{cells_read, read_then}
use Rattle.apl_print.proofs.Utf8.{Adds}
use Rattle.e_machine.proofs.ReadLemmas.{read_nothing}
use Rattle.e_machine.proofs.ColumnLemmas.{cells_more}

-- the bytes of the elements at the first places
pub bytes_to : StoreView → Leaf → Grid → List ℕ → ℕ → List ℕ
bytes_to s leaf g ws n = encode_utf8_all (elements_text g ws start (cells_from s leaf 0 n))

-- so many elements were read and added, and these bytes of them are still to be sent
pub record Written (a b : Option (List ℕ)) (s t : StoreView) (leaf : Leaf) (g : Grid) (ws : List ℕ) (done : ℕ) (at : Spot) (text : List ℕ) : Type 0 where
  pub place : at ≡ spot_after g start (cells_from s leaf 0 done)
  pub lawful : IsSpot g at
  pub sent : Sent a b (bytes_to s leaf g ws done) text
  pub read : AreRead s t leaf done

pub written_none : (a : Option (List ℕ)) (s : StoreView) (leaf : Leaf) (g : Grid) (ws : List ℕ) (at : Spot) (text : List ℕ) → AreCounts s.counts → 0 < g.rows → 0 < g.columns →
    at ≡ start → text ≡ [] → Written a a s s leaf g ws 0 at text
unfolding bytes_to
written_none a s leaf g ws at text small rows columns begins none = record {
  place = begins;
  lawful = subst (IsSpot g) (sym begins) (record { rows = rows; row = omega arith; column = columns });
  sent = record { front = []; whole = none; gained = gains-nothing a };
  read = read_nothing s leaf small;
}

-- the bytes to a further place
bytes_more : (s t : StoreView) (leaf : Leaf) (g : Grid) (ws : List ℕ) (done n : ℕ) (at : Spot) (cells : List ℤ) → at ≡ spot_after g start (cells_from s leaf 0 done) → AreRead s t leaf done →
    cells ≡ cells_from t leaf done n → bytes_to s leaf g ws (done + n) ≡ bytes_to s leaf g ws done ++ encode_utf8_all (elements_text g ws at cells)
unfolding bytes_to
bytes_more s t leaf g ws done n at cells place read e =
    let before : List ℤ = cells_from s leaf 0 done in
    let next : List ℤ = cells_from s leaf done n in
    ap (λ cs. encode_utf8_all (elements_text g ws start cs)) (cells_more s leaf done n)
    ∙ ap encode_utf8_all (elements-append g ws start before next)
    ∙ encodes-append (elements_text g ws start before) (elements_text g ws (spot_after g start before) next)
    ∙ ap (λ (p : Spot). encode_utf8_all (elements_text g ws start before) ++ encode_utf8_all (elements_text g ws p next)) (sym place)
    ∙ ap (λ cs. encode_utf8_all (elements_text g ws start before) ++ encode_utf8_all (elements_text g ws at cs)) (sym (e ∙ cells_read s t leaf done done n read))

-- with a block more the text holds what is not sent of it
sent_block : (a b : Option (List ℕ)) (s t : StoreView) (leaf : Leaf) (g : Grid) (ws : List ℕ) (done n : ℕ) (at : Spot) (cells : List ℤ) (text more : List ℕ) →
    Written a b s t leaf g ws done at text → cells ≡ cells_from t leaf done n → Adds text more (elements_text g ws at cells) → Sent a b (bytes_to s leaf g ws (done + n)) more
sent_block a b s t leaf g ws done n at cells text more w e added =
    let block : List ℕ = encode_utf8_all (elements_text g ws at cells) in record {
      front = w.sent.front;
      whole = ap (λ xs. w.sent.front ++ xs) added ∙ sym (append_assoc w.sent.front text block) ∙ ap (λ xs. xs ++ block) w.sent.whole ∙ sym (bytes_more s t leaf g ws done n at cells w.place w.read e);
      gained = w.sent.gained;
    }

-- one block more
pub written_more : (a b c : Option (List ℕ)) (s t u : StoreView) (leaf : Leaf) (g : Grid) (ws : List ℕ) (done n : ℕ) (at next : Spot) (cells : List ℤ) (text more kept : List ℕ) →
    Written a b s t leaf g ws done at text → cells ≡ cells_from t leaf done n → AreRead t u leaf n → Adds text more (elements_text g ws at cells) →
    next ≡ spot_after g at cells → IsSpot g next → Passes b c more kept → Written a c s u leaf g ws (done + n) next kept
written_more a b c s t u leaf g ws done n at next cells text more kept w e read added place lawful passed =
    let before : List ℤ = cells_from s leaf 0 done in
    let sent : Sent a b (bytes_to s leaf g ws (done + n)) more = sent_block a b s t leaf g ws done n at cells text more w e added in record {
      place = place ∙ ap (λ (p : Spot). spot_after g p cells) w.place
          ∙ ap (spot_after g (spot_after g start before)) (e ∙ cells_read s t leaf done done n w.read)
          ∙ sym (spot_after-append g start before (cells_from s leaf done n)) ∙ ap (spot_after g start) (sym (cells_more s leaf done n));
      lawful = lawful;
      sent = sent-more a b c (bytes_to s leaf g ws (done + n)) more passed.front kept sent (sym passed.whole) passed.gained;
      read = read_then s t u leaf done n w.read read;
    }

-- the bytes to a place are a front of those to a later one
later : (s : StoreView) (leaf : Leaf) (g : Grid) (ws : List ℕ) (done size : ℕ) → done ≤ size →
    bytes_to s leaf g ws size ≡ bytes_to s leaf g ws done ++ encode_utf8_all (elements_text g ws (spot_after g start (cells_from s leaf 0 done)) (cells_from s leaf done (size - done)))
unfolding bytes_to
later s leaf g ws done size h =
    let before : List ℤ = cells_from s leaf 0 done in
    let n : ℕ = size - done in
    let all : size ≡ done + n = omega arith in
    ap (λ k. encode_utf8_all (elements_text g ws start (cells_from s leaf 0 k))) all
    ∙ ap (λ cs. encode_utf8_all (elements_text g ws start cs)) (cells_more s leaf done n)
    ∙ ap encode_utf8_all (elements-append g ws start before (cells_from s leaf done n))
    ∙ encodes-append (elements_text g ws start before) (elements_text g ws (spot_after g start before) (cells_from s leaf done n))

prefix_later : (a b : Option (List ℕ)) (s : StoreView) (leaf : Leaf) (g : Grid) (ws : List ℕ) (done size : ℕ) → done ≤ size → GainsPrefix a b (bytes_to s leaf g ws done) → GainsPrefix a b (bytes_to s leaf g ws size)
prefix_later a b s leaf g ws done size h p =
    let rest : List ℕ = encode_utf8_all (elements_text g ws (spot_after g start (cells_from s leaf 0 done)) (cells_from s leaf done (size - done))) in record {
      front = p.front;
      rest = p.rest ++ rest;
      whole = sym (append_assoc p.front p.rest rest) ∙ ap (λ xs. xs ++ rest) p.whole ∙ sym (later s leaf g ws done size h);
      gained = p.gained;
    }

-- memory was wanting after so many
pub prefix_written : (a b : Option (List ℕ)) (s t : StoreView) (leaf : Leaf) (g : Grid) (ws : List ℕ) (done size : ℕ) (at : Spot) (text : List ℕ) → Written a b s t leaf g ws done at text → done ≤ size →
    GainsPrefix a b (encode_utf8_all (elements_text g ws start (cells_from s leaf 0 size)))
unfolding bytes_to
prefix_written a b s t leaf g ws done size at text w h = prefix_later a b s leaf g ws done size h (prefix-sent a b (bytes_to s leaf g ws done) text w.sent)

-- the sink failed with a block more
pub prefix_block : (a b c : Option (List ℕ)) (s t : StoreView) (leaf : Leaf) (g : Grid) (ws : List ℕ) (done n size : ℕ) (at : Spot) (cells : List ℤ) (text more : List ℕ) →
    Written a b s t leaf g ws done at text → cells ≡ cells_from t leaf done n → Adds text more (elements_text g ws at cells) → done + n ≤ size → GainsPrefix b c more →
    GainsPrefix a c (encode_utf8_all (elements_text g ws start (cells_from s leaf 0 size)))
unfolding bytes_to
prefix_block a b c s t leaf g ws done n size at cells text more w e added h p =
    prefix_later a c s leaf g ws (done + n) size h
    (prefix-front a b c (bytes_to s leaf g ws (done + n)) more more [] (sent_block a b s t leaf g ws done n at cells text more w e added) (sym (append-nil more)) p)

-- the last piece went out, or a part of it
pub gains_all : (a b c : Option (List ℕ)) (s t : StoreView) (leaf : Leaf) (g : Grid) (ws : List ℕ) (done size : ℕ) (at : Spot) (text piece : List ℕ) → Written a b s t leaf g ws done at text → done ≡ size →
    piece ≡ text → Gains b c piece → Gains a c (encode_utf8_all (elements_text g ws start (cells_from s leaf 0 size)))
unfolding bytes_to
gains_all a b c s t leaf g ws done size at text piece w e same p =
    let gained : Gains a c (bytes_to s leaf g ws done) = gains-sent a b c (bytes_to s leaf g ws done) text piece w.sent (sym same) p in
    subst (λ n. Gains a c (encode_utf8_all (elements_text g ws start (cells_from s leaf 0 n)))) e gained

pub prefix_all : (a b c : Option (List ℕ)) (s t : StoreView) (leaf : Leaf) (g : Grid) (ws : List ℕ) (done size : ℕ) (at : Spot) (text piece : List ℕ) → Written a b s t leaf g ws done at text → done ≡ size →
    piece ≡ text → GainsPrefix b c piece → GainsPrefix a c (encode_utf8_all (elements_text g ws start (cells_from s leaf 0 size)))
unfolding bytes_to
prefix_all a b c s t leaf g ws done size at text piece w e same p =
    let gained : GainsPrefix a c (bytes_to s leaf g ws done) = prefix-front a b c (bytes_to s leaf g ws done) text piece [] w.sent (sym same ∙ sym (append-nil piece)) p in
    subst (λ n. GainsPrefix a c (encode_utf8_all (elements_text g ws start (cells_from s leaf 0 n)))) e gained

-- ---- widths

-- so many elements were read, and the columns widened by them
pub record Widened (s t : StoreView) (leaf : Leaf) (g : Grid) (zeros ws : List ℕ) (done column : ℕ) : Type 0 where
  pub widths : ws ≡ widened g 0 zeros (cells_from s leaf 0 done)
  pub place : column ≡ column_after g 0 (cells_from s leaf 0 done)
  pub within : column < g.columns
  pub read : AreRead s t leaf done

pub widened_none : (s : StoreView) (leaf : Leaf) (g : Grid) (zeros ws : List ℕ) (column : ℕ) → AreCounts s.counts → 0 < g.columns → ws ≡ zeros → column ≡ 0 → Widened s s leaf g zeros ws 0 column
widened_none s leaf g zeros ws column small wide e begins = record { widths = e; place = begins; within = omega (arith, wide, begins); read = read_nothing s leaf small }

pub widened_more : (s t u : StoreView) (leaf : Leaf) (g : Grid) (zeros ws after : List ℕ) (done n column next : ℕ) (cells : List ℤ) → Widened s t leaf g zeros ws done column → cells ≡ cells_from t leaf done n →
    AreRead t u leaf n → after ≡ widened g column ws cells → next ≡ column_after g column cells → next < g.columns → Widened s u leaf g zeros after (done + n) next
widened_more s t u leaf g zeros ws after done n column next cells w e read wider place within =
    let before : List ℤ = cells_from s leaf 0 done in
    let more : List ℤ = cells_from s leaf done n in
    let same : cells ≡ more = e ∙ cells_read s t leaf done done n w.read in record {
      widths = wider ∙ ap (λ vs. widened g column vs cells) w.widths ∙ ap (λ k. widened g k (widened g 0 zeros before) cells) w.place
          ∙ ap (widened g (column_after g 0 before) (widened g 0 zeros before)) same
          ∙ sym (widened-append g 0 zeros before more) ∙ ap (widened g 0 zeros) (sym (cells_more s leaf done n));
      place = place ∙ ap (λ k. column_after g k cells) w.place ∙ ap (column_after g (column_after g 0 before)) same
          ∙ sym (column_after-append g 0 before more) ∙ ap (column_after g 0) (sym (cells_more s leaf done n));
      within = within;
      read = read_then s t u leaf done n w.read read;
    }

nothing_left : (xs : List ℕ) → length xs ≡ 0 → xs ≡ []
nothing_left [] e = refl
nothing_left (x ∷ xs) e = absurd (omega (arith, e))

-- a list that was written over whole
pub over_whole : (n : ℕ) (new old : List ℕ) → length new ≡ n → length old ≡ n → take n (new ++ drop (length new) old) ≡ new
over_whole n new old e f =
    let none : length (drop (length new) old) ≡ 0 = length-drop (length new) old ∙ omega (arith, e, f) in
    let empty : drop (length new) old ≡ [] = nothing_left (drop (length new) old) none in
    ap (λ xs. take n (new ++ xs)) empty ∙ ap (take n) (append-nil new) ∙ ap (λ k. take k new) (sym e) ∙ take-length new
