-- An owner that is made, held, let go once, written and let go, from what each call says of the store.
use Rattle.std.proofs.Common.{◌≡◌, ℕ, ◌+◌, ◌-◌, ◌<◌, ℤ, List, length, set, get_or, pos, sym, ap, ◌∙◌, inl, inr, arith, length-set}
use Rattle.std.proofs.lemmas.Bool.{cases_eq}
use Rattle.std.proofs.lemmas.List.{get_or-set_same}
use Rattle.array_store.specs.declared.ids.Counts.{Counts}
use Rattle.array_store.specs.Stores.{OwnerView, StoreView, Makes, owner_at, holders_of, cells_of, cell_of, with_holders, with_cell, without_owner}
use Rattle.array_store.proofs.StoreLemmas.{owner_at-with_holders, owner_at-with_cell, owner_at-with_owner_other, owner_at-without_owner, owner_at-without_owner_other, owner_of-found}

-- the store before, and after each of the calls
pub record Round (before made held once written read after : StoreView) (key place : ℕ) (cell : ℤ) (o : OwnerView) (counts : Counts) : Type 0 where
  pub makes : Makes before made key o
  pub one_holder : o.holders ≡ 1
  pub holds : held ≡ with_holders made key (holders_of made key + 1)
  pub lets_go : 1 < holders_of held key → once ≡ with_holders held key (holders_of held key - 1)
  pub writes : written ≡ with_cell once key place cell
  pub reads : read ≡ record written { counts = counts }
  pub frees : holders_of read key ≡ 1 → after ≡ without_owner read key

pub record Rounded (before written after : StoreView) (key place : ℕ) (cell : ℤ) (o : OwnerView) : Type 0 where
  pub owners : (k : ℕ) → owner_at after k ≡ owner_at before k
  pub live : after.live ≡ before.live
  pub cell_read : place < length o.cells → cell_of written key place ≡ cell

pub rounded : (before made held once written read after : StoreView) (key place : ℕ) (cell : ℤ) (o : OwnerView) (counts : Counts) → Round before made held once written read after key place cell o counts → Rounded before written after key place cell o
rounded before made held once written read after key place cell o counts r =
    let holders : OwnerView → ℕ = λ p. p.holders in
    let n = holders_of made key + 1 in
    let is_made : n ≡ 2 = omega (arith, ap holders (owner_of-found made key o r.makes.made), r.one_holder) in
    let at_held = ap (λ (s : StoreView). owner_at s key) r.holds ∙ owner_at-with_holders made key n o r.makes.made in
    let of_held : holders_of held key ≡ n = ap holders (owner_of-found held key _ at_held) in
    let m = holders_of held key - 1 in
    let goes = r.lets_go (omega arith) in
    let at_once = ap (λ (s : StoreView). owner_at s key) goes ∙ owner_at-with_holders held key m _ at_held in
    let at_written = ap (λ (s : StoreView). owner_at s key) r.writes ∙ owner_at-with_cell once key place cell _ at_once in
    let at_read = ap (λ (s : StoreView). owner_at s key) r.reads ∙ at_written in
    let of_read : holders_of read key ≡ m = ap holders (owner_of-found read key _ at_read) in
    let frees = r.frees (omega arith) in
    let cells_read : cells_of read key ≡ set o.cells place cell = ap (λ (p : OwnerView). p.cells) (owner_of-found read key _ at_read) in
    let cells_written : cells_of written key ≡ set o.cells place cell = ap (λ (p : OwnerView). p.cells) (owner_of-found written key _ at_written) in
    let live : StoreView → ℕ = λ s. s.live in
    record {
      owners = λ k. elim (cases_eq k key) [
        | inl same ↦
            ap (owner_at after) same ∙ ap (λ (s : StoreView). owner_at s key) frees ∙ owner_at-without_owner read key _ at_read
            ∙ sym r.makes.was_free ∙ ap (owner_at before) (sym same)
        | inr differs ↦
            ap (λ (s : StoreView). owner_at s k) frees ∙ owner_at-without_owner_other read key k differs
            ∙ ap (λ (s : StoreView). owner_at s k) r.reads
            ∙ ap (λ (s : StoreView). owner_at s k) r.writes ∙ owner_at-with_owner_other once key k _ differs
            ∙ ap (λ (s : StoreView). owner_at s k) goes ∙ owner_at-with_owner_other held key k _ differs
            ∙ ap (λ (s : StoreView). owner_at s k) r.holds ∙ owner_at-with_owner_other made key k _ differs
            ∙ r.makes.others k differs
      ];
      live = omega (arith, ap live frees, ap live r.reads, ap live r.writes, ap live goes, ap live r.holds, r.makes.live, ap length cells_read, length-set o.cells place cell);
      cell_read = λ within. ap (λ (cs : List ℤ). get_or cs place (pos 0)) cells_written ∙ get_or-set_same o.cells place cell (pos 0) within;
    }
