use Rattle.std.proofs.Common.{◌≡◌, ◌∙◌, ◌+◌, ◌++◌, ◌&&◌, ℤ, pos, int_lt, Bool, true, false, refl, ap, sym, subst, arith}
use Rattle.std.specs.List.{list_any}
use Rattle.apl_base.specs.Array.{Array, size_of}
use Rattle.apl_base.proofs.Elements.{tabulated-count}
use Rattle.array_store.specs.Stores.{StoreView, IsStore}
use Rattle.array_store.specs.Counting.{OnlyFetched}
use Rattle.array_store.proofs.CountingLemmas.{OnlyFetched-none, OnlyFetched-then, OnlyFetched-more}
use Rattle.drag_along.specs.Nodes.{leaf_shape}
use Rattle.drag_along.specs.Meaning.{leaf_cell}
use Rattle.leaf_names.specs.Variables.{array_of}
use Rattle.made_leaf.specs.Made.{IsRoomFault}
use Rattle.value_fns.specs.Digits.{is_undefined}
use Rattle.value_fns.proofs.Decoding.{same_array}
use Rattle.value_fns.proofs.Encoded.{encoded_error, encoded_full, size_asked}
use Rattle.value_fns.proofs.encodes.encode_leaves.Goals as goal
use Rattle.value_fns.proofs.encodes.encode_leaves.Goals.{else-has_zero-via-then-has_zero+else-has_negative, else-has_zero-via-else-has_zero}

-- both tests
both : (p q s t : Bool) → s ≡ p → t ≡ q → (p && q) ≡ (s && t)
both p q s t e f = ap (λ (u : Bool). u && q) (sym e) ∙ ap (λ (u : Bool). s && u) (sym f)

falls : (s : Bool) → (s && false) ≡ false
falls true = refl
falls false = refl

pub returns-then-has_negative : goal.returns-then-has_negative
returns-then-has_negative c =
    let s = c.args.store.now in
    let a = array_of s c.args.a.now in
    let b = array_of s c.args.b.now in
    let negative = (c.has_negative.ensures.value ∙ ap (λ (x : Array). list_any (λ (z : ℤ). int_lt z (pos 0)) x.cells) (same_array s c.has_zero.new.store c.args.b.now _ c.has_zero.ensures.counted)) in
    let undefined : is_undefined a.cells b.cells ≡ true = both _ _ _ _ c.has_zero.ensures.value negative ∙ ap (λ (u : Bool). u && c.has_negative.result) c.if-has_zero.true ∙ c.if-has_negative.true in
    record {
      made = encoded_error s c.has_negative.new.store a b _ undefined (OnlyFetched-then s c.has_zero.new.store c.has_negative.new.store _ _ c.has_zero.ensures.counted c.has_negative.ensures.counted);
      store = c.has_negative.ensures.store;
    }

pub returns-in-Err-NoMemory-clause-made : goal.returns-in-Err-NoMemory-clause-made
returns-in-Err-NoMemory-clause-made c =
    let s = c.args.store.now in
    let a = array_of s c.args.a.now in
    let b = array_of s c.args.b.now in
    let long = tabulated-count a.kind a.shape (leaf_cell s c.args.a.now) in
    let many = tabulated-count b.kind b.shape (leaf_cell s c.args.b.now) in
    let size : c.size.result ≡ size_of (leaf_shape c.args.a.now ++ leaf_shape c.args.b.now) = c.size.ensures.value ∙ ap size_of c.requires.shape in
    record {
      room = size_asked s a b c.size.result long many size (subst (IsRoomFault s c.size.result) c.in-Err-NoMemory.field-0-is c.in-Err-NoMemory.ensures.refused);
      counted = OnlyFetched-none s _;
    }

pub returns-else-has_zero : goal.returns-else-has_zero
returns-else-has_zero c =
    let s = c.args.store.now in
    let a = array_of s c.args.a.now in
    let b = array_of s c.args.b.now in
    let long = tabulated-count a.kind a.shape (leaf_cell s c.args.a.now) in
    let many = tabulated-count b.kind b.shape (leaf_cell s c.args.b.now) in
    let size : c.size.result ≡ size_of (leaf_shape c.args.a.now ++ leaf_shape c.args.b.now) = c.size.ensures.value ∙ ap size_of c.requires.shape in
    elim c.else-has_zero.branch [
      | else-has_zero-via-then-has_zero+else-has_negative w ↦
          (let negative = (w.has_negative.ensures.value ∙ ap (λ (x : Array). list_any (λ (z : ℤ). int_lt z (pos 0)) x.cells) (same_array s c.has_zero.new.store c.args.b.now _ c.has_zero.ensures.counted)) in
          let defined : is_undefined a.cells b.cells ≡ false = both _ _ _ _ c.has_zero.ensures.value negative ∙ ap (λ (u : Bool). c.has_zero.result && u) w.if-has_negative.false ∙ falls c.has_zero.result in
          let counted = OnlyFetched-then s c.has_zero.new.store w.has_negative.new.store _ _ c.has_zero.ensures.counted w.has_negative.ensures.counted in
          record {
            made = encoded_full s c.else-has_zero.store a b c.size.result _ c.in-Err.fault long many size defined c.in-Err.ensures.refused (subst (λ (t : StoreView). OnlyFetched s t (size_of (leaf_shape c.args.a.now) + size_of (leaf_shape c.args.b.now))) (sym w.store-is) counted);
            store = subst IsStore (sym w.store-is) w.has_negative.ensures.store;
          })
      | else-has_zero-via-else-has_zero w ↦
          (let defined : is_undefined a.cells b.cells ≡ false = ap (λ (u : Bool). u && list_any (λ (z : ℤ). int_lt z (pos 0)) b.cells) (sym c.has_zero.ensures.value ∙ w.if-has_zero.false) in
          let counted = OnlyFetched-more s c.has_zero.new.store _ (size_of (leaf_shape c.args.a.now) + size_of (leaf_shape c.args.b.now)) (omega arith) c.has_zero.ensures.counted in
          record {
            made = encoded_full s c.else-has_zero.store a b c.size.result _ c.in-Err.fault long many size defined c.in-Err.ensures.refused (subst (λ (t : StoreView). OnlyFetched s t (size_of (leaf_shape c.args.a.now) + size_of (leaf_shape c.args.b.now))) (sym w.store-is) counted);
            store = subst IsStore (sym w.store-is) c.has_zero.ensures.store;
          })
    ]
