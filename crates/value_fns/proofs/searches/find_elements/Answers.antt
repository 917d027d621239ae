use Rattle.std.proofs.Common.{◌≡◌, ◌+◌, refl, ◌∙◌, pos, length, sym, ap, rules}
use Rattle.apl_base.specs.declared.cells.Kind.{Kind}
use Rattle.apl_base.specs.Array.{size_of}
use Rattle.apl_base.specs.Scalar.{is_same_kind}
use Rattle.apl_base.proofs.Elements.{tabulated-count}
use Rattle.array_store.specs.Stores.{StoreView}
use Rattle.array_desc.specs.Desc.{DescView}
use Rattle.drag_along.specs.Nodes.{leaf_kind}
use Rattle.drag_along.specs.Meaning.{leaf_cell}
use Rattle.leaf_names.specs.Variables.{array_of}
use Rattle.value_fns.proofs.FoundKinds.{none_found, found_all}
use Rattle.value_fns.proofs.searches.find_elements.Goals as goal

pub returns-then-not-is_one_kind-clause-places : goal.returns-then-not-is_one_kind-clause-places
returns-then-not-is_one_kind-clause-places c =
    let a = array_of c.args.store.now c.args.among.now in
    let b = array_of c.args.store.now c.args.wanted.now in
    let kinds : c.is_one_kind.result ≡ is_same_kind (leaf_kind c.args.wanted.now) (leaf_kind c.args.among.now) =
    c.is_one_kind.ensures ∙ ap (λ (k : Kind). is_same_kind k c.kind-2.result) c.kind.ensures ∙ ap (λ (k : Kind). is_same_kind (leaf_kind c.args.wanted.now) k) c.kind-2.ensures in
    let many : length b.cells ≡ c.size.result = tabulated-count b.kind b.shape (leaf_cell c.args.store.now c.args.wanted.now) ∙ sym (c.size.ensures.value ∙ ap (λ (d : DescView). size_of d.shape) c.desc.ensures) in
    let long : length a.cells ≡ c.size-then-not-is_one_kind.result = tabulated-count a.kind a.shape (leaf_cell c.args.store.now c.args.among.now) ∙ sym (c.size-then-not-is_one_kind.ensures.value ∙ ap (λ (d : DescView). size_of d.shape) c.desc-then-not-is_one_kind.ensures) in
    c.fill.ensures ∙ none_found (pos c.args.origin) a b c.is_one_kind.result _ _ (pos (c.args.origin + c.size-then-not-is_one_kind.result)) kinds c.if-not-is_one_kind.true long many refl

pub returns-clause-places : goal.returns-clause-places
returns-clause-places c =
    let a = array_of c.args.store.now c.args.among.now in
    let b = array_of c.args.store.now c.args.wanted.now in
    let kinds : c.is_one_kind.result ≡ is_same_kind (leaf_kind c.args.wanted.now) (leaf_kind c.args.among.now) =
    c.is_one_kind.ensures ∙ ap (λ (k : Kind). is_same_kind k c.kind-2.result) c.kind.ensures ∙ ap (λ (k : Kind). is_same_kind (leaf_kind c.args.wanted.now) k) c.kind-2.ensures in
    let same : (array_of c.read_cells.new.store c.args.wanted.now).cells ≡ b.cells = ap (λ (s : StoreView). (array_of s c.args.wanted.now).cells) c.read_cells.ensures.counted.only in
    found_all (pos c.args.origin) a b c.is_one_kind.result _ _ _ _ _ _ _ kinds c.if-not-is_one_kind.false c.requires.empty c.read_all.ensures.cells same c.as_mut_slice.ensures.value
    (c.as_slice.ensures.value ∙ c.in_ok-cells.ensures.cells) c.in_ok-find_cells.ensures (search rules)
