-- Functions of a program, as calls are told of them.
use Rattle.std.proofs.Common.{◌≡◌, ℕ, zero, suc, ◌+◌, ◌<◌, ◌≤◌, get_or, take, List, [], ◌∷◌, ◌++◌, length, map, Bool, false, Option, Some, refl, sym, ap, ◌∙◌, subst, arith, append_assoc}
use Rattle.std.specs.Prelude.{slice_get}
use Rattle.std.proofs.lemmas.List.{append-nil}
use Rattle.std.specs.List.{AllByRecursion, IsDistinct}
use Rattle.std.specs.Option.{option_to_list}
use Rattle.apl_model.specs.declared.outlines.OutlineBody.{OutlineBody}
use Rattle.apl_model.specs.declared.outlines.OutlineItem.TheVariants as outline
use Rattle.apl_model.specs.declared.scripts.Header.{Header}
use Rattle.apl_model.specs.declared.tokens.Heading.{Heading}
use Rattle.apl_model.specs.Call.{labels_of}
use Rattle.apl_model.specs.Environment.{is_same_name}
use Rattle.apl_model.specs.Items.{labels, names_of_definition, IsLawfulItem, AreLawful}
use Rattle.apl_model.specs.Script.{headings}
use Rattle.apl_model.specs.Tree.{BodyLine, Definition, Item, Script, statement_item, command_item, definition_item}
use Rattle.apl_compile.specs.declared.codes.Code.{Code}
use Rattle.apl_compile.specs.Program.{outline_body, outline_item, program_of}
use Rattle.apl_compile.specs.Running.{lines_with}
use Rattle.name_table.specs.Laws.{declared_by, label_names}
use Rattle.calling_steps.specs.Calls.{labels_in}

-- where there are as many codes as lines, the routine has the labels of the body
pub labels_with : (body : List OutlineBody) (codes : List Code) → length body ≤ length codes → labels_of (lines_with body codes) ≡ labels_in body
labels_with [] codes few = refl
labels_with (l ∷ body) [] few = absurd (omega (arith, few))
labels_with (l ∷ body) (c ∷ codes) few = ap (λ (ls : List (Option (List ℕ))). l.label ∷ ls) (labels_with body codes (omega (arith, few)))

-- ---- the names that a call declares differ

all_less : (P : List ℕ → Type 0) (xs ys : List (List ℕ)) (f : List ℕ) → AllByRecursion P (xs ++ f ∷ ys) → AllByRecursion P (xs ++ ys)
all_less P [] ys f h = h.1
all_less P (x ∷ xs) ys f h = (h.0, all_less P xs ys f h.1)

one_less : (e : List ℕ → List ℕ → Bool) (xs ys : List (List ℕ)) (f : List ℕ) → IsDistinct e (xs ++ f ∷ ys) → IsDistinct e (xs ++ ys)
unfolding IsDistinct
one_less e [] ys f d = d.1
one_less e (x ∷ xs) ys f d = (all_less (λ y. e x y ≡ false) xs ys f d.0, one_less e xs ys f d.1)

same_labels : (body : List BodyLine) → labels body ≡ label_names (labels_in (map outline_body body))
same_labels [] = refl
same_labels (l ∷ body) = ap (λ (ns : List (List ℕ)). option_to_list l.label ++ ns) (same_labels body)

definition_distinct : (d : Definition) → IsDistinct is_same_name (names_of_definition d) → IsDistinct is_same_name (declared_by d.header (labels_in (map outline_body d.body)))
definition_distinct d distinct =
    let h : Header = d.header in
    let rs : List (List ℕ) = option_to_list h.result in
    let xs : List (List ℕ) = option_to_list h.left in
    let ys : List (List ℕ) = option_to_list h.right in
    let ls : List (List ℕ) = label_names (labels_in (map outline_body d.body)) in
    let all : names_of_definition d ≡ (rs ++ xs) ++ h.f ∷ (ys ++ (h.locals ++ ls)) =
    ap (λ (ns : List (List ℕ)). rs ++ (xs ++ (h.f ∷ (ys ++ (h.locals ++ ns))))) (same_labels d.body)
    ∙ sym (append_assoc rs xs (h.f ∷ (ys ++ (h.locals ++ ls)))) in
    let declared : (rs ++ xs) ++ (ys ++ (h.locals ++ ls)) ≡ declared_by h (labels_in (map outline_body d.body)) =
    sym (append_assoc (rs ++ xs) ys (h.locals ++ ls)) ∙ sym (append_assoc ((rs ++ xs) ++ ys) h.locals ls) in
    subst (IsDistinct is_same_name) declared (one_less is_same_name (rs ++ xs) (ys ++ (h.locals ++ ls)) h.f (subst (IsDistinct is_same_name) all distinct))

item_distinct : (hs : List Heading) (items : List Item) (at opened closed : ℕ) (header : Header) (body : List OutlineBody) → AllByRecursion (IsLawfulItem hs) items → slice_get (map outline_item items) at ≡ Some (outline.Definition opened closed header body) → IsDistinct is_same_name (declared_by header (labels_in body))
item_distinct hs [] at opened closed header body lawful there = absurd cc
item_distinct hs (statement_item line s ∷ items) zero opened closed header body lawful there = absurd cc
item_distinct hs (command_item line c ∷ items) zero opened closed header body lawful there = absurd cc
item_distinct hs (definition_item d ∷ items) zero opened closed header body lawful there =
    let same_header : d.header ≡ header = cc in
    let same_body : map outline_body d.body ≡ body = cc in
    subst (λ (h : Header). IsDistinct is_same_name (declared_by h (labels_in body))) same_header
    (subst (λ (b : List OutlineBody). IsDistinct is_same_name (declared_by d.header (labels_in b))) same_body (definition_distinct d lawful.0.distinct))
item_distinct hs (i ∷ items) (suc at) opened closed header body lawful there = item_distinct hs items at opened closed header body lawful.1 there

-- so it is with each function of the compiled program of a lawful script
pub function_distinct : (script : Script) (at opened closed : ℕ) (header : Header) (body : List OutlineBody) → AreLawful script.items → slice_get (program_of script).outline.items at ≡ Some (outline.Definition opened closed header body) → IsDistinct is_same_name (declared_by header (labels_in body))
function_distinct script at opened closed header body lawful there = item_distinct (headings script.items) script.items at opened closed header body lawful.each there

-- ---- one more of the labels

labels_next : (body : List OutlineBody) (k : ℕ) (b : OutlineBody) → k < length body → b ≡ get_or body k b → label_names (labels_in (take (suc k) body)) ≡ label_names (labels_in (take k body)) ++ option_to_list b.label
labels_next [] k b within is = absurd (omega (arith, within))
labels_next (a ∷ body) zero b within is = append-nil (option_to_list a.label) ∙ ap (λ (x : OutlineBody). option_to_list x.label) (sym is)
labels_next (a ∷ body) (suc k) b within is =
    ap (λ (ns : List (List ℕ)). option_to_list a.label ++ ns) (labels_next body k b (omega (arith, within)) is)
    ∙ sym (append_assoc (option_to_list a.label) (label_names (labels_in (take k body))) (option_to_list b.label))

pub labels_more : (body : List OutlineBody) (k : ℕ) (b : OutlineBody) → k < length body → b ≡ get_or body k b → label_names (labels_in (take (k + 1) body)) ≡ label_names (labels_in (take k body)) ++ option_to_list b.label
labels_more body k b within is = ap (λ (n : ℕ). label_names (labels_in (take n body))) (the_next k) ∙ labels_next body k b within is
  where
    the_next : (n : ℕ) → n + 1 ≡ suc n
    the_next n = omega arith
