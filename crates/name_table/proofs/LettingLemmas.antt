-- Names over a store in which leaves of theirs were let go, and what they stand for where they change.
use Rattle.std.proofs.Common.{◌≡◌, ℕ, ◌+◌, ℤ, Bool, true, false, if◌then◌else◌, List, [], ◌∷◌, map, Option, Some, None, refl, sym, ap, ◌∙◌, subst, arith}
use Rattle.apl_base.specs.Array.{Array}
use Rattle.array_store.specs.Stores.{StoreView}
use Rattle.array_store.specs.Follows.{LeafCounts, Follows, Holds, none, both}
use Rattle.array_store.proofs.FollowsLemmas.{follows_beside, follows_counted}
use Rattle.drag_along.specs.declared.leaves.Leaf.{Leaf}
use Rattle.drag_along.specs.Lawful.{IsLawfulLeaf, SameData}
use Rattle.drag_along.proofs.KeptLemmas.{follows_keeps}
use Rattle.apl_model.specs.Environment.{Bindings, Environment, bound_in, bound_to, declared_in, set_in_frames, set_name, erased, with_frame, without_frame, with_origin, mapped, mapped_bindings}
use Rattle.apl_model.specs.Frames.{unset}
use Rattle.apl_model.proofs.Mapped.{set_name-mapped, erased-mapped, without_frame-mapped}
use Rattle.leaf_names.specs.Variables.{named_by_option, named_by_bindings, named_by_names, AllBound, EachLeaf, AreLawfulNames, FillsOwner, FillOwners, array_of, variables_of}
use Rattle.leaf_names.proofs.CountLemmas.{named-cons, unset-named, with_frame-named}
use Rattle.leaf_names.proofs.EachLemmas.{unset-each}
use Rattle.leaf_names.proofs.KeptLemmas.{lawful_kept, filling_kept, variables_kept}
use Rattle.name_table.specs.Names.{LetsGo}
use Rattle.array_store.proofs.GoneLemmas.{renews_gone}

-- ---- what names stand for

with_origin-set : {A : Type 0} (o : ℤ) (e : Environment A) (name : List ℕ) (a : A) → set_name (with_origin o e) name a ≡ with_origin o (set_name e name a)
with_origin-set o e name a = by (declared_in e.frames name)
  where
    by : (t : Bool) → (if t then record (with_origin o e) { frames = set_in_frames e.frames name a } else record (with_origin o e) { globals = bound_to e.globals name (Some a) })
        ≡ with_origin o (if t then record e { frames = set_in_frames e.frames name a } else record e { globals = bound_to e.globals name (Some a) })
    by true = refl
    by false = refl

pub variables-set : (s : StoreView) (origin : ℤ) (names : Environment Leaf) (name : List ℕ) (leaf : Leaf) → variables_of s origin (set_name names name leaf) ≡ set_name (variables_of s origin names) name (array_of s leaf)
variables-set s origin names name leaf =
    ap (mapped (array_of s)) (sym (with_origin-set origin names name leaf)) ∙ sym (set_name-mapped (array_of s) (with_origin origin names) name leaf)

pub variables-unwound : (s : StoreView) (origin : ℤ) (names : Environment Leaf) → variables_of s origin (without_frame names) ≡ without_frame (variables_of s origin names)
variables-unwound s origin names = ap (with_origin origin) (sym (without_frame-mapped (array_of s) names))

pub variables-erased : (s : StoreView) (origin : ℤ) (gone : List (List ℕ)) (names : Environment Leaf) → variables_of s origin (erased gone names) ≡ erased gone (variables_of s origin names)
variables-erased s origin gone names = ap (with_origin origin) (sym (erased-mapped (array_of s) gone names))

unset_bindings : (f : Leaf → Array) (ns : List (List ℕ)) → mapped_bindings f (map unset ns) ≡ map unset ns
unset_bindings f [] = refl
unset_bindings f (n ∷ ns) = ap (λ (bs : Bindings Array). (n, None) ∷ bs) (unset_bindings f ns)

pub variables-bound : (s : StoreView) (origin : ℤ) (ns : List (List ℕ)) (names : Environment Leaf) → variables_of s origin (with_frame (map unset ns) names) ≡ with_frame (map unset ns) (variables_of s origin names)
variables-bound s origin ns names = ap (λ (frame : Bindings Array). with_frame frame (variables_of s origin names)) (unset_bindings (array_of s) ns)

-- ---- names that are all unset

unset-each-one : (P : Leaf → Type 0) (ns : List (List ℕ)) → AllBound P (map unset ns)
unset-each-one P [] = tt
unset-each-one P (n ∷ ns) = (λ x e. absurd (cc), unset-each-one P ns)

unset-unnamed : (ns : List (List ℕ)) (key : ℕ) → named_by_bindings (map unset ns) key ≡ 0
unset-unnamed [] key = refl
unset-unnamed (n ∷ ns) key = omega (arith, named-cons (n, None) (map unset ns) key, unset-unnamed ns key)

pub bound-each : (P : Leaf → Type 0) (ns : List (List ℕ)) (names : Environment Leaf) → EachLeaf P names → EachLeaf P (with_frame (map unset ns) names)
bound-each P ns names each = record { globals = each.globals; frames = (unset-each-one P ns, each.frames) }

pub bound-named : (ns : List (List ℕ)) (names : Environment Leaf) (key : ℕ) → named_by_names (with_frame (map unset ns) names) key ≡ named_by_names names key
bound-named ns names key = omega (arith, with_frame-named (map unset ns) names key, unset-unnamed ns key)

-- ---- leaves that go

-- names that are left, where leaves beside them go
pub data_left : (old new : StoreView) (gone : LeafCounts) (names : Environment Leaf) → Holds old (both gone (named_by_names names)) → Follows old new gone none → SameData old new (named_by_names names)
data_left old new gone names held f = follows_keeps old new gone none (named_by_names names) (named_by_names names) f held (λ key. omega arith)

pub lets_go : (old new : StoreView) (before after : Environment Leaf) (gone : LeafCounts) → ((key : ℕ) → named_by_names before key ≡ gone key + named_by_names after key) → Holds old (named_by_names before) → Follows old new gone none → new.counts ≡ old.counts
    → AreLawfulNames old after → (FillOwners old before → FillOwners old after) → LetsGo old new before after
lets_go old new before after gone count held f same lawful fills =
    let beside : Holds old (both gone (named_by_names after)) = λ key. omega (arith, held key, count key) in
    let data_same = data_left old new gone after beside f in
    record {
      follows = follows_counted old new (both gone (named_by_names after)) (both none (named_by_names after)) (named_by_names before) (named_by_names after) count (λ key. omega arith) (follows_beside old new gone none (named_by_names after) f);
      lawful = lawful_kept old new after data_same lawful;
      fills = λ h. filling_kept old new after data_same (fills h);
      counts = same;
      renews = renews_gone old new gone f;
    }

pub means_left : (old new : StoreView) (before after : Environment Leaf) (gone : LeafCounts) → ((key : ℕ) → named_by_names before key ≡ gone key + named_by_names after key) → Holds old (named_by_names before) → Follows old new gone none → AreLawfulNames old after → (origin : ℤ) → variables_of new origin after ≡ variables_of old origin after
means_left old new before after gone count held f lawful origin =
    variables_kept old new after (data_left old new gone after (λ key. omega (arith, held key, count key)) f) lawful origin

-- the innermost frame goes
module _ (old new : StoreView) (now after : Environment Leaf) (frame : Bindings Leaf) (is : now ≡ with_frame frame after) (held : Holds old (named_by_names now)) (f : Follows old new (named_by_bindings frame) none) (lawful : AreLawfulNames old now) where
  unwound-count : (key : ℕ) → named_by_names now key ≡ named_by_bindings frame key + named_by_names after key
  unwound-count key = ap (λ (e : Environment Leaf). named_by_names e key) is ∙ with_frame-named frame after key

  unwound-each : (P : Leaf → Type 0) → EachLeaf P now → EachLeaf P after
  unwound-each P each =
      let there : EachLeaf P (with_frame frame after) = subst (EachLeaf P) is each in
      record { globals = there.globals; frames = there.frames.1 }

  pub unwound-lets_go : new.counts ≡ old.counts → LetsGo old new now after
  unwound-lets_go same = lets_go old new now after (named_by_bindings frame) unwound-count held f same (unwound-each (IsLawfulLeaf old) lawful) (unwound-each (FillsOwner old))

  pub unwound-means : (origin : ℤ) → variables_of new origin after ≡ without_frame (variables_of old origin now)
  unwound-means origin =
      means_left old new now after (named_by_bindings frame) unwound-count held f (unwound-each (IsLawfulLeaf old) lawful) origin
      ∙ ap (λ (e : Environment Leaf). variables_of old origin (without_frame e)) (sym is)
      ∙ variables-unwound old origin now

-- a global is made unset
module _ (old new : StoreView) (now after : Environment Leaf) (name : List ℕ) (bound : Option Leaf) (is : after ≡ erased (name ∷ []) now) (found : bound ≡ bound_in now.globals name) (held : Holds old (named_by_names now)) (f : Follows old new (named_by_option bound) none) (lawful : AreLawfulNames old now) where
  erased-count : (key : ℕ) → named_by_names now key ≡ named_by_option bound key + named_by_names after key
  erased-count key =
      omega (arith, ap (λ (e : Environment Leaf). named_by_names e key) is, ap (λ (o : Option Leaf). named_by_option o key) found, unset-named now.globals name key)

  erased-each : (P : Leaf → Type 0) → EachLeaf P now → EachLeaf P after
  erased-each P each = subst (EachLeaf P) (sym is) (record { globals = unset-each P now.globals name each.globals; frames = each.frames })

  pub erased-lets_go : new.counts ≡ old.counts → LetsGo old new now after
  erased-lets_go same = lets_go old new now after (named_by_option bound) erased-count held f same (erased-each (IsLawfulLeaf old) lawful) (erased-each (FillsOwner old))

  pub erased-means : (origin : ℤ) → variables_of new origin after ≡ erased (name ∷ []) (variables_of old origin now)
  erased-means origin =
      means_left old new now after (named_by_option bound) erased-count held f (erased-each (IsLawfulLeaf old) lawful) origin
      ∙ ap (variables_of old origin) is
      ∙ variables-erased old origin (name ∷ []) now
