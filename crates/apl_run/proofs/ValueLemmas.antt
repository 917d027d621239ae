-- The value of a variable, and a workspace of which cells were fetched.
use Rattle.std.proofs.Common.{◌≡◌, ℕ, ◌+◌, ◌<◌, ◌≤◌, List, [], map, Option, Some, None, refl, sym, ap, ◌∙◌, subst, arith, ℤ}
use Rattle.std.specs.Option.{option_map}
use Rattle.apl_base.specs.Array.{Array}
use Rattle.array_store.specs.Stores.{StoreView, holders_of, data_at}
use Rattle.array_store.specs.Counting.{OnlyCounted}
use Rattle.array_store.specs.Follows.{none}
use Rattle.drag_along.specs.declared.leaves.Leaf.{Leaf}
use Rattle.apl_base.specs.declared.cells.Kind.{Kind}
use Rattle.drag_along.specs.Nodes.{leaf_kind, leaf_shape}
use Rattle.drag_along.specs.Lawful.{IsLawfulLeaf, SameData}
use Rattle.apl_model.specs.Environment.{Environment, bound_in, look_up, mapped_bindings}
use Rattle.apl_model.proofs.Mapped.{bound_in-mapped}
use Rattle.leaf_names.specs.Variables.{array_of, named_by_names, variables_of}
use Rattle.leaf_names.proofs.EachLemmas.{look_up-each}
use Rattle.leaf_names.proofs.KeptLemmas.{filling_kept, lawful_kept, variables_kept}
use Rattle.alias_force.specs.Desk.{IsLawfulDesk}
use Rattle.apl_run.specs.declared.statuses.Workspace.{Workspace}
use Rattle.apl_run.specs.Workspaces.{variables_in, IsLawfulWorkspace}

module _ (ws : Workspace) (h : IsLawfulWorkspace ws) (name : List ℕ) where
  -- a look-up finds a global
  global-found : look_up ws.names name ≡ bound_in ws.names.globals name
  global-found = ap (λ fs. look_up (record ws.names { frames = fs }) name) h.frames

  -- what the name is bound to among the variables
  pub value-found : (found : Option Leaf) → found ≡ look_up ws.names name → option_map (array_of ws.store) found ≡ bound_in (variables_in ws).globals name
  value-found found e =
      ap (λ o. option_map (array_of ws.store) o) (e ∙ global-found) ∙ sym (bound_in-mapped (array_of ws.store) ws.names.globals name)

  -- its leaf is lawful
  pub leaf-lawful : (leaf : Leaf) → Some leaf ≡ look_up ws.names name → IsLawfulLeaf ws.store leaf
  leaf-lawful leaf e = look_up-each (IsLawfulLeaf ws.store) ws.names name h.desk.lawful leaf (sym e)

module _ (ws : Workspace) (h : IsLawfulWorkspace ws) (store : StoreView) (only : OnlyCounted ws.store store) where
  -- the same workspace over the store that counted
  abbrev pub after : Workspace
  after = record ws { store = store }

  same-holders : (key : ℕ) → holders_of store key ≡ holders_of ws.store key
  same-holders key = ap (λ s. holders_of s key) only

  same-data : SameData ws.store store (named_by_names ws.names)
  same-data = record {
    live = λ key named. let held = h.desk.held key in let same = same-holders key in omega (arith, named, held, same);
    kept = λ key named. ap (λ s. data_at s key) only;
  }

  pub still-lawful : IsLawfulWorkspace after
  still-lawful = record {
    desk = record {
      lawful = lawful_kept ws.store store ws.names same-data h.desk.lawful;
      filling = filling_kept ws.store store ws.names same-data h.desk.filling;
      entries = h.desk.entries;
      held = λ key. same-holders key ∙ h.desk.held key;
    };
    frames = h.frames;
    origin = h.origin;
  }

  pub same-variables : variables_in after ≡ variables_in ws
  same-variables = variables_kept ws.store store ws.names same-data h.desk.lawful ws.origin

-- a value that was read is the array of its leaf
pub value-of : (store : StoreView) (leaf : Leaf) (kind : Kind) (shape : List ℕ) (cells : List ℤ) → kind ≡ leaf_kind leaf → shape ≡ leaf_shape leaf → cells ≡ (array_of store leaf).cells
    → record { kind = kind; shape = shape; cells = cells } ≡ array_of store leaf
value-of store leaf kind shape cells k s e = λ i. record { kind = k i; shape = s i; cells = e i }
