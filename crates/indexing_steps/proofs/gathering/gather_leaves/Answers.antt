use Rattle.std.proofs.Common.{◌≡◌, ℕ, ℤ, ◌+◌, ◌*◌, ◌-◌, List, Option, Ok, Err, sym, ap, subst, ◌∙◌, arith}
use Rattle.std.specs.Prelude.{All, IfSome}
use mir.Syntax.{w128}
use mir.Val.{to_z, of_z}
use Rattle.std.proofs.lemmas.Int.{to_z-of_z}
use Rattle.apl_base.specs.Array.{size_of}
use Rattle.drag_along.specs.declared.leaves.Leaf.{Leaf}
use Rattle.drag_along.specs.Nodes.{leaf_shape}
use Rattle.drag_along.specs.Lawful.{IsLawfulLeaf}
use Rattle.value_stack.specs.Stacks.{entries}
use Rattle.apl_model.specs.Subscript.{subscript, positions_shape}
use Rattle.apl_model.specs.Whole.{Answer}
use Rattle.apl_compile.specs.declared.codes.Op.TheVariants as op
use Rattle.made_leaf.specs.Made.{IsMadeBy, Fetched}
use Rattle.made_picks.specs.Picks.{positions_of, elements_named}
use Rattle.leaf_names.specs.Variables.{array_of}
use Rattle.pending_steps.specs.declared.halts.Halt.{Halt}
use Rattle.leaf_steps.specs.Origins.{IsHaltedFrom}
use Rattle.leaf_steps.proofs.MakingLemmas.{made_by}
use Rattle.leaf_steps.proofs.StepLemmas.{reaches}
use Rattle.indexing_steps.specs.Operands.{positions_in, arrays_of}
use Rattle.indexing_steps.proofs.OperandLemmas.{positions_lawful}
use Rattle.indexing_steps.proofs.GatherLemmas.{AreLeaves, are_leaves, IsGathered, ok_gathered, fault_moves, fault_halts, gathered_steps, made_moves}
use Rattle.indexing_steps.proofs.gathering.gather_leaves.Goals as goal

pub gather-requires-clause-b : goal.gather-requires-clause-b
gather-requires-clause-b c =
    let store = c.args.store.now in
    let stack = c.args.stack.now in
    let leaves = c.in_ok-positions.positions.items in
    let array = c.leaf_at-array.result in
    let l : AreLeaves store c.args.mask.now stack array leaves =
    are_leaves store c.args.mask.now stack (c.len-newest.result - 1) array leaves c.in_ok-positions.ensures.positions (omega (arith, c.len-newest.ensures.value, c.requires.operands)) c.leaf_at-array.ensures.leaf c.requires.lawful in
    l.lawful

pub gather-requires-clause-positions : goal.gather-requires-clause-positions
gather-requires-clause-positions c =
    subst (All (λ (p : Option Leaf). IfSome p (IsLawfulLeaf c.args.store.now))) (sym c.deref.ensures.value)
    (positions_lawful c.args.store.now c.args.mask.now c.args.stack.now (c.len-newest.result - 1) c.in_ok-positions.positions.items c.in_ok-positions.ensures.positions c.requires.lawful)

pub put_gathered-requires-clause-leaf : goal.put_gathered-requires-clause-leaf
put_gathered-requires-clause-leaf c =
    let store = c.args.store.now in
    let stack = c.args.stack.now in
    let leaves = c.in_ok-positions.positions.items in
    let array = c.leaf_at-array.result in
    let most : ℕ = 2 * elements_named c.deref.result.now + size_of (positions_shape (leaf_shape array) (positions_of store c.deref.result.now)) in
    let answer : Answer = subscript c.args.origin (array_of store array) (arrays_of store leaves) in
    let same : subscript (to_z w128 (of_z w128 c.args.origin)) (array_of store array) (positions_of store c.deref.result.now) ≡ answer =
    ap (λ (o : ℤ). subscript o (array_of store array) (positions_of store c.deref.result.now)) (to_z-of_z w128 c.args.origin c.ranges.origin)
    ∙ ap (λ (xs : List (Option Leaf)). subscript c.args.origin (array_of store array) (arrays_of store xs)) c.deref.ensures.value in
    let made : IsMadeBy (Fetched store most) store c.gather.new.store answer (Ok c.in-Ok.leaf) =
    subst (λ (a : Answer). IsMadeBy (Fetched store most) store c.gather.new.store a (Ok c.in-Ok.leaf)) same c.in-Ok.ensures.made in
    let g : IsGathered store c.gather.new.store stack answer c.in-Ok.leaf = ok_gathered store c.gather.new.store most answer c.in-Ok.leaf stack made c.requires.lawful c.requires.held in
    g.stands.stands.lawful

pub put_gathered-requires-clause-lawful : goal.put_gathered-requires-clause-lawful
put_gathered-requires-clause-lawful c =
    let store = c.args.store.now in
    let stack = c.args.stack.now in
    let leaves = c.in_ok-positions.positions.items in
    let array = c.leaf_at-array.result in
    let most : ℕ = 2 * elements_named c.deref.result.now + size_of (positions_shape (leaf_shape array) (positions_of store c.deref.result.now)) in
    let answer : Answer = subscript c.args.origin (array_of store array) (arrays_of store leaves) in
    let same : subscript (to_z w128 (of_z w128 c.args.origin)) (array_of store array) (positions_of store c.deref.result.now) ≡ answer =
    ap (λ (o : ℤ). subscript o (array_of store array) (positions_of store c.deref.result.now)) (to_z-of_z w128 c.args.origin c.ranges.origin)
    ∙ ap (λ (xs : List (Option Leaf)). subscript c.args.origin (array_of store array) (arrays_of store xs)) c.deref.ensures.value in
    let made : IsMadeBy (Fetched store most) store c.gather.new.store answer (Ok c.in-Ok.leaf) =
    subst (λ (a : Answer). IsMadeBy (Fetched store most) store c.gather.new.store a (Ok c.in-Ok.leaf)) same c.in-Ok.ensures.made in
    let g : IsGathered store c.gather.new.store stack answer c.in-Ok.leaf = ok_gathered store c.gather.new.store most answer c.in-Ok.leaf stack made c.requires.lawful c.requires.held in
    g.entries_lawful

pub returns-in-Ok-clause-step : goal.returns-in-Ok-clause-step
returns-in-Ok-clause-step c =
    let store = c.args.store.now in
    let stack = c.args.stack.now in
    let leaves = c.in_ok-positions.positions.items in
    let array = c.leaf_at-array.result in
    let l : AreLeaves store c.args.mask.now stack array leaves =
    are_leaves store c.args.mask.now stack (c.len-newest.result - 1) array leaves c.in_ok-positions.ensures.positions (omega (arith, c.len-newest.ensures.value, c.requires.operands)) c.leaf_at-array.ensures.leaf c.requires.lawful in
    let most : ℕ = 2 * elements_named c.deref.result.now + size_of (positions_shape (leaf_shape array) (positions_of store c.deref.result.now)) in
    let answer : Answer = subscript c.args.origin (array_of store array) (arrays_of store leaves) in
    let same : subscript (to_z w128 (of_z w128 c.args.origin)) (array_of store array) (positions_of store c.deref.result.now) ≡ answer =
    ap (λ (o : ℤ). subscript o (array_of store array) (positions_of store c.deref.result.now)) (to_z-of_z w128 c.args.origin c.ranges.origin)
    ∙ ap (λ (xs : List (Option Leaf)). subscript c.args.origin (array_of store array) (arrays_of store xs)) c.deref.ensures.value in
    let made : IsMadeBy (Fetched store most) store c.gather.new.store answer (Ok c.in-Ok.leaf) =
    subst (λ (a : Answer). IsMadeBy (Fetched store most) store c.gather.new.store a (Ok c.in-Ok.leaf)) same c.in-Ok.ensures.made in
    let g : IsGathered store c.gather.new.store stack answer c.in-Ok.leaf = ok_gathered store c.gather.new.store most answer c.in-Ok.leaf stack made c.requires.lawful c.requires.held in
    gathered_steps c.args.origin c.args.mask.now c.args.place store c.gather.new.store c.put_gathered.new.store stack c.put_gathered.new.stack array c.in-Ok.leaf leaves l g.stands g.kept c.in_ok-put_gathered-in-Ok.ensures.puts

pub returns-in-Ok-clause-moves : goal.returns-in-Ok-clause-moves
returns-in-Ok-clause-moves c =
    let store = c.args.store.now in
    let stack = c.args.stack.now in
    let leaves = c.in_ok-positions.positions.items in
    let array = c.leaf_at-array.result in
    let most : ℕ = 2 * elements_named c.deref.result.now + size_of (positions_shape (leaf_shape array) (positions_of store c.deref.result.now)) in
    let answer : Answer = subscript c.args.origin (array_of store array) (arrays_of store leaves) in
    let same : subscript (to_z w128 (of_z w128 c.args.origin)) (array_of store array) (positions_of store c.deref.result.now) ≡ answer =
    ap (λ (o : ℤ). subscript o (array_of store array) (positions_of store c.deref.result.now)) (to_z-of_z w128 c.args.origin c.ranges.origin)
    ∙ ap (λ (xs : List (Option Leaf)). subscript c.args.origin (array_of store array) (arrays_of store xs)) c.deref.ensures.value in
    let made : IsMadeBy (Fetched store most) store c.gather.new.store answer (Ok c.in-Ok.leaf) =
    subst (λ (a : Answer). IsMadeBy (Fetched store most) store c.gather.new.store a (Ok c.in-Ok.leaf)) same c.in-Ok.ensures.made in
    let g : IsGathered store c.gather.new.store stack answer c.in-Ok.leaf = ok_gathered store c.gather.new.store most answer c.in-Ok.leaf stack made c.requires.lawful c.requires.held in
    made_moves store c.gather.new.store c.put_gathered.new.store stack c.put_gathered.new.stack c.in-Ok.leaf (1 + positions_in c.args.mask.now) g.follows c.in_ok-put_gathered-in-Ok.ensures.puts

pub returns-clause-moves : goal.returns-clause-moves
returns-clause-moves c =
    let store = c.args.store.now in
    let stack = c.args.stack.now in
    let leaves = c.in_ok-positions.positions.items in
    let array = c.leaf_at-array.result in
    let most : ℕ = 2 * elements_named c.deref.result.now + size_of (positions_shape (leaf_shape array) (positions_of store c.deref.result.now)) in
    let answer : Answer = subscript c.args.origin (array_of store array) (arrays_of store leaves) in
    let same : subscript (to_z w128 (of_z w128 c.args.origin)) (array_of store array) (positions_of store c.deref.result.now) ≡ answer =
    ap (λ (o : ℤ). subscript o (array_of store array) (positions_of store c.deref.result.now)) (to_z-of_z w128 c.args.origin c.ranges.origin)
    ∙ ap (λ (xs : List (Option Leaf)). subscript c.args.origin (array_of store array) (arrays_of store xs)) c.deref.ensures.value in
    let made : IsMadeBy (Fetched store most) store c.gather.new.store answer (Err c.in-Err.fault) =
    subst (λ (a : Answer). IsMadeBy (Fetched store most) store c.gather.new.store a (Err c.in-Err.fault)) same c.in-Err.ensures.made in
    reaches (Err c.fault_halt.result) _ (fault_moves store c.gather.new.store most answer c.in-Err.fault stack made c.requires.lawful c.requires.held)

pub returns-clause-halted : goal.returns-clause-halted
returns-clause-halted c =
    let store = c.args.store.now in
    let stack = c.args.stack.now in
    let leaves = c.in_ok-positions.positions.items in
    let array = c.leaf_at-array.result in
    let l : AreLeaves store c.args.mask.now stack array leaves =
    are_leaves store c.args.mask.now stack (c.len-newest.result - 1) array leaves c.in_ok-positions.ensures.positions (omega (arith, c.len-newest.ensures.value, c.requires.operands)) c.leaf_at-array.ensures.leaf c.requires.lawful in
    let most : ℕ = 2 * elements_named c.deref.result.now + size_of (positions_shape (leaf_shape array) (positions_of store c.deref.result.now)) in
    let answer : Answer = subscript c.args.origin (array_of store array) (arrays_of store leaves) in
    let same : subscript (to_z w128 (of_z w128 c.args.origin)) (array_of store array) (positions_of store c.deref.result.now) ≡ answer =
    ap (λ (o : ℤ). subscript o (array_of store array) (positions_of store c.deref.result.now)) (to_z-of_z w128 c.args.origin c.ranges.origin)
    ∙ ap (λ (xs : List (Option Leaf)). subscript c.args.origin (array_of store array) (arrays_of store xs)) c.deref.ensures.value in
    let made : IsMadeBy (Fetched store most) store c.gather.new.store answer (Err c.in-Err.fault) =
    subst (λ (a : Answer). IsMadeBy (Fetched store most) store c.gather.new.store a (Err c.in-Err.fault)) same c.in-Err.ensures.made in
    subst (λ (w : Halt). IsHaltedFrom c.args.origin (record { place = c.args.place; op = op.Index c.args.mask.now }) (1 + positions_in c.args.mask.now) store.limit (entries store stack) w) (sym c.fault_halt.ensures)
    (fault_halts c.args.origin c.args.mask.now c.args.place store c.gather.new.store most stack array leaves c.in-Err.fault l c.requires.arrays made)

pub returns-in-Ok-clause-limit : goal.returns-in-Ok-clause-limit
returns-in-Ok-clause-limit c =
    c.put_gathered.ensures.limit ∙ (made_by c.args.store.now c.gather.new.store _ _ c.gather.result c.gather.ensures.made).follows.limit

pub returns-in_err-put_gathered-in-Ok-clause-limit : goal.returns-in_err-put_gathered-in-Ok-clause-limit
returns-in_err-put_gathered-in-Ok-clause-limit c =
    c.put_gathered.ensures.limit ∙ (made_by c.args.store.now c.gather.new.store _ _ c.gather.result c.gather.ensures.made).follows.limit

pub returns-clause-limit : goal.returns-clause-limit
returns-clause-limit c = (made_by c.args.store.now c.gather.new.store _ _ c.gather.result c.gather.ensures.made).follows.limit
