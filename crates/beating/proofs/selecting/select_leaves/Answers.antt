use Rattle.std.proofs.Common.{◌<◌, ◌≡◌, length, arith}
use Rattle.array_desc.specs.Desc.{IsDesc}
use Rattle.drag_along.specs.Nodes.{leaf_desc, leaf_shape}
use Rattle.beating.specs.Selecting.{Fits}
use Rattle.beating.proofs.LeafLemmas.{nodes_end, nodes_end_lawful, next_has, next_selected}
use Rattle.beating.proofs.selecting.select_leaves.Goals as goal

pub select_node-requires-clause-lawful : goal.select_node-requires-clause-lawful
select_node-requires-clause-lawful c =
    let olds = c.args.nodes.now in
    let below : c.loop-at.at < length olds.items = omega (arith, olds.ok.0) in
    next_has (λ leaf. IsDesc (leaf_desc leaf)) c.args.by.now olds.items c.loop-at.nodes.items c.loop-at.at c.index_mut.result.now c.loop-at.invariant below c.index_mut.ensures.value c.requires.lawful

pub select_node-requires-clause-fits : goal.select_node-requires-clause-fits
select_node-requires-clause-fits c =
    let olds = c.args.nodes.now in
    let below : c.loop-at.at < length olds.items = omega (arith, olds.ok.0) in
    next_has (λ leaf. Fits c.args.by.now (leaf_shape leaf)) c.args.by.now olds.items c.loop-at.nodes.items c.loop-at.at c.index_mut.result.now c.loop-at.invariant below c.index_mut.ensures.value c.requires.fits

pub loop-at-preserved : goal.loop-at-preserved
loop-at-preserved c =
    let olds = c.args.nodes.now in
    let below : c.loop-at.at < length olds.items = omega (arith, olds.ok.0) in
    next_selected c.args.by.now olds.items c.loop-at.nodes.items c.loop-at.at c.index_mut.result.now c.select_node.new.node c.loop-at.invariant below c.index_mut.ensures.value (record { nodes = c.select_node.ensures.nodes; lawful = c.select_node.ensures.lawful })

pub returns-clause-nodes : goal.returns-clause-nodes
returns-clause-nodes c =
    let olds = c.args.nodes.now in
    let all : c.loop-at.at ≡ length olds.items = omega (arith, olds.ok.0) in
    nodes_end c.args.by.now olds.items c.loop-at.nodes.items c.loop-at.at all c.loop-at.invariant

pub returns-clause-lawful : goal.returns-clause-lawful
returns-clause-lawful c =
    let olds = c.args.nodes.now in
    let all : c.loop-at.at ≡ length olds.items = omega (arith, olds.ok.0) in
    nodes_end_lawful c.args.by.now olds.items c.loop-at.nodes.items c.loop-at.at all c.loop-at.invariant
