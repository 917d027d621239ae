use mir.Syntax.{w128}
use Rattle.std.proofs.Common.{◌∙◌, ◌≤◌, ◌-ℤ◌, length, append-nil, ap, arith, rules, to_z-of_z, FitsSigned}
use Rattle.array_desc.specs.Desc.{DescView}
use Rattle.leaf_names.specs.Variables.{array_of}
use Rattle.made_picks.proofs.PositionLemmas.{base_number, less_fits, line_cells, line_fits}
use Rattle.made_picks.proofs.positions.line_of.Goals as goal

pub overflow_sub-result : goal.overflow_sub-result
overflow_sub-result c =
    let base_fits : FitsSigned w128 c.desc.inside.base = search rules in
    let base = to_z-of_z {w = w128} {z = c.desc.inside.base} base_fits in
    let origin = to_z-of_z {w = w128} {z = c.args.origin} c.ranges.origin in
    rw (base, origin) (less_fits c.desc.inside.base c.args.origin (base_number _ c.desc.invariant.0) c.requires)

pub returns-clause-places : goal.returns-clause-places
returns-clause-places c =
    let base_fits : FitsSigned w128 c.desc.inside.base = search rules in
    let base = to_z-of_z {w = w128} {z = c.desc.inside.base} base_fits in
    let origin = to_z-of_z {w = w128} {z = c.args.origin} c.ranges.origin in
    let less = to_z-of_z {w = w128} {z = c.desc.inside.base -ℤ c.args.origin} (less_fits c.desc.inside.base c.args.origin (base_number _ c.desc.invariant.0) c.requires) in
    let stride = to_z-of_z {w = w128} {z = c.first_stride.result} (record { sfits = c.first_stride.type_inv }) in
    let one : length c.in-Gen.desc.shape ≤ 1 = omega (arith, c.if-rank-gt1.false, c.rank.ensures.value, ap (λ (d : DescView). length d.shape) c.desc.view_is) in
    rw (base, origin, less, stride) (λ s. append-nil _ ∙ line_cells s c.args.leaf.now c.in-Gen.desc c.in-Gen.kind c.args.origin c.desc.inside.base c.first_stride.result c.size.result c.in-Gen.is (ap (λ (d : DescView). d.base) c.desc.view_is) c.first_stride.ensures c.size.ensures.value c.size.ensures.lawful one)

pub returns-clause-line : goal.returns-clause-line
returns-clause-line c =
    let base_fits : FitsSigned w128 c.desc.inside.base = search rules in
    let base = to_z-of_z {w = w128} {z = c.desc.inside.base} base_fits in
    let origin = to_z-of_z {w = w128} {z = c.args.origin} c.ranges.origin in
    let less = to_z-of_z {w = w128} {z = c.desc.inside.base -ℤ c.args.origin} (less_fits c.desc.inside.base c.args.origin (base_number _ c.desc.invariant.0) c.requires) in
    let stride = to_z-of_z {w = w128} {z = c.first_stride.result} (record { sfits = c.first_stride.type_inv }) in
    let one : length c.in-Gen.desc.shape ≤ 1 = omega (arith, c.if-rank-gt1.false, c.rank.ensures.value, ap (λ (d : DescView). length d.shape) c.desc.view_is) in
    rw (base, origin, less, stride) (λ n s within. line_fits n c.size.result c.args.origin (c.desc.inside.base -ℤ c.args.origin) c.first_stride.result (array_of s c.args.leaf.now).cells
    (line_cells s c.args.leaf.now c.in-Gen.desc c.in-Gen.kind c.args.origin c.desc.inside.base c.first_stride.result c.size.result c.in-Gen.is (ap (λ (d : DescView). d.base) c.desc.view_is) c.first_stride.ensures c.size.ensures.value c.size.ensures.lawful one)
    within (omega (arith, c.size.ensures.value, c.size.ensures.lawful.shape.product)))
