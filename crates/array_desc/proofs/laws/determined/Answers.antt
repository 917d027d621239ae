use Rattle.std.proofs.Common.{subst}
use Rattle.array_desc.specs.Desc.{DescView, IsDesc}
use Rattle.array_desc.proofs.Canon.{determined as determined_lem}
use Rattle.array_desc.proofs.laws.determined.Goals as goal

pub returns : goal.returns
returns c =
    let P : DescView → Type 0 = IsDesc in
    determined_lem c.args.one.now c.args.other.now
    (subst P c.one.view_is c.one.invariant.0)
    (subst P c.other.view_is c.other.invariant.0)
    c.requires.shape c.requires.numbers
