use Rattle.drag_along.proofs.ViewLemmas.{whole_view_stands, written_view_stands}
use Rattle.drag_along.proofs.laws.view_laws.Goals as goal

pub returns : goal.returns
returns c = record { whole = whole_view_stands; written = written_view_stands }
