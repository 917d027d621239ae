use Rattle.std.proofs.Common.{None, refl}
use Rattle.apl_defn.proofs.FormLemmas.{forms_of_none}
use Rattle.apl_defn.proofs.forms.Forms.new.Goals as goal

pub returns : goal.returns
returns c = forms_of_none (record { earliest = None; headers = c.new.result; headed = c.new-2.result }) refl c.new.ensures.items c.new-2.ensures
