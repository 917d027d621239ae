use Rattle.std.proofs.Common.{◌++◌, ◌∷◌, [], refl, sym, subst}
use Rattle.apl_defn.proofs.FormLemmas.{forms_alone}
use Rattle.apl_defn.specs.Parts.{part_of}
use Rattle.apl_defn.specs.Passes.{AreForms}
use Rattle.apl_defn.proofs.forms.Forms.add.Goals as goal

pub returns-in-Alone : goal.returns-in-Alone
returns-in-Alone c = λ ps a.
    let f = c.args.self.now in
    subst (λ p. AreForms (ps ++ (part_of p ∷ [])) (record { earliest = c.earlier-self.result; headers = f.headers; headed = f.headed })) (sym c.in-Alone.is)
    (forms_alone ps c.in-Alone.line.now f (record { earliest = c.earlier-self.result; headers = f.headers; headed = f.headed }) c.lone_nabla.result c.earlier-self.ensures refl refl c.lone_nabla.ensures a)
