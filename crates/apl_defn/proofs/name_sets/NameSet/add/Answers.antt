use Rattle.std.proofs.Common.{sym, ap, subst, ◌∙◌, ◌↔◌, ◌⊎◌, ◌≡◌, IsTrue, List, ℕ}
use Rattle.std.specs.Bool.{OnFalse}
use Rattle.std.specs.List.{IsAmong}
use Rattle.std.specs.Str.{chars}
use Rattle.apl_defn.proofs.NameSetLemmas.{texts_added, text_of_name, names_added, added_new, added_met}
use Rattle.apl_defn.proofs.name_sets.NameSet.add.Goals as goal

pub invariant_of-self-2 : goal.invariant_of-self-2
invariant_of-self-2 c =
    let text = text_of_name c.in_ok-text.text c.as_str.result.now c.args.name.now c.in_ok-text.ensures.ok c.as_str.ensures.characters c.as_str.ensures.bytes in
    rw c.in_ok-added.ensures.keys (texts_added c.self.inside.texts.keys c.in_ok-text.text c.self.invariant text)

pub returns-clause-added : goal.returns-clause-added
returns-clause-added c =
    let text = text_of_name c.in_ok-text.text c.as_str.result.now c.args.name.now c.in_ok-text.ensures.ok c.as_str.ensures.characters c.as_str.ensures.bytes in
    let own = ap chars c.in_ok-text.ensures.ok ∙ c.as_str.ensures.characters in
    subst (λ (v : List (List ℕ)). IsTrue c.in_ok-added.added ↔ ¬ (IsAmong v c.args.name.now)) c.self.view_is
    (added_new c.self.inside.texts.keys c.in_ok-text.text c.args.name.now own c.in_ok-added.added c.self.invariant text c.in_ok-added.ensures.added)

pub returns-clause-met : goal.returns-clause-met
returns-clause-met c =
    let own = ap chars c.in_ok-text.ensures.ok ∙ c.as_str.ensures.characters in
    subst (λ (v : List (List ℕ)). OnFalse c.in_ok-added.added (IsAmong v c.args.name.now)) c.self.view_is
    (added_met c.self.inside.texts.keys c.in_ok-text.text c.args.name.now own c.in_ok-added.added c.in_ok-added.ensures.added)

pub returns-clause-names : goal.returns-clause-names
returns-clause-names c n =
    let own = ap chars c.in_ok-text.ensures.ok ∙ c.as_str.ensures.characters in
    let h = names_added c.self.inside.texts.keys c.in_ok-text.text c.args.name.now own c.insert.new.self.keys c.in_ok-added.ensures.keys n in (
      λ m. subst (λ (v : List (List ℕ)). (n ≡ c.args.name.now) ⊎ IsAmong v n) c.self.view_is (h.0 m),
      λ x. h.1 (subst (λ (v : List (List ℕ)). (n ≡ c.args.name.now) ⊎ IsAmong v n) (sym c.self.view_is) x),
    )
