-- Refusals, from a line to the script.
use Rattle.std.proofs.Common.{◌≡◌, ◌∙◌, ap, subst, Option}
use Rattle.std.specs.Option.{option_or}
use Rattle.apl_base.specs.declared.faults.Refusal.{Refusal}
use Rattle.apl_model.specs.Refusal.{IsFirstIfAny}
use Rattle.apl_model.specs.ReadFaults.{IsRefusedAs, IsRefusedFirst}
use Rattle.apl_model.specs.declared.faults.ReadFault.{ReadFault}
use Rattle.apl_model.specs.declared.faults.ReadFault.TheVariants.{Refused, NoMemory}

-- the first of two is the refusal
pub refused_or : (fault : ReadFault) (a b : Option Refusal) → IsRefusedAs fault a → IsRefusedAs fault (option_or a b)
refused_or (Refused r) a b h = ap (λ o. option_or o b) h
refused_or NoMemory a b h = tt

pub refused_along : (fault : ReadFault) (a b : Option Refusal) → b ≡ a → IsRefusedAs fault a → IsRefusedAs fault b
refused_along (Refused r) a b e h = e ∙ h
refused_along NoMemory a b e h = tt

pub refused_first : (Refuses : Refusal → Type 0) (fault : ReadFault) (o : Option Refusal) → IsFirstIfAny Refuses o → IsRefusedAs fault o → IsRefusedFirst fault Refuses
refused_first Refuses (Refused r) o first h = subst (λ v. IsFirstIfAny Refuses v) h first
refused_first Refuses NoMemory o first h = tt
