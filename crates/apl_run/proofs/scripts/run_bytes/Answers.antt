use Rattle.apl_model.specs.declared.scripts.Script.{Script}
use Rattle.apl_model.specs.Mirror.{script_of}
use Rattle.apl_model.specs.Refusal.{IsFirst, IsRefusal}
use Rattle.apl_model.proofs.AcceptedItems.{items_lawful}
use Rattle.apl_run.proofs.ScriptLemmas.{accepted-bytes, refused-bytes}
use Rattle.apl_run.proofs.WordLemmas.{first-of, wanting-bytes}
use Rattle.apl_run.proofs.scripts.run_bytes.Goals as goal

pub run_script-requires-clause-lawful : goal.run_script-requires-clause-lawful
run_script-requires-clause-lawful g c = items_lawful _ _ c.in-Ok.ensures.accepted

pub returns-in-Ok : goal.returns-in-Ok
returns-in-Ok g c = accepted-bytes _ (script_of c.in-Ok.script) _ _ _ c.in-Ok.ensures.accepted c.run_script.ensures

pub returns-in-Err-Refused : goal.returns-in-Err-Refused
returns-in-Err-Refused g c =
    refused-bytes _ c.in-Err-Refused.refusal _ _ _ (first-of Script (IsFirst (IsRefusal c.args.bytes.now)) _ _ c.in-Err-Refused.field-0-is c.in-Err-Refused.ensures.refused) (c.refuse.ensures _ _ _ c.requires)

pub returns-in-Err-NoMemory : goal.returns-in-Err-NoMemory
returns-in-Err-NoMemory g c = wanting-bytes _ _ c.requires
