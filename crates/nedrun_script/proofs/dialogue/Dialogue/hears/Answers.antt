use Rattle.nedrun_script.proofs.Faults.{known_by}
use Rattle.nedrun_script.proofs.dialogue.Dialogue.hears.Goals as goal

pub returns-clause-known : goal.returns-clause-known
returns-clause-known g c =
    known_by _ _ _ _ c.args.told.now c.args.answer.now c.requires.told c.requires.known c.has_fault_behind-self.ensures c.hears.ensures.heard
