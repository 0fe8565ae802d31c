use Rattle.std.proofs.Common.{take}
use Rattle.input_texts.specs.Folders.{AreTextsOf}
use Rattle.input_texts.proofs.folder.read_texts.Given as goal

abbrev pub invariant-loop-number : goal.invariant-loop-number
invariant-loop-number g l = AreTextsOf (g.F.Folder.gave l.folder) (take l.number l.paths) l.texts
