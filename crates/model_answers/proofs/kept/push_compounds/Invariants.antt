use Rattle.std.proofs.Common.{◌≡◌, ◌++◌, drop}
use Rattle.model_answers.specs.Kept.{compounds_among}
use Rattle.model_answers.proofs.kept.push_compounds.Given as goal

abbrev pub invariant-loop-part : goal.invariant-loop-part
invariant-loop-part l = l.pending.items ++ compounds_among l.types l.declared.submodules l.path (drop l.part-index l.parts)
    ≡ l.fn.pending.items ++ compounds_among l.types l.declared.submodules l.path l.parts
