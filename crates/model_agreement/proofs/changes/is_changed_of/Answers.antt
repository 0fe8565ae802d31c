use Rattle.std.proofs.Common.{sym, ◌∙◌}
use Rattle.model_questions.specs.Records.{path_of}
use Rattle.model_agreement.proofs.Named.{nowhere_changed}
use Rattle.model_agreement.proofs.changes.is_changed_of.Goals as goal

pub returns-then-not-is_changed_somewhere : goal.returns-then-not-is_changed_somewhere
returns-then-not-is_changed_somewhere c =
    sym (nowhere_changed c.args.changed.now (path_of c.args.records.now c.args.id) c.args.name.now (sym c.is_changed_somewhere.ensures ∙ c.if-not-is_changed_somewhere.true))
