use Rattle.std.proofs.Common.{◌≡◌, Some, refl, subst}
use Rattle.ini_entries.specs.Meaning.{Tells}
use Rattle.ini_entries.specs.Options.{truth_word}
use Rattle.ini_entries.proofs.OptionLaws.{no_recording, only_option}
use Rattle.ini_trees.specs.declared.entry.ObjectOption.TheVariants as object
use Rattle.ini_entries.proofs.options.recording_option.Goals as goal

pub returns-in-None : goal.returns-in-None
returns-in-None c = (no_recording c.args.name.now c.args.bytes.now c.requires (subst (Tells (λ on. c.args.bytes.now ≡ truth_word on)) c.in-None.is c.truth_named.ensures), refl)

pub returns-in-Some : goal.returns-in-Some
returns-in-Some c =
    let found : Tells (λ on. c.args.bytes.now ≡ truth_word on) (Some c.in-Some.on) = subst (Tells (λ on. c.args.bytes.now ≡ truth_word on)) c.in-Some.is c.truth_named.ensures in
    only_option c.args.name.now c.args.bytes.now (object.Recording c.in-Some.on) (c.requires, found.0)
