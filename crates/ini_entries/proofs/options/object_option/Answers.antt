use Rattle.std.proofs.Common.{◌≡◌, Bool, false, sym, subst, ◌∙◌}
use Rattle.std.specs.Prelude.{if◌then◌else◌}
use Rattle.std.specs.Str.{bytes_eq}
use Rattle.std.proofs.lemmas.Slice.Eq.{bytes_eq-Decides}
use Rattle.ini_entries.specs.Meaning.{Finds}
use Rattle.ini_entries.specs.Options.{IsObjectOption, word_modes}
use Rattle.ini_entries.specs.Reasons.{object_reason}
use Rattle.ini_entries.specs.declared.reason.Reason.TheVariants as reason
use Rattle.ini_entries.specs.Texts.{Bytes}
use Rattle.ini_entries.proofs.OptionLaws.{other_option}
use Rattle.ini_entries.proofs.options.object_option.Goals as goal

pub returns-then-spells : goal.returns-then-spells
returns-then-spells c =
    let same : c.args.name.now ≡ word_modes = (bytes_eq-Decides c.args.name.now word_modes).0 (sym c.spells.ensures ∙ c.if-spells.true) in
    subst (λ (n : Bytes). Finds (IsObjectOption n c.args.bytes.now) (λ why. why ≡ object_reason n) c.modes_option.result) (sym same) c.modes_option.ensures

pub returns-then-is_recording_word : goal.returns-then-is_recording_word
returns-then-is_recording_word c =
    let other : bytes_eq c.args.name.now word_modes ≡ false = sym c.spells.ensures ∙ c.if-spells.false in
    subst (λ (t : Bool). Finds (IsObjectOption c.args.name.now c.args.bytes.now) (λ why. why ≡ (if t then reason.BadModes else reason.NotATruth)) c.recording_option.result) (sym other) c.recording_option.ensures

pub returns : goal.returns
returns c = other_option c.args.name.now c.args.bytes.now (sym c.spells.ensures ∙ c.if-spells.false) (sym c.is_recording_word.ensures ∙ c.if-is_recording_word.false)
