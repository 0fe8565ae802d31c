use Rattle.std.proofs.Common.{◌≡◌, None, sym, ap, subst, ◌∙◌}
use Rattle.std.proofs.lemmas.Result.{err_from_is_err_and}
use Rattle.std.specs.Str.{chars}
use Rattle.ini_pattern.specs.PatternOf.{pattern_of}
use Rattle.ini_entries.specs.Keys.{ObjectKey}
use Rattle.ini_entries.specs.Options.{IsObjectOption}
use Rattle.ini_entries.specs.Texts.{Bytes}
use Rattle.ini_trees.specs.declared.entry.EntryMeaning.TheVariants as meaning
use Rattle.ini_trees.specs.declared.entry.ObjectEntry.{ObjectEntry}
use Rattle.ini_entries.proofs.EntryLaws.{no_object, object_lacked, only_meaning, refused_object}
use Rattle.ini_entries.proofs.meaning.object_meaning.Goals as goal

pub returns-in_default : goal.returns-in_default
returns-in_default c =
    let none : pattern_of (chars c.args.key.now) ≡ None = sym c.in_ok-pattern.ensures ∙ c.in_default.is in
    (no_object c.args.key.now c.args.name.now c.args.value.now c.requires.kind (λ pattern o some is. absurd cc), object_lacked c.args.key.now c.args.name.now c.args.value.now c.requires.kind none)

pub returns-in_err-says : goal.returns-in_err-says
returns-in_err-says c =
    let p = err_from_is_err_and c.from_residual-in_err-says.result c.from_residual-in_err-says.ensures.1 in
    rw (p.1, p.2) (refused_object c.args.key.now c.args.name.now c.args.value.now c.in-Some.pattern _ c.requires.kind (sym c.in_ok-pattern.ensures ∙ c.in-Some.is) c.in_err-says.ensures)

pub returns : goal.returns
returns c =
    let says : IsObjectOption c.in_ok-option.option c.args.value.now c.in_ok-says.says = subst (λ (n : Bytes). IsObjectOption n c.args.value.now c.in_ok-says.says) (sym c.in_ok-option.ensures) c.in_ok-says.ensures.0 in
    let entry : ObjectEntry = record { pattern = c.in-Some.pattern; option = c.in_ok-option.option; says = c.in_ok-says.says } in
    only_meaning c.args.key.now c.args.value.now (meaning.Object entry) (c.requires.kind ∙ ap ObjectKey (sym c.in_ok-option.ensures), sym c.in_ok-pattern.ensures ∙ c.in-Some.is, says)
