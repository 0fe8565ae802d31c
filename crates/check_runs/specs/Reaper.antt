-- A Reaper deletes a module while a run goes on: 2.5 s after it begins `N.h`, and all that is
-- inside of it. It is an example, with a catalogue that knows it and the stock modules Source and
-- Sink.
use Rattle.std.specs.Prelude.{pos, false, List, [], ◌∷◌, codes, refl}
use Rattle.module_api.specs.Behaviour.{Behaviour}
use Rattle.module_api.specs.Laws.{IsLawful}
use Rattle.module_api.specs.Meaning.{IsFresh}
use Rattle.module_api.specs.declared.reply.Action.TheVariants.{Delete}
use Rattle.module_parts.specs.Asking.{Asking}
use Rattle.module_parts.specs.CatalogueLaws.{entry_lawful, catalogue_lawful}
use Rattle.module_parts.specs.Catalogues.{CatalogueEntry, entry, catalogue}
use Rattle.module_parts.specs.Cues.{cue_of}
use Rattle.module_parts.specs.Looking.{simply, quiet}
use Rattle.module_parts.specs.Replies.{timer_set}
use Rattle.module_parts.specs.ScriptLaws.{KeepsOwn, keeps_all}
use Rattle.module_parts.specs.Scripts.{Script, module_by, naming_of, read_nothing}
use Rattle.module_parts.specs.declared.cues.Cue.{Cue}
use Rattle.module_parts.specs.declared.cues.Cue.TheVariants as cue
use Rattle.module_stock.specs.Sink.{sink_script}
use Rattle.module_stock.specs.Source.{source_script}
use Rattle.module_stock.specs.SourceLaws as source
use Rattle.check_runs.specs.declared.reaper.Reaper.{Reaper}

abbrev pub told_by : Cue → Reaper → Asking Reaper
told_by cue.Start r = simply (timer_set 2500000000000 (pos 0) ∷ []) r
told_by cue.Timer r = simply (Delete (codes "N.h") false ∷ []) r
told_by cue.Other r = quiet r

unfoldable pub reaper_script : Script Reaper
reaper_script = record {
  code = λ r. [];
  read = read_nothing (record {});
  initial = record {};
  asks = λ r call. told_by (cue_of call.prompt) r;
}

abbrev pub entries : List CatalogueEntry
entries = entry (codes "Source") source_script ∷ entry (codes "Sink") sink_script
    ∷ entry (codes "Reaper") reaper_script ∷ []

unfoldable pub reaped : Behaviour
reaped = catalogue entries

sink_keeps : KeepsOwn sink_script (λ s. Unit {0})
unfolding sink_script
sink_keeps = keeps_all sink_script (λ s. refl)

reaper_keeps : KeepsOwn reaper_script (λ r. Unit {0})
unfolding reaper_script
reaper_keeps = keeps_all reaper_script (λ r. refl)

pub reaped_lawful : IsLawful reaped
unfolding reaped
reaped_lawful = catalogue_lawful entries (
  entry_lawful (codes "Source") source_script source.IsSmall source.source_keeps,
  (
    entry_lawful (codes "Sink") sink_script (λ s. Unit {0}) sink_keeps,
    (
      entry_lawful (codes "Reaper") reaper_script (λ r. Unit {0}) reaper_keeps,
      tt,
    ),
  ),
)

pub source_is_fresh : IsFresh reaped (codes "Source") (module_by (codes "Source") source_script (record { n = 0 }))
unfolding reaped naming_of source_script
source_is_fresh = record {
  of_kind = record { known = refl; named = refl };
  kind = refl;
  initial = refl;
}

pub sink_is_fresh : IsFresh reaped (codes "Sink") (module_by (codes "Sink") sink_script (record {}))
unfolding reaped naming_of sink_script
sink_is_fresh = record {
  of_kind = record { known = refl; named = refl };
  kind = refl;
  initial = refl;
}

pub reaper_is_fresh : IsFresh reaped (codes "Reaper") (module_by (codes "Reaper") reaper_script (record {}))
unfolding reaped naming_of reaper_script
reaper_is_fresh = record {
  of_kind = record { known = refl; named = refl };
  kind = refl;
  initial = refl;
}
