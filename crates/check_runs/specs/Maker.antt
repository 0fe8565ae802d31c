-- A Maker creates and deletes modules while a run goes on, as its parameter `task` says. It is an
-- example, with a catalogue that knows it and the stock modules Sink and Spawner.
use Rattle.std.specs.Prelude.{ℕ, zero, suc, ◌==◌, true, List, [], ◌∷◌, Option, Some, None, codes}
use Rattle.std.specs.Prelude.{refl, if◌then◌else◌}
use Rattle.module_api.specs.Behaviour.{Behaviour, State}
use Rattle.module_api.specs.Laws.{IsLawful}
use Rattle.module_api.specs.Meaning.{IsFresh}
use Rattle.module_api.specs.declared.reply.Action.{Action}
use Rattle.module_api.specs.declared.reply.Action.TheVariants.{Delete}
use Rattle.module_parts.specs.Asking.{Asking}
use Rattle.module_parts.specs.CatalogueLaws.{entry_lawful, catalogue_lawful}
use Rattle.module_parts.specs.Catalogues.{CatalogueEntry, entry, catalogue}
use Rattle.module_parts.specs.Cues.{cue_of}
use Rattle.module_parts.specs.Looking.{reading, bits, does, quiet}
use Rattle.module_parts.specs.Replies.{created, plan_of}
use Rattle.module_parts.specs.ScriptLaws.{KeepsOwn, keeps_all}
use Rattle.module_parts.specs.Scripts.{Script, module_by, naming_of}
use Rattle.module_parts.specs.declared.cues.Cue.{Cue}
use Rattle.module_parts.specs.declared.cues.Cue.TheVariants as cue
use Rattle.module_stock.specs.Sink.{sink_script}
use Rattle.module_stock.specs.Spawner.{spawner_script, soon}
use Rattle.check_runs.specs.declared.maker.Maker.{Maker}

-- a module of that name and type, in the module of that path
abbrev pub made_in : List ℕ → List ℕ → List ℕ → Action
made_in around name type_name = created around name None (plan_of type_name)

-- the deepest module of a network in which modules `a` stand in one another
abbrev pub deepest : List ℕ
deepest = codes "N.a.a.a.a.a.a.a.a.a.a.a.a.a.a.a.a.a.a.a.a.a.a.a.a.a.a.a.a.a.a.a"

-- at its start: the task 0 is to create a module of a name that is none; others wait for a second
abbrev pub begun : ℕ → List Action
begun task = if task == 0 then made_in (codes "N") (codes "w.x") (codes "Sink") ∷ [] else soon ∷ []

-- a second later: 1 creates one of its own name; 2 one of a type that is not there; 3 one that is
-- too deep; 4 one that it deletes at once; and any other one in `N.h`, in a second after which it
-- does its last step
abbrev pub first : ℕ → List Action
first task =
    if task == 1 then made_in (codes "N") (codes "m") (codes "Sink") ∷ []
    else (if task == 2 then made_in (codes "N") (codes "w") (codes "Zed") ∷ []
    else (if task == 3 then made_in deepest (codes "w") (codes "Sink") ∷ []
    else (if task == 4 then made_in (codes "N") (codes "w") (codes "Sink")
    ∷ Delete (codes "N.w") true ∷ []
    else made_in (codes "N.h") (codes "w") (codes "Sink") ∷ soon ∷ [])))

-- the last one: `N.h` goes, with what was created in it
abbrev pub last : List Action
last = Delete (codes "N.h") true ∷ []

abbrev pub by_task : (ℕ → List Action) → Maker → Maker → Asking Maker
by_task acts m next = reading (bits (codes "task") (λ task. does m (acts task) next))

abbrev pub stepped : ℕ → Maker → Asking Maker
stepped zero m = by_task first m (record { step = 1 })
stepped (suc n) m = by_task (λ task. last) m (record { step = 2 })

abbrev pub told_by : Cue → Maker → Asking Maker
told_by cue.Start m = by_task begun m m
told_by cue.Timer m = stepped m.step m
told_by cue.Other m = quiet m

abbrev pub read_step : State → Option Maker
read_step [] = None
read_step (n ∷ []) = Some (record { step = n })
read_step (n ∷ (k ∷ rest)) = None

unfoldable pub maker_script : Script Maker
maker_script = record {
  code = λ m. m.step ∷ [];
  read = read_step;
  initial = record { step = 0 };
  asks = λ m call. told_by (cue_of call.prompt) m;
}

abbrev pub entries : List CatalogueEntry
entries = entry (codes "Sink") sink_script ∷ entry (codes "Spawner") spawner_script
    ∷ entry (codes "Maker") maker_script ∷ []

unfoldable pub made : Behaviour
made = catalogue entries

sink_keeps : KeepsOwn sink_script (λ s. Unit {0})
unfolding sink_script
sink_keeps = keeps_all sink_script (λ s. refl)

spawner_keeps : KeepsOwn spawner_script (λ s. Unit {0})
unfolding spawner_script
spawner_keeps = keeps_all spawner_script (λ s. refl)

maker_keeps : KeepsOwn maker_script (λ m. Unit {0})
unfolding maker_script
maker_keeps = keeps_all maker_script (λ m. refl)

pub made_lawful : IsLawful made
unfolding made
made_lawful = catalogue_lawful entries (
  entry_lawful (codes "Sink") sink_script (λ s. Unit {0}) sink_keeps,
  (
    entry_lawful (codes "Spawner") spawner_script (λ s. Unit {0}) spawner_keeps,
    (
      entry_lawful (codes "Maker") maker_script (λ m. Unit {0}) maker_keeps,
      tt,
    ),
  ),
)

pub sink_is_fresh : IsFresh made (codes "Sink") (module_by (codes "Sink") sink_script (record {}))
unfolding made naming_of sink_script
sink_is_fresh = record {
  of_kind = record { known = refl; named = refl };
  kind = refl;
  initial = refl;
}

pub spawner_is_fresh : IsFresh made (codes "Spawner") (module_by (codes "Spawner") spawner_script (record { step = 0 }))
unfolding made naming_of spawner_script
spawner_is_fresh = record {
  of_kind = record { known = refl; named = refl };
  kind = refl;
  initial = refl;
}

pub maker_is_fresh : IsFresh made (codes "Maker") (module_by (codes "Maker") maker_script (record { step = 0 }))
unfolding made naming_of maker_script
maker_is_fresh = record {
  of_kind = record { known = refl; named = refl };
  kind = refl;
  initial = refl;
}
