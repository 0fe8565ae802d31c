-- A Wire joins two gates while a run goes on: 1 s after it begins it joins the gate `out` of `N.s`
-- to the gate `in` of `N.k`, over a channel that takes 1 ms; 1.5 s later it frees the first; 0.5 s
-- after that it joins them again, and with the same reply ends the run. It is an example, with a
-- catalogue that knows it and the stock modules Source and Sink.
use Rattle.std.specs.Prelude.{ℕ, zero, suc, pos, List, [], ◌∷◌, Option, Some, None, codes, refl}
use Rattle.module_api.specs.Behaviour.{Behaviour, State}
use Rattle.module_api.specs.Laws.{IsLawful}
use Rattle.module_api.specs.Meaning.{IsFresh}
use Rattle.module_api.specs.declared.reply.Action.TheVariants.{Connect, Disconnect, End}
use Rattle.module_api.specs.declared.reply.GatePlace.{GatePlace}
use Rattle.module_api.specs.declared.reply.Link.{Link}
use Rattle.module_parts.specs.Asking.{Asking}
use Rattle.module_parts.specs.CatalogueLaws.{entry_lawful, catalogue_lawful}
use Rattle.module_parts.specs.Catalogues.{CatalogueEntry, entry, catalogue}
use Rattle.module_parts.specs.Cues.{cue_of}
use Rattle.module_parts.specs.Looking.{simply, quiet}
use Rattle.module_parts.specs.Replies.{gate_at, timer_set}
use Rattle.module_parts.specs.ScriptLaws.{KeepsOwn, keeps_all}
use Rattle.module_parts.specs.Scripts.{Script, module_by, naming_of}
use Rattle.module_parts.specs.declared.cues.Cue.{Cue}
use Rattle.module_parts.specs.declared.cues.Cue.TheVariants as cue
use Rattle.module_stock.specs.Sink.{sink_script}
use Rattle.module_stock.specs.Source.{source_script}
use Rattle.module_stock.specs.SourceLaws as source
use Rattle.check_runs.specs.declared.wire.Wire.{Wire}

abbrev pub from : GatePlace
from = gate_at (codes "N.s") (codes "out") 0

abbrev pub to : GatePlace
to = gate_at (codes "N.k") (codes "in") 0

abbrev pub link : Option Link
link = Some (record { delay = 1000000000; datarate = 0 })

-- what it does at its timer, after so many steps
abbrev pub stepped : ℕ → Wire → Asking Wire
stepped zero w = simply (Connect from to link ∷ timer_set 1500000000000 (pos 0) ∷ []) (record { step = 1 })
stepped (suc zero) w = simply (Disconnect from ∷ timer_set 500000000000 (pos 0) ∷ []) (record { step = 2 })
stepped (suc (suc n)) w = simply (Connect from to link ∷ End ∷ []) (record { step = 3 })

abbrev pub told_by : Cue → Wire → Asking Wire
told_by cue.Start w = simply (timer_set 1000000000000 (pos 0) ∷ []) w
told_by cue.Timer w = stepped w.step w
told_by cue.Other w = quiet w

abbrev pub read_step : State → Option Wire
read_step [] = None
read_step (n ∷ []) = Some (record { step = n })
read_step (n ∷ (k ∷ rest)) = None

unfoldable pub wire_script : Script Wire
wire_script = record {
  code = λ w. w.step ∷ [];
  read = read_step;
  initial = record { step = 0 };
  asks = λ w call. told_by (cue_of call.prompt) w;
}

abbrev pub entries : List CatalogueEntry
entries = entry (codes "Source") source_script ∷ entry (codes "Sink") sink_script
    ∷ entry (codes "Wire") wire_script ∷ []

unfoldable pub wired : Behaviour
wired = catalogue entries

sink_keeps : KeepsOwn sink_script (λ s. Unit {0})
unfolding sink_script
sink_keeps = keeps_all sink_script (λ s. refl)

wire_keeps : KeepsOwn wire_script (λ w. Unit {0})
unfolding wire_script
wire_keeps = keeps_all wire_script (λ w. refl)

pub wired_lawful : IsLawful wired
unfolding wired
wired_lawful = catalogue_lawful entries (
  entry_lawful (codes "Source") source_script source.IsSmall source.source_keeps,
  (
    entry_lawful (codes "Sink") sink_script (λ s. Unit {0}) sink_keeps,
    (
      entry_lawful (codes "Wire") wire_script (λ w. Unit {0}) wire_keeps,
      tt,
    ),
  ),
)

pub source_is_fresh : IsFresh wired (codes "Source") (module_by (codes "Source") source_script (record { n = 0 }))
unfolding wired naming_of source_script
source_is_fresh = record {
  of_kind = record { known = refl; named = refl };
  kind = refl;
  initial = refl;
}

pub sink_is_fresh : IsFresh wired (codes "Sink") (module_by (codes "Sink") sink_script (record {}))
unfolding wired naming_of sink_script
sink_is_fresh = record {
  of_kind = record { known = refl; named = refl };
  kind = refl;
  initial = refl;
}

pub wire_is_fresh : IsFresh wired (codes "Wire") (module_by (codes "Wire") wire_script (record { step = 0 }))
unfolding wired naming_of wire_script
wire_is_fresh = record {
  of_kind = record { known = refl; named = refl };
  kind = refl;
  initial = refl;
}
