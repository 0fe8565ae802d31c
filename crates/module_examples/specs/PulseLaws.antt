-- The law of a Pulse, and of a catalogue that knows it alone.
use Rattle.std.proofs.Common.{◌≡◌, Bool, true, false, Some, List, [], ◌∷◌, codes, refl}
use Rattle.module_api.specs.Behaviour.{Behaviour}
use Rattle.module_api.specs.Laws.{IsLawful}
use Rattle.module_api.specs.Meaning.{IsFresh}
use Rattle.module_parts.specs.Catalogues.{CatalogueEntry, entry, catalogue}
use Rattle.module_parts.specs.CatalogueLaws.{entry_lawful, catalogue_lawful}
use Rattle.module_parts.specs.ScriptLaws.{KeepsOwn, keeps_all}
use Rattle.module_parts.specs.Scripts.{module_by, naming_of}
use Rattle.module_examples.specs.Pulse.{byte_of, read_byte, pulse_script}

byte_reads_back : (has : Bool) → read_byte (byte_of has) ≡ Some (record { has_pulsed = has })
byte_reads_back false = refl
byte_reads_back true = refl

pulse_keeps : KeepsOwn pulse_script (λ p. Unit {0})
unfolding pulse_script
pulse_keeps = keeps_all pulse_script (λ p. byte_reads_back p.has_pulsed)

abbrev pub entries : List CatalogueEntry
entries = entry (codes "Pulse") pulse_script ∷ []

unfoldable pub pulses : Behaviour
pulses = catalogue entries

pub pulses_lawful : IsLawful pulses
unfolding pulses
pulses_lawful = catalogue_lawful entries
    (entry_lawful (codes "Pulse") pulse_script (λ p. Unit {0}) pulse_keeps, tt)

-- a Pulse that has not pulsed is a fresh one
pub pulse_is_fresh : IsFresh pulses (codes "Pulse")
    (module_by (codes "Pulse") pulse_script (record { has_pulsed = false }))
unfolding pulses naming_of pulse_script
pulse_is_fresh = record {
  of_kind = record { known = refl; named = refl };
  kind = refl;
  initial = refl;
}
