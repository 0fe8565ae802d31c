-- Where hops lead.
use Rattle.std.specs.Prelude.{ℕ, ◌==◌, List, Option, Some, None, if◌then◌else◌}
use Rattle.std.specs.Option.{option_and_then}
use Rattle.model_questions.specs.declared.answer.Neighbour.{Neighbour}
use Rattle.model_questions.specs.declared.answer.Neighbour.TheVariants.{Itself, Around, Beside}
use Rattle.model_questions.specs.declared.answer.Neighbour.TheVariants.{Inside}
use Rattle.model_questions.specs.declared.record.Record.{Record}
use Rattle.model_questions.specs.Records.{record_at, built_id}

-- the module around one, none around the network
abbrev pub id_around : Record → Option ℕ
id_around r = if r.parent == 0 then None else Some r.parent

-- THE MODULE that a hop leads to, seen from the one of that id: what is named is what building
-- made, never a module that was created later
abbrev pub neighbour_id : List Record → ℕ → Neighbour → Option ℕ
neighbour_id records id Itself = Some id
neighbour_id records id Around = option_and_then id_around (record_at records id)
neighbour_id records id (Beside name index) =
    option_and_then (λ (r : Record). built_id records r.parent name index) (record_at records id)
neighbour_id records id (Inside name index) = built_id records id name index
