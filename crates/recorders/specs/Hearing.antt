-- Which emissions a vector hears.
use Rattle.std.specs.Prelude.{ℕ, zero, suc, ◌==◌, Bool, true, false, ◌&&◌, List, Option, Some, None}
use Rattle.std.specs.Prelude.{if◌then◌else◌}
use Rattle.std.specs.Str.{bytes_eq}
use Rattle.model_questions.specs.declared.record.Record.{Record}
use Rattle.model_questions.specs.Records.{record_at}
use Rattle.recorders.specs.declared.vector_line.VectorLine.{VectorLine}
use Rattle.run_semantics.specs.declared.traces.Emission.{Emission}

abbrev pub within_parent : (ℕ → Bool) → Option Record → Bool
within_parent is_parent_within None = false
within_parent is_parent_within (Some r) = is_parent_within r.parent

-- whether the emitter, or one of the modules around it, is the module of that id; at most so many
-- modules are looked at
abbrev pub is_within_up : ℕ → List Record → ℕ → ℕ → Bool
is_within_up zero records id emitter = false
is_within_up (suc depth) records id emitter =
    if emitter == id then true
    else within_parent (is_within_up depth records id) (record_at records emitter)

-- whether the emitter stands in the subtree of the module of that id, which it may be itself:
-- modules are nested at most 32 deep
unfoldable pub is_within : List Record → ℕ → ℕ → Bool
is_within records id emitter = is_within_up 32 records id emitter

-- a vector hears what the modules in the subtree of its module emit as the signal that is its
-- source (OMNeT++ Simulation Manual, "Result Recording")
abbrev pub hears : List Record → VectorLine → Emission → Bool
hears records v e = bytes_eq e.signal v.source && is_within records v.id e.id
