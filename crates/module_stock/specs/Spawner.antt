-- What a Spawner is. It creates a module beside itself while a run goes on, and sends it a message;
-- then it deletes that module and creates another one of the same name.
use Rattle.std.specs.Prelude.{ℕ, zero, suc, pos, Bool, List, [], ◌∷◌, Option, None, Some, codes}
use Rattle.module_api.specs.Behaviour.{State}
use Rattle.module_api.specs.declared.reply.Action.{Action}
use Rattle.module_api.specs.declared.reply.Action.TheVariants.{SendDirect, Delete}
use Rattle.module_parts.specs.declared.cues.Cue.{Cue}
use Rattle.module_parts.specs.declared.cues.Cue.TheVariants as cue
use Rattle.module_parts.specs.Asking.{Asking}
use Rattle.module_parts.specs.Cues.{cue_of}
use Rattle.module_parts.specs.Looking.{reading, time, truth, does, simply, quiet}
use Rattle.module_parts.specs.Paths.{parent_path, path_in}
use Rattle.module_parts.specs.Replies.{created, gate_at, plan_of, timer_set}
use Rattle.module_parts.specs.Scripts.{Script}
use Rattle.module_stock.specs.declared.spawner.Spawner.{Spawner}
use Rattle.module_stock.specs.Source.{message}

-- in a second
abbrev pub soon : Action
soon = timer_set 1000000000000 (pos 0)

-- a Sink of the name `w`, in the module of that path
abbrev pub spawned : List ℕ → Action
spawned around = created around (codes "w") None (plan_of (codes "Sink"))

-- 8 bits for it, which are so long on their way
abbrev pub thrown : List ℕ → ℕ → Action
thrown around delay =
    SendDirect (gate_at (path_in around (codes "w")) (codes "in") 0) (message 8)
    (record { delay = delay; duration = 0 })

-- it is deleted, politely or not
abbrev pub removed : List ℕ → Bool → Action
removed around polite = Delete (path_in around (codes "w")) polite

-- what it does at its timer, after so many steps: the first is to create one, the second to delete
-- it and to create another one
abbrev pub stepped : ℕ → List ℕ → Spawner → Asking Spawner
stepped zero around s =
    reading (time (codes "delay") (λ delay.
    does s (spawned around ∷ thrown around delay ∷ soon ∷ []) (record { step = 1 })))
stepped (suc zero) around s =
    reading (truth (codes "polite") (λ polite.
    does s (removed around polite ∷ spawned around ∷ []) (record { step = 2 })))
stepped (suc (suc n)) around s = quiet s

abbrev pub told_by : Cue → List ℕ → Spawner → Asking Spawner
told_by cue.Start around s = simply (soon ∷ []) s
told_by cue.Timer around s = stepped s.step around s
told_by cue.Other around s = quiet s

-- its state is one byte
abbrev pub read_step : State → Option Spawner
read_step [] = None
read_step (n ∷ []) = Some (record { step = n })
read_step (n ∷ (k ∷ rest)) = None

unfoldable pub spawner_script : Script Spawner
spawner_script = record {
  code = λ s. s.step ∷ [];
  read = read_step;
  initial = record { step = 0 };
  asks = λ s call. told_by (cue_of call.prompt) (parent_path call.path) s;
}
