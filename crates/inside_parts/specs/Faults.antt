-- Faults of a model.
use Rattle.std.specs.Prelude.{◌≡◌, Result, Ok, Err}
use Rattle.sim_values.specs.declared.model_fault.ModelFault.{ModelFault}
use Rattle.inside_parts.specs.declared.fault.InsideError.{InsideError}
use Rattle.inside_parts.specs.declared.fault.InsideError.TheVariants as stop

-- lack of memory
abbrev pub IsOfMemory : InsideError → Type 0
IsOfMemory (stop.Memory e) = Unit {0}
IsOfMemory (stop.Fault f) = ⊥

-- what code answers is what the definition gives, fault for fault; lack of memory says nothing
abbrev pub Tells : {A : Type 0} → Result A InsideError → Result A ModelFault → Type 0
Tells (Ok x) given = given ≡ Ok x
Tells (Err (stop.Fault f)) given = given ≡ Err f
Tells (Err (stop.Memory e)) given = Unit {0}

-- the first fault, or what follows from the value
abbrev pub thence : {A B : Type 0} → Result A ModelFault → (A → Result B ModelFault)
    → Result B ModelFault
thence (Ok x) next = next x
thence (Err f) next = Err f
