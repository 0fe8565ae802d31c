-- The path with which the fault of an inside is told.
use Rattle.std.specs.Prelude.{ℕ, ◌==◌, ◌++◌, ◌||◌, ◌&&◌, not, Bool, true, false, List, ◌∷◌, Option}
use Rattle.std.specs.Prelude.{Some, None, Result, Ok, Err, bytes_eq}
use Rattle.param_following.specs.Asking.{Done, Ask}
use Rattle.sim_values.specs.declared.model_fault.ModelFault.{ModelFault}
use Rattle.inside_keys.specs.declared.found.Found.{Found}
use Rattle.inside_keys.specs.declared.key.Key.{Key}
use Rattle.inside_keys.specs.declared.key.Module.{Module}
use Rattle.inside_keys.specs.declared.key.What.{What}
use Rattle.inside_keys.specs.declared.key.What.TheVariants as what
use Rattle.inside_keys.specs.Asked.{KeyAsking}

-- whose path the fault of a key has that the building of the inside of m asked for: that of the
-- submodule for its type, its gate sizes, its condition and vector size, where it has no index; of
-- all else that of the compound module
abbrev pub blamed_for : Module → Module → What → List ℕ
blamed_for m at (what.Condition sub) = m.path ++ 46 ∷ sub
blamed_for m at (what.VectorSize sub) = m.path ++ 46 ∷ sub
blamed_for m at (what.Declared g) = at.path
blamed_for m at what.Type = at.path
blamed_for m at _ = m.path

abbrev pub is_param : What → Bool
is_param (what.Param x) = true
is_param _ = false

abbrev pub is_at : Option Module → Module → Bool
is_at None k = false
is_at (Some a) k = (a.created == k.created) && bytes_eq a.path k.path

abbrev pub blamed_by : Module → Bool → Key → List ℕ
blamed_by m true k = blamed_for m k.site k.what
blamed_by m false k = k.site.path

-- a parameter that is asked for one by one is a submodule's; those that expressions name are the
-- module's own and its parent's
abbrev pub blamed : Module → Option Module → Key → List ℕ
blamed m around k =
    blamed_by m (not (is_param k.what) || (is_at (Some m) k.site || is_at around k.site)) k

abbrev pub placed_by : List ℕ → Result Found ModelFault
    → (Found → Result Found (List ℕ × ModelFault)) → Result Found (List ℕ × ModelFault)
placed_by path (Ok v) next = next v
placed_by path (Err f) next = Err (path, f)

-- WHAT COMES OF AN INSIDE where keys have these values, or the first fault with its path
abbrev pub placed : (Key → Result Found ModelFault) → Module → Option Module → KeyAsking
    → Result Found (List ℕ × ModelFault)
placed values m around (Done (Ok f)) = Ok f
placed values m around (Done (Err f)) = Err (m.path, f)
placed values m around (Ask k rest) =
    placed_by (blamed m around k) (values k) (λ v. placed values m around (rest v))
