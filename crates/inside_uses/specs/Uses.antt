-- What an inside uses of the values that it asks for.
use Rattle.std.specs.Prelude.{◌≡◌, ◌⊎◌, ℕ, Bool, true, false, ◌&&◌, List, [], ◌∷◌, length, nat_lt}
use Rattle.std.specs.Prelude.{Option, Some, None, Result, Ok}
use Rattle.param_following.specs.Asking.{outcome}
use Rattle.param_following.specs.Edits.{answer_of, asked_by}
use Rattle.sim_values.specs.declared.model_fault.ModelFault.{ModelFault}
use Rattle.inside_keys.specs.declared.found.Found.{Found}
use Rattle.inside_keys.specs.declared.found.Found.TheVariants as found
use Rattle.inside_keys.specs.declared.key.Key.{Key}
use Rattle.inside_keys.specs.declared.key.Module.{Module}
use Rattle.inside_keys.specs.declared.key.What.{What}
use Rattle.inside_keys.specs.declared.key.What.TheVariants as what
use Rattle.inside_keys.specs.Asked.{KeyAsking}
use Rattle.inside_keys.specs.Keys.{key}
use Rattle.inside_keys.specs.Settings.{ModuleRules}
use Rattle.inside_keys.specs.Values.{asking_of}

-- values that are known, of keys
abbrev pub KnownValues : Type 0
KnownValues = Key → Option Found

-- what an asking comes to by values that are known
abbrev pub comes_to : KnownValues → KeyAsking → Option (Result Found ModelFault)
comes_to known t = outcome (λ j. answer_of (known j)) t

-- there is the value of an expression, whichever
abbrev pub HasValue : Option Found → Type 0
HasValue None = ⊥
HasValue (Some (found.Value v)) = Unit {0}
HasValue (Some (found.Carrier c)) = ⊥
HasValue (Some (found.Inside i)) = ⊥

-- ANOTHER ANSWER SERVES for a key: it is the same; or the key passes a test, and both are values
abbrev pub ServesAs : Bool → Option Found → Option Found → Type 0
ServesAs passes before after =
    (after ≡ before) ⊎ ((passes ≡ true) × (HasValue before × HasValue after))

-- other answers serve for all of these keys
abbrev pub AllServe : (Key → Bool) → KnownValues → KnownValues → List Key → Type 0
AllServe test before after [] = Unit {0}
AllServe test before after (k ∷ ks) =
    ServesAs (test k) (before k) (after k) × AllServe test before after ks

-- ---- parameters of what is inside

abbrev pub is_parameter : What → Bool
is_parameter what.Type = false
is_parameter (what.Param x) = true
is_parameter (what.Condition x) = false
is_parameter (what.VectorSize x) = false
is_parameter (what.Declared x) = false
is_parameter (what.GateSize x) = false
is_parameter (what.Sizeof x) = false
is_parameter (what.Exists x) = false
is_parameter (what.ExistsAt x k) = false
is_parameter (what.Member s x) = false
is_parameter (what.Element s k x) = false
is_parameter (what.Channel c x) = false
is_parameter (what.Carrier c) = false
is_parameter what.Joined = false
is_parameter what.Inside = false

-- a key is a parameter of a module whose path is longer than that of this one, as those of its
-- submodules are
abbrev pub is_of_inner : Module → Key → Bool
is_of_inner m k = is_parameter k.what && nat_lt (length m.path) (length k.site.path)

-- the module around a module has no longer path
abbrev pub IsAbove : ModuleRules → Module → Type 0
IsAbove s m = (a : Module) → (s.stands m).around ≡ Some a
    → nat_lt (length m.path) (length a.path) ≡ false

-- AN INSIDE USES ONLY WHETHER THERE IS A VALUE of the parameters of its submodules: with other
-- values of these, and the same answers for all else that it asks, it comes to the same, and asks
-- for the same keys.
abbrev pub InsideUsesWhether : Type 0
InsideUsesWhether = (s : ModuleRules) (m : Module) (before after : KnownValues) → IsAbove s m
    → AllServe (is_of_inner m) before after (asked_by before (asking_of s (key m what.Inside))) →
    (comes_to after (asking_of s (key m what.Inside))
    ≡ comes_to before (asking_of s (key m what.Inside)))
    × (asked_by after (asking_of s (key m what.Inside))
    ≡ asked_by before (asking_of s (key m what.Inside)))

-- A PARAMETER HAS THE VALUE OF AN EXPRESSION, if any: what comes of its asking is no inside and no
-- channel.
abbrev pub ParametersAreValues : Type 0
ParametersAreValues = (s : ModuleRules) (m : Module) (x : List ℕ) (known : KnownValues) (f : Found)
    → comes_to known (asking_of s (key m (what.Param x))) ≡ Some (Ok f) → HasValue (Some f)
