-- Which insides are kept.
use Rattle.std.specs.Prelude.{◌≡◌, ℕ, zero, suc, ◌<◌, Bool, true, false, List, [], ◌∷◌, ◌++◌, length}
use Rattle.std.specs.Prelude.{Option, Some, None, reverse, slice_get, if◌then◌else◌}
use Rattle.std.specs.List.{All}
use Rattle.ned_trees.specs.declared.declarations.Submodule.{Submodule}
use Rattle.ned_trees.specs.declared.declarations.TypeDeclaration.{TypeDeclaration}
use Rattle.ned_trees.specs.declared.declarations.TypeKind.{TypeKind}
use Rattle.ned_trees.specs.declared.declarations.TypeKind.TheVariants.{Simple, Module, Network}
use Rattle.ned_trees.specs.declared.declarations.TypeKind.TheVariants.{Channel, ModuleInterface}
use Rattle.ned_trees.specs.declared.declarations.TypeKind.TheVariants.{ChannelInterface}
use Rattle.ned_types.specs.WellFormed.{IsAmong}
use Rattle.param_engine.specs.Tables.{Entries, known}
use Rattle.inside_keys.specs.Keys.{key}
use Rattle.inside_keys.specs.Settings.{ModuleRules}
use Rattle.inside_keys.specs.Values.{rules_of}
use Rattle.inside_keys.specs.declared.found.Found.{Found}
use Rattle.inside_keys.specs.declared.found.Found.TheVariants as found
use Rattle.inside_keys.specs.declared.found.Inside.{Inside}
use Rattle.inside_keys.specs.declared.key.Key.{Key}
use Rattle.inside_keys.specs.declared.key.What.TheVariants as what
use Rattle.inside_parts.specs.declared.parts.Part.{Part}
use Rattle.model_answers.specs.Insides.{child_path, inside_of}
use Rattle.model_answers.specs.Keyed.{module_at}
use Rattle.model_data.specs.Models.{network_of}
use Rattle.model_data.specs.declared.model.Model.{Model}
use Rattle.model_settings.specs.Standings.{setting_of}

-- ---- the compound modules in the inside of one

-- modules of that kind are compound; a network may stand within another
abbrev pub is_compound_kind : TypeKind → Bool
is_compound_kind Module = true
is_compound_kind Network = true
is_compound_kind Simple = false
is_compound_kind Channel = false
is_compound_kind ModuleInterface = false
is_compound_kind ChannelInterface = false

abbrev pub is_compound_type : Option TypeDeclaration → Bool
is_compound_type None = false
is_compound_type (Some t) = is_compound_kind t.kind

-- the paths of the compound modules among these parts, which are submodules of the module of that
-- path, by these lines
abbrev pub compounds_among : List TypeDeclaration → List Submodule → List ℕ → List Part
    → List (List ℕ)
compounds_among types lines path [] = []
compounds_among types lines path (p ∷ ps) = if is_compound_type (slice_get types p.of_type)
    then child_path path lines p ∷ compounds_among types lines path ps
    else compounds_among types lines path ps

abbrev pub compounds_behind : List TypeDeclaration → List ℕ → List Part → Option TypeDeclaration
    → List (List ℕ)
compounds_behind types path ps None = []
compounds_behind types path ps (Some t) = compounds_among types t.submodules path ps

-- the same of all parts of an inside, of which the first is the module of that path itself
abbrev pub compounds_by : List TypeDeclaration → List ℕ → List Part → List (List ℕ)
compounds_by types path [] = []
compounds_by types path (own ∷ ps) =
    compounds_behind types path ps (slice_get types own.of_type)

abbrev pub compounds_inside : List TypeDeclaration → List ℕ → Option Inside → List (List ℕ)
compounds_inside types path None = []
compounds_inside types path (Some i) = compounds_by types path i.parts.parts

-- THE COMPOUND MODULES IN A MODULE: their paths. One whose inside has a fault has none.
abbrev pub compounds_in : ModuleRules → List ℕ → List (List ℕ)
compounds_in s path = compounds_inside s.types path (inside_of s (module_at path))

-- ---- all of a network

-- A WALK over the modules of these paths and the compound modules in them, which comes to so many
-- at most: the first of these, then those in it, the last one first, and then the others.
unfoldable pub walked : ModuleRules → ℕ → List (List ℕ) → List (List ℕ)
walked s zero paths = []
walked s (suc n) [] = []
walked s (suc n) (p ∷ ps) = p ∷ walked s n (reverse (compounds_in s p) ++ ps)

abbrev pub paths_of : Option TypeDeclaration → List (List ℕ)
paths_of None = []
paths_of (Some network) = network.name ∷ []

-- so many insides are looked for at most: as many as a run has modules
abbrev pub most_insides : ℕ
most_insides = 1000000

-- the network of a model and all compound modules in it
abbrev pub compounds_of : Model → List (List ℕ)
compounds_of m = walked (setting_of m) most_insides (paths_of (network_of m))

-- A COMPOUND MODULE at one of these paths, or in a module that is.
pub data StandsIn (s : ModuleRules) (paths : List (List ℕ)) : List ℕ → Type 0 where
  itself : (path : List ℕ) → IsAmong path paths → StandsIn s paths path
  within : (path inner : List ℕ) → StandsIn s paths path → IsAmong inner (compounds_in s path)
      → StandsIn s paths inner

-- THE WALK MEETS ALL: where it comes to fewer modules than it may, it comes to each compound module
-- that stands at one of the paths, or in a module that does
abbrev pub WalkMeetsAll : Type 0
WalkMeetsAll = (s : ModuleRules) (n : ℕ) (paths : List (List ℕ)) (path : List ℕ)
    → length (walked s n paths) < n → StandsIn s paths path → IsAmong path (walked s n paths)

-- ---- what is kept

-- the inside of the module of that path is known, where it has one
abbrev pub IsInsideKept : ModuleRules → Entries Key Found → List ℕ → Type 0
IsInsideKept s es path = (i : Inside) → inside_of s (module_at path) ≡ Some i
    → known (rules_of s).same es (key (module_at path) what.Inside) ≡ Some (found.Inside i)

-- THE INSIDES THAT ARE KEPT: those of the network and of all compound modules in it
abbrev pub AreInsidesKept : Model → Entries Key Found → Type 0
AreInsidesKept m es = All (IsInsideKept (setting_of m) es) (compounds_of m)
