-- Names that were seen.
use Rattle.std.specs.Prelude.{◌≡◌, ℕ, Bool, false, not, ◌||◌, ◌&&◌, List, is_some, map}
use Rattle.std.specs.Borrow.{Bor}
use Rattle.std.specs.List.{list_any}
use Rattle.std.specs.Str.{bytes_eq}
use Rattle.ned_trees.specs.declared.declarations.GateLine.{GateLine}
use Rattle.ned_trees.specs.declared.declarations.GateLine.TheVariants as gate
use Rattle.ned_trees.specs.declared.declarations.SectionLine.{SectionLine}
use Rattle.ned_types.specs.Types.{is_declaration, name_in, value_in}

-- the names that references in a set lead to
abbrev pub names_in : List (Bor (List ℕ)) → List (List ℕ)
names_in keys = map (λ (k : Bor (List ℕ)). k.now) keys

-- whether the line declares a gate of one of these names
abbrev pub declares_one : List (List ℕ) → GateLine → Bool
declares_one names (gate.Declaration d) = list_any (λ n. bytes_eq d.name n) names
declares_one names (gate.Refinement r) = false

-- ---- parameter sections

-- whether the name is one of these
abbrev pub is_in : List ℕ → List (List ℕ) → Bool
is_in name names = list_any (λ n. bytes_eq name n) names

-- the last names are the first, and besides them those that are picked
abbrev pub AddsNames : List (List ℕ) → (List ℕ → Bool) → List (List ℕ) → Type 0
AddsNames names picks more = (name : List ℕ) → is_in name more ≡ (is_in name names || picks name)

-- whether the line declares a parameter of one of these names
abbrev pub redeclares_seen : List (List ℕ) → SectionLine → Bool
redeclares_seen names l = is_declaration l && is_in (name_in l) names

-- whether the line gives a value to a parameter of one of these names
abbrev pub gives_seen : List (List ℕ) → SectionLine → Bool
gives_seen names l = is_some (value_in l) && is_in (name_in l) names

-- whether it gives one to a parameter of another name
abbrev pub sets_undeclared : List (List ℕ) → SectionLine → Bool
sets_undeclared names l = is_some (value_in l) && not (is_in (name_in l) names)

-- whether the line can't stand in a body over lines that declare parameters of the first names, and
-- fix those of the second
abbrev pub is_unfit_over : List (List ℕ) → List (List ℕ) → SectionLine → Bool
is_unfit_over declared fixed l =
    is_declaration l || (sets_undeclared declared l || gives_seen fixed l)
