-- Of modules that are not wanted nothing is recorded, and of the others all places are noted.
use Rattle.std.proofs.Common.{◌≡◌, ℕ, ◌+◌, ◌==◌, Bool, true, false, ◌&&◌, ◌||◌, List, [], ◌∷◌, ◌++◌, Option, Some, None, ℤ, refl, sym, ap, subst, ◌∙◌, length, map, if◌then◌else◌}
use Rattle.std.proofs.lemmas.Bool.{false≢true}
use Rattle.ini_trees.specs.declared.lines.IniEntry.{IniEntry}
use Rattle.model_answers.specs.Keyed.{lines_of}
use Rattle.model_data.specs.declared.model.Model.{Model}
use Rattle.model_questions.specs.declared.record.Record.{Record}
use Rattle.model_answers.specs.Answering.{type_at}
use Rattle.model_data.specs.Models.{entries_in}
use Rattle.model_questions.specs.Records.{path_of}
use Rattle.ned_trees.specs.declared.declarations.Statistic.{Statistic}
use Rattle.ned_types.specs.Flat.{statistics_of}
use Rattle.ned_trees.specs.declared.modes.Mode.{Mode}
use Rattle.recorders.specs.ByPlaces.{lines_of_type, lines_if_finished}
use Rattle.recorders.specs.declared.scalar_line.ScalarLine.{ScalarLine}
use Rattle.recorders.specs.declared.vector_line.VectorLine.{VectorLine}
use Rattle.recorders.specs.declared.wanted.Output.TheVariants.{Vector, Scalars}
use Rattle.recorders.specs.Hearing.{is_within}
use Rattle.recorders.specs.Places.{places_from, heard_places, wanted_places, AreHeard, PlaceLists}
use Rattle.recorders.specs.Scalars.{line_of_value, mode_lines, statistic_lines, lines_among}
use Rattle.recorders.specs.Selection.{records_scalar_named, records_scalar_among, records_scalars, records_vector, result_name, selected_modes}
use Rattle.recorders.specs.Statistics.{value_in, values_heard}
use Rattle.recorders.specs.Vectors.{hears_any, vector_of, vectors_among, vectors_at}
use Rattle.recorders.specs.Wanted.{has_output_among, is_wanted, wants}
use Rattle.run_semantics.specs.declared.traces.Emission.{Emission}

with_true : (b : Bool) → (b && true) ≡ b
with_true true = refl
with_true false = refl

with_false : (b : Bool) → (b && false) ≡ false
with_false true = refl
with_false false = refl

pub first_false : (a b : Bool) → (a || b) ≡ false → a ≡ false
first_false true b e = e
first_false false b e = refl

pub rest_false : (a b : Bool) → (a || b) ≡ false → b ≡ false
rest_false true b e = absurd (false≢true (sym e))
rest_false false b e = e

-- ---- places

-- elements that pass the one test pass the other
pub same_places : {A : Type 0} (p q : A → Bool) → ((x : A) → p x ≡ q x) → (place : ℕ) (xs : List A) → places_from place p xs ≡ places_from place q xs
same_places p q same place [] = refl
same_places p q same place (x ∷ xs) =
    ap (λ (b : Bool). if b then place ∷ places_from (place + 1) p xs else places_from (place + 1) p xs) (same x)
    ∙ ap (λ (l : List ℕ). if q x then place ∷ l else l) (same_places p q same (place + 1) xs)

-- a wanted module has all its places
pub wanted_has_all : (wanted : List Bool) (records : List Record) (id : ℕ) (es : List Emission) → is_wanted wanted id ≡ true → wanted_places wanted records id es ≡ heard_places records id es
wanted_has_all wanted records id es e =
    same_places (λ (e : Emission). is_within records id e.id && is_wanted wanted id) (λ (e : Emission). is_within records id e.id)
    (λ x. ap (λ (b : Bool). is_within records id x.id && b) e ∙ with_true (is_within records id x.id)) 0 es

-- ---- vectors

left_out : (made : Statistic → VectorLine) (recorded hears : Bool) (s : Statistic) (rest : List Statistic) → recorded ≡ false → map made (if recorded && hears then s ∷ rest else rest) ≡ map made rest
left_out made recorded hears s rest e = ap (λ (b : Bool). map made (if b && hears then s ∷ rest else rest)) e

no_vectors_among : (m : Model) (records : List Record) (es : List Emission) (id : ℕ) (ss : List Statistic) → has_output_among Vector (entries_in m) (path_of records id) ss ≡ false → vectors_among m records es id ss ≡ []
no_vectors_among m records es id [] e = refl
no_vectors_among m records es id (s ∷ ss) e =
    let here : Bool = records_vector (entries_in m) (path_of records id) s in
    let rest : Bool = has_output_among Vector (entries_in m) (path_of records id) ss in
    left_out (vector_of records id) here (hears_any records es (vector_of records id s)) s _ (first_false here rest e)
    ∙ no_vectors_among m records es id ss (rest_false here rest e)

-- a module that is not wanted has no vectors
pub no_vectors : (m : Model) (records : List Record) (es : List Emission) (id : ℕ) → wants Vector m records id ≡ false → vectors_at m records es id ≡ []
no_vectors m records es id e = no_vectors_among m records es id (statistics_of (lines_of (type_at m records id))) e

-- ---- scalars

no_line : (entries : List IniEntry) (path name : List ℕ) (value : Option ℤ) → records_scalar_named entries path name ≡ false → line_of_value entries path name value ≡ []
no_line entries path name None e = refl
no_line entries path name (Some value) e =
    ap (λ (b : Bool). if b then record { path = path; name = name; value = value } ∷ [] else []) e

no_mode_lines : (entries : List IniEntry) (path name : List ℕ) (values : List ℤ) (modes : List Mode) → records_scalar_among entries path name modes ≡ false → mode_lines entries path name values modes ≡ []
no_mode_lines entries path name values [] e = refl
no_mode_lines entries path name values (mode ∷ modes) e =
    let here : Bool = records_scalar_named entries path (result_name name mode) in
    let rest : Bool = records_scalar_among entries path name modes in
    ap (λ (l : List ScalarLine). l ++ mode_lines entries path name values modes) (no_line entries path (result_name name mode) (value_in mode values) (first_false here rest e))
    ∙ no_mode_lines entries path name values modes (rest_false here rest e)

no_statistic_lines : (m : Model) (records : List Record) (es : List Emission) (id : ℕ) (s : Statistic) → records_scalars (entries_in m) (path_of records id) s ≡ false → statistic_lines m records es id s ≡ []
unfolding statistic_lines
no_statistic_lines m records es id s e =
    no_mode_lines (entries_in m) (path_of records id) s.name (values_heard records es (vector_of records id s)) (selected_modes (entries_in m) (path_of records id) s) e

no_lines_among : (m : Model) (records : List Record) (es : List Emission) (id : ℕ) (ss : List Statistic) → has_output_among Scalars (entries_in m) (path_of records id) ss ≡ false → lines_among m records es id ss ≡ []
no_lines_among m records es id [] e = refl
no_lines_among m records es id (s ∷ ss) e =
    let here : Bool = records_scalars (entries_in m) (path_of records id) s in
    let rest : Bool = has_output_among Scalars (entries_in m) (path_of records id) ss in
    ap (λ (l : List ScalarLine). l ++ lines_among m records es id ss) (no_statistic_lines m records es id s (first_false here rest e))
    ∙ no_lines_among m records es id ss (rest_false here rest e)

-- the statistics of a module that is not wanted have no lines
no_lines : (m : Model) (records : List Record) (es : List Emission) (id : ℕ) → wants Scalars m records id ≡ false → lines_of_type m records es id ≡ []
no_lines m records es id e = no_lines_among m records es id (statistics_of (lines_of (type_at m records id))) e

none_either : (t : Bool) (lines : List ScalarLine) → lines ≡ [] → (if t then [] else lines) ≡ []
none_either true lines e = refl
none_either false lines e = e

-- nor where it was finished
pub no_lines_if_finished : (m : Model) (records : List Record) (es : List Emission) (id : ℕ) (finished : List ℕ) → wants Scalars m records id ≡ false → lines_if_finished m records es id finished ≡ []
no_lines_if_finished m records es id finished e = none_either (length finished == 0) (lines_of_type m records es id) (no_lines m records es id e)

-- ---- the same modules

-- what is known where these modules are wanted is known where the same ones are
pub heard_of_same : (one other : List Bool) (records : List Record) (es : List Emission) (lists : PlaceLists) → one ≡ other → AreHeard one records es lists → AreHeard other records es lists
heard_of_same one other records es lists e h = subst (λ (w : List Bool). AreHeard w records es lists) e h
