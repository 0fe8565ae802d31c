-- Where the elements of a list stand that concern a module.
use Rattle.std.specs.Prelude.{◌≡◌, ℕ, ◌+◌, ◌-◌, ◌<◌, ◌==◌, Bool, false, ◌&&◌, ℤ, List, [], ◌∷◌}
use Rattle.std.specs.Prelude.{◌++◌, Option, Some, None, Vec, length, slice_get, if◌then◌else◌}
use Rattle.std.specs.List.{list_any}
use Rattle.std.specs.Str.{bytes_eq}
use Rattle.std.specs.declared.alloc.Global.{Global}
use Rattle.model_questions.specs.declared.record.Record.{Record}
use Rattle.recorders.specs.Hearing.{is_within}
use Rattle.recorders.specs.Wanted.{is_wanted}
use Rattle.recorders.specs.declared.places.RunPlaces.{RunPlaces}
use Rattle.recorders.specs.declared.vector_line.VectorLine.{VectorLine}
use Rattle.run_semantics.specs.declared.traces.Emission.{Emission}
use Rattle.run_semantics.specs.declared.traces.Scalar.{Scalar}

-- the places of the elements that pass a test, where the first element has this place
abbrev pub places_from : {A : Type 0} → ℕ → (A → Bool) → List A → List ℕ
places_from place is_meant [] = []
places_from place is_meant (x ∷ xs) =
    if is_meant x then place ∷ places_from (place + 1) is_meant xs
    else places_from (place + 1) is_meant xs

-- the places of the emissions that come from the subtree of the module of that id
abbrev pub heard_places : List Record → ℕ → List Emission → List ℕ
heard_places records id emissions =
    places_from 0 (λ (e : Emission). is_within records id e.id) emissions

-- the places of the scalars that the module of that id recorded
abbrev pub recorded_places : ℕ → List Scalar → List ℕ
recorded_places id recorded = places_from 0 (λ (s : Scalar). s.id == id) recorded

-- the places of that id in the list of those that were finished
abbrev pub finished_places : ℕ → List ℕ → List ℕ
finished_places id finished = places_from 0 (λ f. f == id) finished

-- what is made of the element at a place
abbrev pub of_element : {A B : Type 0} → (A → List B) → Option A → List B
of_element made None = []
of_element made (Some x) = made x

abbrev pub of_place : {A B : Type 0} → (A → List B) → List A → ℕ → List B
of_place made elements place = of_element made (slice_get elements place)

-- whether it is a place of an emission of the vector's signal
abbrev pub is_of : VectorLine → Option Emission → Bool
is_of v None = false
is_of v (Some e) = bytes_eq e.signal v.source

-- whether one of these is
abbrev pub is_any_of : VectorLine → List Emission → List ℕ → Bool
is_any_of v emissions places = list_any (λ place. is_of v (slice_get emissions place)) places

-- the value of an emission of the vector's signal
abbrev pub value_of : VectorLine → Emission → List ℤ
value_of v e = if bytes_eq e.signal v.source then e.value ∷ [] else []

-- lists of places, one for each id of a module
abbrev pub PlaceLists : Type 0
PlaceLists = List (Vec ℕ Global)

abbrev pub places_in : Option (Vec ℕ Global) → List ℕ
places_in None = []
places_in (Some list) = list.items

-- the list for that id
abbrev pub places_at : PlaceLists → ℕ → List ℕ
places_at lists id = places_in (slice_get lists id)

abbrev pub is_place : ℕ → Option ℕ → Bool
is_place place None = false
is_place place (Some other) = other == place

-- a place is noted after the others, unless it is the last of them
abbrev pub noted : ℕ → List ℕ → List ℕ
noted place list = if is_place place (slice_get list (length list - 1)) then list
    else list ++ place ∷ []

abbrev pub noted_if : Bool → ℕ → List ℕ → List ℕ
noted_if is_meant place list = if is_meant then noted place list else list

-- the lists for ids below a number are the places of the elements that the test for their id lets
-- pass
abbrev pub AreOf : {A : Type 0} → ℕ → (ℕ → A → Bool) → List A → PlaceLists → Type 0
AreOf count is_meant elements lists =
    (length lists ≡ count)
    × ((id : ℕ) → id < count → places_at lists id ≡ places_from 0 (is_meant id) elements)

-- the places of the emissions that come from the subtree of the module of that id, if it is wanted
abbrev pub wanted_places : List Bool → List Record → ℕ → List Emission → List ℕ
wanted_places wanted records id emissions =
    places_from 0 (λ (e : Emission). is_within records id e.id && is_wanted wanted id) emissions

abbrev pub AreHeard : List Bool → List Record → List Emission → PlaceLists → Type 0
AreHeard wanted records emissions lists =
    AreOf (length records + 1)
    (λ id (e : Emission). is_within records id e.id && is_wanted wanted id) emissions lists

-- whether a number is one of these
abbrev pub is_number : ℕ → List ℕ → Bool
is_number q ids = list_any (λ id. id == q) ids

-- lists of ids, one for each id of a module
abbrev pub ids_at : List (Vec ℕ Global) → ℕ → List ℕ
ids_at = places_at

-- the first so many lists have the ids of the wanted modules in whose subtree the module of their
-- id stands
abbrev pub AreHearers : List Bool → List Record → ℕ → List (Vec ℕ Global) → Type 0
AreHearers wanted records count hearers =
    (length hearers ≡ count) × ((e : ℕ) → e < count → (q : ℕ)
    → is_number q (ids_at hearers e) ≡ (is_within records q e && is_wanted wanted q))

-- the places of the emissions that the module of that id is to hear by such lists
abbrev pub places_heard : List (Vec ℕ Global) → ℕ → List Emission → List ℕ
places_heard hearers id emissions =
    places_from 0 (λ (e : Emission). is_number id (ids_at hearers e.id)) emissions

abbrev pub AreRecorded : List Record → List Scalar → PlaceLists → Type 0
AreRecorded records recorded lists =
    AreOf (length records + 1) (λ id (s : Scalar). s.id == id) recorded lists

abbrev pub AreFinished : List Record → List ℕ → PlaceLists → Type 0
AreFinished records finished lists = AreOf (length records + 1) (λ id f. f == id) finished lists

-- the lists of a run with the modules of these records, of which some are wanted
pub record AreOfRun (records : List Record) (finished : List ℕ) (recorded : List Scalar)
    (emissions : List Emission) (places : RunPlaces) : Type 0 where
  pub heard : AreHeard places.wanted.items records emissions places.heard.items
  pub recorded_ones : AreRecorded records recorded places.recorded.items
  pub finished_ones : AreFinished records finished places.finished.items
