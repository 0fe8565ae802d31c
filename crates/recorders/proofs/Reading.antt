-- What is read by places is what is read of the whole list.
use Rattle.std.proofs.Common.{◌≡◌, ℕ, ◌+◌, ◌<◌, ◌==◌, Bool, true, false, not, ◌&&◌, ◌||◌, List, [], ◌∷◌, ◌++◌, Option, Some, ℤ, refl, sym, ap, ◌∙◌, length, drop, drop-cons, add-one, arith, append_assoc, length-append, slice_get, if◌then◌else◌, map, filter}
use Rattle.std.proofs.lemmas.Bool.Decides.{nat_tests}
use Rattle.std.proofs.lemmas.List.{append-nil}
use Rattle.std.specs.List.{flat_map, list_any}
use Rattle.std.specs.Str.{bytes_eq}
use Rattle.model_questions.specs.declared.record.Record.{Record}
use Rattle.model_data.specs.declared.model.Model.{Model}
use Rattle.model_data.specs.Models.{entries_in}
use Rattle.model_questions.specs.Records.{path_of}
use Rattle.ned_trees.specs.declared.modes.Mode.{Mode}
use Rattle.ned_trees.specs.declared.declarations.Statistic.{Statistic}
use Rattle.recorders.proofs.Noted.{found_at_end}
use Rattle.recorders.specs.ByPlaces.{lines_at_places, lines_of_type, lines_if_finished, scalars_by_places}
use Rattle.recorders.specs.declared.places.RunPlaces.{RunPlaces}
use Rattle.recorders.specs.declared.scalar_line.ScalarLine.{ScalarLine}
use Rattle.recorders.specs.Hearing.{is_within, hears}
use Rattle.recorders.specs.Places.{places_from, of_element, of_place, heard_places, places_at, value_of, is_of, is_any_of, AreOfRun}
use Rattle.recorders.specs.Scalars.{line_of, recorded_line, recorded_lines, mode_lines, statistic_lines, is_finished, statistics_at, scalars_at, scalars_from}
use Rattle.recorders.specs.Selection.{selected_modes, records_vector}
use Rattle.recorders.specs.Statistics.{values_heard}
use Rattle.recorders.specs.Vectors.{hears_any, vector_of, has_vector, vectors_among}
use Rattle.recorders.specs.declared.vector_line.VectorLine.{VectorLine}
use Rattle.run_semantics.specs.declared.traces.Emission.{Emission}
use Rattle.run_semantics.specs.declared.traces.Scalar.{Scalar}

found_behind : {A : Type 0} (all front rest : List A) (place : ℕ) (x : A) → all ≡ front ++ x ∷ rest → place ≡ length front → slice_get all place ≡ Some x
found_behind all front rest place x e n = ap (λ (k : ℕ). slice_get all k) n ∙ ap (λ (l : List _). slice_get l (length front)) e ∙ found_at_end front rest x

one_further : {A : Type 0} (front : List A) (place : ℕ) (x : A) → place ≡ length front → place + 1 ≡ length (front ++ x ∷ [])
one_further front place x n = omega (arith, length-append front (x ∷ []))

-- ---- lists

list_by : {A B : Type 0} (t : Bool) (made : A → List B) (all : List A) (place : ℕ) (x : A) (places : List ℕ) (first rest : List B) → slice_get all place ≡ Some x → (if t then made x else []) ≡ first → flat_map (of_place made all) places ≡ rest → flat_map (of_place made all) (if t then place ∷ places else places) ≡ first ++ rest
list_by true made all place x places first rest at e h = ap (λ (o : Option _). of_element made o ++ flat_map (of_place made all) places) at ∙ ap (λ (l : List _). l ++ flat_map (of_place made all) places) e ∙ ap (λ (l : List _). first ++ l) h
list_by false made all place x places first rest at e h = h ∙ ap (λ (l : List _). l ++ rest) e

read_from : {A B : Type 0} (p : A → Bool) (made whole : A → List B) → ((x : A) → (if p x then made x else []) ≡ whole x) → (all front xs : List A) (place : ℕ) → all ≡ front ++ xs → place ≡ length front → flat_map (of_place made all) (places_from place p xs) ≡ flat_map whole xs
read_from p made whole same all front [] place e n = refl
read_from p made whole same all front (x ∷ xs) place e n =
    list_by (p x) made all place x (places_from (place + 1) p xs) (whole x) (flat_map whole xs) (found_behind all front xs place x e n) (same x)
    (read_from p made whole same all (front ++ x ∷ []) xs (place + 1) (e ∙ sym (append_assoc front (x ∷ []) xs)) (one_further front place x n))

-- what is made of the elements at the places that pass a test, where the others make nothing
pub read_all : {A B : Type 0} (p : A → Bool) (made whole : A → List B) → ((x : A) → (if p x then made x else []) ≡ whole x) → (xs : List A) → flat_map (of_place made xs) (places_from 0 p xs) ≡ flat_map whole xs
read_all p made whole same xs = read_from p made whole same xs [] xs 0 refl refl

-- ---- values

heard_by : (within signal : Bool) (value : ℤ) → (if within then (if signal then value ∷ [] else []) else []) ≡ (if signal && within then value ∷ [] else [])
heard_by true true value = refl
heard_by true false value = refl
heard_by false true value = refl
heard_by false false value = refl

one_value : (t : Bool) (e : Emission) (es : List Emission) (rest : List ℤ) → rest ≡ map (λ (f : Emission). f.value) es → (if t then e.value ∷ [] else []) ++ rest ≡ map (λ (f : Emission). f.value) (if t then e ∷ es else es)
one_value true e es rest h = ap (λ (l : List ℤ). e.value ∷ l) h
one_value false e es rest h = h

values_in_turn : (p : Emission → Bool) (es : List Emission) → flat_map (λ (e : Emission). if p e then e.value ∷ [] else []) es ≡ map (λ (e : Emission). e.value) (filter p es)
values_in_turn p [] = refl
values_in_turn p (e ∷ es) = one_value (p e) e (filter p es) (flat_map (λ (f : Emission). if p f then f.value ∷ [] else []) es) (values_in_turn p es)

-- the values of the emissions of a vector's signal at the places for its module are those that it
-- hears
pub values_by_places : (records : List Record) (es : List Emission) (v : VectorLine) → flat_map (of_place (value_of v) es) (heard_places records v.id es) ≡ values_heard records es v
values_by_places records es v =
    read_all (λ (e : Emission). is_within records v.id e.id) (value_of v) (λ (e : Emission). if hears records v e then e.value ∷ [] else [])
    (λ e. heard_by (is_within records v.id e.id) (bytes_eq e.signal v.source) e.value) es
    ∙ values_in_turn (hears records v) es

-- the lines of a statistic, by the places for its module
pub statistic_by_places : (m : Model) (records : List Record) (es : List Emission) (id : ℕ) (s : Statistic) (v : VectorLine) (path name heard : List ℕ) (values : List ℤ) (modes : List Mode) → v ≡ vector_of records id s → path ≡ v.path → name ≡ s.name → heard ≡ heard_places records id es → values ≡ flat_map (of_place (value_of v) es) heard → modes ≡ selected_modes (entries_in m) path s → mode_lines (entries_in m) path name values modes ≡ statistic_lines m records es id s
unfolding statistic_lines
statistic_by_places m records es id s v path name heard values modes ev ep en eh ex em =
    let there : path ≡ path_of records id = ep ∙ ap (λ (w : VectorLine). w.path) ev in
    let read : values ≡ values_heard records es (vector_of records id s) =
    ex ∙ ap (λ (w : VectorLine). flat_map (of_place (value_of w) es) heard) ev
    ∙ ap (λ (l : List ℕ). flat_map (of_place (value_of (vector_of records id s)) es) l) eh
    ∙ values_by_places records es (vector_of records id s) in
    let chosen : modes ≡ selected_modes (entries_in m) (path_of records id) s = em ∙ ap (λ (l : List ℕ). selected_modes (entries_in m) l s) there in
    ap (λ (l : List ℕ). mode_lines (entries_in m) l name values modes) there
    ∙ ap (λ (l : List ℕ). mode_lines (entries_in m) (path_of records id) l values modes) en
    ∙ ap (λ (l : List ℤ). mode_lines (entries_in m) (path_of records id) s.name l modes) read
    ∙ ap (λ (l : List Mode). mode_lines (entries_in m) (path_of records id) s.name (values_heard records es (vector_of records id s)) l) chosen

-- ---- whether there is one

none_by : (t : Bool) (place : ℕ) (rest : List ℕ) (more : Bool) → (length rest == 0) ≡ not more → (length (if t then place ∷ rest else rest) == 0) ≡ not (t || more)
none_by true place rest more h = grind (arith, nat_tests)
none_by false place rest more h = h

none_from : {A : Type 0} (p : A → Bool) (place : ℕ) (xs : List A) → (length (places_from place p xs) == 0) ≡ not (list_any p xs)
none_from p place [] = refl
none_from p place (x ∷ xs) = none_by (p x) place (places_from (place + 1) p xs) (list_any p xs) (none_from p (place + 1) xs)

twice : (t : Bool) (lines : List ScalarLine) → (if t then (if t then lines else []) else []) ≡ (if t then lines else [])
twice true lines = refl
twice false lines = refl

turned : (t : Bool) (lines : List ScalarLine) → (if not t then [] else lines) ≡ (if t then lines else [])
turned true lines = refl
turned false lines = refl

-- the lines of a module, by its places
pub scalars_by : (m : Model) (records : List Record) (finished : List ℕ) (recorded : List Scalar) (es : List Emission) (places : RunPlaces) (id : ℕ) → AreOfRun records finished recorded es places → id < length records + 1 → scalars_by_places m records recorded es places id ≡ scalars_at m records finished recorded es id
scalars_by m records finished recorded es places id sound l =
    let first : lines_at_places m records id recorded (places_at places.recorded.items id) ≡ recorded_lines m records id recorded =
    ap (λ (at : List ℕ). lines_at_places m records id recorded at) (sound.recorded_ones.1 id l)
    ∙ read_all (λ (s : Scalar). s.id == id) (recorded_line m records id) (recorded_line m records id) (λ s. twice (s.id == id) (line_of (entries_in m) (path_of records id) s.name s.value)) recorded in
    let behind : lines_if_finished m records es id (places_at places.finished.items id) ≡ statistics_at m records finished es id =
    ap (λ (at : List ℕ). lines_if_finished m records es id at) (sound.finished_ones.1 id l)
    ∙ ap (λ (t : Bool). if t then [] else lines_of_type m records es id) (none_from (λ f. f == id) 0 finished)
    ∙ turned (is_finished finished id) (lines_of_type m records es id) in
    ap (λ (a : List ScalarLine). a ++ lines_if_finished m records es id (places_at places.finished.items id)) first
    ∙ ap (λ (b : List ScalarLine). recorded_lines m records id recorded ++ b) behind

-- one module more
pub scalars_next : (m : Model) (records : List Record) (finished : List ℕ) (recorded : List Scalar) (es : List Emission) (places : RunPlaces) (found further all : List ScalarLine) (i : ℕ) (r : Record) → AreOfRun records finished recorded es places → i < length records → further ≡ found ++ scalars_by_places m records recorded es places (i + 1) → found ++ scalars_from m records finished recorded es (i + 1) (drop i records) ≡ all → further ++ scalars_from m records finished recorded es (i + 1 + 1) (drop (i + 1) records) ≡ all
scalars_next m records finished recorded es places found further all i r sound l e h =
    let rest : List ScalarLine = scalars_from m records finished recorded es (i + 1 + 1) (drop (i + 1) records) in
    let front : further ≡ found ++ scalars_at m records finished recorded es (i + 1) =
    e ∙ ap (λ (x : List ScalarLine). found ++ x) (scalars_by m records finished recorded es places (i + 1) sound (omega arith)) in
    let behind : scalars_from m records finished recorded es (i + 1) (drop i records) ≡ scalars_at m records finished recorded es (i + 1) ++ rest =
    ap (scalars_from m records finished recorded es (i + 1)) (drop-cons records i r l)
    ∙ ap (λ (n : ℕ). scalars_at m records finished recorded es (i + 1) ++ scalars_from m records finished recorded es (i + 1 + 1) (drop n records)) (sym (add-one i)) in
    ap (λ (x : List ScalarLine). x ++ rest) front
    ∙ append_assoc found (scalars_at m records finished recorded es (i + 1)) rest
    ∙ ap (λ (x : List ScalarLine). found ++ x) (sym behind)
    ∙ h

-- ---- vectors

with_true : (b : Bool) → (b && true) ≡ b
with_true true = refl
with_true false = refl

with_false : (b : Bool) → (b && false) ≡ false
with_false true = refl
with_false false = refl

any_by : (t : Bool) (v : VectorLine) (all : List Emission) (place : ℕ) (e : Emission) (places : List ℕ) (rest : Bool) → slice_get all place ≡ Some e → is_any_of v all places ≡ rest → is_any_of v all (if t then place ∷ places else places) ≡ ((bytes_eq e.signal v.source && t) || rest)
any_by true v all place e places rest at h =
    ap (λ (o : Option Emission). is_of v o || is_any_of v all places) at ∙ ap (λ (b : Bool). bytes_eq e.signal v.source || b) h ∙ ap (λ (b : Bool). b || rest) (sym (with_true (bytes_eq e.signal v.source)))
any_by false v all place e places rest at h = h ∙ ap (λ (b : Bool). b || rest) (sym (with_false (bytes_eq e.signal v.source)))

any_from : (records : List Record) (v : VectorLine) (all front es : List Emission) (place : ℕ) → all ≡ front ++ es → place ≡ length front → is_any_of v all (places_from place (λ (e : Emission). is_within records v.id e.id) es) ≡ hears_any records es v
any_from records v all front [] place h n = refl
any_from records v all front (e ∷ es) place h n =
    any_by (is_within records v.id e.id) v all place e (places_from (place + 1) (λ (f : Emission). is_within records v.id f.id) es) (hears_any records es v) (found_behind all front es place e h n)
    (any_from records v all (front ++ e ∷ []) es (place + 1) (h ∙ sym (append_assoc front (e ∷ []) es)) (one_further front place e n))

-- a vector hears an emission if one at the places for its module is of its signal
pub any_by_places : (records : List Record) (es : List Emission) (id : ℕ) (s : Statistic) (v : VectorLine) (heard : List ℕ) → v ≡ vector_of records id s → heard ≡ heard_places records id es → is_any_of v es heard ≡ hears_any records es (vector_of records id s)
any_by_places records es id s v heard ev eh =
    ap (λ (w : VectorLine). is_any_of w es heard) ev
    ∙ ap (λ (l : List ℕ). is_any_of (vector_of records id s) es l) eh
    ∙ any_from records (vector_of records id s) es [] es 0 refl refl

-- whether a statistic has a vector, by the places for its module
has_by : (m : Model) (records : List Record) (es : List Emission) (id : ℕ) (s : Statistic) (v : VectorLine) (path heard : List ℕ) (any : Bool) → v ≡ vector_of records id s → path ≡ v.path → heard ≡ heard_places records id es → records_vector (entries_in m) path s ≡ true → is_any_of v es heard ≡ any → has_vector m records es id s ≡ any
has_by m records es id s v path heard any ev ep eh er ea =
    let there : path ≡ path_of records id = ep ∙ ap (λ (w : VectorLine). w.path) ev in
    let recorded : records_vector (entries_in m) (path_of records id) s ≡ true = ap (λ (l : List ℕ). records_vector (entries_in m) l s) (sym there) ∙ er in
    let hears : hears_any records es (vector_of records id s) ≡ any = sym (any_by_places records es id s v heard ev eh) ∙ ea in
    ap (λ (b : Bool). b && hears_any records es (vector_of records id s)) recorded ∙ hears

-- a statistic's vector, where it has one
pub vector_added : (m : Model) (records : List Record) (es : List Emission) (id : ℕ) (s : Statistic) (v : VectorLine) (path heard : List ℕ) (found : List VectorLine) → v ≡ vector_of records id s → path ≡ v.path → heard ≡ heard_places records id es → records_vector (entries_in m) path s ≡ true → is_any_of v es heard ≡ true → found ++ v ∷ [] ≡ found ++ vectors_among m records es id (s ∷ [])
vector_added m records es id s v path heard found ev ep eh er ea =
    ap (λ (w : VectorLine). found ++ w ∷ []) ev
    ∙ ap (λ (b : Bool). found ++ map (vector_of records id) (if b then s ∷ [] else [])) (sym (has_by m records es id s v path heard true ev ep eh er ea))

pub vector_left_out : (m : Model) (records : List Record) (es : List Emission) (id : ℕ) (s : Statistic) (v : VectorLine) (path heard : List ℕ) (found : List VectorLine) → v ≡ vector_of records id s → path ≡ v.path → heard ≡ heard_places records id es → records_vector (entries_in m) path s ≡ true → is_any_of v es heard ≡ false → found ≡ found ++ vectors_among m records es id (s ∷ [])
vector_left_out m records es id s v path heard found ev ep eh er ea =
    sym (append-nil found)
    ∙ ap (λ (b : Bool). found ++ map (vector_of records id) (if b then s ∷ [] else [])) (sym (has_by m records es id s v path heard false ev ep eh er ea))
