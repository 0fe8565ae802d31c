-- Keys that are being evaluated.
use Rattle.std.specs.Prelude.{◌≡◌, ℕ, pos, Bool, true, false, not, List, [], Option, Some, None}
use Rattle.std.specs.Prelude.{Result, Ok, Err, if◌then◌else◌, slice_get}
use Rattle.std.proofs.Common.{Bor}
use Rattle.param_following.specs.Asking.{Done, Ask}
use Rattle.ned_trees.specs.declared.declarations.Submodule.{Submodule}
use Rattle.ned_trees.specs.declared.declarations.SubmoduleBody.{SubmoduleBody}
use Rattle.ned_trees.specs.declared.declarations.TypeDeclaration.{TypeDeclaration}
use Rattle.ned_types.specs.Flat.{submodule_named}
use Rattle.param_eval.specs.Evaluating.{resumed}
use Rattle.sim_values.specs.declared.value.Value.{Value}
use Rattle.sim_values.specs.declared.value.Value.TheVariants as value
use Rattle.sim_values.specs.declared.model_fault.ModelFault.TheVariants as fault
use Rattle.sim_values.specs.declared.model_fault.ModelFault.TheVariants.{NoGate, UnknownType}
use Rattle.sim_values.specs.declared.value_fault.ValueFault.TheVariants.{Unassigned}
use Rattle.inside_parts.specs.declared.fault.InsideError.{InsideError}
use Rattle.inside_parts.specs.declared.fault.InsideError.TheVariants as stop
use Rattle.inside_wiring.specs.Ends.{natural, part_named}
use Rattle.inside_keys.specs.declared.found.Found.{Found}
use Rattle.inside_keys.specs.declared.found.Found.TheVariants as found
use Rattle.inside_keys.specs.declared.key.Module.{Module}
use Rattle.inside_keys.specs.declared.key.What.{What}
use Rattle.inside_keys.specs.declared.key.What.TheVariants as what
use Rattle.inside_keys.specs.Asked.{KeyAsking, ask_then, known_then, number_then, result_then}
use Rattle.inside_keys.specs.Asked.{size_then, truth_then, value_then, valued_then}
use Rattle.inside_keys.specs.Checks.{checked}
use Rattle.inside_keys.specs.Given.{parameter_posed}
use Rattle.inside_keys.specs.Inside.{conditioned, is_vector}
use Rattle.inside_keys.specs.Keys.{key}
use Rattle.inside_keys.specs.Places.{meant_under}
use Rattle.inside_keys.specs.Settings.{ModuleRules, Whereabouts}
use Rattle.inside_keys.specs.Values.{among, asking_in, at_index, body_by, created_type}
use Rattle.inside_keys.specs.Values.{declared_asking, is}
use Rattle.inside_keys.specs.Values.{is_there, kept, of_child, carrier, posed_asking, size_of_gate}
use Rattle.inside_keys.specs.Values.{element_type, indexed_type, size_read, type_in, type_told}
use Rattle.inside_keys.specs.Channels.{with_value}
use Rattle.inside_run.specs.declared.progress.Moved.{Moved}
use Rattle.inside_run.specs.declared.progress.Moved.TheVariants as moved
use Rattle.inside_run.specs.declared.progress.KeyProgress.{KeyProgress}
use Rattle.inside_run.specs.declared.progress.KeyProgress.TheVariants as progress
use Rattle.inside_run.specs.declared.progress.Reading.{Reading}
use Rattle.inside_run.specs.declared.progress.Reading.TheVariants as reading
use Rattle.inside_run.specs.Scenes.{standing_by}
use Rattle.inside_walk.specs.Tasks.{done_with}

-- ---- what is read of a submodule

-- with the number of elements
abbrev pub counted : Module → List ℕ → Reading → ℕ → KeyAsking
counted m name (reading.Member x) n = Done (Err (fault.Value Unassigned))
counted m name (reading.Element k x) n = at_index m name x (among m n (natural k))
counted m name reading.Exists n = Done (Err (fault.Value Unassigned))
counted m name (reading.ExistsAt k) n = is (value.Truth (is_there m (among m n (natural k))))
counted m name reading.Size n = is (value.Whole (pos n))

abbrev pub counting : Module → List ℕ → Reading → KeyAsking
counting m name r = ask_then (key m (what.VectorSize name)) (λ v. size_then v (counted m name r))

-- where it is there
abbrev pub there : Module → List ℕ → Reading → KeyAsking
there m name (reading.Member x) = of_child m name None x
there m name (reading.Element k x) = counting m name (reading.Element k x)
there m name reading.Exists = is (value.Truth true)
there m name (reading.ExistsAt k) = counting m name (reading.ExistsAt k)
there m name reading.Size = counting m name reading.Size

-- where its condition doesn't hold
abbrev pub absent : Reading → KeyAsking
absent (reading.Member x) = Done (Err (fault.Value Unassigned))
absent (reading.Element k x) = Done (Err (fault.Value Unassigned))
absent reading.Exists = is (value.Truth false)
absent (reading.ExistsAt k) = is (value.Truth false)
absent reading.Size = is (value.Whole (pos 0))

-- where nothing of that kind is declared
abbrev pub unread : Reading → KeyAsking
unread (reading.Member x) = Done (Err (fault.Value Unassigned))
unread (reading.Element k x) = Done (Err (fault.Value Unassigned))
unread reading.Exists = is (value.Truth false)
unread (reading.ExistsAt k) = is (value.Truth false)
unread reading.Size = Done (Err (fault.Value Unassigned))

-- whether it is read of what is a vector, or is none
abbrev pub fits : Reading → Bool → Bool
fits (reading.Member x) vector = not vector
fits (reading.Element k x) vector = vector
fits reading.Exists vector = not vector
fits (reading.ExistsAt k) vector = vector
fits reading.Size vector = vector

abbrev pub read : Module → Reading → Option Submodule → KeyAsking
read m r None = unread r
read m r (Some l) = if fits r (is_vector l) then conditioned m l (there m l.name r) (absent r)
    else unread r

-- ---- keys

module _ (s : ModuleRules) where
  -- what is asked of a module of that type that is declared with this body
  abbrev pub bodied : Module → What → TypeDeclaration → SubmoduleBody → KeyAsking
  bodied m (what.Param x) t body = posed_asking (parameter_posed s m t body x)
  bodied m (what.Declared g) t body = declared_asking s m t g body
  bodied m _ t body = Done (Err (fault.Value Unassigned))

  -- with the type that was asked for
  abbrev pub typed : (ℕ → TypeDeclaration → KeyAsking) → Found → KeyAsking
  typed next = value_then (λ v. number_then v (λ n. known_then (slice_get s.types n) (next n)))

  -- the same, of one whose type declares it under that name
  abbrev pub body_in : Module → What → TypeDeclaration → List ℕ → ℕ → TypeDeclaration → KeyAsking
  body_in m w t name n u = bodied m w t (body_by (submodule_named name u.submodules))

  -- A type was found by its number: it is that one.
  pub record IsFound (v : Value) (n : ℕ) (t : TypeDeclaration) : Type 0 where
    pub there : slice_get s.types n ≡ Some t
    pub same : v ≡ value.Whole (pos n)
    pub leads : (next : ℕ → TypeDeclaration → KeyAsking) → typed next (found.Value v) ≡ next n t

  abbrev pub Finds : Result (ℕ × Bor TypeDeclaration) InsideError → Value → Type 0
  Finds (Ok p) v = IsFound v p.0 p.1.now
  Finds (Err (stop.Fault f)) v = (next : ℕ → TypeDeclaration → KeyAsking)
      → typed next (found.Value v) ≡ Done (Err f)
  Finds (Err (stop.Memory e)) v = Unit {0}

  -- the size of a gate, by the inside of the module around, whose submodules have these names
  abbrev pub size_from : List (List ℕ) → Whereabouts → List ℕ → Found → KeyAsking
  size_from names t g (found.Inside i) =
      result_then (part_named names i.parts t.name t.index) (size_of_gate s t g i)
  size_from names t g (found.Value v) = Done (Err NoGate)
  size_from names t g (found.Carrier c) = Done (Err NoGate)

  -- HOW A KEY GOES ON with the value that it waits for
  abbrev pub goes_on : KeyProgress → Found → KeyAsking
  goes_on (progress.OwnType m w) = typed (asking_in s m w)
  goes_on (progress.TypeAround m around name) =
      typed (λ n u. type_in s m around u (submodule_named name u.submodules))
  goes_on (progress.TypeCondition m around t l) = value_then (λ v. truth_then v
      (indexed_type s m around t.now l.now) (Done (Err UnknownType)))
  goes_on (progress.TypeSize m around t l) =
      value_then (λ v. size_then v (element_type s m around t.now l.now))
  goes_on (progress.TypePlanned name) = typed (λ n u. created_type s u name)
  goes_on (progress.BodyAround m w t name) = typed (body_in m w t.now name)
  goes_on (progress.InsideAround m t g) =
      typed (λ n u. Ask (key m what.Joined) (size_read s u (standing_by t) g))
  goes_on (progress.Joined names t g) = size_from names.now (standing_by t) g
  goes_on (progress.Condition m name r) = value_then (λ v. truth_then v (there m name r) (absent r))
  goes_on (progress.VectorSize m name r) = value_then (λ v. size_then v (counted m name r))
  goes_on progress.Same = value_then is
  goes_on (progress.Posed p) = value_then (λ v. valued_then (meant_under p.variables p.place)
      (resumed p.evaluation v) (λ u. kept (checked p.check u)))
  goes_on (progress.Chosen c) = value_then (λ v. valued_then (meant_under [] c.place)
      (resumed c.evaluation v) (type_told s c.declared.now c.parametric.now c.body.now))
  goes_on (progress.Carried c) = value_then
      (λ v. carrier c.site c.channel c.lines.now (with_value c.name.now v c.carrier c.carrier.kind))
  goes_on (progress.Inside w) = done_with w.ground w.doing w.tasks w.state
  goes_on progress.Over = value_then is

  -- where a key has come to
  abbrev pub moved_of : Moved → KeyAsking
  moved_of (moved.Asks k p) = Ask k (goes_on p)
  moved_of (moved.Done f) = Done (Ok f)

  -- it has come to where it asks this
  abbrev pub Moves : Result Moved InsideError → KeyAsking → Type 0
  Moves (Ok m) t = moved_of m ≡ t
  Moves (Err (stop.Fault f)) t = t ≡ Done (Err f)
  Moves (Err (stop.Memory e)) t = Unit {0}
