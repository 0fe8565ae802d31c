-- Values of keys, read where they stand.
use Rattle.std.specs.Prelude.{◌≡◌, true, [], Option, Some, None, IfSome, Result, Ok, Err}
use Rattle.std.specs.Prelude.{is_some, slice_get}
use Rattle.std.specs.Borrow.{Bor}
use Rattle.ned_trees.specs.declared.declarations.TypeDeclaration.{TypeDeclaration}
use Rattle.param_engine.specs.Tables.{Entries, IsKept, said, value_at}
use Rattle.sim_values.specs.declared.model_fault.ModelFault.{ModelFault}
use Rattle.inside_keys.specs.declared.found.Found.{Found}
use Rattle.inside_keys.specs.declared.key.Key.{Key}
use Rattle.inside_keys.specs.Settings.{ModuleRules}
use Rattle.inside_keys.specs.Values.{rules_of}
use Rattle.model_keeping.specs.Held.{AreRight, standing}
use Rattle.model_settings.specs.Created.{rules_by}
use Rattle.model_settings.specs.Standings.{setting_of}
use Rattle.inside_run.specs.Scenes.{standing_by}
use Rattle.model_answers.specs.Insides.{Seat, maybe_inside, seat_at, seat_typed}
use Rattle.model_answers.specs.declared.keyed.Typed.{Typed}
use Rattle.model_answers.specs.declared.seats.PartAt as code_seat
use Rattle.model_answers.specs.declared.seats.Sought.{Sought}
use Rattle.model_data.specs.declared.model.Model.{Model}
use Rattle.model_questions.specs.Records.{Lineage, record_there}
use Rattle.model_answers.specs.Lines.{creations_in, site_of}
use Rattle.model_answers.specs.declared.placed.ModelValues.{ModelValues}
use Rattle.model_answers.specs.declared.placed.PlacedModule.{PlacedModule}
use Rattle.model_answers.specs.declared.reading.Sources.{Sources}
use Rattle.model_answers.specs.declared.reading.Spot.{Spot}
use Rattle.model_answers.specs.declared.reading.Spot.TheVariants.{Kept, Own}

-- what the values rest on that are asked for
abbrev pub settings_of : Sources → ModuleRules
settings_of s = rules_by s.setting.now

-- what is kept are such values
abbrev pub IsRight : Sources → Type 0
IsRight s = AreRight (settings_of s) s.kept

-- what stands at a place among those that are kept, or of the table
abbrev pub standing_at : Sources → Entries Key Found → Spot → Option Found
standing_at s own (Kept place) = standing s.kept place
standing_at s own (Own place) = value_at own place

-- what an answer says
abbrev pub spotted : Sources → Entries Key Found → Result Spot ModelFault
    → Option (Result Found ModelFault)
spotted s own (Ok spot) = said (standing_at s own spot)
spotted s own (Err f) = Some (Err f)

-- a type with its number, as the code has it
abbrev pub type_by : Option Typed → Option TypeDeclaration
type_by None = None
type_by (Some t) = Some t.declared.now

-- it is the type of that number
abbrev pub IsNumbered : ModuleRules → Typed → Type 0
IsNumbered s t = slice_get s.types t.number ≡ Some t.declared.now

-- what was found, after the reference
abbrev pub result_copied : Result (Bor Found) ModelFault → Result Found ModelFault
result_copied (Ok r) = Ok r.now
result_copied (Err f) = Err f

abbrev pub maybe_copied : Option (Result (Bor Found) ModelFault)
    → Option (Result Found ModelFault)
maybe_copied None = None
maybe_copied (Some r) = Some (result_copied r)

-- ---- a module among the parts of the module around it, as the code has it

abbrev pub maybe_seat : Option code_seat.PartAt → Option Seat
maybe_seat None = None
maybe_seat (Some t) = Some (seat_at t.of_type.now t.inside.now t.part)

-- where it is, by what was found for it
abbrev pub sought_seat : Sources → Entries Key Found → Option Sought → Option Seat
sought_seat from own None = None
sought_seat from own (Some k) =
    seat_typed (standing_by k.stands) (type_by k.of_type) (maybe_inside (spotted from own k.inside))

-- ---- modules of a run, as the code has them

-- what is kept are values of the model, where no module was created while it ran
abbrev pub AreOfModel : ModelValues → Type 0
AreOfModel v = AreRight (setting_of v.setting.now) v.kept

-- it is the module of that line, with what its values rest on
pub record StandsAt (p : PlacedModule) (m : Model) (line : Lineage) : Type 0 where
  pub there : is_some (record_there line) ≡ true
  pub site_is : p.site ≡ site_of line
  pub model_is : p.setting.model.now ≡ m
  pub created_is : p.setting.created ≡ creations_in line

-- the module of a line, where there is one
abbrev pub IsPlaced : Option PlacedModule → Model → Lineage → Type 0
IsPlaced None m line = line ≡ []
IsPlaced (Some p) m line = StandsAt p m line

-- what is kept for it are values of the model, where these modules were created
pub record IsReadable (p : PlacedModule) : Type 0 where
  pub kept_are : IfSome p.kept (AreRight (rules_by p.setting))
  pub fresh_are : IsKept (rules_of (rules_by p.setting)) p.fresh.entries
