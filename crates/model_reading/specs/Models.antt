-- The model that texts make, and why texts make none.
use Rattle.std.specs.Prelude.{◌≡◌, ℕ, Bool, true, false, ◌||◌, List, [], ◌∷◌, Some, None, IsSome}
use Rattle.std.specs.Prelude.{length, nat_lt, slice_get, take}
use Rattle.std.specs.List.{list_any}
use Rattle.sim_values.specs.Memory.{no_memory}
use Rattle.ini_trees.specs.declared.lines.IniLine.{IniLine}
use Rattle.ini_entries.specs.declared.reason.Reason.{Reason}
use Rattle.ini_config.specs.Meaning.{IsIniText, FirstBad}
use Rattle.ini_trees.specs.Sections.{IsChain, is_section}
use Rattle.model_data.specs.declared.faults.ConfigFault.TheVariants as configs
use Rattle.model_data.specs.declared.model.Model.{Model}
use Rattle.model_data.specs.Models.{network_of}
use Rattle.sim_values.specs.Limits.{max_length}
use Rattle.ned_tokens.specs.Viable.{IsFirstBadLine}
use Rattle.ned_trees.specs.declared.declarations.NedFile.{NedFile}
use Rattle.ned_trees.specs.declared.declarations.TypeDeclaration.{TypeDeclaration}
use Rattle.ned_syntax.specs.Grammar.{file}
use Rattle.ned_syntax.specs.NedText.{IsNedFile}
use Rattle.ned_inheritance.specs.declared.table.TypeFault.{TypeFault}
use Rattle.ned_scopes.specs.Scopes.{types_of}
use Rattle.ned_inheritance.specs.Inheritance.{flat_types}
use Rattle.ned_inheritance.specs.Building.{fault_of}
use Rattle.model_reading.specs.declared.begin.BeginFault.{BeginFault}
use Rattle.model_reading.specs.declared.begin.BeginFault.TheVariants as fault

-- ---- size

abbrev pub is_large : List ℕ → Bool
is_large bytes = nat_lt max_length (length bytes)

-- there are more than 256 NED texts, or a text is longer than 1 MiB
abbrev pub is_too_large : List (List ℕ) → List ℕ → Bool
is_too_large texts ini = (nat_lt 256 (length texts) || list_any is_large texts) || is_large ini

-- ---- the model

-- a file for each text, which declares what the text says
abbrev pub AreNedFiles : List (List ℕ) → List NedFile → Type 0
AreNedFiles [] [] = Unit {0}
AreNedFiles [] (f ∷ fs) = ⊥
AreNedFiles (t ∷ ts) [] = ⊥
AreNedFiles (t ∷ ts) (f ∷ fs) = IsNedFile t f × AreNedFiles ts fs

-- The texts are read, and their types go together.
pub record AreRead (texts : List (List ℕ)) (ini : List ℕ) : Type 0 where
  pub small : is_too_large texts ini ≡ false
  pub files : List NedFile
  pub declared : AreNedFiles texts files
  pub lines : List IniLine
  pub said : IsIniText ini lines
  pub together : fault_of (types_of files) ≡ None

-- The model has what the texts say as its files, the flat types of these, and the chain of the
-- configuration, whose section is there; and no injection.
pub record IsReadAs (texts : List (List ℕ)) (ini config : List ℕ) (m : Model) : Type 0 where
  pub read : AreRead texts ini
  pub files : m.files ≡ read.files
  pub types : m.types ≡ flat_types (types_of m.files)
  pub lines : m.ini ≡ read.lines
  pub selected : m.config ≡ config
  pub exists : is_section config read.lines ≡ true
  pub chained : IsChain read.lines config m.chain
  pub outside : m.injections ≡ []
  pub unused : m.last_injection ≡ 0

-- THE MODEL of these texts and that configuration
pub record IsModelOf (texts : List (List ℕ)) (ini config : List ℕ) (m : Model) : Type 0 where
  pub read : IsReadAs texts ini config m
  pub network : IsSome (network_of m)

-- ---- refusals

-- of the file of that number
abbrev pub RefusesFile : ℕ → List ℕ → BeginFault → Type 0
RefusesFile number bytes (fault.NedSyntax at line) =
    (at ≡ number) × IsFirstBadLine file bytes line
    × ((declared : NedFile) → IsNedFile bytes declared → ⊥)
RefusesFile number bytes fault.TooLarge = is_large bytes ≡ true
RefusesFile number bytes (fault.NoMemory _) = Unit {0}
RefusesFile number bytes _ = ⊥

-- The text of that number is no NED file, and this is its first line that can't go on; those before
-- it are NED files.
pub record IsBlamed (texts : List (List ℕ)) (at line : ℕ) : Type 0 where
  pub text : List ℕ
  pub here : slice_get texts at ≡ Some text
  pub blamed : IsFirstBadLine file text line
  pub none : (declared : NedFile) → IsNedFile text declared → ⊥
  pub before : List NedFile
  pub declared : AreNedFiles (take at texts) before

abbrev pub RefusesFiles : List (List ℕ) → BeginFault → Type 0
RefusesFiles texts (fault.NedSyntax at line) = IsBlamed texts at line
RefusesFiles texts fault.TooLarge = list_any is_large texts ≡ true
RefusesFiles texts (fault.NoMemory _) = Unit {0}
RefusesFiles texts _ = ⊥

abbrev pub RefusesIni : List ℕ → BeginFault → Type 0
RefusesIni bytes (fault.IniSyntax line reason) = FirstBad line reason bytes
RefusesIni bytes fault.TooLarge = is_large bytes ≡ true
RefusesIni bytes (fault.NoMemory _) = Unit {0}
RefusesIni bytes _ = ⊥

abbrev pub RefusesTypes : List TypeDeclaration → BeginFault → Type 0
RefusesTypes declared (fault.Types why) = fault_of declared ≡ Some why
RefusesTypes declared (fault.NoMemory _) = Unit {0}
RefusesTypes declared _ = ⊥

-- The NED texts are read, and the ini text's first bad line is this one, which is refused for this
-- reason.
pub record IsIniBlamed (texts : List (List ℕ)) (ini : List ℕ) (line : ℕ) (reason : Reason)
    : Type 0 where
  pub files : List NedFile
  pub declared : AreNedFiles texts files
  pub blamed : FirstBad line reason ini

-- The texts are read, and their types don't go together.
pub record AreApart (texts : List (List ℕ)) (ini : List ℕ) (why : TypeFault) : Type 0 where
  pub files : List NedFile
  pub declared : AreNedFiles texts files
  pub lines : List IniLine
  pub said : IsIniText ini lines
  pub apart : fault_of (types_of files) ≡ Some why

-- The texts are read, and the ini text has no configuration of that name.
pub record IsNotSelected (texts : List (List ℕ)) (ini config : List ℕ) : Type 0 where
  pub read : AreRead texts ini
  pub missing : is_section config read.lines ≡ false

-- The texts are read, and the configuration extends what it can't, so that it has no chain.
pub record HasNoChain (texts : List (List ℕ)) (ini config : List ℕ) : Type 0 where
  pub read : AreRead texts ini
  pub exists : is_section config read.lines ≡ true
  pub none : (chain : List (List ℕ)) → IsChain read.lines config chain → ⊥

-- why the lines make no configuration of that name
abbrev pub RefusesConfig : List IniLine → List ℕ → BeginFault → Type 0
RefusesConfig lines config (fault.Config configs.NoSuchConfig) = is_section config lines ≡ false
RefusesConfig lines config (fault.Config configs.ChainFault) =
    (is_section config lines ≡ true) × ((chain : List (List ℕ)) → IsChain lines config chain → ⊥)
RefusesConfig lines config (fault.NoMemory _) = Unit {0}
RefusesConfig lines config _ = ⊥

-- There is a model but for its network.
pub record HasNoNetwork (texts : List (List ℕ)) (ini config : List ℕ) : Type 0 where
  pub model : Model
  pub read : IsReadAs texts ini config model
  pub none : network_of model ≡ None

-- Each refusal but lack of memory has its reason, and no reason that comes before it.
abbrev pub Refuses : List (List ℕ) → List ℕ → List ℕ → BeginFault → Type 0
Refuses texts ini config fault.TooLarge = is_too_large texts ini ≡ true
Refuses texts ini config (fault.NedSyntax at line) =
    (is_too_large texts ini ≡ false) × IsBlamed texts at line
Refuses texts ini config (fault.IniSyntax line reason) =
    (is_too_large texts ini ≡ false) × IsIniBlamed texts ini line reason
Refuses texts ini config (fault.Types why) =
    (is_too_large texts ini ≡ false) × AreApart texts ini why
Refuses texts ini config (fault.Config configs.NoSuchConfig) = IsNotSelected texts ini config
Refuses texts ini config (fault.Config configs.ChainFault) = HasNoChain texts ini config
Refuses texts ini config (fault.Config configs.NoSuchNetwork) = HasNoNetwork texts ini config
Refuses texts ini config (fault.NoMemory _) = Unit {0}

-- Where the texts make a model, nothing refuses them but lack of memory.
abbrev pub IsRuledOut : List (List ℕ) → List ℕ → List ℕ → BeginFault → Type 0
IsRuledOut texts ini config f = (m : Model) → IsModelOf texts ini config m
    → f ≡ fault.NoMemory no_memory

-- The texts make this model, and no other.
abbrev pub IsOnlyModelOf : List (List ℕ) → List ℕ → List ℕ → Model → Type 0
IsOnlyModelOf texts ini config m = (other : Model) → IsModelOf texts ini config other → other ≡ m
