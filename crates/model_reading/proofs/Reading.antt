-- The files of a model, one after the other.
use Rattle.std.proofs.Common.{◌≡◌, ℕ, zero, suc, Bool, true, false, ◌||◌, List, [], ◌∷◌, ◌++◌, Option, Some, None, is_some, IsSome, Bor, refl, sym, ap, ◌∙◌, subst, take, slice_get}
use Rattle.std.specs.List.{list_any}
use Rattle.std.specs.Option.{option_copied}
use Rattle.ned_trees.specs.declared.declarations.NedFile.{NedFile}
use Rattle.ned_syntax.specs.NedText.{IsNedFile}
use Rattle.model_reading.specs.declared.begin.BeginFault.{BeginFault}
use Rattle.model_reading.specs.declared.begin.BeginFault.TheVariants as fault
use Rattle.ned_trees.specs.declared.declarations.TypeDeclaration.{TypeDeclaration}
use Rattle.ned_inheritance.specs.declared.table.TypeFault.{TypeFault}
use Rattle.model_data.specs.declared.faults.ConfigFault.TheVariants as configs
use Rattle.ned_inheritance.specs.Building.{fault_of}
use Rattle.model_reading.specs.Models.{AreNedFiles, AreRead, RefusesFile, RefusesFiles, RefusesConfig, Refuses, RefusesTypes, is_large}

large_here : (ts : List (List ℕ)) (t : List ℕ) (o : Bool) → o ≡ true → (o || list_any is_large ts) ≡ true
large_here ts t true e = refl
large_here ts t false e = cc

large_later : (ts : List (List ℕ)) (o : Bool) → list_any is_large ts ≡ true → (o || list_any is_large ts) ≡ true
large_later ts true e = refl
large_later ts false e = e

holds_large : (ts : List (List ℕ)) (n : ℕ) (t : List ℕ) → slice_get ts n ≡ Some t → is_large t ≡ true → list_any is_large ts ≡ true
holds_large [] n t e large = cc
holds_large (u ∷ ts) zero t e large = let same : u ≡ t = cc in large_here ts t (is_large u) (ap is_large same ∙ large)
holds_large (u ∷ ts) (suc n) t e large = large_later ts (is_large u) (holds_large ts n t e large)

-- the file that was refused comes after files that are read
pub blames : (ts : List (List ℕ)) (n : ℕ) (t : List ℕ) (before : List NedFile) (f : BeginFault) → AreNedFiles (take n ts) before → slice_get ts n ≡ Some t → RefusesFile n t f → RefusesFiles ts f
blames ts n t before (fault.NedSyntax at line) declared here is = record {
  text = t;
  here = ap (slice_get ts) is.0 ∙ here;
  blamed = is.1;
  none = is.2;
  before = before;
  declared = subst (λ k. AreNedFiles (take k ts) before) (sym is.0) declared;
}
blames ts n t before fault.TooLarge declared here is = holds_large ts n t here is
blames ts n t before (fault.NoMemory _) declared here is = tt
blames ts n t before (fault.IniSyntax line reason) declared here is = absurd is
blames ts n t before (fault.Types why) declared here is = absurd is
blames ts n t before (fault.Config why) declared here is = absurd is

-- one more file
pub one_more : (ts : List (List ℕ)) (t : List ℕ) (fs : List NedFile) (f : NedFile) → AreNedFiles ts fs → IsNedFile t f → AreNedFiles (ts ++ t ∷ []) (fs ++ f ∷ [])
one_more [] t [] f are is = (is, tt)
one_more [] t (g ∷ fs) f are is = absurd are
one_more (u ∷ ts) t [] f are is = absurd are
one_more (u ∷ ts) t (g ∷ fs) f are is = (are.0, one_more ts t fs f are.1 is)

-- ---- configurations

-- why a configuration is refused, where all else is read
pub config_refused : (texts : List (List ℕ)) (ini config : List ℕ) (read : AreRead texts ini) (f : BeginFault) → RefusesConfig read.lines config f → Refuses texts ini config f
config_refused texts ini config read (fault.Config configs.NoSuchConfig) is = record { read = read; missing = is }
config_refused texts ini config read (fault.Config configs.ChainFault) is = record { read = read; exists = is.0; none = is.1 }
config_refused texts ini config read (fault.NoMemory _) is = tt
config_refused texts ini config read (fault.NedSyntax at line) is = absurd is
config_refused texts ini config read fault.TooLarge is = absurd is
config_refused texts ini config read (fault.IniSyntax line reason) is = absurd is
config_refused texts ini config read (fault.Types why) is = absurd is
config_refused texts ini config read (fault.Config configs.NoSuchNetwork) is = absurd is

-- ---- an answer by a test

pub none_copied : {T : Type 0} (o : Option (Bor T)) → is_some o ≡ false → option_copied o ≡ None
none_copied None e = refl
none_copied (Some x) e = cc

pub some_copied : {T : Type 0} (o : Option (Bor T)) → is_some o ≡ true → IsSome (option_copied o)
some_copied None e = cc
some_copied (Some x) e = refl
