-- The texts of files, in the order of their paths.
use Rattle.std.specs.Prelude.{ℕ, ◌<◌, List, [], ◌∷◌, String, string_bytes}
use Rattle.input_texts.specs.declared.folder.FolderFault.{FolderFault}
use Rattle.input_texts.specs.declared.folder.FolderFault.TheVariants as faults

-- As many texts as paths, and each is that of the file of the path in its place.
abbrev pub AreTextsOf : {A : Type 0} → (List ℕ → List ℕ → Type 0) → List (String A)
    → List (List ℕ) → Type 0
AreTextsOf Gave [] [] = Unit {0}
AreTextsOf Gave [] (text ∷ texts) = ⊥
AreTextsOf Gave (path ∷ paths) [] = ⊥
AreTextsOf Gave (path ∷ paths) (text ∷ texts) =
    Gave (string_bytes path) text × AreTextsOf Gave paths texts

-- the file that can't be read is one of so many
abbrev pub IsWithin : ℕ → FolderFault → Type 0
IsWithin count (faults.Failed number error) = number < count
IsWithin count (faults.NoMemory _) = Unit {0}
