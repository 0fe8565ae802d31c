-- What is heard at a desk.
use Rattle.std.specs.Prelude.{◌≡◌, ◌⊎◌, ℕ, List, Option, Some, None, refl}
use mathlib.Core.Logic.{inl, inr}
use Rattle.std.specs.Coded.{Coded, code_by, coded⊎, coded×, coded_list, coded_option, coded_ℕ}

-- what is heard: an answer; both files of a run, by the name of the configuration that was run;
-- what the file of a path holds, which a command names, and is read for it; or that memory ran out
pub data Heard : Type 0 where
  Answer : (text : List ℕ) → Heard
  Files : (config scalars vectors : List ℕ) → Heard
  Read : (path text : List ℕ) → Heard
  OutOfMemory : Heard

abbrev parts : Heard → Option (List ℕ ⊎ ((List ℕ × (List ℕ × List ℕ)) ⊎ (List ℕ × List ℕ)))
parts (Answer text) = Some (inl text)
parts (Files config scalars vectors) = Some (inr (inl (config, (scalars, vectors))))
parts (Read path text) = Some (inr (inr (path, text)))
parts OutOfMemory = None

abbrev whole : Option (List ℕ ⊎ ((List ℕ × (List ℕ × List ℕ)) ⊎ (List ℕ × List ℕ))) → Heard
whole (Some (inl text)) = Answer text
whole (Some (inr (inl files))) = Files files.0 files.1.0 files.1.1
whole (Some (inr (inr file))) = Read file.0 file.1
whole None = OutOfMemory

pub whole-parts : (h : Heard) → whole (parts h) ≡ h
whole-parts (Answer text) = refl
whole-parts (Files config scalars vectors) = refl
whole-parts (Read path text) = refl
whole-parts OutOfMemory = refl

-- what is heard is stored as a text, as three texts, or as two; or as nothing, where memory ran out
abbrev pub heard_code : Coded Heard
heard_code = code_by (Option (List ℕ ⊎ ((List ℕ × (List ℕ × List ℕ)) ⊎ (List ℕ × List ℕ))))
    (coded_option (coded⊎ (coded_list coded_ℕ)
    (coded⊎ (coded× (coded_list coded_ℕ) (coded× (coded_list coded_ℕ) (coded_list coded_ℕ)))
    (coded× (coded_list coded_ℕ) (coded_list coded_ℕ)))))
    parts whole whole-parts
