-- Laws of the lines of entries.
use Rattle.std.proofs.Common.{◌≡◌, ℕ, ◌+◌, ◌<◌, List, [], ◌∷◌, ◌++◌, length, drop, get_or, refl, sym, ap, ◌∙◌, append_assoc}
use Rattle.std.proofs.lemmas.List.{drop_more}
use Rattle.ini_trees.specs.declared.lines.IniEntry.{IniEntry}
use Rattle.ini_trees.specs.declared.lines.IniLine.{IniLine}
use Rattle.ini_trees.specs.Sections.{entries_along, entries_under}
use Rattle.ini_trees.specs.Words.{Bytes}
use Rattle.result_lines.specs.Header.{config_line, config_lines}

lines_joined : (es fs : List IniEntry) → config_lines (es ++ fs) ≡ config_lines es ++ config_lines fs
lines_joined [] fs = refl
lines_joined (e ∷ es) fs = ap (λ bs. config_line e ++ bs) (lines_joined es fs) ∙ sym (append_assoc (config_line e) (config_lines es) (config_lines fs))

-- the lines of one section more
pub section_done : (old new all : List ℕ) (es : List IniEntry) (name : Bytes) (i : ℕ) (chain : List Bytes) (lines : List IniLine) → i < length chain → name ≡ get_or chain i name → new ≡ old ++ config_lines es → es ≡ entries_under name lines
    → old ++ config_lines (entries_along (drop i chain) lines) ≡ all → new ++ config_lines (entries_along (drop (i + 1) chain) lines) ≡ all
section_done old new all es name i chain lines within is more are told =
    let rest = entries_along (drop (i + 1) chain) lines in
    ap (λ bs. bs ++ config_lines rest) more
    ∙ append_assoc old (config_lines es) (config_lines rest)
    ∙ ap (λ bs. old ++ bs) (sym (lines_joined es rest))
    ∙ ap (λ fs. old ++ config_lines (fs ++ rest)) are
    ∙ ap (λ (n : Bytes). old ++ config_lines (entries_along (n ∷ drop (i + 1) chain) lines)) is
    ∙ ap (λ (ns : List Bytes). old ++ config_lines (entries_along ns lines)) (sym (drop_more chain i name within))
    ∙ told
