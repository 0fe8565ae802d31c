use Rattle.std.proofs.Common.{◌≡◌, ℕ, ◌∷◌, [], List, pos, negsuc, true, codes}
use Rattle.param_following.specs.Following.{followed}
use Rattle.ned_trees.specs.declared.declarations.GateLine.{GateLine}
use Rattle.ned_trees.specs.declared.declarations.SectionLine.{SectionLine}
use Rattle.sim_values.specs.declared.value.Value.TheVariants as value
use Rattle.ini_entries.specs.Names.{begins_name, goes_on_name}
use Rattle.ini_entries.specs.Texts.{parts_at}
use Rattle.ned_tokens.specs.Words.{head_word, keyword_of, member_word, section_word, value_word}
use Rattle.inside_keys.specs.declared.key.What.{What}
use Rattle.inside_keys.specs.declared.key.What.TheVariants as what
use Rattle.inside_keys.specs.declared.planned.Planned.{Planned}
use Rattle.inside_keys.specs.CreatedExamples.{created_so, fixed, found_of, sized, the_created}
use Rattle.inside_keys.specs.Keys.{key}
use Rattle.inside_keys.proofs.Literals.{asks, followed_so, rules_by}
use Rattle.inside_keys.proofs.laws.worked_creations.Goals as goal

abbrev plan : List ℕ → List SectionLine → List GateLine → Planned
plan name lines gates = record { type_name = name; body = record { lines = lines; gates = gates } }

row : (name : List ℕ) (lines : List SectionLine) (gates : List GateLine) (w : What)
    → found_of name lines gates w ≡ followed (rules_by (created_so (plan name lines gates)) (λ j. asks (created_so (plan name lines gates)) j.site j.what)) 8 (key the_created w)
row name lines gates w = followed_so (created_so (plan name lines gates)) 8 (key the_created w)

pub returns : goal.returns
unfolding parts_at begins_name goes_on_name keyword_of head_word section_word member_word value_word
returns c = record {
  inner = row (codes "Worker") [] [] what.Type;
  global = row (codes "Other") [] [] what.Type;
  packaged = row (codes "old.Other") [] [] what.Type;
  interface = row (codes "Host") [] [] what.Type;
  unknown = row (codes "Nothing") [] [] what.Type;
  no_name = row (codes "Other..") [] [] what.Type;
  fixed_value = row (codes "Worker") (fixed (codes "count") (value.Whole (pos 3)) ∷ []) [] (what.Param (codes "count"));
  before_fixed = row (codes "Worker") (fixed (codes "pace") (value.Whole (pos 5)) ∷ []) [] (what.Param (codes "pace"));
  of_type = row (codes "Worker") [] [] (what.Param (codes "pace"));
  given_nowhere = row (codes "Worker") [] [] (what.Param (codes "count"));
  wrong_kind = row (codes "Worker") (fixed (codes "count") (value.Truth true) ∷ []) [] (what.Param (codes "count"));
  size_given = row (codes "Worker") [] (sized (codes "in") (pos 4) ∷ []) (what.GateSize (codes "in"));
  size_open = row (codes "Worker") [] [] (what.GateSize (codes "in"));
  size_below = row (codes "Worker") [] (sized (codes "in") (negsuc 0) ∷ []) (what.GateSize (codes "in"));
  size_above = row (codes "Worker") [] (sized (codes "in") (pos 65537) ∷ []) (what.GateSize (codes "in"));
}
