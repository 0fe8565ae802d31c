-- What is kept of the insides of compound modules.
use Rattle.std.proofs.Common.{◌≡◌, ℕ, List, [], ◌∷◌, ◌++◌, Option, Some, None, Result, Ok, Err, ap, append_assoc, arith, length, refl, reverse, subst, sym, ◌∙◌}
use Rattle.std.specs.List.{All}
use Rattle.ned_trees.specs.declared.declarations.TypeDeclaration.{TypeDeclaration}
use Rattle.param_engine.proofs.Entries.{known_stays}
use Rattle.param_engine.specs.Tables.{Begins, Entries, known, said}
use Rattle.inside_keys.specs.Keys.{key}
use Rattle.inside_keys.specs.Settings.{ModuleRules}
use Rattle.inside_keys.specs.Values.{rules_of, value_at}
use Rattle.inside_keys.specs.declared.found.Found.{Found}
use Rattle.inside_keys.specs.declared.found.Found.TheVariants as found
use Rattle.inside_keys.specs.declared.found.Inside.{Inside}
use Rattle.inside_keys.specs.declared.key.Key.{Key}
use Rattle.inside_keys.specs.declared.key.What.TheVariants as what
use Rattle.sim_values.specs.declared.model_fault.ModelFault.{ModelFault}
use Rattle.model_answers.specs.Insides.{inside_in, inside_of}
use Rattle.model_answers.specs.Keyed.{module_at}
use Rattle.model_answers.specs.Kept.{paths_of, IsInsideKept}

none_some : {X : Type 0} {x : X} → None ≡ Some x → ⊥
none_some h = cc

-- a module without an inside has none to be kept
pub none_kept : (s : ModuleRules) (es : Entries Key Found) (path : List ℕ) → inside_of s (module_at path) ≡ None → IsInsideKept s es path
none_kept s es path none i some = absurd (none_some (sym none ∙ some))

-- the inside that is found is kept where it is known
pub one_kept : (s : ModuleRules) (es : Entries Key Found) (path : List ℕ) (i : Inside) → inside_of s (module_at path) ≡ Some i
    → known (rules_of s).same es (key (module_at path) what.Inside) ≡ Some (found.Inside i) → IsInsideKept s es path
one_kept s es path i one is j other = is ∙ ap (λ (o : Option Inside). as_found o) (sym one ∙ other)
  where
    as_found : Option Inside → Option Found
    as_found None = None
    as_found (Some k) = Some (found.Inside k)

-- and stays so while more is found
pub kept_more : (s : ModuleRules) (es new : Entries Key Found) (path : List ℕ) → Begins es new → IsInsideKept s es path → IsInsideKept s new path
kept_more s es new path begins kept i is =
    subst (λ (l : Entries Key Found). known (rules_of s).same l (key (module_at path) what.Inside) ≡ Some (found.Inside i)) (sym begins.1)
    (known_stays (rules_of s).same es begins.0 (key (module_at path) what.Inside) (found.Inside i) (kept i is))

-- what a value says of an inside
pub value_inside : (s : ModuleRules) (path : List ℕ) (f : Found) (e : Option Found) → e ≡ Some f → said e ≡ Some (value_at s (key (module_at path) what.Inside))
    → inside_of s (module_at path) ≡ inside_in (Ok f)
value_inside s path f e is h = ap inside_or (sym h ∙ ap said is)
  where
    inside_or : Option (Result Found ModelFault) → Option Inside
    inside_or None = None
    inside_or (Some r) = inside_in r

-- the path of the network is one
pub reversed : (o : Option TypeDeclaration) → reverse (paths_of o) ≡ paths_of o
reversed None = refl
reversed (Some t) = refl

-- what begins with a table begins with what that begins with
pub begins_both : (start es new : Entries Key Found) → Begins start es → Begins es new → Begins start new
begins_both start es new one two = (one.0 ++ two.0, two.1 ∙ ap (λ l. l ++ two.0) one.1 ∙ append_assoc start one.0 two.0)

pub empty_items : (xs : List (List ℕ)) → length xs ≡ 0 → xs ≡ []
empty_items [] e = refl
empty_items (x ∷ xs) e = absurd (omega (arith, e))
