-- Sets of names that were seen stand for the lines that declare parameters of those names, or give
-- them fixed values.
use Rattle.std.proofs.Common.{◌≡◌, ℕ, Bool, true, false, not, ◌||◌, ◌&&◌, List, [], ◌∷◌, ◌++◌, refl, sym, ap, ◌∙◌, bytes_eq, Bor, if◌then◌else◌}
use Rattle.std.specs.Prelude.{is_some}
use Rattle.std.specs.List.{list_any}
use Rattle.ned_trees.specs.declared.declarations.SectionLine.{SectionLine}
use Rattle.ned_trees.specs.declared.declarations.SectionLine.TheVariants as line
use Rattle.ned_inheritance.specs.Places.{first_from}
use Rattle.ned_inheritance.specs.Seen.{names_in, is_in, AddsNames, gives_seen, sets_undeclared, is_unfit_over}
use Rattle.ned_types.specs.Types.{is_declaration, name_in, value_in, declares, is_declared, is_undeclared, is_fixed_in, is_unfit}
use Rattle.ned_inheritance.proofs.NamedLaws.{turned}
use Rattle.ned_inheritance.proofs.PlaceLaws.{first_like}
use Rattle.ned_inheritance.proofs.Repeats.{or_false, any_more, any_name, names_more}
use Rattle.ned_inheritance.proofs.WellFormedLaws.{same_names}

pub and_false : (a : Bool) → (a && false) ≡ false
and_false true = refl
and_false false = refl

-- ---- the set

-- a name is added to the others, unless it is one of them
pub seen_more : (keys more : List (Bor (List ℕ))) (k : Bor (List ℕ)) → more ≡ (if list_any (λ (y : Bor (List ℕ)). bytes_eq k.now y.now) keys then keys else keys ++ k ∷ []) → AddsNames (names_in keys) (λ n. bytes_eq k.now n) (names_in more)
seen_more keys more k now = λ n. ap (λ ks. is_in n (names_in ks)) now ∙ by n (list_any (λ (y : Bor (List ℕ)). bytes_eq k.now y.now) keys) (any_name k keys)
  where
    there : (n : List ℕ) (b : Bool) → is_in k.now (names_in keys) ≡ true → bytes_eq k.now n ≡ b → is_in n (names_in keys) ≡ (is_in n (names_in keys) || b)
    there n true e q =
        let is : is_in n (names_in keys) ≡ true = ap (λ m. is_in m (names_in keys)) (sym (same_names k.now n q)) ∙ e in
        is ∙ sym (ap (λ t. t || true) is)
    there n false e q = sym (or_false (is_in n (names_in keys)))

    by : (n : List ℕ) (c : Bool) → c ≡ is_in k.now (names_in keys) → is_in n (names_in (if c then keys else keys ++ k ∷ [])) ≡ (is_in n (names_in keys) || bytes_eq k.now n)
    by n true e = there n (bytes_eq k.now n) (sym e) refl
    by n false e = ap (is_in n) (names_more keys k) ∙ any_more k.now n (names_in keys) ∙ ap (λ t. is_in n (names_in keys) || t) (turned n k.now)

-- whether it is new
pub told_new : (keys : List (Bor (List ℕ))) (k : Bor (List ℕ)) (new : Bool) → new ≡ not (list_any (λ (y : Bor (List ℕ)). bytes_eq k.now y.now) keys) → new ≡ not (is_in k.now (names_in keys))
told_new keys k new told = told ∙ ap not (any_name k keys)

-- whether a name is there
pub looked_up : (name : List ℕ) (keys : List (Bor (List ℕ))) → list_any (λ (y : Bor (List ℕ)). bytes_eq name y.now) keys ≡ is_in name (names_in keys)
looked_up name [] = refl
looked_up name (k ∷ keys) = ap (λ t. bytes_eq name k.now || t) (looked_up name keys)

-- at first none is there
pub from_none : (keys : List (Bor (List ℕ))) (more : List (List ℕ)) (picks : List ℕ → Bool) → keys ≡ [] → AddsNames (names_in keys) picks more → (n : List ℕ) → is_in n more ≡ picks n
from_none keys more picks e adds n = adds n ∙ ap (λ ks. is_in n (names_in ks) || picks n) e

-- ---- the names of lines

pub declares_by : (n : List ℕ) (l : SectionLine) → declares n l ≡ (is_declaration l && bytes_eq (name_in l) n)
declares_by n (line.Declaration d) = refl
declares_by n (line.Assignment a) = refl
declares_by n (line.Statistic s) = refl
declares_by n (line.Class c) = refl
declares_by n line.Ignored = refl

-- ---- what is looked up

unseen_undeclared : (names : List (List ℕ)) (lines : List SectionLine) → ((n : List ℕ) → is_in n names ≡ is_declared n lines) → (l : SectionLine) → sets_undeclared names l ≡ is_undeclared lines l
unseen_undeclared names lines declared l = ap (λ t. is_some (value_in l) && not t) (declared (name_in l))

-- in the names that lines declare
pub undeclared_by : (names : List (List ℕ)) (lines : List SectionLine) → ((n : List ℕ) → is_in n names ≡ is_declared n lines) → first_from (λ l. sets_undeclared names l) 0 lines ≡ first_from (λ l. is_undeclared lines l) 0 lines
undeclared_by names lines declared = first_like (λ l. sets_undeclared names l) (λ l. is_undeclared lines l) (unseen_undeclared names lines declared) 0 lines

-- in the names that lines declare, and in those that they give fixed values
pub unfit_by : (declared fixed : List (List ℕ)) (lines : List SectionLine) → ((n : List ℕ) → is_in n declared ≡ is_declared n lines) → ((n : List ℕ) → is_in n fixed ≡ is_fixed_in n lines) → (body : List SectionLine)
    → first_from (λ l. is_unfit_over declared fixed l) 0 body ≡ first_from (λ l. is_unfit lines l) 0 body
unfit_by declared fixed lines own given body = first_like (λ l. is_unfit_over declared fixed l) (λ l. is_unfit lines l) one 0 body
  where
    one : (l : SectionLine) → is_unfit_over declared fixed l ≡ is_unfit lines l
    one l =
        ap (λ t. is_declaration l || (t || gives_seen fixed l)) (unseen_undeclared declared lines own l)
        ∙ ap (λ t. is_declaration l || (is_undeclared lines l || (is_some (value_in l) && t))) (given (name_in l))
