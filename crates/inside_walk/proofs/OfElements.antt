-- Elements of vectors.
use Rattle.std.proofs.Common.{◌≡◌, ℕ, suc, zero, ◌+◌, ◌-◌, ◌*◌, ◌<◌, ◌≤◌, Bool, List, ◌∷◌, Some, Result, Bor, ap, sym, subst, arith}
use Rattle.std.proofs.Math.Nat.{mul-le-mul_right}
use Rattle.inside_keys.specs.declared.found.State.{State}
use Rattle.inside_keys.specs.declared.key.Module.{Module}
use Rattle.inside_keys.specs.Inside.{Rest, element, elements}
use Rattle.inside_parts.specs.declared.fault.InsideError.{InsideError}
use Rattle.inside_parts.specs.declared.gates.TypeGates.{TypeGates}
use Rattle.ned_trees.specs.declared.declarations.Submodule.{Submodule}
use Rattle.ned_trees.specs.declared.declarations.TypeDeclaration.{TypeDeclaration}
use Rattle.inside_walk.specs.declared.task.Ground.{Ground}
use Rattle.inside_walk.specs.declared.task.Next.{Next}
use Rattle.inside_walk.specs.declared.task.Task.{Task}
use Rattle.inside_walk.specs.declared.task.Task.TheVariants as task
use Rattle.inside_walk.specs.Tasks.{Leads, continued}
use Rattle.inside_walk.proofs.Spent.{one_less}

module _ (m : Module) (types : List TypeDeclaration) (gates : List TypeGates) (whole : Bool) where
  one_element : (n all : ℕ) (l : Submodule) (s : State) (rest : Rest) → 0 < n
      → elements m types gates whole n all l s rest ≡ element m types gates whole l (Some (all - n)) s (λ t. elements m types gates whole (n - 1) all l t rest)
  one_element zero all l s rest h = absurd (omega arith)
  one_element (suc k) all l s rest h =
      let e : k ≡ suc k - 1 = omega arith in ap (λ n. element m types gates whole l (Some (all - suc k)) s (λ t. elements m types gates whole n all l t rest)) e

pub elements_leads : (g : Ground) (above ts : List Task) (l : Bor Submodule) (n all i : ℕ) (s : State) (r : Result Next InsideError) (us : List Task) → above ≡ task.Elements l (n - 1) all ∷ ts → 0 < n → i ≡ all - n
    → Leads g r us (element g.site g.types.now g.gates.now g.is_whole l.now (Some i) s (continued g above))
    → Leads g r us (elements g.site g.types.now g.gates.now g.is_whole n all l.now s (continued g ts))
elements_leads g above ts l n all i s r us is h e x =
    subst (λ t. Leads g r us t) (sym (one_element g.site g.types.now g.gates.now g.is_whole n all l.now s (continued g ts) h))
    (subst (λ k. Leads g r us (element g.site g.types.now g.gates.now g.is_whole l.now (Some k) s (continued g (task.Elements l (n - 1) all ∷ ts)))) e
    (subst (λ a. Leads g r us (element g.site g.types.now g.gates.now g.is_whole l.now (Some i) s (continued g a))) is x))

pub element_more : (n e : ℕ) → 0 < n → e + ((n - 1) * e + 1) ≤ n * e + 1
element_more n e h = let k : n * e ≡ (n - 1) * e + e = one_less n e h in omega (arith, k)

pub element_all : (n e : ℕ) → n ≤ 65536 → 0 + (n * e + 1) < 65536 * e + 3
element_all n e h = let k : n * e ≤ 65536 * e = mul-le-mul_right e h in omega (arith, k)
