-- The numbers of the loops on a stack.
use Rattle.std.proofs.Common.{◌≡◌, ℕ, suc, zero, ◌+◌, ◌-◌, ◌<◌, ◌≤◌, ℤ, List, [], ◌∷◌, ◌++◌, drop, slice_get, Option, Some, None, Bor, refl, ap, sym, ◌∙◌, arith, add-one, append_assoc}
use Rattle.std.proofs.lemmas.List.{append-nil}
use Rattle.std.specs.Option.{option_copied}
use Rattle.inside_keys.specs.Inside.{values_in}
use Rattle.inside_walk.specs.declared.task.Task.{Task}
use Rattle.inside_walk.specs.declared.task.Task.TheVariants as task
use Rattle.inside_walk.specs.Tasks.{numbers_of, scope_of}

-- what a task adds
pub numbers_first : (t : Task) (ts : List Task) → values_in (scope_of (t ∷ ts)) ≡ numbers_of t ++ values_in (scope_of ts)
numbers_first (task.Parameters m ls) ts = refl
numbers_first (task.Gates m which gs) ts = refl
numbers_first (task.Misplaced m x) ts = refl
numbers_first (task.Elements l n all) ts = refl
numbers_first (task.Submodules ls) ts = refl
numbers_first (task.Items is) ts = refl
numbers_first (task.Connections cs) ts = refl
numbers_first (task.Clauses cs b) ts = refl
numbers_first (task.Turns x z last cs b) ts = refl
numbers_first (task.End c at) ts = refl

at_front : (ts : List Task) (n : ℕ) (t : Task) → slice_get ts n ≡ Some t → drop n ts ≡ t ∷ drop (suc n) ts
at_front [] n t e = cc
at_front (u ∷ ts) zero t e = let same : u ≡ t = cc in ap (λ (x : Task). x ∷ ts) same
at_front (u ∷ ts) (suc n) t e = at_front ts n t e

at_end : (ts : List Task) (n : ℕ) → slice_get ts n ≡ None → drop n ts ≡ []
at_end [] zero e = refl
at_end [] (suc n) e = refl
at_end (u ∷ ts) zero e = cc
at_end (u ∷ ts) (suc n) e = at_end ts n e

-- the number of one more task, after those of the tasks above it
pub one_more : (ts : List Task) (n : ℕ) (zs ys : List ℤ) (r : Option (Bor Task)) (t : Bor Task) → option_copied r ≡ slice_get ts n → r ≡ Some t → ys ≡ zs ++ numbers_of t.now
    → zs ++ values_in (scope_of (drop n ts)) ≡ values_in (scope_of ts) → ys ++ values_in (scope_of (drop (n + 1) ts)) ≡ values_in (scope_of ts)
one_more ts n zs ys r t e is f h =
    ap (λ xs. xs ++ values_in (scope_of (drop (n + 1) ts))) f
    ∙ append_assoc zs (numbers_of t.now) (values_in (scope_of (drop (n + 1) ts)))
    ∙ ap (λ k. zs ++ (numbers_of t.now ++ values_in (scope_of (drop k ts)))) (add-one n)
    ∙ sym (ap (λ xs. zs ++ xs) (numbers_first t.now (drop (suc n) ts)))
    ∙ sym (ap (λ us. zs ++ values_in (scope_of us)) (at_front ts n t.now (sym e ∙ ap option_copied is)))
    ∙ h

-- and after the last there are none
pub no_more : (ts : List Task) (n : ℕ) (zs : List ℤ) (r : Option (Bor Task)) → option_copied r ≡ slice_get ts n → r ≡ None
    → zs ++ values_in (scope_of (drop n ts)) ≡ values_in (scope_of ts) → zs ≡ values_in (scope_of ts)
no_more ts n zs r e is h = sym (append-nil zs) ∙ sym (ap (λ us. zs ++ values_in (scope_of us)) (at_end ts n (sym e ∙ ap option_copied is))) ∙ h

-- one more is less far from the end
pub less : (n d : ℕ) → d < n → n - (d + 1) < n - d
less n d h = omega arith

pub up_to : (n d : ℕ) → d < n → d + 1 ≤ n
up_to n d h = omega arith
