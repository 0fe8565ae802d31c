-- Boxes that are dropped, one id after the other.
use Rattle.std.proofs.Common.{◌≡◌, ℕ, suc, ◌+◌, ◌≤◌, ◌<◌, ◌==◌, ◌||◌, not, Bool, true, false, cond, List, [], ◌∷◌, refl, sym, ap, ◌∙◌, arith, eqb-true, map, length, drop, get_or}
use Rattle.std.proofs.Math.ListN.{drop_of_length-le}
use Rattle.std.proofs.Math.Seq.{drop-cons}
use Rattle.std.proofs.lemmas.Bool.Decides.{nat_tests}
use Rattle.std.specs.List.{filter}
use Rattle.module_api.specs.Behaviour.{Behaviour}
use Rattle.run_semantics.specs.Subtree.{among}
use Rattle.run_semantics.specs.declared.traces.Instance.{Instance}
use Rattle.kernel_boxes.specs.Seats.{BoxAt, instance_of, AreOfKinds}
use Rattle.kernel_boxes.proofs.Going.{both_pass, without}
use Rattle.kernel_boxes.proofs.Saving.{Rise}

other : (m n : ℕ) → m < n → (m == n) ≡ false
other m n h = grind (arith, nat_tests)

turned : (m n : ℕ) → (m == n) ≡ (n == m)
turned m n = grind (arith, nat_tests)

-- those of greater ids stay
greater_stay : (id from below : ℕ) (ss : List BoxAt) → Rise from below ss → id < from → filter (λ s. not (id == s.id)) ss ≡ ss
greater_stay id from below [] r h = refl
greater_stay id from below (s ∷ ss) r h = rw (other id s.id (omega (arith, h, r.0))) (ap (λ ts. s ∷ ts) (greater_stay id (suc s.id) below ss r.2 (omega (arith, h, r.0))))

-- all but the one of that id
pub one_out : (id from below : ℕ) (ss : List BoxAt) → Rise from below ss → without id ss ≡ filter (λ s. not (id == s.id)) ss
one_out id from below [] r = refl
one_out id from below (s ∷ ss) r = by (s.id == id) refl (turned id s.id) (one_out id (suc s.id) below ss r.2)
  where
    by : (t : Bool) → (s.id == id) ≡ t → (id == s.id) ≡ (s.id == id) → without id ss ≡ filter (λ s. not (id == s.id)) ss
        → cond t ss (s ∷ without id ss) ≡ cond (not (id == s.id)) (s ∷ filter (λ s. not (id == s.id)) ss) (filter (λ s. not (id == s.id)) ss)
    by true e same later =
        let at : s.id ≡ id = eqb-true s.id id e in
        sym (rw (same ∙ e) (greater_stay id (suc s.id) below ss r.2 (omega (arith, at))))
    by false e same later = sym (rw (same ∙ e) (ap (λ ts. s ∷ ts) (sym later)))

-- one id, and then the others
pub dropped_first : (id : ℕ) (ids : List ℕ) (ss : List BoxAt) → filter (λ (s : BoxAt). not (among s.id ids)) (filter (λ (s : BoxAt). not (id == s.id)) ss) ≡ filter (λ (s : BoxAt). not (among s.id (id ∷ ids))) ss
dropped_first id ids ss = both_pass (λ (s : BoxAt). not (among s.id ids)) (λ (s : BoxAt). not (id == s.id)) (λ (s : BoxAt). not (among s.id (id ∷ ids))) ss (λ s. by (id == s.id) (among s.id ids))
  where
    by : (a c : Bool) → not (a || c) ≡ cond (not a) (not c) false
    by true c = refl
    by false c = refl

pub dropped_last : (ss : List BoxAt) → filter (λ (s : BoxAt). not (among s.id [])) ss ≡ ss
dropped_last [] = refl
dropped_last (s ∷ ss) = ap (λ ts. s ∷ ts) (dropped_last ss)

-- ---- what is left

pub kinds_left : (b : Behaviour) (p : BoxAt → Bool) (ss : List BoxAt) → AreOfKinds b ss → AreOfKinds b (filter p ss)
kinds_left b p [] h = tt
kinds_left b p (s ∷ ss) h = by (p s) (kinds_left b p ss h.1)
  where
    by : (t : Bool) → AreOfKinds b (filter p ss) → AreOfKinds b (cond t (s ∷ filter p ss) (filter p ss))
    by true later = (h.0, later)
    by false later = later

pub instances_left : (ids : List ℕ) (ss : List BoxAt) → map instance_of (filter (λ (s : BoxAt). not (among s.id ids)) ss) ≡ filter (λ (i : Instance). not (among i.id ids)) (map instance_of ss)
instances_left ids [] = refl
instances_left ids (s ∷ ss) = by (not (among s.id ids)) (instances_left ids ss)
  where
    by : (t : Bool) → map instance_of (filter (λ (s : BoxAt). not (among s.id ids)) ss) ≡ filter (λ (i : Instance). not (among i.id ids)) (map instance_of ss)
        → map instance_of (cond t (s ∷ filter (λ (s : BoxAt). not (among s.id ids)) ss) (filter (λ (s : BoxAt). not (among s.id ids)) ss)) ≡ cond t (instance_of s ∷ filter (λ (i : Instance). not (among i.id ids)) (map instance_of ss)) (filter (λ (i : Instance). not (among i.id ids)) (map instance_of ss))
    by true later = ap (λ is. instance_of s ∷ is) later
    by false later = later

-- ---- the ids that are left of a list

pub next_of : (xs : List ℕ) (i : ℕ) → i < length xs → drop i xs ≡ get_or xs i 0 ∷ drop (i + 1) xs
next_of xs i less = let next : suc i ≡ i + 1 = omega arith in drop-cons xs i 0 less ∙ ap (λ n. get_or xs i 0 ∷ drop n xs) next

pub none_of_them : (xs : List ℕ) (i : ℕ) → length xs ≤ i → drop i xs ≡ []
none_of_them xs i past = drop_of_length-le xs past
