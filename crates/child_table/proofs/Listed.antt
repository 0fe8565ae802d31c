-- Lists of submodules, where a module comes or goes.
use Rattle.std.proofs.Common.{◌≡◌, ◌≢◌, ℕ, zero, suc, ◌+◌, ◌==◌, Bool, true, false, List, [], ◌∷◌, ◌++◌, Option, Some, refl, sym, ap, ◌∙◌, arith, length, option_to_list, append-nil, eqb-true, eq-eqb, subst, true≢false, if◌then◌else◌}
use Rattle.child_table.specs.Children.{children_from, children_of, list_at, AreChildren, HasOneLess, HasOneMore}

-- the last module, where it stands in that one
abbrev pub last_in : Bool → ℕ → List ℕ
last_in here id = if here then id ∷ [] else []

children_more : (parent id : ℕ) (ps : List ℕ) (q : ℕ) → children_from parent id (ps ++ q ∷ []) ≡ children_from parent id ps ++ last_in (q == parent) (id + length ps)
children_more parent id [] q = let same : id ≡ id + 0 = omega arith in ap (λ n. if q == parent then n ∷ [] else []) same
children_more parent id (p ∷ ps) q = by (p == parent) (children_more parent (suc id) ps q)
  where
    next : suc id + length ps ≡ id + suc (length ps)
    next = omega arith

    by : (t : Bool) → children_from parent (suc id) (ps ++ q ∷ []) ≡ children_from parent (suc id) ps ++ last_in (q == parent) (suc id + length ps)
        → (if t then id ∷ children_from parent (suc id) (ps ++ q ∷ []) else children_from parent (suc id) (ps ++ q ∷ [])) ≡ (if t then id ∷ children_from parent (suc id) ps else children_from parent (suc id) ps) ++ last_in (q == parent) (id + suc (length ps))
    by true h = ap (λ xs. id ∷ xs) (h ∙ ap (λ n. children_from parent (suc id) ps ++ last_in (q == parent) n) next)
    by false h = h ∙ ap (λ n. children_from parent (suc id) ps ++ last_in (q == parent) n) next

-- in the module around it
own : (q : ℕ) (ps : List ℕ) → children_of q (ps ++ q ∷ []) ≡ children_of q ps ++ (length ps + 1) ∷ []
own q ps =
    let next : 1 + length ps ≡ length ps + 1 = omega arith in
    children_more q 1 ps q ∙ (ap (λ t. children_of q ps ++ last_in t (1 + length ps)) (eq-eqb q q refl) ∙ ap (λ n. children_of q ps ++ n ∷ []) next)

-- in another
other : (p q : ℕ) (ps : List ℕ) → p ≢ q → children_of p (ps ++ q ∷ []) ≡ children_of p ps
other p q ps ne = children_more p 1 ps q ∙ (ap (λ t. children_of p ps ++ last_in t (1 + length ps)) (unequal (q == p) refl) ∙ append-nil (children_of p ps))
  where
    unequal : (t : Bool) → (q == p) ≡ t → t ≡ false
    unequal true e = absurd (ne (sym (eqb-true q p e)))
    unequal false e = refl

-- each place is that one or another
each : (P : ℕ → Type 0) (q : ℕ) → P q → ((p : ℕ) → p ≢ q → P p) → (p : ℕ) → P p
each P q here others p = by (p == q) refl
  where
    by : (t : Bool) → (p == q) ≡ t → P p
    by true e = subst P (sym (eqb-true p q e)) here
    by false e = others p (λ same. absurd (true≢false (sym (eq-eqb p q same) ∙ e)))

-- one more module
pub pushed : (ps : List ℕ) (q id : ℕ) (old reached new : List (List ℕ)) → id ≡ length ps + 1 → AreChildren ps old → ((p : ℕ) → list_at reached p ≡ list_at old p) → HasOneMore q id reached new → AreChildren (ps ++ q ∷ []) new
pushed ps q id old reached new is h same more =
    each (λ p. list_at new p ≡ children_of p (ps ++ q ∷ [])) q
    (more.0 ∙ (ap (λ xs. xs ++ id ∷ []) (same q ∙ h q) ∙ (ap (λ n. children_of q ps ++ n ∷ []) is ∙ sym (own q ps))))
    (λ p ne. more.1 p ne ∙ (same p ∙ (h p ∙ sym (other p q ps ne))))

-- the last one is gone
pub popped : (ps : List ℕ) (q : ℕ) (old new : List (List ℕ)) → AreChildren (ps ++ q ∷ []) old → HasOneLess q old new → AreChildren ps new
popped ps q old new h less =
    let left = less (length ps + 1) (children_of q ps) (h q ∙ own q ps) in
    each (λ p. list_at new p ≡ children_of p ps) q left.0 (λ p ne. left.1 p ne ∙ (h p ∙ other p q ps ne))

-- lists that are the same
pub alike : (ps : List ℕ) (old new : List (List ℕ)) → AreChildren ps old → ((p : ℕ) → list_at new p ≡ list_at old p) → AreChildren ps new
alike ps old new h same p = same p ∙ h p

-- an empty list more changes none
pub one_empty : (lists : List (List ℕ)) (p : ℕ) → list_at (lists ++ [] ∷ []) p ≡ list_at lists p
one_empty [] zero = refl
one_empty [] (suc p) = refl
one_empty (l ∷ lists) zero = refl
one_empty (l ∷ lists) (suc p) = one_empty lists p

-- the one that was taken out
pub taken : (found : Option ℕ) (last : ℕ) (old new : List ℕ) → old ≡ new ++ option_to_list found → found ≡ Some last → old ≡ new ++ last ∷ []
taken found last old new h e = h ∙ ap (λ o. new ++ option_to_list o) e
