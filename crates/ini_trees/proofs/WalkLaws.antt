-- Laws of the walk that finds an order of sections.
use Rattle.std.proofs.Common.{◌≡◌, inl, inr, ◌⊎◌, ℕ, zero, suc, ◌+◌, ◌<◌, ◌≤◌, Bool, true, false, List, [], ◌∷◌, ◌++◌, length, get_or, set, take, replicate, Option, Some, None, sym, ap, subst, ◌∙◌, arith}
use Rattle.std.specs.List.{Contains}
use Rattle.std.proofs.lemmas.Bool.{cases_lt, cases_eq, false≢true}
use Rattle.std.proofs.lemmas.List.{get_or_append_left, get_or_push, get_or_default, length_push, length-set, get_or-set_same, get_or-set_other, get_or_past, take-append-le, take_at, length-replicate, get_or-replicate}
use Rattle.std.proofs.lemmas.List.Elements.{All-contains, Contains-push_cases, Contains-append_left, Contains-push, Contains-get_or}
use Rattle.ini_trees.specs.Numbers.{bases_at, passed_at, is_done_at, left_to_pass, IsReached, IsOrdered, IsWithin, IsWalk, AreRows}
use Rattle.ini_trees.proofs.RowLaws.{no_depth_in_circle, no_depth_above, passes_one}

pub in_path : (path front : List ℕ) (top : ℕ) → path ≡ front ++ top ∷ [] → Contains path top
in_path path front top e = subst (λ (l : List ℕ). Contains l top) (sym e) (Contains-push front top)

pub base_below : (rows : List (Option (List ℕ))) (top b : ℕ) → AreRows rows → Contains (bases_at rows top) b → b < length rows
base_below rows top b below c = All-contains (λ x. x < length rows) (bases_at rows top) b (below top) c

-- ---- the beginning

begun_at : (n root k : ℕ) → root < n → 0 < passed_at (set (replicate n 0) root 1) k → k ≡ root
begun_at n root k h pos =
    elim (cases_eq k root) [
      | inl same ↦ same
      | inr apart ↦
          let other : passed_at (set (replicate n 0) root 1) k ≡ passed_at (replicate n 0) k = get_or-set_other (replicate n 0) root k 1 0 apart in
          let none : passed_at (replicate n 0) k ≡ 0 =
          elim (cases_lt k n) [
            | inl below ↦ get_or-replicate n k 0 0 below
            | inr past ↦ let size : length (replicate n 0) ≤ k = omega (arith, length-replicate {A = ℕ} n 0) in get_or_past (replicate n 0) k 0 size
          ] in
          absurd (omega arith)
    ]

none_done : (n k : ℕ) → is_done_at (replicate n false) k ≡ false
none_done n k =
    elim (cases_lt k n) [
      | inl below ↦ get_or-replicate n k false false below
      | inr past ↦ let size : length (replicate n false) ≤ k = omega (arith, length-replicate {A = Bool} n false) in get_or_past (replicate n false) k false size
    ]

only_one : (root k : ℕ) → Contains (root ∷ []) k → k ≡ root
only_one root k c =
    elim (Contains-push_cases [] root k c) [
      | inl none ↦ absurd (omega (arith, none.1))
      | inr same ↦ sym same
    ]

pub walk_begins : (rows : List (Option (List ℕ))) (n root : ℕ) → length rows ≡ n → root < n → IsWalk rows root (root ∷ []) (set (replicate n 0) root 1) (replicate n false) []
walk_begins rows n root size h = record {
  passed_size = length-set (replicate n 0) root 1 ∙ length-replicate n 0 ∙ sym size;
  done_size = length-replicate n false ∙ sym size;
  open_held = λ k pos waits. subst (Contains (root ∷ [])) (sym (begun_at n root k h pos)) (Contains-push [] root);
  extends = λ i more. absurd (omega arith);
  path_reached = λ k c. let same = only_one root k c in (omega arith, zero, same);
  order_reached = λ k c. absurd (omega (arith, c.1));
  ordered = λ i more. absurd (omega arith);
  done_held = λ k done. absurd (false≢true (sym (none_done n k) ∙ done));
  root_held = inl (Contains-push [] root);
}

-- ---- a section is begun

extends_more : (rows : List (Option (List ℕ))) (path front : List ℕ) (top b : ℕ) → path ≡ front ++ top ∷ [] → Contains (bases_at rows top) b → ((i : ℕ) → i + 1 < length path → Contains (bases_at rows (get_or path i 0)) (get_or path (i + 1) 0)) → (i : ℕ) → i + 1 < length (path ++ b ∷ []) → Contains (bases_at rows (get_or (path ++ b ∷ []) i 0)) (get_or (path ++ b ∷ []) (i + 1) 0)
extends_more rows path front top b e c steps i h =
    elim (cases_lt (i + 1) (length path)) [
      | inl below ↦
          let first : get_or (path ++ b ∷ []) i 0 ≡ get_or path i 0 = get_or_append_left path (b ∷ []) 0 i (omega arith) in
          let second : get_or (path ++ b ∷ []) (i + 1) 0 ≡ get_or path (i + 1) 0 = get_or_append_left path (b ∷ []) 0 (i + 1) below in
          subst (λ (n : ℕ). Contains (bases_at rows n) (get_or (path ++ b ∷ []) (i + 1) 0)) (sym first) (subst (Contains (bases_at rows (get_or path i 0))) (sym second) (steps i below))
      | inr past ↦
          let size : length path ≡ length front + 1 = ap length e ∙ length_push front top in
          let all : length (path ++ b ∷ []) ≡ length path + 1 = length_push path b in
          let at : length path ≡ i + 1 = omega arith in
          let last : length front ≡ i = omega arith in
          let first : get_or (path ++ b ∷ []) i 0 ≡ top =
          get_or_append_left path (b ∷ []) 0 i (omega arith) ∙ ap (λ (l : List ℕ). get_or l i 0) e ∙ get_or_push front top 0 i last in
          let second : get_or (path ++ b ∷ []) (i + 1) 0 ≡ b = get_or_push path b 0 (i + 1) at in
          subst (λ (n : ℕ). Contains (bases_at rows n) (get_or (path ++ b ∷ []) (i + 1) 0)) (sym first) (subst (Contains (bases_at rows top)) (sym second) c)
    ]

pub walk_begin : (rows : List (Option (List ℕ))) (root : ℕ) (path passed : List ℕ) (done : List Bool) (order front : List ℕ) (top b : ℕ) → AreRows rows → path ≡ front ++ top ∷ [] → Contains (bases_at rows top) b → IsWalk rows root path passed done order → IsWalk rows root (path ++ b ∷ []) (set passed b 1) done order
walk_begin rows root path passed done order front top b below e c w = record {
  passed_size = length-set passed b 1 ∙ w.passed_size;
  done_size = w.done_size;
  open_held = λ k pos waits.
      elim (cases_eq k b) [
        | inl same ↦ subst (Contains (path ++ b ∷ [])) (sym same) (Contains-push path b)
        | inr apart ↦
            let other : passed_at (set passed b 1) k ≡ passed_at passed k = get_or-set_other passed b k 1 0 apart in
            Contains-append_left path (b ∷ []) k (w.open_held k (omega arith) waits)
      ];
  extends = extends_more rows path front top b e c w.extends;
  path_reached = λ k held.
      elim (Contains-push_cases path b k held) [
        | inl old ↦ w.path_reached k old
        | inr same ↦
            let reached = w.path_reached top (in_path path front top e) in
            subst (IsReached rows root) same (base_below rows top b below c, suc reached.1, (top, reached.2, c))
      ];
  order_reached = w.order_reached;
  ordered = w.ordered;
  done_held = w.done_held;
  root_held = elim w.root_held [ inl held ↦ inl (Contains-append_left path (b ∷ []) root held) | inr held ↦ inr held ];
}

pub walk_pass : (rows : List (Option (List ℕ))) (root : ℕ) (path passed : List ℕ) (done : List Bool) (order front : List ℕ) (top p : ℕ) → path ≡ front ++ top ∷ [] → IsWalk rows root path passed done order → IsWalk rows root path (set passed top p) done order
walk_pass rows root path passed done order front top p e w = record {
  passed_size = length-set passed top p ∙ w.passed_size;
  done_size = w.done_size;
  open_held = λ k pos waits.
      elim (cases_eq k top) [
        | inl same ↦ subst (Contains path) (sym same) (in_path path front top e)
        | inr apart ↦
            let other : passed_at (set passed top p) k ≡ passed_at passed k = get_or-set_other passed top k p 0 apart in
            w.open_held k (omega arith) waits
      ];
  extends = w.extends;
  path_reached = w.path_reached;
  order_reached = w.order_reached;
  ordered = w.ordered;
  done_held = w.done_held;
  root_held = w.root_held;
}

-- ---- a section is done

extends_less : (rows : List (Option (List ℕ))) (path front : List ℕ) (top : ℕ) → path ≡ front ++ top ∷ [] → ((i : ℕ) → i + 1 < length path → Contains (bases_at rows (get_or path i 0)) (get_or path (i + 1) 0)) → (i : ℕ) → i + 1 < length front → Contains (bases_at rows (get_or front i 0)) (get_or front (i + 1) 0)
extends_less rows path front top e steps i h =
    let size : length path ≡ length front + 1 = ap length e ∙ length_push front top in
    let first : get_or path i 0 ≡ get_or front i 0 = ap (λ (l : List ℕ). get_or l i 0) e ∙ get_or_append_left front (top ∷ []) 0 i (omega arith) in
    let second : get_or path (i + 1) 0 ≡ get_or front (i + 1) 0 = ap (λ (l : List ℕ). get_or l (i + 1) 0) e ∙ get_or_append_left front (top ∷ []) 0 (i + 1) h in
    subst (λ (n : ℕ). Contains (bases_at rows n) (get_or front (i + 1) 0)) first (subst (Contains (bases_at rows (get_or path i 0))) second (steps i (omega arith)))

ordered_more : (rows : List (Option (List ℕ))) (order : List ℕ) (top : ℕ) → ((b : ℕ) → Contains (bases_at rows top) b → Contains order b) → IsOrdered rows order → IsOrdered rows (order ++ top ∷ [])
ordered_more rows order top held old i h base c =
    elim (cases_lt i (length order)) [
      | inl below ↦
          let at : get_or (order ++ top ∷ []) i 0 ≡ get_or order i 0 = get_or_append_left order (top ∷ []) 0 i below in
          let front : take i (order ++ top ∷ []) ≡ take i order = take-append-le i order (top ∷ []) (omega arith) in
          subst (λ (l : List ℕ). Contains l base) (sym front) (old i below base (subst (λ (n : ℕ). Contains (bases_at rows n) base) at c))
      | inr past ↦
          let all : length (order ++ top ∷ []) ≡ length order + 1 = length_push order top in
          let last : length order ≡ i = omega arith in
          let at : get_or (order ++ top ∷ []) i 0 ≡ top = get_or_push order top 0 i last in
          let front : take i (order ++ top ∷ []) ≡ order = take_at order (top ∷ []) i last in
          subst (λ (l : List ℕ). Contains l base) (sym front) (held base (subst (λ (n : ℕ). Contains (bases_at rows n) base) at c))
    ]

pub walk_finish : (rows : List (Option (List ℕ))) (root : ℕ) (path passed : List ℕ) (done : List Bool) (order front : List ℕ) (top : ℕ) → path ≡ front ++ top ∷ [] → ((b : ℕ) → Contains (bases_at rows top) b → is_done_at done b ≡ true) → IsWalk rows root path passed done order → IsWalk rows root front passed (set done top true) (order ++ top ∷ [])
walk_finish rows root path passed done order front top e all w =
    let reached = w.path_reached top (in_path path front top e) in
    let within : top < length done = omega (arith, reached.0, w.done_size) in
    record {
      passed_size = w.passed_size;
      done_size = length-set done top true ∙ w.done_size;
      open_held = λ k pos waits.
          elim (cases_eq k top) [
            | inl same ↦
                let is : is_done_at (set done top true) k ≡ true = ap (is_done_at (set done top true)) same ∙ get_or-set_same done top true false within in
                absurd (false≢true (sym waits ∙ is))
            | inr apart ↦
                let was : is_done_at done k ≡ false = sym (get_or-set_other done top k true false apart) ∙ waits in
                elim (Contains-push_cases front top k (subst (λ (l : List ℕ). Contains l k) e (w.open_held k pos was))) [
                  | inl held ↦ held
                  | inr same ↦ absurd (apart (sym same))
                ]
          ];
      extends = extends_less rows path front top e w.extends;
      path_reached = λ k held. w.path_reached k (subst (λ (l : List ℕ). Contains l k) (sym e) (Contains-append_left front (top ∷ []) k held));
      order_reached = λ k held.
          elim (Contains-push_cases order top k held) [
            | inl old ↦ w.order_reached k old
            | inr same ↦ subst (IsReached rows root) same reached
          ];
      ordered = ordered_more rows order top (λ b c. w.done_held b (all b c)) w.ordered;
      done_held = λ k is.
          elim (cases_eq k top) [
            | inl same ↦ subst (Contains (order ++ top ∷ [])) (sym same) (Contains-push order top)
            | inr apart ↦ Contains-append_left order (top ∷ []) k (w.done_held k (sym (get_or-set_other done top k true false apart) ∙ is))
          ];
      root_held =
          elim w.root_held [
            | inl held ↦
                elim (Contains-push_cases front top root (subst (λ (l : List ℕ). Contains l root) e held)) [
                  | inl old ↦ inl old
                  | inr same ↦ inr (subst (Contains (order ++ top ∷ [])) same (Contains-push order top))
                ]
            | inr held ↦ inr (Contains-append_left order (top ∷ []) root held)
          ];
    }

-- ---- there is no order

round : (rows : List (Option (List ℕ))) (path front : List ℕ) (top b : ℕ) → path ≡ front ++ top ∷ [] → Contains (bases_at rows top) b → Contains path b → ((i : ℕ) → i + 1 < length path → Contains (bases_at rows (get_or path i 0)) (get_or path (i + 1) 0)) → (k : ℕ) → Contains path k → (c : ℕ) × Contains (bases_at rows k) c × Contains path c
round rows path front top b e c held steps k at =
    let here : get_or path at.0 0 ≡ k = get_or_default path at.0 0 k at.1 ∙ at.2 in
    elim (cases_lt (at.0 + 1) (length path)) [
      | inl below ↦ (get_or path (at.0 + 1) 0, subst (λ (n : ℕ). Contains (bases_at rows n) (get_or path (at.0 + 1) 0)) here (steps at.0 below), Contains-get_or path (at.0 + 1) 0 below)
      | inr past ↦
          let size : length path ≡ length front + 1 = ap length e ∙ length_push front top in
          let last : length front ≡ at.0 = omega (arith, at.1) in
          let same : k ≡ top = sym here ∙ ap (λ (l : List ℕ). get_or l at.0 0) e ∙ get_or_push front top 0 at.0 last in
          (b, subst (λ (n : ℕ). Contains (bases_at rows n) b) (sym same) c, held)
    ]

pub walk_faults : (rows : List (Option (List ℕ))) (root : ℕ) (path passed : List ℕ) (done : List Bool) (order front : List ℕ) (top : ℕ) → path ≡ front ++ top ∷ [] → (get_or rows top None ≡ None) ⊎ ((b : ℕ) × Contains (bases_at rows top) b × (is_done_at done b ≡ false) × (0 < passed_at passed b)) → IsWalk rows root path passed done order → (d : ℕ) → IsWithin d rows root → ⊥
walk_faults rows root path passed done order front top e (inl none) w =
    let reached = w.path_reached top (in_path path front top e) in
    no_depth_above rows root top reached.1 reached.2 no_depth
  where
    no_depth : (d : ℕ) → IsWithin d rows top → ⊥
    no_depth zero v = v
    no_depth (suc d) v = let wrong : None ≡ Some v.0 = sym none ∙ v.1 in absurd cc
walk_faults rows root path passed done order front top e (inr fault) w =
    let reached = w.path_reached top (in_path path front top e) in
    let held = w.open_held fault.0 fault.3 fault.2 in
    no_depth_above rows root top reached.1 reached.2 (λ d v. no_depth_in_circle rows path (round rows path front top fault.0 e fault.1 held w.extends) d top (in_path path front top e) v)

pub walk_ends : (rows : List (Option (List ℕ))) (root : ℕ) (path passed : List ℕ) (done : List Bool) (order : List ℕ) → path ≡ [] → IsWalk rows root path passed done order → IsOrdered rows order × Contains order root × ((k : ℕ) → Contains order k → IsReached rows root k)
walk_ends rows root path passed done order e w = (w.ordered, held w.root_held, w.order_reached)
  where
    held : Contains path root ⊎ Contains order root → Contains order root
    held (inl c) = let size : length path ≡ 0 = ap length e in absurd (omega (arith, c.1))
    held (inr c) = c

-- ---- what is left

pub fewer_by_begin : (rows : List (Option (List ℕ))) (passed path : List ℕ) (b : ℕ) → b < length passed → b < length rows → passed_at passed b ≡ 0 → left_to_pass (set passed b 1) rows + left_to_pass (set passed b 1) rows + length (path ++ b ∷ []) < left_to_pass passed rows + left_to_pass passed rows + length path
fewer_by_begin rows passed path b h i none =
    let le : get_or passed b 0 ≤ length (bases_at rows b) = omega arith in
    let less : left_to_pass (set passed b 1) rows < left_to_pass passed rows = subst (λ (n : ℕ). left_to_pass (set passed b (n + 1)) rows < left_to_pass passed rows) none (passes_one passed rows b h i le) in
    omega (arith, length_push path b)

pub fewer_by_pass : (rows : List (Option (List ℕ))) (passed path : List ℕ) (top p : ℕ) → top < length passed → top < length rows → p ≡ passed_at passed top + 1 → passed_at passed top < length (bases_at rows top) → left_to_pass (set passed top p) rows + left_to_pass (set passed top p) rows + length path < left_to_pass passed rows + left_to_pass passed rows + length path
fewer_by_pass rows passed path top p h i e lt =
    let le : get_or passed top 0 ≤ length (bases_at rows top) = omega arith in
    let less : left_to_pass (set passed top p) rows < left_to_pass passed rows = subst (λ (n : ℕ). left_to_pass (set passed top n) rows < left_to_pass passed rows) (sym e) (passes_one passed rows top h i le) in
    omega arith

pub fewer_by_finish : (left : ℕ) (path front : List ℕ) (top : ℕ) → path ≡ front ++ top ∷ [] → left + left + length front < left + left + length path
fewer_by_finish left path front top e =
    let size : length path ≡ length front + 1 = ap length e ∙ length_push front top in
    omega arith
