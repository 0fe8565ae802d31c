-- What a run stores that waited and goes on: the same as one that did not wait.
use Rattle.std.proofs.Common.{◌≡◌, ⊎_elim, eq-or-lt_of_le, ℕ, zero, suc, ◌+◌, ◌-◌, ◌≤◌, ◌<◌, Bool, true, false, List, [], ◌∷◌, ◌++◌, Option, Some, None, refl, sym, ap, ◌∙◌, arith, subst}
use Rattle.checkpoints.specs.Stored.{begun, ends_at, is_multiple, with_count, Timeline}
use Rattle.module_api.specs.Behaviour.{Behaviour}
use Rattle.model_questions.specs.Answers.{Answers}
use Rattle.run_semantics.specs.Run.{Ran, run_to, is_fault}
use Rattle.checkpoint_runs.specs.declared.phases.Resumed.{Resumed}
use Rattle.checkpoint_runs.specs.declared.phases.Stood.{Stood}
use Rattle.checkpoint_runs.specs.declared.phases.Stood.TheVariants as stood
use Rattle.checkpoint_runs.specs.Positions.{behind, cut, first_behind, is_left, last_count, lasting, numbers_from, passed, positions_after, positions_begun, positions_left, positions_onwards, start_of, starts_within, up_to_event, with_last, CanGoOn, HasStored}
use Rattle.checkpoint_runs.proofs.Counting.{again, behind_next, cut_below, cut_ends, left_onwards, left_stored, passed_not, setup_begins, setup_onwards, start_within}
use Rattle.checkpoint_runs.proofs.Back.{less_up_to}
use Rattle.checkpoint_runs.proofs.Going.{run_least}

-- ---- one after the other

numbers_both : (first j k : ℕ) → numbers_from first (j + k) ≡ numbers_from first j ++ numbers_from (first + j) k
numbers_both first zero k = let e : first ≡ first + 0 = omega arith in let z : 0 + k ≡ k = omega arith in ap (numbers_from first) z ∙ ap (λ n. numbers_from n k) e
numbers_both first (suc j) k = let e : suc first + j ≡ first + suc j = omega arith in let z : suc j + k ≡ suc (j + k) = omega arith in ap (numbers_from first) z ∙ ap (λ ns. first ∷ ns) (numbers_both (suc first) j k ∙ ap (λ n. numbers_from (suc first) j ++ numbers_from n k) e)

behind_both : (due : ℕ → ℕ → Bool) (t : Timeline ℕ) (xs ys : List ℕ) → behind due (behind due t xs) ys ≡ behind due t (xs ++ ys)
behind_both due t [] ys = refl
behind_both due t (x ∷ xs) ys = behind_both due (passed due t x) xs ys

first_within : (from : Option ℕ) (k : ℕ) → starts_within from k → first_behind from ≤ suc k
first_within None k h = omega arith
first_within (Some s) k h = omega (arith, h)

-- those up to one event, and then those up to a later one
pub begun_onwards : (old : Timeline ℕ) (from : Option ℕ) (j k : ℕ) → starts_within from j → j ≤ k
    → behind is_multiple (positions_begun old from (suc j - first_behind from)) (numbers_from (suc j) (k - j)) ≡ positions_begun old from (suc k - first_behind from)
begun_onwards old from j k h l =
    let first : ℕ = first_behind from in
    let g : first ≤ suc j = first_within from j h in
    let next : suc j ≡ first + (suc j - first) = omega (arith, g) in
    let all : (suc j - first) + (k - j) ≡ suc k - first = omega (arith, g, l) in
    ap (λ n. behind is_multiple (positions_begun old from (suc j - first)) (numbers_from n (k - j))) next
    ∙ behind_both is_multiple (cut from old) (numbers_from first (suc j - first)) (numbers_from (first + (suc j - first)) (k - j))
    ∙ ap (behind is_multiple (cut from old)) (sym (numbers_both first (suc j - first) (k - j)))
    ∙ ap (λ n. behind is_multiple (cut from old) (numbers_from first n)) all

-- ---- a run that is done

lasting_least : (f : Bool) (k last : ℕ) → k ≤ last → (f ≡ true → k < last) → k ≤ lasting f last
lasting_least true k last l g = let e = g refl in omega (arith, e)
lasting_least false k last l g = l

-- what it leaves, in one go
left_begun : (limit : ℕ) (old : Timeline ℕ) (from : Option ℕ) (last : ℕ) (f : Bool) → start_of limit old.stored ≡ from → starts_within from last → (f ≡ true → 0 < last) → ((s : ℕ) → from ≡ Some s → f ≡ true → s < last)
    → positions_left old from last f ≡ with_last last f (positions_begun old from (suc (lasting f last) - first_behind from))
left_begun limit old None last f e h g later =
    let i : ℕ = old.first in
    let d : lasting f last - 0 ≡ lasting f last = omega arith in
    let a : suc (lasting f last) ≡ suc (lasting f last) - 0 = omega arith in
    sym (setup_onwards i last f g)
    ∙ ap (λ n. with_last last f (behind is_multiple (with_count 0 (begun i)) (numbers_from 1 n))) d
    ∙ ap (with_last last f) (setup_begins i (lasting f last))
    ∙ ap (λ n. with_last last f (behind is_multiple (begun i) (numbers_from 0 n))) a
left_begun limit old (Some s) last f e h g later =
    let d : suc last - suc s ≡ last - s = omega arith in
    let a : lasting f last - s ≡ suc (lasting f last) - suc s = omega arith in
    ap (λ n. behind (is_left last f) (cut (Some s) old) (numbers_from (suc s) n)) d
    ∙ left_onwards s last f (cut (Some s) old) h (later s refl) (cut_below s old) (cut_ends limit s old e)
    ∙ ap (λ n. with_last last f (behind is_multiple (cut (Some s) old) (numbers_from (suc s) n))) a

pub within_more : (from : Option ℕ) (k n : ℕ) → starts_within from k → k ≤ n → starts_within from n
within_more None k n h l = tt
within_more (Some s) k n h l = omega (arith, h, l)

within_some : (from : Option ℕ) (k n s : ℕ) → starts_within from k → k < n → from ≡ Some s → s < n
within_some None k n s h l e = cc
within_some (Some j) k n s h l e = let same : j ≡ s = cc in omega (arith, h, l, same)

onwards_left : (limit : ℕ) (old : Timeline ℕ) (from : Option ℕ) (k last : ℕ) (f : Bool) → start_of limit old.stored ≡ from → starts_within from k → k ≤ last → (f ≡ true → k < last)
    → positions_onwards (positions_begun old from (suc k - first_behind from)) k last f ≡ positions_left old from last f
onwards_left limit old from k last f e h l g =
    let upto : k ≤ lasting f last = lasting_least f k last l g in
    ap (with_last last f) (begun_onwards old from k (lasting f last) h upto)
    ∙ sym (left_begun limit old from last f e (within_more from k last h l) (λ t. let a = g t in omega (arith, a)) (λ s is t. within_some from k last s h (g t) is))

-- by what it left: the run to that limit has so many events
left_after : (b : Behaviour) (m : Answers) (limit : ℕ) (r : Resumed) (old : Timeline ℕ) → start_of limit old.stored ≡ r.from → starts_within r.from r.count → r.count ≤ (run_to b m limit).world.count → (is_fault (run_to b m limit).outcome ≡ true → r.count < (run_to b m limit).world.count)
    → positions_after b m limit (Some r) (positions_begun old r.from (suc r.count - first_behind r.from)) ≡ positions_after b m limit None old
left_after b m limit r old e h l g =
    let ran : Ran = run_to b m limit in
    onwards_left limit old r.from r.count ran.world.count (is_fault ran.outcome) e h l g
    ∙ ap (λ o. positions_left old o ran.world.count (is_fault ran.outcome)) (sym e)

pub after_onwards : (b : Behaviour) (m : Answers) (limit : ℕ) (r : Resumed) (old : Timeline ℕ) → CanGoOn b m r.count → r.count ≤ limit → start_of limit old.stored ≡ r.from → starts_within r.from r.count
    → positions_after b m limit (Some r) (positions_begun old r.from (suc r.count - first_behind r.from)) ≡ positions_after b m limit None old
after_onwards b m limit r old going l e h = let least = run_least b m limit r.count going l in left_after b m limit r old e h least.0 least.1

-- ---- a run that was given up

-- where its last one could not be taken it is not due, or comes after where it went on
untaken : (old : Timeline ℕ) (from : Option ℕ) (k j : ℕ) (new : Timeline ℕ) → starts_within from k → k ≤ j → new ≡ behind is_multiple (positions_begun old from (suc k - first_behind from)) (numbers_from (suc k) (j - suc k)) → ends_at j new.stored ≡ false
    → new ≡ positions_begun old from (j - first_behind from)
untaken old from k j new h l is none =
    ⊎_elim (λ (e : k ≡ j). here e) (λ (g : k < j). later g) (eq-or-lt_of_le l)
  where
    first : ℕ
    first = first_behind from

    first_is : first ≤ suc k
    first_is = first_within from k h

    later : k < j → new ≡ positions_begun old from (j - first)
    later g =
        let d : j - suc k ≡ (j - 1) - k = omega (arith, g) in
        let u : suc (j - 1) - first ≡ j - first = omega (arith, g) in
        is ∙ ap (λ n. behind is_multiple (positions_begun old from (suc k - first)) (numbers_from (suc k) n)) d
        ∙ begun_onwards old from k (j - 1) h (omega (arith, g))
        ∙ ap (positions_begun old from) u

    here : k ≡ j → new ≡ positions_begun old from (j - first)
    here e =
        let z : j - suc k ≡ 0 = omega (arith, e) in
        let same : new ≡ positions_begun old from (suc k - first) = is ∙ ap (λ n. behind is_multiple (positions_begun old from (suc k - first)) (numbers_from (suc k) n)) z in
        ⊎_elim
        (λ (f : first ≡ suc k). let n : suc k - first ≡ j - first = omega (arith, e, f) in same ∙ ap (positions_begun old from) n)
        (λ (f : first < suc k). let n : suc k - first ≡ suc (j - first) = omega (arith, e, f) in let at : first + (j - first) ≡ j = omega (arith, e, f) in
        let u : Timeline ℕ = positions_begun old from (j - first) in
        let one : new ≡ passed is_multiple u j = same ∙ ap (positions_begun old from) n ∙ behind_next is_multiple (cut from old) first (j - first) ∙ ap (passed is_multiple u) at in
        one ∙ passed_not j u (ap (λ (t : Timeline ℕ). ends_at j t.stored) (sym one) ∙ none))
        (eq-or-lt_of_le first_is)

pub stored_onwards : (b : Behaviour) (m : Answers) (limit : ℕ) (r : Resumed) (old : Timeline ℕ) (at : Stood) (new : Timeline ℕ) → start_of limit old.stored ≡ r.from → starts_within r.from r.count
    → HasStored b m limit (Some r) (positions_begun old r.from (suc r.count - first_behind r.from)) at new → HasStored b m limit None old at new
stored_onwards b m limit r old stood.Before new e w h = absurd h
stored_onwards b m limit r old (stood.After k) new e w h = record {
  going = h.going;
  limited = h.limited;
  within = subst (λ (o : Option ℕ). starts_within o k) (sym e) (within_more r.from r.count k w h.grew);
  positions = subst (λ (o : Option ℕ). new ≡ positions_begun old o (suc k - first_behind o)) (sym e) (h.counts ∙ begun_onwards old r.from r.count k w h.grew);
}
stored_onwards b m limit r old (stood.Untaken k) new e w h = record {
  going = h.0.going;
  limited = h.0.limited;
  within = subst (λ (o : Option ℕ). starts_within o k) (sym e) (within_more r.from r.count k w h.0.grew);
  positions = subst (λ (o : Option ℕ). new ≡ positions_begun old o (k - first_behind o)) (sym e) (untaken old r.from r.count k new w h.0.grew h.0.counts h.1);
}
stored_onwards b m limit r old stood.Ending new e w h = h.counts ∙ left_after b m limit r old e w h.grew h.faulted

-- ---- where it began

-- the same of each limit from there on
pub start_within_cut : (limit k : ℕ) (old : Timeline ℕ) (from : Option ℕ) → start_of k old.stored ≡ from → cut from old ≡ old → k ≤ limit → start_of limit old.stored ≡ from
start_within_cut limit k old None e c l = ap (λ (t : Timeline ℕ). start_of limit t.stored) (sym c)
start_within_cut limit k old (Some s) e c l =
    let g : s ≤ k = start_within k old.stored s e in
    ap (λ (t : Timeline ℕ). start_of limit t.stored) (sym c)
    ∙ ap (start_of limit) (left_stored old (up_to_event (Some s) old.stored))
    ∙ ap last_count (less_up_to s limit old.stored (omega (arith, g, l)))
    ∙ again k s old.stored g e
