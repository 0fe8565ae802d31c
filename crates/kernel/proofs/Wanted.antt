-- The modules that the next event starts, in code and in the definitions.
use Rattle.std.proofs.Common.{◌≡◌, ℕ, zero, suc, ◌&&◌, nat_le, not, is_some, Bool, true, false, cond, List, [], ◌∷◌, Option, Some, None, refl, sym, subst, ap, ◌∙◌, length, if◌then◌else◌}
use Rattle.std.specs.List.{filter}
use Rattle.model_questions.specs.declared.answer.Answer.{Answer}
use Rattle.model_questions.specs.declared.answer.Answer.TheVariants as answer
use Rattle.model_questions.specs.declared.answer.Question.TheVariants.{InjectionBefore}
use Rattle.model_questions.specs.declared.record.Record.{Record}
use Rattle.model_questions.specs.Answers.{Answers, answer_of, is_beyond}
use Rattle.model_injections.specs.declared.injection.Injection.{Injection}
use Rattle.event_set.specs.declared.pending.Happening.{Happening}
use Rattle.event_set.specs.declared.pending.Happening.TheVariants.{Arrival, Delivery, Start, Timer}
use Rattle.event_set.specs.declared.pending.Pending.{Pending}
use Rattle.event_set.specs.Events.{last_started}
use Rattle.run_semantics.specs.declared.traces.Instance.{Instance}
use Rattle.run_semantics.specs.Run.{Part, is_after_limit, needs_of, parts_of, starting, wanted, wanted_by, wanted_for}
use Rattle.run_semantics.specs.Subtree.{among, ids_from}
use Rattle.run_semantics.specs.Upcoming.{Upcoming, Comes, Nothing, aimed, arrival, chosen, delivered, first_due, first_of, target_of, upcoming, upcoming_in}
use Rattle.run_semantics.specs.World.{World, asked_next}
use Rattle.run_semantics.proofs.Looking.{beside, upcoming_looks}
use Rattle.kernel_actions.specs.declared.looks.Look.{Look}
use Rattle.kernel_actions.specs.declared.looks.Next.{Next}
use Rattle.kernel_actions.specs.declared.looks.Next.TheVariants as next
use Rattle.kernel_actions.specs.Upcoming.{first_starts, is_start_first, looked, starts_by, upcoming_of}
use Rattle.kernel.specs.Looks.{StartsNone}
use Rattle.kernel.specs.Starts.{starts_in, starts_next}
use Rattle.kernel.proofs.Apart.{with_modules}
use Rattle.kernel.proofs.Picked.{ArePicked}

-- ---- the first of the events to come

either_none : {X : Type 0} (c : Bool) (xs : List X) → xs ≡ [] → (if c then [] else xs) ≡ []
either_none true xs e = refl
either_none false xs e = e

module _ (m : Answers) where
  -- what comes first
  starts_first : (limit : Option ℕ) (w : World) (look : Look) (ps : List Pending) → limit ≡ m.time_limit → starts_in m (first_of (looked w look) ps) ≡ first_starts limit w ps
  starts_first limit w look [] e = refl
  starts_first limit w look (p ∷ rest) e = same (last_started p.what) ∙ ap (λ (l : Option ℕ). if is_beyond l p.time then [] else starts_by p.id (last_started p.what) w) (sym e)
    where
      same : (last : Option ℕ) → (if is_after_limit m w.records p then [] else starts_by p.id last (looked w look)) ≡ (if is_beyond m.time_limit p.time then [] else starts_by p.id last w)
      same None = refl
      same (Some last) = refl

  going : (w : World) (up : Upcoming) → w.ended ≡ false → upcoming m w ≡ up → starts_next m w ≡ starts_in m up
  going w up e is = ap (λ (c : Bool). if c then [] else starts_in m (upcoming m w)) e ∙ ap (starts_in m) is

  pub coming_first : (limit : Option ℕ) (w : World) (look : Look) → limit ≡ m.time_limit → w.ended ≡ false → upcoming m w ≡ upcoming_of next.First (looked w look) → starts_next m w ≡ first_starts limit w w.pending
  coming_first limit w look e on is = going w (first_of (looked w look) w.pending) on is ∙ starts_first limit w look w.pending e

  -- whatever the boxes are
  pub first_boxed : (limit : Option ℕ) (core : World) (ms : List Instance) (ps : List Pending) → first_starts limit core ps ≡ first_starts limit (with_modules ms core) ps
  first_boxed limit core ms [] = refl
  first_boxed limit core ms (p ∷ rest) = same (last_started p.what)
    where
      same : (last : Option ℕ) → (if is_beyond limit p.time then [] else starts_by p.id last core) ≡ (if is_beyond limit p.time then [] else starts_by p.id last (with_modules ms core))
      same None = refl
      same (Some last) = refl

  -- anything else starts none
  pub coming_other : (w : World) (look : Look) (n : Next) → (n ≡ next.First → ⊥) → StartsNone n → upcoming m w ≡ upcoming_of n (looked w look) → starts_next m w ≡ []
  coming_other w look next.First other none is = absurd (other refl)
  coming_other w look next.Nothing other none is = either_none w.ended (starts_in m (upcoming m w)) (ap (starts_in m) is)
  coming_other w look (next.Arrival p) other none is =
      let u : World = looked w look in
      either_none w.ended (starts_in m (upcoming m w))
      (ap (starts_in m) is ∙ either_none (is_after_limit m u.records p) (starts_by p.id (last_started p.what) u) (ap (λ (l : Option ℕ). starts_by p.id l u) none))

  pub coming_ended : (w : World) → w.ended ≡ true → starts_next m w ≡ []
  coming_ended w e = ap (λ (c : Bool). if c then [] else starts_in m (upcoming m w)) e

  -- ---- no event to come is a start

  no_start : (p : Pending) (what : Happening) (w : World) → is_some (last_started what) ≡ false → wanted_for p what w ≡ []
  no_start p (Start last) w e = cc
  no_start p (Timer timer kind) w e = refl
  no_start p (Arrival kind bits payload) w e = refl
  no_start p (Delivery d) w e = refl

  first_none : (ps : List Pending) (w : World) → is_start_first ps ≡ false → wanted_by m (first_of w ps) ≡ []
  first_none [] w e = refl
  first_none (p ∷ rest) w e = either_none (is_after_limit m w.records p) (wanted_for p p.what w) (no_start p p.what w e)

  aimed_none : (go_on : World → Upcoming) (w : World) (ps : List Pending) (i : Injection) (target : Option ℕ) → ((v : World) → wanted_by m (go_on v) ≡ []) → wanted_by m (aimed go_on w ps i target) ≡ []
  aimed_none go_on w ps i None none = none w
  aimed_none go_on w ps i (Some id) none = either_none (is_after_limit m w.records (arrival i id)) [] refl

  chosen_none : (go_on : World → Upcoming) (w : World) (ps : List Pending) (found : Answer) → is_start_first ps ≡ false → ((v : World) → wanted_by m (go_on v) ≡ []) → wanted_by m (chosen go_on w ps found) ≡ []
  chosen_none go_on w ps (answer.Injection (Some i)) e none = aimed_none go_on (delivered i w) ps i (target_of i.path w) none
  chosen_none go_on w ps (answer.Injection None) e none = first_none ps w e
  chosen_none go_on w ps (answer.Root name) e none = first_none ps w e
  chosen_none go_on w ps (answer.Class class) e none = first_none ps w e
  chosen_none go_on w ps (answer.Inside bs) e none = first_none ps w e
  chosen_none go_on w ps (answer.Value v) e none = first_none ps w e
  chosen_none go_on w ps (answer.Gate g) e none = first_none ps w e
  chosen_none go_on w ps (answer.Next hop) e none = first_none ps w e
  chosen_none go_on w ps (answer.Fault path f) e none = first_none ps w e
  chosen_none go_on w ps (answer.Beyond beyond) e none = first_none ps w e
  chosen_none go_on w ps answer.Absent e none = first_none ps w e

  coming_none : (left : ℕ) (ps : List Pending) (w : World) → is_start_first ps ≡ false → wanted_by m (upcoming_in left m ps w) ≡ []
  coming_none zero ps w e = refl
  coming_none (suc left) ps w e =
      chosen_none (upcoming_in left m ps) (asked_next (InjectionBefore (first_due ps) w.delivered) w) ps (answer_of m w.records (InjectionBefore (first_due ps) w.delivered)) e (λ v. coming_none left ps v e)

  -- WHERE THE FIRST EVENT TO COME IS NO START no box is wanted
  pub none_wanted : (w : World) → is_start_first w.pending ≡ false → wanted m w ≡ []
  unfolding upcoming
  none_wanted w e = either_none w.ended (wanted_by m (upcoming m w)) (coming_none (suc (length m.injections)) w.pending w e)

  -- ---- what is wanted is what is needed for these modules

  none_needed : (qs : List Part) → filter (λ (p : Part). among p.id []) qs ≡ []
  none_needed [] = refl
  none_needed (q ∷ qs) = none_needed qs

  needed_for : (p : Pending) (what : Happening) (w u : World) → u.records ≡ w.records → needs_of (starts_by p.id (last_started what) u) w ≡ wanted_for p what u
  needed_for p (Start last) w u e = ap (λ (rs : List Record). needs_of (starting p.id last u) (record w { records = rs })) (sym e)
  needed_for p (Timer timer kind) w u e = none_needed (parts_of w)
  needed_for p (Arrival kind bits payload) w u e = none_needed (parts_of w)
  needed_for p (Delivery d) w u e = none_needed (parts_of w)

  needed_in : (w : World) (up : Upcoming) → (beside up).records ≡ w.records → needs_of (starts_in m up) w ≡ wanted_by m up
  needed_in w (Nothing u) e = none_needed (parts_of w)
  needed_in w (Comes u p rest) e = by (is_after_limit m u.records p) (needed_for p p.what w u e)
    where
      by : (c : Bool) → needs_of (starts_by p.id (last_started p.what) u) w ≡ wanted_for p p.what u → needs_of (cond c [] (starts_by p.id (last_started p.what) u)) w ≡ cond c [] (wanted_for p p.what u)
      by true is = none_needed (parts_of w)
      by false is = is

  same_records : (w : World) → (beside (upcoming m w)).records ≡ w.records
  same_records w = let looks = upcoming_looks m w in sym (ap (λ (u : World). u.records) looks.same)

  pub needed_next : (w : World) → needs_of (starts_next m w) w ≡ wanted m w
  needed_next w = by w.ended (needed_in w (upcoming m w) (same_records w))
    where
      by : (c : Bool) → needs_of (starts_in m (upcoming m w)) w ≡ wanted_by m (upcoming m w) → needs_of (cond c [] (starts_in m (upcoming m w))) w ≡ cond c [] (wanted_by m (upcoming m w))
      by true is = none_needed (parts_of w)
      by false is = is

  -- ---- they are picked from the records

  none_picked : (id : ℕ) (rs : List Record) → [] ≡ filter (λ (n : ℕ). false) (ids_from id rs)
  none_picked id [] = refl
  none_picked id (r ∷ rs) = none_picked (suc id) rs

  none_of : (rs : List Record) → ArePicked rs []
  none_of rs = record { test = λ n. false; picked = none_picked 1 rs }

  filter_both : (f g : ℕ → Bool) (xs : List ℕ) → filter f (filter g xs) ≡ filter (λ n. g n && f n) xs
  filter_both f g [] = refl
  filter_both f g (x ∷ xs) = by (g x) (filter_both f g xs)
    where
      by : (c : Bool) → filter f (filter g xs) ≡ filter (λ n. g n && f n) xs → filter f (cond c (x ∷ filter g xs) (filter g xs)) ≡ cond (c && f x) (x ∷ filter (λ n. g n && f n) xs) (filter (λ n. g n && f n) xs)
      by true later = ap (λ ys. cond (f x) (x ∷ ys) ys) later
      by false later = later

  picked_starting : (first last : ℕ) (w : World) → ArePicked w.records (starting first last w)
  picked_starting first last w =
      let f : ℕ → Bool = λ id. nat_le first id && nat_le id last in
      let g : ℕ → Bool = λ id. not (among id w.started) in
      let h : ℕ → Bool = λ id. not (among id w.dead) in
      let ids : List ℕ = ids_from 1 w.records in
      record { test = λ n. h n && (g n && f n); picked = filter_both f g (filter h ids) ∙ filter_both (λ n. g n && f n) h ids }

  picked_by : (first : ℕ) (last : Option ℕ) (w : World) → ArePicked w.records (starts_by first last w)
  picked_by first None w = none_of w.records
  picked_by first (Some last) w = picked_starting first last w

  either_picked : (c : Bool) (rs : List Record) (ids : List ℕ) → ArePicked rs ids → ArePicked rs (if c then [] else ids)
  either_picked true rs ids h = none_of rs
  either_picked false rs ids h = h

  picked_in : (up : Upcoming) → ArePicked (beside up).records (starts_in m up)
  picked_in (Nothing u) = none_of u.records
  picked_in (Comes u p rest) = either_picked (is_after_limit m u.records p) u.records (starts_by p.id (last_started p.what) u) (picked_by p.id (last_started p.what) u)

  pub picked_next_event : (w : World) → ArePicked w.records (starts_next m w)
  picked_next_event w =
      either_picked w.ended w.records (starts_in m (upcoming m w)) (subst (λ (rs : List Record). ArePicked rs (starts_in m (upcoming m w))) (same_records w) (picked_in (upcoming m w)))
