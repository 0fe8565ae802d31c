-- The modules that the first of the events to come starts.
use Rattle.std.proofs.Common.{◌≡◌, ℕ, is_some, Bool, true, false, List, [], ◌∷◌, Option, Some, None, option_map, slice_get, refl, sym, ap, ◌∙◌, if◌then◌else◌}
use Rattle.event_set.specs.declared.pending.Pending.{Pending}
use Rattle.event_set.specs.declared.set.Coming.{Coming}
use Rattle.event_set.specs.Events.{coming_of, last_started}
use Rattle.run_semantics.specs.World.{World}
use Rattle.kernel_actions.specs.Upcoming.{first_is_beyond, first_starts, is_start_first, starts_by}

pub starts_beyond : (limit : Option ℕ) (w : World) (ps : List Pending) → first_is_beyond limit ps ≡ true → [] ≡ first_starts limit w ps
starts_beyond limit w [] e = refl
starts_beyond limit w (p ∷ rest) e = sym (ap (λ (c : Bool). if c then [] else starts_by p.id (last_started p.what) w) e)

pub starts_nothing : (limit : Option ℕ) (w : World) (ps : List Pending) → option_map coming_of (slice_get ps 0) ≡ None → [] ≡ first_starts limit w ps
starts_nothing limit w [] e = refl
starts_nothing limit w (p ∷ rest) e = cc

pub starts_coming : (limit : Option ℕ) (w : World) (ps : List Pending) (coming : Coming) (ids : List ℕ) → first_is_beyond limit ps ≡ false → option_map coming_of (slice_get ps 0) ≡ Some coming → ids ≡ starts_by coming.id coming.last_started w → ids ≡ first_starts limit w ps
starts_coming limit w [] coming ids early e is = cc
starts_coming limit w (p ∷ rest) coming ids early e is =
    let same : coming_of p ≡ coming = cc in
    is
    ∙ (ap (λ (c : Coming). starts_by c.id c.last_started w) (sym same) ∙ sym (ap (λ (c : Bool). if c then [] else starts_by p.id (last_started p.what) w) early))

pub start_first : (ps : List Pending) (coming : Coming) → option_map coming_of (slice_get ps 0) ≡ Some coming → is_some coming.last_started ≡ is_start_first ps
start_first [] coming e = cc
start_first (p ∷ rest) coming e = let same : coming_of p ≡ coming = cc in sym (ap (λ (c : Coming). is_some c.last_started) same)

pub start_none : (ps : List Pending) → option_map coming_of (slice_get ps 0) ≡ None → false ≡ is_start_first ps
start_none [] e = refl
start_none (p ∷ rest) e = cc
