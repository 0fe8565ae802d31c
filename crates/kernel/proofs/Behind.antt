-- The first module of a greater id than all that have boxes.
use Rattle.std.proofs.Common.{◌≡◌, ℕ, zero, suc, ◌+◌, ◌≤◌, ◌<◌, nat_lt, true, false, List, [], ◌∷◌, Option, Some, None, refl, sym, ap, ◌∙◌, arith, map, length, slice_get, drop, take, unwrap_or, if◌then◌else◌}
use Rattle.std.proofs.lemmas.Bool.Decides.{nat_tests}
use Rattle.std.proofs.lemmas.List.{length-map}
use Rattle.module_api.specs.Meaning.{Module}
use Rattle.module_tree.specs.Boxes.{Seated, AreRising, last_after, last_id}
use Rattle.model_questions.specs.declared.record.Record.{Record}
use Rattle.run_semantics.specs.Run.{Part, needs_of, standing, with_class, parts_from, unstarted}
use Rattle.run_semantics.specs.Subtree.{among}
use Rattle.run_semantics.specs.World.{World}
use Rattle.kernel.specs.Seats.{needs}
use Rattle.kernel_boxes.specs.Seats.{instance_of}
use Rattle.kernel_boxes.proofs.Seating.{seat}
use Rattle.kernel_boxes.specs.Staying.{first_without}
use Rattle.kernel.proofs.Rising.{Rise, rise_filter, rise_later}
use Rattle.kernel.proofs.Waiting.{wanted_next}

-- the first part of a greater id
abbrev pub behind : ℕ → List Part → Option Part
behind id [] = None
behind id (p ∷ ps) = if nat_lt id p.id then Some p else behind id ps

less : (m n : ℕ) → m < n → nat_lt m n ≡ true
less m n h = grind (arith, nat_tests)

not_less : (m n : ℕ) → n ≤ m → nat_lt m n ≡ false
not_less m n h = grind (arith, nat_tests)

-- where all ids are greater it is the first
first_behind : (id from below : ℕ) (ps : List Part) → Rise from below ps → id < from → slice_get ps 0 ≡ behind id ps
first_behind id from below [] r h = refl
first_behind id from below (p ∷ ps) r h = rw (less id p.id (omega (arith, r.0))) refl

-- ---- of records

-- the ids of records rise
pub parts_rise : (k below : ℕ) (rs : List Record) → k + length rs ≤ below → Rise k below (parts_from k rs)
parts_rise k below [] h = tt
parts_rise k below (r ∷ rs) h = by r.class (parts_rise (suc k) below rs (omega (arith, h)))
  where
    by : (class : Option (List ℕ)) → Rise (suc k) below (parts_from (suc k) rs) → Rise k below (with_class k class (parts_from (suc k) rs))
    by (Some kind) later = (omega arith, omega (arith, h), later)
    by None later = rise_later k (suc k) below (parts_from (suc k) rs) (omega arith) later

-- so do those of the modules that need boxes
pub needs_rise : (w : World) → Rise 1 (1 + length w.records) (needs w)
needs_rise w = rise_filter (λ (p : Part). among p.id (unstarted w)) 1 (1 + length w.records) (parts_from 1 w.records) (parts_rise 1 (1 + length w.records) w.records (omega arith))

pub needed_rise : (ids : List ℕ) (w : World) → Rise 1 (1 + length w.records) (needs_of ids w)
needed_rise ids w = rise_filter (λ (p : Part). among p.id ids) 1 (1 + length w.records) (parts_from 1 w.records) (parts_rise 1 (1 + length w.records) w.records (omega arith))

-- those after an id are those of the records that are left after as many
left_behind : (k n id : ℕ) (rs : List Record) → id ≡ k + n → behind id (parts_from (suc k) rs) ≡ slice_get (parts_from (suc id) (drop n rs)) 0
left_behind k zero id rs e =
    let rise = parts_rise (suc k) (suc k + length rs) rs (omega arith) in
    sym (first_behind id (suc k) (suc k + length rs) (parts_from (suc k) rs) rise (omega (arith, e))) ∙ ap (λ i. slice_get (parts_from (suc i) rs) 0) (omega (arith, e))
left_behind k (suc n) id [] e = refl
left_behind k (suc n) id (r ∷ rs) e = by r.class (left_behind (suc k) n id rs (omega (arith, e)))
  where
    by : (class : Option (List ℕ)) → behind id (parts_from (suc (suc k)) rs) ≡ slice_get (parts_from (suc id) (drop n rs)) 0 → behind id (with_class (suc k) class (parts_from (suc (suc k)) rs)) ≡ slice_get (parts_from (suc id) (drop n rs)) 0
    by (Some kind) later = rw (not_less id (suc k) (omega (arith, e))) later
    by None later = later

-- ---- of boxes

module _ {A : Type 0} (means : A → Module) where
  -- the last one is no smaller
  last_least : (id below : ℕ) (ss : List (Seated A)) → AreRising (suc id) below ss → id ≤ unwrap_or (last_after (Some id) ss) 0
  last_least id below [] r = omega arith
  last_least id below (s ∷ ss) r = omega (arith, r.0, last_least s.id below ss r.2)

  -- where the boxes are those of the first parts, the next part is the first after the last of them
  next_behind : (id from below above : ℕ) (ps : List Part) (ss : List (Seated A)) → Rise from below ps → id < from → AreRising 0 above ss → standing (map instance_of (map (seat means) ss)) ≡ take (length ss) ps
      → slice_get ps (length ss) ≡ behind (unwrap_or (last_after (Some id) ss) 0) ps
  next_behind id from below above ps [] r h q e = first_behind id from below ps r h
  next_behind id from below above [] (s ∷ ss) r h q e = cc
  next_behind id from below above (p ∷ ps) (s ∷ ss) r h q e =
      let same : s.id ≡ p.id = cc in
      let left : standing (map instance_of (map (seat means) ss)) ≡ take (length ss) ps = cc in
      let later = next_behind s.id (suc p.id) below above ps ss r.2 (omega (arith, same)) (rising_later s.id above ss q.2) left in
      let last = last_least s.id above ss q.2 in
      rw (not_less (unwrap_or (last_after (Some s.id) ss) 0) p.id (omega (arith, last, same))) later
    where
      rising_later : (k above : ℕ) (ss : List (Seated A)) → AreRising (suc k) above ss → AreRising 0 above ss
      rising_later k above [] r = tt
      rising_later k above (s ∷ ss) r = (omega arith, r.1, r.2)

  last_or : (ss : List (Seated A)) → unwrap_or (last_after (Some 0) ss) 0 ≡ unwrap_or (last_id ss) 0
  last_or [] = refl
  last_or (s ∷ ss) = refl

  instances_length : (ss : List (Seated A)) → length (map instance_of (map (seat means) ss)) ≡ length ss
  instances_length [] = refl
  instances_length (s ∷ ss) = ap suc (instances_length ss)

  -- THE NEXT MODULE that needs a box
  pub next_part : (rs : List Record) (above last : ℕ) (ss : List (Seated A)) → AreRising 0 above ss → standing (map instance_of (map (seat means) ss)) ≡ take (length (map instance_of (map (seat means) ss))) (parts_from 1 rs) → last ≡ unwrap_or (last_id ss) 0
      → slice_get (parts_from (last + 1) (drop last rs)) 0 ≡ slice_get (parts_from 1 rs) (length (map instance_of (map (seat means) ss)))
  next_part rs above last ss q first is =
      let step : suc last ≡ last + 1 = omega arith in
      let many = instances_length ss in
      sym (ap (slice_get (parts_from 1 rs)) many
      ∙ next_behind 0 1 (1 + length rs) above (parts_from 1 rs) ss (parts_rise 1 (1 + length rs) rs (omega arith)) (omega arith) q (first ∙ ap (λ k. take k (parts_from 1 rs)) many)
      ∙ ap (λ i. behind i (parts_from 1 rs)) (last_or ss ∙ sym is)
      ∙ left_behind 0 last last rs (omega arith)
      ∙ ap (λ i. slice_get (parts_from i (drop last rs)) 0) step)

  -- THE NEXT MODULE that is wanted, where the boxes are those of the first parts
  pub next_missing : (rs : List Record) (above last : ℕ) (ss : List (Seated A)) → AreRising 0 above ss → standing (map instance_of (map (seat means) ss)) ≡ take (length (map (seat means) ss)) (parts_from 1 rs) → last ≡ unwrap_or (last_id ss) 0
      → slice_get (parts_from (last + 1) (drop last rs)) 0 ≡ first_without (standing (map instance_of (map (seat means) ss))) (parts_from 1 rs)
  next_missing rs above last ss q first is =
      let n : ℕ = length (map (seat means) ss) in
      let same : length (map instance_of (map (seat means) ss)) ≡ n = length-map (map (seat means) ss) instance_of in
      next_part rs above last ss q (first ∙ sym (ap (λ k. take k (parts_from 1 rs)) same)) is
      ∙ ap (slice_get (parts_from 1 rs)) same
      ∙ sym (wanted_next (1 + length rs) n (parts_from 1 rs) (parts_rise 1 (1 + length rs) rs (omega arith)))
      ∙ ap (λ held. first_without held (parts_from 1 rs)) (sym first)

  -- THE NEXT of any modules by rising ids that is wanted, where the boxes are those of the first of
  -- them
  pub behind_last : (below above last : ℕ) (ps : List Part) (ss : List (Seated A)) → Rise 1 below ps → AreRising 0 above ss → standing (map instance_of (map (seat means) ss)) ≡ take (length (map (seat means) ss)) ps → last ≡ unwrap_or (last_id ss) 0
      → behind last ps ≡ first_without (standing (map instance_of (map (seat means) ss))) ps
  behind_last below above last ps ss r q first is =
      let n : ℕ = length (map (seat means) ss) in
      let many : n ≡ length ss = length-map ss (seat means) in
      ap (λ i. behind i ps) (is ∙ sym (last_or ss))
      ∙ sym (next_behind 0 1 below above ps ss r (omega arith) q (first ∙ ap (λ k. take k ps) many))
      ∙ ap (slice_get ps) (sym many)
      ∙ sym (wanted_next below n ps r)
      ∙ ap (λ held. first_without held ps) (sym first)
