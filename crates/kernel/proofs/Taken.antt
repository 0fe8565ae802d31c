-- Boxes that waited for the start of their modules are taken in.
use Rattle.std.proofs.Common.{◌≡◌, ℕ, ◌==◌, ◌&&◌, ◌||◌, nat_le, nat_lt, not, Bool, true, false, cond, List, [], ◌∷◌, Option, Some, None, refl, sym, subst, ap, ◌∙◌, eqb-true, map}
use Rattle.std.specs.List.{filter}
use Rattle.module_api.specs.Behaviour.{Behaviour}
use Rattle.module_api.specs.Meaning.{Module, IsOfKind}
use Rattle.module_tree.specs.Boxes.{Seated, AreFree, with_boxes}
use Rattle.model_questions.specs.Answers.{Answers}
use Rattle.run_semantics.specs.declared.traces.Instance.{Instance}
use Rattle.run_semantics.specs.Laws.{parts_standing}
use Rattle.run_semantics.specs.Perform.{Flow, ◌>>=◌}
use Rattle.run_semantics.specs.Run.{Part, needs_of, parts_of, standing, start_modules, started, starting, unless_unknown, unstarted, with_instance, with_instances}
use Rattle.run_semantics.specs.Subtree.{among, outer_first}
use Rattle.run_semantics.specs.World.{World, live_of}
use Rattle.kernel_actions.specs.Positions.{IsGrownFrom}
use Rattle.kernel_boxes.specs.Seats.{BoxAt, instance_of, module_in, AreOfKinds}
use Rattle.kernel_boxes.proofs.Seating.{seat}
use Rattle.kernel.specs.Parts.{part_in}
use Rattle.kernel.specs.Seats.{AreFresh, with_seat, world_of}
use Rattle.kernel.proofs.Rising.{part_for, part_standing}
use Rattle.kernel.proofs.Supplying.{none_seated, none_there, seat_placed}
use Rattle.kernel.proofs.Waiting.{fresh_instances, fresh_known}

-- ---- what stands then

placed_instance : (s : BoxAt) (ts : List BoxAt) → map instance_of (with_seat s ts) ≡ with_instance (instance_of s) (map instance_of ts)
placed_instance s [] = refl
placed_instance s (t ∷ ts) = by (nat_lt s.id t.id) (placed_instance s ts)
  where
    by : (c : Bool) → map instance_of (with_seat s ts) ≡ with_instance (instance_of s) (map instance_of ts)
        → map instance_of (cond c (s ∷ t ∷ ts) (t ∷ with_seat s ts)) ≡ cond c (instance_of s ∷ instance_of t ∷ map instance_of ts) (instance_of t ∷ with_instance (instance_of s) (map instance_of ts))
    by true later = refl
    by false later = ap (λ is. instance_of t ∷ is) later

placed_kinds : (b : Behaviour) (s : BoxAt) (ts : List BoxAt) → IsOfKind b s.box → AreOfKinds b ts → AreOfKinds b (with_seat s ts)
placed_kinds b s [] k h = (k, tt)
placed_kinds b s (t ∷ ts) k h = by (nat_lt s.id t.id) (placed_kinds b s ts k h.1)
  where
    by : (c : Bool) → AreOfKinds b (with_seat s ts) → AreOfKinds b (cond c (s ∷ t ∷ ts) (t ∷ with_seat s ts))
    by true later = (k, h)
    by false later = (h.0, later)

-- none of these modules has a box
abbrev pub HaveNone : List Part → List BoxAt → Type 0
HaveNone [] ts = Unit {0}
HaveNone (p ∷ ps) ts = (module_in p.id ts ≡ None) × HaveNone ps ts

module _ {A : Type 0} (means : A → Module) where
  -- each in its place
  pub taken_instances : (ss ts : List (Seated A)) → map instance_of (map (seat means) (with_boxes ss ts)) ≡ with_instances (map instance_of (map (seat means) ss)) (map instance_of (map (seat means) ts))
  taken_instances [] ts = refl
  taken_instances (s ∷ ss) ts =
      let all = with_boxes ss ts in
      ap (map instance_of) (seat_placed means s.id s.box all)
      ∙ placed_instance (seat means s) (map (seat means) all)
      ∙ ap (with_instance (instance_of (seat means s))) (taken_instances ss ts)

  pub taken_kinds : (b : Behaviour) (ss ts : List (Seated A)) → AreOfKinds b (map (seat means) ss) → AreOfKinds b (map (seat means) ts) → AreOfKinds b (map (seat means) (with_boxes ss ts))
  taken_kinds b [] ts h k = k
  taken_kinds b (s ∷ ss) ts h k =
      let all = with_boxes ss ts in
      subst (AreOfKinds b) (sym (seat_placed means s.id s.box all)) (placed_kinds b (seat means s) (map (seat means) all) h.0 (taken_kinds b ss ts h.1 k))

  -- their modules have none before
  pub fresh_free : (b : Behaviour) (ps : List Part) (ss ts : List (Seated A)) → AreFresh b ps (map (seat means) ss) → HaveNone ps (map (seat means) ts) → AreFree ss ts
  fresh_free b [] [] ts h n = tt
  fresh_free b [] (s ∷ ss) ts h n = absurd h
  fresh_free b (p ∷ ps) [] ts h n = tt
  fresh_free b (p ∷ ps) (s ∷ ss) ts h n = (none_seated means s.id ts (ap (λ id. module_in id (map (seat means) ts)) h.0 ∙ n.0), fresh_free b ps ss ts h.2 n.1)

-- ---- modules that are to be started have no box

among_passed : (f : ℕ → Bool) (id : ℕ) (xs : List ℕ) → among id (filter f xs) ≡ true → (f id ≡ true) × (among id xs ≡ true)
among_passed f id [] e = cc
among_passed f id (x ∷ xs) e = by (f x) refl (among_passed f id xs) e
  where
    here : (t : Bool) → (x == id) ≡ t → f x ≡ true → (among id (filter f xs) ≡ true → (f id ≡ true) × (among id xs ≡ true)) → (t || among id (filter f xs)) ≡ true → (f id ≡ true) × ((t || among id xs) ≡ true)
    here true same passes later e = (ap f (sym (eqb-true x id same)) ∙ passes, refl)
    here false same passes later e = later e

    either : (t : Bool) → among id xs ≡ true → (t || among id xs) ≡ true
    either true e = refl
    either false e = e

    by : (t : Bool) → f x ≡ t → (among id (filter f xs) ≡ true → (f id ≡ true) × (among id xs ≡ true)) → among id (cond t (x ∷ filter f xs) (filter f xs)) ≡ true → (f id ≡ true) × (among id (x ∷ xs) ≡ true)
    by true passes later e = here (x == id) refl passes later e
    by false fails later e = let both = later e in (both.0, either (x == id) both.1)

none_of : (t : Bool) → not t ≡ true → t ≡ false
none_of true e = cc
none_of false e = refl

starting_unstarted : (first last id : ℕ) (w : World) → among id (starting first last w) ≡ true → among id w.started ≡ false
starting_unstarted first last id w e =
    let one = among_passed (λ n. nat_le first n && nat_le n last) id (unstarted w) e in
    let two = among_passed (λ n. not (among n w.started)) id (live_of w) one.1 in
    none_of (among id w.started) two.0

not_standing : (id : ℕ) (begun live : List ℕ) (ps : List Part) → among id begun ≡ false → part_in id (filter (λ (p : Part). among p.id begun && among p.id live) ps) ≡ None
not_standing id begun live [] e = refl
not_standing id begun live (p ∷ ps) e = by (among p.id begun && among p.id live) refl (not_standing id begun live ps e)
  where
    left : List Part
    left = filter (λ (p : Part). among p.id begun && among p.id live) ps

    same_id : p.id ≡ id → (among p.id begun && among p.id live) ≡ false
    same_id same = rw (ap (λ n. among n begun) same ∙ e) refl

    here : (t : Bool) → (p.id == id) ≡ t → (among p.id begun && among p.id live) ≡ true → part_in id left ≡ None → cond t (Some p) (part_in id left) ≡ None
    here true t passes later = let both : true ≡ false = sym passes ∙ same_id (eqb-true p.id id t) in cc
    here false t passes later = later

    by : (t : Bool) → (among p.id begun && among p.id live) ≡ t → part_in id left ≡ None → part_in id (cond t (p ∷ left) left) ≡ None
    by true passes later = here (p.id == id) refl passes later
    by false fails later = later

have_none : (ids : List ℕ) (qs : List Part) (ts : List BoxAt) → ((id : ℕ) → among id ids ≡ true → module_in id ts ≡ None) → HaveNone (filter (λ (p : Part). among p.id ids) qs) ts
have_none ids [] ts none = tt
have_none ids (q ∷ qs) ts none = by (among q.id ids) refl (have_none ids qs ts none)
  where
    left : List Part
    left = filter (λ (p : Part). among p.id ids) qs

    by : (t : Bool) → among q.id ids ≡ t → HaveNone left ts → HaveNone (cond t (q ∷ left) left) ts
    by true there later = (none q.id there, later)
    by false out later = later

-- WHERE EXACTLY THE STARTED ONES STAND, those that a start needs boxes for have none
pub starting_free : (first last : ℕ) (w : World) (ts : List BoxAt) → standing (map instance_of ts) ≡ parts_standing w → HaveNone (needs_of (starting first last w) w) ts
starting_free first last w ts stands =
    have_none (starting first last w) (parts_of w) ts (λ id there.
    none_there (part_for id) (module_in id ts)
    (sym (part_standing id ts) ∙ (ap (part_in id) stands ∙ not_standing id w.started (live_of w) (parts_of w) (starting_unstarted first last id w there))))

-- ---- their start

-- MODULES THAT HAVE THEIR BOXES ARE STARTED as the definition says
pub created_start : (b : Behaviour) (m : Answers) (ids xs : List ℕ) (first : ℕ) (core : World) (old new waiting : List BoxAt) (fl : Flow) → AreFresh b (needs_of xs (world_of core old)) waiting → map instance_of new ≡ with_instances (map instance_of waiting) (map instance_of old) → ids ≡ xs
    → fl ≡ started b m ids (outer_first core.records ids first) (world_of core new) → fl ≡ start_modules b m xs first (world_of core old)
created_start b m ids xs first core old new waiting fl fresh taken same e =
    let w : World = world_of core old in
    let ps : List Part = needs_of xs w in
    let stands = taken ∙ ap (λ (is : List Instance). with_instances is (map instance_of old)) (fresh_instances b ps waiting fresh) in
    let begun : World → Flow = started b m xs (outer_first core.records xs first) in
    e
    ∙ (ap (λ (ys : List ℕ). started b m ys (outer_first core.records ys first) (world_of core new)) same
    ∙ (ap (λ (ms : List Instance). begun (record core { modules = ms })) stands
    ∙ sym (ap (λ (o : Option Part). unless_unknown b ps w o >>= begun) (fresh_known b ps waiting fresh))))

-- what grew from there grew from before
pub taken_grows : (core v : World) (old new : List BoxAt) → IsGrownFrom (world_of core new) v → IsGrownFrom (world_of core old) v
taken_grows core v old new g = record {
  records = g.records;
  dead = g.dead;
  started = g.started;
  finished = g.finished;
  changes = g.changes;
  emissions = g.emissions;
  scalars = g.scalars;
  questions = g.questions;
}
