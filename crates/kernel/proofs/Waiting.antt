-- Boxes that wait for the start of their modules.
use Rattle.std.proofs.Common.{◌≡◌, ℕ, zero, suc, ◌+◌, ◌≤◌, ◌<◌, ◌==◌, ◌||◌, nat_lt, Bool, true, false, cond, List, [], ◌∷◌, ◌++◌, Option, Some, None, refl, sym, ap, ◌∙◌, arith, subst, append_assoc, append-nil, length, map, slice_get, take, eq-eqb, if◌then◌else◌}
use Rattle.std.proofs.lemmas.Bool.Decides.{nat_tests}
use Rattle.std.specs.List.{list_any}
use Rattle.module_api.specs.Behaviour.{Behaviour}
use Rattle.module_api.specs.Meaning.{Module, IsFresh}
use Rattle.model_questions.specs.Answers.{Answers}
use Rattle.run_semantics.specs.declared.traces.Instance.{Instance}
use Rattle.run_semantics.specs.World.{World}
use Rattle.run_semantics.specs.Perform.{Flow, On, ◌>>=◌}
use Rattle.run_semantics.specs.Run.{Part, fresh, first_unknown, placed, prepared, standing, unless_unknown, with_instance, with_instances}
use Rattle.kernel_boxes.specs.Seats.{BoxAt, instance_of, AreOfKinds}
use Rattle.kernel.specs.Seats.{AreFresh, needs, world_of}
use Rattle.kernel.specs.Setups.{boxed, ready}
use Rattle.kernel_boxes.specs.Staying.{first_without, is_held}
use Rattle.kernel.proofs.Rising.{Rise}

-- ---- what they are

-- they are of their modules
pub fresh_standing : (b : Behaviour) (ps : List Part) (ss : List BoxAt) → AreFresh b ps ss → standing (map instance_of ss) ≡ ps
fresh_standing b [] [] h = refl
fresh_standing b [] (s ∷ ss) h = absurd h
fresh_standing b (p ∷ ps) [] h = absurd h
fresh_standing b (p ∷ ps) (s ∷ ss) h =
    ap (λ id. record { id = id; kind = s.box.kind } ∷ standing (map instance_of ss)) h.0
    ∙ ap (λ kind. record { id = p.id; kind = kind } ∷ standing (map instance_of ss)) h.1.kind
    ∙ ap (λ qs. p ∷ qs) (fresh_standing b ps ss h.2)

-- each is of its kind
pub fresh_kinds : (b : Behaviour) (ps : List Part) (ss : List BoxAt) → AreFresh b ps ss → AreOfKinds b ss
fresh_kinds b [] [] h = tt
fresh_kinds b [] (s ∷ ss) h = absurd h
fresh_kinds b (p ∷ ps) [] h = absurd h
fresh_kinds b (p ∷ ps) (s ∷ ss) h = (h.1.of_kind, fresh_kinds b ps ss h.2)

-- what a world holds of them are the modules in their states at first
pub fresh_instances : (b : Behaviour) (ps : List Part) (ss : List BoxAt) → AreFresh b ps ss → map instance_of ss ≡ map (fresh b) ps
fresh_instances b [] [] h = refl
fresh_instances b [] (s ∷ ss) h = absurd h
fresh_instances b (p ∷ ps) [] h = absurd h
fresh_instances b (p ∷ ps) (s ∷ ss) h =
    let rest : List Instance = map instance_of ss in
    ap (λ id. record { id = id; kind = s.box.kind; state = s.box.state } ∷ rest) h.0
    ∙ ap (λ kind. record { id = p.id; kind = kind; state = s.box.state } ∷ rest) h.1.kind
    ∙ ap (λ state. record { id = p.id; kind = p.kind; state = state } ∷ rest) h.1.initial
    ∙ ap (λ is. fresh b p ∷ is) (fresh_instances b ps ss h.2)

-- no kind is unknown
pub fresh_known : (b : Behaviour) (ps : List Part) (ss : List BoxAt) → AreFresh b ps ss → first_unknown b ps ≡ None
fresh_known b [] [] h = refl
fresh_known b [] (s ∷ ss) h = absurd h
fresh_known b (p ∷ ps) [] h = absurd h
fresh_known b (p ∷ ps) (s ∷ ss) h = let known : b.known p.kind ≡ true = ap b.known (sym h.1.kind) ∙ h.1.of_kind.known in rw known (fresh_known b ps ss h.2)

-- modules by rising ids, where none stood, stand in their order
pub alone : (b : Behaviour) (from below : ℕ) (ps : List Part) → Rise from below ps → with_instances (map (fresh b) ps) [] ≡ map (fresh b) ps
alone b from below [] r = refl
alone b from below (p ∷ ps) r = ap (with_instance (fresh b p)) (alone b (suc p.id) below ps r.2) ∙ first_of ps r.2
  where
    less : (m n : ℕ) → m < n → nat_lt m n ≡ true
    less m n h = grind (arith, nat_tests)

    first_of : (qs : List Part) → Rise (suc p.id) below qs → with_instance (fresh b p) (map (fresh b) qs) ≡ fresh b p ∷ map (fresh b) qs
    first_of [] h = refl
    first_of (q ∷ qs) h = rw (less p.id q.id (omega (arith, h.0))) refl

-- THE START BEGINS where the modules of a network that was set up have their boxes
pub fresh_ready : (b : Behaviour) (m : Answers) (w : World) (old ss : List BoxAt) (below : ℕ) → map instance_of old ≡ [] → Rise 1 below (needs (world_of w old)) → On (world_of w old) ≡ prepared m → AreFresh b (needs (world_of w old)) ss → On (world_of w ss) ≡ ready b m
fresh_ready b m w old ss below none rise e h =
    let v : World = world_of w old in
    ap (λ is. On (record w { modules = is })) (fresh_instances b (needs v) ss h)
    ∙ sym (ap (λ is. On (record w { modules = is })) (alone b 1 below (needs v) rise))
    ∙ sym (ap (λ is. On (record w { modules = with_instances (map (fresh b) (needs v)) is })) none)
    ∙ sym (ap (unless_unknown b (needs v) v) (fresh_known b (needs v) ss h))
    ∙ ap (λ (fl : Flow). fl >>= boxed b) e

-- where no module stands there is no box
pub no_seats : (ss : List BoxAt) → map instance_of ss ≡ [] → ss ≡ []
no_seats [] e = refl
no_seats (s ∷ ss) e = cc

-- ---- the one that is wanted

-- whether an id is among others
abbrev AllBelow : ℕ → List Part → Type 0
AllBelow id [] = Unit {0}
AllBelow id (p ∷ ps) = (p.id < id) × AllBelow id ps

none_held : (id : ℕ) (ps : List Part) → AllBelow id ps → is_held id ps ≡ false
none_held id [] h = refl
none_held id (p ∷ ps) h = rw (other p.id id h.0) (none_held id ps h.1)
  where
    other : (m n : ℕ) → m < n → (m == n) ≡ false
    other m n h = grind (arith, nat_tests)

below_more : (id k : ℕ) (ps : List Part) → id ≤ k → AllBelow id ps → AllBelow k ps
below_more id k [] l h = tt
below_more id k (p ∷ ps) l h = (omega (arith, l, h.0), below_more id k ps l h.1)

below_one : (id : ℕ) (ps : List Part) (p : Part) → AllBelow id ps → p.id < id → AllBelow id (ps ++ p ∷ [])
below_one id [] p h l = (l, tt)
below_one id (q ∷ ps) p h l = (h.0, below_one id ps p h.1 l)

held_within : (p : Part) (before after : List Part) → is_held p.id (before ++ p ∷ after) ≡ true
held_within p [] after = ap (λ t. t || is_held p.id after) (eq-eqb p.id p.id refl)
held_within p (q ∷ before) after = by (q.id == p.id) (held_within p before after)
  where
    by : (t : Bool) → is_held p.id (before ++ p ∷ after) ≡ true → (t || is_held p.id (before ++ p ∷ after)) ≡ true
    by true e = refl
    by false e = e

-- after boxes of smaller ids, and those of the first so many of these, it is the next
next_wanted : (from below n : ℕ) (before ps : List Part) → AllBelow from before → Rise from below ps → first_without (before ++ take n ps) ps ≡ slice_get ps n
next_wanted from below n before [] h r = refl
next_wanted from below zero before (p ∷ ps) h r =
    rw (ap (is_held p.id) (append-nil before) ∙ none_held p.id before (below_more from p.id before r.0 h)) refl
next_wanted from below (suc n) before (p ∷ ps) h r =
    rw (held_within p before (take n ps))
    (ap (λ held. first_without held ps) (sym (append_assoc before (p ∷ []) (take n ps)))
    ∙ next_wanted (suc p.id) below n (before ++ p ∷ []) ps (below_one (suc p.id) before p (below_more from (suc p.id) before (omega (arith, r.0)) h) (omega arith)) r.2)

-- OF MODULES BY RISING IDS, of which the first so many have boxes, the next one is wanted
pub wanted_next : (below n : ℕ) (ps : List Part) → Rise 1 below ps → first_without (take n ps) ps ≡ slice_get ps n
wanted_next below n ps r = next_wanted 1 below n [] ps tt r
