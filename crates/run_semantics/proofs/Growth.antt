-- What parts of an event add to a world: questions, and modules.
use Rattle.std.proofs.Common.{◌≡◌, ℕ, suc, ◌+◌, ◌≤◌, ◌==◌, cond, not, Bool, true, false, List, [], ◌∷◌, ◌++◌, Option, Some, None, refl, sym, ap, ◌∙◌, arith, subst, append_assoc, append-nil, length-append, slice_get, length, map, if◌then◌else◌, nat_lt, eqb-true}
use Rattle.event_set.proofs.Order.{each_append, each_map}
use Rattle.module_api.specs.Behaviour.{Behaviour}
use Rattle.model_questions.specs.declared.answer.Answer.{Answer}
use Rattle.model_questions.specs.declared.answer.Answer.TheVariants as answer
use Rattle.model_questions.specs.declared.answer.AskedQuestion.{AskedQuestion}
use Rattle.model_questions.specs.declared.answer.Built.{Built}
use Rattle.model_questions.specs.declared.answer.Question.{Question}
use Rattle.model_questions.specs.declared.answer.Question.TheVariants.{Root, Build}
use Rattle.model_questions.specs.Answers.{Answers, answer_of}
use Rattle.model_questions.specs.declared.record.Record.{Record}
use Rattle.run_semantics.specs.declared.traces.Instance.{Instance}
use Rattle.run_semantics.specs.World.{World, asked, empty, is_asked, is_live, timed}
use Rattle.run_semantics.specs.Calls.{instance_in, with_state, changed}
use Rattle.run_semantics.specs.Deleting.{gone}
use Rattle.run_semantics.specs.Laws.{Each}
use Rattle.run_semantics.specs.Perform.{Flow, On, Stopped, Broken, ◌>>=◌, asking}
use Rattle.run_semantics.specs.Run.{with_network, rooted, record_under, with_submodules, room_in, unless_many, created, set_up, Part, parts_of, needs_of, fresh, placed, with_instance, with_instances}
use Rattle.run_semantics.specs.Subtree.{among}
use Rattle.run_semantics.proofs.Alive.{each_filter, live_gone, live_more, not_among}
use Rattle.run_semantics.proofs.Setting.{IsLasting, stays_in, set_up_stays}
use Rattle.run_semantics.proofs.Flows.{in_flow}
use Rattle.model_questions.proofs.AnswerLemmas.{AreNested, about}

-- ---- worlds whose ids are those of records

-- all questions are of that event
abbrev pub AllOfEvent : ℕ → List AskedQuestion → Type 0
AllOfEvent event [] = Unit {0}
AllOfEvent event (a ∷ rest) = (a.event ≡ event) × AllOfEvent event rest

-- all are about modules with ids up to that one
abbrev pub AllAbout : ℕ → List AskedQuestion → Type 0
AllAbout n [] = Unit {0}
AllAbout n (a ∷ rest) = (about a.question ≤ n) × AllAbout n rest

-- all modules that stand live
abbrev pub AllLive : World → Type 0
AllLive w = Each (λ (i : Instance). is_live w i.id ≡ true) w.modules

-- questions are of ids that were given, and so are the dead; what stands lives, and each module was
-- created after the one around it
pub record Fits (w : World) : Type 0 where
  pub nested : AreNested 0 w.records
  pub dead : Each (λ k. k ≤ length w.records) w.dead
  pub modules : AllLive w
  pub questions : AllAbout (length w.records) w.questions

-- two lists of questions of one event
pub AllOfEvent-append : (n : ℕ) (xs ys : List AskedQuestion) → AllOfEvent n xs → AllOfEvent n ys → AllOfEvent n (xs ++ ys)
AllOfEvent-append n [] ys f g = g
AllOfEvent-append n (x ∷ xs) ys f g = (f.0, AllOfEvent-append n xs ys f.1 g)

-- two lists of questions about these modules
pub AllAbout-append : (n : ℕ) (xs ys : List AskedQuestion) → AllAbout n xs → AllAbout n ys → AllAbout n (xs ++ ys)
AllAbout-append n [] ys f g = g
AllAbout-append n (x ∷ xs) ys f g = (f.0, AllAbout-append n xs ys f.1 g)

-- more modules were created
pub AllAbout-more : (n k : ℕ) (xs : List AskedQuestion) → n ≤ k → AllAbout n xs → AllAbout k xs
AllAbout-more n k [] h f = tt
AllAbout-more n k (x ∷ xs) h f = (omega (arith, f.0), AllAbout-more n k xs h f.1)

-- ---- steps

-- where records, the dead, modules and questions are as they were
pub fits_beside : (u v : World) → Fits u → v.records ≡ u.records → v.dead ≡ u.dead → v.modules ≡ u.modules → v.questions ≡ u.questions → Fits v
fits_beside u v f records dead modules questions = record {
  nested = subst (AreNested 0) (sym records) f.nested;
  dead = rw (records, dead) f.dead;
  modules = rw (modules, records, dead) f.modules;
  questions = rw (records, questions) f.questions;
}

-- a module that a call finds lives
pub found_live : (id : ℕ) (w : World) (i : Instance) → Fits w → instance_in id w.modules ≡ Some i → is_live w id ≡ true
found_live id w i f e = by w.modules f.modules e
  where
    step : (x : Instance) (xs : List Instance) (t : Bool) → (x.id == id) ≡ t → is_live w x.id ≡ true → (instance_in id xs ≡ Some i → is_live w id ≡ true) → cond t (Some x) (instance_in id xs) ≡ Some i → is_live w id ≡ true
    step x xs true t h later e = ap (λ k. is_live w k) (sym (eqb-true x.id id t)) ∙ h
    step x xs false t h later e = later e

    by : (xs : List Instance) → Each (λ (i : Instance). is_live w i.id ≡ true) xs → instance_in id xs ≡ Some i → is_live w id ≡ true
    by [] h e = cc
    by (x ∷ xs) h e = step x xs (x.id == id) refl h.0 (by xs h.1) e

-- a module has a new state
live_state : (P : ℕ → Type 0) (id : ℕ) (state : List ℕ) (xs : List Instance) → Each (λ (i : Instance). P i.id) xs → Each (λ (i : Instance). P i.id) (with_state id state xs)
live_state P id state [] h = tt
live_state P id state (x ∷ xs) h = by (x.id == id) (live_state P id state xs h.1)
  where
    by : (t : Bool) → Each (λ (i : Instance). P i.id) (with_state id state xs) → Each (λ (i : Instance). P i.id) (cond t (record x { state = state } ∷ xs) (x ∷ with_state id state xs))
    by true later = h
    by false later = (h.0, later)

pub fits_changed : (id : ℕ) (state : List ℕ) (w : World) → Fits w → Fits (changed id state w)
fits_changed id state w f = record {
  nested = f.nested;
  dead = f.dead;
  modules = live_state (λ k. is_live w k ≡ true) id state w.modules f.modules;
  questions = f.questions;
}

-- more were created
pub fits_more : (w v : World) (more : List Record) → Fits w → v.records ≡ w.records ++ more → v.dead ≡ w.dead → v.modules ≡ w.modules → v.questions ≡ w.questions → AreNested 0 (w.records ++ more) → Fits v
fits_more w v more f records dead modules questions nested =
    let rises = length-append w.records more in
    let longer : length w.records ≤ length v.records = omega (arith, rises, ap (λ (rs : List Record). length rs) records) in
    record {
      nested = subst (AreNested 0) (sym records) nested;
      dead = subst (Each (λ k. k ≤ length v.records)) (sym dead) (each_map (λ k. k ≤ length w.records) (λ k. k ≤ length v.records) w.dead (λ k l. omega (arith, l, longer)) f.dead);
      modules = subst (Each (λ (i : Instance). is_live v i.id ≡ true)) (sym modules) (each_map (λ (i : Instance). is_live w i.id ≡ true) (λ (i : Instance). is_live v i.id ≡ true) w.modules (λ i e. live_more w v more i.id records dead e) f.modules);
      questions = subst (AllAbout (length v.records)) (sym questions) (AllAbout-more (length w.records) (length v.records) w.questions longer f.questions);
    }

-- some that live are deleted
pub fits_gone : (w : World) (ids : List ℕ) → Fits w → Each (λ k. k ≤ length w.records) ids → Fits (gone ids w)
fits_gone w ids f within = record {
  nested = f.nested;
  dead = each_append (λ k. k ≤ length w.records) w.dead ids f.dead within;
  modules = each_filter (λ (i : Instance). is_live w i.id ≡ true) (λ (i : Instance). is_live (gone ids w) i.id ≡ true) (λ (i : Instance). not (among i.id ids)) w.modules (λ i e n. live_gone w ids i.id e (not_among i.id ids n)) f.modules;
  questions = f.questions;
}

-- a question about a module that is there
pub fits_timed : (q : Question) (w : World) → Fits w → about q ≤ length w.records → Fits (timed q w)
fits_timed q w f l = record {
  nested = f.nested;
  dead = f.dead;
  modules = f.modules;
  questions = AllAbout-append (length w.records) w.questions (record { event = w.count; question = q } ∷ []) f.questions (l, tt);
}

pub fits_asked : (q : Question) (w : World) → Fits w → about q ≤ length w.records → Fits (asked q w)
fits_asked q w f l = by (is_asked q w.questions)
  where
    by : (t : Bool) → Fits (record w { questions = if t then w.questions else w.questions ++ record { event = w.count; question = q } ∷ [] })
    by true = record { nested = f.nested; dead = f.dead; modules = f.modules; questions = f.questions }
    by false = fits_timed q w f l

-- modules that live are placed
placed_one : (P : ℕ → Type 0) (i : Instance) (xs : List Instance) → P i.id → Each (λ (j : Instance). P j.id) xs → Each (λ (j : Instance). P j.id) (with_instance i xs)
placed_one P i [] p h = (p, tt)
placed_one P i (x ∷ xs) p h = by (nat_lt i.id x.id) (placed_one P i xs p h.1)
  where
    by : (t : Bool) → Each (λ (j : Instance). P j.id) (with_instance i xs) → Each (λ (j : Instance). P j.id) (if t then i ∷ x ∷ xs else x ∷ with_instance i xs)
    by true later = (p, h)
    by false later = (h.0, later)

placed_all : (b : Behaviour) (P : ℕ → Type 0) (ps : List Part) (xs : List Instance) → Each (λ (p : Part). P p.id) ps → Each (λ (j : Instance). P j.id) xs → Each (λ (j : Instance). P j.id) (with_instances (map (fresh b) ps) xs)
placed_all b P [] xs p h = h
placed_all b P (x ∷ ps) xs p h = placed_one P (fresh b x) (with_instances (map (fresh b) ps) xs) p.0 (placed_all b P ps xs p.1 h)

pub needed_live : (w : World) (ids : List ℕ) → ((k : ℕ) → among k ids ≡ true → is_live w k ≡ true) → Each (λ (p : Part). is_live w p.id ≡ true) (needs_of ids w)
needed_live w ids h = each_filter (λ (p : Part). Unit {0}) (λ (p : Part). is_live w p.id ≡ true) (λ (p : Part). among p.id ids) (parts_of w) (λ p u e. h p.id e) (each_any (parts_of w))
  where
    each_any : (ps : List Part) → Each (λ (p : Part). Unit {0}) ps
    each_any [] = tt
    each_any (p ∷ ps) = (tt, each_any ps)

pub fits_placed : (b : Behaviour) (w : World) (ids : List ℕ) → Fits w → ((k : ℕ) → among k ids ≡ true → is_live w k ≡ true) → Fits (placed b (needs_of ids w) w)
fits_placed b w ids f h = record {
  nested = f.nested;
  dead = f.dead;
  modules = placed_all b (λ k. is_live w k ≡ true) (needs_of ids w) w.modules (needed_live w ids h) f.modules;
  questions = f.questions;
}

-- submodules are created after the module around them
pub nested_more : (k : ℕ) (rs : List Record) (parent : ℕ) (bs : List Built) → AreNested k rs → parent ≤ k + length rs → AreNested k (rs ++ map (record_under parent) bs)
nested_more k [] parent [] h l = tt
nested_more k [] parent (b ∷ bs) h l = (omega (arith, l), nested_more (suc k) [] parent bs tt (omega (arith, l)))
nested_more k (r ∷ rs) parent bs h l = (h.0, nested_more (suc k) rs parent bs h.1 (omega (arith, l)))

pub nested_last : (k : ℕ) (rs : List Record) (r : Record) → AreNested k rs → r.parent ≤ k + length rs → AreNested k (rs ++ r ∷ [])
nested_last k [] r h l = (omega (arith, l), tt)
nested_last k (x ∷ rs) r h l = (h.0, nested_last (suc k) rs r h.1 (omega (arith, l)))

pub fits_built : (parent : ℕ) (bs : List Built) (w : World) → Fits w → parent ≤ length w.records → Fits (with_submodules parent bs w)
fits_built parent bs w f l = fits_more w (with_submodules parent bs w) (map (record_under parent) bs) f refl refl refl refl (nested_more 0 w.records parent bs f.nested (omega (arith, l)))

-- ---- growth

-- from the first world to the second, questions of the present event were asked, modules were
-- created, and no event was executed
pub record IsGrown (old new : World) : Type 0 where
  pub rest : List AskedQuestion
  pub joined : old.questions ++ rest ≡ new.questions
  pub present : AllOfEvent old.count rest
  pub count : new.count ≡ old.count
  pub more : List Record
  pub records : old.records ++ more ≡ new.records
  pub fits : Fits new

-- nothing was added
pub grown_same : (w : World) → Fits w → IsGrown w w
grown_same w f = record { rest = []; joined = append-nil w.questions; present = tt; count = refl; more = []; records = append-nil w.records; fits = f }

-- one growth and then another
pub grown_on : {u v w : World} → IsGrown u v → IsGrown v w → IsGrown u w
grown_on {u} {v} {w} f g = record {
  rest = f.rest ++ g.rest;
  joined = sym (append_assoc u.questions f.rest g.rest) ∙ (ap (λ ys. ys ++ g.rest) f.joined ∙ g.joined);
  present = AllOfEvent-append u.count f.rest g.rest f.present (subst (λ n. AllOfEvent n g.rest) f.count g.present);
  count = g.count ∙ f.count;
  more = f.more ++ g.more;
  records = sym (append_assoc u.records f.more g.more) ∙ (ap (λ ys. ys ++ g.more) f.records ∙ g.records);
  fits = g.fits;
}

-- what leaves records, questions and the count as they were
pub grown_beside : (u v : World) → Fits v → v.records ≡ u.records → v.questions ≡ u.questions → v.count ≡ u.count → IsGrown u v
grown_beside u v f records questions count = record {
  rest = [];
  joined = append-nil u.questions ∙ sym questions;
  present = tt;
  count = count;
  more = [];
  records = append-nil u.records ∙ sym records;
  fits = f;
}

-- the next part adds, where the flow goes on
pub then_grows : (fl : Flow) (k : World → Flow) → Fits (in_flow fl) → ((w : World) → Fits w → IsGrown w (in_flow (k w))) → IsGrown (in_flow fl) (in_flow (fl >>= k))
then_grows (On w) k f h = h w f
then_grows (Stopped w) k f h = grown_same w f
then_grows (Broken w path fault) k f h = grown_same w f

-- one part, and then the next
pub grown_then : (w : World) (fl : Flow) (k : World → Flow) → IsGrown w (in_flow fl) → ((w : World) → Fits w → IsGrown w (in_flow (k w))) → IsGrown w (in_flow (fl >>= k))
grown_then w fl k f h = grown_on f (then_grows fl k f.fits h)

-- of two ways on, whichever is taken
pub either_grows : (w : World) (c : Bool) (f g : Flow) → IsGrown w (in_flow f) → IsGrown w (in_flow g) → IsGrown w (in_flow (if c then f else g))
either_grows w true f g h k = h
either_grows w false f g h k = k

-- records become more
pub longer : (u v : World) → IsGrown u v → length u.records ≤ length v.records
longer u v g = omega (arith, length-append u.records g.more, ap (λ (rs : List Record). length rs) g.records)

-- the next part, where there are so many records
then_grows_where : (n : ℕ) (fl : Flow) (k : World → Flow) → Fits (in_flow fl) → n ≤ length (in_flow fl).records → ((w : World) → Fits w → n ≤ length w.records → IsGrown w (in_flow (k w))) → IsGrown (in_flow fl) (in_flow (fl >>= k))
then_grows_where n (On w) k f l h = h w f l
then_grows_where n (Stopped w) k f l h = grown_same w f
then_grows_where n (Broken w path fault) k f l h = grown_same w f

-- ---- questions

-- one more question about a module that is there
more_grows : (q : Question) (w : World) → Fits w → about q ≤ length w.records → IsGrown w (timed q w)
more_grows q w f l = record {
  rest = record { event = w.count; question = q } ∷ [];
  joined = refl;
  present = (refl, tt);
  count = refl;
  more = [];
  records = append-nil w.records;
  fits = fits_timed q w f l;
}

-- what is asked of the time of an event
pub timed_grows : (q : Question) (w : World) → Fits w → about q ≤ length w.records → IsGrown w (timed q w)
timed_grows q w f l = more_grows q w f l

-- one question, unless it was asked before
pub asked_grows : (q : Question) (w : World) → Fits w → about q ≤ length w.records → IsGrown w (asked q w)
asked_grows q w f l = by (is_asked q w.questions) (fits_asked q w f l)
  where
    by : (t : Bool) → Fits (record w { questions = if t then w.questions else w.questions ++ record { event = w.count; question = q } ∷ [] }) → IsGrown w (record w { questions = if t then w.questions else w.questions ++ record { event = w.count; question = q } ∷ [] })
    by true fits = record { rest = []; joined = append-nil w.questions; present = tt; count = refl; more = []; records = append-nil w.records; fits = fits }
    by false fits = more_grows q w f l

-- a question, and what follows it
pub asking_grows : (m : Answers) (q : Question) (next : Answer → World → Flow) (w : World) → Fits w → about q ≤ length w.records → ((a : Answer) → Fits (asked q w) → IsGrown (asked q w) (in_flow (next a (asked q w)))) → IsGrown w (in_flow (asking m q next w))
asking_grows m q next w f l h = let g = asked_grows q w f l in grown_on g (h (answer_of m w.records q) g.fits)

-- ---- setup

-- at first nothing stands and nothing was asked
pub fits_empty : Fits empty
fits_empty = record { nested = tt; dead = tt; modules = tt; questions = tt }

-- the network is created
pub network_grows : (name : List ℕ) → IsGrown (asked Root empty) (with_network name (asked Root empty))
network_grows name = record {
  rest = [];
  joined = refl;
  present = tt;
  count = refl;
  more = _;
  records = refl;
  fits = record { nested = (omega arith, tt); dead = tt; modules = tt; questions = (omega arith, tt) };
}

-- as was answered
pub rooted_grows : (found : Answer) → IsGrown (asked Root empty) (in_flow (rooted found (asked Root empty)))
rooted_grows (answer.Root name) = network_grows name
rooted_grows (answer.Class class) = grown_same _ (asked_grows Root empty fits_empty (omega arith)).fits
rooted_grows (answer.Inside bs) = grown_same _ (asked_grows Root empty fits_empty (omega arith)).fits
rooted_grows (answer.Value v) = grown_same _ (asked_grows Root empty fits_empty (omega arith)).fits
rooted_grows (answer.Gate g) = grown_same _ (asked_grows Root empty fits_empty (omega arith)).fits
rooted_grows (answer.Next next) = grown_same _ (asked_grows Root empty fits_empty (omega arith)).fits
rooted_grows (answer.Fault path f) = grown_same _ (asked_grows Root empty fits_empty (omega arith)).fits
rooted_grows (answer.Beyond beyond) = grown_same _ (asked_grows Root empty fits_empty (omega arith)).fits
rooted_grows (answer.Injection next) = grown_same _ (asked_grows Root empty fits_empty (omega arith)).fits
rooted_grows answer.Absent = grown_same _ (asked_grows Root empty fits_empty (omega arith)).fits

-- submodules are created
pub submodules_grow : (parent : ℕ) (bs : List Built) (w : World) → Fits w → parent ≤ length w.records → IsGrown w (with_submodules parent bs w)
submodules_grow parent bs w f l = record {
  rest = [];
  joined = append-nil w.questions;
  present = tt;
  count = refl;
  more = map (record_under parent) bs;
  records = refl;
  fits = fits_built parent bs w f l;
}

-- unless they are too many
many_grow : (parent : ℕ) (bs : List Built) (w : World) (one : Option Built) → Fits w → parent ≤ length w.records → IsGrown w (in_flow (unless_many parent bs w one))
many_grow parent bs w (Some b) f l = grown_same w f
many_grow parent bs w None f l = submodules_grow parent bs w f l

-- as was answered
pub created_grows : (parent : ℕ) (found : Answer) (w : World) → Fits w → parent ≤ length w.records → IsGrown w (in_flow (created parent found w))
created_grows parent (answer.Inside bs) w f l = many_grow parent bs w (slice_get bs (room_in w)) f l
created_grows parent (answer.Class class) w f l = grown_same w f
created_grows parent (answer.Root name) w f l = grown_same w f
created_grows parent (answer.Value v) w f l = grown_same w f
created_grows parent (answer.Gate g) w f l = grown_same w f
created_grows parent (answer.Next next) w f l = grown_same w f
created_grows parent (answer.Fault path fault) w f l = grown_same w f
created_grows parent (answer.Beyond beyond) w f l = grown_same w f
created_grows parent (answer.Injection next) w f l = grown_same w f
created_grows parent answer.Absent w f l = grown_same w f

-- a setup only asks and creates
pub growth_lasts : (u : World) → IsLasting (IsGrown u)
growth_lasts u = record {
  asked = λ id w g l. grown_on g (asked_grows (Build id) w g.fits l);
  created = λ parent bs w g l e. grown_on g (submodules_grow parent bs w g.fits l);
}

-- so does that of one module
pub set_up_grows : (m : Answers) (depth id : ℕ) (w : World) → Fits w → id ≤ length w.records → IsGrown w (in_flow (set_up depth m id w))
set_up_grows m depth id w f l = (stays_in _ (set_up depth m id w) (set_up_stays (IsGrown w) (growth_lasts w) depth m 0 id w (grown_same w f) (omega arith) l)).0
