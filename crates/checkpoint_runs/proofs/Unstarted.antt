-- After setup no module was started, none is dead, and all simple modules need boxes.
use Rattle.std.proofs.Common.{◌≡◌, ℕ, suc, ◌==◌, ◌||◌, Bool, true, false, cond, not, List, [], ◌∷◌, Option, Some, None, refl, ap, ◌∙◌, eq-eqb}
use Rattle.std.specs.List.{filter}
use Rattle.model_questions.specs.Answers.{Answers}
use Rattle.model_questions.specs.declared.record.Record.{Record}
use Rattle.run_semantics.specs.Laws.{Each}
use Rattle.run_semantics.specs.Run.{Part, parts_from, parts_of, prepared, unstarted, with_class}
use Rattle.run_semantics.specs.Subtree.{among, ids_from}
use Rattle.run_semantics.specs.World.{World, live_of}
use Rattle.run_semantics.proofs.Living.{all_live}
use Rattle.run_semantics.proofs.Setting.{IsLasting, Stays, prepared_stays}
use Rattle.kernel.specs.Seats.{needs}

-- no module stands or was started, and none is dead
pub record IsBuilt (w : World) : Type 0 where
  pub dead : w.dead ≡ []
  pub modules : w.modules ≡ []
  pub started : w.started ≡ []

-- a setup leaves it so
built_lasts : IsLasting IsBuilt
built_lasts = record {
  asked = λ id w f l. record { dead = f.dead; modules = f.modules; started = f.started };
  created = λ parent bs w f l few. record { dead = f.dead; modules = f.modules; started = f.started };
}

-- so it is after setup
pub prepared_built : (m : Answers) → Stays IsBuilt (prepared m)
prepared_built m = prepared_stays IsBuilt m built_lasts (record { dead = refl; modules = refl; started = refl }) (λ name. record { dead = refl; modules = refl; started = refl })

-- the ids of parts are those of records, and so among whatever those are among
parts_there : (ids : List ℕ) (k : ℕ) (rs : List Record) → ((n : ℕ) → among n (ids_from k rs) ≡ true → among n ids ≡ true) → Each (λ (p : Part). among p.id ids ≡ true) (parts_from k rs)
parts_there ids k [] h = tt
parts_there ids k (r ∷ rs) h = by r.class (parts_there ids (suc k) rs (λ n e. h n (later (k == n) (among n (ids_from (suc k) rs)) e)))
  where
    later : (t u : Bool) → u ≡ true → (t || u) ≡ true
    later true u e = refl
    later false u e = e

    by : (class : Option (List ℕ)) → Each (λ (p : Part). among p.id ids ≡ true) (parts_from (suc k) rs) → Each (λ (p : Part). among p.id ids ≡ true) (with_class k class (parts_from (suc k) rs))
    by None rest = rest
    by (Some kind) rest = (h k (ap (λ t. t || among k (ids_from (suc k) rs)) (eq-eqb k k refl)), rest)

-- where all pass all stay
all_pass : {X : Type 0} (f : X → Bool) (xs : List X) → Each (λ x. f x ≡ true) xs → filter f xs ≡ xs
all_pass f [] h = refl
all_pass f (x ∷ xs) h = ap (λ t. cond t (x ∷ filter f xs) (filter f xs)) h.0 ∙ ap (λ ys. x ∷ ys) (all_pass f xs h.1)

each_so : {X : Type 0} (P : X → Type 0) (xs : List X) → ((x : X) → P x) → Each P xs
each_so P [] h = tt
each_so P (x ∷ xs) h = (h x, each_so P xs h)

pub needs_all : (w : World) → w.dead ≡ [] → w.started ≡ [] → needs w ≡ parts_of w
needs_all w dead started =
    let none : unstarted w ≡ ids_from 1 w.records =
    ap (λ ids. filter (λ id. not (among id ids)) (live_of w)) started
    ∙ (all_pass (λ id. not (among id [])) (live_of w) (each_so (λ id. not (among id []) ≡ true) (live_of w) (λ id. refl)) ∙ all_live w dead) in
    ap (λ ids. filter (λ (p : Part). among p.id ids) (parts_of w)) none
    ∙ all_pass (λ (p : Part). among p.id (ids_from 1 w.records)) (parts_of w) (parts_there (ids_from 1 w.records) 1 w.records (λ n e. e))
