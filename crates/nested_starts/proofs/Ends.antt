-- Where a model ends the nesting, modules stand at most 32 levels down.
use Rattle.std.proofs.Common.{◌≡◌, ◌⊎◌, inl, inr, ⊎_elim, ℕ, zero, suc, ◌+◌, ◌≤◌, ◌<◌, List, [], ◌∷◌, Option, Some, None, refl, sym, ap, ◌∙◌, subst, arith, append-nil, length, slice_get}
use Rattle.std.proofs.lemmas.Bool.{cases_lt}
use Rattle.module_api.specs.Behaviour.{Behaviour}
use Rattle.model_questions.specs.declared.answer.Answer.{Answer}
use Rattle.model_questions.specs.declared.answer.Answer.TheVariants as answer
use Rattle.model_questions.specs.declared.answer.Built.{Built}
use Rattle.model_questions.specs.declared.answer.Question.TheVariants.{Root, Build}
use Rattle.model_questions.specs.declared.record.Record.{Record}
use Rattle.model_questions.specs.Answers.{Answers, answer_of}
use Rattle.model_questions.specs.Records.{lineage_up, place_of, record_at, with_those_around}
use Rattle.run_semantics.specs.Laws.{Each}
use Rattle.run_semantics.specs.Subtree.{ids_from, without}
use Rattle.run_semantics.specs.World.{World, asked, live_of}
use Rattle.run_semantics.specs.Perform.{Flow, ◌>>=◌, for_each}
use Rattle.run_semantics.specs.Run.{with_submodules, built, compounds_from, inside_of, room_in, set_up, unless_many, world_at, after}
use Rattle.run_semantics.proofs.Setting.{Stays}
use Rattle.nested_starts.specs.Levels.{ParentIs, IsWithin, EndsNesting}
use Rattle.nested_starts.proofs.Kept.{kept_within}
use Rattle.nested_starts.proofs.Levels.{Builds, Nests, SetsUp, asked_builds, asked_nests, built_builds, builds_same}

-- ---- the line of a module, by how far down it stands

network_first : (rs : List Record) → 1 ≤ length rs → length (lineage_up 1 rs 1) ≡ 1
network_first [] l = absurd (omega (arith, l))
network_first (r ∷ rs) l = refl

none_within : (o : Option Record) → ParentIs (λ id. ⊥) o → ⊥
none_within None h = h
none_within (Some r) h = h

-- a module of that level stands less far down, or all of its line are there
line_whole : (rs : List Record) (live : List ℕ) (k id : ℕ) → 1 ≤ length rs → IsWithin rs live (suc k) id → IsWithin rs live k id ⊎ (length (lineage_up (suc k) rs id) ≡ suc k)
line_whole rs live zero id l (inl e) = inr (subst (λ n. length (lineage_up 1 rs n) ≡ 1) (sym e) (network_first rs l))
line_whole rs live zero id l (inr h) = absurd (none_within (record_at rs id) h.1)
line_whole rs live (suc k) id l (inl e) = inl (inl e)
line_whole rs live (suc k) id l (inr h) = by (record_at rs id) refl h.1 (λ r. line_whole rs live k r.parent l)
  where
    by : (o : Option Record) → record_at rs id ≡ o → ParentIs (IsWithin rs live (suc k)) o → ((r : Record) → IsWithin rs live (suc k) r.parent → IsWithin rs live k r.parent ⊎ (length (lineage_up (suc k) rs r.parent) ≡ suc k))
        → IsWithin rs live (suc k) id ⊎ (length (lineage_up (suc (suc k)) rs id) ≡ suc (suc k))
    by None e g later = absurd g
    by (Some r) e g later =
        ⊎_elim (λ (i : IsWithin rs live k r.parent). inl (inr (h.0, subst (ParentIs (IsWithin rs live k)) (sym e) i)))
        (λ (same : length (lineage_up (suc k) rs r.parent) ≡ suc k). inr (ap (λ o. length (with_those_around (lineage_up (suc k) rs) o)) e ∙ ap suc same))
        (later r g)

place_whole : (rs : List Record) (live : List ℕ) (id : ℕ) → 1 ≤ length rs → IsWithin rs live 32 id → IsWithin rs live 31 id ⊎ (length (place_of rs id) ≡ 32)
unfolding place_of
place_whole rs live id l h = line_whole rs live 31 id l h

-- ---- a setup

-- nothing is created
nothing_builds : (n id : ℕ) (part : ℕ → World → Flow) (w : World) (one : Option Built) → Nests n w → Stays (Builds n w) (unless_many id [] w one >>= for_each part (compounds_from (suc (length w.records)) []))
nothing_builds n id part w (Some b) h = builds_same n w h
nothing_builds n id part w None h =
    let records = sym (append-nil w.records) in
    let live : live_of w ≡ live_of (with_submodules id [] w) = ap (λ (rs : List Record). without (ids_from 1 rs) w.dead) records in
    record {
      records = ([], refl);
      live = ([], append-nil (live_of w) ∙ live);
      nests = record {
        network = subst (λ (rs : List Record). 1 ≤ length rs) records h.network;
        dead = subst (λ (rs : List Record). Each (λ k. k ≤ length rs) w.dead) records h.dead;
        all = subst (λ (rs : List Record). Each (IsWithin rs (without (ids_from 1 rs) w.dead) n) (without (ids_from 1 rs) w.dead)) records h.all;
      };
    }

ended_builds : (n id : ℕ) (part : ℕ → World → Flow) (found : Answer) (w : World) → inside_of found ≡ [] → Nests n w → Stays (Builds n w) (built part id found w)
ended_builds n id part (answer.Inside bs) w e h = subst (λ xs. Stays (Builds n w) (built part id (answer.Inside xs) w)) (sym e) (nothing_builds n id part w (slice_get [] (room_in w)) h)
ended_builds n id part (answer.Class class) w e h = builds_same n w h
ended_builds n id part (answer.Root name) w e h = builds_same n w h
ended_builds n id part (answer.Value v) w e h = builds_same n w h
ended_builds n id part (answer.Gate gate) w e h = builds_same n w h
ended_builds n id part (answer.Next next) w e h = builds_same n w h
ended_builds n id part (answer.Fault path fault) w e h = builds_same n w h
ended_builds n id part (answer.Beyond beyond) w e h = builds_same n w h
ended_builds n id part (answer.Injection next) w e h = builds_same n w h
ended_builds n id part answer.Absent w e h = builds_same n w h

no_levels : (k : ℕ) (m : Answers) → SetsUp 32 k (set_up zero m)
no_levels k m id w g h = builds_same 32 w h

-- a module of the last level
last_builds : (m : Answers) → EndsNesting m → (id : ℕ) (w : World) → IsWithin w.records (live_of w) 32 id → Nests 32 w → Stays (Builds 32 w) (built (set_up zero m) id (answer_of m w.records (Build id)) w)
last_builds m ends id w g h =
    ⊎_elim (λ (i : IsWithin w.records (live_of w) 31 id). built_builds 32 31 id (set_up zero m) (answer_of m w.records (Build id)) w (omega arith) (no_levels 32 m) i h)
    (λ (e : length (place_of w.records id) ≡ 32). ended_builds 32 id (set_up zero m) (answer_of m w.records (Build id)) w (ends (place_of w.records id) e) h)
    (place_whole w.records (live_of w) id h.network g)

ends_builds : (depth k : ℕ) (m : Answers) → EndsNesting m → k + depth ≤ 33 → SetsUp 32 k (set_up depth m)
ends_builds zero k m ends l id w g h = builds_same 32 w h
ends_builds (suc depth) k m ends l id w g h = asked_builds 32 id w (set_up (suc depth) m id w) (by (cases_lt k 32) (ends_builds depth (suc k) m ends (omega (arith, l))))
  where
    by : (k < 32) ⊎ (32 ≤ k) → SetsUp 32 (suc k) (set_up depth m) → Stays (Builds 32 (asked (Build id) w)) (built (set_up depth m) id (answer_of m w.records (Build id)) (asked (Build id) w))
    by (inl few) later = built_builds 32 k id (set_up depth m) (answer_of m w.records (Build id)) (asked (Build id) w) (omega (arith, few)) later g (asked_nests 32 id w h)
    by (inr many) later =
        let level : k ≡ 32 = omega (arith, l, many) in
        let none : zero ≡ depth = omega (arith, l, many) in
        let at : IsWithin w.records (live_of w) 32 id = subst (λ n. IsWithin w.records (live_of w) n id) level g in
        subst (λ d. Stays (Builds 32 (asked (Build id) w)) (built (set_up d m) id (answer_of m w.records (Build id)) (asked (Build id) w))) none (last_builds m ends id (asked (Build id) w) at (asked_nests 32 id w h))

pub nested_after : (b : Behaviour) (m : Answers) → EndsNesting m → (n : ℕ) → let w = world_at (after b m n) in Each (IsWithin w.records (live_of w) 32) (live_of w)
nested_after b m ends n = kept_within b m 32 (omega arith) (omega arith) (λ depth k l. ends_builds depth k m ends l) n
