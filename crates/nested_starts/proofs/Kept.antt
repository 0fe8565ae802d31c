-- All that live stand at most so many levels down, all through a run.
use Rattle.std.proofs.Common.{◌≡◌, inl, inr, ℕ, zero, suc, ◌+◌, ◌≤◌, ◌<◌, false, true, List, [], ◌∷◌, ◌++◌, Option, Some, None, refl, sym, ap, ◌∙◌, subst, arith, length}
use Rattle.event_set.proofs.Order.{each_append, each_map}
use Rattle.module_api.specs.Behaviour.{Behaviour}
use Rattle.module_api.specs.declared.reply.Creation.{Creation}
use Rattle.model_questions.specs.declared.record.Record.{Record}
use Rattle.model_questions.specs.Answers.{Answers}
use Rattle.model_questions.specs.Records.{lineage_up, place_of, record_at, with_those_around}
use Rattle.model_questions.proofs.AnswerLemmas.{last_at}
use Rattle.run_semantics.specs.Creating.{is_full, levels_in, record_for, with_created}
use Rattle.run_semantics.specs.Event.{begun}
use Rattle.run_semantics.specs.Laws.{Each}
use Rattle.run_semantics.specs.Run.{set_up, most_nested, with_network, world_at, after}
use Rattle.model_questions.specs.declared.answer.Question.TheVariants.{Root}
use Rattle.run_semantics.specs.World.{World, asked, empty, is_live, live_of}
use Rattle.run_semantics.proofs.Alive.{live_within}
use Rattle.run_semantics.proofs.Always.{LastsAlways, always}
use Rattle.run_semantics.proofs.Bounds.{created_live}
use Rattle.run_semantics.proofs.Growth.{Fits}
use Rattle.run_semantics.proofs.Lasting.{HasLevels, Lasts, not_full}
use Rattle.run_semantics.proofs.Setting.{Stays, stays_as}
use Rattle.nested_starts.specs.Levels.{ParentIs, IsWithin}
use Rattle.nested_starts.proofs.Levels.{AllWithin, Builds, SetsUp, set_up_builds, within_on}
use Rattle.nested_starts.proofs.Within.{AreWithin, among_back, among_is, each_there, gone_within, live_above, within_most}

-- ---- lines that end

line_first : (rs : List Record) → 1 ≤ length rs → (j : ℕ) → (k : ℕ) × (length (lineage_up (suc j) rs 1) ≡ suc k)
line_first [] l j = absurd (omega (arith, l))
line_first (r ∷ rs) l j = (length (lineage_up j (r ∷ rs) r.parent), refl)

-- where the line of a module is cut nowhere, the module stands as far down as it has records
by_line : (rs : List Record) (live : List ℕ) (n j id : ℕ) → 1 ≤ length rs → IsWithin rs live n id → length (lineage_up j rs id) < j → IsWithin rs live (length (lineage_up j rs id)) id
by_line rs live zero j id l h short = absurd h
by_line rs live (suc n) zero id l h short = absurd (omega (arith, short))
by_line rs live (suc n) (suc j) id l (inl e) short =
    let first = line_first rs l j in
    let here : IsWithin rs live (suc first.0) id = inl e in
    subst (λ k. IsWithin rs live k id) (sym (ap (λ i. length (lineage_up (suc j) rs i)) e ∙ first.1)) here
by_line rs live (suc n) (suc j) id l (inr h) short = by (record_at rs id) refl h.1 short (λ r. by_line rs live n j r.parent l)
  where
    by : (o : Option Record) → record_at rs id ≡ o → ParentIs (IsWithin rs live n) o → length (with_those_around (lineage_up j rs) o) < suc j
        → ((r : Record) → IsWithin rs live n r.parent → length (lineage_up j rs r.parent) < j → IsWithin rs live (length (lineage_up j rs r.parent)) r.parent)
        → IsWithin rs live (length (with_those_around (lineage_up j rs) o)) id
    by None e g few later = absurd g
    by (Some r) e g few later = inr (h.0, subst (ParentIs (IsWithin rs live (length (lineage_up j rs r.parent)))) (sym e) (later r g (omega (arith, few))))

-- there are levels left below a module in which one is created
short_line : (parent : ℕ) (w : World) → is_full (levels_in parent w) ≡ false → length (lineage_up 32 w.records parent) < 32
unfolding place_of most_nested
short_line parent w e = let some = not_full (levels_in parent w) e in omega (arith, some)

-- where a module lives there is one
one_there : (w : World) (id : ℕ) → is_live w id ≡ true → 1 ≤ length w.records
one_there w id live = let above = live_above w id live in let within = live_within w id live in omega (arith, above, within)

-- ---- what happens in a run

module _ (b : Behaviour) (m : Answers) (n : ℕ) (least : 32 ≤ n) (few : n ≤ 33) (sets : (depth k : ℕ) → k + depth ≤ 33 → SetsUp n k (set_up depth m)) where
  -- a module that lives
  one_within : (w : World) (id : ℕ) → is_live w id ≡ true → AreWithin n w → IsWithin w.records (live_of w) n id
  one_within w id live h = each_there (IsWithin w.records (live_of w) n) id (live_of w) h (among_is id (live_of w) live)

  -- one that is created
  new_within : (parent : ℕ) (r : Record) (w : World) (live : List ℕ) → r.parent ≡ parent → IsWithin w.records live (length (lineage_up 32 w.records parent)) parent → length (lineage_up 32 w.records parent) < 32
      → IsWithin (w.records ++ r ∷ []) (live ++ suc (length w.records) ∷ []) n (suc (length w.records))
  new_within parent r w live e h short =
      let rs : List Record = w.records in
      let k : ℕ = length (lineage_up 32 rs parent) in
      let ids : List ℕ = live ++ suc (length rs) ∷ [] in
      let around : IsWithin (rs ++ r ∷ []) ids k r.parent = subst (λ i. IsWithin (rs ++ r ∷ []) ids k i) (sym e) (within_on rs (r ∷ []) live (suc (length rs) ∷ []) k parent h) in
      let here : IsWithin (rs ++ r ∷ []) ids (suc k) (suc (length rs)) =
      inr (among_back (suc (length rs)) live (suc (length rs) ∷ []) (inl refl), subst (ParentIs (IsWithin (rs ++ r ∷ []) ids k)) (sym (last_at rs r)) around) in
      within_most (rs ++ r ∷ []) ids (suc k) n (suc (length rs)) (omega (arith, short, least)) here

  created_within : (parent : ℕ) (c : Creation) (class : Option (List ℕ)) (w : World) → is_live w parent ≡ true → is_full (levels_in parent w) ≡ false → Fits w → AreWithin n w → AreWithin n (with_created parent c class w)
  created_within parent c class w live deep f h =
      let rs : List Record = w.records in
      let r : Record = record_for parent c class in
      let v : World = with_created parent c class w in
      let short = short_line parent w deep in
      let ids : List ℕ = live_of w ++ suc (length rs) ∷ [] in
      let stands = by_line rs (live_of w) n 32 parent (one_there w parent live) (one_within w parent live h) short in
      let next : 1 + length rs ≡ suc (length rs) = omega arith in
      let whole : live_of v ≡ ids = created_live w v (r ∷ []) f.dead refl refl ∙ ap (λ k. live_of w ++ k ∷ []) next in
      let all : Each (IsWithin v.records ids n) ids =
      each_append (IsWithin v.records ids n) (live_of w) (suc (length rs) ∷ [])
      (each_map (IsWithin rs (live_of w) n) (IsWithin v.records ids n) (live_of w) (λ id g. within_on rs (r ∷ []) (live_of w) (suc (length rs) ∷ []) n id g) h)
      (new_within parent r w (live_of w) refl stands short, tt) in
      subst (λ is. Each (IsWithin v.records is n) is) (sym whole) all

  set_up_within : (depth id : ℕ) (w : World) → is_live w id ≡ true → HasLevels depth id w → Fits w → AreWithin n w → Stays (AreWithin n) (set_up depth m id w)
  set_up_within zero id w live levels f h = h
  set_up_within (suc depth) id w live levels f h =
      let k : ℕ = length (lineage_up 33 w.records id) in
      let stands : IsWithin w.records (live_of w) k id = by_line w.records (live_of w) n 33 id (one_there w id live) (one_within w id live h) (omega (arith, levels)) in
      stays_as (Builds n w) (AreWithin n) (set_up (suc depth) m id w) (λ v d. d.nests.all)
      (sets (suc depth) k levels id w stands (record { network = one_there w id live; dead = f.dead; all = h }))

  lasts : Lasts b m (AreWithin n)
  lasts = record {
    asked = λ q w a f g h. h;
    emitted = λ e w c t f g h. h;
    recorded = λ s w f g h. h;
    inserted = λ e w c t live short f g h. h;
    cancelled = λ id timer w f g h. h;
    transmitted = λ ts w f g h. h;
    joined = λ gate to w f g h. h;
    ended = λ w f g h. h;
    called = λ id reason i w e f g h. h;
    finished = λ id w f g h. h;
    gone = λ target w live f g h. gone_within n target w few f live h;
    created = λ parent c class w live room deep f g h. created_within parent c class w live deep f h;
    set_up = set_up_within;
    started = λ ids w e live fresh f g h. h;
  }

  lasts_always : LastsAlways b m (AreWithin n)
  lasts_always = record {
    lasts = lasts;
    at_first = tt;
    network = λ name. let w : World = with_network name (asked Root empty) in (within_most w.records (live_of w) 1 n 1 (omega (arith, least)) (inl refl), tt);
    begins = λ w u p rest e looked f h. subst (λ (v : World). AreWithin n (begun p rest v)) looked.same h;
  }

  -- ALL THROUGH A RUN
  pub kept_within : (k : ℕ) → AreWithin n (world_at (after b m k))
  kept_within k = always b m (AreWithin n) lasts_always k

-- whatever the model makes inside of modules
pub within_after : (b : Behaviour) (m : Answers) (k : ℕ) → AllWithin (world_at (after b m k))
within_after b m k = kept_within b m 33 (omega arith) (omega arith) (λ depth level l. set_up_builds 33 depth level m l) k
