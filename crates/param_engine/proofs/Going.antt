-- The steps of a question, on lists.
use Rattle.std.proofs.Common.{ℕ, suc, ◌+◌, ◌^◌, ◌≡◌, ◌≤◌, ◌<◌, refl, sym, ◌∙◌, ap, subst, Bool, true, false, cond, true≢false, ◌||◌, List, [], ◌∷◌, ◌++◌, length, Option, Some, None, Result, Ok, Err, arith}
use Rattle.std.proofs.lemmas.List.{append_assoc, append-nil}
use Rattle.std.specs.List.{list_any}
use Rattle.param_following.specs.Asking.{Asking, Done, Ask, outcome}
use Rattle.param_following.specs.Edits.{answer_of}
use Rattle.param_following.specs.Following.{Rules, is_on, value_within, followed, value_of, or_circle}
use Rattle.param_following.specs.Laws.{IsExact}
use Rattle.param_following.specs.Waiting.{IsRight, Waiter, keys_of, bottom_of}
use Rattle.param_following.proofs.Chains.{comes_more, waiting_more, goes_on, comes_to_end, fault_below, circle_found, right_stays}
use Rattle.param_following.proofs.Circles.{followed_more, count, no_circle}
use Rattle.param_following.proofs.Outcomes.{none_some}
use Rattle.param_engine.specs.declared.frame.Frame.{Frame}
use Rattle.param_engine.specs.Tables.{Entries, Known, known, key_of_entry, value_of_entry, said, IsKept, Begins}
use Rattle.param_engine.specs.Working.{Grows, HasAsked, GoesOn, Opened, Stand, waiters, HaveAsked, IsGoingAt, IsGoing, IsAnswered, AreBegunOnce}
use Rattle.param_engine.specs.Steps.{IsBusy}
use Rattle.param_engine.proofs.Entries.{known_stays, known_new, slice_get_last, length_more, last_is}
use Rattle.param_engine.proofs.Noting.{all_noted_more, noted_push, asked_nothing, asked_more, asked_on, asked_all, asked_moved}

length_keys : {K V F : Type 0} (ws : List (Waiter K V F)) → length (keys_of ws) ≡ length ws
length_keys [] = refl
length_keys (w ∷ ws) = ap suc (length_keys ws)

-- a list with one at its end is not empty
not_empty : {X : Type 0} (xs : List X) (x : X) → [] ≡ xs ++ x ∷ [] → ⊥
not_empty xs x h = let e : 0 ≡ suc (length xs) = ap length h ∙ length_more xs x in absurd (omega (arith, e))

-- ---- what is found is the value

module _ {K V F : Type 0} (rules : Rules K V F) (exact : IsExact rules) where
  -- at any bound that is great enough
  within_bound : (n bound : ℕ) (k : K) (r : Result V F) → n ≤ bound → value_within rules n [] k ≡ Some r → or_circle rules.circle (value_within rules bound [] k) ≡ r
  within_bound n bound k r le h = ap (or_circle rules.circle) (count rules n bound [] k r le h)

  pub value_found : (n : ℕ) (k : K) (r : Result V F) → n ≤ 2 ^ 64 → value_within rules n [] k ≡ Some r → value_of rules k ≡ r
  unfolding value_of
  value_found n k r le h = within_bound n (2 ^ 64) k r le h

  pub value_followed : (n : ℕ) (k : K) (r : Result V F) → n ≤ 2 ^ 64 → followed rules n k ≡ Some r → value_of rules k ≡ r
  value_followed n k r le h = value_found n k r le (no_circle rules exact n [] k r (λ s on. absurd (true≢false (sym on))) h)

  -- a table knows values
  pub kept_value : (es : Entries K V) (k : K) (v : V) → IsKept rules es → length es ≤ 2 ^ 64 → known rules.same es k ≡ Some v → value_of rules k ≡ Ok v
  kept_value es k v h le e = value_followed (length es) k (Ok v) le (h.right k v e)

  -- and none where it is empty
  pub empty_kept : (es : Entries K V) → es ≡ [] → IsKept rules es
  empty_kept es e = subst (IsKept rules) (sym e) (record { right = λ k v h. absurd (none_some h); noted = tt })

-- ---- the keys that are being evaluated

module _ {K V F E : Type 0} (rules : Rules K V F) (resumed : E → V → Asking K V F V) where
  on_push : (j k : K) (ks : List K) → list_any (rules.same j) (ks ++ k ∷ []) ≡ cond (rules.same j k) true (list_any (rules.same j) ks)
  on_push j k [] = by (rules.same j k)
    where
      by : (b : Bool) → (b || false) ≡ cond b true false
      by true = refl
      by false = refl
  on_push j k (x ∷ ks) = by (rules.same j x) (rules.same j k) (on_push j k ks)
    where
      by : (a b : Bool) → list_any (rules.same j) (ks ++ k ∷ []) ≡ cond b true (list_any (rules.same j) ks)
          → (a || list_any (rules.same j) (ks ++ k ∷ [])) ≡ cond b true (a || list_any (rules.same j) ks)
      by true true h = refl
      by true false h = refl
      by false b h = h

  -- a key is among them where it goes on or waits
  pub open_is : (j : K) (keys : List K) (frames : List (Frame E)) (k : K) (os : List (Opened K E)) → Stand keys frames k os
      → list_any (rules.same j) keys ≡ is_on rules.same j (k ∷ keys_of (waiters resumed os))
  open_is j keys frames k [] s = ap (list_any (rules.same j)) s.0 ∙ on_push j k []
  open_is j keys frames k (o ∷ os) (ks, fs, p, q, r) = ap (list_any (rules.same j)) p ∙ on_push j k ks ∙ ap (cond (rules.same j k) true) (open_is j ks fs o.0 os r)

  pub length_stand : (keys : List K) (frames : List (Frame E)) (k : K) (os : List (Opened K E)) → Stand keys frames k os → length keys ≡ suc (length (waiters resumed os))
  length_stand keys frames k [] s = ap length s.0
  length_stand keys frames k (o ∷ os) (ks, fs, p, q, r) = ap length p ∙ length_more ks k ∙ ap suc (length_stand ks fs o.0 os r)

  module _ (exact : IsExact rules) (start : Entries K V) (asked : K) where
    on_head : (k : K) (ks : List K) → is_on rules.same k (k ∷ ks) ≡ true
    on_head k ks = ap (λ b. cond b true (is_on rules.same k ks)) (exact.self k)

    on_next : (s k : K) (ks : List K) → is_on rules.same s ks ≡ true → is_on rules.same s (k ∷ ks) ≡ true
    on_next s k ks h = by (rules.same s k)
      where
        by : (b : Bool) → cond b true (is_on rules.same s ks) ≡ true
        by true = refl
        by false = h

    -- a question begins
    pub started : (keys : List K) (frames : List (Frame E)) (places : List ℕ) (t : Asking K V F V) (es : Entries K V) (begun : ℕ)
        → IsKept rules start → known rules.same start asked ≡ None → keys ≡ asked ∷ [] → frames ≡ [] → places ≡ [] → t ≡ rules.asking asked → es ≡ start → begun ≡ 1
        → IsGoing rules resumed start asked es begun keys frames places t
    started keys frames places t es begun kept none p q r s e n =
        subst (λ x. IsGoing rules resumed start asked x begun keys frames places t) (sym e)
        (subst (λ x. IsGoing rules resumed start asked start begun keys frames x t) (sym r) (
          asked,
          [],
          record {
            stand = (p, q);
            kept = kept;
            comes = λ answers agrees. ap (λ x. outcome answers x) (sym s);
            noting = asked_nothing start (known rules.same start) (rules.asking asked) t s;
            waiting = tt;
            notings = tt;
            bottom = refl;
            unknown = λ j on. by j (rules.same j asked) refl on;
            distinct = (refl, tt);
            begins = ([], sym (append-nil start));
            count = omega (arith, n, ap length p);
          },
        ))
      where
        by : (j : K) (b : Bool) → rules.same j asked ≡ b → cond b true false ≡ true → known rules.same start j ≡ None
        by j true e h = ap (known rules.same start) (exact.same j asked e) ∙ none
        by j false e h = absurd (true≢false (sym h))

    -- the same, as the code has it
    pub moved : (es after : Entries K V) (begun counted : ℕ) (keys ks : List K) (frames fs : List (Frame E)) (places further : List ℕ) (t : Asking K V F V)
        → after ≡ es → counted ≡ begun → ks ≡ keys → fs ≡ frames → further ≡ places
        → IsGoing rules resumed start asked es begun keys frames places t → IsGoing rules resumed start asked after counted ks fs further t
    moved es after begun counted keys ks frames fs places further t a b c d e g =
        subst (λ x. IsGoing rules resumed start asked x counted ks fs further t) (sym a)
        (subst (λ x. IsGoing rules resumed start asked es x ks fs further t) (sym b)
        (subst (λ x. IsGoing rules resumed start asked es begun x fs further t) (sym c)
        (subst (λ x. IsGoing rules resumed start asked es begun keys x further t) (sym d)
        (subst (λ x. IsGoing rules resumed start asked es begun keys frames x t) (sym e) g))))

    module _ (es : Entries K V) (begun : ℕ) (keys : List K) (frames : List (Frame E)) (places : List ℕ) where
      -- the evaluation goes on by what is known
      pub proceeded : (t : Asking K V F V) (further : List ℕ) (u w : Asking K V F V) → GoesOn es (known rules.same es) places t further u → u ≡ w
          → IsGoing rules resumed start asked es begun keys frames places t → IsGoing rules resumed start asked es begun keys frames further w
      proceeded t further u w h e (k, os, g) = (
        k,
        os,
        record {
          stand = g.stand;
          kept = g.kept;
          comes = λ answers agrees. g.comes answers agrees ∙ h.comes answers agrees ∙ ap (outcome answers) e;
          noting = subst (HasAsked es (known rules.same es) (rules.asking k) further) e (h.asked (rules.asking k) g.noting);
          waiting = g.waiting;
          notings = g.notings;
          bottom = g.bottom;
          unknown = g.unknown;
          distinct = g.distinct;
          begins = g.begins;
          count = g.count;
        },
      )

      pub busy : (t : Asking K V F V) (table : Known K V) → table.entries ≡ es → table.begun ≡ begun
          → IsGoing rules resumed start asked es begun keys frames places t → IsBusy rules.same table keys
      busy t table p q (k, os, g) = record {
        some = omega (arith, length_stand keys frames k os g.stand);
        counted = omega (arith, g.count, ap length p, q);
        unknown = λ j on. ap (λ x. known rules.same x j) p ∙ g.unknown j (sym (open_is j keys frames k os g.stand) ∙ on);
      }

      -- ---- how a question ends

      left_over : (t : Asking K V F V) (k : K) (os : List (Opened K E)) → IsGoingAt rules resumed start asked es begun keys frames places t k os → AreBegunOnce rules start es begun
      left_over t k os g = (
        k ∷ keys_of (waiters resumed os),
        omega (arith, g.count, length_stand keys frames k os g.stand, length_keys (waiters resumed os)),
        g.distinct,
        g.unknown,
      )

      -- a fault is that of the key that was asked
      pub faulty : length es < 2 ^ 63 → length keys < 2 ^ 63 → (f : F) → IsGoing rules resumed start asked es begun keys frames places (Done (Err f))
          → IsAnswered rules start asked es begun (Err f)
      faulty small few f (k, os, g) = record {
        value = ap Some (sym (ap (value_of rules) (sym g.bottom)
            ∙ value_followed rules exact (suc (length es) + length (waiters resumed os)) (bottom_of k (waiters resumed os)) (Err f)
            (omega (arith, small, few, length_stand keys frames k os g.stand))
            (fault_below rules (known rules.same es) (suc (length es)) k (waiters resumed os) f
            (right_stays rules (known rules.same es) (length es) (suc (length es)) (omega arith) g.kept.right) g.waiting
            (comes_to_end rules (known rules.same es) (length es) k (Err f) g.kept.right g.comes))));
        kept = g.kept;
        begins = g.begins;
        once = left_over (Done (Err f)) k os g;
        counted = tt;
        there = tt;
      }

      -- one that waits for itself is a circle
      pub circular : length es < 2 ^ 63 → length keys < 2 ^ 63 → (j : K) (rest : V → Asking K V F V) → list_any (rules.same j) keys ≡ true
          → IsGoing rules resumed start asked es begun keys frames places (Ask j rest) → IsAnswered rules start asked es begun (Err rules.circle)
      circular small few j rest on (k, os, g) = record {
        value = ap Some (sym (ap (value_of rules) (sym g.bottom)
            ∙ value_found rules exact (suc (suc (length es)) + length (waiters resumed os)) (bottom_of k (waiters resumed os)) (Err rules.circle)
            (omega (arith, small, few, length_stand keys frames k os g.stand))
            (circle_found rules exact (known rules.same es) (length es) g.kept.right k j rest (waiters resumed os) g.comes g.waiting
            (sym (open_is j keys frames k os g.stand) ∙ on) g.unknown)));
        kept = g.kept;
        begins = g.begins;
        once = left_over (Ask j rest) k os g;
        counted = tt;
        there = tt;
      }

      -- ---- how it goes on

      -- one key more is evaluated
      pub descended : (current : Frame E) (j : K) (u : Asking K V F V) → places ≡ current.asked → list_any (rules.same j) keys ≡ false → known rules.same es j ≡ None → u ≡ rules.asking j
          → IsGoing rules resumed start asked es begun keys frames places (Ask j (resumed current.evaluation))
          → IsGoing rules resumed start asked es (suc begun) (keys ++ j ∷ []) (frames ++ current ∷ []) [] u
      descended current j u p fresh none e (k, os, g) = (
        j,
        (k, current) ∷ os,
        record {
          stand = (keys, frames, refl, refl, g.stand);
          kept = g.kept;
          comes = λ answers agrees. ap (outcome answers) (sym e);
          noting = asked_nothing es (known rules.same es) (rules.asking j) u e;
          waiting = (g.comes, g.waiting);
          notings = (subst (λ l. HasAsked es (known rules.same es) (rules.asking k) l (Ask j (resumed current.evaluation))) p g.noting, g.notings);
          bottom = g.bottom;
          unknown = λ s on. by s (rules.same s j) refl on;
          distinct = (sym (open_is j keys frames k os g.stand) ∙ fresh, g.distinct);
          begins = g.begins;
          count = omega (arith, g.count, length_more keys j);
        },
      )
        where
          by : (s : K) (b : Bool) → rules.same s j ≡ b → cond b true (is_on rules.same s (k ∷ keys_of (waiters resumed os))) ≡ true → known rules.same es s ≡ None
          by s true e h = ap (known rules.same es) (exact.same s j e) ∙ none
          by s false e h = g.unknown s h

      module _ (v : V) (k : K) (os : List (Opened K E)) (g : IsGoingAt rules resumed start asked es begun keys frames places (Done (Ok v)) k os) where
        -- the table with the value
        noted : Entries K V
        noted = es ++ (k, record { value = v; asked = places }) ∷ []

        none : known rules.same es k ≡ None
        none = g.unknown k (on_head k (keys_of (waiters resumed os)))

        grows : Grows (known rules.same es) (known rules.same (es ++ (k, record { value = v; asked = places }) ∷ []))
        grows q u e = known_stays rules.same es ((k, record { value = v; asked = places }) ∷ []) q u e

        here : known rules.same (es ++ (k, record { value = v; asked = places }) ∷ []) k ≡ Some v
        here = known_new rules.same es (k, record { value = v; asked = places }) k none ∙ ap (λ b. cond b (Some v) None) (exact.self k)

        closed_right : IsRight rules (suc (length es)) (known rules.same (es ++ (k, record { value = v; asked = places }) ∷ []))
        closed_right q u e = by (known rules.same es q) refl
          where
            last : (b : Bool) → rules.same q k ≡ b → cond b (Some v) None ≡ Some u → followed rules (suc (length es)) q ≡ Some (Ok u)
            last true s h = ap (followed rules (suc (length es))) (exact.same q k s) ∙ comes_to_end rules (known rules.same es) (length es) k (Ok v) g.kept.right g.comes
                ∙ ap (λ w. Some (Ok w)) (let c : v ≡ u = cc in c)
            last false s h = absurd (none_some h)

            by : (o : Option V) → known rules.same es q ≡ o → followed rules (suc (length es)) q ≡ Some (Ok u)
            by None h = last (rules.same q k) refl (sym (known_new rules.same es (k, record { value = v; asked = places }) q h) ∙ e)
            by (Some w) h = followed_more rules (length es) q (Ok u) (g.kept.right q u (h ∙ sym (grows q w h) ∙ e))

        pub closed_kept : IsKept rules (es ++ (k, record { value = v; asked = places }) ∷ [])
        closed_kept = record {
          right = subst (λ n. IsRight rules n (known rules.same (es ++ (k, record { value = v; asked = places }) ∷ []))) (sym (length_more es (k, record { value = v; asked = places }))) closed_right;
          noted = noted_push rules (known rules.same (es ++ (k, record { value = v; asked = places }) ∷ [])) [] es (k, record { value = v; asked = places })
              (all_noted_more (known rules.same es) (known rules.same (es ++ (k, record { value = v; asked = places }) ∷ [])) grows rules [] es g.kept.noted)
              (record {
                comes = g.comes (λ j. answer_of (known rules.same (es ++ (k, record { value = v; asked = places }) ∷ []) j)) (λ j w h. ap answer_of (grows j w h));
                places = asked_all es (known rules.same es) (rules.asking k) places (Ok v) g.noting (known rules.same (es ++ (k, record { value = v; asked = places }) ∷ [])) grows;
              });
        }

        pub closed_begins : Begins start (es ++ (k, record { value = v; asked = places }) ∷ [])
        closed_begins = (
          g.begins.0 ++ (k, record { value = v; asked = places }) ∷ [],
          ap (λ l. l ++ (k, record { value = v; asked = places }) ∷ []) g.begins.1 ∙ append_assoc start g.begins.0 ((k, record { value = v; asked = places }) ∷ []),
        )

        -- the others have no value yet
        others_unknown : (s : K) → is_on rules.same s (keys_of (waiters resumed os)) ≡ true → known rules.same (es ++ (k, record { value = v; asked = places }) ∷ []) s ≡ None
        others_unknown s on = known_new rules.same es (k, record { value = v; asked = places }) s (g.unknown s (on_next s k (keys_of (waiters resumed os)) on))
            ∙ by (rules.same s k) refl
          where
            by : (b : Bool) → rules.same s k ≡ b → cond b (Some v) None ≡ None
            by true e = absurd (true≢false (sym on ∙ ap (λ z. is_on rules.same z (keys_of (waiters resumed os))) (exact.same s k e) ∙ g.distinct.0))
            by false e = refl

      -- the key had no other waiting for it: its value is the answer
      pub ended : length es < 2 ^ 63 → (v : V) (key : K) (ks : List K) (after : Entries K V) (place : ℕ) → keys ≡ ks ++ key ∷ [] → frames ≡ []
          → after ≡ es ++ (key, record { value = v; asked = places }) ∷ [] → place ≡ length es
          → IsGoing rules resumed start asked es begun keys frames places (Done (Ok v)) → IsAnswered rules start asked after begun (Ok place)
      ended small v key ks after place p q r n (k, [], g) =
          subst (λ l. IsAnswered rules start asked l begun (Ok place)) (sym (r ∙ ap (λ j. es ++ (j, record { value = v; asked = places }) ∷ []) (sym same_key)))
          (subst (λ i. IsAnswered rules start asked (es ++ (k, record { value = v; asked = places }) ∷ []) begun (Ok i)) (sym n) (record {
            value = ap (λ o. said (value_of_entry o)) (slice_get_last es (k, record { value = v; asked = places })) ∙ ap Some (sym found);
            kept = closed_kept v k [] g;
            begins = closed_begins v k [] g;
            once = ([], omega (arith, counted), tt, λ s on. absurd (true≢false (sym on)));
            counted = counted;
            there = (
              (k, ap key_of_entry (slice_get_last es (k, record { value = v; asked = places })), subst (λ j. rules.same j k ≡ true) g.bottom (exact.self k)),
              ap (known rules.same (es ++ (k, record { value = v; asked = places }) ∷ [])) (sym g.bottom) ∙ here v k [] g
                  ∙ sym (ap value_of_entry (slice_get_last es (k, record { value = v; asked = places }))),
            );
          }))
        where
          same_key : k ≡ key
          same_key = (last_is [] ks k key (sym g.stand.0 ∙ p)).1

          found : value_of rules asked ≡ Ok v
          found = ap (value_of rules) (sym g.bottom)
              ∙ value_followed rules exact (suc (length es)) k (Ok v) (omega (arith, small)) (comes_to_end rules (known rules.same es) (length es) k (Ok v) g.kept.right g.comes)

          counted : begun + length start ≡ length (es ++ (k, record { value = v; asked = places }) ∷ [])
          counted = omega (arith, g.count, length_more es (k, record { value = v; asked = places }), ap length g.stand.0)
      ended small v key ks after place p q r n (k, o ∷ os, g) = absurd (not_empty g.stand.1 o.1 (sym q ∙ g.stand.3))

      -- the value is handed to the one that waits for it
      pub closed : (v : V) (key : K) (ks : List K) (fs : List (Frame E)) (below : Frame E) (after : Entries K V) (place : ℕ) (further : List ℕ) (u : Asking K V F V)
          → keys ≡ ks ++ key ∷ [] → frames ≡ fs ++ below ∷ [] → after ≡ es ++ (key, record { value = v; asked = places }) ∷ [] → place ≡ length es
          → further ≡ below.asked ++ place ∷ [] → u ≡ resumed below.evaluation v
          → IsGoing rules resumed start asked es begun keys frames places (Done (Ok v)) → IsGoing rules resumed start asked after begun ks fs further u
      closed v key ks fs below after place further u p q r n f e (k, [], g) = absurd (not_empty fs below (sym g.stand.1 ∙ q))
      closed v key ks fs below after place further u p q r n f e (k, o ∷ os, g) =
          subst (λ l. IsGoing rules resumed start asked l begun ks fs further u) (sym (r ∙ ap (λ j. es ++ (j, record { value = v; asked = places }) ∷ []) (sym same_key))) (
            o.0,
            os,
            record {
              stand = subst (λ l. Stand l fs o.0 os) (last_is g.stand.0 ks k key (sym g.stand.2 ∙ p)).0
                  (subst (λ l. Stand g.stand.0 l o.0 os) (last_is g.stand.1 fs o.1 below (sym g.stand.3 ∙ q)).0 g.stand.4);
              kept = closed_kept v k (o ∷ os) g;
              comes = λ answers agrees. goes_on rules (known rules.same new) (rules.asking o.0) k (resumed o.1.evaluation) v (here v k (o ∷ os) g)
                  (comes_more rules (known rules.same es) (known rules.same new) (grows v k (o ∷ os) g) (rules.asking o.0) (Ask k (resumed o.1.evaluation)) g.waiting.0) answers agrees
                  ∙ ap (outcome answers) resumes;
              noting = asked_to (asked_on new (known rules.same new) (rules.asking o.0) o.1.asked k (resumed o.1.evaluation) (length es) v
                  (ap key_of_entry (slice_get_last es (k, record { value = v; asked = places }))) (here v k (o ∷ os) g)
                  (asked_more es ((k, record { value = v; asked = places }) ∷ []) (known rules.same es) (known rules.same new) (grows v k (o ∷ os) g)
                  (rules.asking o.0) o.1.asked (Ask k (resumed o.1.evaluation)) g.notings.0));
              waiting = waiting_more rules (known rules.same es) (known rules.same new) (grows v k (o ∷ os) g) o.0 (waiters resumed os) g.waiting.1;
              notings = others os o.0 g.notings.1;
              bottom = g.bottom;
              unknown = others_unknown v k (o ∷ os) g;
              distinct = g.distinct.1;
              begins = closed_begins v k (o ∷ os) g;
              count = omega (arith, g.count, length_more es (k, record { value = v; asked = places }), ap length p, length_more ks key);
            },
          )
        where
          new : Entries K V
          new = es ++ (k, record { value = v; asked = places }) ∷ []

          same_key : k ≡ key
          same_key = (last_is g.stand.0 ks k key (sym g.stand.2 ∙ p)).1

          same_frame : o.1 ≡ below
          same_frame = (last_is g.stand.1 fs o.1 below (sym g.stand.3 ∙ q)).1

          resumes : resumed o.1.evaluation v ≡ u
          resumes = ap (λ x. resumed x.evaluation v) same_frame ∙ sym e

          asked_to : HasAsked new (known rules.same new) (rules.asking o.0) (o.1.asked ++ length es ∷ []) (resumed o.1.evaluation v)
              → HasAsked new (known rules.same new) (rules.asking o.0) further u
          asked_to h = asked_moved new (known rules.same new) (rules.asking o.0) (o.1.asked ++ length es ∷ []) further (resumed o.1.evaluation v) u
              (ap (λ x. x.asked ++ length es ∷ []) same_frame ∙ ap (λ i. below.asked ++ i ∷ []) (sym n) ∙ sym f) resumes h

          others : (ws : List (Opened K E)) (j : K) → HaveAsked resumed rules es j ws → HaveAsked resumed rules new j ws
          others [] j h = tt
          others (w ∷ ws) j h = (
            asked_more es ((k, record { value = v; asked = places }) ∷ []) (known rules.same es) (known rules.same new) (grows v k (o ∷ os) g)
                (rules.asking w.0) w.1.asked (Ask j (resumed w.1.evaluation)) h.0,
            others ws w.0 h.1,
          )

      -- where memory runs out after it, the table has it
      pub closed_table : (v : V) (key : K) (ks : List K) (after : Entries K V) → keys ≡ ks ++ key ∷ [] → after ≡ es ++ (key, record { value = v; asked = places }) ∷ []
          → IsGoing rules resumed start asked es begun keys frames places (Done (Ok v)) → IsKept rules after × Begins start after
      closed_table v key ks after p r (k, os, g) =
          subst (λ l. IsKept rules l × Begins start l) (sym (r ∙ ap (λ j. es ++ (j, record { value = v; asked = places }) ∷ []) (sym (top os g.stand))))
          (closed_kept v k os g, closed_begins v k os g)
        where
          top : (os : List (Opened K E)) → Stand keys frames k os → k ≡ key
          top [] s = (last_is [] ks k key (sym s.0 ∙ p)).1
          top (o ∷ os) s = (last_is s.0 ks k key (sym s.2 ∙ p)).1
