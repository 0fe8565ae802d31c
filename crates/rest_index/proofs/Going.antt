-- Places that are given up, one after another.
use Rattle.std.proofs.Common.{ℕ, zero, suc, ◌+◌, ◌≡◌, ◌≤◌, ◌<◌, refl, sym, ◌∙◌, ap, subst, Bool, true, false, true≢false, cond, ◌||◌, ◌==◌, eqb-true, eq-eqb, ◌⊎◌, inl, inr, List, [], ◌∷◌, ◌++◌, length, Some, arith}
use Rattle.std.proofs.lemmas.List.{append_assoc, append-nil}
use Rattle.std.proofs.lemmas.Option.{slice_get_within}
use Rattle.std.specs.Prelude.{slice_get, slice_set}
use Rattle.rest_index.specs.declared.giving_up.Flags.{Flags}
use Rattle.rest_index.specs.declared.row.Row.{Row}
use Rattle.rest_index.specs.Rests.{asked_of, is_among, is_live, users_of, AreClosed, AreIndexed, Asks, IsLeft, RestsOn, asks, itself}
use Rattle.rest_index.specs.Following.{without, without_all, without_user, without_users, without_askers}
use Rattle.rest_index.proofs.Lists.{count, gone_there, counted_before, that_one, one_fewer, as_long_set, few, among_left, among_right, among_either, among_one, among_itself, among_place, place_among, place_known, length_both}

below_or_at : (i n : ℕ) → i < suc n → (i < n) ⊎ (i ≡ n)
below_or_at zero zero h = inr refl
below_or_at zero (suc n) h = inl (omega arith)
below_or_at (suc i) zero h = absurd (omega (arith, h))
below_or_at (suc i) (suc n) h = by (below_or_at i n (omega (arith, h)))
  where
    by : (i < n) ⊎ (i ≡ n) → (suc i < suc n) ⊎ (suc i ≡ suc n)
    by (inl k) = inl (omega (arith, k))
    by (inr k) = inr (ap suc k)

module _ (rows : List Row) (seeds : List ℕ) where
  -- from the one to the other more was given up, and all of that rests on the places to be given up
  pub record Goes (g h : Flags) : Type 0 where
    pub more : List ℕ
    pub given : h.given ≡ g.given ++ more
    pub fewer : (q : ℕ) → is_live h.live q ≡ true → is_live g.live q ≡ true
    pub only : (q : ℕ) → is_live g.live q ≡ true → is_live h.live q ≡ false → RestsOn rows seeds q
    pub listed : (q : ℕ) → is_live g.live q ≡ true → is_live h.live q ≡ false → is_among q h.given ≡ true
    pub gone : (q : ℕ) → is_among q more ≡ true → is_live h.live q ≡ false
    pub was : (q : ℕ) → is_among q more ≡ true → is_live g.live q ≡ true
    pub rests : (q : ℕ) → is_among q more ≡ true → RestsOn rows seeds q
    pub counted : length more + count h.live ≡ count g.live
    pub as_long : length h.live ≡ length g.live

  pub dead_stays : (g h : Flags) → Goes g h → (q : ℕ) → is_live g.live q ≡ false → is_live h.live q ≡ false
  dead_stays g h goes q d = by (is_live h.live q) refl
    where
      by : (b : Bool) → is_live h.live q ≡ b → b ≡ false
      by true e = absurd (true≢false (sym (goes.fewer q e) ∙ d))
      by false e = refl

  pub stays : (g : Flags) → Goes g g
  stays g = record {
    more = [];
    given = sym (append-nil g.given);
    fewer = λ q h. h;
    only = λ q h k. absurd (true≢false (sym h ∙ k));
    listed = λ q h k. absurd (true≢false (sym h ∙ k));
    gone = λ q h. absurd (true≢false (sym h));
    was = λ q h. absurd (true≢false (sym h));
    rests = λ q h. absurd (true≢false (sym h));
    counted = omega arith;
    as_long = refl;
  }

  pub then : (g h k : Flags) → Goes g h → Goes h k → Goes g k
  then g h k a b = record {
    more = a.more ++ b.more;
    given = b.given ∙ ap (λ l. l ++ b.more) a.given ∙ append_assoc g.given a.more b.more;
    fewer = λ q e. a.fewer q (b.fewer q e);
    only = λ q e f. only q e f (is_live h.live q) refl;
    listed = λ q e f. listed q e f (is_live h.live q) refl;
    gone = λ q e. gone q (among_either q a.more b.more e);
    was = λ q e. was q (among_either q a.more b.more e);
    rests = λ q e. rests q (among_either q a.more b.more e);
    counted = let l = length_both a.more b.more in let c = a.counted in let d = b.counted in omega (arith, l, c, d);
    as_long = b.as_long ∙ a.as_long;
  }
    where
      only : (q : ℕ) → is_live g.live q ≡ true → is_live k.live q ≡ false → (x : Bool) → is_live h.live q ≡ x → RestsOn rows seeds q
      only q e f true m = b.only q m f
      only q e f false m = a.only q e m

      listed : (q : ℕ) → is_live g.live q ≡ true → is_live k.live q ≡ false → (x : Bool) → is_live h.live q ≡ x → is_among q k.given ≡ true
      listed q e f true m = b.listed q m f
      listed q e f false m = ap (is_among q) b.given ∙ among_left q h.given b.more (a.listed q e m)

      gone : (q : ℕ) → (is_among q a.more ≡ true) ⊎ (is_among q b.more ≡ true) → is_live k.live q ≡ false
      gone q (inl e) = dead_stays h k b q (a.gone q e)
      gone q (inr e) = b.gone q e

      was : (q : ℕ) → (is_among q a.more ≡ true) ⊎ (is_among q b.more ≡ true) → is_live g.live q ≡ true
      was q (inl e) = a.was q e
      was q (inr e) = a.fewer q (b.was q e)

      rests : (q : ℕ) → (is_among q a.more ≡ true) ⊎ (is_among q b.more ≡ true) → RestsOn rows seeds q
      rests q (inl e) = a.rests q e
      rests q (inr e) = b.rests q e

  -- one is given up
  pub step : (g : Flags) (p : ℕ) → RestsOn rows seeds p → Goes g (without g p)
  step g p r = by (is_live g.live p) refl
    where
      by : (b : Bool) → is_live g.live p ≡ b → Goes g (cond b (record { live = slice_set g.live p false; given = g.given ++ p ∷ [] }) g)
      by true e = record {
        more = p ∷ [];
        given = refl;
        fewer = λ q h. counted_before g.live p q h;
        only = λ q h k. subst (RestsOn rows seeds) (that_one g.live p q h k) r;
        listed = λ q h k. among_right q g.given (p ∷ []) (ap (λ z. is_among z (p ∷ [])) (sym (that_one g.live p q h k)) ∙ among_itself p);
        gone = λ q h. ap (is_live (slice_set g.live p false)) (sym (among_one q p h)) ∙ gone_there g.live p;
        was = λ q h. ap (is_live g.live) (sym (among_one q p h)) ∙ e;
        rests = λ q h. subst (RestsOn rows seeds) (among_one q p h) r;
        counted = let h = one_fewer g.live p e in omega (arith, h);
        as_long = as_long_set g.live p false;
      }
      by false e = stays g

  pub dead_step : (g : Flags) (p : ℕ) → is_live (without g p).live p ≡ false
  dead_step g p = by (is_live g.live p) refl
    where
      by : (b : Bool) → is_live g.live p ≡ b → is_live (let h : Flags = cond b (record { live = slice_set g.live p false; given = g.given ++ p ∷ [] }) g in h.live) p ≡ false
      by true e = gone_there g.live p
      by false e = e

  -- some are
  pub all_go : (g : Flags) (ps : List ℕ) → ((p : ℕ) → is_among p ps ≡ true → RestsOn rows seeds p) → Goes g (without_all g ps)
  all_go g [] r = stays g
  all_go g (p ∷ ps) r =
      then g (without g p) (without_all (without g p) ps) (step g p (r p (ap (λ b. b || is_among p ps) (eq-eqb p p refl))))
      (all_go (without g p) ps (λ q e. r q (among_right q (p ∷ []) ps e)))

  pub all_dead : (g : Flags) (ps : List ℕ) → ((p : ℕ) → is_among p ps ≡ true → RestsOn rows seeds p) → (q : ℕ) → is_among q ps ≡ true → is_live (without_all g ps).live q ≡ false
  all_dead g [] r q h = absurd (true≢false (sym h))
  all_dead g (p ∷ ps) r q h = by (p == q) refl h (all_dead (without g p) ps (λ z e. r z (among_right z (p ∷ []) ps e)) q)
    where
      rest : (q : ℕ) → is_among q ps ≡ true → RestsOn rows seeds q
      rest q e = r q (among_right q (p ∷ []) ps e)

      by : (b : Bool) → (p == q) ≡ b → (b || is_among q ps) ≡ true → (is_among q ps ≡ true → is_live (without_all (without g p) ps).live q ≡ false)
          → is_live (without_all (without g p) ps).live q ≡ false
      by true e k next = dead_stays (without g p) (without_all (without g p) ps) (all_go (without g p) ps rest) q
          (ap (is_live (without g p).live) (sym (eqb-true p q e)) ∙ dead_step g p)
      by false e k next = next k

  -- and those that asked for one
  module _ (p : ℕ) (rests : RestsOn rows seeds p) where
    user_goes : (g : Flags) (u : ℕ) → Goes g (without_user rows p g u)
    user_goes g u = by (is_among p (asked_of rows u)) refl
      where
        by : (b : Bool) → is_among p (asked_of rows u) ≡ b → Goes g (cond b (without g u) g)
        by true e = step g u (asks u p e rests)
        by false e = stays g

    user_dead : (g : Flags) (u : ℕ) → Asks rows u p → is_live (without_user rows p g u).live u ≡ false
    user_dead g u e = ap (λ (b : Bool). is_live (let h : Flags = cond b (without g u) g in h.live) u) e ∙ dead_step g u

    users_go : (g : Flags) (us : List ℕ) → Goes g (without_users rows p g us)
    users_go g [] = stays g
    users_go g (u ∷ us) =
        let h = without_user rows p g u in then g h (without_users rows p h us) (user_goes g u) (users_go h us)

    users_dead : (g : Flags) (us : List ℕ) (q : ℕ) → is_among q us ≡ true → Asks rows q p → is_live (without_users rows p g us).live q ≡ false
    users_dead g [] q h a = absurd (true≢false (sym h))
    users_dead g (u ∷ us) q h a = by (u == q) refl h (λ k. users_dead (without_user rows p g u) us q k a)
      where
        by : (b : Bool) → (u == q) ≡ b → (b || is_among q us) ≡ true → (is_among q us ≡ true → is_live (without_users rows p (without_user rows p g u) us).live q ≡ false)
            → is_live (without_users rows p (without_user rows p g u) us).live q ≡ false
        by true e k next = let s = eqb-true u q e in
            dead_stays (without_user rows p g u) (without_users rows p (without_user rows p g u) us) (users_go (without_user rows p g u) us) q
            (subst (λ z. is_live (without_user rows p g u).live z ≡ false) s (user_dead g u (subst (λ z. Asks rows z p) (sym s) a)))
        by false e k next = next k

    pub askers_go : (g : Flags) → Goes g (without_askers rows g p)
    askers_go g = users_go g (users_of rows p)

    pub askers_dead : AreIndexed rows → (g : Flags) (u : ℕ) → Asks rows u p → is_live (without_askers rows g p).live u ≡ false
    askers_dead indexed g u a = users_dead g (users_of rows p) u (indexed u p a) a

  -- ---- the loop

  -- so many of those that were given up have been followed
  pub record IsOn (next : ℕ) (start g : Flags) : Type 0 where
    pub goes : Goes start g
    pub seeded : (q : ℕ) → is_among q seeds ≡ true → is_live g.live q ≡ false
    pub followed : (i p u : ℕ) → i < next → slice_get g.given i ≡ Some p → Asks rows u p → is_live g.live u ≡ false

  pub begins : (start g : Flags) → g ≡ without_all start seeds → IsOn 0 start g
  begins start g e = subst (IsOn 0 start) (sym e) (record {
    goes = all_go start seeds (λ p h. itself p h);
    seeded = λ q h. all_dead start seeds (λ p h. itself p h) q h;
    followed = λ i p u l s a. absurd (omega (arith, l));
  })

  pub goes_on : AreIndexed rows → (next : ℕ) (start g h : Flags) (p : ℕ) → start.given ≡ [] → slice_get g.given next ≡ Some p
      → h ≡ without_askers rows g p → IsOn next start g → IsOn (suc next) start h
  goes_on indexed next start g h p none at e on = subst (IsOn (suc next) start) (sym e) (record {
    goes = then start g after on.goes further;
    seeded = λ q s. dead_stays g after further q (on.seeded q s);
    followed = λ i q u l s a. followed i q u l (place_known g.given further.more i q (within i l) (ap (λ z. slice_get z i) (sym further.given) ∙ s)) a;
  })
    where
      after : Flags
      after = without_askers rows g p

      is_given : g.given ≡ on.goes.more
      is_given = on.goes.given ∙ ap (λ z. z ++ on.goes.more) none

      rests : RestsOn rows seeds p
      rests = on.goes.rests p (ap (is_among p) (sym is_given) ∙ place_among p g.given next at)

      further : Goes g (without_askers rows g p)
      further = askers_go p rests g

      within : (i : ℕ) → i < suc next → i < length g.given
      within i l = let m = slice_get_within g.given next p at in omega (arith, l, m)

      followed : (i q u : ℕ) → i < suc next → slice_get g.given i ≡ Some q → Asks rows u q → is_live (without_askers rows g p).live u ≡ false
      followed i q u l s a = by (below_or_at i next l)
        where
          by : (i < next) ⊎ (i ≡ next) → is_live (without_askers rows g p).live u ≡ false
          by (inr k) =
              let c : Some q ≡ Some p = sym s ∙ ap (slice_get g.given) k ∙ at in
              let d : q ≡ p = cc in
              askers_dead p rests indexed g u (subst (λ z. Asks rows u z) d a)
          by (inl k) = dead_stays g (without_askers rows g p) further u (on.followed i q u k s a)

  pub ended : (next : ℕ) (start g : Flags) → start.given ≡ [] → AreClosed rows start.live → length g.given ≤ next → IsOn next start g
      → IsLeft rows seeds start.live g.given g.live
  ended next start g none closed few on = record {
    fewer = on.goes.fewer;
    closed = λ u p l a. by u p l a (is_live g.live p) refl;
    seeds_gone = on.seeded;
    only = on.goes.only;
    listed = on.goes.listed;
    gone = λ p h. on.goes.gone p (ap (is_among p) (sym (on.goes.given ∙ ap (λ z. z ++ on.goes.more) none)) ∙ h);
    was = λ p h. on.goes.was p (ap (is_among p) (sym (on.goes.given ∙ ap (λ z. z ++ on.goes.more) none)) ∙ h);
    as_long = on.goes.as_long;
  }
    where
      by : (u p : ℕ) → is_live g.live u ≡ true → Asks rows u p → (b : Bool) → is_live g.live p ≡ b → b ≡ true
      by u p l a true e = refl
      by u p l a false e =
          let r = among_place p g.given (on.goes.listed p (closed u p (on.goes.fewer u l) a) e) in
          let m = slice_get_within g.given r.0 p r.1 in
          absurd (true≢false (sym l ∙ on.followed r.0 p u (omega (arith, m, few)) r.1 a))

  -- no more are given up than there are
  pub as_many : (next : ℕ) (start g : Flags) → start.given ≡ [] → IsOn next start g → length g.given ≤ length start.live
  as_many next start g none on =
      let e = ap length (on.goes.given ∙ ap (λ z. z ++ on.goes.more) none) in
      let c = on.goes.counted in let f = few start.live in omega (arith, e, c, f)

-- what counts no more stays, whether it asked for a place or not
pub not_counted_stays : (asked : Bool) (g : Flags) (u : ℕ) → is_live g.live u ≡ false → g ≡ cond asked (without g u) g
not_counted_stays false g u h = refl
not_counted_stays true g u h = sym (ap (λ b. cond b (record { live = slice_set g.live u false; given = g.given ++ u ∷ [] }) g) h)
