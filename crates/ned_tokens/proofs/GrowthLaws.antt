-- A value that grows to the right keeps the laws.
use Rattle.std.proofs.Common.{◌≡◌, ℕ, zero, suc, ◌<◌, ◌≤◌, Bool, true, false, List, [], ◌∷◌, ◌++◌, length, Option, Some, None, Ok, Err, ◌⊎◌, inl, inr, refl, sym, ap, subst, ◌∙◌, append_assoc, arith, length-append}
use Rattle.std.proofs.lemmas.List.{append-nil}
use Rattle.ned_tokens.specs.declared.token.Token.{Token}
use Rattle.ned_tokens.specs.declared.refusal.Refusal.{Refusal}
use Rattle.ned_tokens.specs.declared.refusal.Refusal.TheVariants.{Memory, At}
use Rattle.ned_tokens.specs.Rule.{Rule, Reading, ◌>>=◌, begins, sealed, token, optional, Fails}
use Rattle.ned_tokens.proofs.Laws.{SameHead, Stops, Took, Stuck, Lawful, SameHead-behind, bind_ok, bind_err, done, ok_is, failed}
use Rattle.ned_tokens.proofs.Many.{shorter}
use Rattle.ned_tokens.proofs.ViableLaws.{Viable, Ready}
use Rattle.ned_tokens.specs.Growth.{next, grown_is, grow_read, grown, never}

-- what is still read after x makes the whole
pub record Left {X L T : Type 0} (follows : X → Token → Option L) (read : L → List Token → Reading T) (put : X → T → X) (x : X) (ts : List Token) (total : Reading X) : Type 0 where
  pub fuel : ℕ
  pub enough : length ts ≤ fuel
  pub so_far : grow_read follows read put fuel x ts ≡ total

module _ {X L T : Type 0} (base : Rule X) (follows : X → Token → Option L) (step : L → Rule T) (put : X → T → X) (goes : Token → Bool) (lb : Lawful base) (ls : (l : L) → Lawful (step l)) (fb : base.empty ≡ false) (fs : (l : L) → (step l).empty ≡ false) where
  abbrev pub grow : ℕ → X → List Token → Reading X
  grow n x ts = grow_read follows (λ l. (step l).read) put n x ts

  abbrev pub Grows : X → List (L × T) → List Token → X → Type 0
  Grows x ps ts y = grown_is follows (λ l. (step l).Is) put x ps ts y

  abbrev rule : Rule X
  rule = grown base follows step put goes

  pub grow_none : (n : ℕ) (x : X) (ts : List Token) → next follows x ts ≡ None → grow n x ts ≡ Ok (x, ts)
  unfolding grow_read
  grow_none zero x ts e = refl
  grow_none (suc n) x ts e = rw e refl

  pub grow_some : (n : ℕ) (x : X) (ts : List Token) (l : L) → next follows x ts ≡ Some l → grow (suc n) x ts ≡ ((step l).read ts >>= λ p. grow n (put x p.0) p.1)
  unfolding grow_read
  grow_some n x ts l e = rw e refl

  same_next : (x : X) (a b : List Token) → SameHead a b → next follows x a ≡ next follows x b
  same_next x [] [] h = refl
  same_next x [] (u ∷ us) h = absurd h
  same_next x (t ∷ ts) [] h = absurd h
  same_next x (t ∷ ts) (u ∷ us) h = ap (follows x) h

  -- what begins a front begins what has it in front
  next_more : (x : X) (l : L) (front more : List Token) → next follows x front ≡ Some l → next follows x (front ++ more) ≡ Some l
  next_more x l [] more e = absurd cc
  next_more x l (t ∷ front) more e = e

  next_long : (x : X) (l : L) (front : List Token) → next follows x front ≡ Some l → 0 < length front
  next_long x l [] e = absurd cc
  next_long x l (t ∷ front) e = omega arith

  next_front : (x : X) (l : L) (t : T) (front rest : List Token) → (step l).Is front t → next follows x (front ++ rest) ≡ Some l → next follows x front ≡ Some l
  next_front x l t [] rest is e = let begun : (step l).empty ≡ true = (ls l).nothing t is in let full = fs l in absurd cc
  next_front x l t (u ∷ front) rest is e = e

  -- ---- what was read

  record TookOn (x : X) (ts : List Token) (y : X) (rest : List Token) : Type 0 where
    front : List Token
    parts : ts ≡ front ++ rest
    steps : List (L × T)
    is : Grows x steps front y
    again : (other : List Token) → SameHead rest other → (m : ℕ) → length (front ++ other) ≤ m → grow m x (front ++ other) ≡ Ok (y, other)

  -- one step and then what is after it
  again_more : (x y : X) (l : L) (t : T) (f g other : List Token) (m : ℕ) → next follows x f ≡ Some l → (step l).read (f ++ (g ++ other)) ≡ Ok (t, g ++ other) → ((k : ℕ) → length (g ++ other) ≤ k → grow k (put x t) (g ++ other) ≡ Ok (y, other)) → length ((f ++ g) ++ other) ≤ m → grow m x ((f ++ g) ++ other) ≡ Ok (y, other)
  again_more x y l t f g other zero en er rest h = absurd (omega (arith, h, next_long x l f en, length-append (f ++ g) other, length-append f g))
  again_more x y l t f g other (suc m) en er rest h =
      ap (λ (ts : List Token). grow (suc m) x ts) (append_assoc f g other)
      ∙ grow_some m x (f ++ (g ++ other)) l (next_more x l f (g ++ other) en)
      ∙ ap (λ (r : Reading T). r >>= λ p. grow m (put x p.0) p.1) er
      ∙ rest m (omega (arith, h, next_long x l f en, length-append (f ++ g) other, length-append f g, length-append g other))

  took_none : (n : ℕ) (x : X) (ts : List Token) (y : X) (rest : List Token) → next follows x ts ≡ None → grow n x ts ≡ Ok (y, rest) → TookOn x ts y rest
  took_none n x ts y rest et e =
      let w : X × List Token = (y, rest) in
      let v : X × List Token = (x, ts) in
      subst (λ (z : X × List Token). TookOn x ts z.0 z.1) (ok_is v w (sym (grow_none n x ts et) ∙ e))
      (record { front = []; parts = refl; steps = []; is = (refl, refl); again = λ other k m h. grow_none m x other (sym (same_next x ts other k) ∙ et) })

  took_more : (n : ℕ) (x : X) (ts : List Token) (l : L) (y : X) (rest : List Token) → next follows x ts ≡ Some l → length ts ≤ suc n → ((z : X) (us : List Token) → length us ≤ n → grow n z us ≡ Ok (y, rest) → TookOn z us y rest) → grow (suc n) x ts ≡ Ok (y, rest) → TookOn x ts y rest
  took_more n x ts l y rest et h ih e =
      let w : X × List Token = (y, rest) in
      let p = bind_ok ((step l).read ts) (λ p. grow n (put x p.0) p.1) w (sym (grow_some n x ts l et) ∙ e) in
      let ta = (ls l).took ts p.0.0 p.0.1 p.1 in
      let tb = ih (put x p.0.0) p.0.1 (omega (arith, h, shorter (step l) (ls l) (fs l) ts p.0.0 p.0.1 p.1)) p.2 in
      let en = next_front x l p.0.0 ta.front p.0.1 ta.is (ap (next follows x) (sym ta.parts) ∙ et) in
      record {
        front = ta.front ++ tb.front;
        parts = ta.parts ∙ ap (λ (l : List Token). ta.front ++ l) tb.parts ∙ sym (append_assoc ta.front tb.front rest);
        steps = (l, p.0.0) ∷ tb.steps;
        is = (ta.front, tb.front, refl, en, ta.is, tb.is);
        again = λ other k m hm. again_more x y l p.0.0 ta.front tb.front other m en (ta.again (tb.front ++ other) (SameHead-behind p.0.1 tb.front rest other tb.parts k)) (λ j hj. tb.again other k j hj) hm;
      }

  none_left : (x : X) (ts : List Token) → length ts ≤ 0 → next follows x ts ≡ None
  none_left x [] h = refl
  none_left x (t ∷ ts) h = absurd (omega (arith, h))

  took_on : (n : ℕ) (x : X) (ts : List Token) (y : X) (rest : List Token) → length ts ≤ n → grow n x ts ≡ Ok (y, rest) → TookOn x ts y rest
  took_on zero x ts y rest h e = took_none zero x ts y rest (none_left x ts h) e
  took_on (suc n) x ts y rest h e = go (next follows x ts) refl (λ z us. took_on n z us y rest)
    where
      go : (o : Option L) → next follows x ts ≡ o → ((z : X) (us : List Token) → length us ≤ n → grow n z us ≡ Ok (y, rest) → TookOn z us y rest) → TookOn x ts y rest
      go None et ih = took_none (suc n) x ts y rest et e
      go (Some l) et ih = took_more n x ts l y rest et h ih e

  -- ---- what can't go on

  record StuckOn (x : X) (ts : List Token) (n : ℕ) : Type 0 where
    front : List Token
    rest : List Token
    parts : ts ≡ front ++ rest
    left : length rest ≡ n
    again : (other : List Token) → SameHead rest other → (m : ℕ) → length (front ++ other) ≤ m → grow m x (front ++ other) ≡ Err (length other)

  again_stuck : (x : X) (l : L) (ts other : List Token) (m : ℕ) → next follows x ts ≡ Some l → (step l).read ts ≡ Err (length other) → length ts ≤ m → grow m x ts ≡ Err (length other)
  again_stuck x l ts other zero en er h = absurd (omega (arith, h, next_long x l ts en))
  again_stuck x l ts other (suc m) en er h = grow_some m x ts l en ∙ ap (λ (r : Reading T). r >>= λ p. grow m (put x p.0) p.1) er

  again_later : (x : X) (l : L) (t : T) (f g other : List Token) (m : ℕ) → next follows x f ≡ Some l → (step l).read (f ++ (g ++ other)) ≡ Ok (t, g ++ other) → ((k : ℕ) → length (g ++ other) ≤ k → grow k (put x t) (g ++ other) ≡ Err (length other)) → length ((f ++ g) ++ other) ≤ m → grow m x ((f ++ g) ++ other) ≡ Err (length other)
  again_later x l t f g other zero en er rest h = absurd (omega (arith, h, next_long x l f en, length-append (f ++ g) other, length-append f g))
  again_later x l t f g other (suc m) en er rest h =
      ap (λ (ts : List Token). grow (suc m) x ts) (append_assoc f g other)
      ∙ grow_some m x (f ++ (g ++ other)) l (next_more x l f (g ++ other) en)
      ∙ ap (λ (r : Reading T). r >>= λ p. grow m (put x p.0) p.1) er
      ∙ rest m (omega (arith, h, next_long x l f en, length-append (f ++ g) other, length-append f g, length-append g other))

  stuck_on : (n : ℕ) (x : X) (ts : List Token) (m : ℕ) → length ts ≤ n → grow n x ts ≡ Err m → StuckOn x ts m
  stuck_on zero x ts m h e = let no : done {A = X × List Token} (x, ts) ≡ Err m = sym (grow_none zero x ts (none_left x ts h)) ∙ e in absurd cc
  stuck_on (suc n) x ts m h e = go (next follows x ts) refl (λ z us. stuck_on n z us m)
    where
      behind : (l : L) (p : T × List Token) → next follows x ts ≡ Some l → (step l).read ts ≡ Ok p → StuckOn (put x p.0) p.1 m → StuckOn x ts m
      behind l p et ep sb =
          let ta = (ls l).took ts p.0 p.1 ep in
          let en = next_front x l p.0 ta.front p.1 ta.is (ap (next follows x) (sym ta.parts) ∙ et) in
          record {
            front = ta.front ++ sb.front;
            rest = sb.rest;
            parts = ta.parts ∙ ap (λ (l : List Token). ta.front ++ l) sb.parts ∙ sym (append_assoc ta.front sb.front sb.rest);
            left = sb.left;
            again = λ other k j hj. again_later x l p.0 ta.front sb.front other j en (ta.again (sb.front ++ other) (SameHead-behind p.1 sb.front sb.rest other sb.parts k)) (λ i hi. sb.again other k i hi) hj;
          }

      here : (l : L) → next follows x ts ≡ Some l → Stuck (step l) ts m → StuckOn x ts m
      here l et sa = record {
        front = sa.front;
        rest = sa.rest;
        parts = sa.parts;
        left = sa.left;
        again = λ other k j hj. again_stuck x l (sa.front ++ other) other j (sym (same_next x ts (sa.front ++ other) (SameHead-behind ts sa.front sa.rest other sa.parts k)) ∙ et) (sa.again other k) hj;
      }

      some : (l : L) → next follows x ts ≡ Some l → ((z : X) (us : List Token) → length us ≤ n → grow n z us ≡ Err m → StuckOn z us m) → (((step l).read ts ≡ Err m) ⊎ ((p : T × List Token) × ((step l).read ts ≡ Ok p) × (grow n (put x p.0) p.1 ≡ failed {A = X × List Token} m))) → StuckOn x ts m
      some l et ih (inl q) = here l et ((ls l).stuck ts m q)
      some l et ih (inr q) = behind l q.0 et q.1 (ih (put x q.0.0) q.0.1 (omega (arith, h, shorter (step l) (ls l) (fs l) ts q.0.0 q.0.1 q.1)) q.2)

      go : (o : Option L) → next follows x ts ≡ o → ((z : X) (us : List Token) → length us ≤ n → grow n z us ≡ Err m → StuckOn z us m) → StuckOn x ts m
      go None et ih = let no : done {A = X × List Token} (x, ts) ≡ Err m = sym (grow_none (suc n) x ts et) ∙ e in absurd cc
      go (Some l) et ih = some l et ih (bind_err ((step l).read ts) (λ p. grow n (put x p.0) p.1) m (sym (grow_some n x ts l et) ∙ e))

  -- ---- as a loop reads

  abbrev pub Remains : X → List Token → Reading X → Type 0
  Remains x ts total = Left follows (λ l. (step l).read) put x ts total

  pub loop_begins : (ts : List Token) (x : X) (after : List Token) → base.read ts ≡ Ok (x, after) → Remains x after (rule.read ts)
  loop_begins ts x after e = record { fuel = length after; enough = omega arith; so_far = sym (ap (λ (r : Reading X). r >>= λ p. grow (length p.1) p.0 p.1) e) }

  pub loop_first_fails : (e : Refusal) (ts : List Token) → Fails e (base.read ts) → Fails e (rule.read ts)
  loop_first_fails (Memory _) ts h = tt
  loop_first_fails (At n) ts h = ap (λ (r : Reading X). r >>= λ p. grow (length p.1) p.0 p.1) h

  pub loop_goes_on : (x : X) (ts : List Token) (l : L) (t : T) (after : List Token) (total : Reading X) → next follows x ts ≡ Some l → (step l).read ts ≡ Ok (t, after) → Remains x ts total → Remains (put x t) after total
  loop_goes_on x ts l t after total en er left = go left.fuel left.enough left.so_far
    where
      go : (n : ℕ) → length ts ≤ n → grow n x ts ≡ total → Remains (put x t) after total
      go zero h e = absurd (omega (arith, h, next_long x l ts en))
      go (suc n) h e = record {
        fuel = n;
        enough = omega (arith, h, shorter (step l) (ls l) (fs l) ts t after er);
        so_far = sym (grow_some n x ts l en ∙ ap (λ (r : Reading T). r >>= λ p. grow n (put x p.0) p.1) er) ∙ e;
      }

  pub loop_fails : (e : Refusal) (x : X) (ts : List Token) (l : L) (total : Reading X) → next follows x ts ≡ Some l → Fails e ((step l).read ts) → Remains x ts total → Fails e total
  loop_fails (Memory _) x ts l total en er left = tt
  loop_fails (At n) x ts l total en er left = go left.fuel left.enough left.so_far
    where
      go : (k : ℕ) → length ts ≤ k → grow k x ts ≡ total → total ≡ Err n
      go zero h e = absurd (omega (arith, h, next_long x l ts en))
      go (suc k) h e = sym e ∙ grow_some k x ts l en ∙ ap (λ (r : Reading T). r >>= λ p. grow k (put x p.0) p.1) er

  pub loop_ends : (x : X) (ts : List Token) (total : Reading X) → next follows x ts ≡ None → Remains x ts total → total ≡ Ok (x, ts)
  loop_ends x ts total en left = sym left.so_far ∙ grow_none left.fuel x ts en

  -- ---- the rule

  grown_took : (ts : List Token) (y : X) (rest : List Token) → rule.read ts ≡ Ok (y, rest) → Took rule ts y rest
  grown_took ts y rest e =
      let w : X × List Token = (y, rest) in
      let p = bind_ok (base.read ts) (λ p. grow (length p.1) p.0 p.1) w e in
      let ta = lb.took ts p.0.0 p.0.1 p.1 in
      let tb = took_on (length p.0.1) p.0.0 p.0.1 y rest (omega arith) p.2 in
      record {
        front = ta.front ++ tb.front;
        parts = ta.parts ∙ ap (λ (l : List Token). ta.front ++ l) tb.parts ∙ sym (append_assoc ta.front tb.front rest);
        is = (p.0.0, tb.steps, ta.front, tb.front, refl, ta.is, tb.is);
        again = λ other k.
            ap rule.read (append_assoc ta.front tb.front other)
            ∙ ap (λ (r : Reading X). r >>= λ p. grow (length p.1) p.0 p.1) (ta.again (tb.front ++ other) (SameHead-behind p.0.1 tb.front rest other tb.parts k))
            ∙ tb.again other k (length (tb.front ++ other)) (omega arith);
      }

  grown_stuck : (ts : List Token) (n : ℕ) → rule.read ts ≡ Err n → Stuck rule ts n
  grown_stuck ts n e = go (bind_err (base.read ts) (λ p. grow (length p.1) p.0 p.1) n e)
    where
      go : ((base.read ts ≡ Err n) ⊎ ((p : X × List Token) × (base.read ts ≡ Ok p) × (grow (length p.1) p.0 p.1 ≡ failed {A = X × List Token} n))) → Stuck rule ts n
      go (inl q) =
          let sa = lb.stuck ts n q in
          record { front = sa.front; rest = sa.rest; parts = sa.parts; left = sa.left; again = λ other k. ap (λ (r : Reading X). r >>= λ p. grow (length p.1) p.0 p.1) (sa.again other k) }
      go (inr q) =
          let ta = lb.took ts q.0.0 q.0.1 q.1 in
          let sb = stuck_on (length q.0.1) q.0.0 q.0.1 n (omega arith) q.2 in
          record {
            front = ta.front ++ sb.front;
            rest = sb.rest;
            parts = ta.parts ∙ ap (λ (l : List Token). ta.front ++ l) sb.parts ∙ sym (append_assoc ta.front sb.front sb.rest);
            left = sb.left;
            again = λ other k.
                ap rule.read (append_assoc ta.front sb.front other)
                ∙ ap (λ (r : Reading X). r >>= λ p. grow (length p.1) p.0 p.1) (ta.again (sb.front ++ other) (SameHead-behind q.0.1 sb.front sb.rest other sb.parts k))
                ∙ sb.again other k (length (sb.front ++ other)) (omega arith);
          }

  grown_first : (t : Token) (ts : List Token) (y : X) → rule.Is (t ∷ ts) y → base.starts t ≡ true
  grown_first t ts y is = go is.2 is.4 is.5
    where
      go : (front : List Token) → t ∷ ts ≡ front ++ is.3 → base.Is front is.0 → base.starts t ≡ true
      go [] e ib = let begun : base.empty ≡ true = lb.nothing is.0 ib in absurd cc
      go (u ∷ front) e ib = let same : u ≡ t = cc in ap base.starts (sym same) ∙ lb.first u front is.0 ib

  grown_nothing : (y : X) → rule.Is [] y → false ≡ true
  grown_nothing y is = go is.2 is.4 is.5
    where
      go : (front : List Token) → [] ≡ front ++ is.3 → base.Is front is.0 → false ≡ true
      go [] e ib = let begun : base.empty ≡ true = lb.nothing is.0 ib in absurd cc
      go (u ∷ front) e ib = absurd cc

  module _ (apart_base : (x : X) (u : Token) (l : L) → follows x u ≡ Some l → base.goes_on u ≡ false) (apart_step : (x : X) (f : List Token) (l m : L) (t : T) (u : Token) → next follows x f ≡ Some l → (step l).Is f t → follows (put x t) u ≡ Some m → (step l).goes_on u ≡ false) (ends_base : (u : Token) → goes u ≡ false → base.goes_on u ≡ false) (ends_step : (x : X) (f : List Token) (l : L) (u : Token) → next follows x f ≡ Some l → goes u ≡ false → (step l).goes_on u ≡ false) (ends : (x : X) (u : Token) → goes u ≡ false → follows x u ≡ None) where
    -- what follows a value stops what stands before it
    stops_behind : (p : Token → Bool) (x : X) (ps : List (L × T)) (back rest : List Token) (y : X) → Grows x ps back y → Stops goes rest → ((u : Token) (m : L) → follows x u ≡ Some m → p u ≡ false) → ((u : Token) → goes u ≡ false → p u ≡ false) → Stops p (back ++ rest)
    stops_behind p x [] back [] y is stops on off = ap (λ (l : List Token). begins p (l ++ [])) is.0
    stops_behind p x [] back (u ∷ rest) y is stops on off = ap (λ (l : List Token). begins p (l ++ u ∷ rest)) is.0 ∙ off u stops
    stops_behind p x (q ∷ ps) back rest y is stops on off = ap (λ (l : List Token). begins p (l ++ rest)) is.2 ∙ go is.0 is.3
      where
        go : (front : List Token) → next follows x front ≡ Some q.0 → begins p ((front ++ is.1) ++ rest) ≡ false
        go [] e = absurd cc
        go (u ∷ front) e = on u q.0 e

    no_next : (x : X) (rest : List Token) → Stops goes rest → next follows x rest ≡ None
    no_next x [] stops = refl
    no_next x (u ∷ rest) stops = ends x u stops

    whole_on : (ps : List (L × T)) (x : X) (front rest : List Token) (y : X) (n : ℕ) → Grows x ps front y → Stops goes rest → length (front ++ rest) ≤ n → grow n x (front ++ rest) ≡ Ok (y, rest)
    whole_on [] x front rest y n is stops h =
        ap (λ (l : List Token). grow n x (l ++ rest)) is.0 ∙ grow_none n x rest (no_next x rest stops) ∙ ap (λ (z : X). Ok (z, rest)) (sym is.1)
    whole_on (p ∷ ps) x front rest y n is stops h =
        let f = is.0 in
        let g = is.1 in
        let here = (ls p.0).whole f p.1 (g ++ rest) is.4 (stops_behind (step p.0).goes_on (put x p.1) ps g rest y is.5 stops (λ u m e. apart_step x f p.0 m p.1 u is.3 is.4 e) (λ u e. ends_step x f p.0 u is.3 e)) in
        ap (λ (l : List Token). grow n x (l ++ rest)) is.2
        ∙ again_more x y p.0 p.1 f g rest n is.3 here (λ k hk. whole_on ps (put x p.1) g rest y k is.5 stops hk) (subst (λ (l : List Token). length (l ++ rest) ≤ n) is.2 h)

    grown_whole : (front : List Token) (y : X) (rest : List Token) → rule.Is front y → Stops goes rest → rule.read (front ++ rest) ≡ Ok (y, rest)
    grown_whole front y rest is stops =
        let x = is.0 in
        let f = is.2 in
        let g = is.3 in
        let here = lb.whole f x (g ++ rest) is.5 (stops_behind base.goes_on x is.1 g rest y is.6 stops (λ u m e. apart_base x u m e) ends_base) in
        ap (λ (l : List Token). rule.read (l ++ rest)) is.4
        ∙ ap rule.read (append_assoc f g rest)
        ∙ ap (λ (r : Reading X). r >>= λ p. grow (length p.1) p.0 p.1) here
        ∙ whole_on is.1 x g rest y (length (g ++ rest)) is.6 stops (omega arith)

    pub grown-lawful : Lawful rule
    grown-lawful = record { took = grown_took; stuck = grown_stuck; whole = grown_whole; first = grown_first; nothing = grown_nothing }

  -- ---- each beginning can go on

  module _ (vb : Viable base) (vs : (x : X) (u : Token) (l : L) → follows x u ≡ Some l → Viable (step l)) (begun : (x : X) (l : L) (u v : Token) (more : List Token) (t : T) → follows x u ≡ Some l → (step l).Is (v ∷ more) t → follows x v ≡ Some l) where
    step_on : (x : X) (l : L) (ts : List Token) → next follows x ts ≡ Some l → Viable (step l)
    step_on x l [] e = absurd cc
    step_on x l (u ∷ ts) e = vs x u l e

    begun_so : (x : X) (l : L) (ts f : List Token) (t : T) → next follows x ts ≡ Some l → (step l).Is f t → next follows x f ≡ Some l
    begun_so x l [] f t e is = absurd cc
    begun_so x l (u ∷ ts) [] t e is = let begun : (step l).empty ≡ true = (ls l).nothing t is in let full = fs l in absurd cc
    begun_so x l (u ∷ ts) (v ∷ f) t e is = begun x l u v f t e is

    record ReadyOn (x : X) (ts : List Token) (n : ℕ) : Type 0 where
      front : List Token
      rest : List Token
      parts : ts ≡ front ++ rest
      left : length rest ≡ n
      other : List Token
      value : X
      steps : List (L × T)
      is : Grows x steps (front ++ other) value

    ready_on : (n : ℕ) (x : X) (ts : List Token) (m : ℕ) → length ts ≤ n → grow n x ts ≡ Err m → ReadyOn x ts m
    ready_on zero x ts m h e = let no : done {A = X × List Token} (x, ts) ≡ Err m = sym (grow_none zero x ts (none_left x ts h)) ∙ e in absurd cc
    ready_on (suc n) x ts m h e = go (next follows x ts) refl (λ z us. ready_on n z us m)
      where
        behind : (l : L) (p : T × List Token) → next follows x ts ≡ Some l → (step l).read ts ≡ Ok p → ReadyOn (put x p.0) p.1 m → ReadyOn x ts m
        behind l p et ep sb =
            let ta = (ls l).took ts p.0 p.1 ep in
            record {
              front = ta.front ++ sb.front;
              rest = sb.rest;
              parts = ta.parts ∙ ap (λ (l : List Token). ta.front ++ l) sb.parts ∙ sym (append_assoc ta.front sb.front sb.rest);
              left = sb.left;
              other = sb.other;
              value = sb.value;
              steps = (l, p.0) ∷ sb.steps;
              is = (ta.front, sb.front ++ sb.other, append_assoc ta.front sb.front sb.other, begun_so x l ts ta.front p.0 et ta.is, ta.is, sb.is);
            }

        here : (l : L) → next follows x ts ≡ Some l → Ready (step l) ts m → ReadyOn x ts m
        here l et s = record {
          front = s.front;
          rest = s.rest;
          parts = s.parts;
          left = s.left;
          other = s.on.0;
          value = put x s.on.1;
          steps = (l, s.on.1) ∷ [];
          is = (s.front ++ s.on.0, [], sym (append-nil (s.front ++ s.on.0)), begun_so x l ts (s.front ++ s.on.0) s.on.1 et s.on.2, s.on.2, (refl, refl));
        }

        some : (l : L) → next follows x ts ≡ Some l → ((z : X) (us : List Token) → length us ≤ n → grow n z us ≡ Err m → ReadyOn z us m) → (((step l).read ts ≡ Err m) ⊎ ((p : T × List Token) × ((step l).read ts ≡ Ok p) × (grow n (put x p.0) p.1 ≡ failed {A = X × List Token} m))) → ReadyOn x ts m
        some l et ih (inl q) = here l et ((step_on x l ts et).stuck ts m q)
        some l et ih (inr q) = behind l q.0 et q.1 (ih (put x q.0.0) q.0.1 (omega (arith, h, shorter (step l) (ls l) (fs l) ts q.0.0 q.0.1 q.1)) q.2)

        go : (o : Option L) → next follows x ts ≡ o → ((z : X) (us : List Token) → length us ≤ n → grow n z us ≡ Err m → ReadyOn z us m) → ReadyOn x ts m
        go None et ih = let no : done {A = X × List Token} (x, ts) ≡ Err m = sym (grow_none (suc n) x ts et) ∙ e in absurd cc
        go (Some l) et ih = some l et ih (bind_err ((step l).read ts) (λ p. grow n (put x p.0) p.1) m (sym (grow_some n x ts l et) ∙ e))

    first_on : (ts : List Token) (n : ℕ) → Ready base ts n → Ready rule ts n
    first_on ts n s = record { front = s.front; rest = s.rest; parts = s.parts; left = s.left; on = (s.on.0, s.on.1, (s.on.1, [], s.front ++ s.on.0, [], sym (append-nil (s.front ++ s.on.0)), s.on.2, (refl, refl))) }

    later_on : (ts : List Token) (n : ℕ) (p : X × List Token) → Took base ts p.0 p.1 → ReadyOn p.0 p.1 n → Ready rule ts n
    later_on ts n p ta sb = record {
      front = ta.front ++ sb.front;
      rest = sb.rest;
      parts = ta.parts ∙ ap (λ (l : List Token). ta.front ++ l) sb.parts ∙ sym (append_assoc ta.front sb.front sb.rest);
      left = sb.left;
      on = (sb.other, sb.value, (p.0, sb.steps, ta.front, sb.front ++ sb.other, append_assoc ta.front sb.front sb.other, ta.is, sb.is));
    }

    grown_ready : (ts : List Token) (n : ℕ) → ((base.read ts ≡ Err n) ⊎ ((p : X × List Token) × (base.read ts ≡ Ok p) × (grow (length p.1) p.0 p.1 ≡ failed {A = X × List Token} n))) → Ready rule ts n
    grown_ready ts n (inl q) = first_on ts n (vb.stuck ts n q)
    grown_ready ts n (inr q) = later_on ts n q.0 (lb.took ts q.0.0 q.0.1 q.1) (ready_on (length q.0.1) q.0.0 q.0.1 n (omega arith) q.2)

    pub grown-viable : Viable rule
    grown-viable = record {
      stuck = λ ts n e. grown_ready ts n (bind_err (base.read ts) (λ p. grow (length p.1) p.0 p.1) n e);
      some = (vb.some.0, vb.some.1, (vb.some.1, [], vb.some.0, [], sym (append-nil vb.some.0), vb.some.2, (refl, refl)));
    }

-- ---- a rule with its tokens named, and an optional part that never comes

pub sealed-viable : {X : Type 0} (starts goes_on : Token → Bool) (r : Rule X) → Viable r → Viable (sealed starts goes_on r)
sealed-viable {X = X} starts goes_on r vr = record { stuck = stuck; some = vr.some }
  where
    stuck : (ts : List Token) (n : ℕ) → r.read ts ≡ Err n → Ready (sealed starts goes_on r) ts n
    stuck ts n e = let s = vr.stuck ts n e in record { front = s.front; rest = s.rest; parts = s.parts; left = s.left; on = s.on }

pub never-viable : {X : Type 0} → Viable (optional (token {X = X} never))
never-viable {X = X} = record { stuck = stuck; some = ([], None, refl) }
  where
    stuck : (ts : List Token) (n : ℕ) → (optional (token {X = X} never)).read ts ≡ Err n → Ready (optional (token {X = X} never)) ts n
    stuck [] n e = absurd cc
    stuck (t ∷ ts) n e = absurd cc
