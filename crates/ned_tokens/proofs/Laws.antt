-- What each rule keeps: what is read is spelled so and is read again, what is spelled is read, and
-- a fault depends on no token after it.
use Rattle.std.proofs.Common.{◌≡◌, ℕ, Bool, true, false, ◌&&◌, ◌||◌, cond, List, [], ◌∷◌, ◌++◌, length, Option, Some, None, Result, Ok, Err, ◌⊎◌, inl, inr, refl, sym, ap, subst, ◌∙◌, append_assoc}
use Rattle.std.specs.Prelude.{is_some}
use Rattle.ned_tokens.specs.declared.token.Token.{Token}
use Rattle.ned_tokens.specs.Rule.{◌>>=◌, begins, Rule, token, taken, token_read, ◌⊗◌, made, ◌◁◌, ◌▷◌, such_that, sealed, either, optional}

-- the same first token, or none
abbrev pub SameHead : List Token → List Token → Type 0
SameHead [] [] = Unit {0}
SameHead [] (u ∷ us) = ⊥
SameHead (t ∷ ts) [] = ⊥
SameHead (t ∷ ts) (u ∷ us) = t ≡ u

-- the first token does not go on
abbrev pub Stops : (Token → Bool) → List Token → Type 0
Stops p ts = begins p ts ≡ false

pub record Took {X : Type 0} (r : Rule X) (ts : List Token) (x : X) (rest : List Token) : Type 0 where
  pub front : List Token
  pub parts : ts ≡ front ++ rest
  pub is : r.Is front x
  pub again : (other : List Token) → SameHead rest other → r.read (front ++ other) ≡ Ok (x, other)

pub record Stuck {X : Type 0} (r : Rule X) (ts : List Token) (n : ℕ) : Type 0 where
  pub front : List Token
  pub rest : List Token
  pub parts : ts ≡ front ++ rest
  pub left : length rest ≡ n
  pub again : (other : List Token) → SameHead rest other → r.read (front ++ other) ≡ Err (length other)

pub record Lawful {X : Type 0} (r : Rule X) : Type 0 where
  pub took : (ts : List Token) (x : X) (rest : List Token) → r.read ts ≡ Ok (x, rest) → Took r ts x rest
  pub stuck : (ts : List Token) (n : ℕ) → r.read ts ≡ Err n → Stuck r ts n
  pub whole : (front : List Token) (x : X) (rest : List Token) → r.Is front x → Stops r.goes_on rest → r.read (front ++ rest) ≡ Ok (x, rest)
  pub first : (t : Token) (ts : List Token) (x : X) → r.Is (t ∷ ts) x → r.starts t ≡ true
  pub nothing : (x : X) → r.Is [] x → r.empty ≡ true

-- ---- tools

pub SameHead-refl : (ts : List Token) → SameHead ts ts
SameHead-refl [] = tt
SameHead-refl (t ∷ ts) = refl

-- the same first token after the same front
pub SameHead-front : (front a b : List Token) → SameHead a b → SameHead (front ++ a) (front ++ b)
SameHead-front [] a b h = h
SameHead-front (t ∷ front) a b h = refl

pub SameHead-begins : (p : Token → Bool) (a b : List Token) → SameHead a b → begins p a ≡ begins p b
SameHead-begins p [] [] h = refl
SameHead-begins p [] (u ∷ us) h = absurd h
SameHead-begins p (t ∷ ts) [] h = absurd h
SameHead-begins p (t ∷ ts) (u ∷ us) h = ap p h

pub bind_ok : {A B : Type 0} (r : Result A ℕ) (f : A → Result B ℕ) (y : B) → (r >>= f) ≡ Ok y → (x : A) × (r ≡ Ok x) × (f x ≡ Ok y)
bind_ok (Ok x) f y e = (x, refl, e)
bind_ok (Err d) f y e = absurd cc

-- a step that failed, or the one before it did
pub bind_err : {A B : Type 0} (r : Result A ℕ) (f : A → Result B ℕ) (n : ℕ) → (r >>= f) ≡ Err n → (r ≡ Err n) ⊎ ((x : A) × (r ≡ Ok x) × (f x ≡ Err n))
bind_err (Ok x) f n e = inr (x, refl, e)
bind_err (Err d) f n e = inl (let h : d ≡ n = cc in ap Err h)

abbrev pub done : {A : Type 0} → A → Result A ℕ
done x = Ok x

pub ok_is : {A : Type 0} (x y : A) → done x ≡ done y → x ≡ y
ok_is x y e = cc

abbrev pub failed : {A : Type 0} → ℕ → Result A ℕ
failed n = Err n

-- both parts of what was read
pub ok_parts : {X : Type 0} (x y : X) (a b : List Token) → done {A = X × List Token} (x, a) ≡ done (y, b) → (x ≡ y) × (a ≡ b)
ok_parts {X = X} x y a b e = let v : X × List Token = (x, a) in let w : X × List Token = (y, b) in let h : v ≡ w = ok_is v w e in (ap (λ (p : X × List Token). p.0) h, ap (λ (p : X × List Token). p.1) h)

-- only nothing has the head of nothing
pub SameHead-nil : (other : List Token) → SameHead [] other → other ≡ []
SameHead-nil [] h = refl
SameHead-nil (u ∷ us) h = absurd h

-- what is after a front has the head that the rest had
pub SameHead-behind : (mid front rest other : List Token) → mid ≡ front ++ rest → SameHead rest other → SameHead mid (front ++ other)
SameHead-behind mid front rest other e h = subst (λ (l : List Token). SameHead l (front ++ other)) (sym e) (SameHead-front front rest other h)

-- a fault at the first token
pub stuck_here : {X : Type 0} (r : Rule X) (ts : List Token) (n : ℕ) → length ts ≡ n → ((other : List Token) → SameHead ts other → r.read other ≡ Err (length other)) → Stuck r ts n
stuck_here r ts n e h = record { front = []; rest = ts; parts = refl; left = e; again = h }

-- ---- one token

module _ {X : Type 0} (f : Token → Option X) where
  token_took : (t : Token) (ts : List Token) (o : Option X) (x : X) (rest : List Token) → f t ≡ o → taken o ts ≡ Ok (x, rest) → Took (token f) (t ∷ ts) x rest
  token_took t ts None x rest q e = absurd cc
  token_took t ts (Some y) x rest q e =
      let p = ok_parts y x ts rest e in
      let found : f t ≡ Some x = q ∙ ap Some p.0 in
      record { front = t ∷ []; parts = ap (λ (l : List Token). t ∷ l) p.1; is = (t, refl, found); again = λ other h. rw found refl }

  token_stuck : (t : Token) (ts : List Token) (o : Option X) (n : ℕ) → f t ≡ o → taken o ts ≡ Err n → Stuck (token f) (t ∷ ts) n
  token_stuck t ts None n q e = stuck_here (token f) (t ∷ ts) n (cc) again
    where
      again : (other : List Token) → SameHead (t ∷ ts) other → token_read f other ≡ Err (length other)
      again [] h = absurd h
      again (u ∷ us) h = let none : f u ≡ None = ap f (sym h) ∙ q in rw none refl
  token_stuck t ts (Some y) n q e = absurd cc

  pub token-lawful : Lawful (token f)
  token-lawful = record { took = took; stuck = stuck; whole = whole; first = first; nothing = nothing }
    where
      took : (ts : List Token) (x : X) (rest : List Token) → token_read f ts ≡ Ok (x, rest) → Took (token f) ts x rest
      took [] x rest e = absurd cc
      took (t ∷ ts) x rest e = token_took t ts (f t) x rest refl e

      stuck : (ts : List Token) (n : ℕ) → token_read f ts ≡ Err n → Stuck (token f) ts n
      stuck [] n e = stuck_here (token f) [] n (cc) (λ other h. rw (SameHead-nil other h) refl)
      stuck (t ∷ ts) n e = token_stuck t ts (f t) n refl e

      whole : (front : List Token) (x : X) (rest : List Token) → (token f).Is front x → Stops (λ _. false) rest → token_read f (front ++ rest) ≡ Ok (x, rest)
      whole front x rest is stops = rw (is.1, is.2) refl

      first : (t : Token) (ts : List Token) (x : X) → (token f).Is (t ∷ ts) x → is_some (f t) ≡ true
      first t ts x is = let same : t ≡ is.0 = cc in rw (same, is.2) refl

      nothing : (x : X) → (token f).Is [] x → false ≡ true
      nothing x is = let none : [] ≡ is.0 ∷ [] = is.1 in absurd cc

-- ---- one after the other

module _ {X Y : Type 0} (a : Rule X) (b : Rule Y) (la : Lawful a) (lb : Lawful b) (apart : (t : Token) → b.starts t ≡ true → a.goes_on t ≡ false) where
  pair_again : (fa fb other : List Token) (x : X) (y : Y) → a.read (fa ++ (fb ++ other)) ≡ Ok (x, fb ++ other) → b.read (fb ++ other) ≡ Ok (y, other) → (a ⊗ b).read ((fa ++ fb) ++ other) ≡ Ok ((x, y), other)
  pair_again fa fb other x y ea eb = rw (append_assoc, ea, eb) refl

  pair_took : (ts : List Token) (v : X × Y) (rest : List Token) → (a ⊗ b).read ts ≡ Ok (v, rest) → Took (a ⊗ b) ts v rest
  pair_took ts v rest e =
      let w : (X × Y) × List Token = (v, rest) in
      let p = bind_ok (a.read ts) (λ x. b.read x.1 >>= λ y. Ok ((x.0, y.0), y.1)) w e in
      let q = bind_ok (b.read p.0.1) (λ y. Ok ((p.0.0, y.0), y.1)) w p.2 in
      let made : (X × Y) × List Token = ((p.0.0, q.0.0), q.0.1) in
      let ta = la.took ts p.0.0 p.0.1 p.1 in
      let tb = lb.took p.0.1 q.0.0 q.0.1 q.1 in
      subst (λ (z : (X × Y) × List Token). Took (a ⊗ b) ts z.0 z.1) (ok_is made w q.2) (record {
        front = ta.front ++ tb.front;
        parts = ta.parts ∙ ap (λ (l : List Token). ta.front ++ l) tb.parts ∙ sym (append_assoc ta.front tb.front q.0.1);
        is = (ta.front, tb.front, refl, ta.is, tb.is);
        again = λ other h. pair_again ta.front tb.front other p.0.0 q.0.0 (ta.again (tb.front ++ other) (SameHead-behind p.0.1 tb.front q.0.1 other tb.parts h)) (tb.again other h);
      })

  pair_stuck : (ts : List Token) (n : ℕ) → (a ⊗ b).read ts ≡ Err n → Stuck (a ⊗ b) ts n
  pair_stuck ts n e = go (bind_err (a.read ts) (λ x. b.read x.1 >>= λ y. Ok ((x.0, y.0), y.1)) n e)
    where
      second : (p : X × List Token) → Took a ts p.0 p.1 → Stuck b p.1 n → Stuck (a ⊗ b) ts n
      second p ta sb = record {
        front = ta.front ++ sb.front;
        rest = sb.rest;
        parts = ta.parts ∙ ap (λ (l : List Token). ta.front ++ l) sb.parts ∙ sym (append_assoc ta.front sb.front sb.rest);
        left = sb.left;
        again = λ other h. rw (append_assoc ta.front sb.front other, ta.again (sb.front ++ other) (SameHead-behind p.1 sb.front sb.rest other sb.parts h), sb.again other h) refl;
      }

      go : ((a.read ts ≡ Err n) ⊎ ((x : X × List Token) × (a.read ts ≡ Ok x) × ((b.read x.1 >>= λ y. Ok ((x.0, y.0), y.1)) ≡ failed {A = (X × Y) × List Token} n))) → Stuck (a ⊗ b) ts n
      go (inl e) = let sa = la.stuck ts n e in record { front = sa.front; rest = sa.rest; parts = sa.parts; left = sa.left; again = λ other h. rw (sa.again other h) refl }
      go (inr p) = inner p (bind_err (b.read p.0.1) (λ y. Ok ((p.0.0, y.0), y.1)) n p.2)
        where
          inner : (p : (x : X × List Token) × (a.read ts ≡ Ok x) × ((b.read x.1 >>= λ y. Ok ((x.0, y.0), y.1)) ≡ failed {A = (X × Y) × List Token} n)) → ((b.read p.0.1 ≡ Err n) ⊎ ((y : Y × List Token) × (b.read p.0.1 ≡ Ok y) × (done {A = (X × Y) × List Token} ((p.0.0, y.0), y.1) ≡ Err n))) → Stuck (a ⊗ b) ts n
          inner p (inl eb) = second p.0 (la.took ts p.0.0 p.0.1 p.1) (lb.stuck p.0.1 n eb)
          inner p (inr q) = let no = q.2 in absurd cc

  -- what stops the pair stops the first part, whether the second is empty or not
  pair_stops : (back rest : List Token) (y : Y) → b.Is back y → Stops (a ⊗ b).goes_on rest → Stops a.goes_on (back ++ rest)
  pair_stops [] [] y is stops = refl
  pair_stops [] (u ∷ rest) y is stops = go (b.goes_on u) b.empty (a.goes_on u) (lb.nothing y is) stops
    where
      go : (p q r : Bool) → q ≡ true → p || (q && r) ≡ false → r ≡ false
      go true q r h e = absurd cc
      go false true r h e = e
      go false false r h e = absurd cc
  pair_stops (u ∷ back) rest y is stops = apart u (lb.first u back y is)

  pair_whole : (front : List Token) (v : X × Y) (rest : List Token) → (a ⊗ b).Is front v → Stops (a ⊗ b).goes_on rest → (a ⊗ b).read (front ++ rest) ≡ Ok (v, rest)
  pair_whole front v rest is stops =
      let ea = la.whole is.0 v.0 (is.1 ++ rest) is.3 (pair_stops is.1 rest v.1 is.4 stops) in
      let eb = lb.whole is.1 v.1 rest is.4 (go (b.goes_on) stops) in
      ap (λ (l : List Token). (a ⊗ b).read (l ++ rest)) is.2 ∙ pair_again is.0 is.1 rest v.0 v.1 ea eb
    where
      or_left : (p q : Bool) → p || q ≡ false → p ≡ false
      or_left false q e = refl
      or_left true q e = e

      stops_left : (p q : Token → Bool) (rest : List Token) → Stops (λ t. p t || q t) rest → Stops p rest
      stops_left p q [] e = refl
      stops_left p q (t ∷ ts) e = or_left (p t) (q t) e

      go : (p : Token → Bool) → Stops (a ⊗ b).goes_on rest → Stops b.goes_on rest
      go p e = stops_left b.goes_on (λ t. b.empty && a.goes_on t) rest e

  pair_first : (t : Token) (ts : List Token) (v : X × Y) → (a ⊗ b).Is (t ∷ ts) v → (a ⊗ b).starts t ≡ true
  pair_first t ts v is = go is.0 is.1 is.2 is.3 is.4
    where
      second : (p q : Bool) (z : Bool) → q ≡ true → z ≡ true → p || (q && z) ≡ true
      second true q z e h = refl
      second false q z e h = rw (e, h) refl

      left : (p q : Bool) → p ≡ true → p || q ≡ true
      left true q e = refl
      left false q e = absurd cc

      go : (front back : List Token) → t ∷ ts ≡ front ++ back → a.Is front v.0 → b.Is back v.1 → (a ⊗ b).starts t ≡ true
      go [] back e ia ib = second (a.starts t) a.empty (b.starts t) (la.nothing v.0 ia) (lb.first t ts v.1 (subst (λ (l : List Token). b.Is l v.1) (sym e) ib))
      go (u ∷ front) back e ia ib = let same : u ≡ t = cc in left (a.starts t) (a.empty && b.starts t) (ap a.starts (sym same) ∙ la.first u front v.0 ia)

  pair_nothing : (v : X × Y) → (a ⊗ b).Is [] v → (a ⊗ b).empty ≡ true
  pair_nothing v is = go is.0 is.1 is.2 is.3 is.4
    where
      go : (front back : List Token) → [] ≡ front ++ back → a.Is front v.0 → b.Is back v.1 → (a ⊗ b).empty ≡ true
      go [] [] e ia ib = rw (la.nothing v.0 ia, lb.nothing v.1 ib) refl
      go [] (u ∷ back) e ia ib = absurd cc
      go (u ∷ front) back e ia ib = absurd cc

  pub pair-lawful : Lawful (a ⊗ b)
  pair-lawful = record { took = pair_took; stuck = pair_stuck; whole = pair_whole; first = pair_first; nothing = pair_nothing }

-- ---- a value made of the value read

module _ {X Y : Type 0} (f : X → Y) (r : Rule X) (lr : Lawful r) where
  made_again : (front other : List Token) (x : X) → r.read (front ++ other) ≡ Ok (x, other) → (made f r).read (front ++ other) ≡ Ok (f x, other)
  made_again front other x e = rw e refl

  pub made-lawful : Lawful (made f r)
  made-lawful = record { took = took; stuck = stuck; whole = whole; first = λ t ts y is. lr.first t ts is.0 is.1; nothing = λ y is. lr.nothing is.0 is.1 }
    where
      took : (ts : List Token) (y : Y) (rest : List Token) → (made f r).read ts ≡ Ok (y, rest) → Took (made f r) ts y rest
      took ts y rest e =
          let w : Y × List Token = (y, rest) in
          let p = bind_ok (r.read ts) (λ x. Ok (f x.0, x.1)) w e in
          let tr = lr.took ts p.0.0 p.0.1 p.1 in
          let v : Y × List Token = (f p.0.0, p.0.1) in
          subst (λ (z : Y × List Token). Took (made f r) ts z.0 z.1) (ok_is v w p.2) (record { front = tr.front; parts = tr.parts; is = (p.0.0, tr.is, refl); again = λ other h. made_again tr.front other p.0.0 (tr.again other h) })

      stuck : (ts : List Token) (n : ℕ) → (made f r).read ts ≡ Err n → Stuck (made f r) ts n
      stuck ts n e = go (bind_err (r.read ts) (λ x. Ok (f x.0, x.1)) n e)
        where
          go : ((r.read ts ≡ Err n) ⊎ ((x : X × List Token) × (r.read ts ≡ Ok x) × (done {A = Y × List Token} (f x.0, x.1) ≡ Err n))) → Stuck (made f r) ts n
          go (inl h) = let sr = lr.stuck ts n h in record { front = sr.front; rest = sr.rest; parts = sr.parts; left = sr.left; again = λ other h. rw (sr.again other h) refl }
          go (inr p) = let no = p.2 in absurd cc

      whole : (front : List Token) (y : Y) (rest : List Token) → (made f r).Is front y → Stops r.goes_on rest → (made f r).read (front ++ rest) ≡ Ok (y, rest)
      whole front y rest is stops = made_again front rest is.0 (lr.whole front is.0 rest is.1 stops) ∙ ap (λ (z : Y). Ok (z, rest)) (sym is.2)

-- ---- a condition on the value

module _ {X : Type 0} (p : X → Bool) (r : Rule X) (lr : Lawful r) where
  such_that_again : (front other : List Token) (x : X) → p x ≡ true → r.read (front ++ other) ≡ Ok (x, other) → (such_that p r).read (front ++ other) ≡ Ok (x, other)
  such_that_again front other x e h = rw h (rw e refl)

  such_that_not : (front other : List Token) (x : X) → p x ≡ false → r.read (front ++ other) ≡ Ok (x, other) → (such_that p r).read (front ++ other) ≡ Err (length other)
  such_that_not front other x e h = rw h (rw e refl)

  pub such_that-lawful : Lawful (such_that p r)
  such_that-lawful = record { took = took; stuck = stuck; whole = λ front x rest is stops. such_that_again front rest x is.1 (lr.whole front x rest is.0 stops); first = λ t ts x is. lr.first t ts x is.0; nothing = λ x is. lr.nothing x is.0 }
    where
      took : (ts : List Token) (x : X) (rest : List Token) → (such_that p r).read ts ≡ Ok (x, rest) → Took (such_that p r) ts x rest
      took ts x rest e =
          let w : X × List Token = (x, rest) in
          let q = bind_ok (r.read ts) (λ x. cond (p x.0) (Ok x) (Err (length x.1))) w e in
          go q.0 q.1 (p q.0.0) refl q.2
        where
          go : (v : X × List Token) → r.read ts ≡ Ok v → (b : Bool) → p v.0 ≡ b → cond b (done {A = X × List Token} v) (Err (length v.1)) ≡ Ok (x, rest) → Took (such_that p r) ts x rest
          go v ev true eb h =
              let w : X × List Token = (x, rest) in
              let tr = lr.took ts v.0 v.1 ev in
              subst (λ (z : X × List Token). Took (such_that p r) ts z.0 z.1) (ok_is v w h) (record { front = tr.front; parts = tr.parts; is = (tr.is, eb); again = λ other k. such_that_again tr.front other v.0 eb (tr.again other k) })
          go v ev false eb h = absurd cc

      stuck : (ts : List Token) (n : ℕ) → (such_that p r).read ts ≡ Err n → Stuck (such_that p r) ts n
      stuck ts n e = go (bind_err (r.read ts) (λ x. cond (p x.0) (Ok x) (Err (length x.1))) n e)
        where
          inner : (v : X × List Token) → r.read ts ≡ Ok v → (b : Bool) → p v.0 ≡ b → cond b (done {A = X × List Token} v) (Err (length v.1)) ≡ Err n → Stuck (such_that p r) ts n
          inner v ev true eb h = absurd cc
          inner v ev false eb h =
              let tr = lr.took ts v.0 v.1 ev in
              record { front = tr.front; rest = v.1; parts = tr.parts; left = (cc); again = λ other k. such_that_not tr.front other v.0 eb (tr.again other k) }

          go : ((r.read ts ≡ Err n) ⊎ ((x : X × List Token) × (r.read ts ≡ Ok x) × (cond (p x.0) (done {A = X × List Token} x) (Err (length x.1)) ≡ Err n))) → Stuck (such_that p r) ts n
          go (inl h) = let sr = lr.stuck ts n h in record { front = sr.front; rest = sr.rest; parts = sr.parts; left = sr.left; again = λ other h. rw (sr.again other h) refl }
          go (inr q) = inner q.0 q.1 (p q.0.0) refl q.2

-- ---- tests

pub or_left : (p q : Bool) → p || q ≡ false → p ≡ false
or_left false q e = refl
or_left true q e = e

pub or_right : (p q : Bool) → p || q ≡ false → q ≡ false
or_right false q e = e
or_right true q e = absurd cc

pub or_first : (p q : Bool) → p ≡ true → p || q ≡ true
or_first true q e = refl
or_first false q e = absurd cc

pub or_second : (p q : Bool) → q ≡ true → p || q ≡ true
or_second true q e = refl
or_second false q e = e

pub Stops-left : (p q : Token → Bool) (rest : List Token) → Stops (λ t. p t || q t) rest → Stops p rest
Stops-left p q [] e = refl
Stops-left p q (t ∷ ts) e = or_left (p t) (q t) e

pub Stops-right : (p q : Token → Bool) (rest : List Token) → Stops (λ t. p t || q t) rest → Stops q rest
Stops-right p q [] e = refl
Stops-right p q (t ∷ ts) e = or_right (p t) (q t) e

-- a rule that is never empty begins with one of its tokens
pub begins_with : {X : Type 0} (r : Rule X) → Lawful r → r.empty ≡ false → (front : List Token) (x : X) (rest : List Token) → r.Is front x → begins r.starts (front ++ rest) ≡ true
begins_with r lr full [] x rest is = let yes : r.empty ≡ true = lr.nothing x is in absurd cc
begins_with r lr full (t ∷ ts) x rest is = lr.first t ts x is

-- ---- one or the other

module _ {X : Type 0} (a : Rule X) (b : Rule X) (la : Lawful a) (lb : Lawful b) (full_a : a.empty ≡ false) (full_b : b.empty ≡ false) (apart : (t : Token) → b.starts t ≡ true → a.starts t ≡ false) where
  not_first : (front : List Token) (x : X) (rest : List Token) → b.Is front x → begins a.starts (front ++ rest) ≡ false
  not_first [] x rest is = let yes : b.empty ≡ true = lb.nothing x is in absurd cc
  not_first (t ∷ ts) x rest is = apart t (lb.first t ts x is)

  pub either-lawful : Lawful (either a b)
  either-lawful = record { took = took; stuck = stuck; whole = whole; first = first; nothing = nothing }
    where
      took : (ts : List Token) (x : X) (rest : List Token) → (either a b).read ts ≡ Ok (x, rest) → Took (either a b) ts x rest
      took ts x rest e = go (begins a.starts ts) refl e
        where
          same : (t : Bool) → begins a.starts ts ≡ t → (front other : List Token) → ts ≡ front ++ rest → SameHead rest other → begins a.starts (front ++ other) ≡ t
          same t et front other parts h = sym (SameHead-begins a.starts ts (front ++ other) (subst (λ (l : List Token). SameHead l (front ++ other)) (sym parts) (SameHead-front front rest other h))) ∙ et

          go : (t : Bool) → begins a.starts ts ≡ t → cond t (a.read ts) (b.read ts) ≡ Ok (x, rest) → Took (either a b) ts x rest
          go true et h = let tr = la.took ts x rest h in record { front = tr.front; parts = tr.parts; is = inl tr.is; again = λ other k. rw (same true et tr.front other tr.parts k) (tr.again other k) }
          go false et h = let tr = lb.took ts x rest h in record { front = tr.front; parts = tr.parts; is = inr tr.is; again = λ other k. rw (same false et tr.front other tr.parts k) (tr.again other k) }

      stuck : (ts : List Token) (n : ℕ) → (either a b).read ts ≡ Err n → Stuck (either a b) ts n
      stuck ts n e = go (begins a.starts ts) refl e
        where
          same : (t : Bool) → begins a.starts ts ≡ t → (front rest other : List Token) → ts ≡ front ++ rest → SameHead rest other → begins a.starts (front ++ other) ≡ t
          same t et front rest other parts h = sym (SameHead-begins a.starts ts (front ++ other) (subst (λ (l : List Token). SameHead l (front ++ other)) (sym parts) (SameHead-front front rest other h))) ∙ et

          go : (t : Bool) → begins a.starts ts ≡ t → cond t (a.read ts) (b.read ts) ≡ Err n → Stuck (either a b) ts n
          go true et h = let sr = la.stuck ts n h in record { front = sr.front; rest = sr.rest; parts = sr.parts; left = sr.left; again = λ other k. rw (same true et sr.front sr.rest other sr.parts k) (sr.again other k) }
          go false et h = let sr = lb.stuck ts n h in record { front = sr.front; rest = sr.rest; parts = sr.parts; left = sr.left; again = λ other k. rw (same false et sr.front sr.rest other sr.parts k) (sr.again other k) }

      whole : (front : List Token) (x : X) (rest : List Token) → (either a b).Is front x → Stops (either a b).goes_on rest → (either a b).read (front ++ rest) ≡ Ok (x, rest)
      whole front x rest (inl is) stops = rw (begins_with a la full_a front x rest is) (la.whole front x rest is (Stops-left a.goes_on b.goes_on rest stops))
      whole front x rest (inr is) stops = rw (not_first front x rest is) (lb.whole front x rest is (Stops-right a.goes_on b.goes_on rest stops))

      first : (t : Token) (ts : List Token) (x : X) → (either a b).Is (t ∷ ts) x → (either a b).starts t ≡ true
      first t ts x (inl is) = or_first (a.starts t) (b.starts t) (la.first t ts x is)
      first t ts x (inr is) = or_second (a.starts t) (b.starts t) (lb.first t ts x is)

      nothing : (x : X) → (either a b).Is [] x → b.empty ≡ true
      nothing x (inl is) = let yes : a.empty ≡ true = la.nothing x is in absurd cc
      nothing x (inr is) = lb.nothing x is

-- ---- a value or nothing

module _ {X : Type 0} (r : Rule X) (lr : Lawful r) (full : r.empty ≡ false) where
  pub optional-lawful : Lawful (optional r)
  optional-lawful = record { took = took; stuck = stuck; whole = whole; first = first; nothing = λ x is. refl }
    where
      took : (ts : List Token) (x : Option X) (rest : List Token) → (optional r).read ts ≡ Ok (x, rest) → Took (optional r) ts x rest
      took ts x rest e = go (begins r.starts ts) refl e
        where
          some : (begins r.starts ts ≡ true) → (v : X × List Token) → r.read ts ≡ Ok v → done {A = Option X × List Token} (Some v.0, v.1) ≡ Ok (x, rest) → Took (optional r) ts x rest
          some et v ev h =
              let w : Option X × List Token = (x, rest) in
              let made : Option X × List Token = (Some v.0, v.1) in
              let tr = lr.took ts v.0 v.1 ev in
              subst (λ (z : Option X × List Token). Took (optional r) ts z.0 z.1) (ok_is made w h) (record { front = tr.front; parts = tr.parts; is = tr.is; again = λ other k. rw (begins_with r lr full tr.front v.0 other tr.is) (rw (tr.again other k) refl) })

          go : (t : Bool) → begins r.starts ts ≡ t → cond t (r.read ts >>= λ x. Ok (Some x.0, x.1)) (done {A = Option X × List Token} (None, ts)) ≡ Ok (x, rest) → Took (optional r) ts x rest
          go true et h =
              let w : Option X × List Token = (x, rest) in
              let p = bind_ok (r.read ts) (λ x. Ok (Some x.0, x.1)) w h in
              some et p.0 p.1 p.2
          go false et h =
              let w : Option X × List Token = (x, rest) in
              let made : Option X × List Token = (None, ts) in
              subst (λ (z : Option X × List Token). Took (optional r) ts z.0 z.1) (ok_is made w h) (record { front = []; parts = refl; is = refl; again = λ other k. let no : begins r.starts other ≡ false = sym (SameHead-begins r.starts ts other k) ∙ et in rw no refl })

      stuck : (ts : List Token) (n : ℕ) → (optional r).read ts ≡ Err n → Stuck (optional r) ts n
      stuck ts n e = go (begins r.starts ts) refl e
        where
          some : (begins r.starts ts ≡ true) → ((r.read ts ≡ Err n) ⊎ ((x : X × List Token) × (r.read ts ≡ Ok x) × (done {A = Option X × List Token} (Some x.0, x.1) ≡ Err n))) → Stuck (optional r) ts n
          some et (inl h) =
              let sr = lr.stuck ts n h in
              record {
                front = sr.front;
                rest = sr.rest;
                parts = sr.parts;
                left = sr.left;
                again = λ other k.
                    let yes : begins r.starts (sr.front ++ other) ≡ true = sym (SameHead-begins r.starts ts (sr.front ++ other) (SameHead-behind ts sr.front sr.rest other sr.parts k)) ∙ et in
                    rw yes (rw (sr.again other k) refl);
              }
          some et (inr p) = let no = p.2 in absurd cc

          go : (t : Bool) → begins r.starts ts ≡ t → cond t (r.read ts >>= λ x. Ok (Some x.0, x.1)) (done {A = Option X × List Token} (None, ts)) ≡ Err n → Stuck (optional r) ts n
          go true et h = some et (bind_err (r.read ts) (λ x. Ok (Some x.0, x.1)) n h)
          go false et h = absurd cc

      whole : (front : List Token) (x : Option X) (rest : List Token) → (optional r).Is front x → Stops (optional r).goes_on rest → (optional r).read (front ++ rest) ≡ Ok (x, rest)
      whole front None rest is stops = let no : begins r.starts (front ++ rest) ≡ false = ap (λ (l : List Token). begins r.starts (l ++ rest)) is ∙ Stops-left r.starts r.goes_on rest stops in rw no (ap (λ (l : List Token). Ok (None, l ++ rest)) is)
      whole front (Some x) rest is stops = rw (begins_with r lr full front x rest is) (rw (lr.whole front x rest is (Stops-right r.starts r.goes_on rest stops)) refl)

      first : (t : Token) (ts : List Token) (x : Option X) → (optional r).Is (t ∷ ts) x → r.starts t ≡ true
      first t ts None is = absurd cc
      first t ts (Some x) is = lr.first t ts x is

-- ---- a rule with its tokens named

pub sealed-lawful : {X : Type 0} (starts goes_on : Token → Bool) (r : Rule X) → Lawful r → r.empty ≡ false → ((t : Token) → starts t ≡ false → r.starts t ≡ false) → ((t : Token) → goes_on t ≡ false → r.goes_on t ≡ false) → Lawful (sealed starts goes_on r)
sealed-lawful {X = X} starts goes_on r lr full outside ends = record { took = took; stuck = stuck; whole = whole; first = first; nothing = λ x is. let begun : r.empty ≡ true = lr.nothing x is in absurd cc }
  where
    took : (ts : List Token) (x : X) (rest : List Token) → r.read ts ≡ Ok (x, rest) → Took (sealed starts goes_on r) ts x rest
    took ts x rest e = let p = lr.took ts x rest e in record { front = p.front; parts = p.parts; is = p.is; again = p.again }

    stuck : (ts : List Token) (n : ℕ) → r.read ts ≡ Err n → Stuck (sealed starts goes_on r) ts n
    stuck ts n e = let p = lr.stuck ts n e in record { front = p.front; rest = p.rest; parts = p.parts; left = p.left; again = p.again }

    stops : (rest : List Token) → Stops goes_on rest → Stops r.goes_on rest
    stops [] h = refl
    stops (t ∷ ts) h = ends t h

    whole : (front : List Token) (x : X) (rest : List Token) → r.Is front x → Stops goes_on rest → r.read (front ++ rest) ≡ Ok (x, rest)
    whole front x rest is h = lr.whole front x rest is (stops rest h)

    first : (t : Token) (ts : List Token) (x : X) → r.Is (t ∷ ts) x → starts t ≡ true
    first t ts x is = go (starts t) refl
      where
        go : (b : Bool) → starts t ≡ b → b ≡ true
        go true e = refl
        go false e = let begun : r.starts t ≡ true = lr.first t ts x is in let no = outside t e in absurd cc

-- ---- with the rules read off

-- what begins the second does not go on with the first
abbrev pub Apart : {X Y : Type 0} → Rule X → Rule Y → Type 0
Apart a b = (t : Token) → b.starts t ≡ true → a.goes_on t ≡ false

pub then : {X Y : Type 0} {a : Rule X} {b : Rule Y} → Lawful a → Lawful b → Apart a b → Lawful (a ⊗ b)
then {a = a} {b = b} la lb apart = pair-lawful a b la lb apart

pub before : {X Y : Type 0} {a : Rule X} {b : Rule Y} → Lawful a → Lawful b → Apart a b → Lawful (a ▷ b)
before {a = a} {b = b} la lb apart = made-lawful (λ x. x.1) (a ⊗ b) (pair-lawful a b la lb apart)

pub after : {X Y : Type 0} {a : Rule X} {b : Rule Y} → Lawful a → Lawful b → Apart a b → Lawful (a ◁ b)
after {a = a} {b = b} la lb apart = made-lawful (λ x. x.0) (a ⊗ b) (pair-lawful a b la lb apart)

pub mapped : {X Y : Type 0} {f : X → Y} {r : Rule X} → Lawful r → Lawful (made f r)
mapped {f = f} {r = r} lr = made-lawful f r lr
