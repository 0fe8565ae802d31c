-- Any number of one rule: the fuel is enough, and the laws.
use Rattle.std.proofs.Common.{◌≡◌, ℕ, zero, suc, ◌<◌, ◌≤◌, Bool, true, false, List, [], ◌∷◌, ◌++◌, length, Ok, Err, ◌⊎◌, inl, inr, refl, sym, ap, subst, ◌∙◌, append_assoc, arith, length-append}
use Rattle.ned_tokens.specs.declared.token.Token.{Token}
use Rattle.ned_tokens.specs.Rule.{Reading, ◌>>=◌, begins, Rule, many_is, many_read, many}
use Rattle.ned_tokens.proofs.Laws.{SameHead, Stops, Took, Stuck, Lawful, SameHead-begins, SameHead-behind, bind_ok, bind_err, done, ok_is, failed, begins_with, Stops-left, Stops-right}

module _ {X : Type 0} (r : Rule X) (lr : Lawful r) (full : r.empty ≡ false) where
  -- something is consumed
  pub shorter : (ts : List Token) (x : X) (rest : List Token) → r.read ts ≡ Ok (x, rest) → length rest < length ts
  shorter ts x rest e = let tr = lr.took ts x rest e in go tr.front tr.parts tr.is
    where
      go : (front : List Token) → ts ≡ front ++ rest → r.Is front x → length rest < length ts
      go [] parts is = let begun : r.empty ≡ true = lr.nothing x is in absurd cc
      go (t ∷ front) parts is = omega (arith, ap length parts, length-append front rest)

  nil_begins : (p : Token → Bool) (ts : List Token) → length ts ≤ 0 → begins p ts ≡ false
  nil_begins p [] h = refl
  nil_begins p (t ∷ ts) h = absurd (omega (arith, h))

  many_none : (n : ℕ) (ts : List Token) → begins r.starts ts ≡ false → many_read r.starts r.read n ts ≡ Ok ([], ts)
  unfolding many_read
  many_none zero ts e = refl
  many_none (suc n) ts e = rw e refl

  abbrev more : ℕ → X × List Token → Reading (List X)
  more n x = many_read r.starts r.read n x.1 >>= λ xs. Ok (x.0 ∷ xs.0, xs.1)

  many_step : (n : ℕ) (ts : List Token) → begins r.starts ts ≡ true → many_read r.starts r.read (suc n) ts ≡ (r.read ts >>= more n)
  unfolding many_read
  many_step n ts e = rw e refl

  -- any fuel that is enough gives the same
  many_fuel : (n m : ℕ) (ts : List Token) → length ts ≤ n → length ts ≤ m → many_read r.starts r.read n ts ≡ many_read r.starts r.read m ts
  many_fuel zero m ts h k = let no = nil_begins r.starts ts h in many_none zero ts no ∙ sym (many_none m ts no)
  many_fuel (suc n) zero ts h k = let no = nil_begins r.starts ts k in many_none (suc n) ts no ∙ sym (many_none zero ts no)
  many_fuel (suc n) (suc m) ts h k = go (begins r.starts ts) refl (many_fuel n m)
    where
      bind : (v : Reading X) → r.read ts ≡ v → ((us : List Token) → length us ≤ n → length us ≤ m → many_read r.starts r.read n us ≡ many_read r.starts r.read m us) → (v >>= more n) ≡ (v >>= more m)
      bind (Err e) ev ih = refl
      bind (Ok x) ev ih = let lt = shorter ts x.0 x.1 ev in ap (λ (z : Reading (List X)). z >>= λ xs. Ok (x.0 ∷ xs.0, xs.1)) (ih x.1 (omega (arith, lt, h)) (omega (arith, lt, k)))

      go : (t : Bool) → begins r.starts ts ≡ t → ((us : List Token) → length us ≤ n → length us ≤ m → many_read r.starts r.read n us ≡ many_read r.starts r.read m us) → many_read r.starts r.read (suc n) ts ≡ many_read r.starts r.read (suc m) ts
      go true et ih = many_step n ts et ∙ bind (r.read ts) refl ih ∙ sym (many_step m ts et)
      go false et ih = many_none (suc n) ts et ∙ sym (many_none (suc m) ts et)

  -- one item and then the others
  abbrev pub others : X × List Token → Reading (List X)
  others x = (many r).read x.1 >>= λ xs. Ok (x.0 ∷ xs.0, xs.1)

  pub many_ends : (ts : List Token) → begins r.starts ts ≡ false → (many r).read ts ≡ Ok ([], ts)
  many_ends ts e = many_none (length ts) ts e

  pub many_goes_on : (ts : List Token) → begins r.starts ts ≡ true → (many r).read ts ≡ (r.read ts >>= others)
  many_goes_on [] e = absurd cc
  many_goes_on (t ∷ ts) e = many_step (length ts) (t ∷ ts) e ∙ go (r.read (t ∷ ts)) refl
    where
      go : (v : Reading X) → r.read (t ∷ ts) ≡ v → (v >>= more (length ts)) ≡ (v >>= others)
      go (Err n) ev = refl
      go (Ok x) ev = let lt : length x.1 < suc (length ts) = shorter (t ∷ ts) x.0 x.1 ev in ap (λ (z : Reading (List X)). z >>= λ xs. Ok (x.0 ∷ xs.0, xs.1)) (many_fuel (length ts) (length x.1) x.1 (omega (arith, lt)) (omega arith))

  many_again : (f g other : List Token) (x : X) (xs : List X) → begins r.starts ((f ++ g) ++ other) ≡ true → r.read (f ++ (g ++ other)) ≡ Ok (x, g ++ other) → (many r).read (g ++ other) ≡ Ok (xs, other) → (many r).read ((f ++ g) ++ other) ≡ Ok (x ∷ xs, other)
  many_again f g other x xs begun ex exs = many_goes_on ((f ++ g) ++ other) begun ∙ rw (append_assoc, ex) (rw exs refl)

  -- the token that begins ts begins what has its head
  same : (t : Bool) (ts : List Token) → begins r.starts ts ≡ t → (front rest other : List Token) → ts ≡ front ++ rest → SameHead rest other → begins r.starts (front ++ other) ≡ t
  same t ts et front rest other parts h = sym (SameHead-begins r.starts ts (front ++ other) (SameHead-behind ts front rest other parts h)) ∙ et

  took_none : (ts : List Token) (xs : List X) (rest : List Token) → begins r.starts ts ≡ false → (many r).read ts ≡ Ok (xs, rest) → Took (many r) ts xs rest
  took_none ts xs rest et e =
      let w : List X × List Token = (xs, rest) in
      let v : List X × List Token = ([], ts) in
      subst (λ (z : List X × List Token). Took (many r) ts z.0 z.1) (ok_is v w (sym (many_ends ts et) ∙ e))
      (record { front = []; parts = refl; is = refl; again = λ other k. many_ends other (same false ts et [] ts other refl k) })

  took_more : (ts : List Token) (xs : List X) (rest : List Token) → begins r.starts ts ≡ true → ((us : List Token) (ys : List X) (left : List Token) → length us < length ts → (many r).read us ≡ Ok (ys, left) → Took (many r) us ys left) → (many r).read ts ≡ Ok (xs, rest) → Took (many r) ts xs rest
  took_more ts xs rest et ih e =
      let w : List X × List Token = (xs, rest) in
      let p = bind_ok (r.read ts) others w (sym (many_goes_on ts et) ∙ e) in
      let q = bind_ok ((many r).read p.0.1) (λ ys. Ok (p.0.0 ∷ ys.0, ys.1)) w p.2 in
      let v : List X × List Token = (p.0.0 ∷ q.0.0, q.0.1) in
      let ta = lr.took ts p.0.0 p.0.1 p.1 in
      let tb = ih p.0.1 q.0.0 q.0.1 (shorter ts p.0.0 p.0.1 p.1) q.1 in
      let parts : ts ≡ (ta.front ++ tb.front) ++ q.0.1 = ta.parts ∙ ap (λ (l : List Token). ta.front ++ l) tb.parts ∙ sym (append_assoc ta.front tb.front q.0.1) in
      subst (λ (z : List X × List Token). Took (many r) ts z.0 z.1) (ok_is v w q.2) (record {
        front = ta.front ++ tb.front;
        parts = parts;
        is = (ta.front, tb.front, refl, ta.is, tb.is);
        again = λ other k. many_again ta.front tb.front other p.0.0 q.0.0 (same true ts et (ta.front ++ tb.front) q.0.1 other parts k) (ta.again (tb.front ++ other) (SameHead-behind p.0.1 tb.front q.0.1 other tb.parts k)) (tb.again other k);
      })

  many_took : (k : ℕ) (ts : List Token) (xs : List X) (rest : List Token) → length ts ≤ k → (many r).read ts ≡ Ok (xs, rest) → Took (many r) ts xs rest
  many_took zero ts xs rest h e = took_none ts xs rest (nil_begins r.starts ts h) e
  many_took (suc k) ts xs rest h e = go (begins r.starts ts) refl (many_took k)
    where
      go : (t : Bool) → begins r.starts ts ≡ t → ((us : List Token) (ys : List X) (left : List Token) → length us ≤ k → (many r).read us ≡ Ok (ys, left) → Took (many r) us ys left) → Took (many r) ts xs rest
      go true et ih = took_more ts xs rest et (λ us ys left lt. ih us ys left (omega (arith, lt, h))) e
      go false et ih = took_none ts xs rest et e

  stuck_more : (ts : List Token) (n : ℕ) → begins r.starts ts ≡ true → ((us : List Token) → length us < length ts → (many r).read us ≡ Err n → Stuck (many r) us n) → (many r).read ts ≡ Err n → Stuck (many r) ts n
  stuck_more ts n et ih e = go (bind_err (r.read ts) others n (sym (many_goes_on ts et) ∙ e))
    where
      behind : (p : X × List Token) → r.read ts ≡ Ok p → Stuck (many r) p.1 n → Stuck (many r) ts n
      behind p ep sb =
          let ta = lr.took ts p.0 p.1 ep in
          let parts : ts ≡ (ta.front ++ sb.front) ++ sb.rest = ta.parts ∙ ap (λ (l : List Token). ta.front ++ l) sb.parts ∙ sym (append_assoc ta.front sb.front sb.rest) in
          record {
            front = ta.front ++ sb.front;
            rest = sb.rest;
            parts = parts;
            left = sb.left;
            again = λ other k.
                many_goes_on ((ta.front ++ sb.front) ++ other) (same true ts et (ta.front ++ sb.front) sb.rest other parts k)
                ∙ rw (append_assoc ta.front sb.front other, ta.again (sb.front ++ other) (SameHead-behind p.1 sb.front sb.rest other sb.parts k)) (rw (sb.again other k) refl);
          }

      inner : (p : X × List Token) → r.read ts ≡ Ok p → (((many r).read p.1 ≡ Err n) ⊎ ((ys : List X × List Token) × ((many r).read p.1 ≡ Ok ys) × (done {A = List X × List Token} (p.0 ∷ ys.0, ys.1) ≡ Err n))) → Stuck (many r) ts n
      inner p ep (inl h) = behind p ep (ih p.1 (shorter ts p.0 p.1 ep) h)
      inner p ep (inr q) = let no = q.2 in absurd cc

      go : ((r.read ts ≡ Err n) ⊎ ((p : X × List Token) × (r.read ts ≡ Ok p) × (others p ≡ failed {A = List X × List Token} n))) → Stuck (many r) ts n
      go (inl h) =
          let sr = lr.stuck ts n h in
          record { front = sr.front; rest = sr.rest; parts = sr.parts; left = sr.left; again = λ other k. many_goes_on (sr.front ++ other) (same true ts et sr.front sr.rest other sr.parts k) ∙ rw (sr.again other k) refl }
      go (inr p) = inner p.0 p.1 (bind_err ((many r).read p.0.1) (λ ys. Ok (p.0.0 ∷ ys.0, ys.1)) n p.2)

  stuck_none : (ts : List Token) (n : ℕ) → begins r.starts ts ≡ false → (many r).read ts ≡ Err n → Stuck (many r) ts n
  stuck_none ts n et e = let no : done {A = List X × List Token} ([], ts) ≡ Err n = sym (many_ends ts et) ∙ e in absurd cc

  many_stuck : (k : ℕ) (ts : List Token) (n : ℕ) → length ts ≤ k → (many r).read ts ≡ Err n → Stuck (many r) ts n
  many_stuck zero ts n h e = stuck_none ts n (nil_begins r.starts ts h) e
  many_stuck (suc k) ts n h e = go (begins r.starts ts) refl (many_stuck k)
    where
      go : (t : Bool) → begins r.starts ts ≡ t → ((us : List Token) (m : ℕ) → length us ≤ k → (many r).read us ≡ Err m → Stuck (many r) us m) → Stuck (many r) ts n
      go true et ih = stuck_more ts n et (λ us lt. ih us n (omega (arith, lt, h))) e
      go false et ih = stuck_none ts n et e

  many_first : (t : Token) (ts : List Token) (xs : List X) → many_is r.Is xs (t ∷ ts) → r.starts t ≡ true
  many_first t ts [] is = absurd cc
  many_first t ts (x ∷ xs) is = go is.0 is.2 is.3
    where
      go : (front : List Token) → t ∷ ts ≡ front ++ is.1 → r.Is front x → r.starts t ≡ true
      go [] e ix = let begun : r.empty ≡ true = lr.nothing x ix in absurd cc
      go (u ∷ front) e ix = let same : u ≡ t = cc in ap r.starts (sym same) ∙ lr.first u front x ix

  module _ (apart : (t : Token) → r.starts t ≡ true → r.goes_on t ≡ false) where
    stops_item : (xs : List X) (back rest : List Token) → many_is r.Is xs back → Stops (many r).goes_on rest → Stops r.goes_on (back ++ rest)
    stops_item xs [] rest is stops = Stops-right r.starts r.goes_on rest stops
    stops_item xs (t ∷ back) rest is stops = apart t (many_first t back xs is)

    many_whole : (xs : List X) (front rest : List Token) → many_is r.Is xs front → Stops (many r).goes_on rest → (many r).read (front ++ rest) ≡ Ok (xs, rest)
    many_whole [] front rest is stops = ap (λ (l : List Token). (many r).read (l ++ rest)) is ∙ many_ends rest (Stops-left r.starts r.goes_on rest stops)
    many_whole (x ∷ xs) front rest is stops =
        let f = is.0 in
        let g = is.1 in
        let begun : begins r.starts ((f ++ g) ++ rest) ≡ true = rw append_assoc (begins_with r lr full f x (g ++ rest) is.3) in
        ap (λ (l : List Token). (many r).read (l ++ rest)) is.2
        ∙ many_again f g rest x xs begun (lr.whole f x (g ++ rest) is.3 (stops_item xs g rest is.4 stops)) (many_whole xs g rest is.4 stops)

    pub many-lawful : Lawful (many r)
    many-lawful = record {
      took = λ ts xs rest e. many_took (length ts) ts xs rest (omega arith) e;
      stuck = λ ts n e. many_stuck (length ts) ts n (omega arith) e;
      whole = λ front xs rest is stops. many_whole xs front rest is stops;
      first = λ t ts xs is. many_first t ts xs is;
      nothing = λ xs is. refl;
    }
