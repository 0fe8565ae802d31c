-- The tokens before the first that can't go on begin some spelling.
use Rattle.std.proofs.Common.{◌≡◌, ℕ, zero, suc, ◌<◌, Bool, true, false, cond, List, [], ◌∷◌, ◌++◌, length, Option, Some, None, Ok, Err, ◌⊎◌, inl, inr, refl, sym, ap, subst, ◌∙◌, append_assoc, length-append, arith}
use Rattle.std.proofs.lemmas.List.{append-nil}
use Rattle.ned_tokens.specs.declared.token.Token.{Token}
use Rattle.ned_tokens.specs.Rule.{Rule, Reading, ◌>>=◌, begins, token, taken, token_read, ◌⊗◌, made, ◌◁◌, ◌▷◌, such_that, either, optional, many, many_is, at_end, all_read}
use Rattle.ned_tokens.specs.Balanced.{Turn, opens, closes, stays, bars, turned, IsBalanced, with_token, read_turn, balanced_read, balanced}
use Rattle.ned_tokens.specs.Viable.{CanGoOn, IsBad, IsFirstBad}
use Rattle.ned_tokens.proofs.Laws.{Lawful, Took, bind_err, done, failed}
use Rattle.ned_tokens.proofs.Many.{shorter, many_ends, many_goes_on, others}
use Rattle.ned_tokens.proofs.Whole.{Blocked, all_blocked}

pub record Ready {X : Type 0} (r : Rule X) (ts : List Token) (n : ℕ) : Type 0 where
  pub front : List Token
  pub rest : List Token
  pub parts : ts ≡ front ++ rest
  pub left : length rest ≡ n
  pub on : CanGoOn r front

pub record Viable {X : Type 0} (r : Rule X) : Type 0 where
  pub stuck : (ts : List Token) (n : ℕ) → r.read ts ≡ Err n → Ready r ts n
  pub some : (ts : List Token) × (x : X) × r.Is ts x

-- ---- one token: there is one that says something

module _ {X : Type 0} (f : Token → Option X) (good : Token) (value : X) (says : f good ≡ Some value) where
  pub token-viable : Viable (token f)
  token-viable = record { stuck = stuck; some = (good ∷ [], value, (good, refl, says)) }
    where
      here : (t : Token) (ts : List Token) (n : ℕ) (o : Option X) → taken o ts ≡ Err n → Ready (token f) (t ∷ ts) n
      here t ts n None e = record { front = []; rest = t ∷ ts; parts = refl; left = (cc); on = (good ∷ [], value, (good, refl, says)) }
      here t ts n (Some x) e = absurd cc

      stuck : (ts : List Token) (n : ℕ) → token_read f ts ≡ Err n → Ready (token f) ts n
      stuck [] n e = record { front = []; rest = []; parts = refl; left = (cc); on = (good ∷ [], value, (good, refl, says)) }
      stuck (t ∷ ts) n e = here t ts n (f t) e

-- ---- one after the other

module _ {X Y : Type 0} (a : Rule X) (b : Rule Y) (la : Lawful a) (va : Viable a) (vb : Viable b) where
  pub pair-viable : Viable (a ⊗ b)
  pair-viable = record { stuck = stuck; some = (va.some.0 ++ vb.some.0, (va.some.1, vb.some.1), (va.some.0, vb.some.0, refl, va.some.2, vb.some.2)) }
    where
      second : (ts : List Token) (n : ℕ) (p : X × List Token) → Took a ts p.0 p.1 → Ready b p.1 n → Ready (a ⊗ b) ts n
      second ts n p ta sb = record {
        front = ta.front ++ sb.front;
        rest = sb.rest;
        parts = ta.parts ∙ ap (λ (l : List Token). ta.front ++ l) sb.parts ∙ sym (append_assoc ta.front sb.front sb.rest);
        left = sb.left;
        on = (sb.on.0, (p.0, sb.on.1), (ta.front, sb.front ++ sb.on.0, append_assoc ta.front sb.front sb.on.0, ta.is, sb.on.2));
      }

      first : (ts : List Token) (n : ℕ) → Ready a ts n → Ready (a ⊗ b) ts n
      first ts n sa = record {
        front = sa.front;
        rest = sa.rest;
        parts = sa.parts;
        left = sa.left;
        on = (sa.on.0 ++ vb.some.0, (sa.on.1, vb.some.1), (sa.front ++ sa.on.0, vb.some.0, sym (append_assoc sa.front sa.on.0 vb.some.0), sa.on.2, vb.some.2));
      }

      inner : (ts : List Token) (n : ℕ) (p : (x : X × List Token) × (a.read ts ≡ Ok x) × ((b.read x.1 >>= λ y. Ok ((x.0, y.0), y.1)) ≡ failed {A = (X × Y) × List Token} n)) → ((b.read p.0.1 ≡ Err n) ⊎ ((y : Y × List Token) × (b.read p.0.1 ≡ Ok y) × (done {A = (X × Y) × List Token} ((p.0.0, y.0), y.1) ≡ Err n))) → Ready (a ⊗ b) ts n
      inner ts n p (inl eb) = second ts n p.0 (la.took ts p.0.0 p.0.1 p.1) (vb.stuck p.0.1 n eb)
      inner ts n p (inr q) = let no = q.2 in absurd cc

      go : (ts : List Token) (n : ℕ) → ((a.read ts ≡ Err n) ⊎ ((x : X × List Token) × (a.read ts ≡ Ok x) × ((b.read x.1 >>= λ y. Ok ((x.0, y.0), y.1)) ≡ failed {A = (X × Y) × List Token} n))) → Ready (a ⊗ b) ts n
      go ts n (inl e) = first ts n (va.stuck ts n e)
      go ts n (inr p) = inner ts n p (bind_err (b.read p.0.1) (λ y. Ok ((p.0.0, y.0), y.1)) n p.2)

      stuck : (ts : List Token) (n : ℕ) → (a ⊗ b).read ts ≡ Err n → Ready (a ⊗ b) ts n
      stuck ts n e = go ts n (bind_err (a.read ts) (λ x. b.read x.1 >>= λ y. Ok ((x.0, y.0), y.1)) n e)

-- ---- a value made of the value read

module _ {X Y : Type 0} (f : X → Y) (r : Rule X) (vr : Viable r) where
  pub made-viable : Viable (made f r)
  made-viable = record { stuck = stuck; some = (vr.some.0, f vr.some.1, (vr.some.1, vr.some.2, refl)) }
    where
      go : (ts : List Token) (n : ℕ) → ((r.read ts ≡ Err n) ⊎ ((x : X × List Token) × (r.read ts ≡ Ok x) × (done {A = Y × List Token} (f x.0, x.1) ≡ Err n))) → Ready (made f r) ts n
      go ts n (inl h) = let sr = vr.stuck ts n h in record { front = sr.front; rest = sr.rest; parts = sr.parts; left = sr.left; on = (sr.on.0, f sr.on.1, (sr.on.1, sr.on.2, refl)) }
      go ts n (inr p) = let no = p.2 in absurd cc

      stuck : (ts : List Token) (n : ℕ) → (made f r).read ts ≡ Err n → Ready (made f r) ts n
      stuck ts n e = go ts n (bind_err (r.read ts) (λ x. Ok (f x.0, x.1)) n e)

-- ---- a condition on the value: a spelling whose value lacks it can go on to one that has it

module _ {X : Type 0} (p : X → Bool) (r : Rule X) (lr : Lawful r) (vr : Viable r) (mends : (front : List Token) (x : X) → r.Is front x → CanGoOn (such_that p r) front) where
  pub such_that-viable : Viable (such_that p r)
  such_that-viable = record { stuck = stuck; some = let m = mends vr.some.0 vr.some.1 vr.some.2 in (vr.some.0 ++ m.0, m.1, m.2) }
    where
      inner : (ts : List Token) (n : ℕ) (v : X × List Token) → r.read ts ≡ Ok v → (b : Bool) → p v.0 ≡ b → cond b (done {A = X × List Token} v) (Err (length v.1)) ≡ Err n → Ready (such_that p r) ts n
      inner ts n v ev true eb h = absurd cc
      inner ts n v ev false eb h = let tr = lr.took ts v.0 v.1 ev in record { front = tr.front; rest = v.1; parts = tr.parts; left = (cc); on = mends tr.front v.0 tr.is }

      mended : (ts : List Token) (n : ℕ) → Ready r ts n → Ready (such_that p r) ts n
      mended ts n sr =
          let m = mends (sr.front ++ sr.on.0) sr.on.1 sr.on.2 in
          record { front = sr.front; rest = sr.rest; parts = sr.parts; left = sr.left; on = (sr.on.0 ++ m.0, m.1, subst (λ (l : List Token). (such_that p r).Is l m.1) (append_assoc sr.front sr.on.0 m.0) m.2) }

      go : (ts : List Token) (n : ℕ) → ((r.read ts ≡ Err n) ⊎ ((x : X × List Token) × (r.read ts ≡ Ok x) × (cond (p x.0) (done {A = X × List Token} x) (Err (length x.1)) ≡ Err n))) → Ready (such_that p r) ts n
      go ts n (inl h) = mended ts n (vr.stuck ts n h)
      go ts n (inr q) = inner ts n q.0 q.1 (p q.0.0) refl q.2

      stuck : (ts : List Token) (n : ℕ) → (such_that p r).read ts ≡ Err n → Ready (such_that p r) ts n
      stuck ts n e = go ts n (bind_err (r.read ts) (λ x. cond (p x.0) (Ok x) (Err (length x.1))) n e)

-- ---- one or the other

module _ {X : Type 0} (a b : Rule X) (va : Viable a) (vb : Viable b) where
  pub either-viable : Viable (either a b)
  either-viable = record { stuck = stuck; some = (va.some.0, va.some.1, inl va.some.2) }
    where
      go : (ts : List Token) (n : ℕ) (t : Bool) → cond t (a.read ts) (b.read ts) ≡ Err n → Ready (either a b) ts n
      go ts n true h = let s = va.stuck ts n h in record { front = s.front; rest = s.rest; parts = s.parts; left = s.left; on = (s.on.0, s.on.1, inl s.on.2) }
      go ts n false h = let s = vb.stuck ts n h in record { front = s.front; rest = s.rest; parts = s.parts; left = s.left; on = (s.on.0, s.on.1, inr s.on.2) }

      stuck : (ts : List Token) (n : ℕ) → (either a b).read ts ≡ Err n → Ready (either a b) ts n
      stuck ts n e = go ts n (begins a.starts ts) e

-- ---- a value or nothing

module _ {X : Type 0} (r : Rule X) (vr : Viable r) where
  pub optional-viable : Viable (optional r)
  optional-viable = record { stuck = stuck; some = ([], None, refl) }
    where
      some : (ts : List Token) (n : ℕ) → ((r.read ts ≡ Err n) ⊎ ((x : X × List Token) × (r.read ts ≡ Ok x) × (done {A = Option X × List Token} (Some x.0, x.1) ≡ Err n))) → Ready (optional r) ts n
      some ts n (inl h) = let s = vr.stuck ts n h in record { front = s.front; rest = s.rest; parts = s.parts; left = s.left; on = (s.on.0, Some s.on.1, s.on.2) }
      some ts n (inr p) = let no = p.2 in absurd cc

      go : (ts : List Token) (n : ℕ) (t : Bool) → cond t (r.read ts >>= λ x. Ok (Some x.0, x.1)) (done {A = Option X × List Token} (None, ts)) ≡ Err n → Ready (optional r) ts n
      go ts n true h = some ts n (bind_err (r.read ts) (λ x. Ok (Some x.0, x.1)) n h)
      go ts n false h = absurd cc

      stuck : (ts : List Token) (n : ℕ) → (optional r).read ts ≡ Err n → Ready (optional r) ts n
      stuck ts n e = go ts n (begins r.starts ts) e

-- ---- any number

module _ {X : Type 0} (r : Rule X) (lr : Lawful r) (full : r.empty ≡ false) (vr : Viable r) where
  one : (front : List Token) (x : X) → r.Is front x → many_is r.Is (x ∷ []) front
  one front x is = (front, [], sym (append-nil front), is, refl)

  many_first : (ts : List Token) (n : ℕ) → Ready r ts n → Ready (many r) ts n
  many_first ts n s = record { front = s.front; rest = s.rest; parts = s.parts; left = s.left; on = (s.on.0, s.on.1 ∷ [], one (s.front ++ s.on.0) s.on.1 s.on.2) }

  many_later : (ts : List Token) (n : ℕ) (p : X × List Token) → Took r ts p.0 p.1 → Ready (many r) p.1 n → Ready (many r) ts n
  many_later ts n p ta sb = record {
    front = ta.front ++ sb.front;
    rest = sb.rest;
    parts = ta.parts ∙ ap (λ (l : List Token). ta.front ++ l) sb.parts ∙ sym (append_assoc ta.front sb.front sb.rest);
    left = sb.left;
    on = (sb.on.0, p.0 ∷ sb.on.1, (ta.front, sb.front ++ sb.on.0, append_assoc ta.front sb.front sb.on.0, ta.is, sb.on.2));
  }

  many_stuck : (k : ℕ) (ts : List Token) (n : ℕ) → length ts < k → (many r).read ts ≡ Err n → Ready (many r) ts n
  many_stuck zero ts n h e = absurd (omega (arith, h))
  many_stuck (suc k) ts n h e = go (begins r.starts ts) refl (many_stuck k)
    where
      inner : ((us : List Token) (m : ℕ) → length us < k → (many r).read us ≡ Err m → Ready (many r) us m) → (p : X × List Token) → r.read ts ≡ Ok p → (((many r).read p.1 ≡ Err n) ⊎ ((ys : List X × List Token) × ((many r).read p.1 ≡ Ok ys) × (done {A = List X × List Token} (p.0 ∷ ys.0, ys.1) ≡ Err n))) → Ready (many r) ts n
      inner ih p ep (inl h2) = many_later ts n p (lr.took ts p.0 p.1 ep) (ih p.1 n (omega (arith, h, shorter r lr full ts p.0 p.1 ep)) h2)
      inner ih p ep (inr q) = let no = q.2 in absurd cc

      more : ((us : List Token) (m : ℕ) → length us < k → (many r).read us ≡ Err m → Ready (many r) us m) → ((r.read ts ≡ Err n) ⊎ ((p : X × List Token) × (r.read ts ≡ Ok p) × (others r lr full p ≡ failed {A = List X × List Token} n))) → Ready (many r) ts n
      more ih (inl h2) = many_first ts n (vr.stuck ts n h2)
      more ih (inr p) = inner ih p.0 p.1 (bind_err ((many r).read p.0.1) (λ ys. Ok (p.0.0 ∷ ys.0, ys.1)) n p.2)

      go : (t : Bool) → begins r.starts ts ≡ t → ((us : List Token) (m : ℕ) → length us < k → (many r).read us ≡ Err m → Ready (many r) us m) → Ready (many r) ts n
      go true et ih = more ih (bind_err (r.read ts) (others r lr full) n (sym (many_goes_on r lr full ts et) ∙ e))
      go false et ih = let no : done {A = List X × List Token} ([], ts) ≡ Err n = sym (many_ends r lr full ts et) ∙ e in absurd cc

  pub many-viable : Viable (many r)
  many-viable = record { stuck = λ ts n e. many_stuck (suc (length ts)) ts n (omega arith) e; some = ([], [], refl) }

-- ---- balanced tokens: a token that closes

module _ (turn : Token → Turn) (closer : Token) (shuts : turn closer ≡ closes) where
  is_step : (n : ℕ) (t : Token) (us : List Token) → turned (turn t) (λ k. IsBalanced turn k us) n → IsBalanced turn n (t ∷ us)
  is_step zero t us h = h
  is_step (suc n) t us h = h

  read_step : (n : ℕ) (t : Token) (us : List Token) → balanced_read turn n (t ∷ us) ≡ read_turn (turn t) (λ k. balanced_read turn k us) n t us
  unfolding balanced_read
  read_step zero t us = refl
  read_step (suc n) t us = refl

  closing : (n : ℕ) → (ts : List Token) × IsBalanced turn n ts
  closing zero = ([], tt)
  closing (suc n) = let rest = closing n in (closer ∷ rest.0, is_step (suc n) closer rest.0 (rw shuts rest.1))

  record Opened (n : ℕ) (ts : List Token) (m : ℕ) : Type 0 where
    front : List Token
    rest : List Token
    parts : ts ≡ front ++ rest
    left : length rest ≡ m
    other : List Token
    is : IsBalanced turn n (front ++ other)

  here : (n : ℕ) (ts : List Token) (m : ℕ) → length ts ≡ m → Opened n ts m
  here n ts m e = let c = closing n in record { front = []; rest = ts; parts = refl; left = e; other = c.0; is = c.1 }

  one_more : (n k : ℕ) (t : Token) (ts : List Token) (m : ℕ) → ((us : List Token) → IsBalanced turn k us → IsBalanced turn n (t ∷ us)) → Opened k ts m → Opened n (t ∷ ts) m
  one_more n k t ts m holds s = record { front = t ∷ s.front; rest = s.rest; parts = ap (λ (l : List Token). t ∷ l) s.parts; left = s.left; other = s.other; is = holds (s.front ++ s.other) s.is }

  with_err : (t : Token) (read : Reading (List Token)) (m : ℕ) → with_token t read ≡ Err m → read ≡ Err m
  with_err t (Ok x) m e = absurd cc
  with_err t (Err n) m e = let same : n ≡ m = cc in ap (λ (k : ℕ). Err k) same

  opened : (ts : List Token) (n m : ℕ) → balanced_read turn n ts ≡ Err m → Opened n ts m
  unfolding balanced_read
  opened [] zero m e = absurd cc
  opened [] (suc n) m e = here (suc n) [] m (cc)
  opened (t ∷ ts) n m e = go (turn t) refl n (opened ts) (sym (read_step n t ts) ∙ e)
    where
      go : (u : Turn) → turn t ≡ u → (n : ℕ) → ((k j : ℕ) → balanced_read turn k ts ≡ Err j → Opened k ts j) → read_turn u (λ k. balanced_read turn k ts) n t ts ≡ Err m → Opened n (t ∷ ts) m
      go opens eu n ih h = one_more n (suc n) t ts m (λ us is. is_step n t us (rw eu is)) (ih (suc n) m (with_err t (balanced_read turn (suc n) ts) m h))
      go stays eu n ih h = one_more n n t ts m (λ us is. is_step n t us (rw eu is)) (ih n m (with_err t (balanced_read turn n ts) m h))
      go closes eu zero ih h = absurd cc
      go closes eu (suc n) ih h = one_more (suc n) n t ts m (λ us is. is_step (suc n) t us (rw eu is)) (ih n m (with_err t (balanced_read turn n ts) m h))
      go bars eu n ih h = here n (t ∷ ts) m (cc)

  pub balanced-viable : Viable (balanced turn)
  balanced-viable = record {
    stuck = λ ts n e. let s = opened ts 0 n e in record { front = s.front; rest = s.rest; parts = s.parts; left = s.left; on = (s.other, s.front ++ s.other, (refl, s.is)) };
    some = ([], [], (refl, tt));
  }

-- ---- with the rules read off

pub then_on : {X Y : Type 0} {a : Rule X} {b : Rule Y} → Lawful a → Viable a → Viable b → Viable (a ⊗ b)
then_on {a = a} {b = b} la va vb = pair-viable a b la va vb

pub before_on : {X Y : Type 0} {a : Rule X} {b : Rule Y} → Lawful a → Viable a → Viable b → Viable (a ▷ b)
before_on {a = a} {b = b} la va vb = made-viable (λ x. x.1) (a ⊗ b) (pair-viable a b la va vb)

pub after_on : {X Y : Type 0} {a : Rule X} {b : Rule Y} → Lawful a → Viable a → Viable b → Viable (a ◁ b)
after_on {a = a} {b = b} la va vb = made-viable (λ x. x.0) (a ⊗ b) (pair-viable a b la va vb)

pub mapped_on : {X Y : Type 0} {f : X → Y} {r : Rule X} → Viable r → Viable (made f r)
mapped_on {f = f} {r = r} vr = made-viable f r vr

-- ---- all of the tokens

-- two ways to cut a list whose backs are as long are the same
same_cut : (a b c d : List Token) → a ++ b ≡ c ++ d → length b ≡ length d → (a ≡ c) × (b ≡ d)
same_cut [] b [] d e h = (refl, e)
same_cut [] b (y ∷ c) d e h = absurd (omega (arith, ap length e, length-append c d, h))
same_cut (x ∷ a) b [] d e h = absurd (omega (arith, ap length e, length-append a b, h))
same_cut (x ∷ a) b (y ∷ c) d e h =
    let same : x ≡ y = cc in
    let tails : a ++ b ≡ c ++ d = cc in
    let p = same_cut a b c d tails h in
    (joined x y a c same p.0, p.1)
  where
    joined : (x y : Token) (us vs : List Token) → x ≡ y → us ≡ vs → x ∷ us ≡ y ∷ vs
    joined x y us vs p q = cc

module _ {X : Type 0} (r : Rule X) (lr : Lawful r) (vr : Viable r) where
  none_left : (front rest : List Token) → length rest ≡ 0 → IsBad r front rest
  none_left front [] h = tt
  none_left front (t ∷ rest) h = absurd (omega (arith, h))

  blocked : (ts : List Token) (n : ℕ) (s : Ready r ts n) → Blocked r ts n → IsBad r s.front s.rest
  blocked ts n s b =
      let cut = same_cut s.front s.rest b.front (b.bad ∷ b.more) (sym s.parts ∙ b.parts) (s.left ∙ sym b.left) in
      subst (λ (l : List Token). IsBad r s.front l) (sym cut.1) (λ on. b.none on.0 on.1 (subst (λ (l : List Token). r.Is l on.1) (append_assoc s.front (b.bad ∷ []) on.0 ∙ ap (λ (l : List Token). l ++ b.bad ∷ on.0) cut.0) on.2))

  from_ready : (ts : List Token) (n : ℕ) → Ready r ts n → (n ≡ 0) ⊎ Blocked r ts n → IsFirstBad r ts n
  from_ready ts n s (inl z) = record { front = s.front; rest = s.rest; parts = s.parts; count = s.left; before = s.on; bad = none_left s.front s.rest (s.left ∙ z) }
  from_ready ts n s (inr b) = record { front = s.front; rest = s.rest; parts = s.parts; count = s.left; before = s.on; bad = blocked ts n s b }

  left_over : (ts : List Token) (n : ℕ) (y : X) (rest : List Token) → Took r ts y rest → at_end y rest ≡ Err n → Ready r ts n
  left_over ts n y [] took h = absurd cc
  left_over ts n y (t ∷ more) took h = record { front = took.front; rest = t ∷ more; parts = took.parts; left = (cc); on = ([], y, subst (λ (l : List Token). r.Is l y) (sym (append-nil took.front)) took.is) }

  pub first_bad : (ts : List Token) (n : ℕ) → all_read r ts ≡ Err n → IsFirstBad r ts n
  first_bad ts n e = from_ready ts n (go (bind_err (r.read ts) (λ y. at_end y.0 y.1) n e)) (all_blocked r lr ts n e)
    where
      go : ((r.read ts ≡ Err n) ⊎ ((y : X × List Token) × (r.read ts ≡ Ok y) × (at_end y.0 y.1 ≡ Err n))) → Ready r ts n
      go (inl h) = vr.stuck ts n h
      go (inr p) = left_over ts n p.0.0 p.0.1 (lr.took ts p.0.0 p.0.1 p.1) p.2
