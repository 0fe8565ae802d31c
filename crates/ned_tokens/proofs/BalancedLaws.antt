-- The laws of balanced tokens.
use Rattle.std.proofs.Common.{◌≡◌, ℕ, zero, suc, true, false, List, [], ◌∷◌, ◌++◌, length, Ok, Err, ◌⊎◌, inl, inr, refl, sym, ap, subst, ◌∙◌}
use Rattle.ned_tokens.specs.declared.token.Token.{Token}
use Rattle.ned_tokens.specs.Balanced.{Turn, opens, closes, stays, bars, goes_in, turned, IsBalanced, with_token, read_turn, balanced_read, balanced}
use Rattle.ned_tokens.proofs.Laws.{SameHead, SameHead-nil, Stops, Lawful, bind_ok, bind_err, done, failed, ok_is}

module _ (turn : Token → Turn) where
  record Takes (n : ℕ) (ts : List Token) (x : List Token × List Token) : Type 0 where
    front : List Token
    parts : ts ≡ front ++ x.1
    value : x.0 ≡ front
    is : IsBalanced turn n front
    again : (other : List Token) → SameHead x.1 other → balanced_read turn n (front ++ other) ≡ Ok (front, other)

  record Fails (n : ℕ) (ts : List Token) (m : ℕ) : Type 0 where
    front : List Token
    rest : List Token
    parts : ts ≡ front ++ rest
    left : length rest ≡ m
    again : (other : List Token) → SameHead rest other → balanced_read turn n (front ++ other) ≡ Err (length other)

  one_more : (n k : ℕ) (t : Token) (ts : List Token) (x : List Token × List Token) → ((us : List Token) → balanced_read turn n (t ∷ us) ≡ with_token t (balanced_read turn k us)) → ((us : List Token) → IsBalanced turn k us → IsBalanced turn n (t ∷ us)) → ((y : List Token × List Token) → balanced_read turn k ts ≡ Ok y → Takes k ts y) → with_token t (balanced_read turn k ts) ≡ Ok x → Takes n (t ∷ ts) x
  one_more n k t ts x reads holds ih e =
      let p = bind_ok (balanced_read turn k ts) (λ y. Ok (t ∷ y.0, y.1)) x e in
      let s = ih p.0 p.1 in
      let made : List Token × List Token = (t ∷ p.0.0, p.0.1) in
      subst (λ (z : List Token × List Token). Takes n (t ∷ ts) z) (ok_is made x p.2) (record {
        front = t ∷ s.front;
        parts = ap (λ (l : List Token). t ∷ l) s.parts;
        value = ap (λ (l : List Token). t ∷ l) s.value;
        is = holds s.front s.is;
        again = λ other h. reads (s.front ++ other) ∙ ap (with_token t) (s.again other h);
      })

  one_fails : (n k : ℕ) (t : Token) (ts : List Token) (m : ℕ) → ((us : List Token) → balanced_read turn n (t ∷ us) ≡ with_token t (balanced_read turn k us)) → ((j : ℕ) → balanced_read turn k ts ≡ Err j → Fails k ts j) → with_token t (balanced_read turn k ts) ≡ Err m → Fails n (t ∷ ts) m
  one_fails n k t ts m reads ih e = go (bind_err (balanced_read turn k ts) (λ y. Ok (t ∷ y.0, y.1)) m e)
    where
      go : ((balanced_read turn k ts ≡ Err m) ⊎ ((y : List Token × List Token) × (balanced_read turn k ts ≡ Ok y) × (done {A = List Token × List Token} (t ∷ y.0, y.1) ≡ Err m))) → Fails n (t ∷ ts) m
      go (inl h) = let s = ih m h in record { front = t ∷ s.front; rest = s.rest; parts = ap (λ (l : List Token). t ∷ l) s.parts; left = s.left; again = λ other h. reads (s.front ++ other) ∙ ap (with_token t) (s.again other h) }
      go (inr p) = let no = p.2 in absurd cc

  read_step : (n : ℕ) (t : Token) (us : List Token) → balanced_read turn n (t ∷ us) ≡ read_turn (turn t) (λ k. balanced_read turn k us) n t us
  unfolding balanced_read
  read_step zero t us = refl
  read_step (suc n) t us = refl

  is_step : (n : ℕ) (t : Token) (us : List Token) → turned (turn t) (λ k. IsBalanced turn k us) n → IsBalanced turn n (t ∷ us)
  is_step zero t us h = h
  is_step (suc n) t us h = h

  step_is : (n : ℕ) (t : Token) (us : List Token) → IsBalanced turn n (t ∷ us) → turned (turn t) (λ k. IsBalanced turn k us) n
  step_is zero t us h = h
  step_is (suc n) t us h = h

  -- where the token leads to k open ones
  abbrev Leads : Token → ℕ → ℕ → Type 0
  Leads t n k = ((us : List Token) → balanced_read turn n (t ∷ us) ≡ with_token t (balanced_read turn k us)) × ((us : List Token) → IsBalanced turn k us → IsBalanced turn n (t ∷ us))

  leads_in : (n : ℕ) (t : Token) → turn t ≡ opens → Leads t n (suc n)
  leads_in n t e = (λ us. read_step n t us ∙ rw e refl, λ us is. is_step n t us (rw e is))

  leads_on : (n : ℕ) (t : Token) → turn t ≡ stays → Leads t n n
  leads_on n t e = (λ us. read_step n t us ∙ rw e refl, λ us is. is_step n t us (rw e is))

  leads_out : (n : ℕ) (t : Token) → turn t ≡ closes → Leads t (suc n) n
  leads_out n t e = (λ us. read_step (suc n) t us ∙ rw e refl, λ us is. is_step (suc n) t us (rw e is))

  end_here : (t : Token) (ts : List Token) (x : List Token × List Token) → turn t ≡ closes → done {A = List Token × List Token} ([], t ∷ ts) ≡ Ok x → Takes 0 (t ∷ ts) x
  end_here t ts x e h =
      let v : List Token × List Token = ([], t ∷ ts) in
      subst (λ (z : List Token × List Token). Takes 0 (t ∷ ts) z) (ok_is v x h) (record { front = []; parts = refl; value = refl; is = tt; again = again })
    where
      again : (other : List Token) → SameHead (t ∷ ts) other → balanced_read turn 0 other ≡ Ok ([], other)
      again [] k = absurd k
      again (u ∷ us) k = let same : turn u ≡ closes = ap turn (sym k) ∙ e in read_step 0 u us ∙ rw same refl

  barred : (n : ℕ) (t : Token) (ts : List Token) (m : ℕ) → turn t ≡ bars → failed {A = List Token × List Token} (suc (length ts)) ≡ Err m → Fails n (t ∷ ts) m
  barred n t ts m e h = record { front = []; rest = t ∷ ts; parts = refl; left = (cc); again = again }
    where
      again : (other : List Token) → SameHead (t ∷ ts) other → balanced_read turn n other ≡ Err (length other)
      again [] k = absurd k
      again (u ∷ us) k = let same : turn u ≡ bars = ap turn (sym k) ∙ e in read_step n u us ∙ rw same refl

  takes : (ts : List Token) (n : ℕ) (x : List Token × List Token) → balanced_read turn n ts ≡ Ok x → Takes n ts x
  unfolding balanced_read
  takes [] zero x e = let v : List Token × List Token = ([], []) in subst (λ (z : List Token × List Token). Takes zero [] z) (ok_is v x e) (record { front = []; parts = refl; value = refl; is = tt; again = λ other h. rw (SameHead-nil other h) refl })
  takes [] (suc n) x e = absurd cc
  takes (t ∷ ts) n x e = go (turn t) refl n (takes ts) (sym (read_step n t ts) ∙ e)
    where
      go : (u : Turn) → turn t ≡ u → (n : ℕ) → ((k : ℕ) (y : List Token × List Token) → balanced_read turn k ts ≡ Ok y → Takes k ts y) → read_turn u (λ k. balanced_read turn k ts) n t ts ≡ Ok x → Takes n (t ∷ ts) x
      go opens eu n ih h = let l = leads_in n t eu in one_more n (suc n) t ts x l.0 l.1 (ih (suc n)) h
      go stays eu n ih h = let l = leads_on n t eu in one_more n n t ts x l.0 l.1 (ih n) h
      go closes eu zero ih h = end_here t ts x eu h
      go closes eu (suc n) ih h = let l = leads_out n t eu in one_more (suc n) n t ts x l.0 l.1 (ih n) h
      go bars eu n ih h = absurd cc

  fails : (ts : List Token) (n : ℕ) (m : ℕ) → balanced_read turn n ts ≡ Err m → Fails n ts m
  unfolding balanced_read
  fails [] zero m e = absurd cc
  fails [] (suc n) m e = record { front = []; rest = []; parts = refl; left = (cc); again = λ other h. rw (SameHead-nil other h) refl }
  fails (t ∷ ts) n m e = go (turn t) refl n (fails ts) (sym (read_step n t ts) ∙ e)
    where
      go : (u : Turn) → turn t ≡ u → (n : ℕ) → ((k j : ℕ) → balanced_read turn k ts ≡ Err j → Fails k ts j) → read_turn u (λ k. balanced_read turn k ts) n t ts ≡ Err m → Fails n (t ∷ ts) m
      go opens eu n ih h = let l = leads_in n t eu in one_fails n (suc n) t ts m l.0 (ih (suc n)) h
      go stays eu n ih h = let l = leads_on n t eu in one_fails n n t ts m l.0 (ih n) h
      go closes eu zero ih h = absurd cc
      go closes eu (suc n) ih h = let l = leads_out n t eu in one_fails (suc n) n t ts m l.0 (ih n) h
      go bars eu n ih h = barred n t ts m eu h

  reads : (front : List Token) (n : ℕ) (rest : List Token) → IsBalanced turn n front → Stops (λ t. goes_in (turn t)) rest → balanced_read turn n (front ++ rest) ≡ Ok (front, rest)
  unfolding balanced_read
  reads [] zero [] is stops = refl
  reads [] zero (t ∷ rest) is stops = go (turn t) stops
    where
      go : (u : Turn) → goes_in u ≡ false → read_turn u (λ k. balanced_read turn k rest) 0 t rest ≡ Ok ([], t ∷ rest)
      go opens e = absurd cc
      go stays e = absurd cc
      go closes e = refl
      go bars e = absurd cc
  reads [] (suc n) rest is stops = absurd is
  reads (t ∷ front) n rest is stops = read_step n t (front ++ rest) ∙ go (turn t) n (step_is n t front is) (λ k h. reads front k rest h stops)
    where
      go : (u : Turn) (n : ℕ) → turned u (λ k. IsBalanced turn k front) n → ((k : ℕ) → IsBalanced turn k front → balanced_read turn k (front ++ rest) ≡ Ok (front, rest)) → read_turn u (λ k. balanced_read turn k (front ++ rest)) n t (front ++ rest) ≡ Ok (t ∷ front, rest)
      go opens n h ih = rw (ih (suc n) h) refl
      go stays n h ih = rw (ih n h) refl
      go closes zero h ih = absurd h
      go closes (suc n) h ih = rw (ih n h) refl
      go bars n h ih = absurd h

  first_in : (t : Token) (ts : List Token) → IsBalanced turn 0 (t ∷ ts) → goes_in (turn t) ≡ true
  first_in t ts h = go (turn t) h
    where
      go : (u : Turn) → turned u (λ k. IsBalanced turn k ts) 0 → goes_in u ≡ true
      go opens h = refl
      go stays h = refl
      go closes h = absurd h
      go bars h = refl

  pub balanced-lawful : Lawful (balanced turn)
  balanced-lawful = record {
    took = λ ts xs rest e. let x : List Token × List Token = (xs, rest) in let p = takes ts 0 x e in record { front = p.front; parts = p.parts; is = (p.value, p.is); again = λ other h. p.again other h ∙ ap (λ (l : List Token). Ok (l, other)) (sym p.value) };
    stuck = λ ts n e. let p = fails ts 0 n e in record { front = p.front; rest = p.rest; parts = p.parts; left = p.left; again = p.again };
    whole = λ front xs rest is stops. reads front 0 rest is.1 stops ∙ ap (λ (l : List Token). Ok (l, rest)) (sym is.0);
    first = λ t ts xs is. first_in t ts is.1;
    nothing = λ xs is. refl;
  }
