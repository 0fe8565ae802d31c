-- Reading balanced tokens, as a loop does.
use Rattle.std.proofs.Common.{◌≡◌, ℕ, zero, suc, ◌+◌, ◌-◌, ◌<◌, ◌≤◌, true, false, List, [], ◌∷◌, ◌++◌, length, take, drop, get_or, Some, None, Ok, Err, refl, sym, ap, ◌∙◌, arith, append_assoc, add-one, drop-cons, length-drop, take_all}
use Rattle.std.proofs.lemmas.List.{append-nil, take_more, nil_from_length}
use Rattle.ned_tokens.specs.declared.token.Token.{Token}
use Rattle.ned_tokens.specs.Rule.{Reading}
use Rattle.ned_tokens.specs.Balanced.{Turn, opens, closes, stays, bars, with_token, read_turn, balanced_read, depth_behind, is_closes}
use Rattle.ned_tokens.proofs.Loop.{with_front}

module _ (turn : Token → Turn) where
  read_step : (n : ℕ) (t : Token) (us : List Token) → balanced_read turn n (t ∷ us) ≡ read_turn (turn t) (λ k. balanced_read turn k us) n t us
  unfolding balanced_read
  read_step zero t us = refl
  read_step (suc n) t us = refl

  -- a token after which k are open
  goes : (n k : ℕ) (t : Token) (us : List Token) → depth_behind (turn t) n ≡ Some k → balanced_read turn n (t ∷ us) ≡ with_token t (balanced_read turn k us)
  goes n k t us e = read_step n t us ∙ go (turn t) n e
    where
      go : (u : Turn) (n : ℕ) → depth_behind u n ≡ Some k → read_turn u (λ j. balanced_read turn j us) n t us ≡ with_token t (balanced_read turn k us)
      go opens n h = let same : n + 1 ≡ k = cc in ap (λ (j : ℕ). with_token t (balanced_read turn j us)) (sym (add-one n) ∙ same)
      go stays n h = let same : n ≡ k = cc in ap (λ (j : ℕ). with_token t (balanced_read turn j us)) same
      go closes zero h = absurd cc
      go closes (suc n) h = let same : n ≡ k = cc in ap (λ (j : ℕ). with_token t (balanced_read turn j us)) same
      go bars n h = absurd cc

  ends : (n : ℕ) (t : Token) (us : List Token) → depth_behind (turn t) n ≡ None → is_closes (turn t) ≡ true → balanced_read turn n (t ∷ us) ≡ Ok ([], t ∷ us)
  ends n t us e c = read_step n t us ∙ go (turn t) n e c
    where
      go : (u : Turn) (n : ℕ) → depth_behind u n ≡ None → is_closes u ≡ true → read_turn u (λ j. balanced_read turn j us) n t us ≡ Ok ([], t ∷ us)
      go opens n h c = absurd cc
      go stays n h c = absurd cc
      go closes zero h c = refl
      go closes (suc n) h c = absurd cc
      go bars n h c = absurd cc

  breaks : (n : ℕ) (t : Token) (us : List Token) → depth_behind (turn t) n ≡ None → is_closes (turn t) ≡ false → balanced_read turn n (t ∷ us) ≡ Err (suc (length us))
  breaks n t us e c = read_step n t us ∙ go (turn t) n e c
    where
      go : (u : Turn) (n : ℕ) → depth_behind u n ≡ None → is_closes u ≡ false → read_turn u (λ j. balanced_read turn j us) n t us ≡ Err (suc (length us))
      go opens n h c = absurd cc
      go stays n h c = absurd cc
      go closes n h c = absurd cc
      go bars n h c = refl

  one_more : (front : List Token) (t : Token) (read : Reading (List Token)) → with_front front (with_token t read) ≡ with_front (front ++ t ∷ []) read
  one_more front t (Ok xs) = ap (λ (ys : List Token). Ok (ys, xs.1)) (sym (append_assoc front (t ∷ []) xs.0))
  one_more front t (Err n) = refl

  front_of : (ts : List Token) (i : ℕ) (t : Token) → i < length ts → t ≡ get_or ts i t → drop i ts ≡ t ∷ drop (i + 1) ts
  front_of ts i t h e = rw add-one (drop-cons ts i t h ∙ ap (λ (u : Token). u ∷ drop (suc i) ts) (sym e))

  -- i tokens were read, after which n are open; t is the next
  pub loop_goes : (ts : List Token) (i n k : ℕ) (t : Token) (total : Reading (List Token)) → i < length ts → t ≡ get_or ts i t → depth_behind (turn t) n ≡ Some k → with_front (take i ts) (balanced_read turn n (drop i ts)) ≡ total → with_front (take (i + 1) ts) (balanced_read turn k (drop (i + 1) ts)) ≡ total
  loop_goes ts i n k t total h et e so_far =
      let rest = drop (i + 1) ts in
      let read : balanced_read turn n (drop i ts) ≡ with_token t (balanced_read turn k rest) = ap (balanced_read turn n) (front_of ts i t h et) ∙ goes n k t rest e in
      let front : take (i + 1) ts ≡ take i ts ++ t ∷ [] = take_more ts i t h ∙ ap (λ (u : Token). take i ts ++ u ∷ []) (sym et) in
      ap (λ (f : List Token). with_front f (balanced_read turn k rest)) front ∙ sym (one_more (take i ts) t (balanced_read turn k rest)) ∙ sym (ap (with_front (take i ts)) read) ∙ so_far

  pub loop_ends : (ts : List Token) (i n : ℕ) (t : Token) (total : Reading (List Token)) → i < length ts → t ≡ get_or ts i t → depth_behind (turn t) n ≡ None → is_closes (turn t) ≡ true → with_front (take i ts) (balanced_read turn n (drop i ts)) ≡ total → total ≡ Ok (take i ts, drop i ts)
  loop_ends ts i n t total h et e c so_far =
      let rest = drop (i + 1) ts in
      let cons = front_of ts i t h et in
      let read : balanced_read turn n (drop i ts) ≡ Ok ([], drop i ts) = ap (balanced_read turn n) cons ∙ ends n t rest e c ∙ ap (λ (us : List Token). Ok ([], us)) (sym cons) in
      sym so_far ∙ ap (with_front (take i ts)) read ∙ ap (λ (us : List Token). Ok (us, drop i ts)) (append-nil (take i ts))

  pub loop_breaks : (ts : List Token) (i n : ℕ) (t : Token) (total : Reading (List Token)) → i < length ts → t ≡ get_or ts i t → depth_behind (turn t) n ≡ None → is_closes (turn t) ≡ false → with_front (take i ts) (balanced_read turn n (drop i ts)) ≡ total → total ≡ Err (length ts - i)
  loop_breaks ts i n t total h et e c so_far =
      let rest = drop (i + 1) ts in
      let read : balanced_read turn n (drop i ts) ≡ Err (suc (length rest)) = ap (balanced_read turn n) (front_of ts i t h et) ∙ breaks n t rest e c in
      let count : suc (length rest) ≡ length ts - i = omega (arith, length-drop (i + 1) ts, h) in
      sym so_far ∙ ap (with_front (take i ts)) read ∙ ap (λ (m : ℕ). Err m) count

  nothing_left : (ts : List Token) (i : ℕ) → length ts ≤ i → drop i ts ≡ []
  nothing_left ts i h = nil_from_length (drop i ts) (omega (arith, length-drop i ts, h))

  pub loop_whole : (ts : List Token) (i n : ℕ) (total : Reading (List Token)) → length ts ≤ i → n ≡ 0 → with_front (take i ts) (balanced_read turn n (drop i ts)) ≡ total → total ≡ Ok (ts, [])
  unfolding balanced_read
  loop_whole ts i n total h z so_far =
      let read : balanced_read turn n (drop i ts) ≡ Ok ([], []) = ap (λ (us : List Token). balanced_read turn n us) (nothing_left ts i h) ∙ ap (λ (m : ℕ). balanced_read turn m []) z in
      sym so_far ∙ ap (with_front (take i ts)) read ∙ ap (λ (us : List Token). Ok (us, [])) (append-nil (take i ts) ∙ take_all i ts h)

  pub loop_lacks : (ts : List Token) (i n k : ℕ) (total : Reading (List Token)) → length ts ≤ i → n ≡ suc k → with_front (take i ts) (balanced_read turn n (drop i ts)) ≡ total → total ≡ Err 0
  unfolding balanced_read
  loop_lacks ts i n k total h z so_far =
      let read : balanced_read turn n (drop i ts) ≡ Err 0 = ap (λ (us : List Token). balanced_read turn n us) (nothing_left ts i h) ∙ ap (λ (m : ℕ). balanced_read turn m []) z in
      sym so_far ∙ ap (with_front (take i ts)) read
