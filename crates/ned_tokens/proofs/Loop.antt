-- Reading any number of one rule, as a loop does.
use Rattle.std.proofs.Common.{◌≡◌, true, false, List, [], ◌∷◌, ◌++◌, Ok, Err, refl, sym, ap, ◌∙◌, append_assoc}
use Rattle.std.proofs.lemmas.List.{append-nil}
use Rattle.ned_tokens.specs.declared.token.Token.{Token}
use Rattle.ned_tokens.specs.declared.refusal.Refusal.{Refusal}
use Rattle.ned_tokens.specs.declared.refusal.Refusal.TheVariants.{Memory, At}
use Rattle.ned_tokens.specs.Rule.{Reading, ◌>>=◌, begins, Rule, many, Fails, ◌⊗◌, map_read, fold_left, left}
use Rattle.ned_tokens.proofs.Laws.{Lawful}
use Rattle.ned_tokens.proofs.Many.{many_ends, many_goes_on, others}

-- what was read before, and what is still read
abbrev pub with_front : {X : Type 0} → List X → Reading (List X) → Reading (List X)
with_front front read = read >>= λ x. Ok (front ++ x.0, x.1)

module _ {X : Type 0} (r : Rule X) (lr : Lawful r) (full : r.empty ≡ false) where
  regroup : (front : List X) (x : X) (read : Reading (List X)) → with_front front (read >>= λ xs. Ok (x ∷ xs.0, xs.1)) ≡ with_front (front ++ x ∷ []) read
  regroup front x (Ok xs) = ap (λ (ys : List X). Ok (ys, xs.1)) (simp append_assoc)
  regroup front x (Err n) = refl

  pub goes_on : (front : List X) (ts : List Token) (x : X) (after : List Token) (total : Reading (List X)) → begins r.starts ts ≡ true → r.read ts ≡ Ok (x, after) → with_front front ((many r).read ts) ≡ total → with_front (front ++ x ∷ []) ((many r).read after) ≡ total
  goes_on front ts x after total begun read so_far =
      let one : with_front front ((many r).read ts) ≡ with_front (front ++ x ∷ []) ((many r).read after) = rw (many_goes_on r lr full ts begun, read) (regroup front x ((many r).read after)) in
      sym one ∙ so_far

  pub fails : (e : Refusal) (front : List X) (ts : List Token) (total : Reading (List X)) → begins r.starts ts ≡ true → Fails e (r.read ts) → with_front front ((many r).read ts) ≡ total → Fails e total
  fails (Memory _) front ts total begun read so_far = tt
  fails (At n) front ts total begun read so_far =
      let one : with_front front ((many r).read ts) ≡ Err n = rw (many_goes_on r lr full ts begun, read) refl in
      sym so_far ∙ one

  pub ends : (front : List X) (ts : List Token) (total : Reading (List X)) → begins r.starts ts ≡ false → with_front front ((many r).read ts) ≡ total → total ≡ Ok (front, ts)
  ends front ts total over so_far =
      let one : with_front front ((many r).read ts) ≡ Ok (front, ts) = rw (many_ends r lr full ts over) (ap (λ (xs : List X). Ok (xs, ts)) (append-nil front)) in
      sym so_far ∙ one

-- ---- any number, of which no value is kept

abbrev pub skipped : {X : Type 0} → Reading (List X) → Reading (Unit {0})
skipped read = map_read (λ _. tt) read

module _ {X : Type 0} (r : Rule X) (lr : Lawful r) (full : r.empty ≡ false) where
  skip_one : (x : X) (read : Reading (List X)) → skipped (read >>= λ xs. Ok (x ∷ xs.0, xs.1)) ≡ skipped read
  skip_one x (Ok xs) = refl
  skip_one x (Err n) = refl

  pub skip_on : (ts : List Token) (x : X) (after : List Token) (total : Reading (Unit {0})) → begins r.starts ts ≡ true → r.read ts ≡ Ok (x, after) → skipped ((many r).read ts) ≡ total → skipped ((many r).read after) ≡ total
  skip_on ts x after total begun read so_far =
      let one : skipped ((many r).read ts) ≡ skipped ((many r).read after) = rw (many_goes_on r lr full ts begun, read) (skip_one x ((many r).read after)) in
      sym one ∙ so_far

  pub skip_fails : (e : Refusal) (ts : List Token) (total : Reading (Unit {0})) → begins r.starts ts ≡ true → Fails e (r.read ts) → skipped ((many r).read ts) ≡ total → Fails e total
  skip_fails (Memory _) ts total begun read so_far = tt
  skip_fails (At n) ts total begun read so_far =
      let one : skipped ((many r).read ts) ≡ Err n = rw (many_goes_on r lr full ts begun, read) refl in
      sym so_far ∙ one

  pub skip_ends : (ts : List Token) (total : Reading (Unit {0})) → begins r.starts ts ≡ false → skipped ((many r).read ts) ≡ total → total ≡ Ok (tt, ts)
  skip_ends ts total over so_far =
      let one : skipped ((many r).read ts) ≡ Ok (tt, ts) = rw (many_ends r lr full ts over) refl in
      sym so_far ∙ one

-- ---- operands with operators between them

-- what was read before on the left, and what is still read
abbrev pub with_left : {O X : Type 0} → (O → X → X → X) → X → Reading (List (O × X)) → Reading X
with_left f x read = read >>= λ ps. Ok (fold_left f x ps.0, ps.1)

module _ {O X : Type 0} (f : O → X → X → X) (op : Rule O) (operand : Rule X) where
  again_left : (x : X) (p : O × X) (read : Reading (List (O × X))) → with_left f x (read >>= λ ps. Ok (p ∷ ps.0, ps.1)) ≡ with_left f (f p.0 x p.1) read
  again_left x p (Ok ps) = refl
  again_left x p (Err n) = refl

  pub left_begins : (ts : List Token) (x : X) (after : List Token) → operand.read ts ≡ Ok (x, after) → with_left f x ((many (op ⊗ operand)).read after) ≡ (left f op operand).read ts
  left_begins ts x after e = sym (rw e (go ((many (op ⊗ operand)).read after)))
    where
      go : (read : Reading (List (O × X))) → map_read (λ (p : X × List (O × X)). fold_left f p.0 p.1) (read >>= λ y. Ok ((x, y.0), y.1)) ≡ with_left f x read
      go (Ok ps) = refl
      go (Err n) = refl

  pub left_first_fails : (e : Refusal) (ts : List Token) → Fails e (operand.read ts) → Fails e ((left f op operand).read ts)
  left_first_fails (Memory _) ts h = tt
  left_first_fails (At n) ts h = rw h refl

  module _ (lawful : Lawful (op ⊗ operand)) (full : (op ⊗ operand).empty ≡ false) where
    pub left_goes_on : (x : X) (ts : List Token) (p : O × X) (after : List Token) (total : Reading X) → begins (op ⊗ operand).starts ts ≡ true → (op ⊗ operand).read ts ≡ Ok (p, after) → with_left f x ((many (op ⊗ operand)).read ts) ≡ total → with_left f (f p.0 x p.1) ((many (op ⊗ operand)).read after) ≡ total
    left_goes_on x ts p after total begun read so_far =
        let one : with_left f x ((many (op ⊗ operand)).read ts) ≡ with_left f (f p.0 x p.1) ((many (op ⊗ operand)).read after) = ap (with_left f x) (many_goes_on (op ⊗ operand) lawful full ts begun ∙ ap (λ (r : Reading (O × X)). r >>= others (op ⊗ operand) lawful full) read) ∙ again_left x p ((many (op ⊗ operand)).read after) in
        sym one ∙ so_far

    pub left_fails : (e : Refusal) (x : X) (ts : List Token) (total : Reading X) → begins (op ⊗ operand).starts ts ≡ true → Fails e ((op ⊗ operand).read ts) → with_left f x ((many (op ⊗ operand)).read ts) ≡ total → Fails e total
    left_fails (Memory _) x ts total begun read so_far = tt
    left_fails (At n) x ts total begun read so_far =
        let one : with_left f x ((many (op ⊗ operand)).read ts) ≡ Err n = ap (with_left f x) (many_goes_on (op ⊗ operand) lawful full ts begun ∙ ap (λ (r : Reading (O × X)). r >>= others (op ⊗ operand) lawful full) read) in
        sym so_far ∙ one

    pub left_ends : (x : X) (ts : List Token) (total : Reading X) → begins (op ⊗ operand).starts ts ≡ false → with_left f x ((many (op ⊗ operand)).read ts) ≡ total → total ≡ Ok (x, ts)
    left_ends x ts total over so_far = sym so_far ∙ ap (with_left f x) (many_ends (op ⊗ operand) lawful full ts over)
