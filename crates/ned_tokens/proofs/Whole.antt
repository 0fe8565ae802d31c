-- Reading all of the tokens: what is read is spelled so, what is spelled is read, and no spelling
-- begins as far as the fault.
use Rattle.std.proofs.Common.{◌≡◌, ℕ, suc, List, [], ◌∷◌, ◌++◌, length, Ok, Err, ◌⊎◌, inl, inr, refl, sym, ap, subst, ◌∙◌}
use Rattle.std.proofs.lemmas.List.{append-nil}
use Rattle.ned_tokens.specs.declared.token.Token.{Token}
use Rattle.ned_tokens.specs.Rule.{Rule, at_end, all_read}
use Rattle.ned_tokens.proofs.Laws.{SameHead, Lawful, Took, Stuck, bind_ok, bind_err, done, ok_is}

-- no spelling begins with the tokens up to the one at which n are left
pub record Blocked {X : Type 0} (r : Rule X) (ts : List Token) (n : ℕ) : Type 0 where
  pub front : List Token
  pub bad : Token
  pub more : List Token
  pub parts : ts ≡ front ++ bad ∷ more
  pub left : suc (length more) ≡ n
  pub none : (other : List Token) (x : X) → r.Is (front ++ bad ∷ other) x → ⊥

module _ {X : Type 0} (r : Rule X) (lr : Lawful r) where
  -- what is spelled is read
  reads : (ts : List Token) (x : X) → r.Is ts x → r.read ts ≡ Ok (x, [])
  reads ts x is = ap r.read (sym (append-nil ts)) ∙ lr.whole ts x [] is refl

  pub all_whole : (ts : List Token) (x : X) → r.Is ts x → all_read r ts ≡ Ok x
  all_whole ts x is = rw (reads ts x is) refl

  -- one list of tokens spells at most one value
  pub one_meaning : (ts : List Token) (x y : X) → r.Is ts x → r.Is ts y → x ≡ y
  one_meaning ts x y p q = ok_is x y (sym (all_whole ts x p) ∙ all_whole ts y q)

  pub all_took : (ts : List Token) (x : X) → all_read r ts ≡ Ok x → r.Is ts x
  all_took ts x e = let p = bind_ok (r.read ts) (λ y. at_end y.0 y.1) x e in go p.0.0 p.0.1 (lr.took ts p.0.0 p.0.1 p.1) p.2
    where
      go : (y : X) (rest : List Token) → Took r ts y rest → at_end y rest ≡ Ok x → r.Is ts x
      go y [] took h = subst (λ (z : X). r.Is ts z) (ok_is y x h) (subst (λ (l : List Token). r.Is l y) (sym (append-nil took.front) ∙ sym took.parts) took.is)
      go y (t ∷ rest) took h = absurd cc

  pub all_blocked : (ts : List Token) (n : ℕ) → all_read r ts ≡ Err n → (n ≡ 0) ⊎ Blocked r ts n
  all_blocked ts n e = go (bind_err (r.read ts) (λ y. at_end y.0 y.1) n e)
    where
      stuck : (s : Stuck r ts n) → (rest : List Token) → s.rest ≡ rest → (n ≡ 0) ⊎ Blocked r ts n
      stuck s [] e = inl (sym s.left ∙ ap length e)
      stuck s (t ∷ more) e = inr (record {
        front = s.front;
        bad = t;
        more = more;
        parts = s.parts ∙ ap (λ (l : List Token). s.front ++ l) e;
        left = sym (ap length e) ∙ s.left;
        none = λ other x is. let ok = reads (s.front ++ t ∷ other) x is in let no = s.again (t ∷ other) (subst (λ (l : List Token). SameHead l (t ∷ other)) (sym e) refl) in absurd cc;
      })

      left_over : (y : X) (rest : List Token) → Took r ts y rest → at_end y rest ≡ Err n → (n ≡ 0) ⊎ Blocked r ts n
      left_over y [] took h = absurd cc
      left_over y (t ∷ more) took h = inr (record {
        front = took.front;
        bad = t;
        more = more;
        parts = took.parts;
        left = (cc);
        none = λ other x is. let ok = reads (took.front ++ t ∷ other) x is in let no = took.again (t ∷ other) refl in different y x t other (sym no ∙ ok);
      })
        where
          different : (y x : X) (t : Token) (other : List Token) → done {A = X × List Token} (y, t ∷ other) ≡ Ok (x, []) → ⊥
          different y x t other h = let v : X × List Token = (y, t ∷ other) in let w : X × List Token = (x, []) in let e : t ∷ other ≡ [] = ap (λ (p : X × List Token). p.1) (ok_is v w h) in absurd cc

      go : ((r.read ts ≡ Err n) ⊎ ((y : X × List Token) × (r.read ts ≡ Ok y) × (at_end y.0 y.1 ≡ Err n))) → (n ≡ 0) ⊎ Blocked r ts n
      go (inl h) = let s = lr.stuck ts n h in stuck s s.rest refl
      go (inr p) = left_over p.0.0 p.0.1 (lr.took ts p.0.0 p.0.1 p.1) p.2
