-- What is taken stays taken; the tables after one more connection.
use Rattle.std.proofs.Common.{◌≡◌, ℕ, suc, zero, ◌+◌, ◌<◌, ◌≤◌, Bool, true, false, ◌&&◌, nat_eq, List, ◌∷◌, Option, Some, is_none, unwrap_or, if◌then◌else◌, refl, ap, sym, ◌∙◌, arith, subst}
use Rattle.std.specs.HashMap.{HashMap, get}
use Rattle.inside_wiring.specs.declared.wiring.GateId.{GateId}
use Rattle.inside_wiring.specs.declared.wiring.Link.{Link}
use Rattle.inside_wiring.specs.declared.wiring.Role.{Role}
use Rattle.inside_wiring.specs.declared.wiring.Role.TheVariants.{Source, Target, Both}
use Rattle.inside_wiring.specs.Wired.{Key, key, same_key, link_from, link_to, is_free, is_apart, is_open, least}
use Rattle.inside_wiring.specs.Indexed.{IsIndexed, IsHint}

taken_one : (b : Bool) (l : Link) (o : Option Link) → is_none o ≡ false → is_none (if b then Some l else o) ≡ false
taken_one true l o h = refl
taken_one false l o h = h

taken_none : (a : Bool) → (a && false) ≡ false
taken_none true = refl
taken_none false = refl

taken_both : (b c : Bool) (l : Link) (o p : Option Link) → (is_none o && is_none p) ≡ false → (is_none (if b then Some l else o) && is_none (if c then Some l else p)) ≡ false
taken_both true c l o p h = refl
taken_both false true l o p h = taken_none (is_none o)
taken_both false false l o p h = h

-- a connection more takes no gate back
pub still_taken : (l : Link) (links : List Link) (role : Role) (q : Key) → is_free links role q ≡ false → is_free (l ∷ links) role q ≡ false
still_taken l links Source q h = taken_one (same_key (key l.from) q) l (link_from links q) h
still_taken l links Target q h = taken_one (same_key (key l.to) q) l (link_to links q) h
still_taken l links Both q h = taken_both (same_key (key l.from) q) (same_key (key l.to) q) l (link_from links q) (link_to links q) h

module _ {S : Type 0} where
  pub IsIndexed-connect : (links links' : List Link) (l : Link) (sources sources' targets targets' : HashMap Key Link S) (a b c : HashMap ℕ ℕ S) (f t : Key)
      → IsIndexed links sources targets a b c → links' ≡ l ∷ links → f ≡ key l.from → t ≡ key l.to
      → ((q : Key) → get same_key sources' q ≡ if same_key f q then Some l else get same_key sources q)
      → ((q : Key) → get same_key targets' q ≡ if same_key t q then Some l else get same_key targets q)
      → IsIndexed links' sources' targets' a b c
  IsIndexed-connect links links' l sources sources' targets targets' a b c f t ok e p r us ut =
      subst (λ ls. IsIndexed ls sources' targets' a b c) (sym e)
      (record {
        from_table = λ q. us q ∙ ap (λ k. if same_key k q then Some l else get same_key sources q) p ∙ ap (λ o. if same_key (key l.from) q then Some l else o) (ok.from_table q);
        to_table = λ q. ut q ∙ ap (λ k. if same_key k q then Some l else get same_key targets q) r ∙ ap (λ o. if same_key (key l.to) q then Some l else o) (ok.to_table q);
        source_hint = λ v i h. still_taken l links Source (v, i) (ok.source_hint v i h);
        target_hint = λ v i h. still_taken l links Target (v, i) (ok.target_hint v i h);
        both_hint = λ v i h. still_taken l links Both (v, i) (ok.both_hint v i h);
      })

-- what isn't free isn't open
pub closed : (links : List Link) (other : Option GateId) (role : Role) (q : Key) → is_free links role q ≡ false → is_open links other role q ≡ false
closed links other role q h = ap (λ b. is_apart other q && b) h ∙ taken_none (is_apart other q)

-- the least index, found from any place below which none passes
least_one : (b : Bool) (i k m : ℕ) → (b ≡ true → i ≡ k) → (b ≡ false → m ≡ k) → (if b then i else m) ≡ k
least_one true i k m here later = here refl
least_one false i k m here later = later refl

different : (test : ℕ → Bool) (i k : ℕ) → test k ≡ true → test i ≡ false → i ≡ k → ⊥
different test i k t f e = let same : test i ≡ test k = ap test e in cc

not_before : (test : ℕ → Bool) (i k : ℕ) → ((j : ℕ) → j < k → test j ≡ false) → test i ≡ true → i < k → ⊥
not_before test i k below t h = let f : test i ≡ false = below i h in cc

here_it_is : (test : ℕ → Bool) (i k : ℕ) → i ≤ k → ((j : ℕ) → j < k → test j ≡ false) → test i ≡ true → i ≡ k
here_it_is test i k low below t = let n : i < k → ⊥ = not_before test i k below t in omega arith

next_low : (test : ℕ → Bool) (i k : ℕ) → i ≤ k → test i ≡ false → test k ≡ true → i + 1 ≤ k
next_low test i k h f t = let ne : i ≡ k → ⊥ = different test i k t f in omega arith

-- the least index at which a test passes, once none below passes
pub least_found : (test : ℕ → Bool) (i n k : ℕ) → i ≤ k → k < i + n → ((j : ℕ) → j < k → test j ≡ false) → test k ≡ true → least test i n ≡ k
least_found test i zero k low high below found = absurd (omega arith)
least_found test i (suc n) k low high below found =
    least_one (test i) i k (least test (i + 1) n)
    (here_it_is test i k low below)
    (λ f. least_found test (i + 1) n k (next_low test i k low f found) (omega arith) below found)

pub least_none : (test : ℕ → Bool) (i n : ℕ) → ((j : ℕ) → j < i + n → test j ≡ false) → least test i n ≡ i + n
least_none test i zero below = omega arith
least_none test i (suc n) below = ap (λ b. if b then i else least test (i + 1) n) (below i (omega arith)) ∙ (least_none test (i + 1) n (λ j h. below j (omega arith)) ∙ (omega arith))

hint_one : (links : List Link) (role : Role) (v u index i : ℕ) (o : Option ℕ) (b : Bool) → nat_eq v u ≡ b → (i < unwrap_or o 0 → is_free links role (u, i) ≡ false)
    → (i < index → is_free links role (v, i) ≡ false) → i < unwrap_or (if b then Some index else o) 0 → is_free links role (u, i) ≡ false
hint_one links role v u index i o true e old fresh h = let same : v ≡ u = grind arith in subst (λ w. is_free links role (w, i) ≡ false) same (fresh h)
hint_one links role v u index i o false e old fresh h = old h

module _ {S : Type 0} where
  hint_raised : (links : List Link) (role : Role) (hints hints' : HashMap ℕ ℕ S) (v index : ℕ) → IsHint links role hints
      → ((q : ℕ) → get nat_eq hints' q ≡ if nat_eq v q then Some index else get nat_eq hints q) → ((i : ℕ) → i < index → is_free links role (v, i) ≡ false) → IsHint links role hints'
  hint_raised links role hints hints' v index old up fresh = λ u i h.
      hint_one links role v u index i (get nat_eq hints u) (nat_eq v u) refl (old u i) (fresh i) (subst (λ o. i < unwrap_or o 0) (up u) h)

  pub IsIndexed-source : (links : List Link) (sources targets : HashMap Key Link S) (a a' b c : HashMap ℕ ℕ S) (role : Role) (v index : ℕ) → IsIndexed links sources targets a b c → role ≡ Source
      → ((q : ℕ) → get nat_eq a' q ≡ if nat_eq v q then Some index else get nat_eq a q) → ((i : ℕ) → i < index → is_free links role (v, i) ≡ false) → IsIndexed links sources targets a' b c
  IsIndexed-source links sources targets a a' b c role v index ok is up fresh =
      record {
        from_table = ok.from_table;
        to_table = ok.to_table;
        target_hint = ok.target_hint;
        both_hint = ok.both_hint;
        source_hint = hint_raised links Source a a' v index ok.source_hint up (subst (λ r. (i : ℕ) → i < index → is_free links r (v, i) ≡ false) is fresh);
      }

  pub IsIndexed-target : (links : List Link) (sources targets : HashMap Key Link S) (a b b' c : HashMap ℕ ℕ S) (role : Role) (v index : ℕ) → IsIndexed links sources targets a b c → role ≡ Target
      → ((q : ℕ) → get nat_eq b' q ≡ if nat_eq v q then Some index else get nat_eq b q) → ((i : ℕ) → i < index → is_free links role (v, i) ≡ false) → IsIndexed links sources targets a b' c
  IsIndexed-target links sources targets a b b' c role v index ok is up fresh =
      record {
        from_table = ok.from_table;
        to_table = ok.to_table;
        source_hint = ok.source_hint;
        both_hint = ok.both_hint;
        target_hint = hint_raised links Target b b' v index ok.target_hint up (subst (λ r. (i : ℕ) → i < index → is_free links r (v, i) ≡ false) is fresh);
      }

  pub IsIndexed-both : (links : List Link) (sources targets : HashMap Key Link S) (a b c c' : HashMap ℕ ℕ S) (role : Role) (v index : ℕ) → IsIndexed links sources targets a b c → role ≡ Both
      → ((q : ℕ) → get nat_eq c' q ≡ if nat_eq v q then Some index else get nat_eq c q) → ((i : ℕ) → i < index → is_free links role (v, i) ≡ false) → IsIndexed links sources targets a b c'
  IsIndexed-both links sources targets a b c c' role v index ok is up fresh =
      record {
        from_table = ok.from_table;
        to_table = ok.to_table;
        source_hint = ok.source_hint;
        target_hint = ok.target_hint;
        both_hint = hint_raised links Both c c' v index ok.both_hint up (subst (λ r. (i : ℕ) → i < index → is_free links r (v, i) ≡ false) is fresh);
      }
