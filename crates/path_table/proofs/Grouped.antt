-- Modules in groups, of which one changes.
use Rattle.std.proofs.Common.{ℕ, zero, suc, ◌+◌, ◌≡◌, ◌≢◌, ◌<◌, refl, sym, ◌∙◌, ap, subst, Bool, true, false, true≢false, cond, ◌==◌, eqb-true, eq-eqb, ◌⊎◌, inl, inr, bytes_eq, List, [], ◌∷◌, ◌++◌, length, Option, Some, None, Result, Ok, Err, OnOk, min, arith}
use Rattle.std.proofs.lemmas.Int.{clamps}
use Rattle.std.proofs.lemmas.List.{length_push}
use Rattle.std.proofs.lemmas.Slice.Eq.{bytes_eq-Decides}
use Rattle.std.proofs.Math.ListN.{get_or}
use Rattle.std.proofs.lemmas.Option.{slice_get-get_or}
use Rattle.std.specs.Prelude.{option_to_list, slice_get, slice_set}
use Rattle.path_table.specs.Groups.{AreGrouped, IsFrontBefore, IsGroupOf, begins_dead, numbers_of}
use Rattle.path_table.specs.Paths.{with_dead}
use Rattle.path_table.specs.declared.ModuleAt.{ModuleAt}
use Rattle.path_table.specs.declared.groups.Group.{Group}
use Rattle.path_table.proofs.Numbers.{begins_back, begins_behind, begins_bury, begins_few, begins_less, begins_other, numbers_behind, numbers_dead, one_if}

-- ---- lists

pub there : (gs : List Group) (p : ℕ) (g : Group) → p < length gs → slice_get (slice_set gs p g) p ≡ Some g
there [] p g h = absurd (omega (arith, h))
there (x ∷ gs) zero g h = refl
there (x ∷ gs) (suc p) g h = there gs p g (omega (arith, h))

elsewhere : (gs : List Group) (p q : ℕ) (g : Group) → p ≢ q → slice_get (slice_set gs p g) q ≡ slice_get gs q
elsewhere [] p q g n = refl
elsewhere (x ∷ gs) zero zero g n = absurd (n refl)
elsewhere (x ∷ gs) zero (suc q) g n = refl
elsewhere (x ∷ gs) (suc p) zero g n = refl
elsewhere (x ∷ gs) (suc p) (suc q) g n = elsewhere gs p q g (λ e. n (ap suc e))

pub some_is : (x g : Group) → Some x ≡ Some g → x ≡ g
some_is x g e = ap (group_or x) e
  where
    group_or : Group → Option Group → Group
    group_or g None = g
    group_or g (Some z) = z

pub within : (gs : List Group) (p : ℕ) (g : Group) → slice_get gs p ≡ Some g → p < length gs
within [] zero g e = absurd (cc)
within [] (suc p) g e = absurd (cc)
within (x ∷ gs) zero g e = omega arith
within (x ∷ gs) (suc p) g e = let h = within gs p g e in omega (arith, h)

left : (gs : List Group) (r : Group) (p : ℕ) (g : Group) → slice_get gs p ≡ Some g → slice_get (gs ++ r ∷ []) p ≡ Some g
left [] r zero g e = absurd (cc)
left [] r (suc p) g e = absurd (cc)
left (x ∷ gs) r zero g e = e
left (x ∷ gs) r (suc p) g e = left gs r p g e

last : (gs : List Group) (r : Group) → slice_get (gs ++ r ∷ []) (length gs) ≡ Some r
last [] r = refl
last (x ∷ gs) r = last gs r

place_is : (p q : ℕ) → Some p ≡ Some q → p ≡ q
place_is p q e = cc

pub group_there : (gs : List Group) (p : ℕ) (g : Group) → p < length gs → g ≡ get_or gs p g → slice_get gs p ≡ Some g
group_there gs p g h e = slice_get-get_or gs p g h ∙ ap Some (sym e)

pub module_there : (ms : List ModuleAt) (n : ℕ) (m : ModuleAt) → n < length ms → m ≡ get_or ms n m → slice_get ms n ≡ Some m
module_there ms n m h e = slice_get-get_or ms n m h ∙ ap Some (sym e)

equal_or_not : (p q : ℕ) → (p ≡ q) ⊎ (p ≢ q)
equal_or_not p q = by (p == q) refl
  where
    by : (b : Bool) → (p == q) ≡ b → (p ≡ q) ⊎ (p ≢ q)
    by true e = inl (eqb-true p q e)
    by false e = inr (λ h. true≢false (sym (eq-eqb p q h) ∙ e))

itself : (path : List ℕ) → bytes_eq path path ≡ true
itself path = (bytes_eq-Decides path path).1 refl

no_place : (place : ℕ) → Some place ≡ None → ⊥
no_place place e = cc

no_more : (xs ys : List ℕ) → xs ≡ ys ++ [] → xs ≡ ys
no_more xs ys e = e ∙ append_nil ys
  where
    append_nil : (l : List ℕ) → l ++ [] ≡ l
    append_nil [] = refl
    append_nil (x ∷ l) = ap (λ k. x ∷ k) (append_nil l)

-- the group of a path is there
pub there_is : (ms : List ModuleAt) (groups : List ℕ → Option ℕ) (gs : List Group) (path : List ℕ) (place : ℕ) → AreGrouped ms groups gs → groups path ≡ Some place → place < length gs
there_is ms groups gs path place a e = let g = a.present path place e in within gs place g.0 g.1.0

-- it is this one
pub the_group : (ms : List ModuleAt) (groups : List ℕ → Option ℕ) (gs : List Group) (path : List ℕ) (place : ℕ) (g : Group) → AreGrouped ms groups gs → groups path ≡ Some place → slice_get gs place ≡ Some g → IsGroupOf path ms g
the_group ms groups gs path place g a e h =
    let r = a.present path place e in
    subst (λ (z : Group). IsGroupOf path ms z) (some_is r.0 g (sym r.1.0 ∙ h)) r.1.1

-- ---- the modules and the group of one path change

module _ (ms ns : List ModuleAt) (groups : List ℕ → Option ℕ) (gs : List Group) (path : List ℕ) (place : ℕ) (r : Group) (a : AreGrouped ms groups gs) (own : groups path ≡ Some place) (is : IsGroupOf path ns r)
    (same : (p : List ℕ) → bytes_eq path p ≡ false → numbers_of p 0 ns ≡ numbers_of p 0 ms)
    (dead : (p : List ℕ) (k : ℕ) → bytes_eq path p ≡ false → begins_dead p k ms ≡ true → begins_dead p k ns ≡ true) where
  pub regrouped : AreGrouped ns groups (slice_set gs place r)
  regrouped = record {
    absent = λ p e. absent p e (bytes_eq path p) refl;
    present = λ p q e. present p q e (bytes_eq path p) refl;
    apart = a.apart;
  }
    where
      absent : (p : List ℕ) → groups p ≡ None → (b : Bool) → bytes_eq path p ≡ b → numbers_of p 0 ns ≡ []
      absent p e true h = absurd (no_place place (sym own ∙ ap groups ((bytes_eq-Decides path p).0 h) ∙ e))
      absent p e false h = same p h ∙ a.absent p e

      other_place : (p : List ℕ) (q : ℕ) → groups p ≡ Some q → bytes_eq path p ≡ false → place ≢ q
      other_place p q e h = λ s. true≢false (sym ((bytes_eq-Decides path p).1 (a.apart path p q (own ∙ ap Some s) e)) ∙ h)

      present : (p : List ℕ) (q : ℕ) → groups p ≡ Some q → (b : Bool) → bytes_eq path p ≡ b → (g : Group) × ((slice_get (slice_set gs place r) q ≡ Some g) × IsGroupOf p ns g)
      present p q e true h =
          let s : path ≡ p = (bytes_eq-Decides path p).0 h in
          let t : place ≡ q = place_is place q (sym own ∙ ap groups s ∙ e) in
          (r, (subst (λ z. slice_get (slice_set gs place r) z ≡ Some r) t (there gs place r (there_is ms groups gs path place a own)), subst (λ (z : List ℕ). IsGroupOf z ns r) s is))
      present p q e false h =
          let g = a.present p q e in
          (g.0, (elsewhere gs place q r (other_place p q e h) ∙ g.1.0, record { all = g.1.1.all ∙ sym (same p h); dead = dead p g.0.front h g.1.1.dead }))

-- ---- one more, one less

module _ (ms : List ModuleAt) (m : ModuleAt) where
  others : (p : List ℕ) → bytes_eq m.path p ≡ false → numbers_of p 0 (ms ++ m ∷ []) ≡ numbers_of p 0 ms
  others p h = no_more (numbers_of p 0 (ms ++ m ∷ [])) (numbers_of p 0 ms) (numbers_behind p 0 ms m ∙ ap (λ b. numbers_of p 0 ms ++ one_if b (0 + length ms)) h)

  own_numbers : numbers_of m.path 0 (ms ++ m ∷ []) ≡ numbers_of m.path 0 ms ++ length ms ∷ []
  own_numbers =
      let e : 0 + length ms ≡ length ms = omega arith in
      numbers_behind m.path 0 ms m ∙ ap (λ b. numbers_of m.path 0 ms ++ one_if b (0 + length ms)) (itself m.path) ∙ ap (λ k. numbers_of m.path 0 ms ++ k ∷ []) e

  -- the last module has a group
  pub never_alone : (groups : List ℕ → Option ℕ) (gs : List Group) → AreGrouped (ms ++ m ∷ []) groups gs → groups m.path ≡ None → AreGrouped ms groups gs
  never_alone groups gs a none =
      let e = ap length (sym own_numbers ∙ a.absent m.path none) in
      let n = length_push (numbers_of m.path 0 ms) (length ms) in
      absurd (omega (arith, e, n))

module _ (ms : List ModuleAt) (m : ModuleAt) (groups : List ℕ → Option ℕ) (gs : List Group) (place : ℕ) (g : Group) (own : groups m.path ≡ Some place) (is : slice_get gs place ≡ Some g) where
  pub added : (number : ℕ) → number ≡ length ms → AreGrouped ms groups gs → AreGrouped (ms ++ m ∷ []) groups (slice_set gs place (record { numbers = g.numbers ++ number ∷ []; front = g.front }))
  added number n a =
      regrouped ms (ms ++ m ∷ []) groups gs m.path place (record { numbers = g.numbers ++ number ∷ []; front = g.front }) a own
      (let was = the_group ms groups gs m.path place g a own is in
      record { all = ap (λ l. l ++ number ∷ []) was.all ∙ ap (λ k. numbers_of m.path 0 ms ++ k ∷ []) n ∙ sym (own_numbers ms m); dead = begins_behind m.path g.front ms m was.dead })
      (others ms m) (λ p k h d. begins_behind p k ms m d)

  pub dropped : (r : Group) → ((numbers : List ℕ) (last : ℕ) → g.numbers ≡ numbers ++ last ∷ [] → r ≡ record { numbers = numbers; front = min g.front (length numbers) })
      → AreGrouped (ms ++ m ∷ []) groups gs → AreGrouped ms groups (slice_set gs place r)
  dropped r less a =
      regrouped (ms ++ m ∷ []) ms groups gs m.path place r a own group (λ p h. sym (others ms m p h)) kept
    where
      was : IsGroupOf m.path (ms ++ m ∷ []) g
      was = the_group (ms ++ m ∷ []) groups gs m.path place g a own is

      now : Group
      now = record { numbers = numbers_of m.path 0 ms; front = min g.front (length (numbers_of m.path 0 ms)) }

      group : IsGroupOf m.path ms r
      group = subst (λ (z : Group). IsGroupOf m.path ms z) (sym (less (numbers_of m.path 0 ms) (length ms) (was.all ∙ own_numbers ms m)))
          (record { all = refl; dead = begins_less m.path 0 now.front g.front ms m was.dead (omega (arith, clamps)) (omega (arith, clamps)) })

      kept : (p : List ℕ) (k : ℕ) → bytes_eq m.path p ≡ false → begins_dead p k (ms ++ m ∷ []) ≡ true → begins_dead p k ms ≡ true
      kept p k h d =
          let few = begins_few p 0 k (ms ++ m ∷ []) d in
          let e = ap length (others ms m p h) in
          begins_less p 0 k k ms m d (omega arith) (omega (arith, few, e))

-- ---- one is dead, or lives

pub buried : (ms : List ModuleAt) (n : ℕ) (groups : List ℕ → Option ℕ) (gs : List Group) → AreGrouped ms groups gs → AreGrouped (with_dead ms n true) groups gs
buried ms n groups gs a = record {
  absent = λ p e. numbers_dead p 0 ms n true ∙ a.absent p e;
  present = λ p q e. let g = a.present p q e in (g.0, (g.1.0, record { all = g.1.1.all ∙ sym (numbers_dead p 0 ms n true); dead = begins_bury p g.0.front ms n g.1.1.dead }));
  apart = a.apart;
}

pub fronted : (ms : List ModuleAt) (groups : List ℕ → Option ℕ) (gs : List Group) (path : List ℕ) (place : ℕ) (g : Group) (front : ℕ) → groups path ≡ Some place → slice_get gs place ≡ Some g → AreGrouped ms groups gs
    → begins_dead path front ms ≡ true → AreGrouped ms groups (slice_set gs place (record { numbers = g.numbers; front = front }))
fronted ms groups gs path place g front own is a d =
    regrouped ms ms groups gs path place (record { numbers = g.numbers; front = front }) a own
    (record { all = (the_group ms groups gs path place g a own is).all; dead = d }) (λ p h. refl) (λ p k h e. e)

module _ (ms : List ModuleAt) (n : ℕ) (m : ModuleAt) (groups : List ℕ → Option ℕ) (gs : List Group) (is_m : slice_get ms n ≡ Some m) (a : AreGrouped ms groups gs) where
  pub revived : (place : ℕ) (g : Group) (front : ℕ) → groups m.path ≡ Some place → slice_get gs place ≡ Some g → IsFrontBefore n g.numbers g.front front
      → AreGrouped (with_dead ms n false) groups (slice_set gs place (record { numbers = g.numbers; front = front }))
  revived place g front own is back =
      let was = the_group ms groups gs m.path place g a own is in
      regrouped ms (with_dead ms n false) groups gs m.path place (record { numbers = g.numbers; front = front }) a own
      (record { all = was.all ∙ sym (numbers_dead m.path 0 ms n false); dead = begins_back m.path g.numbers g.front front n ms was.all was.dead back })
      (λ p h. numbers_dead p 0 ms n false) (λ p k h d. begins_other p k ms n false m is_m h d)

  -- a module without a group, which there isn't
  pub revived_alone : groups m.path ≡ None → AreGrouped (with_dead ms n false) groups gs
  revived_alone none = record {
    absent = λ p e. numbers_dead p 0 ms n false ∙ a.absent p e;
    present = λ p q e. let g = a.present p q e in (g.0, (g.1.0, record { all = g.1.1.all ∙ sym (numbers_dead p 0 ms n false); dead = dead p q e (bytes_eq m.path p) refl g.0.front g.1.1.dead }));
    apart = a.apart;
  }
    where
      dead : (p : List ℕ) (q : ℕ) → groups p ≡ Some q → (b : Bool) → bytes_eq m.path p ≡ b → (k : ℕ) → begins_dead p k ms ≡ true → begins_dead p k (with_dead ms n false) ≡ true
      dead p q e true h k d = absurd (no_place q (sym e ∙ ap groups (sym ((bytes_eq-Decides m.path p).0 h)) ∙ none))
      dead p q e false h k d = begins_other p k ms n false m is_m h d

-- ---- one more group

pub no_groups : (groups : List ℕ → Option ℕ) → ((p : List ℕ) → groups p ≡ None) → AreGrouped [] groups []
no_groups groups none = record {
  absent = λ p e. refl;
  present = λ p q e. absurd (no_place q (sym e ∙ none p));
  apart = λ p o q e f. absurd (no_place q (sym e ∙ none p));
}

module _ (ms : List ModuleAt) (groups : List ℕ → Option ℕ) (gs : List Group) (r : Group) (a : AreGrouped ms groups gs) where
  pub behind : AreGrouped ms groups (gs ++ r ∷ [])
  behind = record {
    absent = a.absent;
    present = λ p q e. let g = a.present p q e in (g.0, (left gs r q g.0 g.1.0, g.1.1));
    apart = a.apart;
  }

  pub with_group : (after : List ℕ → Option ℕ) (path : List ℕ) → groups path ≡ None → r ≡ record { numbers = []; front = 0 }
      → ((p : List ℕ) → after p ≡ cond (bytes_eq path p) (Some (length gs)) (groups p)) → AreGrouped ms after (gs ++ r ∷ [])
  with_group after path none is u = record {
    absent = λ p e. absent p (bytes_eq path p) refl (sym (u p) ∙ e);
    present = λ p q e. present p q (bytes_eq path p) refl (sym (u p) ∙ e);
    apart = λ p o q e f. apart p o q (bytes_eq path p) (bytes_eq path o) refl refl (sym (u p) ∙ e) (sym (u o) ∙ f);
  }
    where
      absent : (p : List ℕ) (b : Bool) → bytes_eq path p ≡ b → cond b (Some (length gs)) (groups p) ≡ None → numbers_of p 0 ms ≡ []
      absent p true h e = absurd (no_place (length gs) e)
      absent p false h e = a.absent p e

      fresh : IsGroupOf path ms r
      fresh = subst (λ (z : Group). IsGroupOf path ms z) (sym is) (record { all = sym (a.absent path none); dead = refl })

      present : (p : List ℕ) (q : ℕ) (b : Bool) → bytes_eq path p ≡ b → cond b (Some (length gs)) (groups p) ≡ Some q
          → (g : Group) × ((slice_get (gs ++ r ∷ []) q ≡ Some g) × IsGroupOf p ms g)
      present p q true h e =
          (r, (subst (λ z. slice_get (gs ++ r ∷ []) z ≡ Some r) (place_is (length gs) q e) (last gs r), subst (λ (z : List ℕ). IsGroupOf z ms r) ((bytes_eq-Decides path p).0 h) fresh))
      present p q false h e = let g = a.present p q e in (g.0, (left gs r q g.0 g.1.0, g.1.1))

      too_far : (p : List ℕ) (q : ℕ) → Some (length gs) ≡ Some q → groups p ≡ Some q → ⊥
      too_far p q e f = let l = there_is ms groups gs p q a f in let s = place_is (length gs) q e in omega (arith, l, s)

      apart : (p o : List ℕ) (q : ℕ) (b c : Bool) → bytes_eq path p ≡ b → bytes_eq path o ≡ c → cond b (Some (length gs)) (groups p) ≡ Some q → cond c (Some (length gs)) (groups o) ≡ Some q → p ≡ o
      apart p o q true true h i e f = sym ((bytes_eq-Decides path p).0 h) ∙ (bytes_eq-Decides path o).0 i
      apart p o q true false h i e f = absurd (too_far o q e f)
      apart p o q false true h i e f = absurd (too_far p q f e)
      apart p o q false false h i e f = a.apart p o q e f

-- ---- what the code has

pub some_module : (ms : List ModuleAt) (n : ℕ) → n < length ms → (m : ModuleAt) × (slice_get ms n ≡ Some m)
some_module [] n h = absurd (omega (arith, h))
some_module (x ∷ ms) zero h = (x, refl)
some_module (x ∷ ms) (suc n) h = some_module ms n (omega (arith, h))

pub pushed : {E : Type 0} (result : Result (Unit {0}) E) (gs : List Group) (place : ℕ) (g : Group) (after : List ℕ) (number : ℕ) → slice_get gs place ≡ Some g → OnOk result (after ≡ g.numbers ++ number ∷ [])
    → OnOk result ((ms : List ModuleAt) (m : ModuleAt) (groups : List ℕ → Option ℕ) → groups m.path ≡ Some place → number ≡ length ms → AreGrouped ms groups gs
    → AreGrouped (ms ++ m ∷ []) groups (slice_set gs place (record { numbers = after; front = g.front })))
pushed (Ok x) gs place g after number is e = λ ms m groups own n a.
    subst (λ (l : List ℕ). AreGrouped (ms ++ m ∷ []) groups (slice_set gs place (record { numbers = l; front = g.front }))) (sym e) (added ms m groups gs place g own is number n a)
pushed (Err x) gs place g after number is e = e

pub popped : (found : Option ModuleAt) (last : ModuleAt) (old new : List ModuleAt) → old ≡ new ++ option_to_list found → found ≡ Some last → old ≡ new ++ last ∷ []
popped found last old new h e = h ∙ ap (λ o. new ++ option_to_list o) e
