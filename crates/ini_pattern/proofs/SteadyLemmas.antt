-- Pieces that take as many dots of any name: only the last `*` need be tried again.
use Rattle.std.proofs.Common.{◌≡◌, ◌≢◌, ◌↔◌, ℕ, suc, ◌+◌, ◌≤◌, inl, inr, Bool, true, false, not, cond, eqb, ltb, Option, Some, None, List, [], ◌∷◌, ◌++◌, length, take, drop, append-nil, append_assoc, refl, sym, ap, subst, ◌∙◌, arith}
use Rattle.std.specs.Prelude.{position, MatchOption}
use Rattle.std.specs.Char.{is_ascii_digit}
use Rattle.std.specs.List.{list_all, prefix_len, position_or_len}
use Rattle.std.proofs.lemmas.Bool.{and_parts, and_from, cases_Bool, not-true, false≢true, eq-eqb, ne_eqb, ltb-true, ltb-false}
use Rattle.std.proofs.lemmas.Bool.Decides.{nat_tests}
use Rattle.std.proofs.lemmas.List.{append_cancel_right}
use Rattle.std.proofs.lemmas.List.Sums.{split_at_first, passes_at_first}
use Rattle.ini_pattern.specs.declared.piece.Piece.{Piece}
use Rattle.ini_pattern.specs.declared.piece.Piece.TheVariants.{AnyPath, AnyName, AnyChar, Char, Set, Number}
use Rattle.ini_pattern.specs.Matches.{has_no_dot, in_ranges, Takes, Covers}
use Rattle.ini_pattern.specs.Reading.{is_any_name, is_no_name, is_fixed, is_steady, EndsWith, IsEnd, IsLongestRest, HasNoRest, Slides, CannotSlide, IsLongestAnywhere, HasNoRestAnywhere, IsPastDot}
use Rattle.ini_pattern.proofs.CoverLemmas.{cuts, covers_append, covers_split, covers_left_all, ends_next, ends_trans, some_same, none_some}
use Rattle.ini_pattern.proofs.CrossLemmas.{cross, no_dot_front}

pub is_name : (p : Piece) → is_any_name p ≡ true → p ≡ AnyName
is_name AnyPath h = absurd (false≢true h)
is_name AnyName h = refl
is_name AnyChar h = absurd (false≢true h)
is_name (Char c) h = absurd (false≢true h)
is_name (Set negated ranges) h = absurd (false≢true h)
is_name (Number low high) h = absurd (false≢true h)

-- the front that passes a test
front_more : (q : Piece → Bool) (p : Piece) (ps : List Piece) (b : Bool) → q p ≡ b → list_all q (take (prefix_len q ps) ps) ≡ true → list_all q (take (prefix_len q (p ∷ ps)) (p ∷ ps)) ≡ true
front_more q p ps true h rest =
    let next : 1 + prefix_len q ps ≡ suc (prefix_len q ps) = omega arith in
    rw (h, next, h) rest
front_more q p ps false h rest = rw h refl

pub front_passes : (q : Piece → Bool) (ps : List Piece) → list_all q (take (prefix_len q ps) ps) ≡ true
front_passes q [] = refl
front_passes q (p ∷ ps) = front_more q p ps (q p) refl (front_passes q ps)

cond_at : (b : Bool) (n : ℕ) → b ≡ true → cond b n 0 ≡ n
cond_at b n h = rw h refl

cond_off : (b : Bool) (n : ℕ) → b ≡ false → cond b n 0 ≡ 0
cond_off b n h = rw h refl

all_more : (q : Piece → Bool) (p : Piece) (ps : List Piece) (b : Bool) → q p ≡ b → (length ps ≤ prefix_len q ps → list_all q ps ≡ true) → length (p ∷ ps) ≤ prefix_len q (p ∷ ps) → list_all q (p ∷ ps) ≡ true
all_more q p ps true h rest le = rw h (rest (omega (arith, subst (λ n. suc (length ps) ≤ n) (cond_at (q p) (1 + prefix_len q ps) h) le)))
all_more q p ps false h rest le = absurd (omega (arith, subst (λ n. suc (length ps) ≤ n) (cond_off (q p) (1 + prefix_len q ps) h) le))

pub all_pass : (q : Piece → Bool) (ps : List Piece) → length ps ≤ prefix_len q ps → list_all q ps ≡ true
all_pass q [] le = refl
all_pass q (p ∷ ps) le = all_more q p ps (q p) refl (all_pass q ps) le

pub no_name : (ps : List Piece) → position is_any_name ps ≡ None → list_all is_no_name ps ≡ true
no_name ps h =
    elim (cases_Bool (ltb (position_or_len is_any_name ps) (length ps))) [
      | inl t ↦ let wrong : Some (position_or_len is_any_name ps) ≡ None = rw t at h in absurd (none_some (sym wrong))
      | inr f ↦ all_pass is_no_name ps (ltb-false (position_or_len is_any_name ps) (length ps) f)
    ]

pub about_name : (ps : List Piece) (at : ℕ) → position is_any_name ps ≡ Some at → (list_all is_no_name (take at ps) ≡ true) × (ps ≡ take at ps ++ (AnyName ∷ drop (at + 1) ps))
about_name ps at h =
    elim (cases_Bool (ltb (position_or_len is_any_name ps) (length ps))) [
      | inr f ↦ let wrong : None ≡ Some at = rw f at h in absurd (none_some wrong)
      | inl t ↦
          let found : Some (position_or_len is_any_name ps) ≡ Some at = rw t at h in
          let place : position_or_len is_any_name ps ≡ at = some_same found in
          let within = ltb-true (position_or_len is_any_name ps) (length ps) t in
          let cut = split_at_first is_any_name ps AnyName within in
          let name = is_name _ (passes_at_first is_any_name ps AnyName within) in (
            subst (λ k. list_all is_no_name (take k ps) ≡ true) place (front_passes is_no_name ps),
            subst (λ k. ps ≡ take k ps ++ (AnyName ∷ drop (k + 1) ps)) place
                (cut ∙ ap (λ p. take (position_or_len is_any_name ps) ps ++ (p ∷ drop (position_or_len is_any_name ps + 1) ps)) name),
          )
    ]

-- steady pieces in parts, and those that are no stars
pub steady_split : (ps qs : List Piece) → list_all is_steady (ps ++ qs) ≡ true → (list_all is_steady ps ≡ true) × (list_all is_steady qs ≡ true)
steady_split [] qs h = (refl, h)
steady_split (p ∷ ps) qs h =
    let parts = and_parts (is_steady p) (list_all is_steady (ps ++ qs)) h in
    let rest = steady_split ps qs parts.1 in
    (and_from _ _ parts.0 rest.0, rest.1)

one_fixed : (p : Piece) → is_steady p ≡ true → is_no_name p ≡ true → is_fixed p ≡ true
one_fixed AnyPath s n = absurd (false≢true s)
one_fixed AnyName s n = absurd (false≢true n)
one_fixed AnyChar s n = refl
one_fixed (Char c) s n = refl
one_fixed (Set negated ranges) s n = refl
one_fixed (Number low high) s n = refl

pub all_fixed : (ps : List Piece) → list_all is_steady ps ≡ true → list_all is_no_name ps ≡ true → list_all is_fixed ps ≡ true
all_fixed [] s n = refl
all_fixed (p ∷ ps) s n =
    let steady = and_parts (is_steady p) (list_all is_steady ps) s in
    let named = and_parts (is_no_name p) (list_all is_no_name ps) n in
    and_from _ _ (one_fixed p steady.0 named.0) (all_fixed ps steady.1 named.1)

-- how many dots
abbrev dot : ℕ → ℕ
dot c = cond (eqb c 46) 1 0

abbrev dots : List ℕ → ℕ
dots [] = 0
dots (c ∷ cs) = dot c + dots cs

dots-append : (f g : List ℕ) → dots (f ++ g) ≡ dots f + dots g
dots-append [] g = omega arith
dots-append (c ∷ f) g = omega (arith, dots-append f g)

dots_none : (l : List ℕ) → has_no_dot l ≡ true → dots l ≡ 0
dots_none [] h = refl
dots_none (c ∷ l) h =
    let parts = and_parts (not (eqb c 46)) (has_no_dot l) h in
    rw (not-true (eqb c 46) parts.0) (omega (arith, dots_none l parts.1))

no_dots : (l : List ℕ) → dots l ≡ 0 → has_no_dot l ≡ true
no_dots [] h = refl
no_dots (c ∷ l) h =
    elim (cases_Bool (eqb c 46)) [
      | inl t ↦ let wrong : 1 + dots l ≡ 0 = rw t at h in absurd (omega arith)
      | inr f ↦ let rest : 0 + dots l ≡ 0 = rw f at h in rw f (no_dots l (omega arith))
    ]

-- the dots that fixed steady pieces take
abbrev piece_dots : Piece → ℕ
piece_dots (Char c) = dot c
piece_dots piece = 0

abbrev pieces_dots : List Piece → ℕ
pieces_dots [] = 0
pieces_dots (p ∷ ps) = piece_dots p + pieces_dots ps

digit_no_dot : (c : ℕ) → is_ascii_digit c ≡ true → eqb c 46 ≡ false
digit_no_dot c h = grind (arith, nat_tests)

digits_dots : (l : List ℕ) → list_all is_ascii_digit l ≡ true → dots l ≡ 0
digits_dots [] h = refl
digits_dots (c ∷ l) h =
    let parts = and_parts (is_ascii_digit c) (list_all is_ascii_digit l) h in
    rw (digit_no_dot c parts.0) (omega (arith, digits_dots l parts.1))

one_dot : (c : ℕ) (l : List ℕ) → l ≡ c ∷ [] → c ≢ 46 → dots l ≡ 0
one_dot c l e ne = rw (e, ne_eqb c 46 ne) refl

set_no_dot : (negated : Bool) (b : Bool) → cond negated b (not b) ≡ true → b ≡ not negated → ⊥
set_no_dot true true s e = false≢true (sym e)
set_no_dot true false s e = false≢true s
set_no_dot false true s e = false≢true s
set_no_dot false false s e = false≢true e

piece_takes_dots : (p : Piece) (taken rest : List ℕ) → is_steady p ≡ true → is_fixed p ≡ true → Takes p taken rest → dots taken ≡ piece_dots p
piece_takes_dots AnyPath taken rest s f w = absurd (false≢true f)
piece_takes_dots AnyName taken rest s f w = absurd (false≢true f)
piece_takes_dots AnyChar taken rest s f w = one_dot w.0 taken w.1 w.2
piece_takes_dots (Char c) taken rest s f w = rw w (omega arith)
piece_takes_dots (Set negated ranges) taken rest s f w =
    one_dot w.0 taken w.1 (λ e. set_no_dot negated (in_ranges ranges 46) s (subst (λ c. in_ranges ranges c ≡ not negated) e w.2))
piece_takes_dots (Number low high) taken rest s f w = digits_dots taken w.digits

-- steady fixed pieces take as many dots wherever they stand
take_dots : (ps : List Piece) (n r : List ℕ) → list_all is_steady ps ≡ true → list_all is_fixed ps ≡ true → Covers ps n r → (taken : List ℕ) × (n ≡ taken ++ r) × (dots taken ≡ pieces_dots ps)
take_dots [] n r s f w = ([], w, refl)
take_dots (p ∷ ps) n r s f w =
    let steady = and_parts (is_steady p) (list_all is_steady ps) s in
    let fixed = and_parts (is_fixed p) (list_all is_fixed ps) f in
    let rest = take_dots ps w.1 r steady.1 fixed.1 w.4 in
    let here = piece_takes_dots p w.0 w.1 steady.0 fixed.0 w.3 in
    (w.0 ++ rest.0, w.2 ∙ ap (λ l. w.0 ++ l) rest.1 ∙ sym (append_assoc w.0 rest.0 r), omega (arith, dots-append w.0 rest.0, here, rest.2))

-- fixed pieces leave one rest
pub one_rest : (ps : List Piece) (n r u : List ℕ) → list_all is_fixed ps ≡ true → Covers ps n r → Covers ps n u → r ≡ u
one_rest ps n r u f v w = some_same (sym (covers_left_all ps n r f v) ∙ covers_left_all ps n u f w)

-- and one that begins later leaves no more
pub no_more_left : (ps : List Piece) (s t r u : List ℕ) → list_all is_fixed ps ≡ true → EndsWith s t → Covers ps s r → Covers ps t u → EndsWith r u
no_more_left ps s t r u f ends v w =
    elim (cross ps s t r u ends v w) [
      | inl over ↦ over
      | inr again ↦ ([], one_rest ps s r u f v again)
    ]

pub no_dot_back : (f g : List ℕ) → has_no_dot (f ++ g) ≡ true → has_no_dot g ≡ true
no_dot_back [] g h = h
no_dot_back (c ∷ f) g h = no_dot_back f g ((and_parts (not (eqb c 46)) (has_no_dot (f ++ g)) h).1)

pub no_dot_both : (f g : List ℕ) → has_no_dot f ≡ true → has_no_dot g ≡ true → has_no_dot (f ++ g) ≡ true
no_dot_both [] g h k = k
no_dot_both (c ∷ f) g h k =
    let parts = and_parts (not (eqb c 46)) (has_no_dot f) h in
    and_from _ _ parts.0 (no_dot_both f g parts.1 k)

-- what stands between the rests of an earlier and a later try has no dot, if what stands between
-- their starts has none
between : (ps : List Piece) (s t r u g : List ℕ) → list_all is_steady ps ≡ true → list_all is_fixed ps ≡ true → s ≡ g ++ t → has_no_dot g ≡ true → Covers ps s r → Covers ps t u → (z : List ℕ) × (r ≡ z ++ u) × (has_no_dot z ≡ true)
between ps s t r u g st fx e clear v w =
    let over = no_more_left ps s t r u fx (g, e) v w in
    let early = take_dots ps s r st fx v in
    let late = take_dots ps t u st fx w in
    let left : (early.0 ++ over.0) ++ u ≡ (g ++ late.0) ++ u = append_assoc early.0 over.0 u ∙ ap (λ l. early.0 ++ l) (sym over.1) ∙ sym early.1 ∙ e ∙ ap (λ l. g ++ l) late.1 ∙ sym (append_assoc g late.0 u) in
    let same : early.0 ++ over.0 ≡ g ++ late.0 = append_cancel_right (early.0 ++ over.0) (g ++ late.0) u left in
    let count = ap dots same in
    (over.0, over.1, no_dots over.0 (omega (arith, count, dots-append early.0 over.0, dots-append g late.0, dots_none g clear, early.2, late.2)))

-- no dot is passed, and no place where the pieces leave a rest
pub record SlidSoFar (ps : List Piece) (to_end : Bool) (name here : List ℕ) : Type 0 where
  pub past : List ℕ
  pub within : name ≡ past ++ here
  pub clear : has_no_dot past ≡ true
  pub left : (before from other : List ℕ) → name ≡ before ++ from → has_no_dot before ≡ true → Covers ps from other → IsEnd to_end other → EndsWith here from

slid_past : (name past here before from x : List ℕ) → name ≡ past ++ here → name ≡ before ++ from → here ≡ x ++ from → before ≡ past ++ x
slid_past name past here before from x e f g =
    append_cancel_right before (past ++ x) from (sym f ∙ e ∙ ap (λ l. past ++ l) g ∙ sym (append_assoc past x from))

dot_stuck : (c : ℕ) (past x : List ℕ) → c ≡ 46 → has_no_dot (past ++ c ∷ x) ≡ true → ⊥
dot_stuck c past x e h =
    let tail = no_dot_back past (c ∷ x) h in
    let parts = and_parts (not (eqb c 46)) (has_no_dot x) tail in
    false≢true (sym (not-true (eqb c 46) parts.0) ∙ eq-eqb c 46 e)

stuck_at : (ps : List Piece) (to_end : Bool) (name past here behind before from other x : List ℕ) (c : ℕ) → name ≡ past ++ here → here ≡ c ∷ behind → c ≡ 46 → HasNoRest ps to_end here → name ≡ before ++ from → has_no_dot before ≡ true → here ≡ x ++ from → Covers ps from other → IsEnd to_end other → ⊥
stuck_at ps to_end name past here behind before from other [] c e h d none f clear g v stops =
    none other (subst (λ l. Covers ps l other) (sym g) v) stops
stuck_at ps to_end name past here behind before from other (y ∷ x) c e h d none f clear g v stops =
    let heads : c ≡ y = cc (h, g) in
    let front = slid_past name past here before from (y ∷ x) e f g in
    dot_stuck y past x (sym heads ∙ d) (subst (λ l. has_no_dot l ≡ true) front clear)

pub slid_stuck : (ps : List Piece) (to_end : Bool) (name here behind : List ℕ) (c : ℕ) → SlidSoFar ps to_end name here → here ≡ c ∷ behind → c ≡ 46 → HasNoRest ps to_end here → CannotSlide ps to_end name
slid_stuck ps to_end name here behind c w h d none before from other f clear v stops =
    let ends = w.left before from other f clear v stops in
    stuck_at ps to_end name w.past here behind before from other ends.0 c w.within h d none f clear ends.1 v stops

pub slid_on : (ps : List Piece) (to_end : Bool) (name here behind : List ℕ) (c : ℕ) → SlidSoFar ps to_end name here → here ≡ c ∷ behind → (c ≡ 46 → ⊥) → HasNoRest ps to_end here → SlidSoFar ps to_end name behind
slid_on ps to_end name here behind c w h ne none = record {
  past = w.past ++ c ∷ [];
  within = w.within ∙ ap (λ l. w.past ++ l) h ∙ sym (append_assoc w.past (c ∷ []) behind);
  clear = no_dot_both w.past (c ∷ []) w.clear (rw (ne_eqb c 46 ne) refl);
  left = λ before from other f clear v stops.
      ends_next here from behind c (w.left before from other f clear v stops) h (λ same. none other (subst (λ l. Covers ps l other) (sym same) v) stops);
}

-- the first pieces, then after a star
pub begin_star : (ps front back : List Piece) (n r : List ℕ) → ps ≡ front ++ (AnyName ∷ back) → list_all is_fixed front ≡ true → Covers front n r → (u : List ℕ) → Covers ps n u ↔ Covers (AnyName ∷ back) r u
begin_star ps front back n r e f v u = (
  λ w.
      let parts = covers_split front (AnyName ∷ back) n u (subst (λ l. Covers l n u) e w) in
      subst (λ l. Covers (AnyName ∷ back) l u) (one_rest front n parts.0 r f parts.1 v) parts.2,
  λ w. subst (λ l. Covers l n u) (sym e) (covers_append front (AnyName ∷ back) n r u v w),
)

pub begin_none : (ps front back : List Piece) (n : List ℕ) (to_end : Bool) → ps ≡ front ++ (AnyName ∷ back) → HasNoRest front false n → HasNoRest ps to_end n
begin_none ps front back n to_end e none u w stops =
    let parts = covers_split front (AnyName ∷ back) n u (subst (λ l. Covers l n u) e w) in
    none parts.0 parts.1 tt

step_from : (left front back : List Piece) (here rest : List ℕ) → left ≡ front ++ (AnyName ∷ back) → Slides front false here rest → (u : List ℕ) → Covers (AnyName ∷ back) rest u → Covers (AnyName ∷ left) here u
step_from left front back here rest e v u w =
    (v.taken, v.start, v.within, v.no_dot, subst (λ l. Covers l v.start u) (sym e) (covers_append front (AnyName ∷ back) v.start rest u v.covers w))

step_to : (left front back : List Piece) (here rest : List ℕ) → left ≡ front ++ (AnyName ∷ back) → list_all is_steady front ≡ true → list_all is_fixed front ≡ true → Slides front false here rest → (u : List ℕ) → Covers (AnyName ∷ left) here u → Covers (AnyName ∷ back) rest u
step_to left front back here rest e st fx v u w =
    let parts = covers_split front (AnyName ∷ back) w.1 u (subst (λ l. Covers l w.1 u) e w.4) in
    let over = v.first w.0 w.1 parts.0 w.2 w.3 parts.1 tt in
    let before = slid_past here v.taken v.start w.0 w.1 over.0 v.within w.2 over.1 in
    let clear = no_dot_back v.taken over.0 (subst (λ l. has_no_dot l ≡ true) before w.3) in
    let gap = between front v.start w.1 rest parts.0 over.0 st fx over.1 clear v.covers parts.1 in
    (gap.0 ++ parts.2.0, parts.2.1, gap.1 ∙ ap (λ l. gap.0 ++ l) parts.2.2 ∙ sym (append_assoc gap.0 parts.2.0 parts.2.1), no_dot_both gap.0 parts.2.0 gap.2 parts.2.3, parts.2.4)

pub step_star : (left front back : List Piece) (here rest : List ℕ) → left ≡ front ++ (AnyName ∷ back) → list_all is_steady front ≡ true → list_all is_fixed front ≡ true → Slides front false here rest → (u : List ℕ) → Covers (AnyName ∷ left) here u ↔ Covers (AnyName ∷ back) rest u
step_star left front back here rest e st fx v u = (step_to left front back here rest e st fx v u, step_from left front back here rest e v u)

pub step_none : (left front back : List Piece) (here u : List ℕ) → left ≡ front ++ (AnyName ∷ back) → CannotSlide front false here → Covers (AnyName ∷ left) here u → ⊥
step_none left front back here u e none w =
    let parts = covers_split front (AnyName ∷ back) w.1 u (subst (λ l. Covers l w.1 u) e w.4) in
    none w.0 w.1 parts.0 w.2 w.3 parts.1 tt

-- the pieces leave what those after the last star leave
pub record SteadySoFar (ps left : List Piece) (name here : List ℕ) : Type 0 where
  pub steady : list_all is_steady left ≡ true
  pub same : (u : List ℕ) → Covers ps name u ↔ Covers (AnyName ∷ left) here u

pub last_star : (ps left : List Piece) (to_end : Bool) (name here rest : List ℕ) → SteadySoFar ps left name here → list_all is_no_name left ≡ true → Slides left to_end here rest → IsLongestRest ps to_end name rest
last_star ps left to_end name here rest w n v = record {
  covers = (w.same rest).1 (v.taken, v.start, v.within, v.no_dot, v.covers);
  ends = v.ends;
  longest = λ other covered stops.
      let k = (w.same other).0 covered in
      no_more_left left v.start k.1 rest other (all_fixed left w.steady n) (v.first k.0 k.1 other k.2 k.3 k.4 stops) v.covers k.4;
}

pub last_none : (ps left : List Piece) (to_end : Bool) (name here : List ℕ) → SteadySoFar ps left name here → CannotSlide left to_end here → HasNoRest ps to_end name
last_none ps left to_end name here w none other covered stops =
    let k = (w.same other).0 covered in
    none k.0 k.1 other k.2 k.3 k.4 stops

pub steady_none : (ps left front back : List Piece) (to_end : Bool) (name here : List ℕ) → SteadySoFar ps left name here → left ≡ front ++ (AnyName ∷ back) → CannotSlide front false here → HasNoRest ps to_end name
steady_none ps left front back to_end name here w e none other covered stops = step_none left front back here other e none ((w.same other).0 covered)

pub star_begin : (ps : List Piece) (name : List ℕ) → list_all is_steady ps ≡ true → SteadySoFar (AnyName ∷ ps) ps name name
star_begin ps name st = record { steady = st; same = λ u. (λ w. w, λ w. w) }

pub star_requires : (ps front back : List Piece) → list_all is_steady ps ≡ true → ps ≡ front ++ (AnyName ∷ back) → list_all is_steady back ≡ true
star_requires ps front back st e = (steady_split front (AnyName ∷ back) (subst (λ l. list_all is_steady l ≡ true) e st)).1

pub steady_next : (ps left front back : List Piece) (name here rest : List ℕ) → SteadySoFar ps left name here → left ≡ front ++ (AnyName ∷ back) → list_all is_no_name front ≡ true → Slides front false here rest → SteadySoFar ps back name rest
steady_next ps left front back name here rest w e n v =
    let parts = steady_split front (AnyName ∷ back) (subst (λ l. list_all is_steady l ≡ true) e w.steady) in
    let step = step_star left front back here rest e parts.0 (all_fixed front parts.0 n) v in
    record {
      steady = parts.1;
      same = λ u. (λ k. (step u).0 ((w.same u).0 k), λ k. (w.same u).1 ((step u).1 k));
    }

only_fixed : (ps : List Piece) (to_end : Bool) (name rest : List ℕ) → list_all is_fixed ps ≡ true → Covers ps name rest → IsEnd to_end rest → IsLongestRest ps to_end name rest
only_fixed ps to_end name rest fixed v stops = record {
  covers = v;
  ends = stops;
  longest = λ other covered _. ([], one_rest ps name rest other fixed v covered);
}

pub fixed_front : (ps front back : List Piece) → list_all is_steady ps ≡ true → ps ≡ front ++ (AnyName ∷ back) → list_all is_no_name front ≡ true → list_all is_fixed front ≡ true
fixed_front ps front back st e n =
    all_fixed front (steady_split front (AnyName ∷ back) (subst (λ l. list_all is_steady l ≡ true) e st)).0 n

pub told_fixed : {A : Type 0} (view : A → List ℕ) (ps : List Piece) (to_end : Bool) (name : List ℕ) (r : Option A) → list_all is_fixed ps ≡ true → MatchOption r (HasNoRest ps to_end name) (λ x. Covers ps name (view x) × IsEnd to_end (view x)) → MatchOption r (HasNoRest ps to_end name) (λ x. IsLongestRest ps to_end name (view x))
told_fixed view ps to_end name None fixed h = h
told_fixed view ps to_end name (Some x) fixed h = only_fixed ps to_end name (view x) fixed h.0 h.1

pub told_slide : {A : Type 0} (view : A → List ℕ) (ps left : List Piece) (to_end : Bool) (name here : List ℕ) (r : Option A) → SteadySoFar ps left name here → list_all is_no_name left ≡ true → MatchOption r (CannotSlide left to_end here) (λ x. Slides left to_end here (view x)) → MatchOption r (HasNoRest ps to_end name) (λ x. IsLongestRest ps to_end name (view x))
told_slide view ps left to_end name here None w n h = last_none ps left to_end name here w h
told_slide view ps left to_end name here (Some x) w n h = last_star ps left to_end name here (view x) w n h

-- the longest rest after the first star
pub told_star : {A : Type 0} (view : A → List ℕ) (ps front back : List Piece) (to_end : Bool) (name here : List ℕ) (r : Option A) → list_all is_fixed front ≡ true → ps ≡ front ++ (AnyName ∷ back) → Covers front name here → MatchOption r (HasNoRest (AnyName ∷ back) to_end here) (λ x. IsLongestRest (AnyName ∷ back) to_end here (view x)) → MatchOption r (HasNoRest ps to_end name) (λ x. IsLongestRest ps to_end name (view x))
told_star view ps front back to_end name here None fixed e v h = λ other covered stops.
    h other ((begin_star ps front back name here e fixed v other).0 covered) stops
told_star view ps front back to_end name here (Some x) fixed e v h =
    let same : (u : List ℕ) → Covers ps name u ↔ Covers (AnyName ∷ back) here u = begin_star ps front back name here e fixed v in
    record {
      covers = (same (view x)).1 h.covers;
      ends = h.ends;
      longest = λ other covered stops. h.longest other ((same other).0 covered) stops;
    }

-- what is passed has no dot
abbrev pub PastNoDot : List ℕ → List ℕ → Type 0
PastNoDot name here = (front : List ℕ) × (name ≡ front ++ here) × (has_no_dot front ≡ true)

pub past_next : (name here behind : List ℕ) (c : ℕ) → PastNoDot name here → here ≡ c ∷ behind → (c ≡ 46 → ⊥) → PastNoDot name behind
past_next name here behind c w h ne = (
  w.0 ++ c ∷ [],
  w.1 ∙ ap (λ l. w.0 ++ l) h ∙ sym (append_assoc w.0 (c ∷ []) behind),
  no_dot_both w.0 (c ∷ []) w.2 (rw (ne_eqb c 46 ne) refl),
)

-- what stands before the first dot
dot_first : (front behind x from z : List ℕ) → x ≡ front ++ z → 46 ∷ behind ≡ z ++ from → has_no_dot front ≡ true → (has_no_dot x ≡ true → ⊥) → EndsWith behind from
dot_first front behind x from [] e f clear apart =
    absurd (apart (subst (λ l. has_no_dot l ≡ true) (sym (e ∙ append-nil front)) clear))
dot_first front behind x from (c ∷ z) e f clear apart = (z, cc)

dot_gone : (front behind x from : List ℕ) → front ++ (46 ∷ behind) ≡ x ++ from → has_no_dot front ≡ true → (has_no_dot x ≡ true → ⊥) → EndsWith behind from
dot_gone front behind x from e clear apart =
    elim (cuts front (46 ∷ behind) x from e) [
      | inl w ↦ dot_first front behind x from w.0 w.1 w.2 clear apart
      | inr w ↦ absurd (apart (no_dot_front x w.0 (subst (λ l. has_no_dot l ≡ true) w.1 clear)))
    ]

-- no start is passed from which the pieces leave a rest
abbrev pub StartsFrom : List Piece → Bool → List ℕ → List ℕ → Type 0
StartsFrom ps to_end name here =
    EndsWith name here × ((from other : List ℕ) → EndsWith name from → Covers ps from other → IsEnd to_end other → EndsWith here from)

pub starts_next : (ps : List Piece) (to_end : Bool) (name here behind : List ℕ) → StartsFrom ps to_end name here → HasNoRest (AnyName ∷ ps) to_end here → IsPastDot here behind → StartsFrom ps to_end name behind
starts_next ps to_end name here behind w none past = (
  ends_trans name here behind w.0 (past.0 ++ 46 ∷ [], past.1 ∙ sym (append_assoc past.0 (46 ∷ []) behind)),
  λ from other ends v stops.
      let over = w.1 from other ends v stops in
      dot_gone past.0 behind over.0 from (sym past.1 ∙ over.1) past.2 (λ clear. none other (over.0, from, over.1, clear, v) stops),
)

pub starts_none : (ps : List Piece) (to_end : Bool) (name here : List ℕ) → StartsFrom ps to_end name here → HasNoRest (AnyName ∷ ps) to_end here → has_no_dot here ≡ true → HasNoRestAnywhere ps to_end name
starts_none ps to_end name here w none clear from other ends v stops =
    let over = w.1 from other ends v stops in
    none other (over.0, from, over.1, no_dot_front over.0 from (subst (λ l. has_no_dot l ≡ true) over.1 clear), v) stops

longest_over : (ps : List Piece) (to_end : Bool) (here rest from other : List ℕ) → IsLongestRest (AnyName ∷ ps) to_end here rest → EndsWith here from → Covers ps from other → IsEnd to_end other → EndsWith rest other
longest_over ps to_end here rest from other found over v stops =
    let k = found.covers in
    elim (cuts k.0 k.1 over.0 from (sym k.2 ∙ over.1)) [
      | inl w ↦
          elim (cross ps k.1 from rest other (w.0, w.2) k.4 v) [
            | inl ends ↦ ends
            | inr again ↦ found.longest other (k.0, k.1, k.2, k.3, again) stops
          ]
      | inr w ↦ found.longest other (over.0, from, over.1, no_dot_front over.0 w.0 (subst (λ l. has_no_dot l ≡ true) w.1 k.3), v) stops
    ]

pub starts_found : (ps : List Piece) (to_end : Bool) (name here rest : List ℕ) → StartsFrom ps to_end name here → IsLongestRest (AnyName ∷ ps) to_end here rest → IsLongestAnywhere ps to_end name rest
starts_found ps to_end name here rest w found = record {
  start = found.covers.1;
  within = ends_trans name here found.covers.1 w.0 (found.covers.0, found.covers.2);
  covers = found.covers.4;
  ends = found.ends;
  longest = λ from other ends v stops. longest_over ps to_end here rest from other found (w.1 from other ends v stops) v stops;
}
