-- The places of the stars: no place is passed at which the pieces could leave what they have to.
use Rattle.std.proofs.Common.{◌≡◌, ◌≢◌, ℕ, zero, suc, ◌+◌, ◌-◌, ◌*◌, ◌/◌, ◌<◌, ◌≤◌, inl, inr, Bool, true, false, eqb, List, [], ◌∷◌, ◌++◌, length, get_or, set, replicate, Bor, le_of_suc-le-suc, eq-or-lt_of_le, lt_irrefl, lt_of_mul-lt-mul_right, suc-mul, length-set, length-append, append_assoc, refl, sym, ap, subst, ◌∙◌, arith}
use Rattle.std.specs.Str.{chars}
use Rattle.std.specs.List.{list_all}
use Rattle.std.proofs.lemmas.Bool.{cases_Bool, cases_lt, false≢true, eqb-true, eqb-false, ne_eqb}
use Rattle.std.proofs.lemmas.List.{length-replicate}
use Rattle.ini_pattern.specs.declared.piece.Piece.{Piece}
use Rattle.ini_pattern.specs.declared.piece.Piece.TheVariants.{AnyPath, AnyName}
use Rattle.ini_pattern.specs.Matches.{Covers}
use Rattle.ini_pattern.specs.Reading.{EndsWith}
use Rattle.ini_pattern.specs.Places.{opening, stars, is_no_path, to_star, after_star, MayBeLeft, IsLongestWithin, HasNoneWithin, IsFloor, IsStuck, IsLastBlock, IsNextBlock}
use Rattle.ini_pattern.proofs.CoverLemmas.{covers_append, covers_split, covers_end, ends_next, ends_none, ends_trans}
use Rattle.ini_pattern.proofs.SteadyLemmas.{no_dot_both}
use Rattle.ini_pattern.proofs.PlaceLemmas.{within_ends, star_whole, star_parts, stars_append, paths_after, floor_ends, floor_met, longest_later}

-- texts and pieces in a table
abbrev pub text_at : List (Bor (List ℕ)) → ℕ → List ℕ
text_at [] i = []
text_at (x ∷ xs) zero = chars x.now
text_at (x ∷ xs) (suc i) = text_at xs i

abbrev pub pieces_at : List (Bor (List Piece)) → ℕ → List Piece
pieces_at [] i = []
pieces_at (x ∷ xs) zero = x.now
pieces_at (x ∷ xs) (suc i) = pieces_at xs i

pub text_is : (xs : List (Bor (List ℕ))) (i : ℕ) (d : Bor (List ℕ)) → i < length xs → chars (get_or xs i d).now ≡ text_at xs i
text_is [] i d h = absurd (omega (arith, h))
text_is (x ∷ xs) zero d h = refl
text_is (x ∷ xs) (suc i) d h = text_is xs i d (le_of_suc-le-suc h)

pub pieces_is : (xs : List (Bor (List Piece))) (i : ℕ) (d : Bor (List Piece)) → i < length xs → (get_or xs i d).now ≡ pieces_at xs i
pieces_is [] i d h = absurd (omega (arith, h))
pieces_is (x ∷ xs) zero d h = refl
pieces_is (x ∷ xs) (suc i) d h = pieces_is xs i d (le_of_suc-le-suc h)

text_set : (xs : List (Bor (List ℕ))) (i : ℕ) (v : Bor (List ℕ)) → i < length xs → text_at (set xs i v) i ≡ chars v.now
text_set [] i v h = absurd (omega (arith, h))
text_set (x ∷ xs) zero v h = refl
text_set (x ∷ xs) (suc i) v h = text_set xs i v (le_of_suc-le-suc h)

text_kept : (xs : List (Bor (List ℕ))) (i j : ℕ) (v : Bor (List ℕ)) → j ≢ i → text_at (set xs i v) j ≡ text_at xs j
text_kept [] i j v h = refl
text_kept (x ∷ xs) zero zero v h = absurd (h refl)
text_kept (x ∷ xs) zero (suc j) v h = refl
text_kept (x ∷ xs) (suc i) zero v h = refl
text_kept (x ∷ xs) (suc i) (suc j) v h = text_kept xs i j v (λ e. h (ap suc e))

pieces_set : (xs : List (Bor (List Piece))) (i : ℕ) (v : Bor (List Piece)) → i < length xs → pieces_at (set xs i v) i ≡ v.now
pieces_set [] i v h = absurd (omega (arith, h))
pieces_set (x ∷ xs) zero v h = refl
pieces_set (x ∷ xs) (suc i) v h = pieces_set xs i v (le_of_suc-le-suc h)

pieces_kept : (xs : List (Bor (List Piece))) (i j : ℕ) (v : Bor (List Piece)) → j ≢ i → pieces_at (set xs i v) j ≡ pieces_at xs j
pieces_kept [] i j v h = refl
pieces_kept (x ∷ xs) zero zero v h = absurd (h refl)
pieces_kept (x ∷ xs) zero (suc j) v h = refl
pieces_kept (x ∷ xs) (suc i) zero v h = refl
pieces_kept (x ∷ xs) (suc i) (suc j) v h = pieces_kept xs i j v (λ e. h (ap suc e))

text_same : (n j : ℕ) (v : Bor (List ℕ)) → j < n → text_at (replicate n v) j ≡ chars v.now
text_same zero j v h = absurd (omega (arith, h))
text_same (suc n) zero v h = refl
text_same (suc n) (suc j) v h = text_same n j v (le_of_suc-le-suc h)

-- how much is left of all texts
abbrev pub total : List (Bor (List ℕ)) → ℕ
total [] = 0
total (x ∷ xs) = length (chars x.now) + total xs

pub total_set : (xs : List (Bor (List ℕ))) (i : ℕ) (v : Bor (List ℕ)) → i < length xs → total (set xs i v) + length (text_at xs i) ≡ total xs + length (chars v.now)
total_set [] i v h = absurd (omega (arith, h))
total_set (x ∷ xs) zero v h = omega arith
total_set (x ∷ xs) (suc i) v h = omega (arith, total_set xs i v (le_of_suc-le-suc h))

-- the pieces after a star, and where it can be
abbrev pub behind : ℕ → ℕ → List Piece → List Piece
behind n zero ps = ps
behind n (suc j) ps = after_star n (behind n j ps)

abbrev pub Reach : ℕ → Bool → List Piece → List ℕ → ℕ → List ℕ → Type 0
Reach n anywhere ps name zero t = Covers (opening anywhere) name t
Reach n anywhere ps name (suc j) t =
    (s : List ℕ) × Reach n anywhere ps name j s × Covers (to_star n (behind n j ps)) s t

pub paths_behind : (n j : ℕ) (ps : List Piece) → list_all is_no_path ps ≡ true → list_all is_no_path (behind n j ps) ≡ true
paths_behind n zero ps h = h
paths_behind n (suc j) ps h = paths_after n (behind n j ps) (paths_behind n j ps h)

reach_end : (n : ℕ) (anywhere : Bool) (ps : List Piece) (name : List ℕ) (j : ℕ) (t : List ℕ) → Reach n anywhere ps name j t → EndsWith name t
reach_end n anywhere ps name zero t w = covers_end (opening anywhere) name t w
reach_end n anywhere ps name (suc j) t w =
    ends_trans name w.0 t (reach_end n anywhere ps name j w.0 w.1) (covers_end (to_star n (behind n j ps)) w.0 t w.2)

-- what the pieces up to a star and those after it take
step_joins : (n : ℕ) (l : List Piece) (s t u : List ℕ) → Covers (to_star n l) s t → Covers (after_star n l) t u → Covers l s u
step_joins n l s t u v w =
    subst (λ k. Covers k s u) (star_whole n l) (covers_append (to_star n l) (after_star n l) s t u v w)

step_parts : (n : ℕ) (l : List Piece) (s u : List ℕ) → Covers l s u → (t : List ℕ) × Covers (to_star n l) s t × Covers (after_star n l) t u
step_parts n l s u v =
    covers_split (to_star n l) (after_star n l) s u (subst (λ k. Covers k s u) (sym (star_whole n l)) v)

reach_joins : (n : ℕ) (anywhere : Bool) (ps : List Piece) (name : List ℕ) (j : ℕ) (t u : List ℕ) → Reach n anywhere ps name j t → Covers (behind n j ps) t u → Covers (opening anywhere ++ ps) name u
reach_joins n anywhere ps name zero t u w v = covers_append (opening anywhere) ps name t u w v
reach_joins n anywhere ps name (suc j) t u w v =
    reach_joins n anywhere ps name j w.0 u w.1 (step_joins n (behind n j ps) w.0 t u w.2 v)

reach_parts : (n : ℕ) (anywhere : Bool) (ps : List Piece) (name : List ℕ) (j : ℕ) (u : List ℕ) → Covers (opening anywhere ++ ps) name u → (t : List ℕ) × Reach n anywhere ps name j t × Covers (behind n j ps) t u
reach_parts n anywhere ps name zero u w =
    let parts = covers_split (opening anywhere) ps name u w in
    (parts.0, parts.1, parts.2)
reach_parts n anywhere ps name (suc j) u w =
    let before = reach_parts n anywhere ps name j u w in
    let parts = step_parts n (behind n j ps) before.0 u before.2 in
    (parts.0, (before.0, before.1, parts.1), parts.2)

-- the places of the stars: each up to the last is reached, and none is passed
pub record Placed (n : ℕ) (anywhere : Bool) (ps : List Piece) (to_end : Bool) (floor name : List ℕ) (texts : List (Bor (List ℕ))) (lefts : List (Bor (List Piece))) (at : ℕ) : Type 0 where
  pub room : length texts ≡ 65
  pub room' : length lefts ≡ 65
  pub few : at < 64
  pub used : stars (behind n at ps) + at * n ≡ stars ps
  pub place : (j : ℕ) → j ≤ at → Reach n anywhere ps name j (text_at texts j)
  pub left : (j : ℕ) → j ≤ at → pieces_at lefts j ≡ behind n j ps
  pub before : (j : ℕ) → j < at → (front : List Piece) × (to_star n (behind n j ps) ≡ front ++ (AnyName ∷ [])) × (stars (behind n j ps) + j * n ≡ stars ps)
  pub low : (j : ℕ) (t u : List ℕ) → j < 65 → Reach n anywhere ps name j t → Covers (behind n j ps) t u → MayBeLeft to_end floor u → EndsWith (text_at texts j) t
  pub under : (j : ℕ) → at < j → j < 65 → IsFloor name (text_at texts j)

zero_only : (j : ℕ) → j ≤ 0 → j ≡ 0
zero_only j h = omega (arith, h)

opening_here : (anywhere : Bool) (name : List ℕ) → Covers (opening anywhere) name name
opening_here true name = ([], name, refl, tt, refl)
opening_here false name = refl

pub placed_begin : (n : ℕ) (anywhere : Bool) (ps : List Piece) (to_end : Bool) (floor : List ℕ) (name : Bor (List ℕ)) (pieces : Bor (List Piece)) → pieces.now ≡ ps → Placed n anywhere ps to_end floor (chars name.now) (replicate 65 name) (replicate 65 pieces) 0
placed_begin n anywhere ps to_end floor name pieces e = record {
  room = length-replicate 65 name;
  room' = length-replicate 65 pieces;
  few = omega arith;
  used = omega arith;
  place = λ j h. rw (zero_only j h) (opening_here anywhere (chars name.now));
  left = λ j h. rw (zero_only j h) e;
  before = λ j h. absurd (omega (arith, h));
  low = λ j t u h w v may. subst (λ l. EndsWith l t) (sym (text_same 65 j name h)) (reach_end n anywhere ps (chars name.now) j t w);
  under = λ j h k. inl (sym (text_same 65 j name k));
}

-- the last pieces leave a rest
pub placed_found : (n : ℕ) (anywhere : Bool) (ps : List Piece) (to_end : Bool) (floor name : List ℕ) (texts : List (Bor (List ℕ))) (lefts : List (Bor (List Piece))) (at : ℕ) (rest : List ℕ) → Placed n anywhere ps to_end floor name texts lefts at → IsLastBlock n (pieces_at lefts at) to_end (text_at texts at) floor rest → IsLongestWithin (opening anywhere ++ ps) to_end floor name rest
placed_found n anywhere ps to_end floor name texts lefts at rest w block =
    let same = w.left at (omega arith) in
    let found = subst (λ l. IsLongestWithin l to_end floor (text_at texts at) rest) same block.found in
    record {
      covers = reach_joins n anywhere ps name at (text_at texts at) rest (w.place at (omega arith)) found.covers;
      may = found.may;
      longest = λ other v may.
          let parts = reach_parts n anywhere ps name at other v in
          longest_later (behind n at ps) to_end floor (text_at texts at) parts.0 rest other found (w.low at parts.0 other (omega (arith, w.few)) parts.1 parts.2 may) parts.2 may;
    }

-- the pieces up to the next star leave a rest: that star is placed there
pub record NextFrom (n : ℕ) (anywhere : Bool) (ps : List Piece) (to_end : Bool) (floor name : List ℕ) (at : ℕ) (front back : List Piece) (here next rest : List ℕ) : Type 0 where
  pub count : stars front + 1 ≡ n
  pub parts : behind n at ps ≡ front ++ (AnyName ∷ back)
  pub found : IsLongestWithin front false next here rest
  pub low : (s u : List ℕ) → Reach n anywhere ps name at s → Covers (behind n at ps) s u → MayBeLeft to_end floor u → EndsWith here s
  pub low' : (t u : List ℕ) → Reach n anywhere ps name (suc at) t → Covers (behind n (suc at) ps) t u → MayBeLeft to_end floor u → EndsWith next t
  pub under : IsFloor name next

next_low : (n : ℕ) (anywhere : Bool) (ps : List Piece) (to_end : Bool) (floor name : List ℕ) (at : ℕ) (front back : List Piece) (here next rest : List ℕ) → NextFrom n anywhere ps to_end floor name at front back here next rest → (t u : List ℕ) → Reach n anywhere ps name (suc at) t → Covers (behind n (suc at) ps) t u → MayBeLeft to_end floor u → EndsWith rest t
next_low n anywhere ps to_end floor name at front back here next rest k t u w v may =
    let over = k.low w.0 u w.1 (step_joins n (behind n at ps) w.0 t u w.2 v) may in
    let over' = k.low' t u w v may in
    let parts = covers_split front (AnyName ∷ []) w.0 t (subst (λ l. Covers l w.0 t) (ap (to_star n) k.parts ∙ (star_parts n front back k.count).0) w.2) in
    let ends = ends_trans name w.0 parts.0 (reach_end n anywhere ps name at w.0 w.1) (covers_end front w.0 parts.0 parts.1) in
    let met = floor_met name next parts.0 t ends k.under parts.2 over' in
    ends_trans rest parts.0 t (longest_later front false next here w.0 rest parts.0 k.found over parts.1 (tt, met)) (covers_end (AnyName ∷ []) parts.0 t parts.2)

star_nothing_taken : (name : List ℕ) → Covers (AnyName ∷ []) name name
star_nothing_taken name = ([], name, refl, refl, refl)

next_place : (n : ℕ) (anywhere : Bool) (ps : List Piece) (to_end : Bool) (floor name : List ℕ) (at : ℕ) (front back : List Piece) (here next rest : List ℕ) → NextFrom n anywhere ps to_end floor name at front back here next rest → Reach n anywhere ps name at here → Reach n anywhere ps name (suc at) rest
next_place n anywhere ps to_end floor name at front back here next rest k w =
    (here, w, subst (λ l. Covers l here rest) (sym (ap (to_star n) k.parts ∙ (star_parts n front back k.count).0)) (covers_append front (AnyName ∷ []) here rest rest k.found.covers (star_nothing_taken rest)))

split_at : (P : ℕ → Type 0) (at j : ℕ) → (j ≡ at → P j) → (j ≢ at → P j) → P j
split_at P at j same apart =
    elim (cases_Bool (eqb j at)) [
      | inl t ↦ same (eqb-true j at t)
      | inr f ↦ apart (eqb-false j at f)
    ]

below_next : (j at : ℕ) → j ≤ at + 1 → j ≢ at + 1 → j ≤ at
below_next j at h ne =
    elim (eq-or-lt_of_le h) [
      | inl e ↦ absurd (ne e)
      | inr lt ↦ omega (arith, lt)
    ]

-- with each star that is placed so many are used
pub wide : (s n : ℕ) → n ≡ s / 64 + 1 → s < 64 * n
wide s n e = omega (arith, e)

used_next : (n : ℕ) (ps : List Piece) (at : ℕ) (front back : List Piece) → stars front + 1 ≡ n → behind n at ps ≡ front ++ (AnyName ∷ back) → stars (behind n at ps) + at * n ≡ stars ps → stars back + (suc at) * n ≡ stars ps
used_next n ps at front back count parts used =
    omega (arith, count, ap stars parts, stars_append front (AnyName ∷ back), used, suc-mul at n)

few_next : (n s left at : ℕ) → s < 64 * n → left + at * n ≡ s → at < 64
few_next n s left at h used = lt_of_mul-lt-mul_right n (omega (arith, h, used))

below_at : (j at : ℕ) → j < at + 1 → j ≢ at → j < at
below_at j at h ne =
    elim (cases_lt j at) [
      | inl lt ↦ lt
      | inr le ↦ absurd (ne (omega (arith, h, le)))
    ]

pub placed_next : (n : ℕ) (anywhere : Bool) (ps : List Piece) (to_end : Bool) (floor name : List ℕ) (texts : List (Bor (List ℕ))) (lefts : List (Bor (List Piece))) (at : ℕ) (rest : Bor (List ℕ)) (back : Bor (List Piece)) → stars ps < 64 * n → Placed n anywhere ps to_end floor name texts lefts at → IsNextBlock n (pieces_at lefts at) (text_at texts at) (text_at texts (at + 1)) (chars rest.now) back.now → Placed n anywhere ps to_end floor name (set texts (at + 1) rest) (set lefts (at + 1) back) (at + 1)
placed_next n anywhere ps to_end floor name texts lefts at rest back large w block =
    let room : at + 1 < 65 = omega (arith, w.few) in
    let next : at + 1 ≡ suc at = omega arith in
    let same = w.left at (omega arith) in
    let parts : behind n at ps ≡ block.front ++ (AnyName ∷ back.now) = sym same ∙ block.parts in
    let k : NextFrom n anywhere ps to_end floor name at block.front back.now (text_at texts at) (text_at texts (at + 1)) (chars rest.now) = record {
      count = block.count;
      parts = parts;
      found = block.found;
      low = λ s u a b c. w.low at s u (omega (arith, room)) a b c;
      low' = λ t u a b c. w.low (at + 1) t u room (subst (λ i. Reach n anywhere ps name i t) (sym next) a) (subst (λ i. Covers (behind n i ps) t u) (sym next) b) c;
      under = w.under (at + 1) (omega arith) room;
    } in
    let texts' = set texts (at + 1) rest in
    let placed : text_at texts' (at + 1) ≡ chars rest.now = text_set texts (at + 1) rest (omega (arith, room, w.room)) in
    let reached : Reach n anywhere ps name (at + 1) (chars rest.now) =
    subst (λ i. Reach n anywhere ps name i (chars rest.now)) (sym next) (next_place n anywhere ps to_end floor name at block.front back.now (text_at texts at) (text_at texts (at + 1)) (chars rest.now) k (w.place at (omega arith))) in
    let behind_next : behind n (at + 1) ps ≡ back.now = ap (λ i. behind n i ps) next ∙ ap (after_star n) parts ∙ (star_parts n block.front back.now block.count).1 in
    let used : stars (behind n (at + 1) ps) + (at + 1) * n ≡ stars ps = subst (λ i. stars (behind n (at + 1) ps) + i * n ≡ stars ps) (sym next) (ap (λ l. stars l + (suc at) * n) behind_next ∙ used_next n ps at block.front back.now block.count parts w.used) in
    record {
      room = length-set texts (at + 1) rest ∙ w.room;
      room' = length-set lefts (at + 1) back ∙ w.room';
      few = few_next n (stars ps) (stars (behind n (at + 1) ps)) (at + 1) large used;
      used = used;
      place = λ j h. split_at (λ i. Reach n anywhere ps name i (text_at texts' i)) (at + 1) j
          (λ e. subst (λ i. Reach n anywhere ps name i (text_at texts' i)) (sym e) (subst (λ l. Reach n anywhere ps name (at + 1) l) (sym placed) reached))
          (λ ne. subst (λ l. Reach n anywhere ps name j l) (sym (text_kept texts (at + 1) j rest ne)) (w.place j (below_next j at h ne)));
      left = λ j h. split_at (λ i. pieces_at (set lefts (at + 1) back) i ≡ behind n i ps) (at + 1) j
          (λ e. subst (λ i. pieces_at (set lefts (at + 1) back) i ≡ behind n i ps) (sym e) (pieces_set lefts (at + 1) back (omega (arith, room, w.room')) ∙ sym behind_next))
          (λ ne. pieces_kept lefts (at + 1) j back ne ∙ w.left j (below_next j at h ne));
      before = λ j h. split_at (λ i. (front : List Piece) × (to_star n (behind n i ps) ≡ front ++ (AnyName ∷ [])) × (stars (behind n i ps) + i * n ≡ stars ps)) at j
          (λ e. subst (λ i. (front : List Piece) × (to_star n (behind n i ps) ≡ front ++ (AnyName ∷ [])) × (stars (behind n i ps) + i * n ≡ stars ps)) (sym e) (block.front, ap (to_star n) parts ∙ (star_parts n block.front back.now block.count).0, w.used))
          (λ ne. w.before j (below_at j at h ne));
      low = λ j t u h v covers may. split_at (λ i. Reach n anywhere ps name i t → Covers (behind n i ps) t u → EndsWith (text_at texts' i) t) (at + 1) j
          (λ e. subst (λ i. Reach n anywhere ps name i t → Covers (behind n i ps) t u → EndsWith (text_at texts' i) t) (sym e) (λ v covers. subst (λ l. EndsWith l t) (sym placed) (next_low n anywhere ps to_end floor name at block.front back.now (text_at texts at) (text_at texts (at + 1)) (chars rest.now) k t u (subst (λ i. Reach n anywhere ps name i t) next v) (subst (λ i. Covers (behind n i ps) t u) next covers) may)))
          (λ ne v covers. subst (λ l. EndsWith l t) (sym (text_kept texts (at + 1) j rest ne)) (w.low j t u h v covers may)) v covers;
      under = λ j h i. subst (λ l. IsFloor name l) (sym (text_kept texts (at + 1) j rest (λ e. lt_irrefl j (subst (λ m. m < j) (sym e) h)))) (w.under j (omega (arith, h)) i);
    }

-- nothing that the pieces could leave begins at a place where they are stuck
unplaced : (n : ℕ) (anywhere : Bool) (ps : List Piece) (to_end : Bool) (floor name : List ℕ) (texts : List (Bor (List ℕ))) (lefts : List (Bor (List Piece))) (at : ℕ) → Placed n anywhere ps to_end floor name texts lefts at → IsStuck n (pieces_at lefts at) to_end (text_at texts at) (text_at texts (at + 1)) floor → (s u : List ℕ) → Reach n anywhere ps name at s → Covers (behind n at ps) s u → MayBeLeft to_end floor u → text_at texts at ≡ s → ⊥
unplaced n anywhere ps to_end floor name texts lefts at w stuck s u reached covers may e =
    let same = w.left at (omega arith) in
    let next : at + 1 ≡ suc at = omega arith in
    let room : at + 1 < 65 = omega (arith, w.few) in
    let parts = step_parts n (behind n at ps) s u covers in
    stuck name parts.0 u
    (reach_end n anywhere ps name at (text_at texts at) (w.place at (omega arith)))
    (w.under (at + 1) (omega arith) room)
    (subst (λ l. Covers (to_star n (pieces_at lefts at)) l parts.0) (sym e) (subst (λ l. Covers (to_star n l) s parts.0) (sym same) parts.1))
    (subst (λ l. Covers (after_star n l) parts.0 u) (sym same) parts.2)
    may
    (w.low (at + 1) parts.0 u room (subst (λ i. Reach n anywhere ps name i parts.0) (sym next) (s, reached, parts.1)) (subst (λ i. Covers (behind n i ps) parts.0 u) (sym next) parts.2) may)

pub placed_none : (n : ℕ) (anywhere : Bool) (ps : List Piece) (to_end : Bool) (floor name : List ℕ) (texts : List (Bor (List ℕ))) (lefts : List (Bor (List Piece))) (at : ℕ) → Placed n anywhere ps to_end floor name texts lefts at → IsStuck n (pieces_at lefts at) to_end (text_at texts at) (text_at texts (at + 1)) floor → text_at texts at ≡ [] → HasNoneWithin (opening anywhere ++ ps) to_end floor name
placed_none n anywhere ps to_end floor name texts lefts at w stuck e u v may =
    let parts = reach_parts n anywhere ps name at u v in
    let ends = w.low at parts.0 u (omega (arith, w.few)) parts.1 parts.2 may in
    unplaced n anywhere ps to_end floor name texts lefts at w stuck parts.0 u parts.1 parts.2 may (ends_none (text_at texts at) parts.0 ends e)

passed_low : (n : ℕ) (anywhere : Bool) (ps : List Piece) (to_end : Bool) (floor name : List ℕ) (texts : List (Bor (List ℕ))) (lefts : List (Bor (List Piece))) (at : ℕ) (c : ℕ) (more : List ℕ) → Placed n anywhere ps to_end floor name texts lefts at → IsStuck n (pieces_at lefts at) to_end (text_at texts at) (text_at texts (at + 1)) floor → text_at texts at ≡ c ∷ more → (t u : List ℕ) → Reach n anywhere ps name at t → Covers (behind n at ps) t u → MayBeLeft to_end floor u → EndsWith more t
passed_low n anywhere ps to_end floor name texts lefts at c more w stuck e t u reached covers may =
    ends_next (text_at texts at) t more c (w.low at t u (omega (arith, w.few)) reached covers may) e (unplaced n anywhere ps to_end floor name texts lefts at w stuck t u reached covers may)

moved_low : (n : ℕ) (anywhere : Bool) (ps : List Piece) (to_end : Bool) (floor name : List ℕ) (texts : List (Bor (List ℕ))) (lefts : List (Bor (List Piece))) (at : ℕ) (c : ℕ) (more : Bor (List ℕ)) → Placed n anywhere ps to_end floor name texts lefts at → IsStuck n (pieces_at lefts at) to_end (text_at texts at) (text_at texts (at + 1)) floor → text_at texts at ≡ c ∷ chars more.now → (j : ℕ) (t u : List ℕ) → j < 65 → Reach n anywhere ps name j t → Covers (behind n j ps) t u → MayBeLeft to_end floor u → EndsWith (text_at (set texts at more) j) t
moved_low n anywhere ps to_end floor name texts lefts at c more w stuck e j t u room reached covers may =
    split_at (λ i. Reach n anywhere ps name i t → Covers (behind n i ps) t u → EndsWith (text_at (set texts at more) i) t) at j
    (λ same. subst (λ i. Reach n anywhere ps name i t → Covers (behind n i ps) t u → EndsWith (text_at (set texts at more) i) t) (sym same)
    (λ reached covers. subst (λ l. EndsWith l t) (sym (text_set texts at more (omega (arith, w.few, w.room)))) (passed_low n anywhere ps to_end floor name texts lefts at c (chars more.now) w stuck e t u reached covers may)))
    (λ ne reached covers. subst (λ l. EndsWith l t) (sym (text_kept texts at j more ne)) (w.low j t u room reached covers may))
    reached covers

-- a star takes one more character
path_more : (c : ℕ) (name b : List ℕ) → Covers (AnyPath ∷ []) name (c ∷ b) → Covers (AnyPath ∷ []) name b
path_more c name b w = (w.0 ++ c ∷ [], b, w.2 ∙ ap (λ l. w.0 ++ l) w.4 ∙ sym (append_assoc w.0 (c ∷ []) b), tt, refl)

name_more : (c : ℕ) (name b : List ℕ) → Covers (AnyName ∷ []) name (c ∷ b) → c ≢ 46 → Covers (AnyName ∷ []) name b
name_more c name b w ne =
    (w.0 ++ c ∷ [], b, w.2 ∙ ap (λ l. w.0 ++ l) w.4 ∙ sym (append_assoc w.0 (c ∷ []) b), no_dot_both w.0 (c ∷ []) w.3 (rw (ne_eqb c 46 ne) refl), refl)

front_more : (front l : List Piece) (s b : List ℕ) (c : ℕ) → l ≡ front ++ (AnyName ∷ []) → c ≢ 46 → Covers l s (c ∷ b) → Covers l s b
front_more front l s b c e ne v =
    let parts = covers_split front (AnyName ∷ []) s (c ∷ b) (subst (λ k. Covers k s (c ∷ b)) e v) in
    subst (λ k. Covers k s b) (sym e) (covers_append front (AnyName ∷ []) s parts.0 b parts.1 (name_more c parts.0 b parts.2 ne))

opening_more : (anywhere : Bool) (c : ℕ) (name b : List ℕ) → anywhere ≡ true → Covers (opening anywhere) name (c ∷ b) → Covers (opening anywhere) name b
opening_more true c name b h w = path_more c name b w
opening_more false c name b h w = absurd (false≢true h)

reach_more : (n : ℕ) (anywhere : Bool) (ps : List Piece) (name : List ℕ) (at c : ℕ) (b : List ℕ) → ((j : ℕ) → j < at → (front : List Piece) × (to_star n (behind n j ps) ≡ front ++ (AnyName ∷ [])) × (stars (behind n j ps) + j * n ≡ stars ps)) → Reach n anywhere ps name at (c ∷ b) → (at ≡ 0 → anywhere ≡ true) → (0 < at → c ≢ 46) → Reach n anywhere ps name at b
reach_more n anywhere ps name zero c b before w open_way ne = opening_more anywhere c name b (open_way refl) w
reach_more n anywhere ps name (suc j) c b before w open_way ne =
    let k = before j (omega arith) in
    (w.0, w.1, front_more k.0 (to_star n (behind n j ps)) w.0 b c k.1 (ne (omega arith)) w.2)

-- the place moves on after a character
pub placed_on : (n : ℕ) (anywhere : Bool) (ps : List Piece) (to_end : Bool) (floor name : List ℕ) (texts : List (Bor (List ℕ))) (lefts : List (Bor (List Piece))) (at : ℕ) (c : ℕ) (more : Bor (List ℕ)) → Placed n anywhere ps to_end floor name texts lefts at → IsStuck n (pieces_at lefts at) to_end (text_at texts at) (text_at texts (at + 1)) floor → text_at texts at ≡ c ∷ chars more.now → (at ≡ 0 → anywhere ≡ true) → (0 < at → c ≢ 46) → Placed n anywhere ps to_end floor name (set texts at more) lefts at
placed_on n anywhere ps to_end floor name texts lefts at c more w stuck e open_way ne =
    let inside : at < length texts = omega (arith, w.few, w.room) in
    let reached = reach_more n anywhere ps name at c (chars more.now) w.before (subst (λ l. Reach n anywhere ps name at l) e (w.place at (omega arith))) open_way ne in
    record {
      room = length-set texts at more ∙ w.room;
      room' = w.room';
      few = w.few;
      used = w.used;
      place = λ j h. split_at (λ i. Reach n anywhere ps name i (text_at (set texts at more) i)) at j
          (λ same. subst (λ i. Reach n anywhere ps name i (text_at (set texts at more) i)) (sym same) (subst (λ l. Reach n anywhere ps name at l) (sym (text_set texts at more inside)) reached))
          (λ ne. subst (λ l. Reach n anywhere ps name j l) (sym (text_kept texts at j more ne)) (w.place j h));
      left = w.left;
      before = w.before;
      low = moved_low n anywhere ps to_end floor name texts lefts at c more w stuck e;
      under = λ j h k. subst (λ l. IsFloor name l) (sym (text_kept texts at j more (λ same. lt_irrefl j (subst (λ i. i < j) (sym same) h)))) (w.under j h k);
    }

-- the place moves on after a dot: the star before is next
behind_dot : (name here more : List ℕ) (c : ℕ) → EndsWith name here → here ≡ c ∷ more → c ≡ 46 → IsFloor name more
behind_dot name here more c w e d = inr (w.0, w.1 ∙ ap (λ l. w.0 ++ l) (e ∙ ap (λ k. k ∷ more) d))

above : (j at : ℕ) → at - 1 < j → j ≢ at → at < j
above j at h ne =
    elim (cases_lt at j) [
      | inl lt ↦ lt
      | inr le ↦ absurd (ne (omega (arith, h, le)))
    ]

pub placed_down : (n : ℕ) (anywhere : Bool) (ps : List Piece) (to_end : Bool) (floor name : List ℕ) (texts : List (Bor (List ℕ))) (lefts : List (Bor (List Piece))) (at : ℕ) (c : ℕ) (more : Bor (List ℕ)) → Placed n anywhere ps to_end floor name texts lefts at → IsStuck n (pieces_at lefts at) to_end (text_at texts at) (text_at texts (at + 1)) floor → text_at texts at ≡ c ∷ chars more.now → c ≡ 46 → 0 < at → Placed n anywhere ps to_end floor name (set texts at more) lefts (at - 1)
placed_down n anywhere ps to_end floor name texts lefts at c more w stuck e d some =
    let inside : at < length texts = omega (arith, w.few, w.room) in
    let ends = reach_end n anywhere ps name at (text_at texts at) (w.place at (omega arith)) in
    record {
      room = length-set texts at more ∙ w.room;
      room' = w.room';
      few = omega (arith, w.few);
      used = (w.before (at - 1) (omega (arith, some))).2;
      place = λ j h. subst (λ l. Reach n anywhere ps name j l) (sym (text_kept texts at j more (λ same. omega (arith, same, h, some)))) (w.place j (omega (arith, h)));
      left = λ j h. w.left j (omega (arith, h));
      before = λ j h. w.before j (omega (arith, h));
      low = moved_low n anywhere ps to_end floor name texts lefts at c more w stuck e;
      under = λ j h k. split_at (λ i. IsFloor name (text_at (set texts at more) i)) at j
          (λ same. subst (λ i. IsFloor name (text_at (set texts at more) i)) (sym same) (subst (λ l. IsFloor name l) (sym (text_set texts at more inside)) (behind_dot name (text_at texts at) (chars more.now) c ends e d)))
          (λ ne. subst (λ l. IsFloor name l) (sym (text_kept texts at j more ne)) (w.under j (above j at h ne) k));
    }

-- with nothing before them the pieces begin nowhere else
out_at : (n : ℕ) (ps : List Piece) (to_end : Bool) (floor name : List ℕ) (texts : List (Bor (List ℕ))) (lefts : List (Bor (List Piece))) → Placed n false ps to_end floor name texts lefts 0 → IsStuck n (pieces_at lefts 0) to_end (text_at texts 0) (text_at texts (0 + 1)) floor → HasNoneWithin ps to_end floor name
out_at n ps to_end floor name texts lefts w stuck u v may =
    unplaced n false ps to_end floor name texts lefts 0 w stuck name u refl v may (sym (w.place 0 (omega arith)))

pub placed_out : (n : ℕ) (anywhere : Bool) (ps : List Piece) (to_end : Bool) (floor name : List ℕ) (texts : List (Bor (List ℕ))) (lefts : List (Bor (List Piece))) (at : ℕ) → Placed n anywhere ps to_end floor name texts lefts at → IsStuck n (pieces_at lefts at) to_end (text_at texts at) (text_at texts (at + 1)) floor → at ≡ 0 → anywhere ≡ false → HasNoneWithin (opening anywhere ++ ps) to_end floor name
placed_out n true ps to_end floor name texts lefts at w stuck z wrong = absurd (false≢true (sym wrong))
placed_out n false ps to_end floor name texts lefts zero w stuck z closed = out_at n ps to_end floor name texts lefts w stuck
placed_out n false ps to_end floor name texts lefts (suc at) w stuck z closed = absurd (omega (arith, z))

-- what is left grows less, or the next star is placed
ends_length : (a b : List ℕ) → EndsWith a b → length b ≤ length a
ends_length a b w = omega (arith, ap length w.1, length-append w.0 b)

pub smaller_next : (n : ℕ) (anywhere : Bool) (ps : List Piece) (to_end : Bool) (floor name : List ℕ) (texts : List (Bor (List ℕ))) (lefts : List (Bor (List Piece))) (at : ℕ) (rest : Bor (List ℕ)) (back : List Piece) → Placed n anywhere ps to_end floor name texts lefts at → IsNextBlock n (pieces_at lefts at) (text_at texts at) (text_at texts (at + 1)) (chars rest.now) back → 2 * total (set texts (at + 1) rest) + (64 - (at + 1)) < 2 * total texts + (64 - at)
smaller_next n anywhere ps to_end floor name texts lefts at rest back w block =
    let room : at + 1 < 65 = omega (arith, w.few) in
    let here = reach_end n anywhere ps name at (text_at texts at) (w.place at (omega arith)) in
    let next = floor_ends name (text_at texts (at + 1)) (w.under (at + 1) (omega arith) room) in
    let ends = ends_trans name (text_at texts at) (chars rest.now) here (covers_end block.front (text_at texts at) (chars rest.now) block.found.covers) in
    let within = within_ends name (chars rest.now) (text_at texts (at + 1)) ends next block.found.may.1 in
    omega (arith, room, ends_length (text_at texts (at + 1)) (chars rest.now) within, total_set texts (at + 1) rest (omega (arith, room, w.room)))

pub smaller_on : (texts : List (Bor (List ℕ))) (at at' c : ℕ) (more : Bor (List ℕ)) → at < length texts → text_at texts at ≡ c ∷ chars more.now → at ≤ at' + 1 → 2 * total (set texts at more) + (64 - at') < 2 * total texts + (64 - at)
smaller_on texts at at' c more inside e near =
    omega (arith, near, ap length e, total_set texts at more inside)

-- what is told of the tables' elements
pub told_paths : (n : ℕ) (ps : List Piece) (lefts : List (Bor (List Piece))) (at : ℕ) (d : Bor (List Piece)) → list_all is_no_path ps ≡ true → at < length lefts → pieces_at lefts at ≡ behind n at ps → list_all is_no_path (get_or lefts at d).now ≡ true
told_paths n ps lefts at d open_way room e =
    subst (λ l. list_all is_no_path l ≡ true) (sym (pieces_is lefts at d room ∙ e)) (paths_behind n at ps open_way)

pub told_last : (n : ℕ) (lefts : List (Bor (List Piece))) (texts : List (Bor (List ℕ))) (at : ℕ) (d : Bor (List Piece)) (d' : Bor (List ℕ)) (to_end : Bool) (floor rest : List ℕ) → at < length lefts → at < length texts → IsLastBlock n (get_or lefts at d).now to_end (chars (get_or texts at d').now) floor rest → IsLastBlock n (pieces_at lefts at) to_end (text_at texts at) floor rest
told_last n lefts texts at d d' to_end floor rest room room' h =
    subst (λ l. IsLastBlock n (pieces_at lefts at) to_end l floor rest) (text_is texts at d' room')
    (subst (λ l. IsLastBlock n l to_end (chars (get_or texts at d').now) floor rest) (pieces_is lefts at d room) h)

pub told_next : (n : ℕ) (lefts : List (Bor (List Piece))) (texts : List (Bor (List ℕ))) (at : ℕ) (d : Bor (List Piece)) (d' d'' : Bor (List ℕ)) (rest : List ℕ) (back : List Piece) → at < length lefts → at + 1 < length texts → IsNextBlock n (get_or lefts at d).now (chars (get_or texts at d').now) (chars (get_or texts (at + 1) d'').now) rest back → IsNextBlock n (pieces_at lefts at) (text_at texts at) (text_at texts (at + 1)) rest back
told_next n lefts texts at d d' d'' rest back room room' h =
    subst (λ l. IsNextBlock n (pieces_at lefts at) (text_at texts at) l rest back) (text_is texts (at + 1) d'' room')
    (subst (λ l. IsNextBlock n (pieces_at lefts at) l (chars (get_or texts (at + 1) d'').now) rest back) (text_is texts at d' (omega (arith, room')))
    (subst (λ l. IsNextBlock n l (chars (get_or texts at d').now) (chars (get_or texts (at + 1) d'').now) rest back) (pieces_is lefts at d room) h))

pub told_stuck : (n : ℕ) (lefts : List (Bor (List Piece))) (texts : List (Bor (List ℕ))) (at : ℕ) (d : Bor (List Piece)) (d' d'' : Bor (List ℕ)) (to_end : Bool) (floor : List ℕ) → at < length lefts → at + 1 < length texts → IsStuck n (get_or lefts at d).now to_end (chars (get_or texts at d').now) (chars (get_or texts (at + 1) d'').now) floor → IsStuck n (pieces_at lefts at) to_end (text_at texts at) (text_at texts (at + 1)) floor
told_stuck n lefts texts at d d' d'' to_end floor room room' h =
    subst (λ l. IsStuck n (pieces_at lefts at) to_end (text_at texts at) l floor) (text_is texts (at + 1) d'' room')
    (subst (λ l. IsStuck n (pieces_at lefts at) to_end l (chars (get_or texts (at + 1) d'').now) floor) (text_is texts at d' (omega (arith, room')))
    (subst (λ l. IsStuck n l to_end (chars (get_or texts at d').now) (chars (get_or texts (at + 1) d'').now) floor) (pieces_is lefts at d room) h))
