-- Quantities in a row, and digits after the point.
use Rattle.std.proofs.Common.{◌≡◌, ℕ, zero, suc, ◌+◌, ◌*◌, ◌%◌, ◌/◌, ◌<◌, ◌≤◌, Bool, true, false, cond, [], ◌∷◌, length, drop, get_or, Option, Some, None, refl, sym, ap, ◌∙◌, arith, add-one, drop-cons, eqb}
use Rattle.std.proofs.lemmas.Bool.{eqb-true}
use Rattle.std.proofs.Math.Nat.{mul-le-mul_left}
use Rattle.sim_values.specs.declared.value.Dimension.{Dimension}
use Rattle.ned_tokens.specs.declared.runs.Class.TheVariants as class
use Rattle.ned_tokens.specs.Runs.{Bytes, run, behind, begins}
use Rattle.ned_tokens.specs.Digits.{digit_of}
use Rattle.ned_tokens.specs.Quantities.{begins_fraction, rest_of, fraction_at, tenth, part_of, piece_at, added, pieces_from, row_from, row_token, quantity_token, quantity_at}
use Rattle.ned_tokens.proofs.RunLemmas.{behind_length, behind_shorter}

rest_length : (bs : Bytes) → length (rest_of bs) ≤ length bs
rest_length [] = omega arith
rest_length (b ∷ bs) = omega arith

fraction_length : (bs : Bytes) → length (fraction_at bs).1 ≤ length bs
fraction_length bs = go (begins_fraction bs)
  where
    go : (t : Bool) → length (cond {A = Bytes × Bytes} t (run class.Digit (rest_of bs), behind class.Digit (rest_of bs)) ([], bs)).1 ≤ length bs
    go true = omega (arith, behind_length class.Digit (rest_of bs), rest_length bs)
    go false = omega arith

pub piece_length : (bs : Bytes) → begins class.Digit bs ≡ true → length (piece_at bs).1 < length bs
piece_length bs e = omega (arith, behind_length class.Letter (fraction_at (behind class.Digit bs)).1, fraction_length (behind class.Digit bs), behind_shorter class.Digit bs e)

-- a quantity after spaces
pub next_piece_length : (bs : Bytes) → begins class.Digit (behind class.Space bs) ≡ true → length (piece_at (behind class.Space bs)).1 < length bs
next_piece_length bs e = omega (arith, piece_length (behind class.Space bs) e, behind_length class.Space bs)

nothing_begins : (bs : Bytes) → length bs ≤ 0 → begins class.Digit (behind class.Space bs) ≡ false
nothing_begins [] h = refl
nothing_begins (b ∷ bs) h = absurd (omega (arith, h))

pub pieces_end : (n : ℕ) (sum : Option (Dimension × ℕ)) (bs : Bytes) → begins class.Digit (behind class.Space bs) ≡ false → pieces_from n sum bs ≡ (sum, bs)
unfolding pieces_from
pieces_end zero sum bs e = refl
pieces_end (suc n) sum bs e = rw e refl

pieces_step : (n : ℕ) (sum : Option (Dimension × ℕ)) (bs : Bytes) → begins class.Digit (behind class.Space bs) ≡ true → pieces_from (suc n) sum bs ≡ pieces_from n (added sum (piece_at (behind class.Space bs)).0) (piece_at (behind class.Space bs)).1
unfolding pieces_from
pieces_step n sum bs e = rw e refl

-- any count that is enough gives the same
pieces_fuel : (n m : ℕ) (sum : Option (Dimension × ℕ)) (bs : Bytes) → length bs ≤ n → length bs ≤ m → pieces_from n sum bs ≡ pieces_from m sum bs
pieces_fuel zero m sum bs h k = let no = nothing_begins bs h in pieces_end zero sum bs no ∙ sym (pieces_end m sum bs no)
pieces_fuel (suc n) zero sum bs h k = let no = nothing_begins bs k in pieces_end (suc n) sum bs no ∙ sym (pieces_end zero sum bs no)
pieces_fuel (suc n) (suc m) sum bs h k = go (begins class.Digit (behind class.Space bs)) refl (pieces_fuel n m)
  where
    go : (t : Bool) → begins class.Digit (behind class.Space bs) ≡ t → ((s : Option (Dimension × ℕ)) (us : Bytes) → length us ≤ n → length us ≤ m → pieces_from n s us ≡ pieces_from m s us) → pieces_from (suc n) sum bs ≡ pieces_from (suc m) sum bs
    go true e ih =
        let lt = next_piece_length bs e in
        pieces_step n sum bs e ∙ ih (added sum (piece_at (behind class.Space bs)).0) (piece_at (behind class.Space bs)).1 (omega (arith, lt, h)) (omega (arith, lt, k)) ∙ sym (pieces_step m sum bs e)
    go false e ih = pieces_end (suc n) sum bs e ∙ sym (pieces_end (suc m) sum bs e)

pub row_end : (sum : Option (Dimension × ℕ)) (bs : Bytes) → begins class.Digit (behind class.Space bs) ≡ false → row_from sum bs ≡ (sum, bs)
unfolding row_from
row_end sum bs e = pieces_end (length bs) sum bs e

pub row_more : (sum : Option (Dimension × ℕ)) (bs : Bytes) → begins class.Digit (behind class.Space bs) ≡ true → row_from sum bs ≡ row_from (added sum (piece_at (behind class.Space bs)).0) (piece_at (behind class.Space bs)).1
unfolding row_from
row_more sum [] e = absurd cc
row_more sum (b ∷ bs) e =
    let lt = next_piece_length (b ∷ bs) e in
    let after = (piece_at (behind class.Space (b ∷ bs))).1 in
    let more = added sum (piece_at (behind class.Space (b ∷ bs))).0 in
    pieces_step (length bs) sum (b ∷ bs) e ∙ pieces_fuel (length bs) (length after) more after (omega (arith, lt)) (omega arith)

-- what the loop over quantities keeps
pub row_goes_on : (sum more : Option (Dimension × ℕ)) (read : Option (Dimension × ℕ) × Bytes) (bs spaced : Bytes) (total : Option (Dimension × ℕ) × Bytes) → begins class.Digit (behind class.Space bs) ≡ true → spaced ≡ behind class.Space bs → read ≡ piece_at spaced → more ≡ added sum read.0 → row_from sum bs ≡ total → row_from more read.1 ≡ total
row_goes_on sum more read bs spaced total begun es er em so_far =
    let e : read ≡ piece_at (behind class.Space bs) = er ∙ ap piece_at es in
    ap (λ (s : Option (Dimension × ℕ)). row_from s read.1) em ∙ ap (λ (p : Option (Dimension × ℕ) × Bytes). row_from (added sum p.0) p.1) e ∙ sym (row_more sum bs begun) ∙ so_far

pub row_shorter : (read : Option (Dimension × ℕ) × Bytes) (bs spaced : Bytes) → begins class.Digit (behind class.Space bs) ≡ true → spaced ≡ behind class.Space bs → read ≡ piece_at spaced → length read.1 < length bs
row_shorter read bs spaced begun es er =
    let e : read ≡ piece_at (behind class.Space bs) = er ∙ ap piece_at es in
    omega (arith, next_piece_length bs begun, ap (λ (p : Option (Dimension × ℕ) × Bytes). length p.1) e)

pub row_done : (bytes : Bytes) (sum : Option (Dimension × ℕ)) (bs : Bytes) → begins class.Digit (behind class.Space bs) ≡ false → row_from sum bs ≡ row_from (piece_at bytes).0 (piece_at bytes).1 → (quantity_token sum, bs) ≡ quantity_at bytes
unfolding quantity_at
row_done bytes sum bs over so_far = ap row_token (sym (row_end sum bs over) ∙ so_far)

row_length : (n : ℕ) (sum : Option (Dimension × ℕ)) (bs : Bytes) → length (pieces_from n sum bs).1 ≤ length bs
unfolding pieces_from
row_length zero sum bs = omega arith
row_length (suc n) sum bs = go (begins class.Digit (behind class.Space bs)) refl (row_length n)
  where
    go : (t : Bool) → begins class.Digit (behind class.Space bs) ≡ t → ((s : Option (Dimension × ℕ)) (us : Bytes) → length (pieces_from n s us).1 ≤ length us) → length (pieces_from (suc n) sum bs).1 ≤ length bs
    go true e ih = rw (pieces_step n sum bs e) (omega (arith, ih (added sum (piece_at (behind class.Space bs)).0) (piece_at (behind class.Space bs)).1, next_piece_length bs e))
    go false e ih = rw (pieces_end (suc n) sum bs e) (omega arith)

pub quantity_length : (bs : Bytes) → begins class.Digit bs ≡ true → length (quantity_at bs).1 < length bs
unfolding quantity_at row_from
quantity_length bs e = omega (arith, row_length (length (piece_at bs).1) (piece_at bs).0 (piece_at bs).1, piece_length bs e)

-- ---- digits after the point

part_step : (factor : ℕ) (ds : Bytes) (i j part : ℕ) → i ≡ j + 1 → j < length ds → part_of factor (drop i ds) ≡ Some part → part_of factor (drop j ds) ≡ tenth (part + digit_of (get_or ds j 0) * factor)
part_step factor ds i j part e h so_far =
    let behind : part_of factor (drop (suc j) ds) ≡ Some part = ap (λ (k : ℕ). part_of factor (drop k ds)) (sym (e ∙ add-one j)) ∙ so_far in
    rw (drop-cons ds j 0 h, behind) refl

-- where the digits from some place on say nothing, all of them do
part_none : (factor : ℕ) (ds : Bytes) (i : ℕ) → part_of factor (drop i ds) ≡ None → part_of factor ds ≡ None
part_none factor ds zero e = e
part_none factor [] (suc i) e = absurd cc
part_none factor (d ∷ ds) (suc i) e = rw (part_none factor ds i e) refl

tenth_none : (n : ℕ) → (n % 10 ≡ 0 → ⊥) → tenth n ≡ None
tenth_none n h = go (eqb (n % 10) 0) refl
  where
    go : (b : Bool) → eqb (n % 10) 0 ≡ b → cond b (Some (n / 10)) None ≡ None
    go true e = absurd (h (eqb-true (n % 10) 0 e))
    go false e = refl

tenth_some : (n : ℕ) → n % 10 ≡ 0 → tenth n ≡ Some (n / 10)
tenth_some n h = rw h refl

-- one digit more to the left, which is d
pub part_stops : (factor : ℕ) (ds : Bytes) (i j part d : ℕ) → i ≡ j + 1 → j < length ds → part_of factor (drop i ds) ≡ Some part → d ≡ digit_of (get_or ds j 0) → ((part + d * factor) % 10 ≡ 0 → ⊥) → None ≡ part_of factor ds
part_stops factor ds i j part d e h so_far is odd = sym (part_none factor ds j (part_step factor ds i j part e h so_far ∙ ap (λ (n : ℕ). tenth (part + n * factor)) (sym is) ∙ tenth_none (part + d * factor) odd))

pub part_more : (factor : ℕ) (ds : Bytes) (i j part d : ℕ) → i ≡ j + 1 → j < length ds → part_of factor (drop i ds) ≡ Some part → d ≡ digit_of (get_or ds j 0) → (part + d * factor) % 10 ≡ 0 → part_of factor (drop j ds) ≡ Some ((part + d * factor) / 10)
part_more factor ds i j part d e h so_far is even = part_step factor ds i j part e h so_far ∙ ap (λ (n : ℕ). tenth (part + n * factor)) (sym is) ∙ tenth_some (part + d * factor) even

pub part_small : (factor part d : ℕ) → part ≤ 19 * factor → d ≤ 171 → (part + d * factor) / 10 ≤ 19 * factor
part_small factor part d h k = let more : factor * d ≤ factor * 171 = mul-le-mul_left factor k in omega (arith, more)
