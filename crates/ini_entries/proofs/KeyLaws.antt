-- Laws of keys.
use Rattle.std.proofs.Common.{◌≡◌, ℕ, Bool, true, false, cond, eqb, not, arith, ◌&&◌, [], ◌∷◌, length, Option, Some, None, refl, sym, ap, subst, ◌∙◌}
use Rattle.std.specs.Prelude.{nat_lt}
use Rattle.std.specs.List.{list_all}
use Rattle.std.specs.Str.{IsAscii, IsUtf8}
use Rattle.std.proofs.lemmas.Str.{IsUtf8-from_ascii}
use Rattle.std.proofs.lemmas.Str.Ascii.{IsAscii-cons, IsAscii-nil}
use Rattle.ini_entries.specs.Meaning.{is_key, is_key_byte}
use Rattle.std.proofs.lemmas.Bool.{eqb-true}
use Rattle.std.proofs.lemmas.Bool.Decides.{nat_tests}
use Rattle.ini_entries.specs.declared.keys.KeyPlace.{KeyPlace}
use Rattle.ini_entries.specs.declared.keys.KeyPlace.TheVariants.{Open, InSet, InBrackets, InSetInBrackets}
use Rattle.ini_entries.specs.Keys.{found_behind, is_closed, is_closed_from, kept_behind, last_part_from, or_rest, place_behind}
use Rattle.ini_entries.specs.Texts.{Bytes, is_blank}

-- ---- the bytes of a key

later : (x y : Bool) → (x && y) ≡ true → y ≡ true
later true y h = h
later false y h = absurd cc

ascii_bytes : (bytes : Bytes) → list_all is_key_byte bytes ≡ true → IsAscii bytes
unfolding is_key_byte
ascii_bytes [] h = IsAscii-nil
ascii_bytes (b ∷ bs) h = go (nat_lt b 128) refl (λ e. ascii_bytes bs e) h
  where
    go : (t : Bool) → nat_lt b 128 ≡ t → (list_all is_key_byte bs ≡ true → IsAscii bs) → ((t && not (is_blank b)) && list_all is_key_byte bs) ≡ true → IsAscii (b ∷ bs)
    go true e more h = IsAscii-cons b bs (grind (arith, nat_tests)) (more (later (not (is_blank b)) (list_all is_key_byte bs) h))
    go false e more h = absurd cc

pub key_text : (key : Bytes) → is_key key ≡ true → IsUtf8 key
key_text [] h = absurd cc
key_text (b ∷ bs) h = IsUtf8-from_ascii (b ∷ bs) (ascii_bytes (b ∷ bs) h)

-- ---- the last part

-- the last part that is found later, or else the one found before
abbrev pub or_found : Option Bytes → Option Bytes → Option Bytes
or_found (Some part) found = Some part
or_found None found = found

-- The last part of a key of which these bytes are left, and of which this is found and kept where
-- each `[` was taken for a bracket. One that no `]` closes was none.
abbrev pub reached : KeyPlace → Bool → Bytes → Option Bytes → Option Bytes → Option Bytes
reached Open escaped rest found kept = or_found (last_part_from Open escaped rest) found
reached InSet escaped rest found kept = or_found (last_part_from InSet escaped rest) found
reached InBrackets escaped rest found kept =
    cond (is_closed_from false escaped rest) (or_found (last_part_from InBrackets escaped rest) kept) (or_found (last_part_from Open escaped rest) found)
reached InSetInBrackets escaped rest found kept =
    cond (is_closed_from true escaped rest) (or_found (last_part_from InSetInBrackets escaped rest) kept) (or_found (last_part_from InSet escaped rest) found)

escaped_step : (place : KeyPlace) (b : ℕ) (bs : Bytes) (found kept : Option Bytes) → reached place true (b ∷ bs) found kept ≡ reached place false bs found kept
unfolding last_part_from is_closed_from
escaped_step Open b bs found kept = refl
escaped_step InSet b bs found kept = refl
escaped_step InBrackets b bs found kept = refl
escaped_step InSetInBrackets b bs found kept = refl

parted : (x : Option Bytes) (parts : Bool) (rest : Bytes) (found : Option Bytes) → or_found (or_rest x parts rest) found ≡ or_found x (cond parts (Some rest) found)
parted (Some part) parts rest found = refl
parted None true rest found = refl
parted None false rest found = refl

-- after a byte
abbrev Steps : KeyPlace → ℕ → Bytes → Option Bytes → Option Bytes → Type 0
Steps place b bs found kept =
    reached place false (b ∷ bs) found kept ≡ reached (place_behind place b true) (eqb b 92) bs (found_behind place b bs found kept) (kept_behind place b found kept)

open_bracket : (bs : Bytes) (found kept : Option Bytes) → Steps Open 91 bs found kept
unfolding last_part_from
open_bracket bs found kept = go (is_closed bs)
  where
    go : (t : Bool) → or_found (or_rest (last_part_from (cond t InBrackets Open) false bs) false bs) found ≡ cond t (or_found (last_part_from InBrackets false bs) found) (or_found (last_part_from Open false bs) found)
    go true = parted (last_part_from InBrackets false bs) false bs found
    go false = parted (last_part_from Open false bs) false bs found

open_step : (b : ℕ) (bs : Bytes) (found kept : Option Bytes) → Steps Open b bs found kept
unfolding last_part_from
open_step b bs found kept = by (eqb b 91) refl
  where
    go : (t : Bool) → or_found (or_rest (last_part_from (cond t InSet Open) (eqb b 92) bs) (eqb b 46) bs) found ≡ reached (cond t InSet Open) (eqb b 92) bs (cond (eqb b 46) (Some bs) found) kept
    go true = parted (last_part_from InSet (eqb b 92) bs) (eqb b 46) bs found
    go false = parted (last_part_from Open (eqb b 92) bs) (eqb b 46) bs found

    by : (t : Bool) → eqb b 91 ≡ t → Steps Open b bs found kept
    by true e = subst (λ (c : ℕ). Steps Open c bs found kept) (sym (eqb-true b 91 e)) (open_bracket bs found kept)
    by false e = rw e (go (eqb b 123))

set_step : (b : ℕ) (bs : Bytes) (found kept : Option Bytes) → Steps InSet b bs found kept
unfolding last_part_from
set_step b bs found kept = go (eqb b 125)
  where
    go : (t : Bool) → or_found (or_rest (last_part_from (cond t Open InSet) (eqb b 92) bs) false bs) found ≡ reached (cond t Open InSet) (eqb b 92) bs found kept
    go true = parted (last_part_from Open (eqb b 92) bs) false bs found
    go false = parted (last_part_from InSet (eqb b 92) bs) false bs found

-- two ways on, of which one is gone
both : (t : Bool) (x y u v : Option Bytes) → x ≡ u → y ≡ v → cond t x y ≡ cond t u v
both true x y u v e f = e
both false x y u v e f = f

-- a `[` between brackets: where no `]` follows it is no bracket either
inner_bracket : (bs : Bytes) (found kept : Option Bytes) → Steps InBrackets 91 bs found kept
unfolding last_part_from is_closed_from
inner_bracket bs found kept = go (is_closed bs)
  where
    go : (t : Bool) → cond t (or_found (or_rest (last_part_from InBrackets false bs) false bs) kept) (or_found (or_rest (last_part_from (cond t InBrackets Open) false bs) false bs) found) ≡ cond t (or_found (last_part_from InBrackets false bs) kept) (or_found (last_part_from Open false bs) found)
    go true = parted (last_part_from InBrackets false bs) false bs kept
    go false = parted (last_part_from Open false bs) false bs found

bracket_step : (b : ℕ) (bs : Bytes) (found kept : Option Bytes) → Steps InBrackets b bs found kept
unfolding last_part_from is_closed_from
bracket_step b bs found kept = by (eqb b 91) refl
  where
    place : Bool → Bool → KeyPlace
    place x y = cond x Open (cond y InSetInBrackets InBrackets)

    go : (x y : Bool) → cond (cond x true (is_closed_from y (eqb b 92) bs)) (or_found (or_rest (last_part_from (place x y) (eqb b 92) bs) false bs) kept) (or_found (or_rest (last_part_from (cond y InSet Open) (eqb b 92) bs) (eqb b 46) bs) found) ≡ reached (place x y) (eqb b 92) bs (cond x kept (cond (eqb b 46) (Some bs) found)) kept
    go true y = parted (last_part_from Open (eqb b 92) bs) false bs kept
    go false true = both (is_closed_from true (eqb b 92) bs) _ _ _ _ (parted (last_part_from InSetInBrackets (eqb b 92) bs) false bs kept) (parted (last_part_from InSet (eqb b 92) bs) (eqb b 46) bs found)
    go false false = both (is_closed_from false (eqb b 92) bs) _ _ _ _ (parted (last_part_from InBrackets (eqb b 92) bs) false bs kept) (parted (last_part_from Open (eqb b 92) bs) (eqb b 46) bs found)

    by : (t : Bool) → eqb b 91 ≡ t → Steps InBrackets b bs found kept
    by true e = subst (λ (c : ℕ). Steps InBrackets c bs found kept) (sym (eqb-true b 91 e)) (inner_bracket bs found kept)
    by false e = rw e (go (eqb b 93) (eqb b 123))

inner_set_step : (b : ℕ) (bs : Bytes) (found kept : Option Bytes) → Steps InSetInBrackets b bs found kept
unfolding last_part_from is_closed_from
inner_set_step b bs found kept = go (eqb b 125)
  where
    go : (t : Bool) → cond (is_closed_from (cond t false true) (eqb b 92) bs) (or_found (or_rest (last_part_from (cond t InBrackets InSetInBrackets) (eqb b 92) bs) false bs) kept) (or_found (or_rest (last_part_from (cond t Open InSet) (eqb b 92) bs) false bs) found) ≡ reached (cond t InBrackets InSetInBrackets) (eqb b 92) bs found kept
    go true = both (is_closed_from false (eqb b 92) bs) _ _ _ _ (parted (last_part_from InBrackets (eqb b 92) bs) false bs kept) (parted (last_part_from Open (eqb b 92) bs) false bs found)
    go false = both (is_closed_from true (eqb b 92) bs) _ _ _ _ (parted (last_part_from InSetInBrackets (eqb b 92) bs) false bs kept) (parted (last_part_from InSet (eqb b 92) bs) false bs found)

byte_step : (place : KeyPlace) (b : ℕ) (bs : Bytes) (found kept : Option Bytes) → Steps place b bs found kept
byte_step Open b bs found kept = open_step b bs found kept
byte_step InSet b bs found kept = set_step b bs found kept
byte_step InBrackets b bs found kept = bracket_step b bs found kept
byte_step InSetInBrackets b bs found kept = inner_set_step b bs found kept

-- ---- the scan of a key

split : (place : KeyPlace) (was escaped : Bool) (rest : Bytes) (b : ℕ) (after : Bytes) (found kept whole : Option Bytes) → escaped ≡ was → rest ≡ b ∷ after → reached place escaped rest found kept ≡ whole → reached place was (b ∷ after) found kept ≡ whole
split place was escaped rest b after found kept whole t e h = subst (λ (l : Bytes). reached place was l found kept ≡ whole) e (subst (λ (x : Bool). reached place x rest found kept ≡ whole) t h)

-- a byte after a `\`
pub escaped_reached : (place : KeyPlace) (escaped : Bool) (rest : Bytes) (b : ℕ) (after : Bytes) (found kept whole : Option Bytes) → escaped ≡ true → rest ≡ b ∷ after → reached place escaped rest found kept ≡ whole → reached place false after found kept ≡ whole
escaped_reached place escaped rest b after found kept whole t e h =
    sym (escaped_step place b after found kept) ∙ split place true escaped rest b after found kept whole t e h

-- any other byte
pub byte_reached : (place next : KeyPlace) (escaped : Bool) (rest : Bytes) (b : ℕ) (after : Bytes) (found kept more_found more_kept whole : Option Bytes) → escaped ≡ false → rest ≡ b ∷ after → next ≡ place_behind place b true → more_found ≡ found_behind place b after found kept → more_kept ≡ kept_behind place b found kept → reached place escaped rest found kept ≡ whole → reached next (eqb b 92) after more_found more_kept ≡ whole
byte_reached place next escaped rest b after found kept more_found more_kept whole t e n f k h =
    ap (λ (p : KeyPlace). reached p (eqb b 92) after more_found more_kept) n
    ∙ ap (λ (x : Option Bytes). reached (place_behind place b true) (eqb b 92) after x more_kept) f
    ∙ ap (λ (x : Option Bytes). reached (place_behind place b true) (eqb b 92) after (found_behind place b after found kept) x) k
    ∙ sym (byte_step place b after found kept)
    ∙ split place false escaped rest b after found kept whole t e h

pub nothing_left : (place : KeyPlace) (escaped : Bool) (rest : Bytes) (found kept whole : Option Bytes) → length rest ≡ 0 → reached place escaped rest found kept ≡ whole → found ≡ whole
unfolding last_part_from is_closed_from
nothing_left Open escaped [] found kept whole e h = h
nothing_left InSet escaped [] found kept whole e h = h
nothing_left InBrackets escaped [] found kept whole e h = h
nothing_left InSetInBrackets escaped [] found kept whole e h = h
nothing_left place escaped (b ∷ bs) found kept whole e h = absurd cc
