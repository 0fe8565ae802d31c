-- Laws of blanks.
use Rattle.std.proofs.Common.{◌≡◌, ℕ, ◌+◌, ◌-◌, ◌<◌, ◌≤◌, true, false, [], ◌∷◌, ◌++◌, length, take, get_or, refl, sym, ap, ◌∙◌, arith}
use Rattle.std.proofs.lemmas.List.{take_more}
use Rattle.ini_entries.specs.Texts.{Bytes, is_blank, unless_last_blank, before_blanks}

-- ---- blanks at the end

pub trim_blank : (xs : Bytes) (b : ℕ) → is_blank b ≡ true → before_blanks (xs ++ b ∷ []) ≡ before_blanks xs
unfolding before_blanks
trim_blank [] b h = rw h refl
trim_blank (x ∷ xs) b h = ap (unless_last_blank x) (trim_blank xs b h)

pub keep_last : (xs : Bytes) (b : ℕ) → is_blank b ≡ false → before_blanks (xs ++ b ∷ []) ≡ xs ++ b ∷ []
unfolding before_blanks
keep_last [] b h = rw h refl
keep_last (x ∷ []) b h = ap (unless_last_blank x) (keep_last [] b h)
keep_last (x ∷ y ∷ xs) b h = ap (unless_last_blank x) (keep_last (y ∷ xs) b h)

-- ---- the last byte of a front

last_place : (bs : Bytes) (i : ℕ) → 0 < i → i ≤ length bs → take i bs ≡ take (i - 1) bs ++ get_or bs (i - 1) 0 ∷ []
last_place bs i p h = let more : take (i - 1 + 1) bs ≡ take (i - 1) bs ++ get_or bs (i - 1) 0 ∷ [] = take_more bs (i - 1) 0 (omega arith) in let same : i - 1 + 1 ≡ i = omega arith in ap (λ (n : ℕ). take n bs) (sym same) ∙ more

pub trim_at : (bs : Bytes) (i : ℕ) → 0 < i → i ≤ length bs → is_blank (get_or bs (i - 1) 0) ≡ true → before_blanks (take (i - 1) bs) ≡ before_blanks (take i bs)
trim_at bs i p h e = sym (ap before_blanks (last_place bs i p h) ∙ trim_blank (take (i - 1) bs) (get_or bs (i - 1) 0) e)

pub keep_at : (bs : Bytes) (i : ℕ) → 0 < i → i ≤ length bs → is_blank (get_or bs (i - 1) 0) ≡ false → take i bs ≡ before_blanks (take i bs)
keep_at bs i p h e = last_place bs i p h ∙ sym (keep_last (take (i - 1) bs) (get_or bs (i - 1) 0) e) ∙ sym (ap before_blanks (last_place bs i p h))

pub trim_none : (bs : Bytes) (i : ℕ) → i ≤ 0 → take i bs ≡ before_blanks (take i bs)
unfolding before_blanks
trim_none bs i h = let is : i ≡ 0 = omega arith in rw is refl
