-- Which modules are wanted, once one more was looked at.
use Rattle.std.proofs.Common.{◌≡◌, ⊎_elim, eq-or-lt_of_le, ℕ, zero, suc, ◌+◌, ◌<◌, Bool, List, [], ◌∷◌, ◌++◌, length, refl, sym, ap, ◌∙◌, arith}
use Rattle.recorders.specs.Wanted.{is_wanted}

wanted_before : (ws : List Bool) (on : Bool) (q : ℕ) → q < length ws → is_wanted (ws ++ on ∷ []) q ≡ is_wanted ws q
wanted_before [] on q l = absurd (omega (arith, l))
wanted_before (w ∷ ws) on zero l = refl
wanted_before (w ∷ ws) on (suc q) l = wanted_before ws on q (omega (arith, l))

wanted_last : (ws : List Bool) (on : Bool) → is_wanted (ws ++ on ∷ []) (length ws) ≡ on
wanted_last [] on = refl
wanted_last (w ∷ ws) on = wanted_last ws on

one_longer : (ws : List Bool) (on : Bool) → length (ws ++ on ∷ []) ≡ suc (length ws)
one_longer [] on = refl
one_longer (w ∷ ws) on = ap suc (one_longer ws on)

pub counted_next : (ws : List Bool) (n : ℕ) (on : Bool) → length ws ≡ n → length (ws ++ on ∷ []) ≡ n + 1
counted_next ws n on many = let e = one_longer ws on in omega (arith, e, many)

pub wanted_next : (f : ℕ → Bool) (ws : List Bool) (n : ℕ) (on : Bool) → length ws ≡ n → ((q : ℕ) → q < n → is_wanted ws q ≡ f q) → on ≡ f n → (q : ℕ) → q < n + 1 → is_wanted (ws ++ on ∷ []) q ≡ f q
wanted_next f ws n on many meant is q l =
    ⊎_elim
    (λ (e : q ≡ n). ap (is_wanted (ws ++ on ∷ [])) (e ∙ sym many) ∙ wanted_last ws on ∙ is ∙ ap f (sym e))
    (λ (g : q < n). wanted_before ws on q (omega (arith, g, many)) ∙ meant q g)
    (eq-or-lt_of_le (omega (arith, l)))
