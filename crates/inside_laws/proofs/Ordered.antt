-- Parts in the order of the text, one more after another.
use Rattle.std.proofs.Common.{◌≡◌, ◌∙◌, inl, inr, ℕ, zero, suc, ◌+◌, ◌<◌, false, List, [], ◌∷◌, ◌++◌, Option, Some, None, refl, ap, arith}
use Rattle.inside_parts.specs.declared.parts.Part.{Part}
use Rattle.inside_laws.specs.Sound.{AreInOrder, AreInTurn, ComeAfter, IsFirst, IsNext}

-- the last one of those after this one
abbrev pub last_from : Part → List Part → Part
last_from p [] = p
last_from p (q ∷ qs) = last_from q qs

abbrev pub last_in : List Part → Option Part
last_in [] = None
last_in (p ∷ ps) = Some (last_from p ps)

-- the last submodule
abbrev pub last_sub : List Part → Option Part
last_sub [] = None
last_sub (own ∷ ps) = last_in ps

-- a submodule can come after that one
abbrev pub Fits : Part → Option Part → Type 0
Fits q None = IsFirst q
Fits q (Some p) = IsNext p q

come_more : (p : Part) (ps : List Part) (q : Part) → ComeAfter p ps → q.is_own ≡ false → IsNext (last_from p ps) q → ComeAfter p (ps ++ q ∷ [])
come_more p [] q h own next = (own, (next, tt))
come_more p (r ∷ ps) q h own next = (h.0, (h.1.0, come_more r ps q h.1.1 own next))

in_turn_more : (ps : List Part) (q : Part) → AreInTurn ps → q.is_own ≡ false → Fits q (last_in ps) → AreInTurn (ps ++ q ∷ [])
in_turn_more [] q h own fits = (own, (fits, tt))
in_turn_more (p ∷ ps) q h own fits = (h.0, (h.1.0, come_more p ps q h.1.1 own fits))

pub order_more : (ps : List Part) (q : Part) → AreInOrder ps → q.is_own ≡ false → Fits q (last_sub ps) → AreInOrder (ps ++ q ∷ [])
order_more [] q h own fits = absurd h
order_more (o ∷ ps) q h own fits = (h.0, in_turn_more ps q h.1 own fits)

last_from_more : (p : Part) (ps : List Part) (q : Part) → last_from p (ps ++ q ∷ []) ≡ q
last_from_more p [] q = refl
last_from_more p (r ∷ ps) q = last_from_more r ps q

last_in_more : (ps : List Part) (q : Part) → last_in (ps ++ q ∷ []) ≡ Some q
last_in_more [] q = refl
last_in_more (p ∷ ps) q = ap (λ r. Some r) (last_from_more p ps q)

pub last_more : (ps : List Part) (q : Part) → AreInOrder ps → last_sub (ps ++ q ∷ []) ≡ Some q
last_more [] q h = absurd h
last_more (o ∷ ps) q h = last_in_more ps q

-- ---- which submodule is due

-- those that were made are of earlier declarations than that one
abbrev pub IsBelow : ℕ → Option Part → Type 0
IsBelow line None = Unit {0}
IsBelow line (Some p) = p.line < line

-- of the declaration of that number so many elements were made
abbrev pub IsAt : ℕ → ℕ → Option Part → Type 0
IsAt line zero o = IsBelow line o
IsAt line (suc k) None = ⊥
IsAt line (suc k) (Some p) = (p.line ≡ line) × (p.index ≡ Some k)

-- an element comes next
pub element_fits : (line k : ℕ) (o : Option Part) (q : Part) → IsAt line k o → q.line ≡ line → q.index ≡ Some k → Fits q o
element_fits line zero None q h l e = inr e
element_fits line zero (Some p) q h l e = inl (omega (arith, h, l), inr e)
element_fits line (suc k) None q h l e = absurd h
element_fits line (suc k) (Some p) q h l e = inr (omega (arith, h.0, l), (k, h.1, (let one : suc k ≡ k + 1 = omega arith in e ∙ ap (λ n. Some n) one)))

-- a single submodule comes next
pub single_fits : (line : ℕ) (o : Option Part) (q : Part) → IsBelow line o → q.line ≡ line → q.index ≡ None → Fits q o
single_fits line None q h l e = inl e
single_fits line (Some p) q h l e = inl (omega (arith, h, l), inl e)

-- what was made is of earlier declarations than the next one
pub at_below : (line k : ℕ) (o : Option Part) → IsAt line k o → IsBelow (suc line) o
at_below line zero None h = tt
at_below line zero (Some p) h = omega (arith, h)
at_below line (suc k) None h = absurd h
at_below line (suc k) (Some p) h = omega (arith, h.0)
