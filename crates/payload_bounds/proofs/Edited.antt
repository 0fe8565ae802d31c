-- What an edit leaves of the injections of a model.
use Rattle.std.proofs.Common.{◌≡◌, ℕ, suc, ◌≤◌, nat_lt, nat_le, ◌||◌, Bool, true, false, true≢false, List, [], ◌∷◌, ◌++◌, length, refl, sym, ap, subst, arith, if◌then◌else◌}
use Rattle.std.proofs.lemmas.Bool.Decides.{nat_tests}
use Rattle.model_injections.specs.declared.injection.Injection.{Injection}
use Rattle.model_data.specs.declared.model.Model.{Model}
use Rattle.model_edits.specs.Edited.{is_numbered, most_injections, most_payload, next_injection, without, IsEditOf, IsTextEditOf}
use Rattle.model_edits.specs.declared.edit.Edit.{Edit}
use Rattle.model_edits.specs.declared.edit.Edit.TheVariants as edit
use Rattle.payload_bounds.specs.Bounds.{AreBounded, AreShort, IsShort}

pub none_bounded : AreBounded []
none_bounded = record { few = omega arith; short = tt }

-- ---- one more

either_not : (s t : Bool) → (s || t) ≡ false → (s ≡ false) × (t ≡ false)
either_not true t e = absurd (true≢false e)
either_not false t e = (refl, e)

within : (m n : ℕ) → nat_lt m n ≡ false → n ≤ m
within m n e = grind (arith, nat_tests)

below : (m n : ℕ) → nat_le m n ≡ false → suc n ≤ m
below m n e = grind (arith, nat_tests)

length_more : (is : List Injection) (i : Injection) → length (is ++ i ∷ []) ≡ suc (length is)
length_more [] i = refl
length_more (j ∷ is) i = ap suc (length_more is i)

short_more : (is : List Injection) (i : Injection) → AreShort is → IsShort i.payload → AreShort (is ++ i ∷ [])
short_more [] i h k = (k, tt)
short_more (j ∷ is) i h k = (h.0, short_more is i h.1 k)

-- ---- one less

fewer : (number : ℕ) (is : List Injection) → length (without number is) ≤ length is
fewer number [] = omega arith
fewer number (i ∷ is) = by (is_numbered number i) (fewer number is)
  where
    by : (t : Bool) → length (without number is) ≤ length is → length (if t then is else i ∷ without number is) ≤ suc (length is)
    by true h = omega arith
    by false h = omega (arith, h)

short_without : (number : ℕ) (is : List Injection) → AreShort is → AreShort (without number is)
short_without number [] h = tt
short_without number (i ∷ is) h = by (is_numbered number i) (short_without number is h.1)
  where
    by : (t : Bool) → AreShort (without number is) → AreShort (if t then is else i ∷ without number is)
    by true rest = h.1
    by false rest = (h.0, rest)

-- ---- an edit

text_stays : (m new : Model) (e : Edit) → IsTextEditOf m e new → AreBounded m.injections → AreBounded new.injections
text_stays m new e h k = subst AreBounded (sym (ap (λ (x : Model). x.injections) h.made.rest)) k

pub edit_stays : (m new : Model) (e : Edit) → IsEditOf m e new → AreBounded m.injections → AreBounded new.injections
edit_stays m new (edit.InsertIni line text) h k = text_stays m new (edit.InsertIni line text) h k
edit_stays m new (edit.ReplaceIni line text) h k = text_stays m new (edit.ReplaceIni line text) h k
edit_stays m new (edit.RemoveIni line) h k = text_stays m new (edit.RemoveIni line) h k
edit_stays m new (edit.ReplaceNed number text) h k = text_stays m new (edit.ReplaceNed number text) h k
edit_stays m new (edit.AddConnection name place text) h k = text_stays m new (edit.AddConnection name place text) h k
edit_stays m new (edit.RemoveConnection name place) h k = text_stays m new (edit.RemoveConnection name place) h k
edit_stays m new (edit.SelectConfig name) h k = text_stays m new (edit.SelectConfig name) h k
edit_stays m new (edit.Inject path due kind bits payload) h k =
    let one = either_not (nat_lt most_payload (length payload)) _ h.0 in
    let two = either_not (nat_le most_injections (length m.injections)) _ one.1 in
    let i : Injection = next_injection m path due kind bits payload in
    let room = below most_injections (length m.injections) two.0 in
    let sum = length_more m.injections i in
    subst AreBounded (sym (ap (λ (x : Model). x.injections) h.1))
    (record { few = omega (arith, room, sum); short = short_more m.injections i k.short (within most_payload (length payload) one.0) })
edit_stays m new (edit.Withdraw number) h k =
    let less = fewer number m.injections in
    let few = k.few in
    subst AreBounded (sym (ap (λ (x : Model). x.injections) h.1)) (record { few = omega (arith, less, few); short = short_without number m.injections k.short })
