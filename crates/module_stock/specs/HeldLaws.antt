-- Held messages and their bytes.
use Rattle.std.proofs.Common.{◌≡◌, ◌∙◌, ℕ, zero, suc, ◌<◌, ◌≤◌, ◌^◌, nat_le, ℤ, Bool, true, false}
use Rattle.std.proofs.Common.{List, [], ◌∷◌, ◌++◌, length, take, drop, get_or, Option, Some, None}
use Rattle.std.proofs.Common.{if◌then◌else◌, IsTrue, refl, ap, sym, subst, arith, append_assoc}
use Rattle.std.proofs.Common.{append-nil, length-append}
use Rattle.std.specs.Int.{w16}
use Rattle.std.specs.Int.RustNames.{FitsSigned}
use Rattle.std.specs.List.{flat_map}
use Rattle.std.specs.Option.{option_and_then, option_map, is_some}
use Rattle.std.proofs.lemmas.Bool.{false≢true, le-leb}
use Rattle.std.proofs.lemmas.List.{take_at, drop_at, length-take}
use Rattle.std.proofs.lemmas.Int.{to_z-of_z, ints}
use Rattle.module_api.specs.declared.message.Message.{Message}
use Rattle.module_api.specs.declared.message.Outgoing.{Outgoing}
use Rattle.module_api.specs.Behaviour.{State}
use Rattle.module_parts.specs.Bytes.{word, long, take_word, take_long, without_sign, with_sign}
use Rattle.module_parts.specs.ByteLaws.{take_word-word, take_long-long, IsBelow, take_word-below}
use Rattle.module_parts.specs.ByteLaws.{take_long-below}
use Rattle.module_stock.specs.declared.held.Header.{Header}
use Rattle.module_stock.specs.Held.{Fits, can_be_held, kept, AllFit, header_of, header_bytes}
use Rattle.module_stock.specs.Held.{message_bytes, bytes_of, headed, header_in, with_payload}
use Rattle.module_stock.specs.Held.{front_of, behind_front, messages_by, messages_in, read_held}

unsigned-below : (z : ℤ) → FitsSigned w16 z → without_sign z < 2 ^ 16
unsigned-below z h = omega (arith, ints)

-- ---- what was written is read

-- a header that its bytes can tell
record FitsHeader (h : Header) : Type 0 where
  kind : h.kind < 2 ^ 16
  priority : h.priority < 2 ^ 16
  bits : h.bits < 2 ^ 64
  size : h.size < 2 ^ 16

header_fits : (m : Outgoing) → Fits m → FitsHeader (header_of m)
header_fits m fits = record {
  kind = unsigned-below m.kind fits.kind;
  priority = unsigned-below m.priority fits.priority;
  bits = fits.bits;
  size = fits.payload;
}

header_in-bytes : (h : Header) (rest : List ℕ) → FitsHeader h
    → header_in (word h.kind ++ (word h.priority ++ (long h.bits ++ (word h.size ++ rest))))
    ≡ Some (h, rest)
unfolding header_in
header_in-bytes h rest fits =
    ap (option_and_then (λ kind. option_and_then (λ priority. option_and_then
    (λ bits. option_map (λ size. headed kind.0 priority.0 bits.0 size) (take_word bits.1))
    (take_long priority.1)) (take_word kind.1))) (take_word-word h.kind _ fits.kind)
    ∙ (ap (option_and_then (λ priority. option_and_then
    (λ bits. option_map (λ size. headed h.kind priority.0 bits.0 size) (take_word bits.1))
    (take_long priority.1))) (take_word-word h.priority _ fits.priority)
    ∙ (ap (option_and_then (λ bits. option_map (λ size. headed h.kind h.priority bits.0 size)
    (take_word bits.1))) (take_long-long h.bits _ fits.bits)
    ∙ ap (option_map (λ size. headed h.kind h.priority h.bits size))
    (take_word-word h.size rest fits.size)))

header_in-header : (h : Header) (rest : List ℕ) → FitsHeader h
    → header_in (header_bytes h ++ rest) ≡ Some (h, rest)
unfolding header_bytes
header_in-header h rest fits = simp append_assoc (header_in-bytes h rest fits)

with_payload-is : (m : Outgoing) (rest : List ℕ) → Fits m
    → with_payload (header_of m, m.payload ++ rest) ≡ Some (m, rest)
with_payload-is m rest fits =
    let there : IsTrue (nat_le (length m.payload) (length (m.payload ++ rest))) =
    le-leb _ _ (omega (arith, length-append {A = ℕ})) in
    let made : ℤ → ℤ → List ℕ → List ℕ → Option (Outgoing × List ℕ) =
    λ kind priority payload behind.
    Some (record { kind = kind; priority = priority; bits = m.bits; payload = payload }, behind) in
    let payload : List ℕ = take (length m.payload) (m.payload ++ rest) in
    let behind : List ℕ = drop (length m.payload) (m.payload ++ rest) in
    ap (λ b. if b then made (with_sign (without_sign m.kind)) (with_sign (without_sign m.priority))
    payload behind else None) there
    ∙ (ap (λ z. made z (with_sign (without_sign m.priority)) payload behind)
    (to_z-of_z w16 m.kind fits.kind)
    ∙ (ap (λ z. made m.kind z payload behind) (to_z-of_z w16 m.priority fits.priority)
    ∙ (ap (λ p. made m.kind m.priority p behind) (take_at m.payload rest (length m.payload) refl)
    ∙ ap (made m.kind m.priority m.payload) (drop_at m.payload rest (length m.payload) refl))))

pub front_of-message : (m : Outgoing) (rest : List ℕ) → Fits m
    → front_of (message_bytes m ++ rest) ≡ Some (m, rest)
unfolding front_of message_bytes
front_of-message m rest fits =
    ap (λ bytes. option_and_then with_payload (header_in bytes))
    (append_assoc (header_bytes (header_of m)) m.payload rest)
    ∙ (ap (option_and_then with_payload)
    (header_in-header (header_of m) (m.payload ++ rest) (header_fits m fits))
    ∙ with_payload-is m rest fits)

-- a message has a byte at least, so its bytes are not none
some_byte : (m : Outgoing) (rest : List ℕ) (messages : State → Option (List Outgoing))
    → messages_by messages (message_bytes m ++ rest)
    ≡ behind_front messages (front_of (message_bytes m ++ rest))
unfolding message_bytes header_bytes word
some_byte m rest messages = refl

messages_in-message : (most : ℕ) (m : Outgoing) (rest : List ℕ) → Fits m
    → messages_in (suc most) (message_bytes m ++ rest)
    ≡ option_map (λ ms. m ∷ ms) (messages_in most rest)
messages_in-message most m rest fits =
    some_byte m rest (messages_in most)
    ∙ ap (behind_front (messages_in most)) (front_of-message m rest fits)

messages_in-bytes : (most : ℕ) (ms : List Outgoing) → length ms ≤ most → AllFit ms
    → messages_in most (flat_map message_bytes ms) ≡ Some ms
messages_in-bytes zero [] h fit = refl
messages_in-bytes (suc most) [] h fit = refl
messages_in-bytes zero (m ∷ ms) h fit = absurd (omega arith)
messages_in-bytes (suc most) (m ∷ ms) h fit =
    messages_in-message most m (flat_map message_bytes ms) fit.0
    ∙ ap (option_map (λ more. m ∷ more)) (messages_in-bytes most ms (omega arith) fit.1)

message_bytes-length : (m : Outgoing) → 1 ≤ length (message_bytes m)
unfolding message_bytes header_bytes word
message_bytes-length m = omega arith

bytes-length : (ms : List Outgoing) → length ms ≤ length (flat_map message_bytes ms)
bytes-length [] = omega arith
bytes-length (m ∷ ms) = omega (
  arith,
  bytes-length ms,
  message_bytes-length m,
  length-append (message_bytes m) (flat_map message_bytes ms),
)

pub held_reads_back : (ms : List Outgoing) → AllFit ms → read_held (bytes_of ms) ≡ Some ms
unfolding read_held bytes_of
held_reads_back ms fit = messages_in-bytes _ ms (bytes-length ms) fit

-- ---- what is read fits

pub can_be_held-fits : (m : Message) → IsTrue (can_be_held m) → Fits (kept m)
can_be_held-fits m h = record {
  kind = grind (arith, ints);
  priority = grind (arith, ints);
  bits = grind arith;
  payload = grind arith;
}

abbrev OnHeader : Option (Header × List ℕ) → Type 0
OnHeader None = Unit {0}
OnHeader (Some p) = FitsHeader p.0

sizes-fit : (kind priority bits : ℕ) → kind < 2 ^ 16
    → priority < 2 ^ 16 → bits < 2 ^ 64 → (size : Option (ℕ × List ℕ)) → IsBelow (2 ^ 16) size
    → OnHeader (option_map (λ s. headed kind priority bits s) size)
sizes-fit kind priority bits k p b None h = tt
sizes-fit kind priority bits k p b (Some size) h =
    record { kind = k; priority = p; bits = b; size = h }

bits-fit : (kind priority : ℕ) → kind < 2 ^ 16 → priority < 2 ^ 16
    → (bits : Option (ℕ × List ℕ)) → IsBelow (2 ^ 64) bits → OnHeader
    (option_and_then (λ b. option_map (λ s. headed kind priority b.0 s) (take_word b.1)) bits)
bits-fit kind priority k p None h = tt
bits-fit kind priority k p (Some bits) h =
    sizes-fit kind priority bits.0 k p h (take_word bits.1) (take_word-below bits.1)

priority-fits : (kind : ℕ) → kind < 2 ^ 16 → (priority : Option (ℕ × List ℕ))
    → IsBelow (2 ^ 16) priority → OnHeader (option_and_then (λ p. option_and_then
    (λ b. option_map (λ s. headed kind p.0 b.0 s) (take_word b.1)) (take_long p.1)) priority)
priority-fits kind k None h = tt
priority-fits kind k (Some priority) h =
    bits-fit kind priority.0 k h (take_long priority.1) (take_long-below priority.1)

kind-fits : (kind : Option (ℕ × List ℕ)) → IsBelow (2 ^ 16) kind
    → OnHeader (option_and_then (λ k. option_and_then (λ p. option_and_then (λ b. option_map
    (λ s. headed k.0 p.0 b.0 s) (take_word b.1)) (take_long p.1)) (take_word k.1)) kind)
kind-fits None h = tt
kind-fits (Some kind) h = priority-fits kind.0 h (take_word kind.1) (take_word-below kind.1)

header_in-fits : (state : State) → OnHeader (header_in state)
unfolding header_in
header_in-fits state = kind-fits (take_word state) (take_word-below state)

abbrev OnFront : Option (Outgoing × List ℕ) → Type 0
OnFront None = Unit {0}
OnFront (Some p) = Fits p.0

signed-fits : (n : ℕ) → n < 2 ^ 16 → FitsSigned w16 (with_sign n)
signed-fits n h = omega (arith, ints)

payload-fits : (there : Bool) (p : Header × List ℕ) → FitsHeader p.0 → OnFront (if there
    then Some (
      record {
        kind = with_sign p.0.kind;
        priority = with_sign p.0.priority;
        bits = p.0.bits;
        payload = take p.0.size p.1;
      },
      drop p.0.size p.1,
    ) else None)
payload-fits false p h = tt
payload-fits true p h = record {
  kind = signed-fits p.0.kind h.kind;
  priority = signed-fits p.0.priority h.priority;
  bits = h.bits;
  payload = omega (arith, length-take p.0.size p.1, h.size);
}

front-fits : (header : Option (Header × List ℕ)) → OnHeader header
    → OnFront (option_and_then with_payload header)
front-fits None h = tt
front-fits (Some p) h = payload-fits (nat_le p.0.size (length p.1)) p h

front_of-fits : (state : State) → OnFront (front_of state)
unfolding front_of
front_of-fits state = front-fits (header_in state) (header_in-fits state)

abbrev OnMessages : Option (List Outgoing) → Type 0
OnMessages None = Unit {0}
OnMessages (Some ms) = AllFit ms

one_more-fits : (m : Outgoing) → Fits m → (ms : Option (List Outgoing)) → OnMessages ms
    → OnMessages (option_map (λ more. m ∷ more) ms)
one_more-fits m fits None h = tt
one_more-fits m fits (Some ms) h = (fits, h)

behind-fits : (messages : State → Option (List Outgoing)) → ((s : State) → OnMessages (messages s))
    → (front : Option (Outgoing × List ℕ)) → OnFront front
    → OnMessages (behind_front messages front)
behind-fits messages all None h = tt
behind-fits messages all (Some p) h = one_more-fits p.0 h (messages p.1) (all p.1)

messages_by-fit : (messages : State → Option (List Outgoing))
    → ((s : State) → OnMessages (messages s)) → (state : State)
    → OnMessages (messages_by messages state)
messages_by-fit messages all [] = tt
messages_by-fit messages all (b ∷ bs) =
    behind-fits messages all (front_of (b ∷ bs)) (front_of-fits (b ∷ bs))

messages_in-fit : (most : ℕ) (state : State) → OnMessages (messages_in most state)
messages_in-fit zero state = messages_by-fit (λ rest. None) (λ s. tt) state
messages_in-fit (suc most) state = messages_by-fit (messages_in most) (messages_in-fit most) state

pub held_are_read : (state : State) (ms : List Outgoing) → read_held state ≡ Some ms → AllFit ms
unfolding read_held
held_are_read state ms e = subst OnMessages e (messages_in-fit (length state) state)

-- ---- where no message is at the front of what is left, nothing is left

none_behind : (messages : State → Option (List Outgoing)) (left : State) → front_of left ≡ None
    → IsTrue (is_some (messages_by messages left)) → left ≡ []
none_behind messages [] e h = refl
none_behind messages (b ∷ bs) e h =
    absurd (false≢true (ap (λ front. is_some (behind_front messages front)) (sym e) ∙ h))

is_some-map : (f : List Outgoing → List Outgoing) (o : Option (List Outgoing))
    → is_some (option_map f o) ≡ is_some o
is_some-map f None = refl
is_some-map f (Some ms) = refl

none_left_in : (most : ℕ) (ms : List Outgoing) (left : State) → AllFit ms → front_of left ≡ None
    → IsTrue (is_some (messages_in most (flat_map message_bytes ms ++ left))) → left ≡ []
none_left_in zero [] left fit e h = none_behind (λ rest. None) left e h
none_left_in (suc most) [] left fit e h = none_behind (messages_in most) left e h
none_left_in zero (m ∷ ms) left fit e h =
    let rest : State = flat_map message_bytes ms ++ left in
    let none : messages_in zero (message_bytes m ++ rest) ≡ None = some_byte m rest (λ rest. None)
    ∙ ap (behind_front (λ rest. None)) (front_of-message m rest fit.0) in
    let there : IsTrue (is_some (messages_in zero (message_bytes m ++ rest))) =
    subst (λ bytes. IsTrue (is_some (messages_in zero bytes)))
    (append_assoc (message_bytes m) (flat_map message_bytes ms) left) h in
    absurd (false≢true (ap is_some (sym none) ∙ there))
none_left_in (suc most) (m ∷ ms) left fit e h =
    let rest : State = flat_map message_bytes ms ++ left in
    let there : IsTrue (is_some (messages_in (suc most) (message_bytes m ++ rest))) =
    subst (λ bytes. IsTrue (is_some (messages_in (suc most) bytes)))
    (append_assoc (message_bytes m) (flat_map message_bytes ms) left) h in
    none_left_in most ms left fit.1 e (sym (is_some-map (λ more. m ∷ more) (messages_in most rest))
    ∙ (ap is_some (sym (messages_in-message most m rest fit.0)) ∙ there))

pub none_left : (ms : List Outgoing) (left state : State) → bytes_of ms ++ left ≡ state → AllFit ms
    → front_of left ≡ None → IsTrue (is_some (read_held state)) → bytes_of ms ≡ state
unfolding read_held bytes_of
none_left ms left state made fit e h =
    let here : IsTrue (is_some (messages_in (length state) (flat_map message_bytes ms ++ left))) =
    subst (λ bytes. IsTrue (is_some (messages_in (length state) bytes))) (sym made) h in
    let empty : left ≡ [] = none_left_in (length state) ms left fit e here in
    sym (append-nil (flat_map message_bytes ms))
    ∙ (ap (λ l. flat_map message_bytes ms ++ l) (sym empty) ∙ made)

-- ---- one more

pub all_fit_push : (ms : List Outgoing) (m : Outgoing) → AllFit ms → Fits m → AllFit (ms ++ m ∷ [])
all_fit_push [] m fit fits = (fits, tt)
all_fit_push (x ∷ ms) m fit fits = (fit.0, all_fit_push ms m fit.1 fits)

pub bytes_of-push : (ms : List Outgoing) (m : Outgoing)
    → bytes_of (ms ++ m ∷ []) ≡ bytes_of ms ++ message_bytes m
unfolding bytes_of
bytes_of-push [] m = append-nil (message_bytes m)
bytes_of-push (x ∷ ms) m = ap (λ bytes. message_bytes x ++ bytes) (bytes_of-push ms m)
    ∙ sym (append_assoc (message_bytes x) (flat_map message_bytes ms) (message_bytes m))

pub bytes_of-cons : (m : Outgoing) (ms : List Outgoing)
    → bytes_of (m ∷ ms) ≡ message_bytes m ++ bytes_of ms
unfolding bytes_of
bytes_of-cons m ms = refl

pub bytes_of-nil : bytes_of [] ≡ []
unfolding bytes_of
bytes_of-nil = refl

-- ---- each of those that fit fits

pub fits_at : (ms : List Outgoing) (i : ℕ) (d : Outgoing) → i < length ms → AllFit ms
    → Fits (get_or ms i d)
fits_at [] i d h fit = absurd (omega arith)
fits_at (m ∷ ms) zero d h fit = fit.0
fits_at (m ∷ ms) (suc i) d h fit = fits_at ms i d (omega arith) fit.1

pub message_bytes-some : (m : Outgoing) (rest left : State) → message_bytes m ++ rest ≡ left
    → length rest < length left
message_bytes-some m rest left e =
    omega (arith, ap length e, length-append (message_bytes m) rest, message_bytes-length m)
