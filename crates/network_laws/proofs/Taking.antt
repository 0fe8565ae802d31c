-- A Receiver takes frames 0, 1, 2, ..
use Rattle.std.proofs.Common.{◌≡◌, ◌∙◌, ◌⊎◌, inl, inr, ℕ, ℤ, pos, zero, suc, ◌+◌, ◌<◌, ◌==◌, ◌&&◌, Bool, true, false, List, [], ◌∷◌, ◌++◌, length, map, Option, Some, None, codes, IsTrue, refl, sym, ap, subst, arith, append_assoc, append-nil, eqb-true}
use Rattle.std.specs.List.{range_with_len}
use Rattle.std.specs.Ordering.{int_eq}
use Rattle.module_api.specs.declared.call.Call.{Call}
use Rattle.module_api.specs.declared.call.CallReason.{CallReason}
use Rattle.module_api.specs.declared.call.CallReason.TheVariants as prompt
use Rattle.module_api.specs.declared.message.Message.{Message}
use Rattle.module_api.specs.declared.reply.Action.{Action}
use Rattle.module_parts.specs.Cues.{is_from}
use Rattle.module_parts.specs.Numbers.{limit, next_number}
use Rattle.module_network.specs.declared.frame.Frame.{Frame}
use Rattle.module_parts.specs.declared.pairs.Pair.{Pair}
use Rattle.module_network.specs.declared.receiver.Receiver.{Receiver}
use Rattle.module_network.specs.Frames.{frame_in}
use Rattle.module_network.specs.Meter.{delay_emitted, delay_in}
use Rattle.module_network.specs.Receiver.{having, next_of, taken_by, framed_heard, heard, told_by, receiver_script}
use Rattle.network_laws.specs.Played.{answered, turns_from, left_from, Each, values_in, emitted}
use Rattle.network_laws.specs.Taken.{counted, number_told, TakesWhatComes}
use Rattle.network_laws.proofs.Ends.{EndsAs, told_ends, by_verdict}

-- ---- one call

abbrev received : List Action → List ℤ
received actions = values_in (codes "received") actions

-- nothing is taken, or the frame that comes, which is the one waited for
abbrev Takes : ℕ → Option ℤ → List Action → Receiver → Type 0
Takes first number actions next =
    ((received actions ≡ []) × (next.taken.first ≡ first))
    ⊎ ((received actions ≡ pos first ∷ []) × ((next.taken.first ≡ next_number first) × (number ≡ Some (pos first))))

with_delay : (delay : Option ℕ) (rest : List Action) → received (delay_emitted delay ++ rest) ≡ received rest
with_delay None rest = refl
with_delay (Some delay) rest = refl

taken-takes : (is_next : Bool) (p : Pair) (now : ℕ) (m : Message) (f : Frame) (call : Call) → (IsTrue is_next → f.number ≡ p.first)
    → EndsAs (Takes p.first (Some (pos f.number))) call (taken_by is_next p now m f)
taken-takes true p now m f call same = λ length e.
    by_verdict (Takes p.first (Some (pos f.number))) _ _ (having p) (having (next_of true p m.bits))
    (inl (refl, refl)) (λ name. inl (refl, refl))
    (inr (ap (λ vs. pos p.first ∷ vs) (with_delay (delay_in now (frame_in m.payload)) _), (refl, ap (λ n. Some (pos n)) (same refl))))
taken-takes false p now m f call same = λ length e.
    by_verdict (Takes p.first (Some (pos f.number))) _ _ (having p) (having (next_of false p m.bits))
    (inl (refl, refl)) (λ name. inl (refl, refl)) (inl (refl, refl))

framed-takes : (f : Option Frame) (r : Receiver) (now : ℕ) (m : Message) (call : Call) → frame_in m.payload ≡ f
    → EndsAs (Takes r.taken.first (number_told (prompt.Message m))) call (framed_heard f r now m)
framed-takes None r now m call e = inl (refl, refl)
framed-takes (Some f) r now m call e =
    subst (λ (g : Option Frame). EndsAs (Takes r.taken.first (number_in g)) call (framed_heard (Some f) r now m)) (sym e)
    (taken-takes (f.number == r.taken.first) r.taken now m f call (λ t. eqb-true f.number r.taken.first t))
  where
    number_in : Option Frame → Option ℤ
    number_in None = None
    number_in (Some g) = Some (pos g.number)

heard-takes : (hears : Bool) (r : Receiver) (now : ℕ) (m : Message) (call : Call)
    → EndsAs (Takes r.taken.first (number_told (prompt.Message m))) call (heard hears r now m)
heard-takes true r now m call = framed-takes (frame_in m.payload) r now m call refl
heard-takes false r now m call = inl (refl, refl)

told-takes : (p : CallReason) (r : Receiver) (now : ℕ) (call : Call) → EndsAs (Takes r.taken.first (number_told p)) call (told_by p r now)
told-takes (prompt.Initialize stage) r now call = inl (refl, refl)
told-takes (prompt.Message m) r now call = heard-takes (is_from (codes "in") m.origin && int_eq m.kind (pos 0)) r now m call
told-takes prompt.Finish r now call = inl (refl, refl)

one_taken : (r : Receiver) (call : Call) → Takes r.taken.first (number_told call.prompt) (answered receiver_script r call).reply.actions (answered receiver_script r call).state
unfolding receiver_script
one_taken r call = told_ends (Takes r.taken.first (number_told call.prompt)) (told_by call.prompt r call.time) call (told-takes call.prompt r call.time call)

-- ---- all calls

range_more : (a n : ℕ) → range_with_len a (suc n) ≡ range_with_len a n ++ (a + n) ∷ []
range_more a zero = let e : a ≡ a + 0 = omega arith in ap (λ k. k ∷ []) e
range_more a (suc n) = let e : a + 1 + n ≡ a + suc n = omega arith in ap (λ ns. a ∷ ns) (range_more (a + 1) n ∙ ap (λ k. range_with_len (a + 1) n ++ k ∷ []) e)

map_more : (ns : List ℕ) (n : ℕ) → map pos (ns ++ n ∷ []) ≡ map pos ns ++ pos n ∷ []
map_more [] n = refl
map_more (k ∷ ns) n = ap (λ is. pos k ∷ is) (map_more ns n)

pub counted_more : (n : ℕ) → counted (suc n) ≡ counted n ++ pos n ∷ []
counted_more n = let e : 0 + n ≡ n = omega arith in ap (map pos) (range_more 0 n ∙ ap (λ k. range_with_len 0 n ++ k ∷ []) e) ∙ map_more (range_with_len 0 n) n

-- one call more, before the others
order_step : (a left end : ℕ) (number : Option ℤ) (actions : List Action) (next : Receiver) (rest : List ℤ)
    → Takes a number actions next → a + suc left < limit
    → (next.taken.first + left < limit → counted next.taken.first ++ rest ≡ counted end)
    → counted a ++ (received actions ++ rest) ≡ counted end
order_step a left end number actions next rest (inl (e, same)) room goes_on =
    let there : next.taken.first + left < limit = omega (arith, same) in
    ap (λ vs. counted a ++ (vs ++ rest)) e ∙ (ap (λ k. counted k ++ rest) (sym same) ∙ goes_on there)
order_step a left end number actions next rest (inr (e, (more, own))) room goes_on =
    let next_is : next.taken.first ≡ suc a = omega (arith, more) in
    let there : next.taken.first + left < limit = omega (arith, next_is) in
    ap (λ vs. counted a ++ (vs ++ rest)) e
    ∙ (sym (append_assoc (counted a) (pos a ∷ []) rest)
    ∙ (ap (λ vs. vs ++ rest) (sym (counted_more a) ∙ ap counted (sym next_is)) ∙ goes_on there))

order_from : (r : Receiver) (calls : List Call) → r.taken.first + length calls < limit
    → counted r.taken.first ++ emitted (codes "received") (turns_from receiver_script r calls) ≡ counted (left_from receiver_script r calls).taken.first
order_from r [] room = append-nil (counted r.taken.first)
order_from r (call ∷ calls) room =
    order_step r.taken.first (length calls) (left_from receiver_script r (call ∷ calls)).taken.first (number_told call.prompt)
    (answered receiver_script r call).reply.actions (answered receiver_script r call).state
    (emitted (codes "received") (turns_from receiver_script (answered receiver_script r call).state calls))
    (one_taken r call) room (λ there. order_from (answered receiver_script r call).state calls there)

pub taken_in_order : (calls : List Call) → length calls < limit
    → emitted (codes "received") (turns_from receiver_script receiver_script.initial calls) ≡ counted (left_from receiver_script receiver_script.initial calls).taken.first
unfolding receiver_script
taken_in_order calls room = let there : 0 + length calls < limit = omega (arith, room) in order_from receiver_script.initial calls there

own_number : (a : ℕ) (number : Option ℤ) (actions : List Action) (next : Receiver) → Takes a number actions next → Each (λ (i : ℤ). number ≡ Some i) (received actions)
own_number a number actions next (inl (e, same)) = subst (Each (λ (i : ℤ). number ≡ Some i)) (sym e) tt
own_number a number actions next (inr (e, (more, own))) = subst (Each (λ (i : ℤ). number ≡ Some i)) (sym e) (own, tt)

own_from : (r : Receiver) (calls : List Call) → Each TakesWhatComes (turns_from receiver_script r calls)
own_from r [] = tt
own_from r (call ∷ calls) = (
  own_number r.taken.first (number_told call.prompt) (answered receiver_script r call).reply.actions (answered receiver_script r call).state (one_taken r call),
  own_from (answered receiver_script r call).state calls,
)

pub own_are_taken : (calls : List Call) → Each TakesWhatComes (turns_from receiver_script receiver_script.initial calls)
own_are_taken calls = own_from receiver_script.initial calls
