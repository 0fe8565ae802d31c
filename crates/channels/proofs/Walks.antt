-- Where walks lead.
use Rattle.std.proofs.Common.{◌≡◌, ◌⊎◌, inl, inr, ⊎_elim, eqb-true, ℕ, ◌+◌, ◌-◌, ◌*◌, ◌/◌, ◌<◌, ◌≤◌, ◌==◌, nat_le, nat_lt, Bool, true, false, List, [], ◌∷◌, Option, Some, None, Result, Ok, Err, refl, sym, ap, ◌∙◌, arith, if◌then◌else◌}
use Rattle.std.proofs.lemmas.Bool.Decides.{nat_tests}
use Rattle.sim_time.specs.Time.{greatest, time_sum}
use Rattle.model_questions.specs.declared.answer.Channel.{Channel}
use Rattle.channels.specs.declared.travels.ChannelFault.{ChannelFault}
use Rattle.channels.specs.declared.travels.ChannelFault.TheVariants.{Busy, TwoTransmissionChannels}
use Rattle.channels.specs.declared.travels.Travel.{Travel}
use Rattle.channels.specs.declared.travels.Travel.TheVariants.{Arrival, Lost}
use Rattle.channels.specs.declared.travels.Way.{Way}
use Rattle.channels.specs.Travel.{is_transmission, transmissions, duration_of, is_busy, and_on, transmitted_until, transmitted, sent_on, reaches, delayed, passed, arrives_at, walked, departing, travel}
use Rattle.channels.specs.Laws.{delays, durations, AllEnabled, AnyDisabled}

sum_by_test : (b : Bool) (n x : ℕ) → (if b then Some n else None) ≡ Some x → x ≡ n
sum_by_test true n x h = cc
sum_by_test false n x h = cc

sum_is : (a b x : ℕ) → time_sum a b ≡ Some x → x ≡ a + b
sum_is a b x h = sum_by_test (nat_le (a + b) greatest) (a + b) x h

-- from the first place on the way to the second: so much later, with that transmission
record Goes (u v : Way) (later duration : ℕ) : Type 0 where
  time : v.time ≡ u.time + later
  taken : v.duration ≡ duration

delayed_by : (o : Option ℕ) (c : Channel) (way v : Way) → time_sum way.time c.delay ≡ o → reaches way o ≡ Ok v → Goes way v c.delay way.duration
delayed_by None c way v e h = cc
delayed_by (Some t) c way v e h =
    let is : record { time = t; duration = way.duration; busy_until = way.busy_until } ≡ v = cc in
    record { time = sym (ap (λ (x : Way). x.time) is) ∙ sum_is way.time c.delay t e; taken = sym (ap (λ (x : Way). x.duration) is) }

transmitted_by : (o : Option ℕ) (d : ℕ) (way v : Way) → transmitted_until d way o ≡ Ok v → Goes way v 0 d
transmitted_by None d way v h = cc
transmitted_by (Some t) d way v h =
    let is : record { time = way.time; duration = d; busy_until = Some t } ≡ v = cc in
    let same = sym (ap (λ (x : Way). x.time) is) in
    record { time = omega (arith, same); taken = sym (ap (λ (x : Way). x.duration) is) }

busy_by : (b : Bool) (d : ℕ) (way v : Way) (o : Option ℕ) → (if b then Err Busy else transmitted_until d way o) ≡ Ok v → Goes way v 0 d
busy_by true d way v o h = cc
busy_by false d way v o h = transmitted_by o d way v h

-- how long the transmission takes after a channel
abbrev taken_by : Bool → ℕ → ℕ → ℕ
taken_by true d old = d
taken_by false d old = old

sent_by : (b : Bool) (c : Channel) (bits : ℕ) (busy : Option ℕ) (way v : Way) → (if b then transmitted c.datarate bits busy way else Ok way) ≡ Ok v → Goes way v 0 (taken_by b (duration_of bits c.datarate) way.duration)
sent_by true c bits busy way v h = busy_by (is_busy way.time busy) (duration_of bits c.datarate) way v (time_sum way.time (duration_of bits c.datarate)) h
sent_by false c bits busy way v h =
    let is : way ≡ v = cc in
    let same = sym (ap (λ (x : Way). x.time) is) in
    record { time = omega (arith, same); taken = sym (ap (λ (x : Way). x.duration) is) }

passed_by : (r : Result Way ChannelFault) (c : Channel) (bits : ℕ) (busy : Option ℕ) (way v : Way) → sent_on c bits busy way ≡ r → and_on r (delayed c) ≡ Ok v → Goes way v c.delay (taken_by (is_transmission c) (duration_of bits c.datarate) way.duration)
passed_by (Err fault) c bits busy way v e h = cc
passed_by (Ok u) c bits busy way v e h =
    let one = sent_by (is_transmission c) c bits busy way u e in
    let two = delayed_by (time_sum u.time c.delay) c u v refl h in
    record { time = omega (arith, one.time, two.time); taken = two.taken ∙ one.taken }

-- ---- whole walks

arrives_by : (o : Option ℕ) (way : Way) (t : ℕ) (until : Option ℕ) → time_sum way.time way.duration ≡ o → arrives_at way o ≡ Ok (Arrival t until) → t ≡ way.time + way.duration
arrives_by None way t until e h = cc
arrives_by (Some s) way t until e h = let is : s ≡ t = cc in sym is ∙ sum_is way.time way.duration s e

lost_by : (o : Option ℕ) (way : Way) (until : Option ℕ) → arrives_at way o ≡ Ok (Lost until) → ⊥
lost_by None way until h = cc
lost_by (Some s) way until h = cc

module _ (bits : ℕ) (busy until : Option ℕ) where
  -- what is known where the walk goes on over a channel
  on_by : (off : Bool) (c : Channel) (cs : List Channel) (way : Way) (r : Result Way ChannelFault) (x : Travel) → passed c bits busy way ≡ r
      → (if off then Ok (Lost way.busy_until) else and_on r (walked bits busy cs)) ≡ Ok x
      → ((off ≡ true) × (Lost way.busy_until ≡ x)) ⊎ ((off ≡ false) × ((v : Way) × (Goes way v c.delay (taken_by (is_transmission c) (duration_of bits c.datarate) way.duration)) × (walked bits busy cs v ≡ Ok x)))
  on_by true c cs way r x e h = inl (refl, cc)
  on_by false c cs way (Err fault) x e h = cc
  on_by false c cs way (Ok v) x e h = inr (refl, (v, passed_by (sent_on c bits busy way) c bits busy way v refl e, h))

  not_lost : (u : Option ℕ) (t : ℕ) → Lost u ≡ Arrival t until → ⊥
  not_lost u t h = cc

  not_arrived : (u : Option ℕ) (t : ℕ) → Arrival t u ≡ Lost until → ⊥
  not_arrived u t h = cc

  enabled : (t : ℕ) (hops : List Channel) (way : Way) → walked bits busy hops way ≡ Ok (Arrival t until) → AllEnabled hops
  enabled t [] way h = tt
  enabled t (c ∷ cs) way h = ⊎_elim (λ (l : (c.disabled ≡ true) × (Lost way.busy_until ≡ Arrival t until)). absurd (not_lost way.busy_until t l.1))
      (λ (r : (c.disabled ≡ false) × ((v : Way) × (Goes way v c.delay (taken_by (is_transmission c) (duration_of bits c.datarate) way.duration)) × (walked bits busy cs v ≡ Ok (Arrival t until)))). (r.0, enabled t cs r.1.0 r.1.2))
      (on_by c.disabled c cs way (passed c bits busy way) (Arrival t until) refl h)

  lost : (hops : List Channel) (way : Way) → walked bits busy hops way ≡ Ok (Lost until) → AnyDisabled hops
  lost [] way h = lost_by (time_sum way.time way.duration) way until h
  lost (c ∷ cs) way h = ⊎_elim (λ (l : (c.disabled ≡ true) × (Lost way.busy_until ≡ Lost until)). inl l.0)
      (λ (r : (c.disabled ≡ false) × ((v : Way) × (Goes way v c.delay (taken_by (is_transmission c) (duration_of bits c.datarate) way.duration)) × (walked bits busy cs v ≡ Ok (Lost until)))). inr (lost cs r.1.0 r.1.2))
      (on_by c.disabled c cs way (passed c bits busy way) (Lost until) refl h)

  -- one channel more, where at most one has a datarate
  add_up : (b : Bool) (t time later old d n v_time v_taken ds rest : ℕ) → (if b then 1 else 0) + n ≤ 1 → (0 < (if b then 1 else 0) + n → old ≡ 0) → v_time ≡ time + later → v_taken ≡ taken_by b d old
      → ((n ≤ 1) × (0 < n → v_taken ≡ 0) → t ≡ v_time + v_taken + (ds + rest)) → t ≡ time + old + ((later + ds) + ((if b then d else 0) + rest))
  add_up true t time later old d n v_time v_taken ds rest few none one two ih =
      let zero_old : old ≡ 0 = none (omega arith) in
      let no_more : n ≡ 0 = omega (arith, few) in
      let e = ih (omega (arith, no_more), (λ h. absurd (omega (arith, h, no_more)))) in
      omega (arith, e, one, two, zero_old)
  add_up false t time later old d n v_time v_taken ds rest few none one two ih =
      let e = ih (omega (arith, few), (λ h. two ∙ none (omega (arith, h)))) in
      omega (arith, e, one, two)

  arrival_time : (t : ℕ) (hops : List Channel) (way : Way) → transmissions hops ≤ 1 → (0 < transmissions hops → way.duration ≡ 0) → walked bits busy hops way ≡ Ok (Arrival t until) → t ≡ way.time + way.duration + (delays hops + durations bits hops)
  arrival_time t [] way few none h = let e = arrives_by (time_sum way.time way.duration) way t until refl h in omega (arith, e)
  arrival_time t (c ∷ cs) way few none h = ⊎_elim (λ (l : (c.disabled ≡ true) × (Lost way.busy_until ≡ Arrival t until)). absurd (not_lost way.busy_until t l.1))
      (λ (r : (c.disabled ≡ false) × ((v : Way) × (Goes way v c.delay (taken_by (is_transmission c) (duration_of bits c.datarate) way.duration)) × (walked bits busy cs v ≡ Ok (Arrival t until)))).
      add_up (is_transmission c) t way.time c.delay way.duration (duration_of bits c.datarate) (transmissions cs) r.1.0.time r.1.0.duration (delays cs) (durations bits cs) few none r.1.1.time r.1.1.taken
      (λ p. arrival_time t cs r.1.0 p.0 p.1 r.1.2))
      (on_by c.disabled c cs way (passed c bits busy way) (Arrival t until) refl h)

-- ---- travels

one_by : (b : Bool) (n : ℕ) (r : Result Travel ChannelFault) (x : Travel) → nat_lt 1 n ≡ b → (if b then Err TwoTransmissionChannels else r) ≡ Ok x → (n ≤ 1) × (r ≡ Ok x)
one_by true n r x e h = cc
one_by false n r x e h = (grind (arith, nat_tests), h)

pub travel_time : (hops : List Channel) (departure bits : ℕ) (busy until : Option ℕ) (time : ℕ) → travel hops departure bits busy ≡ Ok (Arrival time until) → time ≡ departure + delays hops + durations bits hops
travel_time hops departure bits busy until time h =
    let p = one_by (nat_lt 1 (transmissions hops)) (transmissions hops) (walked bits busy hops (departing departure)) (Arrival time until) refl h in
    let e = arrival_time bits busy until time hops (departing departure) p.0 (λ l. refl) p.1 in
    omega (arith, e)

pub travel_enabled : (hops : List Channel) (departure bits : ℕ) (busy until : Option ℕ) (time : ℕ) → travel hops departure bits busy ≡ Ok (Arrival time until) → AllEnabled hops
travel_enabled hops departure bits busy until time h =
    enabled bits busy until time hops (departing departure) (one_by (nat_lt 1 (transmissions hops)) (transmissions hops) (walked bits busy hops (departing departure)) (Arrival time until) refl h).1

pub travel_lost : (hops : List Channel) (departure bits : ℕ) (busy until : Option ℕ) → travel hops departure bits busy ≡ Ok (Lost until) → AnyDisabled hops
travel_lost hops departure bits busy until h =
    lost bits busy until hops (departing departure) (one_by (nat_lt 1 (transmissions hops)) (transmissions hops) (walked bits busy hops (departing departure)) (Lost until) refl h).1

-- ---- durations

ceil_enough : (a r : ℕ) → 0 < r → a ≤ r * ((a + (r - 1)) / r)
ceil_enough a r lt = omega arith

ceil_least : (a r : ℕ) → 0 < r → r * ((a + (r - 1)) / r) < a + r
ceil_least a r lt = omega arith

rate_by : (b : Bool) (bits rate : ℕ) → (rate == 0) ≡ b → 0 < rate → duration_of bits rate ≡ (bits * 1000000000000 + (rate - 1)) / rate
rate_by true bits rate e lt = let same = eqb-true rate 0 e in absurd (omega (arith, same, lt))
rate_by false bits rate e lt = rw e refl

pub enough : (bits rate : ℕ) → 0 < rate → bits * 1000000000000 ≤ rate * duration_of bits rate
enough bits rate lt = rw (rate_by (rate == 0) bits rate refl lt) (ceil_enough (bits * 1000000000000) rate lt)

pub least : (bits rate : ℕ) → 0 < rate → rate * duration_of bits rate < bits * 1000000000000 + rate
least bits rate lt = rw (rate_by (rate == 0) bits rate refl lt) (ceil_least (bits * 1000000000000) rate lt)
