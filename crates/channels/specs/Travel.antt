-- How a message travels over the channels of its path (OMNeT++ Simulation Manual, "Channels").
use Rattle.std.specs.Prelude.{ℕ, ◌+◌, ◌-◌, ◌*◌, ◌/◌, ◌==◌, nat_lt, Bool, true, false, List, [], ◌∷◌}
use Rattle.std.specs.Prelude.{Option, Some, None, Result, Ok, Err, if◌then◌else◌}
use Rattle.sim_time.specs.Time.{time_sum}
use Rattle.model_questions.specs.declared.answer.Channel.{Channel}
use Rattle.channels.specs.declared.travels.ChannelFault.{ChannelFault}
use Rattle.channels.specs.declared.travels.ChannelFault.TheVariants.{Busy, TwoTransmissionChannels}
use Rattle.channels.specs.declared.travels.ChannelFault.TheVariants.{TimeOverflow}
use Rattle.model_questions.specs.declared.answer.ChannelKind.{ChannelKind}
use Rattle.model_questions.specs.declared.answer.ChannelKind.TheVariants.{Ideal, Delay, Datarate}
use Rattle.channels.specs.declared.travels.Travel.{Travel}
use Rattle.channels.specs.declared.travels.Travel.TheVariants.{Arrival, Lost}
use Rattle.channels.specs.declared.travels.Way.{Way}

abbrev pub is_datarate : ChannelKind → Bool
is_datarate Ideal = false
is_datarate Delay = false
is_datarate Datarate = true

-- whether it models how long a transmission takes
abbrev pub is_transmission : Channel → Bool
is_transmission c = is_datarate c.kind

-- how many of them do
abbrev pub transmissions : List Channel → ℕ
transmissions [] = 0
transmissions (c ∷ cs) = (if is_transmission c then 1 else 0) + transmissions cs

-- how long the transmission of so many bits takes at so many bits per second, in ps, rounded up;
-- none at the rate 0
abbrev pub duration_of : ℕ → ℕ → ℕ
duration_of bits rate = if rate == 0 then 0 else (bits * 1000000000000 + (rate - 1)) / rate

-- whether a transmission that began earlier goes on at that time
abbrev pub is_busy : ℕ → Option ℕ → Bool
is_busy time None = false
is_busy time (Some end) = nat_lt time end

-- the message is on from there, where nothing is wrong
abbrev pub and_on : {X : Type 0} → Result Way ChannelFault → (Way → Result X ChannelFault)
    → Result X ChannelFault
and_on (Ok way) f = f way
and_on (Err fault) f = Err fault

-- a transmission that ends at that time
abbrev pub transmitted_until : ℕ → Way → Option ℕ → Result Way ChannelFault
transmitted_until duration way None = Err TimeOverflow
transmitted_until duration way (Some end) =
    Ok (record { time = way.time; duration = duration; busy_until = Some end })

-- the transmission begins as the message reaches the channel, where an earlier one is over
abbrev pub transmitted : ℕ → ℕ → Option ℕ → Way → Result Way ChannelFault
transmitted rate bits busy way =
    if is_busy way.time busy then Err Busy
    else transmitted_until (duration_of bits rate) way (time_sum way.time (duration_of bits rate))

abbrev pub sent_on : Channel → ℕ → Option ℕ → Way → Result Way ChannelFault
sent_on c bits busy way = if is_transmission c then transmitted c.datarate bits busy way else Ok way

abbrev pub reaches : Way → Option ℕ → Result Way ChannelFault
reaches way None = Err TimeOverflow
reaches way (Some time) =
    Ok (record { time = time; duration = way.duration; busy_until = way.busy_until })

-- and the end of the channel is reached by its delay later
abbrev pub delayed : Channel → Way → Result Way ChannelFault
delayed c way = reaches way (time_sum way.time c.delay)

-- ONE CHANNEL that is not disabled
abbrev pub passed : Channel → ℕ → Option ℕ → Way → Result Way ChannelFault
passed c bits busy way = and_on (sent_on c bits busy way) (delayed c)

abbrev pub arrives_at : Way → Option ℕ → Result Travel ChannelFault
arrives_at way None = Err TimeOverflow
arrives_at way (Some time) = Ok (Arrival time way.busy_until)

-- the end of a message arrives by its transmission later than its beginning
abbrev pub arrived : Way → Result Travel ChannelFault
arrived way = arrives_at way (time_sum way.time way.duration)

-- the channels, one by one; a disabled one loses the message
abbrev pub walked : ℕ → Option ℕ → List Channel → Way → Result Travel ChannelFault
walked bits busy [] way = arrived way
walked bits busy (c ∷ cs) way = if c.disabled then Ok (Lost way.busy_until)
    else and_on (passed c bits busy way) (walked bits busy cs)

abbrev pub departing : ℕ → Way
departing time = record { time = time; duration = 0; busy_until = None }

-- THE TRAVEL of a message of so many bits; `busy` is the end of the last transmission on its
-- transmission channel
abbrev pub travel : List Channel → ℕ → ℕ → Option ℕ → Result Travel ChannelFault
travel hops departure bits busy =
    if nat_lt 1 (transmissions hops) then Err TwoTransmissionChannels
    else walked bits busy hops (departing departure)
