-- Which frames a Receiver takes: it emits `received` of each.
use Rattle.std.specs.Prelude.{◌≡◌, ℕ, ℤ, pos, List, map, Option, Some, None, codes}
use Rattle.std.specs.List.{range_with_len}
use Rattle.std.specs.Option.{option_map}
use Rattle.module_api.specs.declared.call.CallReason.{CallReason}
use Rattle.module_api.specs.declared.call.CallReason.TheVariants as prompt
use Rattle.module_network.specs.declared.frame.Frame.{Frame}
use Rattle.module_network.specs.Frames.{frame_in}
use Rattle.network_laws.specs.Played.{Turn, Each, values_in}

-- 0, 1, 2, .., so many of them
abbrev pub counted : ℕ → List ℤ
counted n = map pos (range_with_len 0 n)

-- the number of the frame in a payload, where there is one
abbrev pub number_in : List ℕ → Option ℤ
number_in payload = option_map (λ (f : Frame). pos f.number) (frame_in payload)

-- that of the frame which comes with a call
abbrev pub number_told : CallReason → Option ℤ
number_told (prompt.Initialize stage) = None
number_told (prompt.Message m) = number_in m.payload
number_told prompt.Finish = None

-- what is taken is the frame that comes: each number that is emitted is its own
abbrev pub TakesWhatComes : Turn → Type 0
TakesWhatComes t = Each (λ (number : ℤ). number_told t.call.prompt ≡ Some number)
    (values_in (codes "received") t.reply.actions)
