-- The units of quantities (OMNeT++ Simulation Manual, "Measurement Units").
use Rattle.std.specs.Prelude.{ℕ, Option, Some, None, if◌then◌else◌, codes, option_map}
use Rattle.std.specs.Str.{bytes_eq}
use Rattle.sim_values.specs.declared.value.Dimension.{Dimension}
use Rattle.sim_values.specs.declared.value.Dimension.TheVariants as dimension
use Rattle.sim_values.specs.Units.{time_unit}
use Rattle.ned_tokens.specs.Runs.{Bytes}
use Rattle.ned_tokens.specs.Words.{or_else}

-- units of a rate: how many bits a second they are
unfoldable pub rate_unit : Bytes → Option ℕ
rate_unit word =
    if bytes_eq word (codes "bps") then Some 1
    else (if bytes_eq word (codes "kbps") then Some 1000
    else (if bytes_eq word (codes "Mbps") then Some 1000000
    else (if bytes_eq word (codes "Gbps") then Some 1000000000
    else None)))

-- units of a length: how many bits they are, where a byte has 8 and a KiB 1024 bytes
unfoldable pub length_unit : Bytes → Option ℕ
length_unit word =
    if bytes_eq word (codes "b") then Some 1
    else (if bytes_eq word (codes "B") then Some 8
    else (if bytes_eq word (codes "KiB") then Some 8192
    else (if bytes_eq word (codes "MiB") then Some 8388608
    else None)))

-- what a unit measures, and how many ps, bits a second or bits it is
unfoldable pub unit_of : Bytes → Option (Dimension × ℕ)
unit_of word =
    or_else (option_map (λ n. (dimension.Time, n)) (time_unit word))
    (or_else (option_map (λ n. (dimension.Rate, n)) (rate_unit word))
    (option_map (λ n. (dimension.Length, n)) (length_unit word)))
