-- The units of time (OMNeT++ Simulation Manual, "Measurement Units").
use Rattle.std.specs.Prelude.{ℕ, List, Option, Some, None, if◌then◌else◌, codes}
use Rattle.std.specs.Str.{bytes_eq}

-- how many ps a unit of time is
unfoldable pub time_unit : List ℕ → Option ℕ
time_unit word =
    if bytes_eq word (codes "d") then Some 86400000000000000
    else (if bytes_eq word (codes "h") then Some 3600000000000000
    else (if bytes_eq word (codes "min") then Some 60000000000000
    else (if bytes_eq word (codes "s") then Some 1000000000000
    else (if bytes_eq word (codes "ms") then Some 1000000000
    else (if bytes_eq word (codes "us") then Some 1000000
    else (if bytes_eq word (codes "ns") then Some 1000
    else (if bytes_eq word (codes "ps") then Some 1
    else None)))))))
