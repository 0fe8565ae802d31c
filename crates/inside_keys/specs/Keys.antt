-- Keys.
use Rattle.std.specs.Prelude.{ℕ, ◌==◌, Bool, true, false, ◌&&◌, bytes_eq, List, [], ◌∷◌, ◌++◌}
use Rattle.std.specs.Prelude.{Option, Some, None, decimal}
use Rattle.std.specs.Cmp.Lexicographic.{pointwise}
use Rattle.std.specs.Ordering.{int_eq}
use Rattle.inside_keys.specs.declared.key.ChannelAt.{ChannelAt}
use Rattle.inside_keys.specs.declared.key.Key.{Key}
use Rattle.inside_keys.specs.declared.key.Module.{Module}
use Rattle.inside_keys.specs.declared.key.What.{What}
use Rattle.inside_keys.specs.declared.key.What.TheVariants as what
use Rattle.inside_keys.specs.declared.key.WrittenAt.{WrittenAt}

-- a module's name among its siblings: its index stands in brackets
abbrev pub own_name : List ℕ → Option ℕ → List ℕ
own_name name None = name
own_name name (Some index) = name ++ (91 ∷ (decimal index ++ 93 ∷ []))

-- a submodule
abbrev pub child : Module → List ℕ → Option ℕ → Module
child m name index = record { created = m.created; path = m.path ++ 46 ∷ own_name name index }

abbrev pub key : Module → What → Key
key m w = record { site = m; what = w }

-- ---- keys that are the same

abbrev pub same_module : Module → Module → Bool
same_module a b = (a.created == b.created) && bytes_eq a.path b.path

abbrev pub same_written : WrittenAt → WrittenAt → Bool
same_written a b = (a.items == b.items) && (a.lines == b.lines)

abbrev pub same_channel : ChannelAt → ChannelAt → Bool
same_channel a b = bytes_eq a.path b.path
    && (same_written a.written b.written && pointwise int_eq a.turn b.turn)

abbrev pub same_what : What → What → Bool
same_what what.Type what.Type = true
same_what what.Type _ = false
same_what (what.Param x) (what.Param y) = bytes_eq x y
same_what (what.Param x) _ = false
same_what (what.Condition x) (what.Condition y) = bytes_eq x y
same_what (what.Condition x) _ = false
same_what (what.VectorSize x) (what.VectorSize y) = bytes_eq x y
same_what (what.VectorSize x) _ = false
same_what (what.Declared x) (what.Declared y) = bytes_eq x y
same_what (what.Declared x) _ = false
same_what (what.GateSize x) (what.GateSize y) = bytes_eq x y
same_what (what.GateSize x) _ = false
same_what (what.Sizeof x) (what.Sizeof y) = bytes_eq x y
same_what (what.Sizeof x) _ = false
same_what (what.Exists x) (what.Exists y) = bytes_eq x y
same_what (what.Exists x) _ = false
same_what (what.ExistsAt x k) (what.ExistsAt y l) = bytes_eq x y && int_eq k l
same_what (what.ExistsAt x k) _ = false
same_what (what.Member s x) (what.Member t y) = bytes_eq s t && bytes_eq x y
same_what (what.Member s x) _ = false
same_what (what.Element s k x) (what.Element t l y) = bytes_eq s t && (int_eq k l && bytes_eq x y)
same_what (what.Element s k x) _ = false
same_what (what.Channel c x) (what.Channel d y) = same_channel c d && bytes_eq x y
same_what (what.Channel c x) _ = false
same_what (what.Carrier c) (what.Carrier d) = same_channel c d
same_what (what.Carrier c) _ = false
same_what what.Joined what.Joined = true
same_what what.Joined _ = false
same_what what.Inside what.Inside = true
same_what what.Inside _ = false

abbrev pub same_key : Key → Key → Bool
same_key a b = same_module a.site b.site && same_what a.what b.what
