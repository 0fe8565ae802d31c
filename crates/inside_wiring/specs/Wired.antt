-- The connections made so far, and what is free.
use Rattle.std.specs.Prelude.{ℕ, suc, zero, ◌+◌, Bool, true, ◌&&◌, not, nat_eq, List, [], ◌∷◌}
use Rattle.std.specs.Prelude.{Option, Some, None, is_none, if◌then◌else◌, slice_index}
use Rattle.inside_wiring.specs.declared.wiring.GateId.{GateId}
use Rattle.inside_wiring.specs.declared.wiring.Link.{Link}
use Rattle.inside_wiring.specs.declared.wiring.Role.{Role}
use Rattle.inside_wiring.specs.declared.wiring.Role.TheVariants.{Source, Target, Both}

-- the present sizes of all gate vectors, and the connections made so far, the last one first
pub record Wired : Type 0 where
  pub sizes : List ℕ
  pub links : List Link

-- a place in a gate vector: the number of the vector, and the index
abbrev pub Key : Type 0
Key = ℕ × ℕ

abbrev pub key : GateId → Key
key s = (s.vector, s.index)

abbrev pub same_key : Key → Key → Bool
same_key a b = nat_eq a.0 b.0 && nat_eq a.1 b.1

-- the connection that leads away from a gate
abbrev pub link_from : List Link → Key → Option Link
link_from [] q = None
link_from (l ∷ ls) q = if same_key (key l.from) q then Some l else link_from ls q

-- the connection that leads to a gate
abbrev pub link_to : List Link → Key → Option Link
link_to [] q = None
link_to (l ∷ ls) q = if same_key (key l.to) q then Some l else link_to ls q

-- whether a gate, or the halves of it that a role needs, isn't connected yet
abbrev pub is_free : List Link → Role → Key → Bool
is_free links Source q = is_none (link_from links q)
is_free links Target q = is_none (link_to links q)
is_free links Both q = is_none (link_from links q) && is_none (link_to links q)

-- whether a gate isn't that of the other end of the same connection
abbrev pub is_apart : Option GateId → Key → Bool
is_apart None q = true
is_apart (Some s) q = not (same_key (key s) q)

-- a gate can be taken for the second end of a connection too
abbrev pub is_open : List Link → Option GateId → Role → Key → Bool
is_open links other role q = is_apart other q && is_free links role q

-- the least of n indexes from i on at which the test passes, else the one after them
abbrev pub least : (ℕ → Bool) → ℕ → ℕ → ℕ
least test i zero = i
least test i (suc n) = if test i then i else least test (i + 1) n

-- `++`: the least index that is free, else the size
abbrev pub next_index : Wired → Option GateId → Role → ℕ → ℕ
next_index w other role v = least (λ i. is_open w.links other role (v, i)) 0 (slice_index w.sizes v)
