-- The inside of a compound module while it is built.
use Rattle.std.specs.Prelude.{ℕ, ◌-◌, false, ◌++◌, [], ◌∷◌, Option, length}
use Rattle.inside_keys.specs.declared.found.State.{State}
use Rattle.inside_parts.specs.declared.parts.Made.{Made}
use Rattle.inside_parts.specs.declared.parts.Part.{Part}
use Rattle.inside_wiring.specs.Wired.{Wired}

-- with these connections
abbrev pub with_wiring : State → Wired → State
with_wiring s w = record { parts = s.parts; wiring = w; turns = s.turns; written = s.written }

-- one gate vector more, of that size
abbrev pub grown : State → ℕ → State
grown s n = with_wiring s (record { sizes = s.wiring.sizes ++ n ∷ []; links = s.wiring.links })

-- one part more, of the type of that number, whose gate vectors come next: an element of what was
-- declared last, or all of it
abbrev pub part_of_type : ℕ → ℕ → ℕ → Option ℕ → Part
part_of_type first n line index =
    record { first = first; of_type = n; is_own = false; line = line; index = index }

abbrev pub with_part : State → Part → State
with_part s part = record {
  parts = record {
    made = s.parts.made;
    parts = s.parts.parts ++ part
        ∷ [];
  };
  wiring = s.wiring;
  turns = s.turns;
  written = s.written;
}

abbrev pub part_added : State → ℕ → Option ℕ → State
part_added s n index =
    with_part s (part_of_type (length s.wiring.sizes) n (length s.parts.made - 1) index)

-- what was made of a declaration is noted
abbrev pub noted : State → Made → State
noted s made = record {
  parts = record { made = s.parts.made ++ made ∷ []; parts = s.parts.parts };
  wiring = s.wiring;
  turns = s.turns;
  written = s.written;
}

-- the item after which so many stand comes next
abbrev pub at_item : State → ℕ → State
at_item s behind = record {
  parts = s.parts;
  wiring = s.wiring;
  turns = s.turns;
  written = record { items = behind; lines = 0 };
}

-- the connection of that item after which so many stand comes next
abbrev pub at_line : State → ℕ → State
at_line s behind = record {
  parts = s.parts;
  wiring = s.wiring;
  turns = s.turns;
  written = record { items = s.written.items; lines = behind };
}
