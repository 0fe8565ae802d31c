-- What who observes a run is told, one after the other.
use Rattle.std.specs.Prelude.{◌≡◌, ℕ, List, [], ◌∷◌}

-- a run goes on after so many events, up to its limit; or so many events are executed, the last one
-- at that time
pub data Told : Type 0 where
  Began : (count limit : ℕ) → Told
  Executed : (count time : ℕ) → Told

module _ {O : Type 0} where
  -- IT WAS TOLD THESE, one after the other, and nothing else: each leads to another observer, by what
  -- the observer says that it means to be told so
  abbrev pub AreTold : (O → Told → O → Type 0) → O → List Told → O → Type 0
  AreTold told old [] new = new ≡ old
  AreTold told old (t ∷ ts) new = (next : O) × told old t next × AreTold told next ts new
