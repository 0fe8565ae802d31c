-- Moments of a run to which it can go back.
use Rattle.std.specs.Prelude.{◌≡◌, ◌≤◌, [], length, take}
use Rattle.run_semantics.specs.Laws.{GoesOn}
use Rattle.run_semantics.specs.World.{World}
use Rattle.kernel_actions.specs.declared.position.Lengths.{Lengths}
use Rattle.kernel_actions.specs.declared.position.Position.{Position}

-- how long the lists of a world are that only grow
abbrev pub lengths_of : World → Lengths
lengths_of w = record {
  records = length w.records;
  dead = length w.dead;
  started = length w.started;
  finished = length w.finished;
  changes = length w.changes;
  emissions = length w.emissions;
  scalars = length w.scalars;
  questions = length w.questions;
}

-- THE POSITION of a world
abbrev pub position_of : World → Position
position_of w = record {
  clock = w.clock;
  count = w.count;
  lengths = lengths_of w;
  coming = record { list = w.pending; next = w.next };
  ended = w.ended;
  delivered = w.delivered;
  transmissions = w.transmissions;
  modules = w.modules;
}

-- with what a position has whole, but for the modules
abbrev pub world_with : Position → World → World
world_with p w = record w {
  clock = p.clock;
  count = p.count;
  pending = p.coming.list;
  next = p.coming.next;
  ended = p.ended;
  delivered = p.delivered;
  transmissions = p.transmissions;
}

-- with the lists cut that only grow
abbrev pub cut_to : Lengths → World → World
cut_to l w = record w {
  records = take l.records w.records;
  dead = take l.dead w.dead;
  started = take l.started w.started;
  finished = take l.finished w.finished;
  changes = take l.changes w.changes;
  emissions = take l.emissions w.emissions;
  scalars = take l.scalars w.scalars;
  questions = take l.questions w.questions;
}

-- all of the world but for its modules
abbrev pub core_back : Position → World → World
core_back p w = world_with p (cut_to p.lengths w)

-- THE WORLD OF A POSITION: of a world that has grown since, the lists that only grow are cut to
-- their lengths; all else is the position's own
abbrev pub world_back : Position → World → World
world_back p w = record (core_back p w) { modules = p.modules }

-- the lists that only grow have grown: all that was in them is there, in its place
pub record IsGrownFrom (old new : World) : Type 0 where
  pub records : GoesOn old.records new.records
  pub dead : GoesOn old.dead new.dead
  pub started : GoesOn old.started new.started
  pub finished : GoesOn old.finished new.finished
  pub changes : GoesOn old.changes new.changes
  pub emissions : GoesOn old.emissions new.emissions
  pub scalars : GoesOn old.scalars new.scalars
  pub questions : GoesOn old.questions new.questions

-- no list is longer
pub record AreWithin (less more : Lengths) : Type 0 where
  pub records : less.records ≤ more.records
  pub dead : less.dead ≤ more.dead
  pub started : less.started ≤ more.started
  pub finished : less.finished ≤ more.finished
  pub changes : less.changes ≤ more.changes
  pub emissions : less.emissions ≤ more.emissions
  pub scalars : less.scalars ≤ more.scalars
  pub questions : less.questions ≤ more.questions

-- but for its modules it is the same world
abbrev pub IsSameBesideModules : World → World → Type 0
IsSameBesideModules v w = record v { modules = [] } ≡ record w { modules = [] }
