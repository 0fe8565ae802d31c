-- The first of the events to come.
use Rattle.std.proofs.Common.{◌≡◌, List, [], ◌∷◌, Some, slice_get, ap, sym}
use Rattle.std.specs.Option.{option_map}
use Rattle.event_set.specs.declared.entry.EventEntry.{EventEntry}
use Rattle.event_set.specs.declared.places.Key.{Key}
use Rattle.event_set.specs.Events.{coming_of}
use Rattle.event_set.specs.Keys.{list_of, pending_of}

pub first_coming : (es : List (Key × EventEntry)) (e : Key × EventEntry) → slice_get es 0 ≡ Some e → Some (coming_of (pending_of e)) ≡ option_map coming_of (slice_get (list_of es) 0)
first_coming [] e is = cc
first_coming (x ∷ es) e is = ap (option_map (λ (y : Key × EventEntry). coming_of (pending_of y))) (sym is)
