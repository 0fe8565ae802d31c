-- What a table of places has.
use Rattle.std.specs.HashMap.{get}
use Rattle.std.specs.Str.{bytes_eq}
use Rattle.place_index.specs.declared.index.PlaceIndex.{PlaceIndex}
use Rattle.place_index.specs.Listing.{listed}
use Rattle.place_index.specs.Places.{Listing}

-- the places that are listed under each text
abbrev pub under_of : PlaceIndex → Listing
under_of x = listed (get bytes_eq x.numbers) x.lists.items
