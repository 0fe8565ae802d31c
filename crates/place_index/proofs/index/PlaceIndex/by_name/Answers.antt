use Rattle.std.proofs.Common.{ap, ◌∙◌}
use Rattle.place_index.specs.Listed.{under_of}
use Rattle.place_index.specs.Places.{Listing}
use Rattle.place_index.proofs.Places.{by_key}
use Rattle.place_index.proofs.index.PlaceIndex.by_name.Goals as goal

pub returns : goal.returns
returns g c = λ p.
    let under : Listing = under_of c.args.self.now in
    by_key c.last_name_is_literal.ensures c.args.entry.now (g.P.PlacePaths.paths c.args.at.now) under c.requires.listed c.args.key.now c.requires.key c.requires.some p c.new-found.result c.add_of.new.found c.add_of-2.new.found c.under.result.now c.under-2.result.now c.new-found.ensures
    (c.under.ensures ∙ ap under c.in_ok-name.ensures)
    (c.under-2.ensures ∙ ap under c.empty-odd.ensures)
    (c.in_ok-add_of.ensures p) (c.in_ok-add_of-2.ensures p)
