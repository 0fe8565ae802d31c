use Rattle.std.proofs.Common.{ap, ◌∙◌, List, ℕ, bytes_eq}
use Rattle.std.specs.HashMap.{get}
use Rattle.place_index.specs.Listing.{listed}
use Rattle.place_index.proofs.Lists.{number_more, number_own}
use Rattle.place_index.proofs.listing.add.Goals as goal
use Rattle.rest_index.specs.Rests.{is_among}

pub returns-clause-more : goal.returns-clause-more
returns-clause-more c = λ text n h.
    let numbers = get bytes_eq c.number_of.new.numbers in
    ap (λ (ls : List (List ℕ)). is_among n (listed numbers ls text)) c.in_ok-push_number.ensures.ok
    ∙ number_more numbers c.number_of.new.lists.items c.args.text.now c.in_ok-at.at c.args.number c.number_of.ensures.apart c.in_ok-at.ensures.found text n
    (ap (is_among n) (c.number_of.ensures.same text) ∙ h)

pub returns-clause-own : goal.returns-clause-own
returns-clause-own c =
    let numbers = get bytes_eq c.number_of.new.numbers in
    ap (λ (ls : List (List ℕ)). is_among c.args.number (listed numbers ls c.args.text.now)) c.in_ok-push_number.ensures.ok
    ∙ number_own numbers c.number_of.new.lists.items c.args.text.now c.in_ok-at.at c.args.number c.number_of.ensures.apart c.in_ok-at.ensures.found
