use Rattle.std.proofs.Common.{sym, ap, subst, ◌∙◌, List, ℕ, Some, cond, bytes_eq}
use Rattle.std.specs.HashMap.{get}
use Rattle.place_index.specs.Listing.{AreApart, listed}
use Rattle.place_index.proofs.Lists.{text_same, with_text}
use Rattle.place_index.proofs.listing.make_list.Goals as goal

pub returns-clause-apart : goal.returns-clause-apart
returns-clause-apart c =
    let was = get bytes_eq c.args.numbers.now in
    let copy = c.in_ok-copy.copy in
    subst (AreApart (get bytes_eq c.insert.new.self)) (sym {A = List (List ℕ)} c.in_ok-push.ensures.items)
    (with_text was c.args.lists.now.items c.new.result c.requires.apart (get bytes_eq c.insert.new.self) copy (ap was c.in_ok-copy.ensures ∙ c.requires.none)
    (λ t. c.in_ok-insert.ensures.updates.0 t ∙ ap (λ k. cond (bytes_eq copy t) (Some k) (was t)) c.count-at.ensures))

pub returns-clause-same : goal.returns-clause-same
returns-clause-same c =
    let was = get bytes_eq c.args.numbers.now in
    let copy = c.in_ok-copy.copy in
    λ t.
    ap (λ (ls : List (List ℕ)). listed (get bytes_eq c.insert.new.self) ls t) c.in_ok-push.ensures.items
    ∙ text_same was c.args.lists.now.items c.new.result c.requires.apart (get bytes_eq c.insert.new.self) copy (ap was c.in_ok-copy.ensures ∙ c.requires.none)
    (λ u. c.in_ok-insert.ensures.updates.0 u ∙ ap (λ k. cond (bytes_eq copy u) (Some k) (was u)) c.count-at.ensures)
    c.new.ensures t
