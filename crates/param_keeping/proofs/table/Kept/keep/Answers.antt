use Rattle.std.proofs.Common.{sym, ap, refl, subst, ◌∙◌, ◌<◌, length}
use Rattle.rest_index.specs.Noting.{IsNotedAt}
use Rattle.rest_index.specs.Rests.{asked_of}
use Rattle.param_keeping.specs.Stores.{store_of, Keeping, IsShaped, Store}
use Rattle.param_keeping.proofs.Inserting.{free, is_added, noted_same}
use Rattle.param_keeping.proofs.Same.{on_err, room_same, still_same}
use Rattle.param_keeping.proofs.table.Kept.keep.Goals as goal

pub note-requires-clause-free : goal.note-requires-clause-free
note-requires-clause-free g c =
    let eq = g.K.PartialEq.eq in
    let inside = c.self.inside in
    let view = c.self.view_is in
    let live = c.make_room.new.live in
    let room : Store _ _ = record { entries = inside.entries.entries; rows = inside.rows.items; live = live } in
    free eq c.requires.exact g.met.K.Eq.laws.refl c.args.key c.args.value (store_of c.args.self.now c.args.live.now) room room c.in_ok-place.place c.args.asked
    (subst (λ (t : Keeping _ _). IsShaped eq (store_of t live)) (sym view) c.make_room.ensures.shaped)
    (ap (λ (t : Keeping _ _). t.entries) view ∙ c.make_room.ensures.entries)
    (λ q. (ap (λ (t : Keeping _ _). asked_of t.rows q) view ∙ (c.make_room.ensures.alike q).0, (c.make_room.ensures.alike q).1))
    (subst (λ (t : Keeping _ _). length t.entries < length live) (sym view) c.in_ok-make_room.ensures.room)
    c.in_ok-place.ensures.index c.requires.unknown

pub returns-clause-added : goal.returns-clause-added
returns-clause-added g c =
    let eq = g.K.PartialEq.eq in
    let inside = c.self.inside in
    let view = c.self.view_is in
    let live = c.make_room.new.live in
    let room : Store _ _ = record { entries = inside.entries.entries; rows = inside.rows.items; live = live } in
    is_added eq c.requires.exact g.met.K.Eq.laws.refl c.args.key c.args.value (store_of c.args.self.now c.args.live.now) room (store_of c.count.new.self c.note.new.live) c.in_ok-place.place c.args.asked
    (subst (λ (t : Keeping _ _). IsShaped eq (store_of t live)) (sym view) c.make_room.ensures.shaped)
    (ap (λ (t : Keeping _ _). t.entries) view ∙ c.make_room.ensures.entries)
    (λ q. (ap (λ (t : Keeping _ _). asked_of t.rows q) view ∙ (c.make_room.ensures.alike q).0, (c.make_room.ensures.alike q).1))
    (subst (λ (t : Keeping _ _). length t.entries < length live) (sym view) c.in_ok-make_room.ensures.room)
    c.in_ok-place.ensures.index
    (ap (λ (t : Keeping _ _). t.entries) c.count.ensures ∙ c.in_ok-place.ensures.entries)
    c.in_ok-note.ensures.live
    (subst (λ (t : Keeping _ _). IsNotedAt c.in_ok-place.place c.args.asked inside.rows.items t.rows c.note.new.live) (sym c.count.ensures) c.in_ok-note.ensures.noted)

pub returns-in_err-make_room-clause-known : goal.returns-in_err-make_room-clause-known
returns-in_err-make_room-clause-known g c =
    on_err c.from_residual.result (room_same g.K.PartialEq.eq c.requires.exact g.met.K.Eq.laws.refl (store_of c.args.self.now c.args.live.now) (store_of c.make_room.new.self c.make_room.new.live)
    c.requires.shaped c.make_room.ensures.shaped c.make_room.ensures.entries c.make_room.ensures.alike)

pub returns-in_err-place-clause-known : goal.returns-in_err-place-clause-known
returns-in_err-place-clause-known g c =
    let eq = g.K.PartialEq.eq in
    let inside = c.self.inside in
    let view = c.self.view_is in
    let live = c.make_room.new.live in
    let room : Store _ _ = record { entries = inside.entries.entries; rows = inside.rows.items; live = live } in
    on_err c.from_residual-in_err-place.result (still_same (store_of c.args.self.now c.args.live.now) room _ c.in_err-place.ensures.err refl refl eq
    (room_same eq c.requires.exact g.met.K.Eq.laws.refl (store_of c.args.self.now c.args.live.now) room c.requires.shaped
    (subst (λ (t : Keeping _ _). IsShaped eq (store_of t live)) (sym view) c.make_room.ensures.shaped)
    (ap (λ (t : Keeping _ _). t.entries) view ∙ c.make_room.ensures.entries)
    (λ q. (ap (λ (t : Keeping _ _). asked_of t.rows q) view ∙ (c.make_room.ensures.alike q).0, (c.make_room.ensures.alike q).1))))

pub returns-in_err-note-clause-known : goal.returns-in_err-note-clause-known
returns-in_err-note-clause-known g c =
    let eq = g.K.PartialEq.eq in
    let inside = c.self.inside in
    let view = c.self.view_is in
    let live = c.make_room.new.live in
    let room : Store _ _ = record { entries = inside.entries.entries; rows = inside.rows.items; live = live } in
    on_err c.from_residual-in_err-note.result (noted_same eq c.requires.exact g.met.K.Eq.laws.refl c.args.key c.args.value (store_of c.args.self.now c.args.live.now) room _ c.in_ok-place.place c.args.asked
    (subst (λ (t : Keeping _ _). IsShaped eq (store_of t live)) (sym view) c.make_room.ensures.shaped)
    (ap (λ (t : Keeping _ _). t.entries) view ∙ c.make_room.ensures.entries)
    (λ q. (ap (λ (t : Keeping _ _). asked_of t.rows q) view ∙ (c.make_room.ensures.alike q).0, (c.make_room.ensures.alike q).1))
    (subst (λ (t : Keeping _ _). length t.entries < length live) (sym view) c.in_ok-make_room.ensures.room)
    c.in_ok-place.ensures.index c.requires.unknown c.requires.shaped.apart c.in_ok-place.ensures.entries c.in_err-note.ensures.dead c.in_err-note.ensures.grown)
