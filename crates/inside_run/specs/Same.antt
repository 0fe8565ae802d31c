-- Keys that are the same are one.
use Rattle.std.specs.Prelude.{◌≡◌, ◌==◌, ℕ, ℤ, Bool, true, false, ◌&&◌, bytes_eq, List}
use Rattle.std.proofs.Common.{refl, sym, ap, ◌∙◌}
use Rattle.std.proofs.lemmas.Bool.{eqb-true, true≢false}
use Rattle.std.proofs.lemmas.Slice.Eq.{bytes_eq-Decides, slice_eq-Decides}
use Rattle.std.specs.Cmp.Lexicographic.{pointwise}
use Rattle.std.proofs.lemmas.Bool.Decides.{Decides-int_eq}
use Rattle.std.specs.Ordering.{int_eq}
use Rattle.inside_keys.specs.declared.key.ChannelAt.{ChannelAt}
use Rattle.inside_keys.specs.contracts.key.KeyPartialEq as equality
use Rattle.inside_keys.specs.contracts.key.WhatPartialEq as what_equality
use Rattle.inside_keys.specs.declared.key.Key.{Key}
use Rattle.inside_keys.specs.declared.key.Module.{Module}
use Rattle.inside_keys.specs.declared.key.What.{What}
use Rattle.inside_keys.specs.declared.key.What.TheVariants as what
use Rattle.inside_keys.specs.declared.key.WrittenAt.{WrittenAt}
use Rattle.inside_keys.specs.Keys.{same_channel, same_key, same_module, same_what, same_written}

both : (a b : Bool) → (a && b) ≡ true → (a ≡ true) × (b ≡ true)
both true true h = (refl, refl)
both true false h = absurd (true≢false (sym h))
both false b h = absurd (true≢false (sym h))

bytes : (x y : List ℕ) → bytes_eq x y ≡ true → x ≡ y
bytes x y h = (bytes_eq-Decides x y).0 h

numbers : (k l : ℤ) → int_eq k l ≡ true → k ≡ l
numbers k l h = (Decides-int_eq k l).0 h

modules : (a b : Module) → same_module a b ≡ true → a ≡ b
modules a b h =
    let e = both (a.created == b.created) (bytes_eq a.path b.path) h in
    ap (λ (c : ℕ). record { created = c; path = a.path }) (eqb-true a.created b.created e.0)
    ∙ ap (λ (p : List ℕ). record { created = b.created; path = p }) (bytes a.path b.path e.1)

written_at : (a b : WrittenAt) → same_written a b ≡ true → a ≡ b
written_at a b h =
    let e = both (a.items == b.items) (a.lines == b.lines) h in
    ap (λ (n : ℕ). record { items = n; lines = a.lines }) (eqb-true a.items b.items e.0)
    ∙ ap (λ (n : ℕ). record { items = b.items; lines = n }) (eqb-true a.lines b.lines e.1)

turns : (x y : List ℤ) → pointwise int_eq x y ≡ true → x ≡ y
turns x y h = (slice_eq-Decides Decides-int_eq x y (pointwise int_eq x y) refl).0 h

channels : (a b : ChannelAt) → same_channel a b ≡ true → a ≡ b
channels a b h =
    let e = both (bytes_eq a.path b.path) (same_written a.written b.written
    && pointwise int_eq a.turn b.turn) h in
    let f = both (same_written a.written b.written) (pointwise int_eq a.turn b.turn) e.1 in
    ap (λ (p : List ℕ). record { path = p; written = a.written; turn = a.turn })
    (bytes a.path b.path e.0)
    ∙ ap (λ (w : WrittenAt). record { path = b.path; written = w; turn = a.turn })
    (written_at a.written b.written f.0)
    ∙ ap (λ (zs : List ℤ). record { path = b.path; written = b.written; turn = zs })
    (turns a.turn b.turn f.1)

whats : (a b : What) → same_what a b ≡ true → a ≡ b
whats what.Type what.Type h = refl
whats what.Type _ h = absurd (true≢false (sym h))
whats (what.Param x) (what.Param y) h = ap what.Param (bytes x y h)
whats (what.Param x) _ h = absurd (true≢false (sym h))
whats (what.Condition x) (what.Condition y) h = ap what.Condition (bytes x y h)
whats (what.Condition x) _ h = absurd (true≢false (sym h))
whats (what.VectorSize x) (what.VectorSize y) h = ap what.VectorSize (bytes x y h)
whats (what.VectorSize x) _ h = absurd (true≢false (sym h))
whats (what.Declared x) (what.Declared y) h = ap what.Declared (bytes x y h)
whats (what.Declared x) _ h = absurd (true≢false (sym h))
whats (what.GateSize x) (what.GateSize y) h = ap what.GateSize (bytes x y h)
whats (what.GateSize x) _ h = absurd (true≢false (sym h))
whats (what.Sizeof x) (what.Sizeof y) h = ap what.Sizeof (bytes x y h)
whats (what.Sizeof x) _ h = absurd (true≢false (sym h))
whats (what.Exists x) (what.Exists y) h = ap what.Exists (bytes x y h)
whats (what.Exists x) _ h = absurd (true≢false (sym h))
whats (what.ExistsAt x k) (what.ExistsAt y l) h =
    let e = both (bytes_eq x y) (int_eq k l) h in
    ap (λ (z : List ℕ). what.ExistsAt z k) (bytes x y e.0)
    ∙ ap (λ (z : ℤ). what.ExistsAt y z) (numbers k l e.1)
whats (what.ExistsAt x k) _ h = absurd (true≢false (sym h))
whats (what.Member s x) (what.Member t y) h =
    let e = both (bytes_eq s t) (bytes_eq x y) h in
    ap (λ (z : List ℕ). what.Member z x) (bytes s t e.0)
    ∙ ap (λ (z : List ℕ). what.Member t z) (bytes x y e.1)
whats (what.Member s x) _ h = absurd (true≢false (sym h))
whats (what.Element s k x) (what.Element t l y) h =
    let e = both (bytes_eq s t) (int_eq k l && bytes_eq x y) h in
    let f = both (int_eq k l) (bytes_eq x y) e.1 in
    ap (λ (z : List ℕ). what.Element z k x) (bytes s t e.0) ∙ ap (λ (z : ℤ). what.Element t z x)
    (numbers k l f.0) ∙ ap (λ (z : List ℕ). what.Element t l z) (bytes x y f.1)
whats (what.Element s k x) _ h = absurd (true≢false (sym h))
whats (what.Channel c x) (what.Channel d y) h =
    let e = both (same_channel c d) (bytes_eq x y) h in
    ap (λ (z : ChannelAt). what.Channel z x) (channels c d e.0)
    ∙ ap (λ (z : List ℕ). what.Channel d z) (bytes x y e.1)
whats (what.Channel c x) _ h = absurd (true≢false (sym h))
whats (what.Carrier c) (what.Carrier d) h = ap what.Carrier (channels c d h)
whats (what.Carrier c) _ h = absurd (true≢false (sym h))
whats what.Joined what.Joined h = refl
whats what.Joined _ h = absurd (true≢false (sym h))
whats what.Inside what.Inside h = refl
whats what.Inside _ h = absurd (true≢false (sym h))

-- what a table compares keys by
abbrev pub equal : Key → Key → Bool
equal = (equality.TheImpl.eq-value).it

abbrev pub equal_what : What → What → Bool
equal_what = (what_equality.TheImpl.eq-value).it

-- it takes the same for one
what_alike : (a b : What) → equal_what a b ≡ same_what a b
what_alike what.Type what.Type = refl
what_alike what.Type _ = refl
what_alike (what.Param x) (what.Param y) = refl
what_alike (what.Param x) _ = refl
what_alike (what.Condition x) (what.Condition y) = refl
what_alike (what.Condition x) _ = refl
what_alike (what.VectorSize x) (what.VectorSize y) = refl
what_alike (what.VectorSize x) _ = refl
what_alike (what.Declared x) (what.Declared y) = refl
what_alike (what.Declared x) _ = refl
what_alike (what.GateSize x) (what.GateSize y) = refl
what_alike (what.GateSize x) _ = refl
what_alike (what.Sizeof x) (what.Sizeof y) = refl
what_alike (what.Sizeof x) _ = refl
what_alike (what.Exists x) (what.Exists y) = refl
what_alike (what.Exists x) _ = refl
what_alike (what.ExistsAt x k) (what.ExistsAt y l) = refl
what_alike (what.ExistsAt x k) _ = refl
what_alike (what.Member s x) (what.Member t y) = refl
what_alike (what.Member s x) _ = refl
what_alike (what.Element s k x) (what.Element t l y) = refl
what_alike (what.Element s k x) _ = refl
what_alike (what.Channel c x) (what.Channel d y) = refl
what_alike (what.Channel c x) _ = refl
what_alike (what.Carrier c) (what.Carrier d) = refl
what_alike (what.Carrier c) _ = refl
what_alike what.Joined what.Joined = refl
what_alike what.Joined _ = refl
what_alike what.Inside what.Inside = refl
what_alike what.Inside _ = refl

pub alike : (a b : Key) → equal a b ≡ same_key a b
alike a b = ap (λ t. same_module a.site b.site && t) (what_alike a.what b.what)

pub same_are_one : (a b : Key) → same_key a b ≡ true → a ≡ b
same_are_one a b h =
    let e = both (same_module a.site b.site) (same_what a.what b.what) h in
    ap (λ (m : Module). record { site = m; what = a.what }) (modules a.site b.site e.0)
    ∙ ap (λ (w : What). record { site = b.site; what = w }) (whats a.what b.what e.1)

-- keys that are the same are one
pub same_is : (a b : Key) → equal a b ≡ true → a ≡ b
same_is a b h = same_are_one a b (sym (alike a b) ∙ h)
