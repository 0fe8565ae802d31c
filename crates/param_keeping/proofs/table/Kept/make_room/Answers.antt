use Rattle.std.proofs.Common.{ap, ◌∙◌, ◌≡◌, ◌<◌, ◌≤◌, ◌⊎◌, inl, inr, ◌++◌, ◌∷◌, [], refl, false, length, arith}
use Rattle.std.specs.Vec.{vec_len}
use Rattle.param_keeping.specs.Stores.{store_of, Keeping, Store}
use Rattle.param_keeping.proofs.Room.{no_fewer, one_longer, pushed, row_of, still_shaped}
use Rattle.param_keeping.proofs.table.Kept.make_room.Goals as goal
use Rattle.param_keeping.proofs.table.Kept.make_room.Goals.{then-len+in_ok-push, else-len, then-len-2+in_ok-push-2, else-len-2}

pub returns-clause-shaped : goal.returns-clause-shaped
returns-clause-shaped g c =
    let s = c.args.self.now in
    let live = c.args.live.now in
    let inside = c.if-len.self-inside in
    let many = c.requires.shaped.as_many in
    let rows_were : c.self.inside.rows.items ≡ s.rows = ap (λ (k : Keeping _ _). k.rows) c.self.view_is in
    let entries_were : c.self.inside.entries.entries ≡ s.entries = ap (λ (k : Keeping _ _). k.entries) c.self.view_is in
    let entries : inside.entries.entries ≡ s.entries = elim c.if-len.branch [
      | then-len+in_ok-push w ↦ ap (λ x. x.entries.entries) w.self-inside-is ∙ entries_were
      | else-len w ↦ ap (λ x. x.entries.entries) w.self-inside-is ∙ entries_were
    ] in
    let rows : (inside.rows.items ≡ s.rows) ⊎ (inside.rows.items ≡ s.rows ++ row_of [] [] ∷ []) = elim c.if-len.branch [
      | then-len+in_ok-push w ↦ inr (pushed s.rows c.self.inside.rows.items inside.rows.items w.new.result w.new-then-len.result rows_were w.new.ensures w.new-then-len.ensures
          (ap (λ x. x.rows.items) w.self-inside-is ∙ w.in_ok-push.ensures.items))
      | else-len w ↦ inl (ap (λ x. x.rows.items) w.self-inside-is ∙ rows_were)
    ] in
    let more : length s.entries < length inside.rows.items = elim c.if-len.branch [
      | then-len+in_ok-push w ↦
          let l = one_longer s.rows inside.rows.items (row_of [] []) (pushed s.rows c.self.inside.rows.items inside.rows.items w.new.result w.new-then-len.result rows_were w.new.ensures
          w.new-then-len.ensures (ap (λ x. x.rows.items) w.self-inside-is ∙ w.in_ok-push.ensures.items)) in
          let m = many.0 in let n = many.1 in omega (arith, l, m, n)
      | else-len w ↦
          let a : c.len.result ≡ vec_len c.self.inside.rows = c.len.ensures in
          let k = c.self.inside.rows.ok in
          let b : c.len-2.result ≡ length c.self.inside.entries.entries = c.len-2.ensures.len in
          let d = ap length entries_were in
          let e = ap length (ap (λ x. x.rows.items) w.self-inside-is) in
          let t = w.if-len.false in omega (arith, a, b, d, e, t, k)
    ] in
    let flags : (c.if-len-2.live ≡ live) ⊎ (c.if-len-2.live ≡ live ++ false ∷ []) = elim c.if-len-2.branch [
      | then-len-2+in_ok-push-2 w ↦ inr (w.live-is ∙ w.in_ok-push-2.ensures.ok)
      | else-len-2 w ↦ inl w.live-is
    ] in
    let fits : length c.if-len-2.live ≤ length inside.rows.items = elim c.if-len-2.branch [
      | then-len-2+in_ok-push-2 w ↦
          let l = one_longer live c.if-len-2.live false (w.live-is ∙ w.in_ok-push-2.ensures.ok) in
          let a : c.len-3.result ≡ length live = c.len-3.ensures in
          let b : c.len-4.result ≡ length inside.entries.entries = c.len-4.ensures.len in
          let d = ap length entries in
          let t = w.if-len-2.true in omega (arith, l, a, b, d, t, more)
      | else-len-2 w ↦ let e = ap length w.live-is in let n = many.1 in let r = no_fewer s.rows inside.rows.items (row_of [] []) rows in omega (arith, e, n, r)
    ] in
    let t : Store _ _ = record { entries = inside.entries.entries; rows = inside.rows.items; live = c.if-len-2.live } in
    still_shaped g.K.PartialEq.eq (store_of s live) t (row_of [] []) c.requires.shaped refl refl entries rows flags fits
