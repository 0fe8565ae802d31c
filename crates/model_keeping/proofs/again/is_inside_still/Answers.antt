use Rattle.std.proofs.Common.{◌≡◌, ◌∙◌, ◌<◌, ◌^◌, ℕ, Bool, true, List, ap, subst, sym}
use Rattle.model_keeping.specs.Held.{AllServeStill, known_now}
use Rattle.param_keeping.specs.Stores.{store_of}
use Rattle.rest_index.specs.declared.row.Row.{Row}
use Rattle.rest_index.specs.Rests.{asked_of, is_live}
use Rattle.model_keeping.proofs.Standing.{inside_right}
use Rattle.model_keeping.proofs.again.is_inside_still.Goals as goal

pub returns-then-is_live : goal.returns-then-is_live
returns-then-is_live c = λ all v there.
    let kept = c.args.store.now.kept in
    let live = c.args.store.now.live in
    let since = c.args.since.now.entries in
    inside_right c.requires.0 c.args.after.now kept live c.args.closed.now since c.requires.1
    (subst (λ (n : ℕ). n < 2 ^ 63) c.len-few.ensures.len c.len-few.ensures.small) (subst (λ (n : ℕ). n < 2 ^ 63) c.len-found.ensures.len c.len-found.ensures.small)
    c.args.place c.args.site.now v there (subst (λ (l : List Bool). is_live l c.args.place ≡ true) c.as_slice.ensures (sym c.is_live.ensures ∙ c.if-is_live.true))
    (subst (AllServeStill c.args.site.now (store_of kept live) (known_now kept c.args.closed.now since)) (c.asked_of.ensures ∙ ap (λ (rows : List Row). asked_of rows c.args.place) c.rows.ensures) (c.all_serve.ensures all))
