use Rattle.std.proofs.Common.{◌+◌, ◌-◌, ◌++◌, ◌∙◌, [], ap, arith, append-nil, option_to_list, reverse, sym}
use Rattle.model_settings.specs.Standings.{setting_of}
use Rattle.model_answers.specs.Kept.{most_insides, IsInsideKept}
use Rattle.model_answers.proofs.Keeping.{begins_both, empty_items, kept_more}
use Rattle.model_answers.proofs.Walks.{walk_none, walk_on, walk_over}
use Rattle.model_answers.proofs.kept.keep_all.Goals as goal

pub keep_inside-requires : goal.keep_inside-requires
keep_inside-requires c = c.loop-turn.invariant.0

pub loop-turn-init : goal.loop-turn-init
loop-turn-init c = (c.requires, λ es begins all. all)

pub returns-in_default-clause-insides : goal.returns-in_default-clause-insides
returns-in_default-clause-insides c =
    let s = setting_of c.args.setting.now in
    c.loop-turn.invariant.1 c.loop-turn.kept.entries ([], sym (append-nil c.loop-turn.kept.entries))
    (walk_none s (IsInsideKept s c.loop-turn.kept.entries) (most_insides - c.loop-turn._turn) c.loop-turn.pending.items
    (empty_items c.loop-turn.pending.items (omega (arith, c.loop-turn.pending.ok, c.in_default.ensures.cases.0))))

pub returns-clause-insides : goal.returns-clause-insides
returns-clause-insides c =
    let s = setting_of c.args.setting.now in
    c.loop-turn.invariant.1 c.loop-turn.kept.entries ([], sym (append-nil c.loop-turn.kept.entries))
    (walk_over s (IsInsideKept s c.loop-turn.kept.entries) (most_insides - c.loop-turn._turn) (reverse c.loop-turn.pending.items) (omega (arith, c.loop-turn-test.false)))

pub loop-turn-preserved : goal.loop-turn-preserved
loop-turn-preserved c =
    let s = setting_of c.args.setting.now in
    let h = c.in_ok-keep_inside.ensures in (
      h.kept,
      λ es begins all. c.loop-turn.invariant.1 es (begins_both c.loop-turn.kept.entries c.keep_inside.new.kept.entries es h.begins begins)
          (walk_on s (IsInsideKept s es) (most_insides - c.loop-turn._turn) (most_insides - (c.loop-turn._turn + 1)) c.in-Some.path c.pop.new.self.items c.loop-turn.pending.items
          c.keep_inside.new.pending.items (omega (arith, c.loop-turn-test.true))
          (c.pop.ensures.items ∙ ap (λ o. c.pop.new.self.items ++ option_to_list o) c.in-Some.is) h.pending
          (kept_more s c.keep_inside.new.kept.entries es c.in-Some.path begins h.inside) all),
    )
