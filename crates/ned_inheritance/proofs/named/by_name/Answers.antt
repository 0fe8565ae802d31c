use Rattle.std.proofs.Common.{List, [], ◌∷◌, ◌++◌, ◌||◌, Some, length, sym, ap, ◌∙◌}
use Rattle.ned_trees.specs.declared.declarations.TypeDeclaration.{TypeDeclaration}
use Rattle.ned_types.specs.Types.{is_built_in, is_type_named}
use Rattle.ned_inheritance.specs.Places.{duplicate_from}
use Rattle.ned_inheritance.proofs.NamedLaws.{is_taken_from, none_seen, none_left, channel_name, name_before, name_of_its_own, one_moved, told_there, told_new, taken_here, taken_later, one_longer, named_or_built_in}
use Rattle.ned_inheritance.proofs.named.by_name.Goals as goal

pub types-init : goal.types-init
types-init c =
    let none = none_seen c.new-named.result c.args.types.now c.new-named.ensures in
    (none.0, none.1, ap (λ (ns : List TypeDeclaration). duplicate_from ns (length ns) c.args.types.now) c.new-named.ensures)

pub returns-then-is_built_in : goal.returns-then-is_built_in
returns-then-is_built_in c =
    let t = c.in-Some.declared.now in
    let channel = ap is_built_in (sym c.as_bytes.ensures) ∙ sym c.is_built_in.ensures ∙ c.if-is_built_in.true in (
      sym c.types.invariant.1 ∙ channel_name c.types.named c.types.rest.now t c.in-Some.after.now c.in-Some.ensures.cases.0 channel,
      sym c.types.invariant.2
          ∙ taken_here c.types.named c.types.rest.now (length c.types.named) t c.in-Some.after.now c.in-Some.ensures.cases.0 (ap (λ b. b || is_type_named t.name c.types.named) channel)
          ∙ ap Some (sym c.len-number.ensures),
    )

pub returns-then-not-branch : goal.returns-then-not-branch
returns-then-not-branch c =
    let t = c.in-Some.declared.now in
    let there = told_there c.in_ok-add.field-0 _ c.in_ok-add.ensures.added c.if-not-branch.true in (
      sym c.types.invariant.1 ∙ name_before c.types.named c.types.rest.now t c.in-Some.after.now c.in-Some.ensures.cases.0 there,
      sym c.types.invariant.2
          ∙ taken_here c.types.named c.types.rest.now (length c.types.named) t c.in-Some.after.now c.in-Some.ensures.cases.0 (named_or_built_in (is_built_in t.name) (is_type_named t.name c.types.named) there)
          ∙ ap Some (sym c.len-number.ensures),
    )

pub types-preserved : goal.types-preserved
types-preserved c =
    let t = c.in-Some.declared.now in
    let left = c.in-Some.after.now in
    let channel = ap is_built_in (sym c.as_bytes.ensures) ∙ sym c.is_built_in.ensures ∙ c.if-is_built_in.false in
    let own = told_new c.in_ok-add.field-0 _ c.in_ok-add.ensures.added c.if-not-branch.false in
    let more = c.in_ok-add.ensures.types own in (
      ap (λ ns. ns ++ left) more ∙ one_moved c.types.named c.types.rest.now c.args.types.now t left c.in-Some.ensures.cases.0 c.types.invariant.0,
      ap (λ ns. is_taken_from ns left) more
          ∙ name_of_its_own c.types.named c.types.rest.now t left c.in-Some.ensures.cases.0 channel own
          ∙ c.types.invariant.1,
      ap (λ (ns : List TypeDeclaration). duplicate_from ns (length ns) left) more
          ∙ ap (λ n. duplicate_from (c.types.named ++ t ∷ []) n left) (one_longer c.types.named t)
          ∙ taken_later c.types.named c.types.rest.now (length c.types.named) t left c.in-Some.ensures.cases.0 channel own
          ∙ c.types.invariant.2,
    )

pub returns : goal.returns
returns c = none_left c.types.named c.types.rest.now c.args.types.now c.in_default.ensures.cases c.types.invariant.1 c.types.invariant.0
