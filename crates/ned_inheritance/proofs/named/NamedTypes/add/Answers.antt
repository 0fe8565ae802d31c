use Rattle.std.proofs.Common.{◌++◌, ◌∷◌, [], not, ◌||◌, subst, sym, ap, ◌∙◌, bytes_eq}
use Rattle.std.specs.Prelude.{is_none}
use Rattle.ned_types.specs.Types.{is_type_named}
use Rattle.ned_inheritance.specs.Named.{types_at, HaveNames}
use Rattle.ned_inheritance.proofs.NamedLaws.{have_more, added, is_absent, names_added, told_none}
use Rattle.ned_inheritance.proofs.named.NamedTypes.add.Goals as goal

pub invariant_of-self-2 : goal.invariant_of-self-2
invariant_of-self-2 c = subst HaveNames (sym c.in_ok-before.ensures.entries) (have_more c.as_bytes.result c.args.declared c.self.inside.types.entries c.as_bytes.ensures c.self.invariant)

pub returns-clause-added : goal.returns-clause-added
returns-clause-added c =
    told_none c.in_ok-before.before c.is_none.result c.is_none.ensures
    ∙ ap is_none c.in_ok-before.ensures.old
    ∙ is_absent c.as_bytes.result c.args.declared.now.name c.self.inside.types.entries c.self.invariant c.as_bytes.ensures
    ∙ ap (λ ts. not (is_type_named c.args.declared.now.name ts)) c.self.view_is

pub returns-clause-types : goal.returns-clause-types
returns-clause-types c = λ none.
    ap types_at c.in_ok-before.ensures.entries
    ∙ added c.as_bytes.result c.args.declared c.self.inside.types.entries c.as_bytes.ensures c.self.invariant (ap (is_type_named c.args.declared.now.name) c.self.view_is ∙ none)
    ∙ ap (λ ts. ts ++ c.args.declared.now ∷ []) c.self.view_is

pub returns-clause-names : goal.returns-clause-names
returns-clause-names c = λ name.
    ap (λ es. is_type_named name (types_at es)) c.in_ok-before.ensures.entries
    ∙ names_added c.as_bytes.result c.args.declared c.self.inside.types.entries name c.as_bytes.ensures c.self.invariant
    ∙ ap (λ ts. is_type_named name ts || bytes_eq c.args.declared.now.name name) c.self.view_is
