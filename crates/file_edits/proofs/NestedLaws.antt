-- A type is made of its parts.
use Rattle.std.proofs.Common.{◌≡◌, List, sym, ap, ◌∙◌}
use Rattle.ned_trees.specs.declared.declarations.NestedType.{NestedType, out-NestedType, roll-NestedType, the_lemmas}
use Rattle.ned_trees.specs.declared.declarations.NestedType.TheOpen.{NestedType-F}
use Rattle.ned_trees.specs.declared.declarations.TypeDeclaration.{TypeDeclaration}

made_again : (t : NestedType) → roll-NestedType (out-NestedType t) ≡ t
made_again t = search the_lemmas

opened_again : (x : NestedType-F NestedType) → out-NestedType (roll-NestedType x) ≡ x
opened_again x = search the_lemmas

pub of_parts : (t : NestedType) (d : TypeDeclaration) (ts : List NestedType) → d ≡ (out-NestedType t).declared → ts ≡ (out-NestedType t).types
    → roll-NestedType (record { declared = d; types = ts }) ≡ t
of_parts t d ts p q = rw (p, q) (made_again t)
