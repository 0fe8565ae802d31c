-- References, as they are written (OMNeT++ Simulation Manual, "Referencing Parameters").
use Rattle.std.specs.Prelude.{ℤ, ℕ, List}
use Rattle.ned_trees.specs.declared.expressions.Scope.{Scope}
use Rattle.param_eval.specs.declared.names.Name.{Name}
use Rattle.param_eval.specs.declared.names.Name.TheVariants as name

-- what an expression asks the value of. The index of `sub[e].x` and of `exists(sub[e])` stands here
-- as the number that it is
pub data Reference : Type 0 where
  Own : List ℕ → Reference
  Scoped : Scope → List ℕ → Reference
  Member : List ℕ → List ℕ → Reference
  Element : List ℕ → ℤ → List ℕ → Reference
  Index : Reference
  ParentIndex : Reference
  Sizeof : List ℕ → Reference
  Exists : List ℕ → Reference
  ExistsAt : List ℕ → ℤ → Reference

-- the reference that a name is
abbrev pub reference_of : Name → Reference
reference_of (name.Own x) = Own x.now
reference_of (name.Scoped s x) = Scoped s x.now
reference_of (name.Member x y) = Member x.now y.now
reference_of (name.Element x k y) = Element x.now k y.now
reference_of name.Index = Index
reference_of name.ParentIndex = ParentIndex
reference_of (name.Sizeof x) = Sizeof x.now
reference_of (name.Exists x) = Exists x.now
reference_of (name.ExistsAt x k) = ExistsAt x.now k
