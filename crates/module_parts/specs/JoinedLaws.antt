-- The laws of two catalogues as one.
use Rattle.std.proofs.Common.{◌≡◌, ◌∙◌, ℕ, Bool, false, ◌||◌, List, if◌then◌else◌, IsTrue}
use Rattle.std.proofs.Common.{ap, sym, subst}
use Rattle.module_api.specs.Behaviour.{Naming, Behaviour}
use Rattle.module_api.specs.Laws.{IsLawful}
use Rattle.module_api.specs.Meaning.{Module, IsFresh}
use Rattle.module_parts.specs.CatalogueLaws.{either_reads, either_states}
use Rattle.module_parts.specs.Joined.{joined}

-- TWO LAWFUL CATALOGUES AS ONE ARE LAWFUL
pub joined_lawful : (a b : Behaviour) → IsLawful a → IsLawful b → IsLawful (joined a b)
joined_lawful a b of_a of_b = record {
  reads = λ kind. either_reads (a.known kind) (a.naming kind) (b.naming kind) (of_a.reads kind)
      (of_b.reads kind);
  states = λ kind known. either_states (a.known kind) (b.known kind) (a.naming kind)
      (b.naming kind) (of_a.states kind) (of_b.states kind) known;
}

-- ---- a fresh module of one is a fresh module of both

abbrev names : Bool → Naming → Naming → Naming
names is_it n m = if is_it then n else m

-- of the first
pub first_fresh : (a b : Behaviour) (kind : List ℕ) (box : Module) → IsFresh a kind box
    → IsFresh (joined a b) kind box
first_fresh a b kind box h =
    let known : IsTrue (a.known box.kind) = h.of_kind.known in
    let wanted : IsTrue (a.known kind) = subst (λ k. IsTrue (a.known k)) h.kind known in
    record {
      of_kind = record {
        known = ap (λ x. x || b.known box.kind) known;
        named = h.of_kind.named
            ∙ sym (ap (λ x. names x (a.naming box.kind) (b.naming box.kind)) known);
      };
      kind = h.kind;
      initial = h.initial
          ∙ sym (ap (λ x. (names x (a.naming kind) (b.naming kind)).initial) wanted);
    }

-- of the second, where the first doesn't know the kind
pub second_fresh : (a b : Behaviour) (kind : List ℕ) (box : Module) → a.known kind ≡ false
    → IsFresh b kind box → IsFresh (joined a b) kind box
second_fresh a b kind box none h =
    let here : a.known box.kind ≡ false = subst (λ k. a.known k ≡ false) (sym h.kind) none in
    record {
      of_kind = record {
        known = ap (λ x. x || b.known box.kind) here ∙ h.of_kind.known;
        named = h.of_kind.named
            ∙ sym (ap (λ x. names x (a.naming box.kind) (b.naming box.kind)) here);
      };
      kind = h.kind;
      initial = h.initial ∙ sym (ap (λ x. (names x (a.naming kind) (b.naming kind)).initial) none);
    }
