-- The names that the walks cite, and a step for two clauses.
--     says_both        a goal P ∗ (⌜φ⌝ ∗ ⌜ψ⌝): φ and ψ are shown, and P is left
pub use Rattle.std.proofs.Common.{List, [], ◌∷◌, ◌++◌, refl}
pub use Rattle.std.proofs.raw_atomic.Walks.{proved}
pub use base.Logic.{id⊢}
pub use base.Fml.{ftrue, flft}
pub use mir.Syntax.{named}
pub use mir.Val.{vunit, vstruct, vcons, vnil}
pub use types.Kit.{‵, raw, ◌⊛◌, ◌$◌, ◌∵◌, !, qed, done, move, keep, drop, use1, split, join, fsplit3, feq_i, suffices, frame, group}
pub use types.Run.{enter, of_opd, unit_lit, no_more, and_then, returns}
pub use types.Part.{agg}
pub use types.ByLocal.{alloc_all, pass_all, free_all, look_at, get, sets}
pub use denote.Builtin.{u8}
pub use denote.Exit.{yes}
pub use denote.RattleType.{owns}
pub use denote.Ref.{MutRef, mut_vals, mut_Tells, ShrRef, shr_vals, shr_Tells}
pub use denote.Shadow.{pure_i}
pub use denote.Signature.{plain}
pub use denote.Slice.{ShrSlice, shr_slice_vals, shr_slice_Tells}
pub use denote.Steps.{nothing, opens, closes}
pub use denote.Triple.Entry.{on_entry}
pub use denote.Triple.Walked.{Stays, walk_of, stay_ref, Goes-ref, stay_none_ref, Goes-none_ref, stay_none_slice, Goes-none_slice, ends_at}
use seplogic.Ra.Ura.{Ura}
use base.Logic.{SProp, ent, sep, emp, via, comm∗, mono_l, emp∗}
use types.Logic.{Logic}
use types.Kit.{Item, prop, Step, step}
use contract.Monad.{fact, fact_i}

-- what needs nothing stands beside anything
beside : {M : Type 1} (𝓤 : Ura M) (P Q : SProp 𝓤) → ent 𝓤 (emp 𝓤) Q → ent 𝓤 P (sep 𝓤 P Q)
beside 𝓤 P Q q = via 𝓤 (sep 𝓤 (emp 𝓤) P) (emp∗ 𝓤 P) (via 𝓤 (sep 𝓤 Q P) (mono_l 𝓤 P q) (comm∗ 𝓤 Q P))

pub says_both : {M : Type 1} {𝓤 : Ura M} {𝓛 : Logic 𝓤} {K : Type 0} {Γ : List (Item 𝓤)} → K → {φ ψ : Type 0} {P : SProp 𝓤} → φ → ψ
    → Step K 𝓛 Γ (prop P) Γ (prop (sep 𝓤 P (sep 𝓤 (fact 𝓤 φ) (fact 𝓤 ψ))))
says_both {𝓤 = 𝓤} t {φ} {ψ} {P} x y =
    let A : SProp 𝓤 = fact 𝓤 φ in let B : SProp 𝓤 = fact 𝓤 ψ in
    step (λ s. record { prf = via 𝓤 P s.prf (beside 𝓤 P (sep 𝓤 A B) (via 𝓤 A (fact_i 𝓤 φ (emp 𝓤) x) (beside 𝓤 A B (fact_i 𝓤 ψ (emp 𝓤) y)))) })
