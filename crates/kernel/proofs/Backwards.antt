-- A run that goes back, and the boxes that it finds.
use Rattle.std.proofs.Common.{◌≡◌, ℕ, List, Option, Some, None, refl, sym, ap, ◌∙◌, subst, map, option_map}
use Rattle.module_api.specs.Behaviour.{Behaviour}
use Rattle.run_semantics.specs.declared.traces.Instance.{Instance}
use Rattle.run_semantics.specs.Laws.{AreStates}
use Rattle.run_semantics.specs.Run.{standing}
use Rattle.run_semantics.specs.World.{World}
use Rattle.kernel.specs.declared.request.Request.{Request}
use Rattle.kernel.specs.Seats.{request_for}
use Rattle.kernel_boxes.specs.Seats.{BoxAt, instance_of, AreOfKinds, AreKept}
use Rattle.kernel_boxes.specs.Saved.{CanTake}
use Rattle.kernel_boxes.specs.Staying.{first_without, staying, IdsRise}
use Rattle.kernel_boxes.proofs.Going.{all_there, kinds_stay}
use Rattle.kernel_boxes.proofs.Saving.{Rise}

none_found : {A B : Type 0} (f : A → B) (found : Option A) → option_map f found ≡ None → found ≡ None
none_found f None e = refl
none_found f (Some x) e = cc

-- the boxes that stay are left, each of its kind
pub those_left : (b : Behaviour) (saved : List Instance) (old new : List BoxAt) → new ≡ staying saved old → AreOfKinds b old → AreKept b (staying saved old) new
those_left b saved old new same kinds = record {
  kinds = subst (AreOfKinds b) (sym same) (kinds_stay b saved old kinds);
  standing_is = ap (λ ts. standing (map instance_of ts)) same;
}

-- WHERE NONE IS WANTED the boxes can take the states of the position
pub can_take : (b : Behaviour) (w : World) (saved : List Instance) (below : ℕ) (old new : List BoxAt) → IdsRise 0 saved → Rise 0 below old → AreStates b saved → AreOfKinds b old → new ≡ staying saved old
    → (wanted : Option Request) → wanted ≡ None → wanted ≡ option_map (request_for w) (first_without (standing (map instance_of new)) (standing saved)) → CanTake b saved new
can_take b w saved below old new rising rise states kinds same wanted none is =
    let found = none_found (request_for w) (first_without (standing (map instance_of new)) (standing saved)) (sym is ∙ none) in
    let there = all_there 0 below saved old rising rise (ap (λ ts. first_without (standing (map instance_of ts)) (standing saved)) (sym same) ∙ found) in
    record {
      kinds = (those_left b saved old new same kinds).kinds;
      same = ap (λ ts. standing (map instance_of ts)) same ∙ there;
      states = states;
    }
