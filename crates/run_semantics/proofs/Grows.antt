-- What each part of an event adds: questions, and modules.
use Rattle.std.proofs.Common.{◌≡◌, ℕ, true, List, [], ◌∷◌, refl, append-nil}
use Rattle.module_api.specs.Behaviour.{Behaviour}
use Rattle.module_api.specs.declared.call.CallReason.{CallReason}
use Rattle.module_api.specs.declared.reply.Action.{Action}
use Rattle.event_set.specs.declared.pending.Happening.{Happening}
use Rattle.event_set.specs.declared.pending.Pending.{Pending}
use Rattle.model_questions.specs.declared.answer.Question.TheVariants.{Build}
use Rattle.model_questions.specs.Answers.{Answers}
use Rattle.run_semantics.specs.Creating.{record_for}
use Rattle.run_semantics.specs.Event.{happens}
use Rattle.run_semantics.specs.World.{World, is_live}
use Rattle.run_semantics.specs.Perform.{deed, call_module}
use Rattle.run_semantics.specs.Run.{start_modules}
use Rattle.run_semantics.proofs.Flows.{in_flow}
use Rattle.run_semantics.proofs.Growth.{Fits, IsGrown, grown_same, grown_on, grown_beside, asked_grows, submodules_grow}
use Rattle.run_semantics.proofs.Lasting.{AreLive, AreNew, Lasts, by_steps, ends_hold, deed_ends, call_ends, start_ends, happens_ends}

pub growth_lasts_on : (b : Behaviour) (m : Answers) (u : World) → Lasts b m (IsGrown u)
growth_lasts_on b m u = record {
  asked = λ q w n f g p. grown_on p (asked_grows q w f n);
  emitted = λ e w n t f g p. grown_on p (grown_beside w _ g refl refl refl);
  recorded = λ s w f g p. grown_on p (grown_beside w _ g refl refl refl);
  inserted = λ e w n t live short f g p. grown_on p (grown_beside w _ g refl refl refl);
  cancelled = λ id timer w f g p. grown_on p (grown_beside w _ g refl refl refl);
  transmitted = λ ts w f g p. grown_on p (grown_beside w _ g refl refl refl);
  joined = λ gate to w f g p. grown_on p (grown_beside w _ g refl refl refl);
  ended = λ w f g p. grown_on p (grown_beside w _ g refl refl refl);
  called = λ id reason i w e f g p. grown_on p (grown_beside w _ g refl refl refl);
  finished = λ id w f g p. grown_on p (grown_beside w _ g refl refl refl);
  gone = λ target w live f g p. grown_on p (grown_beside w _ g refl refl refl);
  created = λ parent c class w live room deep f g p. grown_on p (record {
    rest = [];
    joined = append-nil w.questions;
    present = tt;
    count = refl;
    more = record_for parent c class ∷ [];
    records = refl;
    fits = g;
  });
  set_up = by_steps m (IsGrown u) (λ id w n f g p. grown_on p (asked_grows (Build id) w f n)) (λ parent bs w n few f g p. grown_on p (submodules_grow parent bs w f n));
  started = λ ids w e live fresh f g p. grown_on p (grown_beside w _ g refl refl refl);
}

-- a deed
pub deed_grows : (b : Behaviour) (m : Answers) (id : ℕ) (action : Action) (w : World) → is_live w id ≡ true → Fits w → IsGrown w (in_flow (deed id action w))
deed_grows b m id action w live f = (ends_hold b m (IsGrown w) (growth_lasts_on b m w) (id ∷ []) (deed id action w) (deed_ends b m (IsGrown w) (growth_lasts_on b m w) (id ∷ []) id action w live ((f, grown_same w f), (live, tt)))).1

-- one call
pub call_grows : (b : Behaviour) (m : Answers) (id : ℕ) (p : CallReason) (w : World) → Fits w → IsGrown w (in_flow (call_module b m id p w))
call_grows b m id p w f = (ends_hold b m (IsGrown w) (growth_lasts_on b m w) [] (call_module b m id p w) (call_ends b m (IsGrown w) (growth_lasts_on b m w) id p w (f, grown_same w f))).1

-- what happens in an event
pub happens_grows : (b : Behaviour) (m : Answers) (p : Pending) (what : Happening) (w : World) → Fits w → IsGrown w (in_flow (happens b m p what w))
happens_grows b m p what w f = (ends_hold b m (IsGrown w) (growth_lasts_on b m w) [] (happens b m p what w) (happens_ends b m (IsGrown w) (growth_lasts_on b m w) p what w (f, grown_same w f))).1

-- a start
pub start_grows : (b : Behaviour) (m : Answers) (ids : List ℕ) (first : ℕ) (w : World) → AreLive w ids → AreNew w ids → Fits w → IsGrown w (in_flow (start_modules b m ids first w))
start_grows b m ids first w live fresh f = (ends_hold b m (IsGrown w) (growth_lasts_on b m w) [] (start_modules b m ids first w) (start_ends b m (IsGrown w) (growth_lasts_on b m w) ids first w live fresh (f, grown_same w f))).1
