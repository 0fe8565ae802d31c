-- Modules that are dropped, in code and in the definitions.
use Rattle.std.proofs.Common.{◌≡◌, ℕ, not, Bool, true, false, List, sym, ap, ◌∙◌, map, if◌then◌else◌}
use Rattle.std.specs.List.{filter}
use Rattle.run_semantics.specs.Deleting.{gone, subtree_dropped, subtree_of}
use Rattle.run_semantics.specs.Perform.{Flow, On, Stopped}
use Rattle.run_semantics.specs.Subtree.{among}
use Rattle.run_semantics.specs.World.{World}
use Rattle.run_semantics.specs.declared.traces.Instance.{Instance}
use Rattle.kernel_boxes.specs.Seats.{BoxAt, instance_of}
use Rattle.kernel_boxes.proofs.Leaving.{instances_left}
use Rattle.kernel.specs.Seats.{world_of}

dropped_world : (ids : List ℕ) (core core' : World) (seats seats' : List BoxAt) → core' ≡ gone ids core → seats' ≡ filter (λ s. not (among s.id ids)) seats → world_of core' seats' ≡ gone ids (world_of core seats)
dropped_world ids core core' seats seats' e s =
    ap (λ (c : World). world_of c seats') e
    ∙ ap (λ (ms : List Instance). record (gone ids core) { modules = ms }) (ap (map instance_of) s ∙ instances_left ids seats)

-- by the lists that the code hands over, which are all of the subtree's ids
module _ (id target : ℕ) (core core' : World) (seats seats' : List BoxAt) (ids for_core for_boxes for_test : List ℕ) (is : ids ≡ subtree_of target core) (a : for_core ≡ ids) (b : for_boxes ≡ ids) (c : for_test ≡ ids) (e : core' ≡ gone for_core core) (s : seats' ≡ filter (λ s. not (among s.id for_boxes)) seats) where
  whole : world_of core' seats' ≡ gone (subtree_of target core) (world_of core seats)
  whole = dropped_world (subtree_of target core) core core' seats seats' (e ∙ ap (λ xs. gone xs core) (a ∙ is)) (s ∙ ap (λ xs. filter (λ (x : BoxAt). not (among x.id xs)) seats) (b ∙ is))

  abbrev either : Bool → Flow
  either t = if t then Stopped (gone (subtree_of target core) (world_of core seats)) else On (gone (subtree_of target core) (world_of core seats))

  -- the module that acts is one of them, or not
  pub dropped_stops : among id for_test ≡ true → Stopped (world_of core' seats') ≡ subtree_dropped id target (world_of core seats)
  dropped_stops t = ap Stopped whole ∙ ap either (sym t ∙ ap (among id) (c ∙ is))

  pub dropped_goes_on : among id for_test ≡ false → On (world_of core' seats') ≡ subtree_dropped id target (world_of core seats)
  dropped_goes_on t = ap On whole ∙ ap either (sym t ∙ ap (among id) (c ∙ is))
