-- One turn of following a chain of hops.
use Rattle.std.proofs.Common.{◌≡◌, ℕ, zero, suc, ◌+◌, ◌-◌, ◌<◌, ◌≤◌, true, false, List, Option, Some, None, refl, sym, ap, ◌∙◌, arith, if◌then◌else◌}
use Rattle.model_questions.specs.Answers.{Answers}
use Rattle.run_semantics.specs.declared.outcome.RunFault.TheVariants as fault
use Rattle.std.specs.Option.{option_map}
use Rattle.run_semantics.specs.declared.routes.GateChange.{GateChange}
use Rattle.run_semantics.specs.declared.routes.NextHop.{NextHop}
use Rattle.run_semantics.specs.declared.routes.PassedHop.{PassedHop}
use Rattle.run_semantics.specs.declared.routes.PlacedGate.{PlacedGate}
use Rattle.run_semantics.specs.Routes.{if_live, is_simple}
use Rattle.run_semantics.specs.World.{World}
use Rattle.run_semantics.specs.Perform.{Flow, broken, next_hop, past_last, with_hop, after_hop, chain}

one_more : (limit done : ℕ) → done < limit → limit - done ≡ suc (limit - (done + 1))
one_more limit done h = omega (arith, h)

none_left : (limit done : ℕ) → limit ≤ done → limit - done ≡ zero
none_left limit done h = omega (arith, h)

-- a gate of which no change was found was not changed
pub unchanged : (w : World) (o : Option GateChange) → option_map (λ (c : GateChange). if_live w c.to) o ≡ None → o ≡ None
unchanged w None e = refl
unchanged w (Some c) e = cc

-- whatever goes on after the hop from that gate, goes on with this hop in this world
abbrev pub HopIs : Answers → PlacedGate → World → Option NextHop → World → Type 0
HopIs m g w o v = (next : Option NextHop → World → Flow) → next_hop m g next w ≡ next o v

module _ (m : Answers) (id : ℕ) (r : List PassedHop → PlacedGate → World → Flow) (limit done : ℕ) (g : PlacedGate) (passed : List PassedHop) (w v : World) (whole : Flow) (inv : chain m id r (limit - done) g passed w ≡ whole) where
  turn : (o : Option NextHop) → done < limit → HopIs m g w o v → whole ≡ after_hop id (chain m id r (limit - (done + 1))) r g passed o v
  turn o lt hop = sym inv ∙ (ap (λ n. chain m id r n g passed w) (one_more limit done lt) ∙ hop (after_hop id (chain m id r (limit - (done + 1))) r g passed))

  pub on_none : done < limit → HopIs m g w None v → whole ≡ broken id fault.NotConnected v
  on_none lt hop = turn None lt hop

  pub on_end : (h : NextHop) → done < limit → HopIs m g w (Some h) v → is_simple v.records h.to.id ≡ true → whole ≡ r (with_hop passed g h) h.to v
  on_end h lt hop simple = turn (Some h) lt hop ∙ ap (λ b. if b then r (with_hop passed g h) h.to v else chain m id r (limit - (done + 1)) h.to (with_hop passed g h) v) simple

  pub on_more : (h : NextHop) → done < limit → HopIs m g w (Some h) v → is_simple v.records h.to.id ≡ false → chain m id r (limit - (done + 1)) h.to (with_hop passed g h) v ≡ whole
  on_more h lt hop simple = sym (turn (Some h) lt hop ∙ ap (λ b. if b then r (with_hop passed g h) h.to v else chain m id r (limit - (done + 1)) h.to (with_hop passed g h) v) simple)

  pub at_last : (o : Option NextHop) → limit ≤ done → HopIs m g w o v → whole ≡ past_last id o v
  at_last o le hop = sym inv ∙ (ap (λ n. chain m id r n g passed w) (none_left limit done le) ∙ hop (past_last id))
