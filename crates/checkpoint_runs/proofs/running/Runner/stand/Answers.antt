use Rattle.checkpoint_runs.proofs.running.Runner.stand.Goals as goal

pub next_box-requires : goal.next_box-requires
next_box-requires g c = record { filled = rw c.in-Filling.is at c.requires.live }

pub declined-requires : goal.declined-requires
declined-requires g c = record { declined = rw c.in-Refused.is at c.requires.live }
