use Rattle.nedrun.proofs.ended.Goals as goal

-- who was served to the end is not stuck
pub returns-after-words-clause-stuck : goal.returns-after-words-clause-stuck
returns-after-words-clause-stuck g c = rw c.in-Ok-default-End.is (λ apart stop said. absurd (apart c.in-Ok-default-End.field-0-1-is))
