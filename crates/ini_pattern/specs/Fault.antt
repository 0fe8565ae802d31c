-- What a refusal of a text means.
use Rattle.ini_pattern.specs.declared.pattern.PatternFault.{PatternFault}
use Rattle.ini_pattern.specs.declared.pattern.PatternFault.TheVariants.{BadPattern, NoMemory}

-- a text that is refused as no pattern has this property; one that memory did not suffice for may
-- have any
abbrev pub OnBadPattern : Type 0 → PatternFault → Type 0
OnBadPattern P BadPattern = P
OnBadPattern P (NoMemory _) = Unit {0}
