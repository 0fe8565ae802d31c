use Rattle.inside_laws.proofs.Found.{joined_sound, whole_sound}
use Rattle.inside_laws.proofs.laws.insides_are_sound.Goals as goal

pub returns : goal.returns
returns c = record { whole = whole_sound; joined = joined_sound }
