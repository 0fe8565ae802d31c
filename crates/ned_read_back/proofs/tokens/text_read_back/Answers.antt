use Rattle.ned_read_back.proofs.SoundTokens as sound
use Rattle.ned_read_back.proofs.tokens.text_read_back.Goals as goal

pub returns : goal.returns
returns c = sound.text_read_back c.args.bytes.now
