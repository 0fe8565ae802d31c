use Rattle.place_index.proofs.Places.{no_text_reached, text_reached}
use Rattle.place_index.proofs.speaks.reaches.Goals as goal

pub returns-in-Ok : goal.returns-in-Ok
returns-in-Ok c = text_reached c.in-Ok.text.now c.as_bytes.result.now c.args.path.now c.args.entry.now c.speaks.result c.speaks.ensures c.in-Ok.ensures.cases.0 c.in-Ok.ensures.cases.1 c.as_bytes.ensures

pub returns-in-Err : goal.returns-in-Err
returns-in-Err c = no_text_reached c.as_bytes.result.now c.args.path.now c.args.entry.now c.in-Err.ensures.cases.0 c.as_bytes.ensures
