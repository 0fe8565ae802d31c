use Rattle.ini_entries.proofs.KeyLaws.{byte_reached, escaped_reached, nothing_left}
use Rattle.ini_entries.proofs.keys.last_part.Goals as goal

pub bytes-preserved-then-escaped : goal.bytes-preserved-then-escaped
bytes-preserved-then-escaped c = escaped_reached c.bytes.place c.bytes.escaped c.bytes.rest.now c.in-Some.byte.now c.in-Some.after.now _ _ _ c.if-escaped.true c.in-Some.ensures.cases.0 c.bytes.invariant

pub bytes-preserved : goal.bytes-preserved
bytes-preserved c = byte_reached c.bytes.place c.place_behind-place.result c.bytes.escaped c.bytes.rest.now c.in-Some.byte.now c.in-Some.after.now _ _ _ _ _ c.if-escaped.false c.in-Some.ensures.cases.0 c.place_behind-place.ensures c.found_behind-behind.ensures c.kept_behind-kept.ensures c.bytes.invariant

pub returns : goal.returns
returns c = nothing_left c.bytes.place c.bytes.escaped c.bytes.rest.now _ _ _ c.in_default.ensures.cases c.bytes.invariant
