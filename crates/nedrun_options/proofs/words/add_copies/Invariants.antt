use Rattle.std.proofs.Common.{◌≡◌, ◌++◌, map, string_bytes, take}
use Rattle.nedrun_options.proofs.words.add_copies.Given as goal

abbrev pub invariant-loop-text : goal.invariant-loop-text
invariant-loop-text l = map string_bytes l.copies.items ≡ map string_bytes l.fn.copies.items ++ map (λ text. text.now) (take l.text-index l.fn.texts)
