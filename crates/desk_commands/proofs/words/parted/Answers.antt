use Rattle.std.proofs.Common.{◌+◌, ◌-◌, sym, length, drop, arith, length-drop}
use Rattle.std.proofs.lemmas.List.{take_all}
use Rattle.desk_commands.proofs.Parting.{more_words}
use Rattle.desk_commands.proofs.words.parted.Goals as goal

pub returns-clause-words : goal.returns-clause-words
returns-clause-words c =
    let bytes = c.args.bytes.now in
    let behind = c.in_ok-at.at + 1 in
    rw (take_all (length bytes - behind) (drop behind bytes) (omega (arith, length-drop behind bytes)))
    (more_words bytes c.in_ok-at.at (sym c.in_ok-at.ensures.value))
