-- A line that asks for an edit.
use Rattle.std.proofs.Common.{ℕ, List, Option, Some, None, IsSome, Result, Ok, Err, OnErr, codes, refl}
use Rattle.std.specs.Option.{option_and_then}
use Rattle.model_edits.specs.declared.edit.Edit.{Edit}
use Rattle.desk_commands.specs.Commands.{connection_edit_of, edit_of, ini_edit_of, or_else, selection_of}
use Rattle.desk_commands.specs.Injections.{injection_of, withdrawal_of}
use Rattle.desk_commands.specs.Words.{behind}

pub on_err : {A E : Type 0} (r : Result A E) (P : Type 0) → P → OnErr r P
on_err (Ok x) P p = tt
on_err (Err e) P p = p

in_front : (a b : Option Edit) → IsSome a → IsSome (or_else a b)
in_front (Some e) b is = refl
in_front None b is = cc

further : (a b : Option Edit) → IsSome b → IsSome (or_else a b)
further (Some e) b is = refl
further None b is = is

third : (a b c d : Option Edit) → IsSome c → IsSome (or_else a (or_else b (or_else c d)))
third a b c d is = further a (or_else b (or_else c d)) (further b (or_else c d) (in_front c d is))

pub by_injection : (line : List ℕ) → IsSome (injection_of line) → IsSome (edit_of line)
unfolding edit_of
by_injection line is =
    third (option_and_then ini_edit_of (behind (codes "ini ") line)) (selection_of line) (injection_of line) (or_else (connection_edit_of line) (withdrawal_of line)) is

pub by_connection : (line : List ℕ) → IsSome (connection_edit_of line) → IsSome (edit_of line)
unfolding edit_of
by_connection line is =
    let last = or_else (connection_edit_of line) (withdrawal_of line) in
    further (option_and_then ini_edit_of (behind (codes "ini ") line)) (or_else (selection_of line) (or_else (injection_of line) last))
    (further (selection_of line) (or_else (injection_of line) last) (further (injection_of line) last (in_front (connection_edit_of line) (withdrawal_of line) is)))
