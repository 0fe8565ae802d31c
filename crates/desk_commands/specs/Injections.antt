-- Commands that inject a message, or take one back.
use Rattle.std.specs.Prelude.{ℕ, ◌==◌, Bool, ◌&&◌, ◌||◌, not, nat_le, nat_lt, List, [], ◌∷◌, Option}
use Rattle.std.specs.Prelude.{Some, None, option_map, codes, length, position, take, drop}
use Rattle.std.specs.Prelude.{unwrap_or, if◌then◌else◌}
use Rattle.std.specs.Char.{is_ascii_digit}
use Rattle.std.specs.List.{list_all}
use Rattle.std.specs.Option.{option_and_then}
use Rattle.std.specs.Result.{result_ok}
use Rattle.std.specs.Str.{bytes_eq, is_utf8}
use Rattle.hex.specs.Hex.{decode_of}
use Rattle.sim_time.specs.Decimal.{time_of_decimal}
use Rattle.model_injections.specs.declared.injection.Due.{Due}
use Rattle.model_edits.specs.declared.edit.Edit.{Edit}
use Rattle.model_edits.specs.declared.edit.Edit.TheVariants as edit
use Rattle.desk_commands.specs.Numbers.{number_of, short_of, signed_of}
use Rattle.desk_commands.specs.Words.{behind, words_of}

infixl 10 ◌>>=◌
abbrev pub ◌>>=◌ : {A B : Type 0} → Option A → (A → Option B) → Option B
o >>= f = option_and_then f o

-- ---- the words of an injection

-- PATH: UTF-8, and one byte at least
abbrev pub path_of : List ℕ → Option (List ℕ)
path_of word = if is_utf8 word && nat_lt 0 (length word) then Some word else None

-- neither a digit nor a point
abbrev pub begins_unit : ℕ → Bool
begins_unit b = not (is_ascii_digit b || b == 46)

-- how many bytes of a TIME are its number: all before the first that is neither
abbrev pub number_length : List ℕ → ℕ
number_length word = unwrap_or (position begins_unit word) (length word)

-- TIME: a number, and the unit after it
unfoldable pub time_of : List ℕ → Option ℕ
time_of word =
    result_ok (time_of_decimal (take (number_length word) word) (drop (number_length word) word))

-- TIME and PRIORITY: when it is due
unfoldable pub due_of : List ℕ → List ℕ → Option Due
due_of time priority = do
  at ← time_of time
  rank ← signed_of priority
  Some (record { time = at; priority = rank })

-- a hex digit in lower case: `0` to `9`, or `a` to `f`
abbrev pub is_lower_digit : ℕ → Bool
is_lower_digit b = is_ascii_digit b || (nat_le 97 b && nat_le b 102)

-- such digits, one at least
abbrev pub is_lower_hex : List ℕ → Bool
is_lower_hex word = nat_lt 0 (length word) && list_all is_lower_digit word

-- HEX: `-` for no bytes, and else a pair of such digits for each byte
unfoldable pub payload_of : List ℕ → Option (List ℕ)
payload_of word =
    if bytes_eq word (codes "-") then Some []
    else (if is_lower_hex word then result_ok (decode_of word) else None)

-- ---- edits

-- PATH TIME PRIORITY KIND BITS HEX: six words, each of which says what it must
unfoldable pub asked_by : List (List ℕ) → Option Edit
asked_by (path ∷ time ∷ priority ∷ kind ∷ bits ∷ hex ∷ []) = do
  target ← path_of path
  due ← due_of time priority
  number ← signed_of kind
  size ← number_of bits
  payload ← payload_of hex
  Some (edit.Inject target due number size payload)
asked_by _ = None

-- `inject PATH TIME PRIORITY KIND BITS HEX`
abbrev pub injection_of : List ℕ → Option Edit
injection_of line = option_and_then (λ rest. asked_by (words_of rest))
    (behind (codes "inject ") line)

-- `withdraw K`: K has 32 bits
abbrev pub withdrawal_of : List ℕ → Option Edit
withdrawal_of line =
    option_map edit.Withdraw (option_and_then short_of (behind (codes "withdraw ") line))
