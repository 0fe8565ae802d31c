-- Tokens up to the parenthesis that closes.
use Rattle.std.specs.Prelude.{◌≡◌, ℕ, zero, suc, Bool, true, false, List, [], ◌∷◌, length, Ok, Err}
use Rattle.std.specs.Prelude.{◌+◌, Option, Some, None}
use Rattle.ned_tokens.specs.declared.token.Token.{Token}
use Rattle.ned_tokens.specs.Rule.{Rule, Reading, ◌>>=◌}

-- where a token leads: one more is open, one less, as many; or it may not stand there
pub data Turn : Type 0 where
  opens : Turn
  closes : Turn
  stays : Turn
  bars : Turn

abbrev pub goes_in : Turn → Bool
goes_in opens = true
goes_in closes = false
goes_in stays = true
goes_in bars = true

abbrev pub turned : Turn → (ℕ → Type 0) → ℕ → Type 0
turned opens P n = P (suc n)
turned stays P n = P n
turned closes P zero = ⊥
turned closes P (suc n) = P n
turned bars P n = ⊥

-- with n open before, none is open after, and none closes too much
abbrev pub IsBalanced : (Token → Turn) → ℕ → List Token → Type 0
IsBalanced turn zero [] = Unit {0}
IsBalanced turn (suc n) [] = ⊥
IsBalanced turn n (t ∷ ts) = turned (turn t) (λ k. IsBalanced turn k ts) n

abbrev pub with_token : Token → Reading (List Token) → Reading (List Token)
with_token t read = read >>= λ x. Ok (t ∷ x.0, x.1)

abbrev pub read_turn : Turn → (ℕ → Reading (List Token)) → ℕ → Token → List Token
    → Reading (List Token)
read_turn opens f n t ts = with_token t (f (suc n))
read_turn stays f n t ts = with_token t (f n)
read_turn closes f zero t ts = Ok ([], t ∷ ts)
read_turn closes f (suc n) t ts = with_token t (f n)
read_turn bars f n t ts = Err (suc (length ts))

unfoldable pub balanced_read : (Token → Turn) → ℕ → List Token → Reading (List Token)
balanced_read turn zero [] = Ok ([], [])
balanced_read turn (suc n) [] = Err 0
balanced_read turn n (t ∷ ts) = read_turn (turn t) (λ k. balanced_read turn k ts) n t ts

abbrev pub balanced : (Token → Turn) → Rule (List Token)
balanced turn = record {
  Is = λ ts xs. (xs ≡ ts) × IsBalanced turn 0 ts;
  read = balanced_read turn 0;
  starts = λ t. goes_in (turn t);
  goes_on = λ t. goes_in (turn t);
  empty = true;
}

-- how many parentheses are open after a token, where this many are before it; none where the text
-- ends at it
abbrev pub depth_behind : Turn → ℕ → Option ℕ
depth_behind opens n = Some (n + 1)
depth_behind stays n = Some n
depth_behind closes zero = None
depth_behind closes (suc n) = Some n
depth_behind bars n = None

abbrev pub is_closes : Turn → Bool
is_closes opens = false
is_closes closes = true
is_closes stays = false
is_closes bars = false
