-- Rules of a grammar over tokens. A rule says which tokens spell which value, and how the value at
-- the front is read.
use Rattle.std.specs.Prelude.{◌≡◌, ℕ, zero, suc, Bool, true, false, ◌&&◌, ◌||◌, List, [], ◌∷◌, ◌++◌}
use Rattle.std.specs.Prelude.{length, Option, Some, None, Result, Ok, Err, ◌⊎◌, if◌then◌else◌}
use Rattle.std.specs.Prelude.{is_some}
use Rattle.std.specs.Borrow.{Bor}
use Rattle.ned_tokens.specs.declared.token.Token.{Token}
use Rattle.ned_tokens.specs.declared.refusal.Refusal.{Refusal}
use Rattle.ned_tokens.specs.declared.refusal.Refusal.TheVariants.{Memory, At}

-- A value and the tokens after it, or how many tokens are left at the first that can't go on.
abbrev pub Reading : Type 0 → Type 0
Reading X = Result (X × List Token) ℕ

infixl 10 ◌>>=◌
abbrev pub ◌>>=◌ : {A B : Type 0} → Result A ℕ → (A → Result B ℕ) → Result B ℕ
(Ok x) >>= f = f x
(Err e) >>= f = Err e

-- the first token passes the test
abbrev pub begins : (Token → Bool) → List Token → Bool
begins p [] = false
begins p (t ∷ ts) = p t

pub record Rule (X : Type 0) : Type 1 where
  -- these tokens spell this value
  pub Is : List Token → X → Type 0
  -- what is read at the front
  pub read : List Token → Reading X
  -- a token with which a spelling may begin; with which a whole spelling may go on; whether there
  -- is an empty spelling
  pub starts : Token → Bool
  pub goes_on : Token → Bool
  pub empty : Bool

-- ---- one token

abbrev pub taken : {X : Type 0} → Option X → List Token → Reading X
taken None ts = Err (suc (length ts))
taken (Some x) ts = Ok (x, ts)

abbrev pub token_read : {X : Type 0} → (Token → Option X) → List Token → Reading X
token_read f [] = Err 0
token_read f (t ∷ ts) = taken (f t) ts

-- a token that says something
abbrev pub token : {X : Type 0} → (Token → Option X) → Rule X
token f = record {
  Is = λ ts x. (t : Token) × (ts ≡ t ∷ []) × (f t ≡ Some x);
  read = token_read f;
  starts = λ t. is_some (f t);
  goes_on = λ _. false;
  empty = false;
}

-- ---- one after the other

abbrev pub pair_read : {X Y : Type 0} → (List Token → Reading X) → (List Token → Reading Y)
    → List Token → Reading (X × Y)
pair_read a b ts = a ts >>= λ x. b x.1 >>= λ y. Ok ((x.0, y.0), y.1)

infixr 6 ◌⊗◌
abbrev pub ◌⊗◌ : {X Y : Type 0} → Rule X → Rule Y → Rule (X × Y)
a ⊗ b = record {
  Is = λ ts x. (front : List Token) × (back : List Token) × (ts ≡ front ++ back) × a.Is front x.0
      × b.Is back x.1;
  read = pair_read a.read b.read;
  starts = λ t. a.starts t || (a.empty && b.starts t);
  goes_on = λ t. b.goes_on t || (b.empty && a.goes_on t);
  empty = a.empty && b.empty;
}

-- ---- a value made of the value read

abbrev pub map_read : {X Y : Type 0} → (X → Y) → Reading X → Reading Y
map_read f r = r >>= λ x. Ok (f x.0, x.1)

abbrev pub made : {X Y : Type 0} → (X → Y) → Rule X → Rule Y
made f r = record {
  Is = λ ts y. (x : _) × r.Is ts x × (y ≡ f x);
  read = λ ts. map_read f (r.read ts);
  starts = r.starts;
  goes_on = r.goes_on;
  empty = r.empty;
}

-- ---- a condition on the value

abbrev pub checked_read : {X : Type 0} → (X → Bool) → Reading X → Reading X
checked_read p r = r >>= λ x. if p x.0 then Ok x else Err (length x.1)

abbrev pub such_that : {X : Type 0} → (X → Bool) → Rule X → Rule X
such_that p r = record {
  Is = λ ts x. r.Is ts x × (p x ≡ true);
  read = λ ts. checked_read p (r.read ts);
  starts = r.starts;
  goes_on = r.goes_on;
  empty = r.empty;
}

-- ---- one or the other

abbrev pub either : {X : Type 0} → Rule X → Rule X → Rule X
either a b = record {
  Is = λ ts x. a.Is ts x ⊎ b.Is ts x;
  read = λ ts. if begins a.starts ts then a.read ts else b.read ts;
  starts = λ t. a.starts t || b.starts t;
  goes_on = λ t. a.goes_on t || b.goes_on t;
  empty = b.empty;
}

-- ---- a value or nothing

abbrev pub optional_is : {X : Type 0} → (List Token → X → Type 0) → List Token → Option X → Type 0
optional_is Is ts None = ts ≡ []
optional_is Is ts (Some x) = Is ts x

abbrev pub optional : {X : Type 0} → Rule X → Rule (Option X)
optional r = record {
  Is = optional_is r.Is;
  read = λ ts. if begins r.starts ts then map_read Some (r.read ts) else Ok (None, ts);
  starts = r.starts;
  goes_on = λ t. r.starts t || r.goes_on t;
  empty = true;
}

-- ---- any number

abbrev pub many_is : {X : Type 0} → (List Token → X → Type 0) → List X → List Token → Type 0
many_is Is [] ts = ts ≡ []
many_is Is (x ∷ xs) ts = (front : List Token) × (back : List Token) × (ts ≡ front ++ back)
    × Is front x × many_is Is xs back

unfoldable pub many_read : {X : Type 0} → (Token → Bool) → (List Token → Reading X) → ℕ → List Token
    → Reading (List X)
many_read starts read zero ts = Ok ([], ts)
many_read starts read (suc n) ts =
    if begins starts ts
    then (read ts >>= λ x. many_read starts read n x.1 >>= λ xs. Ok (x.0 ∷ xs.0, xs.1))
    else Ok ([], ts)

abbrev pub many : {X : Type 0} → Rule X → Rule (List X)
many r = record {
  Is = λ ts xs. many_is r.Is xs ts;
  read = λ ts. many_read r.starts r.read (length ts) ts;
  starts = r.starts;
  goes_on = λ t. r.starts t || r.goes_on t;
  empty = true;
}

-- ---- a rule that is never empty, with the tokens named with which it may begin and go on

abbrev pub sealed : {X : Type 0} → (Token → Bool) → (Token → Bool) → Rule X → Rule X
sealed starts goes_on r =
    record { Is = r.Is; read = r.read; starts = starts; goes_on = goes_on; empty = false }

-- ---- shorthands

infixl 8 ◌◁◌
abbrev pub ◌◁◌ : {X Y : Type 0} → Rule X → Rule Y → Rule X
a ◁ b = made (λ x. x.0) (a ⊗ b)

infixr 7 ◌▷◌
abbrev pub ◌▷◌ : {X Y : Type 0} → Rule X → Rule Y → Rule Y
a ▷ b = made (λ x. x.1) (a ⊗ b)

-- ---- operands with operators between them, from the left

abbrev pub fold_left : {O X : Type 0} → (O → X → X → X) → X → List (O × X) → X
fold_left f x [] = x
fold_left f x (p ∷ ps) = fold_left f (f p.0 x p.1) ps

abbrev pub left : {O X : Type 0} → (O → X → X → X) → Rule O → Rule X → Rule X
left f op operand = made (λ p. fold_left f p.0 p.1) (operand ⊗ many (op ⊗ operand))

-- ---- what a function of the code gives

-- why nothing was read: memory ran out, or this many tokens are left at the first that can't go on
abbrev pub Fails : {Y : Type 0} → Refusal → Result Y ℕ → Type 0
Fails (Memory _) read = Unit {0}
Fails (At n) read = read ≡ Err n

-- What a function returned is what the rule reads, unless memory ran out.
abbrev pub Gives : {X Y : Type 0} → (X → Y) → Result X Refusal → Result Y ℕ → Type 0
Gives view (Ok x) read = read ≡ Ok (view x)
Gives view (Err e) read = Fails e read

-- What a reader returned, a value and the tokens after it, is what the rule reads of these tokens,
-- unless memory ran out.
abbrev pub Reads : {X : Type 0} → Rule X → List Token
    → Result (X × Bor (List Token)) Refusal → Type 0
Reads rule ts result = Gives (λ x. (x.0, x.1.now)) result (rule.read ts)

-- ---- all of the tokens

abbrev pub at_end : {X : Type 0} → X → List Token → Result X ℕ
at_end x [] = Ok x
at_end x (t ∷ ts) = Err (suc (length ts))

abbrev pub all_read : {X : Type 0} → Rule X → List Token → Result X ℕ
all_read r ts = r.read ts >>= λ x. at_end x.0 x.1
