-- Lines, the tokens of a text, and why the line of the first token that can't go on may be blamed.
use Rattle.std.proofs.Common.{◌≡◌, ℕ, zero, suc, ◌+◌, ◌-◌, ◌<◌, ◌≤◌, Bool, true, false, cond, eqb, List, [], ◌∷◌, ◌++◌, length, get_or, ◌⊎◌, inl, inr, Err, refl, sym, ap, subst, ◌∙◌, arith, append_assoc, length-append, add-one, take, drop, drop-cons, length-drop, take_all}
use Rattle.std.proofs.lemmas.Bool.{eqb-true, cases_lt}
use Rattle.std.proofs.lemmas.List.{append-nil, get_or_append_left, take_more, nil_from_length}
use Rattle.std.proofs.Math.Seq.{get_or-append_right}
use Rattle.ned_tokens.specs.declared.token.Token.{Token}
use Rattle.ned_tokens.specs.Runs.{Bytes}
use Rattle.ned_tokens.specs.Lexing.{line_tokens, ends_open, numbered_by}
use Rattle.ned_tokens.specs.Lines.{add_front, lines_of, inside_behind, tokens_of_lines, numbers_of_lines, tokens_of, line_numbers, last_line, blamed_line, through_line}
use Rattle.ned_tokens.specs.Rule.{Rule, all_read}
use Rattle.ned_tokens.specs.Meaning.{NoneBegins, MayBlame}
use Rattle.ned_tokens.proofs.Laws.{Lawful}
use Rattle.ned_tokens.proofs.Whole.{Blocked, all_blocked}

-- ---- lines

add_front-append : (b : ℕ) (xs ys : List Bytes) → 0 < length xs → add_front b (xs ++ ys) ≡ add_front b xs ++ ys
add_front-append b [] ys h = absurd (omega (arith, h))
add_front-append b (x ∷ xs) ys h = refl

length-add_front : (b : ℕ) (xs : List Bytes) → 0 < length xs → length (add_front b xs) ≡ length xs
length-add_front b [] h = absurd (omega (arith, h))
length-add_front b (x ∷ xs) h = refl

add_front_some : (b : ℕ) (xs : List Bytes) → 0 < length (add_front b xs)
add_front_some b [] = omega arith
add_front_some b (x ∷ xs) = omega arith

-- a text with a byte has a line
lines_some : (b : ℕ) (bs : Bytes) → 0 < length (lines_of (b ∷ bs))
unfolding lines_of
lines_some b bs = go (eqb b 10)
  where
    go : (t : Bool) → 0 < length (cond t ([] ∷ lines_of bs) (add_front b (lines_of bs)))
    go true = omega arith
    go false = add_front_some b (lines_of bs)

ended_some : (a : Bytes) → 0 < length (lines_of (a ++ 10 ∷ []))
ended_some [] = lines_some 10 []
ended_some (b ∷ a) = lines_some b (a ++ 10 ∷ [])

pub lines-append : (a q : Bytes) → lines_of (a ++ 10 ∷ q) ≡ lines_of (a ++ 10 ∷ []) ++ lines_of q
unfolding lines_of
lines-append [] q = refl
lines-append (b ∷ a) q = go (eqb b 10) (lines-append a q)
  where
    go : (t : Bool) → lines_of (a ++ 10 ∷ q) ≡ lines_of (a ++ 10 ∷ []) ++ lines_of q → cond t ([] ∷ lines_of (a ++ 10 ∷ q)) (add_front b (lines_of (a ++ 10 ∷ q))) ≡ cond t ([] ∷ lines_of (a ++ 10 ∷ [])) (add_front b (lines_of (a ++ 10 ∷ []))) ++ lines_of q
    go true h = ap (λ (l : List Bytes). [] ∷ l) h
    go false h = ap (add_front b) h ∙ add_front-append b (lines_of (a ++ 10 ∷ [])) (lines_of q) (ended_some a)

-- ---- the tokens of lines, one after the other

pub tokens-append : (inside : Bool) (xs ys : List Bytes) → tokens_of_lines inside (xs ++ ys) ≡ tokens_of_lines inside xs ++ tokens_of_lines (inside_behind inside xs) ys
unfolding tokens_of_lines
tokens-append inside [] ys = refl
tokens-append inside (x ∷ xs) ys =
    let next = ends_open false (line_tokens inside x) in
    ap (λ (l : List Token). line_tokens inside x ++ l) (tokens-append next xs ys) ∙ sym (append_assoc (line_tokens inside x) (tokens_of_lines next xs) (tokens_of_lines (inside_behind next xs) ys))

-- what ends with this line's end
pub record EndsAt (line : ℕ) (bytes : Bytes) : Type 0 where
  pub front : Bytes
  pub rest : Bytes
  pub parts : bytes ≡ front ++ 10 ∷ rest
  pub count : length (lines_of (front ++ 10 ∷ [])) ≡ line
  pub through : through_line line bytes ≡ front ++ 10 ∷ []

add_front_at_most : (b n : ℕ) (xs : List Bytes) → length xs ≤ suc n → length (add_front b xs) ≤ suc n
add_front_at_most b n [] h = omega arith
add_front_at_most b n (x ∷ xs) h = h

-- a line has its end, or is the last
split_line : (line : ℕ) (bytes : Bytes) → (length (lines_of bytes) ≤ suc line) ⊎ EndsAt (suc line) bytes
unfolding lines_of through_line
split_line line [] = inl (omega arith)
split_line zero (b ∷ bs) = go (eqb b 10) refl (split_line zero bs)
  where
    go : (t : Bool) → eqb b 10 ≡ t → (length (lines_of bs) ≤ 1) ⊎ EndsAt 1 bs → (length (lines_of (b ∷ bs)) ≤ 1) ⊎ EndsAt 1 (b ∷ bs)
    go true e ih = let is : b ≡ 10 = eqb-true b 10 e in inr (record { front = []; rest = bs; parts = ap (λ (c : ℕ). c ∷ bs) is; count = refl; through = rw e (ap (λ (c : ℕ). c ∷ []) is) })
    go false e (inl h) = inl (rw e (add_front_at_most b 0 (lines_of bs) h))
    go false e (inr s) = inr (record { front = b ∷ s.front; rest = s.rest; parts = ap (λ (l : Bytes). b ∷ l) s.parts; count = rw (e, length-add_front b (lines_of (s.front ++ 10 ∷ [])) (ended_some s.front)) s.count; through = rw e (ap (λ (l : Bytes). b ∷ l) s.through) })
split_line (suc line) (b ∷ bs) = go (eqb b 10) refl (split_line line bs) (split_line (suc line) bs)
  where
    go : (t : Bool) → eqb b 10 ≡ t → (length (lines_of bs) ≤ suc line) ⊎ EndsAt (suc line) bs → (length (lines_of bs) ≤ suc (suc line)) ⊎ EndsAt (suc (suc line)) bs → (length (lines_of (b ∷ bs)) ≤ suc (suc line)) ⊎ EndsAt (suc (suc line)) (b ∷ bs)
    go true e (inl h) same = inl (rw e (omega (arith, h)))
    go true e (inr s) same = inr (record { front = b ∷ s.front; rest = s.rest; parts = ap (λ (l : Bytes). b ∷ l) s.parts; count = rw e (ap suc s.count); through = rw e (ap (λ (l : Bytes). b ∷ l) s.through) })
    go false e less (inl h) = inl (rw e (add_front_at_most b (suc line) (lines_of bs) h))
    go false e less (inr s) = inr (record { front = b ∷ s.front; rest = s.rest; parts = ap (λ (l : Bytes). b ∷ l) s.parts; count = rw (e, length-add_front b (lines_of (s.front ++ 10 ∷ [])) (ended_some s.front)) s.count; through = rw e (ap (λ (l : Bytes). b ∷ l) s.through) })

last_line_is : (b : ℕ) (bs : Bytes) → last_line (b ∷ bs) ≡ length (lines_of (b ∷ bs))
unfolding last_line lines_of
last_line_is b [] = go (eqb b 10)
  where
    go : (t : Bool) → 1 ≡ length (cond t ([] ∷ []) (add_front b []))
    go true = refl
    go false = refl
last_line_is b (c ∷ bs) = go (eqb b 10) (last_line_is c bs)
  where
    go : (t : Bool) → last_line (c ∷ bs) ≡ length (lines_of (c ∷ bs)) → cond t (suc (last_line (c ∷ bs))) (last_line (c ∷ bs)) ≡ length (cond t ([] ∷ lines_of (c ∷ bs)) (add_front b (lines_of (c ∷ bs))))
    go true h = ap suc h
    go false h = h ∙ sym (length-add_front b (lines_of (c ∷ bs)) (lines_some c bs))

-- ---- the line of a token

length-numbered_by : (n : ℕ) (ts : List Token) → length (numbered_by n ts) ≡ length ts
length-numbered_by n [] = refl
length-numbered_by n (t ∷ ts) = ap suc (length-numbered_by n ts)

get_or-numbered_by : (n : ℕ) (ts : List Token) (k : ℕ) → k < length ts → get_or (numbered_by n ts) k 0 ≡ n
get_or-numbered_by n [] k h = absurd (omega (arith, h))
get_or-numbered_by n (t ∷ ts) zero h = refl
get_or-numbered_by n (t ∷ ts) (suc k) h = get_or-numbered_by n ts k (omega (arith, h))

-- whether the next line begins inside a text in quotes
abbrev next_inside : Bool → Bytes → Bool
next_inside inside line = ends_open false (line_tokens inside line)

number_first : (n : ℕ) (inside : Bool) (line : Bytes) (lines : List Bytes) (k : ℕ) → k < length (line_tokens inside line) → get_or (numbers_of_lines n inside (line ∷ lines)) k 0 ≡ n
unfolding numbers_of_lines
number_first n inside line lines k h = get_or_append_left (numbered_by n (line_tokens inside line)) (numbers_of_lines (n + 1) (next_inside inside line) lines) 0 k (omega (arith, h, length-numbered_by n (line_tokens inside line))) ∙ get_or-numbered_by n (line_tokens inside line) k h

number_later : (n : ℕ) (inside : Bool) (line : Bytes) (lines : List Bytes) (k : ℕ) → length (line_tokens inside line) ≤ k → get_or (numbers_of_lines n inside (line ∷ lines)) k 0 ≡ get_or (numbers_of_lines (suc n) (next_inside inside line) lines) (k - length (line_tokens inside line)) 0
unfolding numbers_of_lines
number_later n inside line lines k h =
    let len = length-numbered_by n (line_tokens inside line) in
    get_or-append_right (numbered_by n (line_tokens inside line)) (numbers_of_lines (n + 1) (next_inside inside line) lines) k 0 (omega (arith, h, len)) ∙ rw (len, add-one) refl

tokens_length : (inside : Bool) (line : Bytes) (lines : List Bytes) → length (tokens_of_lines inside (line ∷ lines)) ≡ length (line_tokens inside line) + length (tokens_of_lines (next_inside inside line) lines)
unfolding tokens_of_lines
tokens_length inside line lines = length-append (line_tokens inside line) (tokens_of_lines (next_inside inside line) lines)

no_tokens : (inside : Bool) → length (tokens_of_lines inside []) ≡ 0
unfolding tokens_of_lines
no_tokens inside = refl

number_low : (n : ℕ) (inside : Bool) (lines : List Bytes) (k : ℕ) → k < length (tokens_of_lines inside lines) → n ≤ get_or (numbers_of_lines n inside lines) k 0
number_low n inside [] k h = absurd (omega (arith, h, no_tokens inside))
number_low n inside (line ∷ lines) k h = go (cases_lt k (length (line_tokens inside line))) (number_low (suc n) (next_inside inside line) lines (k - length (line_tokens inside line)))
  where
    go : (k < length (line_tokens inside line)) ⊎ (length (line_tokens inside line) ≤ k) → (k - length (line_tokens inside line) < length (tokens_of_lines (next_inside inside line) lines) → suc n ≤ get_or (numbers_of_lines (suc n) (next_inside inside line) lines) (k - length (line_tokens inside line)) 0) → n ≤ get_or (numbers_of_lines n inside (line ∷ lines)) k 0
    go (inl lt) ih = omega (arith, number_first n inside line lines k lt)
    go (inr le) ih = omega (arith, number_later n inside line lines k le, ih (omega (arith, h, tokens_length inside line lines, le)))

number_below : (n : ℕ) (inside : Bool) (lines : List Bytes) (k : ℕ) → k < length (tokens_of_lines inside lines) → get_or (numbers_of_lines n inside lines) k 0 < n + length lines
number_below n inside [] k h = absurd (omega (arith, h, no_tokens inside))
number_below n inside (x ∷ xs) k h = go (cases_lt k (length (line_tokens inside x))) (number_below (suc n) (next_inside inside x) xs (k - length (line_tokens inside x)))
  where
    go : (k < length (line_tokens inside x)) ⊎ (length (line_tokens inside x) ≤ k) → (k - length (line_tokens inside x) < length (tokens_of_lines (next_inside inside x) xs) → get_or (numbers_of_lines (suc n) (next_inside inside x) xs) (k - length (line_tokens inside x)) 0 < suc n + length xs) → get_or (numbers_of_lines n inside (x ∷ xs)) k 0 < n + suc (length xs)
    go (inl lt) ih = omega (arith, number_first n inside x xs k lt)
    go (inr le) ih = omega (arith, number_later n inside x xs k le, ih (omega (arith, h, tokens_length inside x xs, le)))

number_above : (n : ℕ) (inside : Bool) (xs ys : List Bytes) (k : ℕ) → length (tokens_of_lines inside xs) ≤ k → k < length (tokens_of_lines inside (xs ++ ys)) → n + length xs ≤ get_or (numbers_of_lines n inside (xs ++ ys)) k 0
number_above n inside [] ys k h lt = omega (arith, number_low n inside ys k lt)
number_above n inside (x ∷ xs) ys k h lt =
    let le : length (line_tokens inside x) ≤ k = omega (arith, h, tokens_length inside x xs) in
    let ih = number_above (suc n) (next_inside inside x) xs ys (k - length (line_tokens inside x)) (omega (arith, h, tokens_length inside x xs)) (omega (arith, lt, tokens_length inside x (xs ++ ys), le)) in
    omega (arith, number_later n inside x (xs ++ ys) k le, ih)

length-numbers : (n : ℕ) (inside : Bool) (lines : List Bytes) → length (numbers_of_lines n inside lines) ≡ length (tokens_of_lines inside lines)
unfolding numbers_of_lines tokens_of_lines
length-numbers n inside [] = refl
length-numbers n inside (line ∷ lines) = omega (arith, length-append (numbered_by n (line_tokens inside line)) (numbers_of_lines (n + 1) (next_inside inside line) lines), length-append (line_tokens inside line) (tokens_of_lines (next_inside inside line) lines), length-numbered_by n (line_tokens inside line), length-numbers (n + 1) (next_inside inside line) lines)

-- ---- the line that may be blamed

-- a front that is shorter than a list stands in it
front_in : (a b front more : List Token) (t : Token) → a ++ b ≡ front ++ t ∷ more → length front < length a → (rest : List Token) × (a ≡ front ++ t ∷ rest)
front_in [] b front more t e h = absurd (omega (arith, h))
front_in (x ∷ a) b [] more t e h = (a, let same : x ≡ t = cc in ap (λ (y : Token). y ∷ a) same)
front_in (x ∷ a) b (y ∷ front) more t e h =
    let same : x ≡ y = cc in
    let tails : a ++ b ≡ front ++ t ∷ more = cc in
    let p = front_in a b front more t tails (omega (arith, h)) in
    (p.0, same_head x y a (front ++ t ∷ p.0) same p.1)
  where
    same_head : (x y : Token) (us vs : List Token) → x ≡ y → us ≡ vs → x ∷ us ≡ y ∷ vs
    same_head x y us vs p q = cc

nil_lines : lines_of [] ≡ []
unfolding lines_of
nil_lines = refl

module _ {X : Type 0} (r : Rule X) (bytes : Bytes) (n : ℕ) (b : Blocked r (tokens_of bytes) n) where
  abbrev place : ℕ
  place = length b.front

  abbrev line : ℕ
  line = get_or (line_numbers bytes) place 0

  within : place < length (tokens_of bytes)
  within = omega (arith, ap length b.parts, length-append b.front (b.bad ∷ b.more))

  none_begins : (l : ℕ) → l ≡ line → EndsAt l bytes → NoneBegins r (through_line l bytes)
  none_begins l is s more x means = b.none (inside.0 ++ tokens_of_lines (inside_behind false (lines_of (s.front ++ 10 ∷ []))) (lines_of more)) x (subst (λ (ts : List Token). r.Is ts x) spelled means.spells)
    where
      lines_are : lines_of bytes ≡ lines_of (s.front ++ 10 ∷ []) ++ lines_of s.rest
      lines_are = ap lines_of s.parts ∙ lines-append s.front s.rest

      before : (place < length (tokens_of_lines false (lines_of (s.front ++ 10 ∷ [])))) ⊎ (length (tokens_of_lines false (lines_of (s.front ++ 10 ∷ []))) ≤ place) → place < length (tokens_of_lines false (lines_of (s.front ++ 10 ∷ [])))
      before (inl lt) = lt
      before (inr le) =
          let above = number_above 1 false (lines_of (s.front ++ 10 ∷ [])) (lines_of s.rest) place le (omega (arith, within, ap (λ (ls : List Bytes). length (tokens_of_lines false ls)) lines_are)) in
          absurd (omega (arith, above, s.count, is, ap (λ (ls : List Bytes). get_or (numbers_of_lines 1 false ls) place 0) lines_are))

      tokens_are : tokens_of_lines false (lines_of (s.front ++ 10 ∷ [])) ++ tokens_of_lines (inside_behind false (lines_of (s.front ++ 10 ∷ []))) (lines_of s.rest) ≡ b.front ++ b.bad ∷ b.more
      tokens_are = sym (tokens-append false (lines_of (s.front ++ 10 ∷ [])) (lines_of s.rest)) ∙ ap (tokens_of_lines false) (sym lines_are) ∙ b.parts

      inside : (rest : List Token) × (tokens_of_lines false (lines_of (s.front ++ 10 ∷ [])) ≡ b.front ++ b.bad ∷ rest)
      inside = front_in (tokens_of_lines false (lines_of (s.front ++ 10 ∷ []))) (tokens_of_lines (inside_behind false (lines_of (s.front ++ 10 ∷ []))) (lines_of s.rest)) b.front b.more b.bad tokens_are (before (cases_lt place (length (tokens_of_lines false (lines_of (s.front ++ 10 ∷ []))))))

      spelled : tokens_of (through_line l bytes ++ more) ≡ b.front ++ b.bad ∷ (inside.0 ++ tokens_of_lines (inside_behind false (lines_of (s.front ++ 10 ∷ []))) (lines_of more))
      spelled =
          ap (λ (bs : Bytes). tokens_of (bs ++ more)) s.through
          ∙ ap tokens_of (append_assoc s.front (10 ∷ []) more)
          ∙ ap (tokens_of_lines false) (lines-append s.front more)
          ∙ tokens-append false (lines_of (s.front ++ 10 ∷ [])) (lines_of more)
          ∙ ap (λ (ts : List Token). ts ++ tokens_of_lines (inside_behind false (lines_of (s.front ++ 10 ∷ []))) (lines_of more)) inside.1
          ∙ append_assoc b.front (b.bad ∷ inside.0) (tokens_of_lines (inside_behind false (lines_of (s.front ++ 10 ∷ []))) (lines_of more))

  upper : line < 1 + length (lines_of bytes)
  upper = number_below 1 false (lines_of bytes) place within

  lower : 1 ≤ line
  lower = number_low 1 false (lines_of bytes) place within

  may_blame : (l : ℕ) → l ≡ line → MayBlame r bytes l
  may_blame zero is = absurd (omega (arith, is, lower))
  may_blame (suc l) is = go (split_line l bytes)
    where
      last : (bs : Bytes) → bytes ≡ bs → length (lines_of bs) ≤ suc l → suc l < 1 + length (lines_of bs) → suc l ≡ last_line bs
      last [] e h k = absurd (omega (arith, k, ap length nil_lines))
      last (b ∷ bs) e h k = omega (arith, h, k, last_line_is b bs)

      go : (length (lines_of bytes) ≤ suc l) ⊎ EndsAt (suc l) bytes → MayBlame r bytes (suc l)
      go (inr s) = inr (none_begins (suc l) is s)
      go (inl h) = inl (last bytes refl h (omega (arith, is, upper)))

-- the line of the first token that can't go on
pub record Blames {X : Type 0} (r : Rule X) (bytes : Bytes) (n : ℕ) : Type 0 where
  pub within : n ≤ length (line_numbers bytes)
  pub may : MayBlame r bytes (blamed_line bytes n)

blamed_first : (bytes : Bytes) (n : ℕ) → n ≡ 0 → last_line bytes ≡ blamed_line bytes n
unfolding blamed_line
blamed_first bytes n e = rw e refl

blamed_later : (bytes : Bytes) (n k : ℕ) → n ≡ suc k → get_or (line_numbers bytes) (length (line_numbers bytes) - n) 0 ≡ blamed_line bytes n
unfolding blamed_line
blamed_later bytes n k e = go (eqb n 0) refl
  where
    go : (t : Bool) → eqb n 0 ≡ t → get_or (line_numbers bytes) (length (line_numbers bytes) - n) 0 ≡ cond t (last_line bytes) (get_or (line_numbers bytes) (length (line_numbers bytes) - n) 0)
    go true et = absurd (omega (arith, e, eqb-true n 0 et))
    go false et = refl

pub blamed : {X : Type 0} (r : Rule X) → Lawful r → (bytes : Bytes) (n : ℕ) → all_read r (tokens_of bytes) ≡ Err n → Blames r bytes n
blamed r lawful bytes n e = go (all_blocked r lawful (tokens_of bytes) n e)
  where
    go : (n ≡ 0) ⊎ Blocked r (tokens_of bytes) n → Blames r bytes n
    go (inl at_end) = record { within = omega (arith, at_end); may = inl (sym (blamed_first bytes n at_end)) }
    go (inr b) =
        let len = length-numbers 1 false (lines_of bytes) in
        let parts = ap length b.parts ∙ length-append b.front (b.bad ∷ b.more) in
        let place : length (line_numbers bytes) - n ≡ length b.front = omega (arith, len, parts, b.left) in
        record {
          within = omega (arith, len, parts, b.left);
          may = may_blame r bytes n b (blamed_line bytes n) (sym (blamed_later bytes n (length b.more) (sym b.left)) ∙ ap (λ (k : ℕ). get_or (line_numbers bytes) k 0) place);
        }

-- ---- what the loops keep

-- bytes of the first line in front
abbrev pub join_front : Bytes → List Bytes → List Bytes
join_front [] lines = lines
join_front (b ∷ front) [] = (b ∷ front) ∷ []
join_front (b ∷ front) (line ∷ lines) = ((b ∷ front) ++ line) ∷ lines

join_more : (front : Bytes) (b : ℕ) (ls : List Bytes) → join_front front (add_front b ls) ≡ join_front (front ++ b ∷ []) ls
join_more [] b [] = refl
join_more [] b (l ∷ ls) = refl
join_more (a ∷ front) b [] = refl
join_more (a ∷ front) b (l ∷ ls) = ap (λ (x : Bytes). (a ∷ x) ∷ ls) (sym (append_assoc front (b ∷ []) l))

join_end : (front : Bytes) (ls : List Bytes) → join_front front ([] ∷ ls) ≡ front ∷ ls
join_end [] ls = refl
join_end (b ∷ front) ls = ap (λ (x : Bytes). x ∷ ls) (append-nil (b ∷ front))

pub join_step : (bs : Bytes) (i : ℕ) → i < length bs → eqb (get_or bs i 0) 10 ≡ false → join_front (take i bs) (lines_of (drop i bs)) ≡ join_front (take (i + 1) bs) (lines_of (drop (i + 1) bs))
unfolding lines_of
join_step bs i h e =
    let rest : drop i bs ≡ get_or bs i 0 ∷ drop (i + 1) bs = rw add-one (drop-cons bs i 0 h) in
    let line : lines_of (drop i bs) ≡ add_front (get_or bs i 0) (lines_of (drop (i + 1) bs)) = rw (rest, e) refl in
    let front : take (i + 1) bs ≡ take i bs ++ get_or bs i 0 ∷ [] = take_more bs i 0 h in
    ap (join_front (take i bs)) line ∙ join_more (take i bs) (get_or bs i 0) (lines_of (drop (i + 1) bs)) ∙ ap (λ (x : Bytes). join_front x (lines_of (drop (i + 1) bs))) (sym front)

pub join_ends : (bs : Bytes) (i : ℕ) → i < length bs → get_or bs i 0 ≡ 10 → join_front (take i bs) (lines_of (drop i bs)) ≡ take i bs ∷ lines_of (drop (i + 1) bs)
unfolding lines_of
join_ends bs i h e =
    let rest : drop i bs ≡ 10 ∷ drop (i + 1) bs = rw add-one (drop-cons bs i 0 h) ∙ ap (λ (c : ℕ). c ∷ drop (i + 1) bs) e in
    ap (λ (x : Bytes). join_front (take i bs) (lines_of x)) rest ∙ join_end (take i bs) (lines_of (drop (i + 1) bs))

pub join_all : (bs : Bytes) (i : ℕ) → 0 < length bs → length bs ≤ i → join_front (take i bs) (lines_of (drop i bs)) ≡ bs ∷ lines_of []
unfolding lines_of
join_all bs i some h =
    let rest : drop i bs ≡ [] = nil_from_length (drop i bs) (omega (arith, length-drop i bs, h)) in
    let all : take i bs ≡ bs = take_all i bs h in
    rw (rest, all) (go bs some)
  where
    go : (bs : Bytes) → 0 < length bs → join_front bs [] ≡ bs ∷ []
    go [] h = absurd (omega (arith, h))
    go (b ∷ bs) h = refl

pub tokens_cons : (inside : Bool) (line : Bytes) (lines : List Bytes) → tokens_of_lines inside (line ∷ lines) ≡ line_tokens inside line ++ tokens_of_lines (ends_open false (line_tokens inside line)) lines
unfolding tokens_of_lines
tokens_cons inside x lines = refl

pub tokens_nil : (inside : Bool) → tokens_of_lines inside (lines_of []) ≡ []
unfolding tokens_of_lines lines_of
tokens_nil inside = refl

pub numbers_cons : (n : ℕ) (inside : Bool) (line : Bytes) (lines : List Bytes) → numbers_of_lines n inside (line ∷ lines) ≡ numbered_by n (line_tokens inside line) ++ numbers_of_lines (n + 1) (ends_open false (line_tokens inside line)) lines
unfolding numbers_of_lines
numbers_cons n inside x lines = refl

pub numbers_nil : (n : ℕ) (inside : Bool) → numbers_of_lines n inside (lines_of []) ≡ []
unfolding numbers_of_lines lines_of
numbers_nil n inside = refl

-- what was gathered, and what is to come
pub gathered : {X : Type 0} (old a b total new rest : List X) → new ≡ old ++ a → rest ≡ a ++ b → old ++ rest ≡ total → new ++ b ≡ total
gathered old a b total new rest e f so_far = rw (e, append_assoc) (ap (λ (l : List _). old ++ l) (sym f) ∙ so_far)
