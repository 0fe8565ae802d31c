-- Tokens in their standard spelling are read as themselves.
use Rattle.std.proofs.Common.{◌≡◌, ℕ, ◌<◌, Bool, true, false, ◌||◌, cond, eqb, List, [], ◌∷◌, ◌++◌, length, inl, arith, Option, Some, None, refl, sym, ap, ◌∙◌, IsUtf8}
use Rattle.std.proofs.lemmas.Str.{IsUtf8-append, is_utf8-from_IsUtf8}
use Rattle.ned_tokens.specs.declared.token.Token.{Token}
use Rattle.ned_tokens.specs.declared.token.Token.TheVariants as token
use Rattle.ned_tokens.specs.Runs.{Bytes}
use Rattle.ned_tokens.specs.Lexing.{next, token_of, scan, scanned, line_tokens, is_open, ends_open}
use Rattle.ned_tokens.specs.Lines.{add_front, lines_of, tokens_of_lines}
use Rattle.ned_read_back.specs.Tokens.{token_text, begins_number, ends_line, is_opening, begins_closing, spell, HasSpelling, HaveSpelling, AreReadBack}
use Rattle.ned_tokens.proofs.LexLemmas.{scanned-none, scanned-some}
use Rattle.ned_tokens.proofs.LineLemmas.{tokens_cons}
use Rattle.ned_read_back.proofs.Utf8Lemmas.{ascii_text, around_ascii}
use Rattle.ned_read_back.proofs.SpellingLemmas.{Parted, no_end, NoNumber, Over, token_line, token_is_text, token_reads, token_front, token_some, opening_reads, closing_parts, closed}

-- ---- lines

-- the first line, empty where there is none
abbrev first_of : List Bytes → Bytes
first_of [] = []
first_of (line ∷ lines) = line

-- the lines after the first
abbrev others_of : List Bytes → List Bytes
others_of [] = []
others_of (line ∷ lines) = lines

-- a byte in front stands in the first line
add_front_is : (b : ℕ) (lines : List Bytes) → add_front b lines ≡ (b ∷ first_of lines) ∷ others_of lines
add_front_is b [] = refl
add_front_is b (line ∷ lines) = refl

-- bytes without an end stand in front of the first line
front_line : (w rest : Bytes) → 0 < length w → no_end w ≡ true → lines_of (w ++ rest) ≡ (w ++ first_of (lines_of rest)) ∷ others_of (lines_of rest)
unfolding lines_of
front_line [] rest some h = absurd (omega (arith, some))
front_line (b ∷ []) rest some h = go (eqb b 10) h
  where
    go : (t : Bool) → cond t false true ≡ true → cond t ([] ∷ lines_of rest) (add_front b (lines_of rest)) ≡ (b ∷ first_of (lines_of rest)) ∷ others_of (lines_of rest)
    go true h = absurd cc
    go false h = add_front_is b (lines_of rest)
front_line (b ∷ c ∷ w) rest some h = go (eqb b 10) h (λ h. front_line (c ∷ w) rest (omega arith) h)
  where
    go : (t : Bool) → cond t false (no_end (c ∷ w)) ≡ true → (no_end (c ∷ w) ≡ true → lines_of ((c ∷ w) ++ rest) ≡ ((c ∷ w) ++ first_of (lines_of rest)) ∷ others_of (lines_of rest)) → cond t ([] ∷ lines_of ((c ∷ w) ++ rest)) (add_front b (lines_of ((c ∷ w) ++ rest))) ≡ (b ∷ ((c ∷ w) ++ first_of (lines_of rest))) ∷ others_of (lines_of rest)
    go true h ih = absurd cc
    go false h ih = ap (add_front b) (ih h)

-- LF ends a line
end_line : (rest : Bytes) → lines_of (10 ∷ rest) ≡ [] ∷ lines_of rest
unfolding lines_of
end_line rest = refl

-- a space stands in the first line
space_line : (rest : Bytes) → lines_of (32 ∷ rest) ≡ (32 ∷ first_of (lines_of rest)) ∷ others_of (lines_of rest)
unfolding lines_of
space_line rest = add_front_is 32 (lines_of rest)

-- ---- the tokens of a line

-- nothing has no token
nothing_next : next [] ≡ None
unfolding token_of
nothing_next = refl

-- a space in front changes no token
space_scanned : (us : Bytes) → scanned (32 ∷ us) ≡ scanned us
space_scanned us = go (next us) refl
  where
    go : (o : Option (Token × Bytes)) → next us ≡ o → scanned (32 ∷ us) ≡ scanned us
    go None e = scanned-none (32 ∷ us) e ∙ sym (scanned-none us e)
    go (Some t) e = scanned-some (32 ∷ us) t e ∙ sym (scanned-some us t e)

-- the tokens of a line that is UTF-8
text_tokens : (line : Bytes) → IsUtf8 line → line_tokens false line ≡ scanned line
unfolding line_tokens
text_tokens line h = rw (is_utf8-from_IsUtf8 line h) refl

-- the tokens of a line and of those after it
abbrev then_lines : List Token → List Bytes → List Token
then_lines ts lines = ts ++ tokens_of_lines (ends_open false ts) lines

-- the tokens of lines are those of the first, and of the others
tokens_first : (lines : List Bytes) → IsUtf8 (first_of lines) → tokens_of_lines false lines ≡ then_lines (scanned (first_of lines)) (others_of lines)
unfolding tokens_of_lines scanned scan
tokens_first [] h = refl
tokens_first (line ∷ lines) h = tokens_cons false line lines ∙ ap (λ (ts : List Token). then_lines ts lines) (text_tokens line h)

-- a token that ends on its line comes first
token_first : (t : Token) (ts : List Token) (lines : List Bytes) → is_open t ≡ false → then_lines (t ∷ ts) lines ≡ t ∷ then_lines ts lines
token_first t ts lines h = ap (λ (b : Bool). t ∷ (ts ++ tokens_of_lines (ends_open b ts) lines)) h

-- the spelling of these tokens is read as them
record Reads (ts : List Token) : Type 0 where
  is_text : IsUtf8 (first_of (lines_of (spell ts)))
  tokens : tokens_of_lines false (lines_of (spell ts)) ≡ ts
  no_number : begins_number ts ≡ false → NoNumber (first_of (lines_of (spell ts)))
  parted : begins_closing ts ≡ true → Parted (first_of (lines_of (spell ts)))

-- a quantity whose line goes on has no number after it
over_gap : (t : Token) (ts : List Token) (us : Bytes) → ends_line t ts ≡ false → (begins_number ts ≡ false → NoNumber us) → Over t us
over_gap (token.Quantity d n) ts us e h = h e
over_gap _ ts us e h = tt

-- nothing comes after the last token of a line
over_end : (t : Token) → Over t []
over_end (token.Quantity d n) = refl
over_end _ = tt

module _ (t : Token) (ts : List Token) (spelled : HasSpelling t) (ih : Reads ts) where
  -- the token's bytes
  abbrev text : Bytes
  text = token_text t

  -- what is written after it
  abbrev rest : Bytes
  rest = spell ts

  -- the first line of that
  abbrev first : Bytes
  first = first_of (lines_of rest)

  -- the lines after that
  abbrev others : List Bytes
  others = others_of (lines_of rest)

  -- the token is read first, and then what is after it
  scanned_first : (us : Bytes) → next (text ++ us) ≡ Some (t, us) → scanned us ≡ scanned first → scanned (text ++ us) ≡ t ∷ scanned first
  scanned_first us reads same = scanned-some (text ++ us) (t, us) reads ∙ ap (λ (l : List Token). t ∷ l) same

  -- a line that begins with this token
  beside : (us : Bytes) → lines_of (spell (t ∷ ts)) ≡ (text ++ us) ∷ others → IsUtf8 us → next (text ++ us) ≡ Some (t, us) → scanned us ≡ scanned first → Reads (t ∷ ts)
  beside us lines utf8 reads same =
      let line : IsUtf8 (text ++ us) = IsUtf8-append text us (token_is_text t spelled) utf8 in
      record {
        is_text = rw lines line;
        tokens = rw lines (tokens_first ((text ++ us) ∷ others) line ∙ ap (λ (l : List Token). then_lines l others) (scanned_first us reads same) ∙ token_first t (scanned first) others (closed t spelled) ∙ ap (λ (l : List Token). t ∷ l) (sym (tokens_first (lines_of rest) ih.is_text) ∙ ih.tokens));
        no_number = λ plain. rw lines (token_front t spelled plain us);
        parted = λ closing. rw lines (closing_parts t closing us);
      }

  -- a line of this token alone
  alone : lines_of (spell (t ∷ ts)) ≡ (text ++ []) ∷ lines_of rest → Reads (t ∷ ts)
  alone lines =
      let line : IsUtf8 (text ++ []) = IsUtf8-append text [] (token_is_text t spelled) (ascii_text [] refl) in
      let reads = scanned-some (text ++ []) (t, []) (token_reads t spelled [] tt (over_end t)) ∙ ap (λ (us : List Token). t ∷ us) (scanned-none [] nothing_next) in
      record {
        is_text = rw lines line;
        tokens = rw lines (tokens_first ((text ++ []) ∷ lines_of rest) line ∙ ap (λ (l : List Token). then_lines l (lines_of rest)) reads ∙ token_first t [] (lines_of rest) (closed t spelled) ∙ ap (λ (l : List Token). t ∷ l) ih.tokens);
        no_number = λ plain. rw lines (token_front t spelled plain []);
        parted = λ closing. rw lines (closing_parts t closing []);
      }

  -- where the line goes on, what comes next may stand after this token
  reads_next : ends_line t ts ≡ false → (b : Bool) → is_opening t ≡ b → b || begins_closing ts ≡ true → next (text ++ first) ≡ Some (t, first)
  reads_next e true opening h = opening_reads t opening first
  reads_next e false opening h = token_reads t spelled first (ih.parted h) (over_gap t ts first e ih.no_number)

  -- the line goes on after this token
  line_goes_on : ends_line t ts ≡ false → (b : Bool) → is_opening t || begins_closing ts ≡ b → Reads (t ∷ ts)
  unfolding spell
  line_goes_on e true g =
      let lines : lines_of (spell (t ∷ ts)) ≡ (text ++ first) ∷ others = rw (e, g) (front_line text rest (token_some t spelled) (token_line t spelled)) in
      beside first lines ih.is_text (reads_next e (is_opening t) refl g) refl
  line_goes_on e false g =
      let front = front_line text (32 ∷ rest) (token_some t spelled) (token_line t spelled) in
      let lines : lines_of (spell (t ∷ ts)) ≡ (text ++ 32 ∷ first) ∷ others = rw (e, g) (front ∙ ap (λ (ls : List Bytes). (text ++ first_of ls) ∷ others_of ls) (space_line rest)) in
      beside (32 ∷ first) lines (around_ascii [] first 32 refl (ascii_text [] refl) ih.is_text) (token_reads t spelled (32 ∷ first) (inl refl) (over_gap t ts (32 ∷ first) e ih.no_number)) (space_scanned first)

  -- the line ends after this token, or goes on
  front_reads : (b : Bool) → ends_line t ts ≡ b → Reads (t ∷ ts)
  unfolding spell
  front_reads true e =
      let front = front_line text (10 ∷ rest) (token_some t spelled) (token_line t spelled) in
      let lines : lines_of (spell (t ∷ ts)) ≡ (text ++ []) ∷ lines_of rest = rw e (front ∙ ap (λ (ls : List Bytes). (text ++ first_of ls) ∷ others_of ls) (end_line rest)) in
      alone lines
  front_reads false e = line_goes_on e (is_opening t || begins_closing ts) refl

-- the spelling of tokens is read as them
all_reads : (ts : List Token) → HaveSpelling ts → Reads ts
unfolding spell lines_of tokens_of_lines
all_reads [] h = record { is_text = ascii_text [] refl; tokens = refl; no_number = λ e. refl; parted = λ e. absurd cc }
all_reads (t ∷ ts) h = front_reads t ts h.0 (all_reads ts h.1) (ends_line t ts) refl

-- tokens in their standard spelling are read as themselves
pub read_back : (ts : List Token) → AreReadBack ts
read_back ts h = (all_reads ts h).tokens
