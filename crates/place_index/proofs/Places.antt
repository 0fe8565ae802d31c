-- Places of keys, by the paths that these read.
use Rattle.std.proofs.Common.{◌≡◌, ◌≢◌, ◌⊎◌, inl, inr, ℕ, zero, suc, ◌+◌, ◌<◌, ◌≤◌, ◌==◌, eq-eqb, eqb-true, Bool, true, false, true≢false, ◌&&◌, ◌||◌, List, [], ◌∷◌, ◌++◌, length, take, Option, Some, None, refl, sym, ap, ◌∙◌, subst, arith, get_or, rules, tests}
use Rattle.std.proofs.lemmas.Bool.{and_parts, cases_eq}
use Rattle.std.proofs.lemmas.List.{take_all, take_more}
use Rattle.std.specs.Char.{is_ascii}
use Rattle.std.proofs.lemmas.Str.{is_utf8-from_IsUtf8}
use Rattle.std.specs.Str.{IsAscii, IsUtf8, bytes_eq, chars, is_utf8}
use Rattle.ini_index.proofs.KeyLaws.{key_asked}
use Rattle.ini_index.specs.Keys.{key_of, pieces_of}
use Rattle.ini_names.specs.Named.{LastNameIsLiteral}
use Rattle.ini_pattern.specs.Matched.{is_matched}
use Rattle.ini_trees.specs.declared.entry.EntryMeaning.{EntryMeaning}
use Rattle.ini_trees.specs.declared.entry.EntryMeaning.TheVariants as meaning
use Rattle.ini_trees.specs.declared.lines.IniEntry.{IniEntry}
use Rattle.ini_trees.specs.Entries.{is_parameter_name, last_name, speaks, speaks_of}
use Rattle.ini_trees.proofs.TextLaws.{no_text}
use Rattle.ini_trees.specs.Words.{Bytes, word_typename}
use Rattle.place_index.specs.Places.{AreListed, Listing, PathsOf, are_ascii, reaches}
use Rattle.rest_index.specs.Rests.{is_among}
use Rattle.place_index.proofs.LastNames.{last_twice}

-- ---- places of whose paths an entry speaks

below : (c : ℕ) → is_ascii c ≡ true → c < 128
below c h = search (rules, tests)

pub all_ascii : (path : List ℕ) → are_ascii path ≡ true → IsAscii path
all_ascii [] h i = omega arith
all_ascii (c ∷ cs) h zero = below c (and_parts (is_ascii c) (are_ascii cs) h).0
all_ascii (c ∷ cs) h (suc i) = all_ascii cs (and_parts (is_ascii c) (are_ascii cs) h).1 i

pub matched_by : (path : List ℕ) (m : EntryMeaning) → speaks path m ≡ true → is_matched (pieces_of m) (chars path) ≡ true
matched_by path (meaning.Parameter p) h = (and_parts (is_parameter_name (last_name path)) (is_matched p.pattern (chars path)) h).1
matched_by path (meaning.Type p) h = (and_parts (bytes_eq (last_name path) word_typename) (is_matched p.pattern (chars path)) h).1
matched_by path (meaning.Object o) h = (and_parts (bytes_eq o.option (last_name path)) (is_matched o.pattern (chars path)) h).1
matched_by path (meaning.Network name) h = absurd (true≢false (sym h))
matched_by path (meaning.Extends names) h = absurd (true≢false (sym h))
matched_by path (meaning.TimeLimit ps) h = absurd (true≢false (sym h))
matched_by path meaning.Other h = absurd (true≢false (sym h))

or_right : (a b : Bool) → b ≡ true → (a || b) ≡ true
or_right true b h = refl
or_right false b h = h

or_left : (a b : Bool) → a ≡ true → (a || b) ≡ true
or_left true b h = refl
or_left false b h = absurd (true≢false (sym h))

both : (a b r : Bool) → (r ≡ true → (a || b) ≡ true) → ((false || (a && r)) || (b && r)) ≡ r
both true b true h = refl
both false true true h = refl
both false false true h = h refl
both true true false h = refl
both true false false h = refl
both false true false h = refl
both false false false h = refl

module _ (law : LastNameIsLiteral) (e : IniEntry) (paths : PathsOf) (under : Listing) (are : AreListed paths under) (key : Bytes) (is : key ≡ key_of e.meaning) (some : key ≢ []) where
  -- a place of whose path it speaks is listed under its key, or under the empty text
  under_key : (p : ℕ) (path : Bytes) → paths p ≡ Some path → speaks_of path e ≡ true → (is_among p (under (last_name key)) || is_among p (under [])) ≡ true
  under_key p path h s = by (are_ascii path) refl
    where
      by : (b : Bool) → are_ascii path ≡ b → (is_among p (under (last_name key)) || is_among p (under [])) ≡ true
      by false odd = or_right (is_among p (under (last_name key))) (is_among p (under [])) ((are p path h).odd odd)
      by true ascii = or_left (is_among p (under (last_name key))) (is_among p (under [])) (elim (key_asked law (pieces_of e.meaning) path (all_ascii path ascii) (matched_by path e.meaning s)) [
        | inl same ↦ ap (λ t. is_among p (under (last_name t))) (is ∙ same) ∙ (are p path h).named
        | inr r ↦ elim r [
          | inl same ↦ ap (λ t. is_among p (under t)) (ap last_name (is ∙ same) ∙ last_twice path) ∙ (are p path h).named
          | inr none ↦ absurd (some (is ∙ none))
        ]
      ])

  -- so those that are listed under the one or the other, and of whose paths it speaks, are all of whose
  -- paths it speaks
  pub by_key : (p : ℕ) (none one two named odd : List ℕ) → none ≡ [] → named ≡ under (last_name key) → odd ≡ under [] → is_among p one ≡ (is_among p none || (is_among p named && reaches e (paths p)))
      → is_among p two ≡ (is_among p one || (is_among p odd && reaches e (paths p))) → is_among p two ≡ reaches e (paths p)
  by_key p none one two named odd empty is_named is_odd first second =
      second
      ∙ ap (λ b. b || (is_among p odd && reaches e (paths p))) (first ∙ ap (λ (l : List ℕ). is_among p l || (is_among p named && reaches e (paths p))) empty)
      ∙ ap (λ (l : List ℕ). (false || (is_among p l && reaches e (paths p))) || (is_among p odd && reaches e (paths p))) is_named
      ∙ ap (λ (l : List ℕ). (false || (is_among p (under (last_name key)) && reaches e (paths p))) || (is_among p l && reaches e (paths p))) is_odd
      ∙ both (is_among p (under (last_name key))) (is_among p (under [])) (reaches e (paths p)) (by (paths p) refl)
    where
      by : (o : Option Bytes) → paths p ≡ o → reaches e o ≡ true → (is_among p (under (last_name key)) || is_among p (under [])) ≡ true
      by None h r = absurd (true≢false (sym r))
      by (Some path) h r = under_key p path h (and_parts (is_utf8 path) (speaks_of path e) r).1

-- ---- a place that is added, or isn't

among_behind : (p q : ℕ) (ns : List ℕ) → is_among p (ns ++ q ∷ []) ≡ (is_among p ns || (q == p))
among_behind p q [] = none (q == p)
  where
    none : (b : Bool) → (b || false) ≡ b
    none true = refl
    none false = refl
among_behind p q (n ∷ ns) = ap (λ b. (n == p) || b) (among_behind p q ns) ∙ apart (n == p) (is_among p ns) (q == p)
  where
    apart : (a b c : Bool) → (a || (b || c)) ≡ ((a || b) || c)
    apart true b c = refl
    apart false b c = refl

module _ (passes : ℕ → Bool) (p q : ℕ) (was now : List ℕ) where
  pub was_added : passes q ≡ true → now ≡ was ++ q ∷ [] → is_among p now ≡ (is_among p was || ((q == p) && passes p))
  was_added h e = ap (is_among p) e ∙ among_behind p q was ∙ ap (λ b. is_among p was || b) (by (q == p) refl)
    where
      by : (b : Bool) → (q == p) ≡ b → b ≡ (b && passes p)
      by true same = sym h ∙ ap passes (eqb-true q p same)
      by false other = refl

  pub was_not_added : passes q ≡ false → now ≡ was → is_among p now ≡ (is_among p was || ((q == p) && passes p))
  was_not_added h e = ap (is_among p) e ∙ none (is_among p was) ∙ ap (λ b. is_among p was || b) (by (q == p) refl)
    where
      none : (b : Bool) → b ≡ (b || false)
      none true = refl
      none false = refl

      by : (b : Bool) → (q == p) ≡ b → false ≡ (b && passes p)
      by true same = sym h ∙ ap passes (eqb-true q p same)
      by false other = refl

-- ---- one place after another

-- a place more among those that were looked at
pub looked_at : (p q : ℕ) (places : List ℕ) (before was after : Bool) (r : Bool) → was ≡ (before || (is_among p places && r)) → after ≡ (was || ((q == p) && r)) → after ≡ (before || (is_among p (places ++ q ∷ []) && r))
looked_at p q places before was after r first second = second ∙ ap (λ b. b || ((q == p) && r)) first ∙ by before (is_among p places) (q == p) r ∙ ap (λ b. before || (b && r)) (sym (among_behind p q places))
  where
    by : (a b c d : Bool) → ((a || (b && d)) || (c && d)) ≡ (a || ((b || c) && d))
    by true b c d = refl
    by false true c true = refl
    by false false c true = refl
    by false true true false = refl
    by false true false false = refl
    by false false true false = refl
    by false false false false = refl

pub none_looked_at : (old r : Bool) → old ≡ (old || (false && r))
none_looked_at true r = refl
none_looked_at false r = refl

pub next_looked_at : (passes : ℕ → Bool) (places : List ℕ) (i : ℕ) (old was now : List ℕ) → i < length places → ((p : ℕ) → is_among p was ≡ (is_among p old || (is_among p (take i places) && passes p)))
    → ((p : ℕ) → is_among p now ≡ (is_among p was || ((get_or places i 0 == p) && passes p))) → (p : ℕ) → is_among p now ≡ (is_among p old || (is_among p (take (i + 1) places) && passes p))
next_looked_at passes places i old was now within before more p =
    looked_at p (get_or places i 0) (take i places) (is_among p old) (is_among p was) (is_among p now) (passes p) (before p) (more p)
    ∙ ap (λ (l : List ℕ). is_among p old || (is_among p l && passes p)) (sym (take_more places i 0 within))

pub all_looked_at : (passes : ℕ → Bool) (places : List ℕ) (n : ℕ) (old now : List ℕ) → length places ≤ n → ((p : ℕ) → is_among p now ≡ (is_among p old || (is_among p (take n places) && passes p)))
    → (p : ℕ) → is_among p now ≡ (is_among p old || (is_among p places && passes p))
all_looked_at passes places n old now beyond before p = before p ∙ ap (λ (l : List ℕ). is_among p old || (is_among p l && passes p)) (take_all n places beyond)

-- places up to one that were looked at, one after the other
abbrev pub AreFound : (ℕ → Bool) → ℕ → List ℕ → Type 0
AreFound passes place found = (p : ℕ) → (p < place → is_among p found ≡ passes p) × (place ≤ p → is_among p found ≡ false)

pub none_found : (passes : ℕ → Bool) (found : List ℕ) → found ≡ [] → AreFound passes 0 found
none_found passes found empty p = ((λ h. absurd (omega (arith, h))), (λ h. ap (is_among p) empty))

pub one_found : (passes : ℕ → Bool) (place : ℕ) (was found : List ℕ) → AreFound passes place was → ((p : ℕ) → is_among p found ≡ (is_among p was || ((place == p) && passes p))) → AreFound passes (place + 1) found
one_found passes place was found before more p = (
  (λ h. elim (cases_eq p place) [
    | inl same ↦
        more p
        ∙ ap (λ b. b || ((place == p) && passes p)) ((before p).1 (omega (arith, same)))
        ∙ ap (λ b. b && passes p) (eq-eqb place p (sym same))
    | inr other ↦ more p ∙ ap (λ b. b || ((place == p) && passes p)) ((before p).0 (omega (arith, h, other))) ∙ twice (passes p) (place == p)
  ]),
  (λ h. more p ∙ ap (λ b. b || ((place == p) && passes p)) ((before p).1 (omega (arith, h))) ∙ ap (λ b. b && passes p) (unlike place p (λ e. omega (arith, h, e)))),
)
  where
    twice : (r b : Bool) → (r || (b && r)) ≡ r
    twice true b = refl
    twice false true = refl
    twice false false = refl

    unlike : (a b : ℕ) → (a ≡ b → ⊥) → (a == b) ≡ false
    unlike a b h = go (a == b) refl
      where
        go : (c : Bool) → (a == b) ≡ c → (a == b) ≡ false
        go true e = absurd (h (eqb-true a b e))
        go false e = e

-- the entry of each place was asked
pub all_found : (e : IniEntry) (paths : PathsOf) (count place : ℕ) (found : List ℕ) → ((p : ℕ) → count ≤ p → paths p ≡ None) → count ≤ place → AreFound (λ p. reaches e (paths p)) place found → (p : ℕ) → is_among p found ≡ reaches e (paths p)
all_found e paths count place found none beyond are p = by (cases_lt p place)
  where
    cases_lt : (a b : ℕ) → (a < b) ⊎ (b ≤ a)
    cases_lt a zero = inr (omega arith)
    cases_lt zero (suc b) = inl (omega arith)
    cases_lt (suc a) (suc b) = elim (cases_lt a b) [
      | inl h ↦ inl (omega (arith, h))
      | inr h ↦ inr (omega (arith, h))
    ]

    by : (p < place) ⊎ (place ≤ p) → is_among p found ≡ reaches e (paths p)
    by (inl h) = (are p).0 h
    by (inr h) = (are p).1 h ∙ sym (ap (reaches e) (none p (omega (arith, h, beyond))))

-- ---- paths that are texts, and others

pub text_reached : (text bytes path : List ℕ) (e : IniEntry) (b : Bool) → b ≡ speaks text e.meaning → text ≡ bytes → IsUtf8 bytes → bytes ≡ path → b ≡ reaches e (Some path)
text_reached text bytes path e b is same good own =
    is ∙ ap (λ (t : List ℕ). speaks t e.meaning) (same ∙ own)
    ∙ sym (ap (λ u. u && speaks_of path e) (is_utf8-from_IsUtf8 path (subst IsUtf8 own good)))

pub no_text_reached : (bytes path : List ℕ) (e : IniEntry) → (IsUtf8 bytes → ⊥) → bytes ≡ path → false ≡ reaches e (Some path)
no_text_reached bytes path e bad own = sym (ap (λ u. u && speaks_of path e) (ap is_utf8 (sym own) ∙ no_text bytes bad))
