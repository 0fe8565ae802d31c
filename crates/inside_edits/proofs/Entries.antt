-- What the first match is, where entries are taken out and put in.
use Rattle.std.proofs.Common.{◌≡◌, refl, sym, ap, ◌∙◌, ℕ, Bool, true, false, true≢false, cond, ◌||◌, List, [], ◌∷◌, ◌++◌, Option, Some, None, if◌then◌else◌}
use Rattle.std.specs.List.{find, list_any}
use Rattle.std.specs.Option.{option_and_then}
use Rattle.std.specs.Str.{is_utf8}
use Rattle.ini_trees.specs.declared.lines.IniEntry.{IniEntry}
use Rattle.ini_trees.specs.Entries.{speaks_of, value_for, value_said}
use Rattle.inside_edits.specs.Entries.{OnlyFirstMatchesChange, OnlyMatchedPathsChange}

module _ (test : IniEntry → Bool) where
  -- what none of some passes is not found among them
  skipped : (xs ys : List IniEntry) → list_any test xs ≡ false → find test (xs ++ ys) ≡ find test ys
  skipped [] ys h = refl
  skipped (x ∷ xs) ys h = by (test x) h (skipped xs ys)
    where
      by : (b : Bool) → (b || list_any test xs) ≡ false → (list_any test xs ≡ false → find test (xs ++ ys) ≡ find test ys) → cond b (Some x) (find test (xs ++ ys)) ≡ find test ys
      by true h next = absurd (true≢false h)
      by false h next = next h

  -- what one of some passes is found there
  found_before : (xs ys zs : List IniEntry) → list_any test xs ≡ true → find test (xs ++ ys) ≡ find test (xs ++ zs)
  found_before [] ys zs h = absurd (true≢false (sym h))
  found_before (x ∷ xs) ys zs h = by (test x) h (found_before xs ys zs)
    where
      by : (b : Bool) → (b || list_any test xs) ≡ true → (list_any test xs ≡ true → find test (xs ++ ys) ≡ find test (xs ++ zs)) → cond b (Some x) (find test (xs ++ ys)) ≡ cond b (Some x) (find test (xs ++ zs))
      by true h next = refl
      by false h next = next h

  behind : (xs ys zs : List IniEntry) → find test ys ≡ find test zs → find test (xs ++ ys) ≡ find test (xs ++ zs)
  behind [] ys zs h = h
  behind (x ∷ xs) ys zs h = ap (λ o. cond (test x) (Some x) o) (behind xs ys zs h)

  none_left : (xs ys : List IniEntry) → list_any test (xs ++ ys) ≡ false → list_any test xs ≡ false
  none_left [] ys h = refl
  none_left (x ∷ xs) ys h = by (test x) h (none_left xs ys)
    where
      by : (b : Bool) → (b || list_any test (xs ++ ys)) ≡ false → (list_any test (xs ++ ys) ≡ false → list_any test xs ≡ false) → (b || list_any test xs) ≡ false
      by true h next = absurd (true≢false h)
      by false h next = next h

  none_right : (xs ys : List IniEntry) → list_any test (xs ++ ys) ≡ false → list_any test ys ≡ false
  none_right [] ys h = h
  none_right (x ∷ xs) ys h = by (test x) h (none_right xs ys)
    where
      by : (b : Bool) → (b || list_any test (xs ++ ys)) ≡ false → (list_any test (xs ++ ys) ≡ false → list_any test ys ≡ false) → list_any test ys ≡ false
      by true h next = absurd (true≢false h)
      by false h next = next h

-- the value by the first match
by_match : (path : List ℕ) (xs ys : List IniEntry) → find (speaks_of path) xs ≡ find (speaks_of path) ys → value_for path xs ≡ value_for path ys
by_match path xs ys h = ap (λ (o : Option IniEntry). if is_utf8 path then option_and_then (λ (e : IniEntry). value_said e.meaning) o else None) h

pub only_matched : OnlyMatchedPathsChange
only_matched before after taken put path between silent =
    let test = speaks_of path in
    by_match path after before (ap (find test) between.is
    ∙ behind test between.front (put ++ between.back) (taken ++ between.back)
    (skipped test put between.back (none_right test taken put silent) ∙ sym (skipped test taken between.back (none_left test taken put silent)))
    ∙ ap (find test) (sym between.was))

pub only_first : OnlyFirstMatchesChange
only_first front taken put back path h = by_match path (front ++ (put ++ back)) (front ++ (taken ++ back)) (found_before (speaks_of path) front (put ++ back) (taken ++ back) h)
