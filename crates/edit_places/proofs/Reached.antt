-- Which places an edit reaches, and what it leaves of the others.
use Rattle.std.proofs.Common.{◌≡◌, ◌≤◌, ◌<◌, ◌+◌, ◌-◌, ◌||◌, ◌&&◌, ◌==◌, ℕ, zero, suc, Bool, true, false, List, [], ◌∷◌, ◌++◌, Option, Some, None, length, take, drop, slice_get, arith, refl, sym, subst, ap, ◌∙◌, if◌then◌else◌}
use Rattle.std.proofs.lemmas.List.{take-append-drop}
use Rattle.std.proofs.Math.Seq.{drop-nil}
use Rattle.std.proofs.lemmas.List.Folds.{list_any-append}
use Rattle.std.specs.List.{list_any}
use Rattle.std.specs.Option.{option_and_then}
use Rattle.std.specs.Str.{is_utf8}
use Rattle.inside_edits.specs.Entries.{is_spoken_of, IsBetween, OnlyMatchedPathsChange}
use Rattle.ini_trees.specs.declared.entry.EntryValue.{EntryValue}
use Rattle.ini_trees.specs.declared.lines.IniEntry.{IniEntry}
use Rattle.ini_trees.specs.Entries.{first_match, speaks_of, value_for, value_said}
use Rattle.ini_trees.specs.Words.{Bytes}
use Rattle.place_index.specs.Places.{PathsOf, reaches}
use Rattle.rest_index.specs.Rests.{is_among}
use Rattle.edit_places.specs.Edited.{between, is_reached, AreReached, HaveEnds, NoneIsMissed}
use Rattle.edit_places.proofs.Common.{drop_at, none_some, take_at, take_more}

-- ---- entries between two numbers

take_zero : {X : Type 0} (xs : List X) → take 0 xs ≡ []
take_zero [] = refl
take_zero (x ∷ xs) = refl

at_behind : {X : Type 0} (xs : List X) (from n m : ℕ) (x : X) → m ≡ from + n → slice_get xs m ≡ Some x → slice_get (drop from xs) n ≡ Some x
at_behind xs zero n m x e at =
    let same : n ≡ m = omega (arith, e) in
    ap (slice_get xs) same ∙ at
at_behind [] (suc from) n m x e at = absurd (none_some at)
at_behind (y ∷ xs) (suc from) n zero x e at = absurd (omega (arith, e))
at_behind (y ∷ xs) (suc from) n (suc m) x e at = at_behind xs from n m x (omega (arith, e)) at

drop_twice : {X : Type 0} (xs : List X) (m n k : ℕ) → k ≡ m + n → drop n (drop m xs) ≡ drop k xs
drop_twice xs zero n k e = drop_at xs n k (omega (arith, e))
drop_twice [] (suc m) n k e = drop-nil n ∙ sym (drop-nil k)
drop_twice (x ∷ xs) (suc m) n zero e = absurd (omega (arith, e))
drop_twice (x ∷ xs) (suc m) n (suc k) e = drop_twice xs m n k (omega (arith, e))

-- one entry more
pub between_more : (es : List IniEntry) (from n : ℕ) (e : IniEntry) → from ≤ n → slice_get es n ≡ Some e → between from (n + 1) es ≡ between from n es ++ e ∷ []
between_more es from n e le at =
    take_at (drop from es) (n + 1 - from) (suc (n - from)) (omega (arith, le))
    ∙ take_more (drop from es) (n - from) e (at_behind es from (n - from) n e (omega (arith, le)) at)

-- no entry
pub between_none : (es : List IniEntry) (from : ℕ) → between from from es ≡ []
between_none es from = take_at (drop from es) (from - from) 0 (omega arith) ∙ take_zero (drop from es)

-- all that stand behind the first
parted : (es : List IniEntry) (from to : ℕ) → from ≤ to → es ≡ take from es ++ (between from to es ++ drop to es)
parted es from to le =
    sym (take-append-drop from es)
    ∙ ap (λ l. take from es ++ l) (sym (take-append-drop (to - from) (drop from es))
    ∙ ap (λ l. between from to es ++ l) (drop_twice es from (to - from) to (omega (arith, le))))

-- what stays before an edit and behind it
pub is_between : (before after : List IniEntry) (front back : ℕ) → HaveEnds before after front back
    → IsBetween before after (between front (length before - back) before) (between front (length after - back) after)
is_between before after front back ends = record {
  front = take front before;
  back = drop (length before - back) before;
  was = parted before front (length before - back) (omega (arith, ends.within));
  is = parted after front (length after - back) (omega (arith, ends.within_other))
      ∙ ap (λ l. l ++ (between front (length after - back) after ++ drop (length after - back) after)) (sym ends.fronts)
      ∙ ap (λ l. take front before ++ (between front (length after - back) after ++ l)) (sym ends.backs);
}

-- ---- the places that entries reach

pub reached_both : (paths : PathsOf) (xs ys : List IniEntry) (p : ℕ) → is_reached paths (xs ++ ys) p ≡ (is_reached paths xs p || is_reached paths ys p)
reached_both paths xs ys p = list_any-append (λ (e : IniEntry). reaches e (paths p)) xs ys

none_false : (b : Bool) → (b || false) ≡ b
none_false true = refl
none_false false = refl

pub or_assoc : (a b c : Bool) → ((a || b) || c) ≡ (a || (b || c))
or_assoc true b c = refl
or_assoc false b c = refl

-- one entry more reaches its own
pub reached_more : (paths : PathsOf) (es : List IniEntry) (from n : ℕ) (e : IniEntry) (p : ℕ) (old so_far new more : Bool) → from ≤ n → slice_get es n ≡ Some e
    → so_far ≡ (old || is_reached paths (between from n es) p) → new ≡ (so_far || more) → more ≡ reaches e (paths p)
    → new ≡ (old || is_reached paths (between from (n + 1) es) p)
reached_more paths es from n e p old so_far new more le at was is own =
    is ∙ ap (λ b. b || more) was ∙ or_assoc old (is_reached paths (between from n es) p) more
    ∙ ap (λ b. old || (is_reached paths (between from n es) p || b)) (own ∙ sym (none_false (reaches e (paths p))))
    ∙ ap (λ b. old || b) (sym (reached_both paths (between from n es) (e ∷ []) p) ∙ ap (λ l. is_reached paths l p) (sym (between_more es from n e le at)))

-- no entry reaches none
pub reached_none : (paths : PathsOf) (es : List IniEntry) (from p : ℕ) (old : Bool) → old ≡ (old || is_reached paths (between from from es) p)
reached_none paths es from p old = sym (ap (λ l. old || is_reached paths l p) (between_none es from) ∙ none_false old)

-- and where all were looked at, all that they reach are there
pub reached_all : (paths : PathsOf) (es : List IniEntry) (from n to p : ℕ) (old new : Bool) → n ≡ to → new ≡ (old || is_reached paths (between from n es) p)
    → new ≡ (old || is_reached paths (between from to es) p)
reached_all paths es from n to p old new e h = h ∙ ap (λ k. old || is_reached paths (between from k es) p) e

pub among_both : (p : ℕ) (xs ys : List ℕ) → is_among p (xs ++ ys) ≡ (is_among p xs || is_among p ys)
among_both p xs ys = list_any-append (λ q. q == p) xs ys

-- those of what was taken out, and then those of what was put in
pub places_reached : (paths : PathsOf) (before after : List IniEntry) (front back : ℕ) (ends : HaveEnds before after front back) (many more : ℕ) (none first both : List ℕ)
    → many ≡ length before → more ≡ length after → none ≡ []
    → ((p : ℕ) → is_among p first ≡ (is_among p none || is_reached paths (between front (many - back) before) p))
    → ((p : ℕ) → is_among p both ≡ (is_among p first || is_reached paths (between front (more - back) after) p)) → AreReached paths before after both
places_reached paths before after front back ends many more none first both all every empty one two = (
  between front (length before - back) before,
  between front (length after - back) after,
  is_between before after front back ends,
  λ p. two p ∙ ap (λ b. b || is_reached paths (between front (more - back) after) p)
      (one p ∙ ap (λ l. is_among p l || is_reached paths (between front (many - back) before) p) empty)
      ∙ ap (λ k. is_reached paths (between front (k - back) before) p || is_reached paths (between front (more - back) after) p) all
      ∙ ap (λ k. is_reached paths (between front (length before - back) before) p || is_reached paths (between front (k - back) after) p) every
      ∙ sym (reached_both paths (between front (length before - back) before) (between front (length after - back) after) p),
)

-- ---- what is missed

spoken : (path : Bytes) (es : List IniEntry) → is_utf8 path ≡ true → list_any (λ (e : IniEntry). is_utf8 path && speaks_of path e) es ≡ is_spoken_of path es
spoken path es h = ap (λ (b : Bool). list_any (λ (e : IniEntry). b && speaks_of path e) es) h

pub none_missed : OnlyMatchedPathsChange → (paths : PathsOf) (before after : List IniEntry) (places : List ℕ) → AreReached paths before after places
    → NoneIsMissed paths before after places
none_missed law paths before after places (taken, put, stands, reached) p path at out = by (is_utf8 path) refl
  where
    silent : is_reached paths (taken ++ put) p ≡ false
    silent = sym (reached p) ∙ out

    by : (b : Bool) → is_utf8 path ≡ b → value_for path after ≡ value_for path before
    by true text = law before after taken put path stands
        (sym (spoken path (taken ++ put) text) ∙ ap (λ (o : Option Bytes). list_any (λ (e : IniEntry). reaches e o) (taken ++ put)) (sym at) ∙ silent)
    by false text = no_value after ∙ sym (no_value before)
      where
        no_value : (es : List IniEntry) → value_for path es ≡ None
        no_value es = ap (λ (b : Bool). if b then value_of_first es else None) text
          where
            value_of_first : List IniEntry → Option EntryValue
            value_of_first es = option_and_then (λ (e : IniEntry). value_said e.meaning) (first_match path es)
