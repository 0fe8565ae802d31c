-- Laws of numbers of entries.
use Rattle.std.proofs.Common.{◌≡◌, ℕ, zero, suc, ◌+◌, ◌-◌, ◌<◌, ◌≤◌, Bool, true, false, ◌&&◌, ◌||◌, List, [], ◌∷◌, length, drop, slice_get, Option, Some, None, refl, sym, ap, ◌∙◌, subst, arith, add-one, rules, tests, if◌then◌else◌}
use Rattle.std.specs.List.{find}
use Rattle.std.proofs.lemmas.Bool.{true≢false}
use Rattle.std.proofs.lemmas.Option.{slice_get_within}
use Rattle.std.proofs.lemmas.Slice.Eq.{bytes_eq-Decides}
use Rattle.ini_trees.specs.declared.lines.IniEntry.{IniEntry}
use Rattle.ini_trees.specs.Entries.{first_match, speaks_of}
use Rattle.ini_trees.specs.Words.{Bytes}
use Rattle.ini_index.specs.Indexed.{first_from, is_found, is_past, sooner}
use Rattle.ini_index.specs.Keys.{has_key, key_of}

no_number : (n : ℕ) → None ≡ Some n → ⊥
no_number n h = cc

same_number : (n m : ℕ) → Some n ≡ Some m → n ≡ m
same_number n m h = cc

-- ---- what a number says

-- no number is below that of the first entry
pub first_least : (test : IniEntry → Bool) (es : List IniEntry) (n m : ℕ) → first_from test n es ≡ Some m → n ≤ m
first_least test [] n m h = absurd (no_number m h)
first_least test (e ∷ es) n m h = by (test e) h (first_least test es (suc n) m)
  where
    by : (b : Bool) → (if b then Some n else first_from test (suc n) es) ≡ Some m → (first_from test (suc n) es ≡ Some m → suc n ≤ m) → n ≤ m
    by true h next = omega (arith, same_number n m h)
    by false h next = omega (arith, next h)

pub drop_next : (all : List IniEntry) (n : ℕ) (e : IniEntry) (es : List IniEntry) → drop n all ≡ e ∷ es → drop (suc n) all ≡ es
drop_next [] zero e es d = absurd (nothing d)
  where
    nothing : [] ≡ e ∷ es → ⊥
    nothing h = cc
drop_next [] (suc n) e es d = absurd (nothing d)
  where
    nothing : [] ≡ e ∷ es → ⊥
    nothing h = cc
drop_next (x ∷ all) zero e es d = ap (drop 1) d
drop_next (x ∷ all) (suc n) e es d = drop_next all n e es d

pub get_next : (all : List IniEntry) (n : ℕ) (e : IniEntry) (es : List IniEntry) → drop n all ≡ e ∷ es → slice_get all n ≡ Some e
get_next [] zero e es d = absurd (nothing d)
  where
    nothing : [] ≡ e ∷ es → ⊥
    nothing h = cc
get_next [] (suc n) e es d = absurd (nothing d)
  where
    nothing : [] ≡ e ∷ es → ⊥
    nothing h = cc
get_next (x ∷ all) zero e es d = ap (λ (l : List IniEntry). slice_get l 0) d
get_next (x ∷ all) (suc n) e es d = get_next all n e es d

-- and the other way round
pub drop_at_item : (all : List IniEntry) (n : ℕ) (e : IniEntry) → slice_get all n ≡ Some e → drop n all ≡ e ∷ drop (suc n) all
drop_at_item [] n e h = absurd (nothing h)
  where
    nothing : None ≡ Some e → ⊥
    nothing h = cc
drop_at_item (x ∷ all) zero e h = ap (λ (y : IniEntry). y ∷ all) same
  where
    same : x ≡ e
    same = cc
drop_at_item (x ∷ all) (suc n) e h = drop_at_item all n e h

-- the entry of that number passes the test
pub record IsAt (test : IniEntry → Bool) (all : List IniEntry) (n m : ℕ) : Type 0 where
  pub entry : IniEntry
  pub there : slice_get all m ≡ Some entry
  pub passes : test entry ≡ true
  pub low : n ≤ m

pub first_is : (test : IniEntry → Bool) (all es : List IniEntry) (n m : ℕ) → drop n all ≡ es → first_from test n es ≡ Some m → IsAt test all n m
first_is test all [] n m d h = absurd (no_number m h)
first_is test all (e ∷ es) n m d h = by (test e) refl h (first_is test all es (suc n) m (drop_next all n e es d))
  where
    by : (b : Bool) → test e ≡ b → (if b then Some n else first_from test (suc n) es) ≡ Some m → (first_from test (suc n) es ≡ Some m → IsAt test all (suc n) m) → IsAt test all n m
    by true t h next = record {
      entry = e;
      there = ap (slice_get all) (sym (same_number n m h)) ∙ get_next all n e es d;
      passes = t;
      low = omega (arith, same_number n m h);
    }
    by false t h next = let w = next h in record { entry = w.entry; there = w.there; passes = w.passes; low = omega (arith, w.low) }

-- the entry of a number
abbrev pub entry_at : List IniEntry → Option ℕ → Option IniEntry
entry_at all None = None
entry_at all (Some k) = slice_get all k

-- the first entry that passes is that of the number
pub find_at : (test : IniEntry → Bool) (all es : List IniEntry) (n : ℕ) → drop n all ≡ es → find test es ≡ entry_at all (first_from test n es)
find_at test all [] n d = refl
find_at test all (e ∷ es) n d = by (test e) (find_at test all es (suc n) (drop_next all n e es d))
  where
    by : (b : Bool) → find test es ≡ entry_at all (first_from test (suc n) es) → (if b then Some e else find test es) ≡ entry_at all (if b then Some n else first_from test (suc n) es)
    by true next = sym (get_next all n e es d)
    by false next = next

-- tests that agree
pub first_same : (a b : IniEntry → Bool) → ((e : IniEntry) → a e ≡ b e) → (es : List IniEntry) (n : ℕ) → first_from a n es ≡ first_from b n es
first_same a b h [] n = refl
first_same a b h (e ∷ es) n =
    ap (λ (t : Bool). if t then Some n else first_from a (suc n) es) (h e)
    ∙ ap (λ (o : Option ℕ). if b e then Some n else o) (first_same a b h es (suc n))

-- ---- the number that is less

keeps : (n : ℕ) (o : Option ℕ) → ((m : ℕ) → o ≡ Some m → n ≤ m) → sooner (Some n) o ≡ Some n
keeps n None h = refl
keeps n (Some m) h = let low : n ≤ m = h m refl in let past : is_past (Some n) m ≡ true = search (rules, tests) in rw past refl

takes : (n : ℕ) (o : Option ℕ) → ((m : ℕ) → o ≡ Some m → suc n ≤ m) → sooner o (Some n) ≡ Some n
takes n None h = refl
takes n (Some m) h = let low : n < m = omega (arith, h m refl) in let past : is_past (Some m) n ≡ false = search (rules, tests) in rw past refl

-- what comes first of two is the first that passes one of the tests
pub sooner_of_two : (a b : IniEntry → Bool) (es : List IniEntry) (n : ℕ) → sooner (first_from a n es) (first_from b n es) ≡ first_from (λ e. a e || b e) n es
sooner_of_two a b [] n = refl
sooner_of_two a b (e ∷ es) n = by (a e) (b e) (sooner_of_two a b es (suc n))
  where
    by : (s t : Bool) → sooner (first_from a (suc n) es) (first_from b (suc n) es) ≡ first_from (λ e. a e || b e) (suc n) es
        → sooner (if s then Some n else first_from a (suc n) es) (if t then Some n else first_from b (suc n) es) ≡ (if s || t then Some n else first_from (λ e. a e || b e) (suc n) es)
    by true true next = keeps n (Some n) (λ m h. omega (arith, same_number n m h))
    by true false next = keeps n (first_from b (suc n) es) (λ m h. omega (arith, first_least b es (suc n) m h))
    by false true next = takes n (first_from a (suc n) es) (λ m h. first_least a es (suc n) m h)
    by false false next = next

pub sooner_alone : (o : Option ℕ) → sooner None o ≡ o
sooner_alone None = refl
sooner_alone (Some n) = refl

-- ---- from one entry of a key to the next one

-- the first number from that one on
abbrev pub onward : (IniEntry → Bool) → List IniEntry → Option ℕ → Option ℕ
onward test all None = None
onward test all (Some k) = first_from test k (drop k all)

-- what passes two tests is found from the first on that passes one of them
pub skipped : (k s : IniEntry → Bool) (all es : List IniEntry) (n : ℕ) → drop n all ≡ es → first_from (λ e. k e && s e) n es ≡ onward (λ e. k e && s e) all (first_from k n es)
skipped k s all [] n d = refl
skipped k s all (e ∷ es) n d = by (k e) refl (skipped k s all es (suc n) (drop_next all n e es d))
  where
    by : (b : Bool) → k e ≡ b → first_from (λ e. k e && s e) (suc n) es ≡ onward (λ e. k e && s e) all (first_from k (suc n) es)
        → first_from (λ e. k e && s e) n (e ∷ es) ≡ onward (λ e. k e && s e) all (if b then Some n else first_from k (suc n) es)
    by true t next = ap (first_from (λ e. k e && s e) n) (sym d)
    by false t next = ap (λ (b : Bool). if b && s e then Some n else first_from (λ e. k e && s e) (suc n) es) t ∙ next

-- the number is that of an entry of that key
abbrev pub IsKeyed : Bytes → List IniEntry → Option ℕ → Type 0
IsKeyed key all None = Unit {0}
IsKeyed key all (Some k) = (e : IniEntry) × (slice_get all k ≡ Some e) × (has_key key e ≡ true)

-- how many entries stand from that number on
abbrev pub left_of : List IniEntry → Option ℕ → ℕ
left_of all None = 0
left_of all (Some k) = length all - k

pub keyed_first : (key : Bytes) (all : List IniEntry) (n : ℕ) → IsKeyed key all (first_from (has_key key) n (drop n all))
keyed_first key all n = by (first_from (has_key key) n (drop n all)) refl
  where
    by : (o : Option ℕ) → first_from (has_key key) n (drop n all) ≡ o → IsKeyed key all o
    by None e = tt
    by (Some k) e = let w = first_is (has_key key) all (drop n all) n k refl e in (w.entry, w.there, w.passes)

-- ---- the walk from one entry of a key to the next one

-- where it begins
pub record IsUnderWay (key path : Bytes) (all : List IniEntry) (at : Option ℕ) : Type 0 where
  pub found : first_from (is_found key path) 0 all ≡ onward (is_found key path) all at
  pub keyed : IsKeyed key all at

begun_in : (key path : Bytes) (all : List IniEntry) → IsUnderWay key path all (first_from (has_key key) 0 all)
begun_in key path all = record {
  found = skipped (has_key key) (speaks_of path) all all 0 refl;
  keyed = keyed_first key all 0;
}

pub begun : (key path : Bytes) (es all : List IniEntry) (at : Option ℕ) → es ≡ all → at ≡ first_from (has_key key) 0 es → IsUnderWay key path all at
begun key path es all at e h = subst (IsUnderWay key path all) (sym (h ∙ ap (first_from (has_key key) 0) e)) (begun_in key path all)

-- its number is that of an entry
pub number_within : (key : Bytes) (es all : List IniEntry) (at : Option ℕ) (number : ℕ) → es ≡ all → at ≡ Some number → IsKeyed key all at → number < length es
number_within key es all at number e is keyed =
    let w = subst (IsKeyed key all) is keyed in
    subst (λ (l : List IniEntry). number < length l) (sym e) (slice_get_within all number w.0 w.1)

no_sooner : (best : Option ℕ) (n : ℕ) (o : Option ℕ) → ((m : ℕ) → o ≡ Some m → n ≤ m) → is_past best n ≡ true → best ≡ sooner best o
no_sooner best n None low past = refl
no_sooner None n (Some m) low past = absurd (true≢false (sym past))
no_sooner (Some b) n (Some m) low past =
    let far : n ≤ m = low m refl in
    let here : b ≤ n = search (rules, tests) in
    let there : b ≤ m = omega (arith, far, here) in
    let behind : is_past (Some b) m ≡ true = search (rules, tests) in
    rw behind refl

-- it ends where what is left is no sooner
pub ended_past : (key path : Bytes) (all : List IniEntry) (at best : Option ℕ) (number : ℕ) → at ≡ Some number → IsUnderWay key path all at → is_past best number ≡ true → best ≡ sooner best (first_from (is_found key path) 0 all)
ended_past key path all at best number is way past =
    no_sooner best number (first_from (is_found key path) number (drop number all)) (λ m h. first_least (is_found key path) (drop number all) number m h) past
    ∙ ap (sooner best) (sym (way.found ∙ ap (onward (is_found key path) all) is))

-- or where nothing is left
pub ended_none : (key path : Bytes) (all : List IniEntry) (at best : Option ℕ) → at ≡ None → IsUnderWay key path all at → best ≡ sooner best (first_from (is_found key path) 0 all)
ended_none key path all at best is way = ap (sooner best) (sym (way.found ∙ ap (onward (is_found key path) all) is))

first_here : (test : IniEntry → Bool) (all : List IniEntry) (n : ℕ) (e : IniEntry) → slice_get all n ≡ Some e → test e ≡ true → first_from test n (drop n all) ≡ Some n
first_here test all n e there h = ap (first_from test n) (drop_at_item all n e there) ∙ ap (λ (b : Bool). if b then Some n else first_from test (suc n) (drop (suc n) all)) h

first_after : (test : IniEntry → Bool) (all : List IniEntry) (n : ℕ) (e : IniEntry) → slice_get all n ≡ Some e → test e ≡ false → first_from test n (drop n all) ≡ first_from test (suc n) (drop (suc n) all)
first_after test all n e there h = ap (first_from test n) (drop_at_item all n e there) ∙ ap (λ (b : Bool). if b then Some n else first_from test (suc n) (drop (suc n) all)) h

same_entry : (e d : IniEntry) → Some e ≡ Some d → e ≡ d
same_entry e d h = cc

has_it : (key : Bytes) (all : List IniEntry) (number : ℕ) (e : IniEntry) → IsKeyed key all (Some number) → slice_get all number ≡ Some e → has_key key e ≡ true
has_it key all number e w there = ap (has_key key) (same_entry e w.0 (sym there ∙ w.1)) ∙ w.2

-- or at an entry that speaks of the path
pub ended_found : (key path : Bytes) (es all : List IniEntry) (at best : Option ℕ) (number : ℕ) (e : IniEntry) → es ≡ all → at ≡ Some number → IsUnderWay key path all at → is_past best number ≡ false → slice_get es number ≡ Some e → speaks_of path e ≡ true → Some number ≡ sooner best (first_from (is_found key path) 0 all)
ended_found key path es all at best number e same is way past there speaks =
    let is_there : slice_get all number ≡ Some e = ap (λ (l : List IniEntry). slice_get l number) (sym same) ∙ there in
    let keyed : has_key key e ≡ true = has_it key all number e (subst (IsKeyed key all) is way.keyed) is_there in
    let found : is_found key path e ≡ true = ap (λ (b : Bool). b && speaks_of path e) keyed ∙ speaks in
    sym (ap (λ (b : Bool). if b then best else Some number) past)
    ∙ ap (sooner best) (sym (way.found ∙ ap (onward (is_found key path) all) is ∙ first_here (is_found key path) all number e is_there found))

-- what is noted leads to the next one
pub noted_next : (key : Bytes) (es all : List IniEntry) (at next : Option ℕ) (number : ℕ) (e : IniEntry) → es ≡ all → at ≡ Some number → IsKeyed key all at → slice_get es number ≡ Some e → Some next ≡ Some (first_from (has_key (key_of e.meaning)) (suc number) (drop (suc number) es)) → next ≡ first_from (has_key key) (suc number) (drop (suc number) all)
noted_next key es all at next number e same is keyed there noted =
    let is_there : slice_get all number ≡ Some e = ap (λ (l : List IniEntry). slice_get l number) (sym same) ∙ there in
    let own : key_of e.meaning ≡ key = (bytes_eq-Decides (key_of e.meaning) key).0 (has_it key all number e (subst (IsKeyed key all) is keyed) is_there) in
    same_next next (first_from (has_key (key_of e.meaning)) (suc number) (drop (suc number) es)) noted
    ∙ ap (λ (k : Bytes). first_from (has_key k) (suc number) (drop (suc number) es)) own
    ∙ ap (λ (l : List IniEntry). first_from (has_key key) (suc number) (drop (suc number) l)) same
  where
    same_next : (a b : Option ℕ) → Some a ≡ Some b → a ≡ b
    same_next a b h = cc

-- it goes on
pub gone_on : (key path : Bytes) (es all : List IniEntry) (at next : Option ℕ) (number : ℕ) (e : IniEntry) → es ≡ all → at ≡ Some number → IsUnderWay key path all at → slice_get es number ≡ Some e → speaks_of path e ≡ false → next ≡ first_from (has_key key) (suc number) (drop (suc number) all) → IsUnderWay key path all next
gone_on key path es all at next number e same is way there silent leads =
    let is_there : slice_get all number ≡ Some e = ap (λ (l : List IniEntry). slice_get l number) (sym same) ∙ there in
    let other : is_found key path e ≡ false = ap (λ (b : Bool). has_key key e && b) silent ∙ never (has_key key e) in
    record {
      found = way.found ∙ ap (onward (is_found key path) all) is ∙ first_after (is_found key path) all number e is_there other ∙ skipped (has_key key) (speaks_of path) all (drop (suc number) all) (suc number) refl ∙ ap (onward (is_found key path) all) (sym leads);
      keyed = subst (IsKeyed key all) (sym leads) (keyed_first key all (suc number));
    }
  where
    never : (b : Bool) → (b && false) ≡ false
    never true = refl
    never false = refl

-- and comes nearer to the end
pub nearer : (key : Bytes) (all : List IniEntry) (at next : Option ℕ) (number : ℕ) → at ≡ Some number → IsKeyed key all at → next ≡ first_from (has_key key) (suc number) (drop (suc number) all) → left_of all next < left_of all at
nearer key all at next number is keyed leads = by next leads
  where
    within : number < length all
    within = number_within key all all at number refl is keyed

    here : left_of all at ≡ length all - number
    here = ap (left_of all) is

    by : (o : Option ℕ) → o ≡ first_from (has_key key) (suc number) (drop (suc number) all) → left_of all o < left_of all at
    by None h = omega (arith, within, here)
    by (Some m) h = omega (arith, within, here, first_least (has_key key) (drop (suc number) all) (suc number) m (sym h))

-- ---- all entries, one after the other

pub scanned_here : (path : Bytes) (es all : List IniEntry) (number : ℕ) (e : IniEntry) → es ≡ all → first_from (speaks_of path) number (drop number all) ≡ first_from (speaks_of path) 0 all → slice_get es number ≡ Some e → speaks_of path e ≡ true → Some number ≡ first_from (speaks_of path) 0 all
scanned_here path es all number e same way there speaks = sym (first_here (speaks_of path) all number e (ap (λ (l : List IniEntry). slice_get l number) (sym same) ∙ there) speaks) ∙ way

pub scanned_past : (path : Bytes) (es all : List IniEntry) (number : ℕ) (e : IniEntry) → es ≡ all → first_from (speaks_of path) number (drop number all) ≡ first_from (speaks_of path) 0 all → slice_get es number ≡ Some e → speaks_of path e ≡ false → first_from (speaks_of path) (number + 1) (drop (number + 1) all) ≡ first_from (speaks_of path) 0 all
scanned_past path es all number e same way there silent =
    ap (λ (k : ℕ). first_from (speaks_of path) k (drop k all)) (add-one number)
    ∙ sym (first_after (speaks_of path) all number e (ap (λ (l : List IniEntry). slice_get l number) (sym same) ∙ there) silent)
    ∙ way

-- ---- the entry of a number

pub match_within : (path : Bytes) (es all : List IniEntry) (number : ℕ) → es ≡ all → Some number ≡ first_from (speaks_of path) 0 all → number < length es
match_within path es all number same h =
    let w = first_is (speaks_of path) all all 0 number refl (sym h) in
    subst (λ (l : List IniEntry). number < length l) (sym same) (slice_get_within all number w.entry w.there)

pub match_is : (path : Bytes) (es all : List IniEntry) (number : ℕ) (e : IniEntry) → es ≡ all → Some number ≡ first_from (speaks_of path) 0 all → slice_get es number ≡ Some e → Some e ≡ first_match path all
match_is path es all number e same h there =
    sym (find_at (speaks_of path) all all 0 refl ∙ ap (entry_at all) (sym h) ∙ ap (λ (l : List IniEntry). slice_get l number) (sym same) ∙ there)

pub no_match : (path : Bytes) (all : List IniEntry) → None ≡ first_from (speaks_of path) 0 all → None ≡ first_match path all
no_match path all h = sym (find_at (speaks_of path) all all 0 refl ∙ ap (entry_at all) (sym h))
