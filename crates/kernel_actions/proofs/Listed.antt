-- Paths of modules, where one comes, goes, dies or lives again.
use Rattle.std.proofs.Common.{◌≡◌, ◌≢◌, ◌⊎◌, inl, inr, ◌^◌, ℕ, zero, suc, ◌+◌, ◌≤◌, ◌<◌, ◌==◌, Bool, true, false, ◌||◌, List, [], ◌∷◌, ◌++◌, Option, Some, None, refl, sym, ap, ◌∙◌, subst, arith, length, map, take, drop, slice_get, MatchOption, true≢false, eqb-true, eq-eqb}
use Rattle.model_questions.specs.declared.record.Record.{Record}
use Rattle.model_questions.specs.Records.{lineage_up, path_along, path_of, place_of, record_at, with_those_around}
use Rattle.path_table.specs.declared.ModuleAt.{ModuleAt}
use Rattle.path_table.specs.Paths.{with_dead, with_flag}
use Rattle.run_semantics.specs.Subtree.{among, ids_from}
use Rattle.kernel_actions.specs.Modules.{module_as, with_paths, AreLookedUp, AroundFirst}

-- ---- lists

split : {X : Type 0} (k : ℕ) (xs : List X) → xs ≡ take k xs ++ drop k xs
split zero xs = refl
split (suc k) [] = refl
split (suc k) (x ∷ xs) = ap (λ ys. x ∷ ys) (split k xs)

get_front : {X : Type 0} (xs ys : List X) (i : ℕ) → i < length xs → slice_get (xs ++ ys) i ≡ slice_get xs i
get_front [] ys i h = absurd (omega arith)
get_front (x ∷ xs) ys zero h = refl
get_front (x ∷ xs) ys (suc i) h = get_front xs ys i (omega arith)

pub take_map : {X Y : Type 0} (f : X → Y) (k : ℕ) (xs : List X) → take k (map f xs) ≡ map f (take k xs)
take_map f zero xs = refl
take_map f (suc k) [] = refl
take_map f (suc k) (x ∷ xs) = ap (λ ys. f x ∷ ys) (take_map f k xs)

map_more : {X Y : Type 0} (f : X → Y) (xs ys : List X) → map f (xs ++ ys) ≡ map f xs ++ map f ys
map_more f [] ys = refl
map_more f (x ∷ xs) ys = ap (λ zs. f x ∷ zs) (map_more f xs ys)

ids_more : {X : Type 0} (i : ℕ) (xs ys : List X) → ids_from i (xs ++ ys) ≡ ids_from i xs ++ ids_from (i + length xs) ys
ids_more i [] ys = ap (λ n. ids_from n ys) (omega arith)
ids_more i (x ∷ xs) ys = ap (λ zs. i ∷ zs) (ids_more (suc i) xs ys ∙ ap (λ n. ids_from (suc i) xs ++ ids_from n ys) (omega arith))

take_front : {X : Type 0} (xs ys : List X) → take (length xs) (xs ++ ys) ≡ xs
take_front [] ys = refl
take_front (x ∷ xs) ys = ap (λ zs. x ∷ zs) (take_front xs ys)

length_ids : {X : Type 0} (i : ℕ) (xs : List X) → length (ids_from i xs) ≡ length xs
length_ids i [] = refl
length_ids i (x ∷ xs) = ap suc (length_ids (suc i) xs)

length_of_map : {X Y : Type 0} (f : X → Y) (xs : List X) → length (map f xs) ≡ length xs
length_of_map f [] = refl
length_of_map f (x ∷ xs) = ap suc (length_of_map f xs)

-- ---- each stands in one that was created before

around_more : (n : ℕ) (rs : List Record) (r : Record) → AroundFirst n rs → r.parent ≤ n + length rs → AroundFirst n (rs ++ r ∷ [])
around_more n [] r h l = (omega (arith, l), tt)
around_more n (x ∷ rs) r h l = (h.0, around_more (suc n) rs r h.1 (omega (arith, l)))

around_front : (n k : ℕ) (rs : List Record) → AroundFirst n rs → AroundFirst n (take k rs)
around_front n zero rs h = tt
around_front n (suc k) [] h = tt
around_front n (suc k) (r ∷ rs) h = (h.0, around_front (suc n) k rs h.1)

parent_by : (n : ℕ) (rs : List Record) (i : ℕ) (r : Record) → AroundFirst n rs → slice_get rs i ≡ Some r → r.parent ≤ n + i
parent_by n [] i r h e = cc
parent_by n (s ∷ rs) zero r h e = let same : s ≡ r = cc in let p : s.parent ≤ n = h.0 in omega (arith, p, ap (λ (x : Record). x.parent) same)
parent_by n (s ∷ rs) (suc i) r h e = let f = parent_by (suc n) rs i r h.1 e in omega (arith, f)

-- the one around a module has a smaller id
pub parent_below : (rs : List Record) (id : ℕ) (r : Record) → AroundFirst 0 rs → record_at rs id ≡ Some r → r.parent < id
parent_below rs zero r h e = cc
parent_below rs (suc k) r h e = let f = parent_by 0 rs k r h e in omega (arith, f)

-- ---- the path of a module stays where more are created

record_more : (rs more : List Record) (id : ℕ) → id ≤ length rs → record_at (rs ++ more) id ≡ record_at rs id
record_more rs more zero h = refl
record_more rs more (suc k) h = get_front rs more k (omega arith)

by_lineage : (f g : ℕ → List Record) (o : Option Record) → ((r : Record) → o ≡ Some r → f r.parent ≡ g r.parent) → with_those_around f o ≡ with_those_around g o
by_lineage f g None h = refl
by_lineage f g (Some r) h = ap (λ rs. r ∷ rs) (h r refl)

lineage_more : (rs more : List Record) → AroundFirst 0 rs → (depth id : ℕ) → id ≤ length rs → lineage_up depth (rs ++ more) id ≡ lineage_up depth rs id
lineage_more rs more h zero id l = refl
lineage_more rs more h (suc depth) id l =
    ap (with_those_around (lineage_up depth (rs ++ more))) (record_more rs more id l)
    ∙ by_lineage (lineage_up depth (rs ++ more)) (lineage_up depth rs) (record_at rs id) (λ r e. let less = parent_below rs id r h e in lineage_more rs more h depth r.parent (omega (arith, l, less)))

path_more : (rs more : List Record) → AroundFirst 0 rs → (id : ℕ) → id ≤ length rs → path_of (rs ++ more) id ≡ path_of rs id
unfolding place_of
path_more rs more h id l = ap path_along (lineage_more rs more h 32 id l)

-- ---- all paths

-- those with smaller ids stay
mapped_alike : {X : Type 0} (f g : ℕ → ModuleAt) (i n : ℕ) (xs : List X) → i + length xs ≤ n → ((id : ℕ) → id < n → f id ≡ g id) → map f (ids_from i xs) ≡ map g (ids_from i xs)
mapped_alike f g i n [] l h = refl
mapped_alike f g i n (x ∷ xs) l h = ap (λ m. m ∷ map f (ids_from (suc i) xs)) (h i (omega (arith, l))) ∙ ap (λ ms. g i ∷ ms) (mapped_alike f g (suc i) n xs (omega (arith, l)) h)

pub paths_more : (rs more : List Record) (dead : List ℕ) → AroundFirst 0 rs → with_paths (rs ++ more) dead ≡ with_paths rs dead ++ map (module_as (rs ++ more) dead) (ids_from (1 + length rs) more)
paths_more rs more dead h =
    ap (map (module_as (rs ++ more) dead)) (ids_more 1 rs more)
    ∙ (map_more (module_as (rs ++ more) dead) (ids_from 1 rs) (ids_from (1 + length rs) more)
    ∙ ap (λ ms. ms ++ map (module_as (rs ++ more) dead) (ids_from (1 + length rs) more))
    (mapped_alike (module_as (rs ++ more) dead) (module_as rs dead) 1 (1 + length rs) rs (omega arith)
    (λ id l. ap (λ path. record { path = path; is_dead = among id dead }) (path_more rs more h id (omega (arith, l))))))

pub length_paths : (rs : List Record) (dead : List ℕ) → length (with_paths rs dead) ≡ length rs
length_paths rs dead = length_of_map (module_as rs dead) (ids_from 1 rs) ∙ length_ids 1 rs

-- one more module
pub looked_up_more : (rs : List Record) (r : Record) (dead : List ℕ) (old_paths paths : List ModuleAt) (old_around around : List ℕ) → length rs + 1 < 2 ^ 32 → r.parent ≤ length rs → AreLookedUp rs dead old_paths old_around
    → paths ≡ old_paths ++ module_as (rs ++ r ∷ []) dead (length (rs ++ r ∷ [])) ∷ [] → around ≡ old_around ++ r.parent ∷ [] → AreLookedUp (rs ++ r ∷ []) dead paths around
looked_up_more rs r dead old_paths paths old_around around few there h ps qs =
    let long : length (rs ++ r ∷ []) ≡ 1 + length rs = longer rs in
    record {
      few = omega (arith, long, few);
      nested = around_more 0 rs r h.nested (omega (arith, there));
      paths_are = ps ∙ (ap (λ ms. ms ++ module_as (rs ++ r ∷ []) dead (length (rs ++ r ∷ [])) ∷ []) h.paths_are
          ∙ (ap (λ n. with_paths rs dead ++ module_as (rs ++ r ∷ []) dead n ∷ []) long ∙ sym (paths_more rs (r ∷ []) dead h.nested)));
      around_are = qs ∙ (ap (λ ns. ns ++ r.parent ∷ []) h.around_are ∙ sym (map_more (λ (x : Record). x.parent) rs (r ∷ [])));
    }
  where
    longer : (xs : List Record) → length (xs ++ r ∷ []) ≡ 1 + length xs
    longer [] = refl
    longer (x ∷ xs) = let h = longer xs in omega (arith, h)

length_take : {X : Type 0} (k : ℕ) (xs : List X) → length (take k xs) ≤ length xs
length_take zero xs = omega arith
length_take (suc k) [] = omega arith
length_take (suc k) (x ∷ xs) = let f = length_take k xs in omega (arith, f)

-- the first ones of two lists, where the one begins with the other
take_both : {X Y : Type 0} (k : ℕ) (xs : List X) (ys more : List Y) → length ys ≡ length (take k xs) → length (ys ++ more) ≡ length xs → take k (ys ++ more) ≡ ys
take_both zero xs [] more l m = refl
take_both zero xs (y ∷ ys) more l m = cc
take_both (suc k) [] [] [] l m = refl
take_both (suc k) [] [] (x ∷ more) l m = cc
take_both (suc k) [] (y ∷ ys) more l m = cc
take_both (suc k) (x ∷ xs) [] more l m = cc
take_both (suc k) (x ∷ xs) (y ∷ ys) more l m = ap (λ zs. y ∷ zs) (take_both k xs ys more (omega (arith, l)) (omega (arith, m)))

-- the last ones are forgotten
paths_cut : (rs : List Record) (dead : List ℕ) (k : ℕ) → AroundFirst 0 rs → take k (with_paths rs dead) ≡ with_paths (take k rs) dead
paths_cut rs dead k h =
    let whole = ap (λ xs. with_paths xs dead) (split k rs) ∙ paths_more (take k rs) (drop k rs) dead (around_front 0 k rs h) in
    ap (take k) whole
    ∙ take_both k rs (with_paths (take k rs) dead) (map (module_as (take k rs ++ drop k rs) dead) (ids_from (1 + length (take k rs)) (drop k rs)))
    (length_paths (take k rs) dead) (ap length (sym whole) ∙ length_paths rs dead)

pub looked_up_cut : (rs : List Record) (dead : List ℕ) (paths : List ModuleAt) (around : List ℕ) (k : ℕ) → AreLookedUp rs dead paths around → AreLookedUp (take k rs) dead (take k paths) (take k around)
looked_up_cut rs dead paths around k h =
    let short = length_take k rs in
    let few = h.few in
    record {
      few = omega (arith, short, few);
      nested = around_front 0 k rs h.nested;
      paths_are = ap (take k) h.paths_are ∙ paths_cut rs dead k h.nested;
      around_are = ap (take k) h.around_are ∙ take_map (λ (r : Record). r.parent) k rs;
    }

-- ---- one dies, or lives again

-- all but one are as they were
flag_is : {X : Type 0} (f g : ℕ → ModuleAt) (b : Bool) (i k : ℕ) (xs : List X) → g (i + k) ≡ with_flag (f (i + k)) b → ((id : ℕ) → id ≢ i + k → g id ≡ f id)
    → with_dead (map f (ids_from i xs)) k b ≡ map g (ids_from i xs)
flag_is f g b i k [] here others = refl
flag_is {X = X} f g b i zero (x ∷ xs) here others =
    let at : i ≡ i + 0 = omega arith in
    ap (λ m. m ∷ map f (ids_from (suc i) xs)) (sym (subst (λ n. g n ≡ with_flag (f n) b) (sym at) here))
    ∙ ap (λ ms. g i ∷ ms) (sym (later (suc i) xs (omega arith)))
  where
    later : (n : ℕ) (ys : List X) → i < n → map g (ids_from n ys) ≡ map f (ids_from n ys)
    later n [] l = refl
    later n (y ∷ ys) l = ap (λ m. m ∷ map g (ids_from (suc n) ys)) (others n (λ e. omega (arith, e, l))) ∙ ap (λ ms. f n ∷ ms) (later (suc n) ys (omega (arith, l)))
flag_is f g b i (suc k) (x ∷ xs) here others =
    let next : i + suc k ≡ suc i + k = omega arith in
    ap (λ m. m ∷ with_dead (map f (ids_from (suc i) xs)) k b) (sym (others i (λ e. omega (arith, e))))
    ∙ ap (λ ms. g i ∷ ms) (flag_is f g b (suc i) k xs (subst (λ n. g n ≡ with_flag (f n) b) next here) (λ id ne. others id (λ e. ne (e ∙ next))))

-- none changes
none_is : {X : Type 0} (f g : ℕ → ModuleAt) (i n : ℕ) (xs : List X) → (n < i) ⊎ (i + length xs ≤ n) → ((id : ℕ) → id ≢ n → g id ≡ f id) → map f (ids_from i xs) ≡ map g (ids_from i xs)
none_is f g i n [] out others = refl
none_is f g i n (x ∷ xs) out others = ap (λ m. m ∷ map f (ids_from (suc i) xs)) (sym (others i (outside out))) ∙ ap (λ ms. g i ∷ ms) (none_is f g (suc i) n xs (further out) others)
  where
    outside : (n < i) ⊎ (i + length (x ∷ xs) ≤ n) → i ≢ n
    outside (inl l) e = omega (arith, e, l)
    outside (inr l) e = omega (arith, e, l)

    further : (n < i) ⊎ (i + length (x ∷ xs) ≤ n) → (n < suc i) ⊎ (suc i + length xs ≤ n)
    further (inl l) = inl (omega (arith, l))
    further (inr l) = inr (omega (arith, l))

-- ids among one more
among_other : (id n : ℕ) (dead : List ℕ) → id ≢ n → among id (dead ++ n ∷ []) ≡ among id dead
among_other id n [] ne = by (n == id) refl
  where
    by : (t : Bool) → (n == id) ≡ t → (t || false) ≡ false
    by true e = absurd (ne (sym (eqb-true n id e)))
    by false e = refl
among_other id n (d ∷ dead) ne = ap (λ t. (d == id) || t) (among_other id n dead ne)

among_last : (n : ℕ) (dead : List ℕ) → among n (dead ++ n ∷ []) ≡ true
among_last n [] = ap (λ t. t || false) (eq-eqb n n refl)
among_last n (d ∷ dead) = ap (λ t. (d == n) || t) (among_last n dead) ∙ either (d == n)
  where
    either : (t : Bool) → (t || true) ≡ true
    either true = refl
    either false = refl

one_dead : (rs : List Record) (dead : List ℕ) (n id : ℕ) → id ≢ n → module_as rs (dead ++ n ∷ []) id ≡ module_as rs dead id
one_dead rs dead n id ne = ap (λ t. record { path = path_of rs id; is_dead = t }) (among_other id n dead ne)

-- a module that was created dies
pub looked_up_dead : (rs : List Record) (dead : List ℕ) (paths : List ModuleAt) (around : List ℕ) (k id : ℕ) → k + 1 ≡ id → AreLookedUp rs dead paths around → AreLookedUp rs (dead ++ id ∷ []) (with_dead paths k true) around
looked_up_dead rs dead paths around k id e h =
    let at : 1 + k ≡ id = omega (arith, e) in
    record {
      few = h.few;
      nested = h.nested;
      paths_are = ap (λ ms. with_dead ms k true) h.paths_are
          ∙ flag_is (module_as rs dead) (module_as rs (dead ++ id ∷ [])) true 1 k rs
          (ap (λ t. record { path = path_of rs (1 + k); is_dead = t }) (ap (λ n. among n (dead ++ id ∷ [])) at ∙ among_last id dead))
          (λ n ne. one_dead rs dead id n (λ same. ne (same ∙ sym at)));
      around_are = h.around_are;
    }

-- a number that is no module's
pub looked_up_none : (rs : List Record) (dead : List ℕ) (paths : List ModuleAt) (around : List ℕ) (id : ℕ) → (id < 1) ⊎ (1 + length rs ≤ id) → AreLookedUp rs dead paths around → AreLookedUp rs (dead ++ id ∷ []) paths around
looked_up_none rs dead paths around id out h = record {
  few = h.few;
  nested = h.nested;
  paths_are = h.paths_are ∙ none_is (module_as rs dead) (module_as rs (dead ++ id ∷ [])) 1 id rs out (one_dead rs dead id);
  around_are = h.around_are;
}

-- the last one that died lives again
pub looked_up_alive : (rs : List Record) (dead : List ℕ) (paths : List ModuleAt) (around : List ℕ) (k id : ℕ) → k + 1 ≡ id → among id dead ≡ false → AreLookedUp rs (dead ++ id ∷ []) paths around → AreLookedUp rs dead (with_dead paths k false) around
looked_up_alive rs dead paths around k id e none h =
    let at : 1 + k ≡ id = omega (arith, e) in
    record {
      few = h.few;
      nested = h.nested;
      paths_are = ap (λ ms. with_dead ms k false) h.paths_are
          ∙ flag_is (module_as rs (dead ++ id ∷ [])) (module_as rs dead) false 1 k rs
          (ap (λ t. record { path = path_of rs (1 + k); is_dead = t }) (ap (λ n. among n dead) at ∙ none))
          (λ n ne. sym (one_dead rs dead id n (λ same. ne (same ∙ sym at))));
      around_are = h.around_are;
    }

pub looked_up_gone : (rs : List Record) (dead : List ℕ) (paths : List ModuleAt) (around : List ℕ) (id : ℕ) → (id < 1) ⊎ (1 + length rs ≤ id) → AreLookedUp rs (dead ++ id ∷ []) paths around → AreLookedUp rs dead paths around
looked_up_gone rs dead paths around id out h = record {
  few = h.few;
  nested = h.nested;
  paths_are = h.paths_are ∙ none_is (module_as rs (dead ++ id ∷ [])) (module_as rs dead) 1 id rs out (λ n ne. sym (one_dead rs dead id n ne));
  around_are = h.around_are;
}

-- one that stands among the dead more than once stays dead
pub looked_up_twice : (rs : List Record) (dead : List ℕ) (paths : List ModuleAt) (around : List ℕ) (id : ℕ) → among id dead ≡ true → AreLookedUp rs (dead ++ id ∷ []) paths around → AreLookedUp rs dead paths around
looked_up_twice rs dead paths around id some h = record {
  few = h.few;
  nested = h.nested;
  paths_are = h.paths_are ∙ same 1 rs;
  around_are = h.around_are;
}
  where
    each : (n : ℕ) → module_as rs (dead ++ id ∷ []) n ≡ module_as rs dead n
    each n = by (n == id) refl
      where
        by : (t : Bool) → (n == id) ≡ t → module_as rs (dead ++ id ∷ []) n ≡ module_as rs dead n
        by true e = let is = eqb-true n id e in ap (λ t. record { path = path_of rs n; is_dead = t }) (ap (λ k. among k (dead ++ id ∷ [])) is ∙ (among_last id dead ∙ (sym some ∙ ap (λ k. among k dead) (sym is))))
        by false e = one_dead rs dead id n (λ same. absurd (true≢false (sym (eq-eqb n id same) ∙ e)))

    same : (i : ℕ) (xs : List Record) → map (module_as rs (dead ++ id ∷ [])) (ids_from i xs) ≡ map (module_as rs dead) (ids_from i xs)
    same i [] = refl
    same i (x ∷ xs) = ap (λ m. m ∷ map (module_as rs (dead ++ id ∷ [])) (ids_from (suc i) xs)) (each i) ∙ ap (λ ms. module_as rs dead i ∷ ms) (same (suc i) xs)

-- the last path, whose module is dead or lives
pub flag_last : (paths : List ModuleAt) (path : List ℕ) (b : Bool) → with_dead (paths ++ record { path = path; is_dead = false } ∷ []) (length paths) b ≡ paths ++ record { path = path; is_dead = b } ∷ []
flag_last [] path b = refl
flag_last (m ∷ paths) path b = ap (λ ms. m ∷ ms) (flag_last paths path b)

-- the one that died last
pub popped : (found : Option ℕ) (last : ℕ) (old new : List ℕ) → MatchOption found ((old ≡ []) × (new ≡ [])) (λ n. old ≡ new ++ n ∷ []) → found ≡ Some last → old ≡ new ++ last ∷ []
popped found last old new h e = subst (λ o. MatchOption o ((old ≡ []) × (new ≡ [])) (λ n. old ≡ new ++ n ∷ [])) e h
