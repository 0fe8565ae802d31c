-- Laws of the pieces of an ini text.
use Rattle.std.proofs.Common.{◌≡◌, ℕ, zero, suc, ◌+◌, ◌<◌, ◌≤◌, Bool, true, false, cond, eqb, ◌&&◌, List, [], ◌∷◌, ◌++◌, length, take, drop, get_or, Option, Some, None, option_map, refl, sym, ap, ◌∙◌, arith, append_assoc, add-one, drop-cons, length-drop, take_all}
use Rattle.std.proofs.lemmas.Bool.{eqb-true, true≢false}
use Rattle.std.proofs.Math.Seq.{take-add}
use Rattle.std.proofs.lemmas.List.{append-nil, take_more, nil_from_length, drop-drop}
use Rattle.ini_entries.specs.Texts.{Bytes}
use Rattle.ini_config.specs.Texts.{add_front, begins_with, lines_of_ini, after_feed, after_line_end, ends_literal, takes_next, literal_rest, literal_behind, uncommented, before_hash}

-- ---- the end of a line

pub no_end : (c : ℕ) (cs : Bytes) → after_line_end (c ∷ cs) ≡ None → lines_of_ini (c ∷ cs) ≡ add_front c (lines_of_ini cs)
unfolding lines_of_ini
no_end c cs h = go cs (eqb c 10) (eqb c 13) h
  where
    feed : (t : Bool) (ds : Bytes) (L : List Bytes) → cond t (Some ds) None ≡ None → cond t L (add_front c L) ≡ add_front c L
    feed true ds L h = absurd cc
    feed false ds L h = refl

    go : (cs : Bytes) (x y : Bool) → cond x (Some cs) (cond y (after_feed cs) None) ≡ None → cond x ([] ∷ lines_of_ini cs) (cond (y && begins_with 10 cs) (lines_of_ini cs) (add_front c (lines_of_ini cs))) ≡ add_front c (lines_of_ini cs)
    go cs true y h = absurd cc
    go cs false false h = refl
    go [] false true h = refl
    go (d ∷ ds) false true h = feed (eqb d 10) ds (lines_of_ini (d ∷ ds)) h

pub at_end : (bs after : Bytes) → after_line_end bs ≡ Some after → lines_of_ini bs ≡ [] ∷ lines_of_ini after
unfolding lines_of_ini
at_end [] after h = absurd cc
at_end (c ∷ cs) after h = go cs (eqb c 10) (eqb c 13) h
  where
    feed : (t : Bool) (ds : Bytes) (X Y : List Bytes) → cond t (Some ds) None ≡ Some after → cond t (cond t ([] ∷ lines_of_ini ds) X) Y ≡ [] ∷ lines_of_ini after
    feed true ds X Y h = let same : ds ≡ after = cc in ap (λ (l : Bytes). [] ∷ lines_of_ini l) same
    feed false ds X Y h = absurd cc

    go : (cs : Bytes) (x y : Bool) → cond x (Some cs) (cond y (after_feed cs) None) ≡ Some after → cond x ([] ∷ lines_of_ini cs) (cond (y && begins_with 10 cs) (lines_of_ini cs) (add_front c (lines_of_ini cs))) ≡ [] ∷ lines_of_ini after
    go cs true y h = let same : cs ≡ after = cc in ap (λ (l : Bytes). [] ∷ lines_of_ini l) same
    go cs false false h = absurd cc
    go [] false true h = absurd cc
    go (d ∷ ds) false true h = feed (eqb d 10) ds _ _ h

pub end_shorter : (bs after : Bytes) → after_line_end bs ≡ Some after → length after < length bs
end_shorter [] after h = absurd cc
end_shorter (c ∷ cs) after h = go cs (eqb c 10) (eqb c 13) h
  where
    feed : (t : Bool) (ds : Bytes) → cond t (Some ds) None ≡ Some after → length after < suc (suc (length ds))
    feed true ds h = let same : ds ≡ after = cc in omega (arith, ap length same)
    feed false ds h = absurd cc

    go : (cs : Bytes) (x y : Bool) → cond x (Some cs) (cond y (after_feed cs) None) ≡ Some after → length after < suc (length cs)
    go cs true y h = let same : cs ≡ after = cc in omega (arith, ap length same)
    go cs false false h = absurd cc
    go [] false true h = absurd cc
    go (d ∷ ds) false true h = feed (eqb d 10) ds h

-- ---- the first line

abbrev pub join_front : Bytes → List Bytes → List Bytes
join_front front [] = front ∷ []
join_front front (line ∷ lines) = (front ++ line) ∷ lines

join_more : (front : Bytes) (b : ℕ) (ls : List Bytes) → join_front front (add_front b ls) ≡ join_front (front ++ b ∷ []) ls
join_more front b [] = refl
join_more front b (l ∷ ls) = ap (λ (x : Bytes). x ∷ ls) (sym (append_assoc front (b ∷ []) l))

pub join_step : (bs : Bytes) (i : ℕ) → i < length bs → after_line_end (drop i bs) ≡ None → join_front (take i bs) (lines_of_ini (drop i bs)) ≡ join_front (take (i + 1) bs) (lines_of_ini (drop (i + 1) bs))
join_step bs i h e =
    let rest : drop i bs ≡ get_or bs i 0 ∷ drop (i + 1) bs = rw add-one (drop-cons bs i 0 h) in
    let none : after_line_end (get_or bs i 0 ∷ drop (i + 1) bs) ≡ None = ap after_line_end (sym rest) ∙ e in
    let line : lines_of_ini (drop i bs) ≡ add_front (get_or bs i 0) (lines_of_ini (drop (i + 1) bs)) = ap lines_of_ini rest ∙ no_end (get_or bs i 0) (drop (i + 1) bs) none in
    let front : take (i + 1) bs ≡ take i bs ++ get_or bs i 0 ∷ [] = take_more bs i 0 h in
    ap (join_front (take i bs)) line ∙ join_more (take i bs) (get_or bs i 0) (lines_of_ini (drop (i + 1) bs)) ∙ ap (λ (x : Bytes). join_front x (lines_of_ini (drop (i + 1) bs))) (sym front)

pub join_ends : (bs after : Bytes) (i : ℕ) → after_line_end (drop i bs) ≡ Some after → join_front (take i bs) (lines_of_ini (drop i bs)) ≡ take i bs ∷ lines_of_ini after
join_ends bs after i e =
    ap (join_front (take i bs)) (at_end (drop i bs) after e) ∙ ap (λ (x : Bytes). x ∷ lines_of_ini after) (append-nil (take i bs))

pub join_all : (bs : Bytes) (i : ℕ) → length bs ≤ i → join_front (take i bs) (lines_of_ini (drop i bs)) ≡ bs ∷ lines_of_ini []
unfolding lines_of_ini
join_all bs i h =
    let rest : drop i bs ≡ [] = nil_from_length (drop i bs) (omega (arith, length-drop i bs, h)) in
    rw (rest, take_all i bs h) refl

abbrev pub Joins : List Bytes → Type 0
Joins ls = ls ≡ join_front [] ls

pub join_nil : (bs : Bytes) → 0 < length bs → lines_of_ini bs ≡ join_front [] (lines_of_ini bs)
unfolding lines_of_ini
join_nil [] h = absurd (omega (arith, h))
join_nil (b ∷ []) h = go (eqb b 10) (eqb b 13)
  where
    go : (x y : Bool) → Joins (cond x ([] ∷ []) (cond (y && false) [] ((b ∷ []) ∷ [])))
    go true y = refl
    go false true = refl
    go false false = refl
join_nil (b ∷ d ∷ ds) h = go (lines_of_ini (d ∷ ds)) (join_nil (d ∷ ds) (omega arith)) (eqb b 10) (eqb b 13 && eqb d 10)
  where
    same : (ls : List Bytes) → Joins (add_front b ls)
    same [] = refl
    same (l ∷ ls) = refl

    go : (ls : List Bytes) → Joins ls → (x y : Bool) → Joins (cond x ([] ∷ ls) (cond y ls (add_front b ls)))
    go ls h true y = refl
    go ls h false true = h
    go ls h false false = same ls

-- ---- text literals

-- a literal that goes on over the byte
literal_more : (taken : Bool) (c : ℕ) (cs : Bytes) (at : ℕ) → ends_literal taken c ≡ false → option_map (λ n. n + at) (literal_rest taken (c ∷ cs)) ≡ option_map (λ n. n + (at + 1)) (literal_rest (takes_next taken c) cs)
unfolding literal_rest
literal_more taken c cs at h = rw h (go (literal_rest (takes_next taken c) cs))
  where
    go : (r : Option ℕ) → option_map (λ n. n + at) (option_map (λ n. suc n) r) ≡ option_map (λ n. n + (at + 1)) r
    go None = refl
    go (Some n) = ap Some (omega arith)

literal_none : (t : Bool) (r : Option ℕ) → cond t (Some 1) (option_map (λ n. suc n) r) ≡ None → (t ≡ false) × (r ≡ None)
literal_none true r h = absurd cc
literal_none false None h = (refl, refl)
literal_none false (Some m) h = absurd cc

-- ---- comments

-- after an unclosed `"` no text literal begins
pub no_literal : (taken : Bool) (bs : Bytes) → literal_rest taken bs ≡ None → uncommented 0 bs ≡ before_hash bs
unfolding uncommented before_hash literal_rest
no_literal taken [] h = refl
no_literal taken (c ∷ cs) h =
    let none = literal_none (ends_literal taken c) (literal_rest (takes_next taken c) cs) h in
    go (eqb c 35) (behind taken (eqb c 34) refl none.0 none.1) (no_literal (takes_next taken c) cs none.1)
  where
    -- a `"` that a `\` takes along begins none either: what follows it is the same
    behind : (taken : Bool) (t : Bool) → eqb c 34 ≡ t → ends_literal taken c ≡ false → literal_rest (takes_next taken c) cs ≡ None → literal_behind c cs ≡ 0
    behind taken false e going none = rw e refl
    behind true true e going none = rw (e, none) refl
    behind false true e going none = absurd (true≢false (sym e ∙ going))

    go : (t : Bool) → literal_behind c cs ≡ 0 → uncommented 0 cs ≡ before_hash cs → cond t [] (c ∷ uncommented (literal_behind c cs) cs) ≡ cond t [] (c ∷ before_hash cs)
    go true e ih = refl
    go false e ih = ap (λ (l : Bytes). c ∷ l) (ap (λ (n : ℕ). uncommented n cs) e ∙ ih)

-- the bytes of a literal stay
pub literal_stays : (n : ℕ) (bs : Bytes) → uncommented n bs ≡ take n bs ++ uncommented 0 (drop n bs)
unfolding uncommented
literal_stays zero bs = refl
literal_stays (suc n) [] = refl
literal_stays (suc n) (b ∷ bs) = ap (λ (l : Bytes). b ∷ l) (literal_stays n bs)

-- ---- at a place of a list

at_place : (bs : Bytes) (i : ℕ) → i < length bs → drop i bs ≡ get_or bs i 0 ∷ drop (i + 1) bs
at_place bs i h = rw add-one (drop-cons bs i 0 h)

pub literal_step_at : (bs : Bytes) (taken : Bool) (i : ℕ) → i < length bs → ends_literal taken (get_or bs i 0) ≡ false → option_map (λ n. n + i) (literal_rest taken (drop i bs)) ≡ option_map (λ n. n + (i + 1)) (literal_rest (takes_next taken (get_or bs i 0)) (drop (i + 1) bs))
literal_step_at bs taken i h e = ap (λ (l : Bytes). option_map (λ n. n + i) (literal_rest taken l)) (at_place bs i h) ∙ literal_more taken (get_or bs i 0) (drop (i + 1) bs) i e

pub literal_ends_at : (bs : Bytes) (taken : Bool) (i : ℕ) → i < length bs → ends_literal taken (get_or bs i 0) ≡ true → option_map (λ n. n + i) (literal_rest taken (drop i bs)) ≡ Some (i + 1)
unfolding literal_rest
literal_ends_at bs taken i h e = ap (λ (l : Bytes). option_map (λ n. n + i) (literal_rest taken l)) (at_place bs i h) ∙ rw e (ap Some (omega arith))

pub literal_none_at : (bs : Bytes) (taken : Bool) (i : ℕ) → length bs ≤ i → option_map (λ n. n + i) (literal_rest taken (drop i bs)) ≡ None
unfolding literal_rest
literal_none_at bs taken i h = let rest : drop i bs ≡ [] = nil_from_length (drop i bs) (omega (arith, length-drop i bs, h)) in rw rest refl

-- the bytes up to a place, and what a reader makes of the rest
abbrev pub reads_on : (Bytes → Bytes) → Bytes → ℕ → Bytes
reads_on f bs i = take i bs ++ f (drop i bs)

pub on_step : (f : Bytes → Bytes) (bs : Bytes) (i : ℕ) → i < length bs → f (get_or bs i 0 ∷ drop (i + 1) bs) ≡ get_or bs i 0 ∷ f (drop (i + 1) bs) → reads_on f bs i ≡ reads_on f bs (i + 1)
on_step f bs i h e =
    ap (λ (l : Bytes). take i bs ++ f l) (at_place bs i h)
    ∙ ap (λ (l : Bytes). take i bs ++ l) e
    ∙ sym (append_assoc (take i bs) (get_or bs i 0 ∷ []) (f (drop (i + 1) bs)))
    ∙ ap (λ (l : Bytes). l ++ f (drop (i + 1) bs)) (sym (take_more bs i 0 h))

pub on_ends : (f : Bytes → Bytes) (bs : Bytes) (i : ℕ) → i < length bs → f (get_or bs i 0 ∷ drop (i + 1) bs) ≡ [] → reads_on f bs i ≡ take i bs
on_ends f bs i h e =
    ap (λ (l : Bytes). take i bs ++ f l) (at_place bs i h) ∙ ap (λ (l : Bytes). take i bs ++ l) e ∙ append-nil (take i bs)

pub on_all : (f : Bytes → Bytes) (bs : Bytes) (i : ℕ) → length bs ≤ i → f [] ≡ [] → reads_on f bs i ≡ take i bs
on_all f bs i h e =
    let rest : drop i bs ≡ [] = nil_from_length (drop i bs) (omega (arith, length-drop i bs, h)) in
    ap (λ (l : Bytes). take i bs ++ f l) rest ∙ ap (λ (l : Bytes). take i bs ++ l) e ∙ append-nil (take i bs)

pub hash_step : (bs : Bytes) (i : ℕ) → i < length bs → eqb (get_or bs i 0) 35 ≡ false → reads_on before_hash bs i ≡ reads_on before_hash bs (i + 1)
unfolding before_hash
hash_step bs i h e = on_step before_hash bs i h (rw e refl)

pub hash_ends : (bs : Bytes) (i : ℕ) → i < length bs → eqb (get_or bs i 0) 35 ≡ true → reads_on before_hash bs i ≡ take i bs
unfolding before_hash
hash_ends bs i h e = on_ends before_hash bs i h (rw e refl)

pub hash_all : (bs : Bytes) (i : ℕ) → length bs ≤ i → reads_on before_hash bs i ≡ take i bs
unfolding before_hash
hash_all bs i h = on_all before_hash bs i h refl

pub plain_step : (bs : Bytes) (i : ℕ) → i < length bs → eqb (get_or bs i 0) 35 ≡ false → eqb (get_or bs i 0) 34 ≡ false → reads_on (uncommented 0) bs i ≡ reads_on (uncommented 0) bs (i + 1)
unfolding uncommented
plain_step bs i h e f = on_step (uncommented 0) bs i h (rw (e, f) refl)

pub comment_ends : (bs : Bytes) (i : ℕ) → i < length bs → eqb (get_or bs i 0) 35 ≡ true → reads_on (uncommented 0) bs i ≡ take i bs
unfolding uncommented
comment_ends bs i h e = on_ends (uncommented 0) bs i h (rw e refl)

pub comment_all : (bs : Bytes) (i : ℕ) → length bs ≤ i → reads_on (uncommented 0) bs i ≡ take i bs
unfolding uncommented
comment_all bs i h = on_all (uncommented 0) bs i h refl

-- a `"` that begins a literal
pub quote_step : (bs : Bytes) (i n : ℕ) → i < length bs → eqb (get_or bs i 0) 34 ≡ true → literal_rest false (drop (i + 1) bs) ≡ Some n → reads_on (uncommented 0) bs i ≡ reads_on (uncommented 0) bs (i + 1 + n)
unfolding uncommented
quote_step bs i n h q e =
    let quote : get_or bs i 0 ≡ 34 = eqb-true (get_or bs i 0) 34 q in
    let rest : Bytes = drop (i + 1) bs in
    let begins : uncommented 0 (get_or bs i 0 ∷ rest) ≡ get_or bs i 0 ∷ uncommented n rest = rw (quote, e) refl in
    ap (λ (l : Bytes). take i bs ++ uncommented 0 l) (at_place bs i h)
    ∙ ap (λ (l : Bytes). take i bs ++ l) begins
    ∙ ap (λ (l : Bytes). take i bs ++ (get_or bs i 0 ∷ l)) (literal_stays n rest)
    ∙ sym (append_assoc (take i bs) (get_or bs i 0 ∷ []) (take n rest ++ uncommented 0 (drop n rest)))
    ∙ ap (λ (l : Bytes). l ++ (take n rest ++ uncommented 0 (drop n rest))) (sym (take_more bs i 0 h))
    ∙ sym (append_assoc (take (i + 1) bs) (take n rest) (uncommented 0 (drop n rest)))
    ∙ ap (λ (l : Bytes). l ++ uncommented 0 (drop n rest)) (sym (take-add (i + 1) n bs))
    ∙ ap (λ (l : Bytes). take (i + 1 + n) bs ++ uncommented 0 l) (drop-drop n (i + 1) bs)

-- a `"` that begins none
pub quote_ends : (bs : Bytes) (i n : ℕ) → i < length bs → eqb (get_or bs i 0) 34 ≡ true → literal_rest false (drop (i + 1) bs) ≡ None → take n (drop (i + 1) bs) ≡ before_hash (drop (i + 1) bs) → reads_on (uncommented 0) bs i ≡ take (i + 1 + n) bs
unfolding uncommented
quote_ends bs i n h q e t =
    let quote : get_or bs i 0 ≡ 34 = eqb-true (get_or bs i 0) 34 q in
    let rest : Bytes = drop (i + 1) bs in
    let begins : uncommented 0 (get_or bs i 0 ∷ rest) ≡ get_or bs i 0 ∷ uncommented 0 rest = rw (quote, e) refl in
    on_step (uncommented 0) bs i h begins
    ∙ ap (λ (l : Bytes). take (i + 1) bs ++ l) (no_literal false rest e ∙ sym t)
    ∙ sym (take-add (i + 1) n bs)
