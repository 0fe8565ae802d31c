-- Lines of interfaces.
use Rattle.std.proofs.Common.{◌≡◌, inl, inr, ℕ, zero, suc, ◌-◌, ◌≤◌, Bool, true, false, not, ◌||◌, List, [], ◌∷◌, ◌++◌, Some, None, refl, sym, subst, ap, ◌∙◌, arith, append_assoc, append-nil, length, map, take, drop, slice_index_or, bytes_eq, Bor, if◌then◌else◌}
use Rattle.std.proofs.lemmas.Bool.{false≢true}
use Rattle.std.specs.List.{filter}
use Rattle.std.specs.Map.{lookup}
use Rattle.ned_trees.specs.declared.declarations.TypeDeclaration.{TypeDeclaration}
use Rattle.ned_types.specs.Types.{has_duplicate, is_interface_kind, is_type_named, type_named}
use Rattle.ned_types.specs.WellFormed.{IsAmong}
use Rattle.ned_inheritance.specs.Inheritance.{bare, behind_all, flat_interface, gathered, joined_behind, once_behind, reached, types_in, with_members, without_interfaces}
use Rattle.ned_inheritance.specs.Named.{AddsLine, HaveLines, HaveLinesOf, IsBehind, LinesAlong, StandBehind, flat_by_lines, kept, kept_behind, line_at, line_or_none}
use Rattle.ned_inheritance.specs.Order.{IsOrder}
use Rattle.ned_inheritance.proofs.Circles.{filter_among, less}
use Rattle.ned_inheritance.proofs.WellFormedLaws.{any_is, same_names, names_same, type_is, types_apart}
use Rattle.ned_inheritance.proofs.NamedLaws.{or_joined, or_zero, turned}
use Rattle.ned_inheritance.proofs.OrderLaws.{first_and_rest}
use Rattle.ned_inheritance.proofs.KeptLaws.{kept_gathered, kept_joined, kept_once, found_joined, found_reached}
use Rattle.indexmap.specs.IndexMap.{insert_entry}

abbrev pub LineEntry : Type 0
LineEntry = Bor (List ℕ) × List TypeDeclaration

-- ---- what is added to the lines

line_inserted : (name : List ℕ) (k : Bor (List ℕ)) (line : List TypeDeclaration) (es : List LineEntry) → line_at (insert_entry (λ (x y : Bor (List ℕ)). bytes_eq x.now y.now) es k line) name ≡ (if bytes_eq k.now name then line else line_at es name)
line_inserted name k line [] = ap (λ b. line_or_none (if b then Some line else None)) (turned name k.now) ∙ by (bytes_eq k.now name)
  where
    by : (b : Bool) → line_or_none (if b then Some line else None) ≡ (if b then line else [])
    by true = refl
    by false = refl
line_inserted name k line (e ∷ es) = by (bytes_eq k.now e.0.now) refl (bytes_eq name e.0.now) refl (line_inserted name k line es)
  where
    by : (b : Bool) → bytes_eq k.now e.0.now ≡ b → (c : Bool) → bytes_eq name e.0.now ≡ c
        → line_at (insert_entry (λ (x y : Bor (List ℕ)). bytes_eq x.now y.now) es k line) name ≡ (if bytes_eq k.now name then line else line_at es name)
        → line_at (if b then (e.0, line) ∷ es else e ∷ insert_entry (λ (x y : Bor (List ℕ)). bytes_eq x.now y.now) es k line) name ≡ (if bytes_eq k.now name then line else line_or_none (if c then Some e.1 else lookup (λ (y : Bor (List ℕ)). bytes_eq name y.now) es))
    by true p true q later =
        let same : bytes_eq k.now name ≡ true = names_same k.now name (same_names k.now e.0.now p ∙ sym (same_names name e.0.now q)) in
        rw (q, same) refl
    by true p false q later =
        let other : bytes_eq k.now name ≡ false = ap (λ (m : List ℕ). bytes_eq m name) (same_names k.now e.0.now p) ∙ turned e.0.now name ∙ q in
        rw (q, other) refl
    by false p true q later =
        let other : bytes_eq k.now name ≡ false = ap (bytes_eq k.now) (same_names name e.0.now q) ∙ p in
        rw (q, other) refl
    by false p false q later = ap (λ b. line_or_none (if b then Some e.1 else lookup (λ (y : Bor (List ℕ)). bytes_eq name y.now) (insert_entry (λ (x y : Bor (List ℕ)). bytes_eq x.now y.now) es k line))) q ∙ later

map_same : {X Y : Type 0} (f g : X → Y) → ((x : X) → f x ≡ g x) → (xs : List X) → map f xs ≡ map g xs
map_same f g h [] = refl
map_same f g h (x ∷ xs) = ap (λ y. y ∷ map f xs) (h x) ∙ ap (λ ys. g x ∷ ys) (map_same f g h xs)

pub line_added : (before after : List LineEntry) (k : Bor (List ℕ)) (line : List TypeDeclaration) (t : TypeDeclaration) → k.now ≡ t.name → after ≡ insert_entry (λ (x y : Bor (List ℕ)). bytes_eq x.now y.now) before k line
    → line ≡ kept_behind (joined_behind [] (map (line_at before) t.interfaces)) t → AddsLine before after t
line_added before after k line t named now is = λ name.
    ap (λ (es : List LineEntry). line_at es name) now
    ∙ line_inserted name k line before
    ∙ ap (λ (n : List ℕ). if bytes_eq n name then line else line_at before name) named
    ∙ ap (λ ls. if bytes_eq t.name name then ls else line_at before name) is

pub flat_same : (entries : List LineEntry) (types : List TypeDeclaration) (t : TypeDeclaration) → HaveLines entries types → flat_by_lines entries t ≡ flat_interface types t
flat_same entries types t have =
    ap (λ ls. without_interfaces (with_members (gathered (bare t) (joined_behind [] ls)) t)) (map_same (line_at entries) (λ n. kept types (reached (length types) types n)) have t.interfaces)
    ∙ ap (λ ls. without_interfaces (with_members (gathered (bare t) ls) t)) (sym (kept_joined types (λ n. reached (length types) types n) [] t.interfaces))
    ∙ ap (λ (x : TypeDeclaration). without_interfaces (with_members x t)) (kept_gathered types (bare t) (joined_behind [] (map (λ n. reached (length types) types n) t.interfaces)) (found_joined types (λ n. reached (length types) types n) (λ n. found_reached types (length types) n) [] tt t.interfaces))

-- ---- names that were seen

pub or_turned : (a b : Bool) → (a || b) ≡ true → (b || a) ≡ true
or_turned true true h = refl
or_turned true false h = refl
or_turned false true h = refl
or_turned false false h = h

pub or_either : (a b : Bool) → (a || b) ≡ true → a ≡ false → b ≡ true
or_either true b h e = absurd (false≢true (sym e))
or_either false b h e = h

pub or_first : (a b : Bool) → a ≡ true → (a || b) ≡ true
or_first a b h = ap (λ c. c || b) h

pub neither_first : (a b : Bool) → (a || b) ≡ false → a ≡ false
neither_first false b h = refl
neither_first true b h = absurd (false≢true (sym h))

pub neither_second : (a b : Bool) → (a || b) ≡ false → b ≡ false
neither_second false b h = h
neither_second true b h = absurd (false≢true (sym h))

pub named_joined : (name : List ℕ) (xs ys : List TypeDeclaration) → is_type_named name (xs ++ ys) ≡ (is_type_named name xs || is_type_named name ys)
named_joined name [] ys = refl
named_joined name (x ∷ xs) ys = ap (λ b. bytes_eq x.name name || b) (named_joined name xs ys) ∙ sym (or_joined (bytes_eq x.name name) (is_type_named name xs) (is_type_named name ys))

longer : (xs : List TypeDeclaration) (t : TypeDeclaration) → length (xs ++ t ∷ []) ≡ suc (length xs)
longer [] t = refl
longer (x ∷ xs) t = ap suc (longer xs t)

pub named_among : (types : List TypeDeclaration) (t : TypeDeclaration) (name : List ℕ) → IsAmong t types → bytes_eq t.name name ≡ true → is_type_named name types ≡ true
named_among types t name is e = any_is (λ u. bytes_eq u.name name) types t is e

-- ---- what is reached

pub none_named : (types : List TypeDeclaration) (name : List ℕ) → is_type_named name types ≡ false → type_named name types ≡ None
none_named [] name h = refl
none_named (t ∷ ts) name h =
    ap (λ b. if b then Some t else type_named name ts) (neither_first (bytes_eq t.name name) (is_type_named name ts) h)
    ∙ none_named ts name (neither_second (bytes_eq t.name name) (is_type_named name ts) h)

none_reached : (n : ℕ) (types : List TypeDeclaration) (name : List ℕ) → is_type_named name types ≡ false → reached n types name ≡ []
none_reached zero types name h = refl
none_reached (suc n) types name h = ap (behind_all (λ m. reached n types m)) (none_named types name h)

map_among : {X Y : Type 0} (f g : X → Y) (xs : List X) → ((x : X) → IsAmong x xs → f x ≡ g x) → map f xs ≡ map g xs
map_among f g [] h = refl
map_among f g (x ∷ xs) h = ap (λ y. y ∷ map f xs) (h x (inl refl)) ∙ ap (λ ys. g x ∷ ys) (map_among f g xs (λ y is. h y (inr is)))

none_kept : (n : ℕ) (types : List TypeDeclaration) (name : List ℕ) → is_type_named name types ≡ false → kept types (reached n types name) ≡ []
none_kept n types name h = ap (kept types) (none_reached n types name h)

-- one step more from a type
one_reached : (n : ℕ) (types : List TypeDeclaration) (t : TypeDeclaration) (name : List ℕ) → has_duplicate types ≡ false → IsAmong t types → bytes_eq t.name name ≡ true → reached (suc n) types name ≡ behind_all (λ m. reached n types m) (Some t)
one_reached n types t name apart is e =
    ap (λ (m : List ℕ). behind_all (λ k. reached n types k) (type_named m types)) (sym (same_names t.name name e))
    ∙ ap (behind_all (λ k. reached n types k)) (type_is types t (types_apart types apart) is)

-- ---- one type more

abbrev pub Within : List TypeDeclaration → List TypeDeclaration → Type 0
Within seen types = (name : List ℕ) → is_type_named name seen ≡ true → is_type_named name types ≡ true

line_before : (entries : List LineEntry) (types seen : List TypeDeclaration) → HaveLinesOf entries types seen → Within seen types → (n : ℕ) → length seen ≤ n → (name : List ℕ) → (is_type_named name types ≡ true → is_type_named name seen ≡ true) → kept types (reached n types name) ≡ line_at entries name
line_before entries types seen have within n l name behind = by (is_type_named name seen) refl (is_type_named name types) refl
  where
    by : (b : Bool) → is_type_named name seen ≡ b → (c : Bool) → is_type_named name types ≡ c → kept types (reached n types name) ≡ line_at entries name
    by true e c f = have.0 name e n l
    by false e true f = absurd (false≢true (sym e ∙ behind f))
    by false e false f = none_kept n types name f ∙ sym (have.1 name e)

pub line_more : (before after : List LineEntry) (types seen : List TypeDeclaration) (t : TypeDeclaration) → has_duplicate types ≡ false → HaveLinesOf before types seen → Within seen types → IsBehind types seen t → is_interface_kind t.kind ≡ true → AddsLine before after t → HaveLinesOf after types (seen ++ t ∷ [])
line_more before after types seen t apart have within is kind adds = (λ name there n l. first name there n l (bytes_eq t.name name) refl, λ name none. second name none (bytes_eq t.name name) refl)
  where
    own : (n : ℕ) → length seen ≤ n → (name : List ℕ) → bytes_eq t.name name ≡ true → kept types (reached (suc n) types name) ≡ kept_behind (joined_behind [] (map (line_at before) t.interfaces)) t
    own n l name e =
        ap (kept types) (one_reached n types t name apart is.0 e)
        ∙ ap (λ b. kept types (if b then once_behind (joined_behind [] (map (λ m. reached n types m) t.interfaces)) t else [])) kind
        ∙ kept_once types (joined_behind [] (map (λ m. reached n types m) t.interfaces)) t (type_is types t (types_apart types apart) is.0)
        ∙ ap (λ ls. kept_behind ls t) (kept_joined types (λ m. reached n types m) [] t.interfaces)
        ∙ ap (λ ls. kept_behind (joined_behind [] ls) t) (map_among (λ m. kept types (reached n types m)) (line_at before) t.interfaces (λ m in-t. line_before before types seen have within n l m (is.1 m kind in-t)))

    of_more : (n : ℕ) → length (seen ++ t ∷ []) ≤ n → suc (length seen) ≤ n
    of_more n l = subst (λ k. k ≤ n) (longer seen t) l

    first : (name : List ℕ) → is_type_named name (seen ++ t ∷ []) ≡ true → (n : ℕ) → length (seen ++ t ∷ []) ≤ n → (b : Bool) → bytes_eq t.name name ≡ b → kept types (reached n types name) ≡ line_at after name
    first name there zero l b e = let m = of_more zero l in absurd (omega (arith, m))
    first name there (suc n) l true e =
        let m = of_more (suc n) l in
        own n (omega (arith, m)) name e
        ∙ sym (ap (λ b. if b then kept_behind (joined_behind [] (map (line_at before) t.interfaces)) t else line_at before name) e)
        ∙ sym (adds name)
    first name there (suc n) l false e =
        let m = of_more (suc n) l in
        let old : (is_type_named name seen || (bytes_eq t.name name || false)) ≡ true = sym (named_joined name seen (t ∷ [])) ∙ there in
        let in-seen : is_type_named name seen ≡ true = or_either (bytes_eq t.name name || false) (is_type_named name seen) (or_turned (is_type_named name seen) (bytes_eq t.name name || false) old) (ap (λ b. b || false) e) in
        have.0 name in-seen (suc n) (omega (arith, m))
        ∙ sym (ap (λ b. if b then kept_behind (joined_behind [] (map (line_at before) t.interfaces)) t else line_at before name) e)
        ∙ sym (adds name)

    second : (name : List ℕ) → is_type_named name (seen ++ t ∷ []) ≡ false → (b : Bool) → bytes_eq t.name name ≡ b → line_at after name ≡ []
    second name none true e = absurd (false≢true (sym (neither_second (is_type_named name seen) (bytes_eq t.name name || false) (sym (named_joined name seen (t ∷ [])) ∙ none)) ∙ ap (λ b. b || false) e))
    second name none false e =
        adds name
        ∙ ap (λ b. if b then kept_behind (joined_behind [] (map (line_at before) t.interfaces)) t else line_at before name) e
        ∙ have.1 name (neither_first (is_type_named name seen) (bytes_eq t.name name || false) (sym (named_joined name seen (t ∷ [])) ∙ none))

-- a type that is no interface leaves the lines
pub line_left : (entries : List LineEntry) (types seen : List TypeDeclaration) (t : TypeDeclaration) → has_duplicate types ≡ false → HaveLinesOf entries types seen → IsBehind types seen t → is_interface_kind t.kind ≡ false → HaveLinesOf entries types (seen ++ t ∷ [])
line_left entries types seen t apart have is kind = (λ name there n l. first name there n l (is_type_named name seen) refl, λ name none. have.1 name (neither_first (is_type_named name seen) (bytes_eq t.name name || false) (sym (named_joined name seen (t ∷ [])) ∙ none)))
  where
    of_more : (n : ℕ) → length (seen ++ t ∷ []) ≤ n → suc (length seen) ≤ n
    of_more n l = subst (λ k. k ≤ n) (longer seen t) l

    first : (name : List ℕ) → is_type_named name (seen ++ t ∷ []) ≡ true → (n : ℕ) → length (seen ++ t ∷ []) ≤ n → (b : Bool) → is_type_named name seen ≡ b → kept types (reached n types name) ≡ line_at entries name
    first name there n l true e = let m = of_more n l in have.0 name e n (omega (arith, m))
    first name there zero l false e = let m = of_more zero l in absurd (omega (arith, m))
    first name there (suc n) l false e =
        let own : (bytes_eq t.name name || false) ≡ true = or_either (is_type_named name seen) (bytes_eq t.name name || false) (sym (named_joined name seen (t ∷ [])) ∙ there) e in
        ap (kept types) (one_reached n types t name apart is.0 (sym (or_zero (bytes_eq t.name name)) ∙ own))
        ∙ ap (λ b. kept types (if b then once_behind (joined_behind [] (map (λ m. reached n types m) t.interfaces)) t else [])) kind
        ∙ sym (have.1 name e)

-- ---- along an order

pub behind_front : (types seen xs : List TypeDeclaration) (t : TypeDeclaration) → StandBehind types seen (xs ++ t ∷ []) → StandBehind types seen xs × IsBehind types (seen ++ xs) t
behind_front types seen [] t h = (tt, subst (λ ts. IsBehind types ts t) (sym (append-nil seen)) h.0)
behind_front types seen (x ∷ xs) t h =
    let later = behind_front types (seen ++ x ∷ []) xs t h.1 in
    ((h.0, later.0), subst (λ ts. IsBehind types ts t) (append_assoc seen (x ∷ []) xs) later.1)

pub stand_within : (types seen ts : List TypeDeclaration) → StandBehind types seen ts → Within ts types
stand_within types seen [] h name e = absurd (false≢true e)
stand_within types seen (t ∷ ts) h name e = by (bytes_eq t.name name) refl e (stand_within types (seen ++ t ∷ []) ts h.1 name)
  where
    by : (b : Bool) → bytes_eq t.name name ≡ b → (b || is_type_named name ts) ≡ true → (is_type_named name ts ≡ true → is_type_named name types ≡ true) → is_type_named name types ≡ true
    by true p q later = named_among types t name h.0.0 p
    by false p q later = later q

pub along_none : (entries : List LineEntry) → entries ≡ [] → LinesAlong entries []
along_none entries e = λ types apart order. (λ name there n l. absurd (false≢true there), λ name none. ap (λ es. line_at es name) e)

pub along_interface : (before after : List LineEntry) (seen : List TypeDeclaration) (t : TypeDeclaration) → LinesAlong before seen → is_interface_kind t.kind ≡ true → AddsLine before after t → LinesAlong after (seen ++ t ∷ [])
along_interface before after seen t have kind adds = λ types apart order.
    let parts = behind_front types [] seen t order in
    line_more before after types seen t apart (have types apart parts.0) (stand_within types [] seen parts.0) parts.1 kind adds

pub along_other : (entries : List LineEntry) (seen : List TypeDeclaration) (t : TypeDeclaration) → LinesAlong entries seen → is_interface_kind t.kind ≡ false → LinesAlong entries (seen ++ t ∷ [])
along_other entries seen t have kind = λ types apart order.
    let parts = behind_front types [] seen t order in
    line_left entries types seen t apart (have types apart parts.0) parts.1 kind

-- one type more is done
pub done_moved : (rest : List (Bor TypeDeclaration)) (item d : Bor TypeDeclaration) (done all : List TypeDeclaration) → 1 ≤ length rest → item ≡ slice_index_or rest 0 d → done ++ types_in rest ≡ all
    → (done ++ item.now ∷ []) ++ types_in (take (length rest - 1) (drop 1 rest)) ≡ all
done_moved rest item d done all h is told =
    append_assoc done (item.now ∷ []) (types_in (take (length rest - 1) (drop 1 rest)))
    ∙ ap (λ (x : Bor TypeDeclaration). done ++ x.now ∷ types_in (take (length rest - 1) (drop 1 rest))) is
    ∙ sym (ap (λ (rs : List (Bor TypeDeclaration)). done ++ types_in rs) (first_and_rest rest d h))
    ∙ told

-- ---- an order of all types

pub behind_both : (types seen xs ys : List TypeDeclaration) → StandBehind types seen xs → StandBehind types (seen ++ xs) ys → StandBehind types seen (xs ++ ys)
behind_both types seen [] ys a b = subst (λ ts. StandBehind types ts ys) (append-nil seen) b
behind_both types seen (x ∷ xs) ys a b = (a.0, behind_both types (seen ++ x ∷ []) xs ys a.1 (subst (λ ts. StandBehind types ts ys) (sym (append_assoc seen (x ∷ []) xs)) b))

-- the types of an order are among all
pub behind_among : (types seen order : List TypeDeclaration) → StandBehind types seen order → (x : TypeDeclaration) → IsAmong x order → IsAmong x types
behind_among types seen [] h x is = absurd is
behind_among types seen (t ∷ ts) h x (inl same) = subst (λ (u : TypeDeclaration). IsAmong u types) (sym same) h.0.0
behind_among types seen (t ∷ ts) h x (inr is) = behind_among types (seen ++ t ∷ []) ts h.1 x is

-- and none was seen
behind_fresh : (types seen order : List TypeDeclaration) → StandBehind types seen order → (x : TypeDeclaration) → IsAmong x order → is_type_named x.name seen ≡ false
behind_fresh types seen [] h x is = absurd is
behind_fresh types seen (t ∷ ts) h x (inl same) = ap (λ (u : TypeDeclaration). is_type_named u.name seen) same ∙ h.0.3
behind_fresh types seen (t ∷ ts) h x (inr is) =
    neither_first (is_type_named x.name seen) (bytes_eq t.name x.name || false) (sym (named_joined x.name seen (t ∷ [])) ∙ behind_fresh types (seen ++ t ∷ []) ts h.1 x is)

-- an order has no more types than there are
pub order_length : (types seen order pool : List TypeDeclaration) → StandBehind types seen order → ((x : TypeDeclaration) → IsAmong x order → IsAmong x pool) → length order ≤ length pool
order_length types seen [] pool h among = omega arith
order_length types seen (t ∷ ts) pool h among =
    let later = order_length types (seen ++ t ∷ []) ts (filter (λ u. not (bytes_eq t.name u.name)) pool) h.1 (λ x is. filter_among (λ u. not (bytes_eq t.name u.name)) pool x (among x (inr is)) (ap not (other x is))) in
    let fewer = less (λ u. not (bytes_eq t.name u.name)) pool t (among t (inl refl)) (ap not (names_same t.name t.name refl)) in
    omega (arith, later, fewer)
  where
    other : (x : TypeDeclaration) → IsAmong x ts → bytes_eq t.name x.name ≡ false
    other x is =
        neither_first (bytes_eq t.name x.name) false
        (neither_second (is_type_named x.name seen) (bytes_eq t.name x.name || false) (sym (named_joined x.name seen (t ∷ [])) ∙ behind_fresh types (seen ++ t ∷ []) ts h.1 x is))

-- the lines are those of all types
pub lines_fit : (entries : List LineEntry) (order types : List TypeDeclaration) → LinesAlong entries order → IsOrder types order → has_duplicate types ≡ false → HaveLines entries types
lines_fit entries order types have is apart = λ name. by name (is_type_named name types) refl
  where
    lines : HaveLinesOf entries types order
    lines = have types apart is.0

    by : (name : List ℕ) (b : Bool) → is_type_named name types ≡ b → line_at entries name ≡ kept types (reached (length types) types name)
    by name true e = sym (lines.0 name (is.1 name e) (length types) (order_length types [] order types is.0 (behind_among types [] order is.0)))
    by name false e = lines.1 name (other name e (is_type_named name order) refl) ∙ sym (none_kept (length types) types name e)
      where
        other : (name : List ℕ) → is_type_named name types ≡ false → (b : Bool) → is_type_named name order ≡ b → b ≡ false
        other name e true f = absurd (false≢true (sym e ∙ stand_within types [] order is.0 name f))
        other name e false f = refl
