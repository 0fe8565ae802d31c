-- A table of modules by their places that gains a module, or loses its last one.
use Rattle.std.proofs.Common.{◌≡◌, ℕ, suc, ◌+◌, ◌<◌, ◌==◌, nat_eq, bytes_eq, Bool, true, false, cond, ◌&&◌, List, [], ◌∷◌, ◌++◌, length, Option, Some, None, is_some, MatchOption, if◌then◌else◌, refl, sym, ap, ◌∙◌, subst, arith}
use Rattle.std.proofs.lemmas.Bool.{eqb-true, true≢false}
use Rattle.std.proofs.lemmas.List.{length_push}
use Rattle.std.proofs.lemmas.Slice.Eq.{bytes_eq-Decides}
use Rattle.std.specs.HashMap.{HashMap, get}
use Rattle.std.specs.Option.{option_eq}
use Rattle.model_questions.specs.declared.record.Origin.{Origin}
use Rattle.model_questions.specs.declared.record.Origin.TheVariants as origin
use Rattle.model_questions.specs.declared.record.Record.{Record}
use Rattle.model_questions.proofs.HopLemmas.{named_within}
use Rattle.model_questions.specs.Records.{is_built, is_named, named_from, same_index}
use Rattle.kernel_actions.specs.Places.{equal, id_at, place_of, AreIdsOf}
use Rattle.kernel_actions.specs.declared.record_table.ModulePlace.{ModulePlace}

-- the one that is found, or else the other
abbrev or_else : Option ℕ → Option ℕ → Option ℕ
or_else None o = o
or_else (Some k) o = Some k

or_none : (o : Option ℕ) → or_else o None ≡ o
or_none None = refl
or_none (Some k) = refl

abbrev one_where : Bool → ℕ → Option ℕ
one_where t k = if t then Some k else None

-- ---- the first of its name, with one more after the others

named_behind : (first parent : ℕ) (name : List ℕ) (index : Option ℕ) (rs : List Record) (r : Record)
    → named_from first parent name index (rs ++ r ∷ []) ≡ or_else (named_from first parent name index rs) (one_where (is_named parent name index r) (first + length rs))
named_behind first parent name index [] r = by (is_named parent name index r)
  where
    by : (t : Bool) → (if t then Some first else None) ≡ one_where t (first + 0)
    by true = ap Some (omega arith)
    by false = refl
named_behind first parent name index (x ∷ rs) r = by (is_named parent name index x) (named_behind (suc first) parent name index rs r)
  where
    by : (t : Bool) → named_from (suc first) parent name index (rs ++ r ∷ []) ≡ or_else (named_from (suc first) parent name index rs) (one_where (is_named parent name index r) (suc first + length rs))
        → (if t then Some first else named_from (suc first) parent name index (rs ++ r ∷ [])) ≡ or_else (if t then Some first else named_from (suc first) parent name index rs) (one_where (is_named parent name index r) (first + suc (length rs)))
    by true e = refl
    by false e = e ∙ ap (λ k. or_else (named_from (suc first) parent name index rs) (one_where (is_named parent name index r) k)) (omega arith)

-- ---- places

index_alike : (a b : Option ℕ) → same_index a b ≡ true → a ≡ b
index_alike None None h = refl
index_alike None (Some k) h = absurd (true≢false (sym h))
index_alike (Some i) None h = absurd (true≢false (sym h))
index_alike (Some i) (Some k) h = ap Some (eqb-true i k h)

both : (a b : Bool) → (a && b) ≡ true → (a ≡ true) × (b ≡ true)
both true true h = (refl, refl)
both true false h = absurd (true≢false (sym h))
both false b h = absurd (true≢false (sym h))

-- a module of that name stands there
named_is : (p : ModulePlace) (r : Record) → is_named p.parent p.name p.index r ≡ true → place_of r ≡ p
named_is p r h =
    let b = both (is_built r.origin) ((r.parent == p.parent) && (bytes_eq r.name p.name && same_index r.index p.index)) h in
    let e = both (r.parent == p.parent) (bytes_eq r.name p.name && same_index r.index p.index) b.1 in
    let f = both (bytes_eq r.name p.name) (same_index r.index p.index) e.1 in
    ap (λ (k : ℕ). record { parent = k; name = r.name; index = r.index }) (eqb-true r.parent p.parent e.0)
    ∙ ap (λ (n : List ℕ). record { parent = p.parent; name = n; index = r.index }) ((bytes_eq-Decides r.name p.name).0 f.0)
    ∙ ap (λ (i : Option ℕ). record { parent = p.parent; name = p.name; index = i }) (index_alike r.index p.index f.1)

-- one that was built
all_built : (o : Origin) (t : Bool) → is_built o ≡ true → t ≡ (is_built o && t)
all_built origin.Built t e = refl
all_built (origin.Created plan) t e = absurd (true≢false (sym e))

-- the table compares as the definition does
equal_alike : (r : Record) (p : ModulePlace) → is_built r.origin ≡ true → equal (place_of r) p ≡ is_named p.parent p.name p.index r
equal_alike r p built =
    ap (λ t. (r.parent == p.parent) && (bytes_eq r.name p.name && t)) (by r.index p.index)
    ∙ all_built r.origin ((r.parent == p.parent) && (bytes_eq r.name p.name && same_index r.index p.index)) built
  where
    by : (a b : Option ℕ) → option_eq nat_eq a b ≡ same_index a b
    by None None = refl
    by None (Some k) = refl
    by (Some i) None = refl
    by (Some i) (Some k) = refl

-- ---- one more

-- a place has its first module, also after one more
added_id : (rs : List Record) (r : Record) (p : ModulePlace) → id_at (rs ++ r ∷ []) p ≡ or_else (id_at rs p) (one_where (is_named p.parent p.name p.index r) (suc (length rs)))
added_id rs r p = named_behind 1 p.parent p.name p.index rs r ∙ ap (λ k. or_else (id_at rs p) (one_where (is_named p.parent p.name p.index r) k)) (omega arith)

-- where the place is taken the first one stays
pub ids_stay : {S : Type 0} (rs now : List Record) (r : Record) (ids : HashMap ModulePlace ℕ S) → AreIdsOf rs ids → is_some (get equal ids (place_of r)) ≡ true → now ≡ rs ++ r ∷ [] → AreIdsOf now ids
ids_stay rs now r ids k t e p =
    k p ∙ sym (ap (λ (ls : List Record). id_at ls p) e ∙ added_id rs r p ∙ by (is_named p.parent p.name p.index r) refl (id_at rs p) refl)
  where
    taken : is_named p.parent p.name p.index r ≡ true → id_at rs p ≡ None → ⊥
    taken h n = absurd (true≢false (sym t ∙ ap is_some (k (place_of r) ∙ ap (id_at rs) (named_is p r h) ∙ n)))

    by : (b : Bool) → is_named p.parent p.name p.index r ≡ b → (o : Option ℕ) → id_at rs p ≡ o → or_else o (one_where b (suc (length rs))) ≡ o
    by b h (Some i) n = refl
    by true h None n = absurd (taken h n)
    by false h None n = refl

-- where it was free it has that one
pub ids_with : {S T : Type 0} (rs now : List Record) (r : Record) (place : ModulePlace) (id : ℕ) (ids : HashMap ModulePlace ℕ S) (after : HashMap ModulePlace ℕ T) → AreIdsOf rs ids → is_built r.origin ≡ true → place ≡ place_of r → is_some (get equal ids place) ≡ false
    → id ≡ suc (length rs) → now ≡ rs ++ r ∷ [] → ((q : ModulePlace) → get equal after q ≡ cond (equal place q) (Some id) (get equal ids q)) → AreIdsOf now after
ids_with rs now r place id ids after k built same free n e u p =
    u p ∙ ap (λ (q : ModulePlace). cond (equal q p) (Some id) (get equal ids p)) same
    ∙ ap (λ b. cond b (Some id) (get equal ids p)) (equal_alike r p built)
    ∙ ap (cond (is_named p.parent p.name p.index r) (Some id)) (k p)
    ∙ by (is_named p.parent p.name p.index r) refl
    ∙ sym (ap (λ (ls : List Record). id_at ls p) e ∙ added_id rs r p)
  where
    none : (o : Option ℕ) → is_some o ≡ false → o ≡ None
    none None h = refl
    none (Some i) h = absurd (true≢false h)

    was_free : is_named p.parent p.name p.index r ≡ true → id_at rs p ≡ None
    was_free h = ap (id_at rs) (sym (named_is p r h)) ∙ sym (k (place_of r)) ∙ ap (get equal ids) (sym same) ∙ none (get equal ids place) free

    by : (b : Bool) → is_named p.parent p.name p.index r ≡ b → cond b (Some id) (id_at rs p) ≡ or_else (id_at rs p) (one_where b (suc (length rs)))
    by true h = ap Some n ∙ sym (ap (λ o. or_else o (Some (suc (length rs)))) (was_free h))
    by false h = sym (or_none (id_at rs p))

-- one that was not built stands at no place
unnamed : (r : Record) (p : ModulePlace) → is_built r.origin ≡ false → is_named p.parent p.name p.index r ≡ false
unnamed r p e = ap (λ t. t && ((r.parent == p.parent) && (bytes_eq r.name p.name && same_index r.index p.index))) e

pub ids_unnamed : {S : Type 0} (rs now : List Record) (r : Record) (ids : HashMap ModulePlace ℕ S) → AreIdsOf rs ids → is_built r.origin ≡ false → now ≡ rs ++ r ∷ [] → AreIdsOf now ids
ids_unnamed rs now r ids k b e p =
    k p ∙ sym (ap (λ (ls : List Record). id_at ls p) e ∙ added_id rs r p ∙ ap (λ t. or_else (id_at rs p) (one_where t (suc (length rs)))) (unnamed r p b) ∙ or_none (id_at rs p))

-- ---- one less

pub popped : (found : Option Record) (last : Record) (old new : List Record) → MatchOption found ((old ≡ []) × (new ≡ [])) (λ r. old ≡ new ++ r ∷ []) → found ≡ Some last → old ≡ new ++ last ∷ []
popped found last old new h e = subst (λ o. MatchOption o ((old ≡ []) × (new ≡ [])) (λ r. old ≡ new ++ r ∷ [])) e h

one_less : (old new : List Record) (last : Record) → old ≡ new ++ last ∷ [] → length old ≡ suc (length new)
one_less old new last e = let more : length old ≡ length new + 1 = ap length e ∙ length_push new last in omega (arith, more)

-- what stands first at a place was built
last_built : (old new : List Record) (last : Record) (place : ModulePlace) → id_at old place ≡ Some (length old) → old ≡ new ++ last ∷ [] → is_built last.origin ≡ true
last_built old new last place here e = by (is_named place.parent place.name place.index last) refl (id_at new place) refl
  where
    behind : or_else (id_at new place) (one_where (is_named place.parent place.name place.index last) (suc (length new))) ≡ Some (length old)
    behind = sym (added_id new last place) ∙ (ap (λ (ls : List Record). id_at ls place) (sym e) ∙ here)

    by : (b : Bool) → is_named place.parent place.name place.index last ≡ b → (o : Option ℕ) → id_at new place ≡ o → is_built last.origin ≡ true
    by true h o f = (both (is_built last.origin) ((last.parent == place.parent) && (bytes_eq last.name place.name && same_index last.index place.index)) h).0
    by false h None f = absurd (no_id (sym (ap (λ o. or_else o (one_where (is_named place.parent place.name place.index last) (suc (length new)))) f ∙ ap (λ t. one_where t (suc (length new))) h) ∙ behind))
      where
        no_id : None ≡ Some (length old) → ⊥
        no_id s = cc
    by false h (Some i) f =
        let within : i < 1 + length new = named_within 1 place.parent place.name place.index new i f in
        let same : Some i ≡ Some (length old) = sym (ap (λ o. or_else o (one_where (is_named place.parent place.name place.index last) (suc (length new)))) f) ∙ behind in
        let is : i ≡ length old = cc in
        let n : length old ≡ suc (length new) = one_less old new last e in
        absurd (omega (arith, within, is, n))

-- the last one was the first at its place, which is free then
pub ids_without : {S T : Type 0} (old new : List Record) (last : Record) (place : ModulePlace) (ids : HashMap ModulePlace ℕ S) (after : HashMap ModulePlace ℕ T) → AreIdsOf old ids → place ≡ place_of last → old ≡ new ++ last ∷ []
    → get equal ids place ≡ Some (length old) → ((q : ModulePlace) → get equal after q ≡ cond (equal place q) None (get equal ids q)) → AreIdsOf new after
ids_without old new last place ids after k same e first u p =
    u p ∙ ap (λ (q : ModulePlace). cond (equal q p) None (get equal ids p)) same
    ∙ ap (λ b. cond b None (get equal ids p)) (equal_alike last p built)
    ∙ ap (cond (is_named p.parent p.name p.index last) None) (k p ∙ ap (λ (ls : List Record). id_at ls p) e ∙ added_id new last p)
    ∙ by (is_named p.parent p.name p.index last) refl (id_at new p) refl
  where
    built : is_built last.origin ≡ true
    built = last_built old new last place (sym (k place) ∙ first) e

    found : is_named p.parent p.name p.index last ≡ true → or_else (id_at new p) (Some (suc (length new))) ≡ Some (length old)
    found h = sym (k p ∙ ap (λ (ls : List Record). id_at ls p) e ∙ added_id new last p ∙ ap (λ b. or_else (id_at new p) (one_where b (suc (length new)))) h) ∙ ap (get equal ids) (sym (named_is p last h)) ∙ ap (get equal ids) (sym same) ∙ first

    not_before : (i : ℕ) → id_at new p ≡ Some i → Some i ≡ Some (length old) → ⊥
    not_before i f s =
        let within : i < 1 + length new = named_within 1 p.parent p.name p.index new i f in
        let is : i ≡ length old = cc in
        let n : length old ≡ suc (length new) = one_less old new last e in
        omega (arith, within, is, n)

    by : (b : Bool) → is_named p.parent p.name p.index last ≡ b → (o : Option ℕ) → id_at new p ≡ o → cond b None (or_else o (one_where b (suc (length new)))) ≡ o
    by true h None f = refl
    by true h (Some i) f = absurd (not_before i f (sym (ap (λ o. or_else o (Some (suc (length new)))) f) ∙ found h))
    by false h o f = or_none o

-- it was not: another one was there before
pub ids_kept : {S : Type 0} (old new : List Record) (last : Record) (place : ModulePlace) (ids : HashMap ModulePlace ℕ S) → AreIdsOf old ids → place ≡ place_of last → old ≡ new ++ last ∷ []
    → (get equal ids place ≡ Some (length old) → ⊥) → AreIdsOf new ids
ids_kept old new last place ids k same e other p =
    k p ∙ ap (λ (ls : List Record). id_at ls p) e ∙ added_id new last p ∙ by (is_named p.parent p.name p.index last) refl (id_at new p) refl
  where
    is_first : is_named p.parent p.name p.index last ≡ true → id_at new p ≡ None → get equal ids place ≡ Some (length old)
    is_first h f = ap (get equal ids) (same ∙ named_is p last h) ∙ k p ∙ ap (λ (ls : List Record). id_at ls p) e ∙ added_id new last p
        ∙ ap (λ o. or_else o (one_where (is_named p.parent p.name p.index last) (suc (length new)))) f ∙ ap (λ b. one_where b (suc (length new))) h ∙ ap Some (sym (one_less old new last e))

    by : (b : Bool) → is_named p.parent p.name p.index last ≡ b → (o : Option ℕ) → id_at new p ≡ o → or_else o (one_where b (suc (length new))) ≡ o
    by b h (Some i) f = refl
    by true h None f = absurd (other (is_first h f))
    by false h None f = refl
