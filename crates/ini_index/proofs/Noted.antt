-- Entries that are noted, one more and one more.
use Rattle.std.proofs.Common.{◌≡◌, ℕ, zero, suc, ◌+◌, ◌<◌, cond, List, [], ◌∷◌, length, drop, slice_get, slice_set, Option, Some, None, refl, sym, ap, ◌∙◌, arith, add-one, inl, inr, if◌then◌else◌}
use Rattle.std.specs.HashMap.{HashMap, UpdatesBy, get_by_text}
use Rattle.std.specs.Str.{bytes_eq}
use Rattle.std.specs.String.{string_bytes, string_eq}
use Rattle.std.specs.declared.string.String.{String}
use Rattle.std.proofs.lemmas.Bool.{cases_eq}
use Rattle.std.proofs.lemmas.List.{drop_all}
use Rattle.std.proofs.lemmas.Map.Text.{hash_map_updates_text}
use Rattle.std.proofs.lemmas.Option.{slice_get_within}
use Rattle.ini_trees.specs.declared.lines.IniEntry.{IniEntry}
use Rattle.ini_trees.specs.Words.{Bytes}
use Rattle.ini_index.specs.Indexed.{first_from, AreNotedFrom}
use Rattle.ini_index.specs.Keys.{has_key, key_of}
use Rattle.ini_index.proofs.Firsts.{drop_at_item}

-- ---- a list with one item changed

set_here : (xs : List (Option ℕ)) (i : ℕ) (v : Option ℕ) → i < length xs → slice_get (slice_set xs i v) i ≡ Some v
set_here [] i v h = absurd (omega (arith, h))
set_here (x ∷ xs) zero v h = refl
set_here (x ∷ xs) (suc i) v h = set_here xs i v (omega (arith, h))

set_apart : (xs : List (Option ℕ)) (i k : ℕ) (v : Option ℕ) → i < k → slice_get (slice_set xs i v) k ≡ slice_get xs k
set_apart [] i k v h = refl
set_apart (x ∷ xs) zero zero v h = absurd (omega (arith, h))
set_apart (x ∷ xs) zero (suc k) v h = refl
set_apart (x ∷ xs) (suc i) zero v h = absurd (omega (arith, h))
set_apart (x ∷ xs) (suc i) (suc k) v h = set_apart xs i k v (omega (arith, h))

set_long : (xs : List (Option ℕ)) (i : ℕ) (v : Option ℕ) → length (slice_set xs i v) ≡ length xs
set_long [] i v = refl
set_long (x ∷ xs) zero v = refl
set_long (x ∷ xs) (suc i) v = ap suc (set_long xs i v)

-- ---- none, and one more

pub none_noted : {S A : Type 0} (n : ℕ) (es : List IniEntry) (heads : HashMap (String A) ℕ S) (nexts : List (Option ℕ)) → n ≡ length es → heads.entries ≡ [] → length nexts ≡ n → AreNotedFrom n es heads nexts
none_noted n es heads nexts all empty size = record {
  size = size ∙ all;
  first = λ key. nothing key ∙ sym (ap (first_from (has_key key) n) (drop_all n es (omega (arith, all))));
  next = λ k e low there. absurd (omega (arith, all, low, slice_get_within es k e there));
}
  where
    nothing : (key : Bytes) → get_by_text heads key ≡ None
    nothing key = rw empty refl

pub one_noted : {S A : Type 0} (n : ℕ) (es : List IniEntry) (e : IniEntry) (before heads : HashMap (String A) ℕ S) (nexts : List (Option ℕ)) (key : String A) (next : Option ℕ) → slice_get es n ≡ Some e → string_bytes key ≡ key_of e.meaning → AreNotedFrom (n + 1) es before nexts
    → next ≡ get_by_text before (string_bytes key) → UpdatesBy string_eq (λ k. bytes_eq (string_bytes key) (string_bytes k)) before heads (Some n) → AreNotedFrom n es heads (slice_set nexts n next)
one_noted n es e before heads nexts key next there own noted was updates = record {
  size = set_long nexts n next ∙ noted.size;
  first = λ q.
      hash_map_updates_text (string_bytes key) before heads (Some n) updates q
      ∙ ap (λ (o : Option ℕ). cond (bytes_eq (string_bytes key) q) (Some n) o) (after q)
      ∙ ap (λ (b : Bytes). if bytes_eq b q then Some n else first_from (has_key q) (suc n) (drop (suc n) es)) own
      ∙ sym (ap (first_from (has_key q) n) (drop_at_item es n e there));
  next = λ k d low is. elim (cases_eq k n) [
    | inl same ↦
        let it : d ≡ e = same_entry d e (sym is ∙ ap (slice_get es) same ∙ there) in
        ap (slice_get (slice_set nexts n next)) same
        ∙ set_here nexts n next (omega (arith, noted.size, slice_get_within es n e there))
        ∙ ap Some (was ∙ after (string_bytes key) ∙ ap (λ (q : Bytes). first_from (has_key q) (suc n) (drop (suc n) es)) own)
        ∙ ap (λ (x : IniEntry). Some (first_from (has_key (key_of x.meaning)) (suc n) (drop (suc n) es))) (sym it)
        ∙ ap (λ (j : ℕ). Some (first_from (has_key (key_of d.meaning)) (suc j) (drop (suc j) es))) (sym same)
    | inr other ↦ set_apart nexts n k next (omega (arith, low, other)) ∙ noted.next k d (omega (arith, low, other)) is
  ];
}
  where
    same_entry : (a b : IniEntry) → Some a ≡ Some b → a ≡ b
    same_entry a b h = cc

    after : (q : Bytes) → get_by_text before q ≡ first_from (has_key q) (suc n) (drop (suc n) es)
    after q = noted.first q ∙ ap (λ (j : ℕ). first_from (has_key q) j (drop j es)) (add-one n)
