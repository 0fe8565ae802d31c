-- What calls show of a module stays the same when more modules are created, and tables of it stay
-- right.
use Rattle.std.proofs.Common.{◌≡◌, ℕ, zero, suc, ◌==◌, nat_lt, cond, Bool, true, false, List, [], ◌∷◌, ◌++◌, Option, Some, None, Result, Ok, Err, OnOk, OnErr, refl, sym, ap, ◌∙◌, subst, append_assoc, append-nil, slice_get, eqb-true}
use Rattle.model_questions.specs.declared.record.Record.{Record}
use Rattle.model_questions.specs.Answers.{Answers, with_values}
use Rattle.model_questions.specs.Records.{Lineage, lineage_up, path_along, place_of, record_at, with_those_around}
use Rattle.module_tree.proofs.Each.{each_so}
use Rattle.kernel_call_views.specs.declared.CallView.{CallView}
use Rattle.kernel_call_views.specs.declared.CallViews.{CallViews}
use Rattle.kernel_call_views.specs.Tables.{shown_of, whole_by, is_whole, IsShown, AreShown}

-- ---- modules that were created with all that are around them

-- what stands in the first of two lists
get_more : (around : ℕ → Bool) (xs ys : List Record) (k : ℕ) → whole_by around (slice_get xs k) ≡ true → slice_get (xs ++ ys) k ≡ slice_get xs k
get_more around [] ys k h = cc
get_more around (x ∷ xs) ys zero h = refl
get_more around (x ∷ xs) ys (suc k) h = get_more around xs ys k h

-- its record stays
record_more : (around : ℕ → Bool) (rs more : List Record) (id : ℕ) → whole_by around (record_at rs id) ≡ true → record_at (rs ++ more) id ≡ record_at rs id
record_more around rs more zero h = refl
record_more around rs more (suc k) h = get_more around rs more k h

-- ---- lines of records

-- none are around the id zero
lineage_none : (rs more : List Record) (depth : ℕ) → lineage_up depth (rs ++ more) 0 ≡ lineage_up depth rs 0
lineage_none rs more zero = refl
lineage_none rs more (suc depth) = refl

-- a record, and those around it
by_lineage : (rs more : List Record) (depth : ℕ) (o : Option Record) → whole_by (is_whole depth rs) o ≡ true → ((id : ℕ) → is_whole depth rs id ≡ true → lineage_up depth (rs ++ more) id ≡ lineage_up depth rs id)
    → with_those_around (lineage_up depth (rs ++ more)) o ≡ with_those_around (lineage_up depth rs) o
by_lineage rs more depth None h f = refl
by_lineage rs more depth (Some r) h f = ap (λ line. r ∷ line) (by (r.parent == 0) refl h)
  where
    by : (t : Bool) → (r.parent == 0) ≡ t → cond t true (is_whole depth rs r.parent) ≡ true → lineage_up depth (rs ++ more) r.parent ≡ lineage_up depth rs r.parent
    by true e h = subst (λ id. lineage_up depth (rs ++ more) id ≡ lineage_up depth rs id) (sym (eqb-true r.parent 0 e)) (lineage_none rs more depth)
    by false e h = f r.parent h

-- those of a module that is whole stay
lineage_more : (rs more : List Record) (depth id : ℕ) → is_whole depth rs id ≡ true → lineage_up depth (rs ++ more) id ≡ lineage_up depth rs id
lineage_more rs more zero id h = refl
lineage_more rs more (suc depth) id h =
    ap (with_those_around (lineage_up depth (rs ++ more))) (record_more (is_whole depth rs) rs more id h)
    ∙ by_lineage rs more depth (record_at rs id) h (lineage_more rs more depth)

-- ---- what calls show

-- what calls show of the module that stands there
abbrev shown_at : Answers → Lineage → CallView
shown_at m p = record { path = path_along p; parameters = with_values (m.value p) (m.names p); gates = m.gates p }

-- it stays
pub whole_lasts : (m : Answers) (rs : List Record) (id : ℕ) → is_whole 32 rs id ≡ true → IsShown m rs id (shown_of m rs id)
unfolding place_of
whole_lasts m rs id h more = ap (shown_at m) (sym (lineage_more rs more 32 id h))

-- ---- tables

-- more modules are created
shown_more : (m : Answers) (rs more : List Record) (id : ℕ) (shown : CallView) → IsShown m rs id shown → IsShown m (rs ++ more) id shown
shown_more m rs more id shown h others = h (more ++ others) ∙ ap (λ all. shown_of m all id) (sym (append_assoc rs more others))

pub shown_on : (m : Answers) (rs more : List Record) (t : CallViews) → AreShown m rs t → AreShown m (rs ++ more) t
shown_on m rs more t h = each_so (IsShown m rs) (IsShown m (rs ++ more)) t.entries.seats (shown_more m rs more) h

-- now
pub now_shown : (m : Answers) (rs : List Record) (id : ℕ) (shown : CallView) → IsShown m rs id shown → shown ≡ shown_of m rs id
now_shown m rs id shown h = h [] ∙ ap (λ all. shown_of m all id) (append-nil rs)
