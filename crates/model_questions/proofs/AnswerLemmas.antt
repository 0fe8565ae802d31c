-- What is answered about a module that is there does not change when more modules are created, and
-- a call shows the values that are answered.
use Rattle.std.proofs.Common.{◌≡◌, ℕ, zero, suc, ◌+◌, ◌≤◌, ◌<◌, Bool, true, false, List, [], ◌∷◌, ◌++◌, Option, Some, None, refl, sym, ap, ◌∙◌, arith, slice_get, length, length-append, if◌then◌else◌, bytes_eq}
use Rattle.std.proofs.lemmas.Slice.Eq.{bytes_eq-Decides}
use Rattle.sim_values.specs.declared.value.Value.{Value}
use Rattle.module_api.specs.declared.call.Direction.TheVariants.{Input, Output}
use Rattle.module_api.specs.declared.call.Gate.{Gate}
use Rattle.module_api.specs.declared.call.Parameter.{Parameter}
use Rattle.module_api.specs.Values.{gate_of, value_of}
use Rattle.model_questions.specs.declared.answer.Answer.{Answer}
use Rattle.model_questions.specs.declared.answer.Answer.TheVariants as answer
use Rattle.model_questions.specs.declared.answer.Question.{Question}
use Rattle.model_questions.specs.declared.answer.Question.TheVariants as question
use Rattle.model_questions.specs.declared.record.Record.{Record}
use Rattle.model_questions.specs.Answers.{Answers, answer_of, gates_of, is_declared, parameters_of, value_at, with_value, with_values}
use Rattle.model_questions.specs.Gates.{gate_answer, gate_named, half_of, in_mark, is_half, is_inout, out_mark}
use Rattle.model_questions.proofs.QuestionLemmas.{both}
use Rattle.model_questions.specs.Records.{lineage_up, place_of, record_at, untyped, with_those_around}

-- ---- records

-- the enclosing module of each was created before it; the first of these has the id after that
-- number
abbrev pub AreNested : ℕ → List Record → Type 0
AreNested k [] = Unit {0}
AreNested k (r ∷ rs) = (r.parent ≤ k) × AreNested (suc k) rs

-- an element of the first of two lists
get_front : {X : Type 0} (xs ys : List X) (i : ℕ) → i < length xs → slice_get (xs ++ ys) i ≡ slice_get xs i
get_front [] ys i h = absurd (omega arith)
get_front (x ∷ xs) ys zero h = refl
get_front (x ∷ xs) ys (suc i) h = get_front xs ys i (omega arith)

-- the record of a module that is there stays
record_at_more : (rs more : List Record) (id : ℕ) → id ≤ length rs → record_at (rs ++ more) id ≡ record_at rs id
record_at_more rs more zero h = refl
record_at_more rs more (suc k) h = get_front rs more k (omega arith)

-- the module around one at that place
parent_by : (k : ℕ) (rs : List Record) (i : ℕ) (r : Record) → AreNested k rs → slice_get rs i ≡ Some r → r.parent ≤ k + i
parent_by k [] i r h e = cc
parent_by k (s ∷ rs) zero r h e = let same : s ≡ r = cc in let p : s.parent ≤ k = h.0 in omega (arith, p, ap (λ (x : Record). x.parent) same)
parent_by k (s ∷ rs) (suc i) r h e = let f = parent_by (suc k) rs i r h.1 e in omega (arith, f)

-- the enclosing module is among the records too
pub parent_within : (rs : List Record) (id : ℕ) (r : Record) → AreNested 0 rs → id ≤ length rs → record_at rs id ≡ Some r → r.parent ≤ length rs
parent_within rs zero r h l e = cc
parent_within rs (suc k) r h l e = let f = parent_by 0 rs k r h e in omega (arith, f)

-- the line of a module, by that of the module around it
by_lineage : (f g : ℕ → List Record) (o : Option Record) → ((r : Record) → o ≡ Some r → f r.parent ≡ g r.parent) → with_those_around f o ≡ with_those_around g o
by_lineage f g None h = refl
by_lineage f g (Some r) h = ap (λ rs. r ∷ rs) (h r refl)

-- the line of a module that is there stays
lineage_more : (rs more : List Record) → AreNested 0 rs → (depth id : ℕ) → id ≤ length rs → lineage_up depth (rs ++ more) id ≡ lineage_up depth rs id
lineage_more rs more h zero id l = refl
lineage_more rs more h (suc depth) id l =
    ap (with_those_around (lineage_up depth (rs ++ more))) (record_at_more rs more id l)
    ∙ by_lineage (lineage_up depth (rs ++ more)) (lineage_up depth rs) (record_at rs id) (λ r e. lineage_more rs more h depth r.parent (parent_within rs id r h l e))

-- where it stands stays
place_more : (rs more : List Record) → AreNested 0 rs → (id : ℕ) → id ≤ length rs → place_of (rs ++ more) id ≡ place_of rs id
unfolding place_of
place_more rs more h id l = lineage_more rs more h 32 id l

-- ---- answers

-- the module that a question is about, 0 for none
abbrev pub about : Question → ℕ
about question.Root = 0
about (question.TypeOf id) = id
about (question.Build id) = id
about (question.Param id name) = id
about (question.GateSize id name) = id
about (question.Hop id name index) = id
about (question.HopBack id name index) = id
about (question.BeyondLimit time) = 0
about (question.InjectionBefore due last) = 0

-- more modules change no answer about those that are there
pub answer_more : (a : Answers) (rs more : List Record) → AreNested 0 rs → (q : Question) → about q ≤ length rs → answer_of a (rs ++ more) q ≡ answer_of a rs q
answer_more a rs more h question.Root l = refl
answer_more a rs more h (question.TypeOf id) l = ap (λ p. a.class_there (untyped p)) (place_more rs more h id l)
answer_more a rs more h (question.Build id) l = ap a.inside (place_more rs more h id l)
answer_more a rs more h (question.Param id name) l = ap (λ p. value_at a p name) (place_more rs more h id l)
answer_more a rs more h (question.GateSize id name) l = ap (λ p. gate_named name (a.gates p)) (place_more rs more h id l)
answer_more a rs more h (question.Hop id name index) l = ap (λ p. a.hop p name index) (place_more rs more h id l)
answer_more a rs more h (question.HopBack id name index) l = ap (λ p. a.hop_back p name index) (place_more rs more h id l)
answer_more a rs more h (question.BeyondLimit time) l = refl
answer_more a rs more h (question.InjectionBefore due last) l = refl

-- ---- a module that is created

-- the last record
pub last_at : (rs : List Record) (r : Record) → slice_get (rs ++ r ∷ []) (length rs) ≡ Some r
last_at [] r = refl
last_at (x ∷ xs) r = last_at xs r

-- it stands in the line of the module around it
pub last_line : (n : ℕ) (rs : List Record) (r : Record) → AreNested 0 rs → r.parent ≤ length rs → lineage_up (suc n) (rs ++ r ∷ []) (suc (length rs)) ≡ r ∷ lineage_up n rs r.parent
last_line n rs r h l = ap (with_those_around (lineage_up n (rs ++ r ∷ []))) (last_at rs r) ∙ ap (λ line. r ∷ line) (lineage_more rs (r ∷ []) h n r.parent l)

last_place : (rs : List Record) (r : Record) → AreNested 0 rs → r.parent ≤ length rs → place_of (rs ++ r ∷ []) (suc (length rs)) ≡ r ∷ lineage_up 31 rs r.parent
unfolding place_of
last_place rs r h l = last_line 31 rs r h l

-- its class decides nothing of what is answered about it
pub typed_alike : (a : Answers) (rs : List Record) (r : Record) (class : Option (List ℕ)) → AreNested 0 rs → r.parent ≤ length rs → answer_of a (rs ++ record r { class = class } ∷ []) (question.TypeOf (suc (length rs))) ≡ answer_of a (rs ++ r ∷ []) (question.TypeOf (suc (length rs)))
typed_alike a rs r class h l =
    ap (λ p. a.class_there (untyped p)) (last_place rs (record r { class = class }) h l)
    ∙ sym (ap (λ p. a.class_there (untyped p)) (last_place rs r h l))

-- ---- the parameters that a call shows

-- the value that an answer has, if any
abbrev value_in : Answer → Option Value
value_in (answer.Value v) = Some v
value_in _ = None

-- what an answer gives to a name, where it is declared
abbrev given : Bool → Answer → Answer
given declared a = if declared then a else answer.Absent

-- an answer with no value gives none
given_none : (declared : Bool) (a : Answer) → value_in a ≡ None → value_in (given declared a) ≡ None
given_none false a e = refl
given_none true a e = e

-- a name that stands first, with its answer
shown_first : (name other : List ℕ) (a : Answer) (rest : List Parameter) (declared : Bool) → bytes_eq other name ≡ true → value_of name rest ≡ value_in (given declared a) → value_of name (with_value other a rest) ≡ value_in a
shown_first name other (answer.Value v) rest declared e h = rw e refl
shown_first name other (answer.Root t) rest declared e h = h ∙ given_none declared (answer.Root t) refl
shown_first name other (answer.Class class) rest declared e h = h ∙ given_none declared (answer.Class class) refl
shown_first name other (answer.Inside bs) rest declared e h = h ∙ given_none declared (answer.Inside bs) refl
shown_first name other (answer.Gate g) rest declared e h = h ∙ given_none declared (answer.Gate g) refl
shown_first name other (answer.Next found) rest declared e h = h ∙ given_none declared (answer.Next found) refl
shown_first name other (answer.Fault path f) rest declared e h = h ∙ given_none declared (answer.Fault path f) refl
shown_first name other (answer.Beyond beyond) rest declared e h = h ∙ given_none declared (answer.Beyond beyond) refl
shown_first name other (answer.Injection next) rest declared e h = h ∙ given_none declared (answer.Injection next) refl
shown_first name other answer.Absent rest declared e h = h ∙ given_none declared answer.Absent refl

-- another name stands first
shown_later : (name other : List ℕ) (a : Answer) (rest : List Parameter) → bytes_eq other name ≡ false → value_of name (with_value other a rest) ≡ value_of name rest
shown_later name other (answer.Value v) rest e = rw e refl
shown_later name other (answer.Root t) rest e = refl
shown_later name other (answer.Class class) rest e = refl
shown_later name other (answer.Inside bs) rest e = refl
shown_later name other (answer.Gate g) rest e = refl
shown_later name other (answer.Next found) rest e = refl
shown_later name other (answer.Fault path f) rest e = refl
shown_later name other (answer.Beyond beyond) rest e = refl
shown_later name other (answer.Injection next) rest e = refl
shown_later name other answer.Absent rest e = refl

-- by whether the first name is the one
shown_by : (values : List ℕ → Answer) (name other : List ℕ) (rest : List Parameter) (declared same : Bool) → bytes_eq other name ≡ same → value_of name rest ≡ value_in (given declared (values name)) → value_of name (with_value other (values other) rest) ≡ value_in (given (if same then true else declared) (values name))
shown_by values name other rest declared true e h =
    let same : other ≡ name = (bytes_eq-Decides other name).0 e in
    ap (λ (x : List ℕ). value_of name (with_value other (values x) rest)) same ∙ shown_first name other (values name) rest declared e h
shown_by values name other rest declared false e h = shown_later name other (values other) rest e ∙ h

-- what a list of names shows of one is its value, where it is among them
shown : (values : List ℕ → Answer) (name : List ℕ) (ns : List (List ℕ)) → value_of name (with_values values ns) ≡ value_in (given (is_declared name ns) (values name))
shown values name [] = refl
shown values name (n ∷ ns) = shown_by values name n (with_values values ns) (is_declared name ns) (bytes_eq n name) refl (shown values name ns)

-- a call shows the value of a parameter just where it is answered
pub value_answered : (a : Answers) (records : List Record) (id : ℕ) (name : List ℕ) → value_of name (parameters_of a records id) ≡ value_in (answer_of a records (question.Param id name))
value_answered a records id name = shown (a.value (place_of records id)) name (a.names (place_of records id))

-- models that answer alike show the same value
pub same_value : (m n : Answers) (records : List Record) (id : ℕ) (name : List ℕ) → answer_of m records (question.Param id name) ≡ answer_of n records (question.Param id name) → value_of name (parameters_of m records id) ≡ value_of name (parameters_of n records id)
same_value m n records id name e = value_answered m records id name ∙ (ap value_in e ∙ sym (value_answered n records id name))

told_by : (a : Answer) (v : Value) → value_in a ≡ Some v → a ≡ answer.Value v
told_by (answer.Value u) v e = let same : u ≡ v = cc in ap (λ (x : Value). answer.Value x) same
told_by (answer.Root n) v e = cc
told_by (answer.Class class) v e = cc
told_by (answer.Inside bs) v e = cc
told_by (answer.Gate g) v e = cc
told_by (answer.Next found) v e = cc
told_by (answer.Fault path f) v e = cc
told_by (answer.Beyond beyond) v e = cc
told_by (answer.Injection found) v e = cc
told_by answer.Absent v e = cc

-- a value that a call shows is the answer
pub told_value : (a : Answers) (records : List Record) (id : ℕ) (name : List ℕ) (v : Value) → value_of name (parameters_of a records id) ≡ Some v → answer_of a records (question.Param id name) ≡ answer.Value v
told_value a records id name v h = told_by (answer_of a records (question.Param id name)) v (sym (value_answered a records id name) ∙ h)

-- ---- the gates that a call shows

-- the gate that an answer has, where it is a whole one of that name
abbrev gate_in : List ℕ → Answer → Option Gate
gate_in name (answer.Gate g) = if bytes_eq g.name name then Some g else None
gate_in name _ = None

-- a gate that is found has that name
found_named : (name : List ℕ) (gs : List Gate) (g : Gate) → gate_of name gs ≡ Some g → bytes_eq g.name name ≡ true
found_named name [] g e = cc
found_named name (x ∷ xs) g e = by (bytes_eq x.name name) refl (found_named name xs g) e
  where
    by : (t : Bool) → bytes_eq x.name name ≡ t → (gate_of name xs ≡ Some g → bytes_eq g.name name ≡ true) → (if t then Some x else gate_of name xs) ≡ Some g → bytes_eq g.name name ≡ true
    by true t later f = let same : x ≡ g = cc in ap (λ (y : Gate). bytes_eq y.name name) (sym same) ∙ t
    by false t later f = later f

-- a name and a mark after it are not that name
marked_differs : (name mark : List ℕ) (k : ℕ) → length mark ≡ suc k → bytes_eq name (name ++ mark) ≡ false
marked_differs name mark k h = by (bytes_eq name (name ++ mark)) refl
  where
    by : (t : Bool) → bytes_eq name (name ++ mark) ≡ t → t ≡ false
    by false t = refl
    by true t =
        let same : name ≡ name ++ mark = (bytes_eq-Decides name (name ++ mark)).0 t in
        let longer = length-append name mark in
        absurd (omega (arith, h, longer, ap (λ (xs : List ℕ). length xs) same))

-- nor is the name of a half that of the whole gate
half_differs : (mark name : List ℕ) (k : ℕ) (g : Gate) → length mark ≡ suc k → is_half mark name g ≡ true → bytes_eq g.name name ≡ false
half_differs mark name k g h e =
    let marked : name ≡ g.name ++ mark = (bytes_eq-Decides name (g.name ++ mark)).0 (both (is_inout g.direction) (bytes_eq name (g.name ++ mark)) e).1 in
    ap (bytes_eq g.name) marked ∙ marked_differs g.name mark k h

half_named : (name : List ℕ) (gs : List Gate) (g : Gate) → half_of name gs ≡ Some g → bytes_eq g.name name ≡ false
half_named name [] g e = cc
half_named name (x ∷ xs) g e = by (is_half in_mark name x) (is_half out_mark name x) refl refl (half_named name xs g) e
  where
    by : (s t : Bool) → is_half in_mark name x ≡ s → is_half out_mark name x ≡ t → (half_of name xs ≡ Some g → bytes_eq g.name name ≡ false) → (if s then Some (record x { direction = Input }) else (if t then Some (record x { direction = Output }) else half_of name xs)) ≡ Some g → bytes_eq g.name name ≡ false
    by true t f h later e = let same : x.name ≡ g.name = cc in ap (λ (n : List ℕ). bytes_eq n name) (sym same) ∙ half_differs in_mark name 1 x refl f
    by false true f h later e = let same : x.name ≡ g.name = cc in ap (λ (n : List ℕ). bytes_eq n name) (sym same) ∙ half_differs out_mark name 1 x refl h
    by false false f h later e = later e

gate_by : (name : List ℕ) (whole half : Option Gate) → ((g : Gate) → whole ≡ Some g → bytes_eq g.name name ≡ true) → ((g : Gate) → half ≡ Some g → bytes_eq g.name name ≡ false) → whole ≡ gate_in name (gate_answer whole half)
gate_by name (Some g) half w h = rw (w g refl) refl
gate_by name None (Some g) w h = rw (h g refl) refl
gate_by name None None w h = refl

-- a call shows a gate just as it is answered
pub gate_answered : (a : Answers) (records : List Record) (id : ℕ) (name : List ℕ) → gate_of name (gates_of a records id) ≡ gate_in name (answer_of a records (question.GateSize id name))
gate_answered a records id name =
    let gs : List Gate = gates_of a records id in
    gate_by name (gate_of name gs) (half_of name gs) (found_named name gs) (half_named name gs)

-- models that answer alike show the same gate
pub same_gate : (m n : Answers) (records : List Record) (id : ℕ) (name : List ℕ) → answer_of m records (question.GateSize id name) ≡ answer_of n records (question.GateSize id name) → gate_of name (gates_of m records id) ≡ gate_of name (gates_of n records id)
same_gate m n records id name e = gate_answered m records id name ∙ (ap (gate_in name) e ∙ sym (gate_answered n records id name))
