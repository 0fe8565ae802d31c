-- The lines of the first of some scalars, vectors or values, and those of the others.
use Rattle.std.proofs.Common.{◌≡◌, ℕ, zero, suc, ◌+◌, ◌-◌, ◌≤◌, ◌<◌, Bool, true, false, ◌&&◌, List, [], ◌++◌, length, drop, get_or, refl, sym, ap, ◌∙◌, arith, if◌then◌else◌}
use Rattle.std.proofs.lemmas.List.{drop_more, drop_all, get_or_default}
use Rattle.std.specs.Str.{bytes_eq}
use Rattle.model_questions.specs.declared.record.Record.{Record}
use Rattle.recorders.specs.Hearing.{is_within}
use Rattle.recorders.specs.declared.scalar_line.ScalarLine.{ScalarLine}
use Rattle.recorders.specs.declared.vector_line.VectorLine.{VectorLine}
use Rattle.result_lines.specs.ScalarText.{scalar_line, scalar_lines}
use Rattle.result_lines.specs.VectorText.{vector_line, vector_lines, data_line, heard_line, heard_lines, data_lines}
use Rattle.run_semantics.specs.declared.traces.Emission.{Emission}

pub scalar_lines_more : (ss : List ScalarLine) (i : ℕ) (s : ScalarLine) → i < length ss → s ≡ get_or ss i s →
    scalar_lines (drop i ss) ≡ scalar_line s ++ scalar_lines (drop (i + 1) ss)
scalar_lines_more ss i s lt is =
    ap scalar_lines (drop_more ss i s lt)
    ∙ ap (λ (x : ScalarLine). scalar_line x ++ scalar_lines (drop (i + 1) ss)) (sym is)

pub vector_lines_more : (number : ℕ) (vs : List VectorLine) (v : VectorLine) → number < length vs → v ≡ get_or vs number v →
    vector_lines number (drop number vs) ≡ vector_line number v ++ vector_lines (number + 1) (drop (number + 1) vs)
vector_lines_more number vs v lt is =
    ap (vector_lines number) (drop_more vs number v lt)
    ∙ ap (λ (x : VectorLine). vector_line number x ++ vector_lines (number + 1) (drop (number + 1) vs)) (sym is)

pub heard_lines_more : (records : List Record) (e : Emission) (number : ℕ) (vs : List VectorLine) (v : VectorLine) → number < length vs → v ≡ get_or vs number v →
    heard_lines records e number (drop number vs) ≡ heard_line records e number v ++ heard_lines records e (number + 1) (drop (number + 1) vs)
heard_lines_more records e number vs v lt is =
    ap (heard_lines records e number) (drop_more vs number v lt)
    ∙ ap (λ (x : VectorLine). heard_line records e number x ++ heard_lines records e (number + 1) (drop (number + 1) vs)) (sym is)

pub data_lines_more : (records : List Record) (vs : List VectorLine) (es : List Emission) (i : ℕ) (e : Emission) → i < length es → e ≡ get_or es i e →
    data_lines records vs (drop i es) ≡ heard_lines records e 0 vs ++ data_lines records vs (drop (i + 1) es)
data_lines_more records vs es i e lt is =
    ap (data_lines records vs) (drop_more es i e lt)
    ∙ ap (λ (x : Emission). heard_lines records x 0 vs ++ data_lines records vs (drop (i + 1) es)) (sym is)

unheard : (signal within : Bool) (line : List ℕ) → within ≡ false → (if signal && within then line else []) ≡ []
unheard true true line h = cc
unheard true false line h = refl
unheard false within line h = refl

nobody : VectorLine
nobody = record { id = 0; path = []; statistic = []; source = [] }

-- vectors of modules that aren't around the emitter have no line
pub heard_lines_over : (records : List Record) (e : Emission) (vs : List VectorLine) (n number place : ℕ) → place ≡ number + n → place ≤ length vs
    → ((k : ℕ) (d : VectorLine) → number ≤ k → k < place → is_within records (get_or vs k d).id e.id ≡ false)
    → heard_lines records e number (drop number vs) ≡ heard_lines records e place (drop place vs)
heard_lines_over records e vs zero number place there within apart =
    let same : number ≡ place = omega arith in
    ap (λ (k : ℕ). heard_lines records e k (drop k vs)) same
heard_lines_over records e vs (suc n) number place there within apart =
    let l : number < length vs = omega arith in
    let v = get_or vs number nobody in
    heard_lines_more records e number vs v l (get_or_default vs number nobody v l)
    ∙ ap (λ (line : List ℕ). line ++ heard_lines records e (number + 1) (drop (number + 1) vs))
    (unheard (bytes_eq e.signal v.source) (is_within records v.id e.id) (data_line number e) (apart number nobody (omega arith) (omega arith)))
    ∙ heard_lines_over records e vs n (number + 1) place (omega arith) within (λ k d from below. apart k d (omega arith) below)

-- the same up to a place that has one
pub heard_lines_at : (records : List Record) (e : Emission) (vs : List VectorLine) (number place : ℕ) (v : VectorLine) → number ≤ place → place < length vs → v ≡ get_or vs place v
    → ((k : ℕ) (d : VectorLine) → number ≤ k → k < place → is_within records (get_or vs k d).id e.id ≡ false)
    → heard_lines records e number (drop number vs) ≡ heard_line records e place v ++ heard_lines records e (place + 1) (drop (place + 1) vs)
heard_lines_at records e vs number place v from l is apart =
    heard_lines_over records e vs (place - number) number place (omega arith) (omega arith) apart
    ∙ heard_lines_more records e place vs v l is

-- the same up to their end
pub heard_lines_end : (records : List Record) (e : Emission) (vs : List VectorLine) (number place : ℕ) → number ≤ place → place ≡ length vs
    → ((k : ℕ) (d : VectorLine) → number ≤ k → k < place → is_within records (get_or vs k d).id e.id ≡ false)
    → heard_lines records e number (drop number vs) ≡ []
heard_lines_end records e vs number place from end apart =
    heard_lines_over records e vs (place - number) number place (omega arith) (omega arith) apart
    ∙ ap (heard_lines records e place) (drop_all place vs (omega arith))
