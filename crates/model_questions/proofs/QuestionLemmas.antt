-- Questions that are the same are one.
use Rattle.std.proofs.Common.{◌≡◌, ◌==◌, Bool, true, false, ◌&&◌, refl, ap, ◌∙◌, eqb-true, bytes_eq}
use Rattle.std.proofs.lemmas.Slice.Eq.{bytes_eq-Decides}
use Rattle.model_questions.specs.declared.answer.Question.{Question}
use Rattle.model_questions.specs.declared.answer.Question.TheVariants.{Root, TypeOf, Build, Param, GateSize, Hop, HopBack}
use Rattle.model_questions.specs.Questions.{same_question}

pub both : (a b : Bool) → (a && b) ≡ true → (a ≡ true) × (b ≡ true)
both true b e = (refl, e)
both false b e = cc

pub same_is : (q r : Question) → same_question q r ≡ true → q ≡ r
same_is Root Root e = refl
same_is (TypeOf id) (TypeOf other) e = ap TypeOf (eqb-true id other e)
same_is (Build id) (Build other) e = ap Build (eqb-true id other e)
same_is (Param id name) (Param other named) e =
    let h = both (id == other) (bytes_eq name named) e in
    ap (λ i. Param i name) (eqb-true id other h.0) ∙ ap (Param other) ((bytes_eq-Decides name named).0 h.1)
same_is (GateSize id name) (GateSize other named) e =
    let h = both (id == other) (bytes_eq name named) e in
    ap (λ i. GateSize i name) (eqb-true id other h.0) ∙ ap (GateSize other) ((bytes_eq-Decides name named).0 h.1)
same_is (Hop id name index) (Hop other named place) e =
    let h = both (id == other) (bytes_eq name named && (index == place)) e in
    let k = both (bytes_eq name named) (index == place) h.1 in
    ap (λ i. Hop i name index) (eqb-true id other h.0) ∙ (ap (λ n. Hop other n index) ((bytes_eq-Decides name named).0 k.0) ∙ ap (Hop other named) (eqb-true index place k.1))
same_is (HopBack id name index) (HopBack other named place) e =
    let h = both (id == other) (bytes_eq name named && (index == place)) e in
    let k = both (bytes_eq name named) (index == place) h.1 in
    ap (λ i. HopBack i name index) (eqb-true id other h.0) ∙ (ap (λ n. HopBack other n index) ((bytes_eq-Decides name named).0 k.0) ∙ ap (HopBack other named) (eqb-true index place k.1))
same_is _ _ e = cc
