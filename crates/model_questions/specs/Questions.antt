-- Questions that are the same.
use Rattle.std.specs.Prelude.{◌==◌, Bool, true, false, ◌&&◌, bytes_eq}
use Rattle.model_questions.specs.declared.answer.Question.{Question}
use Rattle.model_questions.specs.declared.answer.Question.TheVariants.{Root, TypeOf, Build, Param}
use Rattle.model_questions.specs.declared.answer.Question.TheVariants.{GateSize, Hop, HopBack}
use Rattle.model_questions.specs.declared.answer.Question.TheVariants.{BeyondLimit, InjectionBefore}

-- Whether both ask the same of the model's modules. What is asked of a time is asked of one event,
-- and never the same.
abbrev pub same_question : Question → Question → Bool
same_question Root Root = true
same_question Root _ = false
same_question (TypeOf id) (TypeOf other) = id == other
same_question (TypeOf id) _ = false
same_question (Build id) (Build other) = id == other
same_question (Build id) _ = false
same_question (Param id name) (Param other named) = (id == other) && bytes_eq name named
same_question (Param id name) _ = false
same_question (GateSize id name) (GateSize other named) = (id == other) && bytes_eq name named
same_question (GateSize id name) _ = false
same_question (Hop id name index) (Hop other named place) =
    (id == other) && (bytes_eq name named && (index == place))
same_question (Hop id name index) _ = false
same_question (HopBack id name index) (HopBack other named place) =
    (id == other) && (bytes_eq name named && (index == place))
same_question (HopBack id name index) _ = false
same_question (BeyondLimit time) _ = false
same_question (InjectionBefore due last) _ = false

-- whether it is asked of the model's modules; any other is asked of a time
abbrev pub is_of_modules : Question → Bool
is_of_modules Root = true
is_of_modules (TypeOf id) = true
is_of_modules (Build id) = true
is_of_modules (Param id name) = true
is_of_modules (GateSize id name) = true
is_of_modules (Hop id name index) = true
is_of_modules (HopBack id name index) = true
is_of_modules (BeyondLimit time) = false
is_of_modules (InjectionBefore due last) = false
