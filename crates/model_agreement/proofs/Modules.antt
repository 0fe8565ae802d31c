-- Models whose values rest on the same give the same answers about modules.
use Rattle.std.proofs.Common.{◌≡◌, ◌∙◌, ℕ, true, List, [], Option, None, ap, refl, sym}
use Rattle.inside_keys.specs.Settings.{ModuleRules}
use Rattle.model_answers.specs.Answering.{answers_of}
use Rattle.model_answers.specs.Insides.{gates_answer, hop_answer, inside_answer}
use Rattle.model_answers.specs.Keyed.{class_answer, lines_of, names_in, param_answer, root_answer, type_in}
use Rattle.model_answers.specs.Lines.{creations_in, site_of}
use Rattle.model_data.specs.declared.model.Model.{Model}
use Rattle.model_data.specs.Models.{network_of, time_limit_of}
use Rattle.model_injections.specs.declared.injection.Injection.{Injection}
use Rattle.model_inside.specs.declared.hops.Way.TheVariants.{Onwards, Back}
use Rattle.model_questions.specs.declared.answer.Question.{Question}
use Rattle.model_questions.specs.declared.answer.Question.TheVariants.{Root, TypeOf, Build, Param, GateSize, Hop, HopBack, BeyondLimit, InjectionBefore}
use Rattle.model_questions.specs.declared.record.Record.{Record}
use Rattle.model_questions.specs.Answers.{Answers, answer_of}
use Rattle.model_questions.specs.Questions.{is_of_modules}
use Rattle.model_questions.specs.Records.{Lineage}
use Rattle.model_settings.specs.Created.{creation_at, planned_by, stands_by}
use Rattle.model_settings.specs.Standings.{setting_of}
use Rattle.model_settings.specs.declared.created.Creation.{Creation}
use Rattle.ned_trees.specs.declared.declarations.TypeDeclaration.{TypeDeclaration}
use Rattle.model_agreement.specs.Models.{RestOnSame}

-- all that values rest on, where these modules were created
abbrev rules_over : ModuleRules → List Creation → ModuleRules
rules_over s cs = record {
  stands = λ site. stands_by (creation_at cs site) (s.stands site);
  root = s.root;
  planned = λ site. planned_by (creation_at cs site);
  is_too_deep = s.is_too_deep;
  entry = s.entry;
  types = s.types;
}

abbrev rules_along : ModuleRules → Lineage → ModuleRules
rules_along s p = rules_over s (creations_in p)

-- the answers by what they rest on
abbrev answers_by : ModuleRules → Option TypeDeclaration → Option ℕ → List Injection → Answers
answers_by s network limit is = record {
  root = root_answer s network;
  class_there = λ p. class_answer (rules_along s p) (site_of p) ((rules_along s p).planned (site_of p));
  inside = λ p. inside_answer (rules_along s p) (site_of p) (type_in (rules_along s p) p);
  names = λ p. names_in (lines_of (type_in (rules_along s p) p));
  value = λ p. param_answer (rules_along s p) (site_of p) (type_in (rules_along s p) p);
  gates = λ p. gates_answer (rules_along s p) (site_of p) (type_in (rules_along s p) p);
  hop = λ p. hop_answer (rules_along s p) Onwards (site_of p) (type_in (rules_along s p) p);
  hop_back = λ p. hop_answer (rules_along s p) Back (site_of p) (type_in (rules_along s p) p);
  time_limit = limit;
  injections = is;
}

by_what : (m : Model) → answers_of m ≡ answers_by (setting_of m) (network_of m) (time_limit_of m) m.injections
unfolding answers_of
by_what m = refl

-- WHAT IS ANSWERED OF MODULES is the same, whatever the time limit is and the messages from outside
pub same_modules : (m n : Model) (limit : Option ℕ) (is : List Injection) → RestOnSame m n → record (answers_of m) { time_limit = limit; injections = is } ≡ record (answers_of n) { time_limit = limit; injections = is }
same_modules m n limit is h =
    ap (λ (a : Answers). record a { time_limit = limit; injections = is }) (by_what m)
    ∙ ap (λ (s : ModuleRules). answers_by s (network_of m) limit is) h.setting
    ∙ ap (λ (t : Option TypeDeclaration). answers_by (setting_of n) t limit is) h.network
    ∙ sym (ap (λ (a : Answers). record a { time_limit = limit; injections = is }) (by_what n))

-- an answer about modules rests on neither of both
of_modules : (a : Answers) (limit : Option ℕ) (is : List Injection) (rs : List Record) (q : Question) → is_of_modules q ≡ true → answer_of a rs q ≡ answer_of (record a { time_limit = limit; injections = is }) rs q
of_modules a limit is rs Root e = refl
of_modules a limit is rs (TypeOf id) e = refl
of_modules a limit is rs (Build id) e = refl
of_modules a limit is rs (Param id name) e = refl
of_modules a limit is rs (GateSize id name) e = refl
of_modules a limit is rs (Hop id name index) e = refl
of_modules a limit is rs (HopBack id name index) e = refl
of_modules a limit is rs (BeyondLimit time) e = cc
of_modules a limit is rs (InjectionBefore due last) e = cc

pub same_answers : (m n : Model) → RestOnSame m n → (rs : List Record) (q : Question) → is_of_modules q ≡ true → answer_of (answers_of m) rs q ≡ answer_of (answers_of n) rs q
same_answers m n h rs q e =
    of_modules (answers_of m) None [] rs q e
    ∙ ap (λ (a : Answers). answer_of a rs q) (same_modules m n None [] h)
    ∙ sym (of_modules (answers_of n) None [] rs q e)
