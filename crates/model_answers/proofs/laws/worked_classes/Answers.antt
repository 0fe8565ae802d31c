use Rattle.std.proofs.Common.{◌≡◌, ℕ, [], List, pos, negsuc, true, codes}
use lib.Utf8.{encode}
use Rattle.std.specs.Str.{chars, is_utf8}
use Rattle.param_following.specs.Following.{value_of}
use Rattle.ini_entries.specs.Names.{begins_name, goes_on_name}
use Rattle.ini_entries.specs.Texts.{parts_at}
use Rattle.ned_tokens.specs.Words.{head_word, keyword_of, member_word, section_word, value_word}
use Rattle.sim_values.specs.declared.value.Value.TheVariants as value
use Rattle.model_questions.specs.declared.record.Origin.{Origin}
use Rattle.model_questions.specs.declared.record.Origin.TheVariants as origin
use Rattle.model_settings.specs.Standings.{setting_of}
use Rattle.module_api.specs.declared.reply.FixedSize.{FixedSize}
use Rattle.module_api.specs.declared.reply.FixedValue.{FixedValue}
use Rattle.model_answers.specs.Answering.{class_there}
use Rattle.model_answers.specs.ClassExamples.{line_with, the_model, three, with_size, with_value}
use Rattle.model_answers.specs.Lines.{rules_at, site_of}
use Rattle.model_answers.proofs.Classes.{class_is, class_with, value_by}
use Rattle.model_answers.proofs.laws.worked_classes.Goals as goal

row : (o : Origin) → class_there the_model (line_with o)
    ≡ class_with (value_by (rules_at the_model (line_with o))) (site_of (line_with o)) (rules_at the_model (line_with o)).types ((rules_at the_model (line_with o)).planned (site_of (line_with o)))
row o = class_is (rules_at the_model (line_with o)) (site_of (line_with o)) ((rules_at the_model (line_with o)).planned (site_of (line_with o)))

abbrev as_type : List ℕ → List FixedValue → List FixedSize → Origin
as_type name values sizes = origin.Created (record { type_name = name; parameters = values; sizes = sizes })

pub returns : goal.returns
unfolding encode is_utf8 chars value_of setting_of parts_at begins_name goes_on_name keyword_of head_word section_word member_word value_word
returns c = record {
  simple = row (as_type (codes "Worker") three (with_size (codes "in") (pos 2)));
  compound = row (as_type (codes "Box") [] []);
  network = row (as_type (codes "N") [] []);
  built = row origin.Built;
  unknown = row (as_type (codes "Nothing") [] []);
  channel = row (as_type (codes "Wire") [] []);
  built_in = row (as_type (codes "DelayChannel") [] []);
  undeclared = row (as_type (codes "Box") three []);
  no_vector = row (as_type (codes "Worker") three (with_size (codes "one") (pos 1)));
  no_gate = row (as_type (codes "Worker") three (with_size (codes "two") (pos 1)));
  missing = row (as_type (codes "Worker") [] []);
  wrong_kind = row (as_type (codes "Worker") (with_value (codes "count") (value.Truth true)) []);
  below = row (as_type (codes "Worker") three (with_size (codes "in") (negsuc 0)));
  type_first = row (as_type (codes "Wire") three []);
  value_first = row (as_type (codes "Worker") (with_value (codes "pace") (value.Whole (pos 1))) (with_size (codes "one") (pos 1)));
  size_first = row (as_type (codes "Worker") [] (with_size (codes "one") (pos 1)));
  parameter_first = row (as_type (codes "Worker") [] (with_size (codes "in") (negsuc 0)));
}
