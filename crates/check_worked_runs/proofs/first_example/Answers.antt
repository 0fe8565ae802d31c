use Rattle.std.proofs.Common.{◌≡◌, true, List, [], ◌∷◌, codes, pos, refl, sym, ap, inl}
use Rattle.std.proofs.lemmas.Bool.{leb-true}
use lib.Utf8.{encode}
use Rattle.std.specs.Str.{chars, is_utf8}
use Rattle.sim_values.specs.declared.value.Value.TheVariants as values
use Rattle.ned_tokens.specs.Lines.{tokens_of}
use Rattle.ned_tokens.proofs.Whole.{all_took}
use Rattle.ned_trees.specs.declared.expressions.Expression.{the_lemmas}
use Rattle.ned_trees.specs.declared.expressions.Expression.TheVariants as expression_is
use Rattle.ned_expressions.proofs.ExpressionLaws.{expression-lawful}
use Rattle.ned_trees.specs.declared.declarations.NedFile.{NedFile}
use Rattle.ned_syntax.proofs.GrammarLaws.{file-lawful}
use Rattle.ned_syntax.specs.NedText.{IsNedFile}
use Rattle.ned_expressions.specs.ExpressionText.{IsExpressionText}
use Rattle.ini_config.specs.Meaning.{IsIniText}
use Rattle.model_reading.specs.Models.{IsModelOf}
use Rattle.model_reading.proofs.Accepting.{one_model}
use Rattle.check_worked_runs.specs.Models.{given, ini_of, network, three_ticks, tick}
use Rattle.check_worked_runs.specs.Texts.{ned_text, ini_text}
use Rattle.sim_values.specs.Units.{time_unit}
use Rattle.ned_tokens.specs.Balanced.{balanced_read}
use Rattle.ned_tokens.specs.Lexing.{word_at, token_at, token_of, scan, scanned, line_tokens}
use Rattle.ned_tokens.specs.Lines.{lines_of, tokens_of_lines, numbers_of_lines, last_line, blamed_line, through_line}
use Rattle.ned_tokens.specs.Marks.{arrow_of, pair_of, bracket_of, operator_of, mark_of, mark_at}
use Rattle.ned_tokens.specs.Numbers.{number_of, number_at}
use Rattle.ned_tokens.specs.Quantities.{pieces_from, row_from, quantity_at}
use Rattle.ned_tokens.specs.Rule.{many_read}
use Rattle.ned_tokens.specs.Units.{rate_unit, length_unit, unit_of}
use Rattle.ned_tokens.specs.Words.{head_word, section_word, member_word, value_word, keyword_of}
use Rattle.ned_leaves.specs.Grammar.{word, mark, name, plain_literal}
use Rattle.ned_expressions.specs.Grammar as value_grammar
use Rattle.ned_expressions.specs.Grammar.{operator, operand, deep, element_index, literal, expression}
use Rattle.ned_tokens.specs.Growth.{grow_read}
use Rattle.ned_parameters.specs.Grammar.{in_parens, default_value, value_rule, property_name, bracketed, index, body, property, valued, tail, parameter_word, volatile, any_declaration, declaration, assignment, heading, dotted, closed_expression, bracketed_expression, optional_brackets, ignored_property, assigned_or_ignored, any_body_line, body_line, body_section, optional_semi}
use Rattle.ned_sections.specs.Grammar.{group, mode_word, question, mode_rule, next_mode, modes, loose_token, piece, pieces, loose_text, no_value, source_value, record_value, source_tail, record_tail, source_word, record_word, source_part, record_part, other_part, record_or_other, any_part, part, next_part, statistic_body, optional_body, indexed_statistic, unnamed_statistic, named_or_not, statistic_tail, statistic_word, statistic, plain_name, plain_line, property_text, property_line, assigned_or_said, any_line, section_line, section, direction, open_size, size_tail, vector_size, gate_size, declared_gate, refined_gate, any_gate, gate_line, gate_section, gates}
use Rattle.ned_connections.specs.Grammar.{condition, allowance, connection_section, connections, item}
use Rattle.ned_syntax.specs.Grammar.{base_name, optional_base, next_dotted, dotted_list, names_behind, optional_names, head, gated_block, simple, braced_body, no_body, any_body, submodule_body, submodule, submodules, inner_types, compound_block, compound, module_type, section_block, channel, interface_kind, interface, channel_or_interface, any_type, type_within, package_line, import_token, import_text, import_line, file_property, import_or_property, silent, silent_entry, entry, file, body_parts, angle_value, optional_value, angles, interface_name, parametric, submodule_type, optional_condition, submodule_rest, inside, compound_kind, no_type, lone}
use Rattle.ini_pattern.specs.PatternOf.{pattern_of}
use Rattle.ini_entries.specs.Constants.{is_constant}
use Rattle.ini_entries.specs.Keys.{is_closed_from, last_part_from, has_hyphen_from}
use Rattle.ini_entries.specs.Meaning.{is_key_byte}
use Rattle.ini_entries.specs.Names.{begins_name, goes_on_name, is_config_byte}
use Rattle.ini_entries.specs.Options.{is_other_option, mode_item}
use Rattle.ini_entries.specs.Texts.{before_blanks, is_among, parts_at}
use Rattle.ini_config.specs.Meaning.{ends_with}
use Rattle.ini_config.specs.Texts.{lines_of_ini, literal_rest, uncommented, before_hash, holds_variable}
use Rattle.model_answers.specs.Answering.{answers_of}
use Rattle.model_data.specs.Models.{time_limit_of}
use Rattle.ned_scopes.specs.Scopes.{types_of}
use Rattle.ned_scopes.proofs.ExampleLaws.{two_levels}
use Rattle.ned_trees.specs.declared.declarations.TypeDeclaration.{TypeDeclaration}
use Rattle.ned_inheritance.specs.Building.{fault_of}
use Rattle.ned_inheritance.specs.Inheritance.{flat_types}
use Rattle.model_questions.specs.Records.{place_of}
use Rattle.check_worked_runs.proofs.Runs.{three_ticks_run}
use Rattle.check_worked_runs.proofs.first_example.Goals as goal

abbrev declared : NedFile
declared = record { types = lone tick ∷ lone (network (codes "t" ∷ [])) ∷ [] }

ned : IsNedFile ned_text declared
unfolding time_unit balanced_read word_at token_at token_of scan scanned line_tokens lines_of tokens_of_lines numbers_of_lines last_line blamed_line through_line arrow_of pair_of bracket_of operator_of mark_of mark_at number_of number_at pieces_from row_from quantity_at many_read rate_unit length_unit unit_of head_word section_word member_word value_word keyword_of word mark name plain_literal in_parens default_value value_rule property_name bracketed index body property mode_word question mode_rule next_mode modes group loose_token piece pieces loose_text no_value source_value record_value source_tail record_tail source_word record_word source_part record_part other_part record_or_other any_part part next_part statistic_body optional_body indexed_statistic unnamed_statistic named_or_not statistic_tail statistic_word statistic plain_name plain_line property_text property_line valued tail parameter_word volatile any_declaration declaration assignment assigned_or_said any_line section_line heading section dotted direction open_size closed_expression size_tail vector_size gate_size bracketed_expression optional_brackets declared_gate refined_gate any_gate gate_line gate_section gates base_name optional_base next_dotted dotted_list names_behind optional_names head gated_block simple ignored_property assigned_or_ignored any_body_line body_line body_section optional_semi braced_body no_body any_body submodule_body submodule submodules inner_types compound_block compound module_type section_block channel interface_kind interface channel_or_interface any_type type_within package_line import_token import_text import_line file_property import_or_property silent silent_entry entry file pattern_of is_closed_from last_part_from has_hyphen_from is_key_byte begins_name goes_on_name is_config_byte is_other_option mode_item before_blanks is_among parts_at ends_with lines_of_ini literal_rest uncommented before_hash holds_variable answers_of time_limit_of place_of chars is_utf8 encode grow_read operator operand deep element_index literal expression body_parts angle_value optional_value angles interface_name parametric submodule_type optional_condition condition submodule_rest inside compound_kind allowance connection_section connections item no_type
ned = record { small = leb-true _ _ refl; spells = all_took file file-lawful (tokens_of ned_text) declared refl }

constant : is_constant (expression_is.Literal (values.Whole (pos 3))) ≡ true
constant = search the_lemmas

three : IsExpressionText (codes "3") (expression_is.Literal (values.Whole (pos 3)))
unfolding time_unit balanced_read word_at token_at token_of scan scanned line_tokens lines_of tokens_of_lines numbers_of_lines last_line blamed_line through_line arrow_of pair_of bracket_of operator_of mark_of mark_at number_of number_at pieces_from row_from quantity_at many_read rate_unit length_unit unit_of head_word section_word member_word value_word keyword_of word mark name plain_literal in_parens default_value value_rule property_name bracketed index body property mode_word question mode_rule next_mode modes group loose_token piece pieces loose_text no_value source_value record_value source_tail record_tail source_word record_word source_part record_part other_part record_or_other any_part part next_part statistic_body optional_body indexed_statistic unnamed_statistic named_or_not statistic_tail statistic_word statistic plain_name plain_line property_text property_line valued tail parameter_word volatile any_declaration declaration assignment assigned_or_said any_line section_line heading section simple ignored_property assigned_or_ignored any_body_line body_line body_section optional_semi braced_body no_body any_body submodule_body submodule submodules inner_types compound any_type type_within package_line import_token import_text import_line file_property import_or_property silent silent_entry entry file pattern_of is_closed_from last_part_from has_hyphen_from is_key_byte begins_name goes_on_name is_config_byte is_other_option mode_item before_blanks is_among parts_at ends_with lines_of_ini literal_rest uncommented before_hash holds_variable answers_of time_limit_of place_of chars is_utf8 encode grow_read operator operand deep element_index literal expression body_parts angle_value optional_value angles interface_name parametric submodule_type optional_condition condition submodule_rest inside compound_kind allowance connection_section connections item no_type
three = record { small = leb-true _ _ refl; spells = all_took value_grammar.expression expression-lawful (tokens_of (codes "3")) _ refl }

ini : IsIniText ini_text (ini_of (given (codes "count") (codes "3") (values.Whole (pos 3)) ∷ []))
unfolding time_unit balanced_read word_at token_at token_of scan scanned line_tokens lines_of tokens_of_lines numbers_of_lines last_line blamed_line through_line arrow_of pair_of bracket_of operator_of mark_of mark_at number_of number_at pieces_from row_from quantity_at many_read rate_unit length_unit unit_of head_word section_word member_word value_word keyword_of word mark name plain_literal in_parens default_value value_rule property_name bracketed index body property mode_word question mode_rule next_mode modes group loose_token piece pieces loose_text no_value source_value record_value source_tail record_tail source_word record_word source_part record_part other_part record_or_other any_part part next_part statistic_body optional_body indexed_statistic unnamed_statistic named_or_not statistic_tail statistic_word statistic plain_name plain_line property_text property_line valued tail parameter_word volatile any_declaration declaration assignment assigned_or_said any_line section_line heading section simple ignored_property assigned_or_ignored any_body_line body_line body_section optional_semi braced_body no_body any_body submodule_body submodule submodules inner_types compound any_type type_within package_line import_token import_text import_line file_property import_or_property silent silent_entry entry file pattern_of is_closed_from last_part_from has_hyphen_from is_key_byte begins_name goes_on_name is_config_byte is_other_option mode_item before_blanks is_among parts_at ends_with lines_of_ini literal_rest uncommented before_hash holds_variable answers_of time_limit_of place_of chars is_utf8 encode body_parts angle_value optional_value angles interface_name parametric submodule_type optional_condition condition submodule_rest inside compound_kind allowance connection_section connections item no_type
ini = record {
  small = leb-true _ _ refl;
  lines = (
    record { text = refl; means = (refl, inl refl); stands = refl },
    (
      record {
        text = refl;
        means = record {
          begins = refl;
          parted = record { at = 8; first = refl; before = refl; behind = refl; proper_key = refl; proper_value = refl };
          says = (refl, refl, refl);
        };
        stands = refl;
      },
      (
        record {
          text = refl;
          means = record {
            begins = refl;
            parted = record { at = 9; first = refl; before = refl; behind = refl; proper_key = refl; proper_value = refl };
            says = (refl, (refl, ((λ e. absurd cc), three, constant)));
          };
          stands = refl;
        },
        tt,
      ),
    ),
  );
}

-- none of its types stands within another, so all are as they are declared
types_are : types_of (declared ∷ []) ≡ tick ∷ network (codes "t" ∷ []) ∷ []
unfolding types_of
types_are = two_levels ((tick, []) ∷ (network (codes "t" ∷ []), []) ∷ [])

model : IsModelOf (ned_text ∷ []) ini_text (codes "General") three_ticks
unfolding time_unit balanced_read word_at token_at token_of scan scanned line_tokens lines_of tokens_of_lines numbers_of_lines last_line blamed_line through_line arrow_of pair_of bracket_of operator_of mark_of mark_at number_of number_at pieces_from row_from quantity_at many_read rate_unit length_unit unit_of head_word section_word member_word value_word keyword_of word mark name plain_literal in_parens default_value value_rule property_name bracketed index body property mode_word question mode_rule next_mode modes group loose_token piece pieces loose_text no_value source_value record_value source_tail record_tail source_word record_word source_part record_part other_part record_or_other any_part part next_part statistic_body optional_body indexed_statistic unnamed_statistic named_or_not statistic_tail statistic_word statistic plain_name plain_line property_text property_line valued tail parameter_word volatile any_declaration declaration assignment assigned_or_said any_line section_line heading section simple ignored_property assigned_or_ignored any_body_line body_line body_section optional_semi braced_body no_body any_body submodule_body submodule submodules inner_types compound any_type type_within package_line import_token import_text import_line file_property import_or_property silent silent_entry entry file pattern_of is_closed_from last_part_from has_hyphen_from is_key_byte begins_name goes_on_name is_config_byte is_other_option mode_item before_blanks is_among parts_at ends_with lines_of_ini literal_rest uncommented before_hash holds_variable answers_of time_limit_of place_of chars is_utf8 encode body_parts angle_value optional_value angles interface_name parametric submodule_type optional_condition condition submodule_rest inside compound_kind allowance connection_section connections item no_type
model = record {
  read = record {
    read = record {
      small = refl;
      files = declared ∷ [];
      declared = (ned, tt);
      lines = ini_of (given (codes "count") (codes "3") (values.Whole (pos 3)) ∷ []);
      said = ini;
      together = ap (λ (ts : List TypeDeclaration). fault_of ts) types_are;
    };
    files = refl;
    types = sym (ap (λ (ts : List TypeDeclaration). flat_types ts) types_are);
    lines = refl;
    selected = refl;
    exists = refl;
    chained = inl (refl, refl);
    outside = refl;
    unused = refl;
  };
  network = cc;
}

pub returns : goal.returns
returns c = record {
  makes = model;
  only = λ other is. one_model (ned_text ∷ []) ini_text (codes "General") other three_ticks is.read model.read;
  runs = three_ticks_run;
}
