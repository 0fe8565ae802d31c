use Rattle.std.proofs.Common.{◌++◌, ◌∷◌, [], ap, ◌∙◌, append_assoc, List, Some}
use Rattle.ned_trees.specs.declared.declarations.ParameterWord.TheVariants as word
use Rattle.ned_trees.specs.declared.declarations.SectionLine.{SectionLine}
use Rattle.sim_values.specs.declared.value.Dimension.TheVariants.{Rate}
use Rattle.sim_values.specs.declared.value.Value.TheVariants as values
use Rattle.std.specs.Prelude.{pos}
use Rattle.ned_types.specs.Channels.{built_in_line, error_lines}
use Rattle.ned_channels.proofs.built_in.add_rate.Goals as goal

pub returns : goal.returns
returns c =
    let line = λ (name : List _). built_in_line name word.Double (Some Rate) (values.Quantity Rate (pos 0)) in
    c.in_ok-add_errors.ensures
    ∙ ap (λ (ls : List SectionLine). ls ++ error_lines) c.in_ok-add_line.ensures
    ∙ append_assoc c.args.lines.now (line c.as_slice-name.result.now ∷ []) error_lines
    ∙ ap (λ (name : List _). c.args.lines.now ++ line name ∷ error_lines) c.as_slice-name.ensures
