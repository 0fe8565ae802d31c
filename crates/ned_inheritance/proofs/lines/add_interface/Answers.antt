use Rattle.std.proofs.Common.{[], ap, ◌∙◌, map}
use Rattle.ned_inheritance.specs.Inheritance.{joined_behind}
use Rattle.ned_inheritance.specs.Named.{kept_behind, line_at}
use Rattle.ned_inheritance.proofs.LineLaws.{line_added}
use Rattle.ned_inheritance.proofs.lines.add_interface.Goals as goal

pub returns : goal.returns
returns c =
    line_added c.args.lines.now.entries c.insert.new.self.entries c.as_bytes.result c.add_kept.new.line c.args.declared.now c.as_bytes.ensures c.in_ok-insert.ensures.entries
    (c.in_ok-add_kept.ensures
    ∙ ap (λ ts. kept_behind ts c.args.declared.now) (c.in_ok-add_lines_of.ensures
    ∙ ap (λ ts. joined_behind ts (map (line_at c.args.lines.now.entries) c.as_slice.result.now)) c.new-line.ensures
    ∙ ap (λ ns. joined_behind [] (map (line_at c.args.lines.now.entries) ns)) c.as_slice.ensures))
