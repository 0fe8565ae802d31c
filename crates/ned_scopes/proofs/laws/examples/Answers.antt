use Rattle.std.proofs.Common.{◌++◌, List, map, ap}
use Rattle.ned_trees.specs.declared.declarations.Submodule.{Submodule}
use Rattle.ned_trees.specs.declared.declarations.TypeDeclaration.{TypeDeclaration}
use Rattle.ned_types.specs.Types.{type_name}
use Rattle.ned_scopes.specs.Scopes.{types_of}
use Rattle.ned_scopes.specs.Example.{first_file, second_file, line_file, head_of}
use Rattle.ned_scopes.proofs.ExampleLaws.{two_levels}
use Rattle.ned_scopes.proofs.laws.examples.Goals as goal

pub returns : goal.returns
unfolding types_of
returns c =
    let all = two_levels (first_file ++ second_file) in
    record {
      heads = ap (λ (ts : List TypeDeclaration). map head_of ts) all;
      interfaces = ap (λ (ts : List TypeDeclaration). map (λ (t : TypeDeclaration). t.interfaces) ts) all;
      parts = ap (λ (ts : List TypeDeclaration). map (λ (t : TypeDeclaration). map (λ (s : Submodule). type_name s) t.submodules) ts) all;
      classes = ap (λ (ts : List TypeDeclaration). map (λ (t : TypeDeclaration). t.lines) ts) all;
      lines = two_levels line_file;
    }
