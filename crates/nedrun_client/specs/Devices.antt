-- The files of a run, by their devices.
use Rattle.std.specs.Prelude.{ℕ, List}
use Rattle.std.specs.String.{string_bytes}
use Rattle.nedrun_files.specs.declared.devices.FileOut.{FileOut}
use Rattle.desk_client.specs.declared.clients.Page.{Page}
use Rattle.desk_client.specs.declared.clients.Page.TheVariants as page
use Rattle.desk_client.specs.declared.clients.Pages.{Pages}

-- the path of one of both files
abbrev pub path_of : {A B C : Type 0} → Page → Pages (FileOut A B C) → List ℕ
path_of page.Scalars pages = string_bytes pages.scalars.path
path_of page.Vectors pages = string_bytes pages.vectors.path
