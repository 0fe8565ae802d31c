-- The devices of the files of a run.
use Rattle.std.specs.Prelude.{◌≡◌, ℕ, length}
use Rattle.result_lines.specs.Taken.{Taken, untouched}
use Rattle.desk_client.specs.declared.clients.Page.{Page}
use Rattle.desk_client.specs.declared.clients.Page.TheVariants as page

-- THE DEVICE of that file failed, once, and took so many bytes before. The scalar file is written
-- first: where its device fails the other one took nothing, and it did not fail where the other one
-- does.
abbrev pub HasFailed : Page → ℕ → Taken → Taken → Type 0
HasFailed page.Scalars written scalars vectors =
    (length scalars.bytes ≡ written) × (scalars.failures ≡ 1) × (vectors ≡ untouched)
HasFailed page.Vectors written scalars vectors =
    (length vectors.bytes ≡ written) × (vectors.failures ≡ 1) × (scalars.failures ≡ 0)
