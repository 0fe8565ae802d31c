use Rattle.std.proofs.Common.{◌≡◌, ◌++◌, ◌∷◌, ◌+◌, ◌<◌, [], ℕ, List, length, sym, ap, ◌∙◌, subst, get_or, Option, None, arith}
use Rattle.std.proofs.lemmas.List.{length_push, get_or_default}
use Rattle.std.specs.Option.{option_copied}
use Rattle.ini_trees.specs.Numbers.{name_at, others, AreNumbers}
use Rattle.ini_trees.specs.Said.{said_at}
use Rattle.ini_trees.specs.Sections.{bases_named, bases_of, entries_under, or_bases}
use Rattle.ini_trees.specs.Words.{Bytes}
use Rattle.ini_trees.proofs.RowLaws.{rows_more}
use Rattle.ini_trees.proofs.SaidLaws.{first_said}
use Rattle.ini_trees.proofs.bases.base_rows.Goals as goal

pub loop-bases-preserved : goal.loop-bases-preserved
loop-bases-preserved c =
    let names = c.args.names.now in
    let lines = c.args.lines.now in
    let said = c.in_ok-said.said.items in
    let i = c.loop-bases.bases-index in
    let row = c.in_ok-row_of.field-0 in
    let pushed : c.push.new.self ≡ c.loop-bases.rows ++ row ∷ [] = c.in_ok-push.ensures.ok in
    let all : c.as_slice-bases-items.result.now ≡ said = c.as_slice-bases-items.ensures.value in
    let size : length c.as_slice-bases-items.result.now ≡ length names = ap length all ∙ c.in_ok-said.ensures.0 in
    let within : i < length names = omega (arith, c.loop-bases-test.true, size) in
    let item : option_copied c.bases-item.result ≡ said_at said i =
    ap option_copied (c.bases-item.is ∙ get_or_default c.as_slice-bases-items.result.now i c.bases-item.result None c.loop-bases-test.true ∙ ap (λ (l : List _). get_or l i None) all) in
    let bases : or_bases (option_copied c.bases-item.result) [] ≡ bases_of (name_at names i) lines =
    ap (λ (o : Option (List Bytes)). or_bases o []) (item ∙ c.in_ok-said.ensures.1 i within) ∙ first_said (entries_under (name_at names i) lines) in
    let fits : AreNumbers names (bases_named (name_at names i) lines) row = subst (λ (bs : List Bytes). AreNumbers names (others bs) row) bases c.in_ok-row_of.ensures in
    let more = rows_more lines names c.loop-bases.rows row i c.loop-bases.invariant.size c.loop-bases.invariant.fit fits in
    record {
      size = ap length pushed ∙ length_push c.loop-bases.rows row ∙ ap (λ (n : ℕ). n + 1) c.loop-bases.invariant.size;
      fit = λ k h. subst (λ (rs : List (Option (List ℕ))). AreNumbers names (bases_named (name_at names k) lines) (get_or rs k None)) (sym pushed) (more k h);
    }
