use Rattle.std.proofs.Common.{◌≡◌, ◌+◌, suc, arith, sym, ap, subst, ◌∙◌, take, ◌++◌, ◌∷◌, []}
use Rattle.std.proofs.Math.Seq.{take-suc}
use Rattle.input_texts.proofs.Texts.{one_more}
use Rattle.input_texts.proofs.folder.read_texts.Goals as goal

pub loop-number-preserved : goal.loop-number-preserved
loop-number-preserved g c =
    let paths = c.args.paths.now in
    let n = c.loop-number.number in
    let next : n + 1 ≡ suc n = omega arith in
    let taken : take (n + 1) paths ≡ take n paths ++ c.index-paths-number.result ∷ [] =
    ap (λ k. take k paths) next ∙ take-suc paths n c.index-paths-number.result c.loop-number-test.true ∙ ap (λ t. take n paths ++ t ∷ []) (sym c.index-paths-number.is) in
    let gave = subst (λ path. g.F.Folder.gave c.args.folder.now path c.in-Ok.text.items) c.as_str.ensures.value c.in-Ok.ensures in
    rw (taken, c.in_ok-push-in-Ok.ensures.ok, c.as_slice.ensures.value)
    (one_more (g.F.Folder.gave c.args.folder.now) (take n paths) c.index-paths-number.result c.loop-number.texts c.in-Ok.text.items c.loop-number.invariant gave)
