use Rattle.std.proofs.Common.{◌≡◌, ◌∙◌, sym, true, false}
use Rattle.model_data.specs.Models.{entries_in}
use Rattle.recorders.proofs.Reading.{vector_added, vector_left_out}
use Rattle.recorders.specs.Places.{is_any_of}
use Rattle.recorders.specs.Selection.{records_vector}
use Rattle.recorders.proofs.vectors.push_vector.Goals as goal

pub returns-in_ok-push : goal.returns-in_ok-push
returns-in_ok-push c =
    let recorded : records_vector (entries_in c.args.member.now.model.now) c.as_bytes.result.now c.args.statistic.now ≡ true =
    sym c.in_ok-records_vector.ensures ∙ c.if-not-branch.false in
    let heard : is_any_of c.in_ok-vector.vector c.args.member.now.emissions.now c.args.member.now.heard.now ≡ true = sym c.is_any_of.ensures ∙ c.if-is_any_of.true in
    c.in_ok-push.ensures.ok
    ∙ vector_added c.args.member.now.model.now c.args.member.now.records.now c.args.member.now.emissions.now c.args.member.now.id c.args.statistic.now c.in_ok-vector.vector c.as_bytes.result.now c.args.member.now.heard.now c.args.found.now
    c.in_ok-vector.ensures c.as_bytes.ensures c.requires recorded heard

pub returns-else-is_any_of : goal.returns-else-is_any_of
returns-else-is_any_of c =
    let recorded : records_vector (entries_in c.args.member.now.model.now) c.as_bytes.result.now c.args.statistic.now ≡ true =
    sym c.in_ok-records_vector.ensures ∙ c.if-not-branch.false in
    let heard : is_any_of c.in_ok-vector.vector c.args.member.now.emissions.now c.args.member.now.heard.now ≡ false = sym c.is_any_of.ensures ∙ c.if-is_any_of.false in
    vector_left_out c.args.member.now.model.now c.args.member.now.records.now c.args.member.now.emissions.now c.args.member.now.id c.args.statistic.now c.in_ok-vector.vector c.as_bytes.result.now c.args.member.now.heard.now c.args.found.now
    c.in_ok-vector.ensures c.as_bytes.ensures c.requires recorded heard
