use Rattle.std.proofs.Common.{List, ℕ, ap, sym, ◌∙◌}
use Rattle.std.proofs.lemmas.Result.{err_from_is_err_and}
use Rattle.model_edits.specs.Steps.{has_network, parts}
use Rattle.model_edits.proofs.Ruling.{chain_refused, no_network_with}
use Rattle.model_edits.proofs.edit.chain_with.Goals as goal

pub returns-in_err-chain-clause-refused : goal.returns-in_err-chain-clause-refused
returns-in_err-chain-clause-refused c =
    let p = err_from_is_err_and c.from_residual.result c.from_residual.ensures.1 in
    rw (p.1, p.2) (λ files. chain_refused c.args.model.now (parts files c.args.types.now c.args.lines.now) c.args.config.now c.in_err-chain.field-0.0 c.in_err-chain.ensures.refused)

pub returns-else-has_network-clause-refused : goal.returns-else-has_network-clause-refused
returns-else-has_network-clause-refused c =
    λ files. no_network_with c.args.model.now (parts files c.args.types.now c.args.lines.now) c.args.config.now c.in_ok-chain.chain c.in_ok-chain.ensures.accepted.0 c.in_ok-chain.ensures.accepted.1
    (ap (λ (k : List (List ℕ)). has_network c.args.types.now c.args.lines.now k) (sym c.as_slice.ensures) ∙ sym c.has_network.ensures ∙ c.if-has_network.false)
