use Rattle.std.proofs.Common.{◌≡◌, true, List, sym, ap, subst, ◌∙◌}
use Rattle.ini_trees.specs.declared.lines.IniLine.{IniLine}
use Rattle.ini_trees.specs.Sections.{is_section}
use Rattle.ini_trees.specs.Numbered.{SettlesChain}
use Rattle.ini_trees.proofs.NumberedLaws.{complete_by, refused_by}
use Rattle.ini_trees.proofs.lines.IniText.chain.Goals as goal

pub returns-clause-complete : goal.returns-clause-complete
returns-clause-complete c =
    let settled = subst (λ (l : List IniLine). SettlesChain l c.args.config.now c.chain_of.result) c.lines-2.ensures c.chain_of.ensures in
    λ chain v is. complete_by c.args.self.now c.args.config.now c.chain_of.result settled chain v

pub returns-clause-refused : goal.returns-clause-refused
returns-clause-refused c =
    let settled = subst (λ (l : List IniLine). SettlesChain l c.args.config.now c.chain_of.result) c.lines-2.ensures c.chain_of.ensures in
    let there : is_section c.args.config.now c.args.self.now ≡ true = ap (is_section c.args.config.now) (sym c.lines.ensures) ∙ sym c.is_section.ensures ∙ c.if-not-is_section.false in
    refused_by c.args.self.now c.args.config.now c.chain_of.result there settled
