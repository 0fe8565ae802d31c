use Rattle.kernel.proofs.kernel.Kernel.load.Goals as goal

pub returns-clause-kept : goal.returns-clause-kept
returns-clause-kept g c = c.load_one.ensures.kept g.C.Catalogue.behaviour c.requires.kinds
