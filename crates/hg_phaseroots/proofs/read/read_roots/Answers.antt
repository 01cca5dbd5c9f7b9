use Rattle.hg_phaseroots.proofs.SpellingLemmas as spelling
use Rattle.hg_phaseroots.proofs.read.read_roots.Goals as goal

pub returns-clause-only : goal.returns-clause-only
returns-clause-only c = spelling.only c.args.text.now c.read_checked.result c.read_checked.ensures

pub returns-clause-found : goal.returns-clause-found
returns-clause-found c = spelling.found c.args.text.now c.read_checked.result c.read_checked.ensures

pub returns-clause-fault : goal.returns-clause-fault
returns-clause-fault c = spelling.fault c.args.text.now c.read_checked.result c.read_checked.ensures

pub returns-clause-refused : goal.returns-clause-refused
returns-clause-refused c = spelling.refused c.args.text.now c.read_checked.result c.read_checked.ensures
