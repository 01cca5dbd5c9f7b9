use Rattle.hg_rewrite.specs.Refusals.{refusals}
use Rattle.hg_rewrite.proofs.TableLemmas.{first_is_one, none_refused, no_memory, table_tells}
use Rattle.hg_rewrite.proofs.laws.first_refusal_is_one.Goals as goal

pub returns-clause-one : goal.returns-clause-one
returns-clause-one c s pins op r other h k = first_is_one (refusals s pins op) r other (table_tells s op pins) h k

pub returns-clause-none : goal.returns-clause-none
returns-clause-none c s pins op r none h = none_refused (refusals s pins op) r none h

pub returns-clause-memory : goal.returns-clause-memory
returns-clause-memory c s pins op h = no_memory (refusals s pins op) (table_tells s op pins) h
