use Rattle.hg_history.proofs.AddLemmas.{added_last}
use Rattle.hg_history.proofs.absorb.add_one.Goals as goal

pub admit_added-requires-clause-added : goal.admit_added-requires-clause-added
admit_added-requires-clause-added c =
    added_last c.args.graph.now c.args.changeset.now c.add_copy-answer.result c.add_copy-answer.new.self
    c.node-node.result c.node-node.ensures.id c.add_copy-answer.ensures.answer

pub returns : goal.returns
returns c = c.admit_added.ensures c.args.graph.now c.args.changeset.now
    (record {
      changeset = c.node-node.ensures.changeset;
      told = c.add_copy-answer.ensures.answer;
      memory =
          c.add_copy-answer.ensures.memory;
    })
