use Rattle.std.proofs.Common.{append_assoc}
use Rattle.hg_changeset.specs.Changeset.{node_of, lesser, greater}
use Rattle.hg_changeset.proofs.changeset.id_of.Goals as goal

pub returns-clause-id : goal.returns-clause-id
unfolding node_of
returns-clause-id c =
    let digest = c.finalize.ensures _ (c.update-2.ensures _ (c.update.ensures _ c.new-hasher.ensures)) in
    rw (
      digest,
      c.parent_bytes.ensures,
      append_assoc (lesser c.args.p c.args.q).0 (greater c.args.p c.args.q).0 c.args.text.now,
    )
