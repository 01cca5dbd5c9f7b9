use Rattle.std.proofs.Common.{◌↔◌, Contains}
use Rattle.hg_changeset.specs.declared.node.Node.{Node}
use Rattle.hg_replica.specs.Content.{content_of}
use Rattle.hg_replica.specs.Evolution.{IsSuspended}
use Rattle.hg_instab.proofs.KeptLemmas.{near-same}
use Rattle.hg_instab.proofs.NearLemmas.{near-divergent}
use Rattle.hg_instab.proofs.SetLemmas.{along}
use Rattle.hg_instab.proofs.instabilities.Instabilities.from_scratch.Goals as goal

pub orphan_nodes-requires : goal.orphan_nodes-requires
orphan_nodes-requires c = rw c.deref.ensures.value c.in_ok-obsolete.ensures

pub suspended_nodes-requires : goal.suspended_nodes-requires
suspended_nodes-requires c = rw c.deref-2.ensures.value c.in_ok-orphan.ensures

pub returns : goal.returns
returns c =
    let f = content_of c.args.replica.now in
    let suspended : (n : Node) → Contains c.in_ok-suspended.suspended.keys n
    ↔ IsSuspended f n = λ n. along (c.in_ok-suspended.ensures n) (c.in_ok-suspended_nodes.ensures n) in
    let outside : (n : Node) → Contains c.in_ok-extinct.extinct.items n
    ↔ (Contains c.in_ok-obsolete.obsolete.items n × ¬ (Contains c.in_ok-suspended.suspended.keys n)) =
    rw c.deref-3.ensures.value at c.in_ok-extinct.ensures in
    let after = c.in_ok-after_public.ensures in
    let current = rw c.deref-4.ensures.value at c.in_ok-phase_divergent.ensures in
    let near = c.in_ok-near_forks.ensures in
    let within = rw c.deref-5.ensures.value at c.in_ok-content_divergent.ensures in
    record {
      obsolete = λ n. along (c.in_ok-set_of.ensures n) (c.in_ok-obsolete.ensures n);
      orphan = λ n. along (c.in_ok-set_of-2.ensures n) (c.in_ok-orphan.ensures n);
      suspended = suspended;
      extinct = λ n. along (c.in_ok-set_of-3.ensures n) (
        λ h. let x = (outside n).0 h in ((c.in_ok-obsolete.ensures n).0 x.0, λ is. x.1 ((suspended n).1 is)),
        λ h. (outside n).1 ((c.in_ok-obsolete.ensures n).1 h.0, λ at. h.1 ((suspended n).0 at)),
      );
      phase_divergent = λ n. along (c.in_ok-set_of-4.ensures n) (
        λ h. let x = (current n).0 h in (x.1, (after n).0 x.0),
        λ h. (current n).1 ((after n).1 h.1, h.0),
      );
      content_divergent = λ n. along (c.in_ok-set_of-5.ensures n)
          (along (within near.closed n) (near-divergent f c.in_ok-near_forks.near_forks.items near n));
      after_public = λ n. along (c.in_ok-set_of-6.ensures n) (after n);
      near_forks = near-same f (Contains c.in_ok-near_forks.near_forks.items) (Contains c.in_ok-set_of-7.field-0.keys)
          c.in_ok-set_of-7.ensures near;
    }
