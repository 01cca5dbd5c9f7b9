use Rattle.std.proofs.Common.{◌≡◌, ◌-◌, ◌∙◌, length, ap, subst, arith}
use Rattle.hg_phases.specs.State.{changesets}
use Rattle.hg_replica.specs.Change.{ChangeValue, history_change}
use Rattle.hg_view.specs.Flags.{AreUpdated, IsTouched}
use Rattle.hg_view.specs.HeadPlaces.{IsPublicAt}
use Rattle.hg_view.proofs.ChangeLemmas.{all-heads, public-heads}
use Rattle.hg_view.proofs.head_places.HeadPlaces.follow.Goals as goal

pub returns : goal.returns
returns c s before changed heads grown =
    let t = c.args.replica.now.history in
    let cs = changesets t in
    let change = c.args.change.now in
    let first = c.saturating_sub-first.result in
    let graph = c.graph.ensures.valid.graph in
    let added = ap (λ (x : ChangeValue). length x.added) c.change.view_is in
    let counted : first ≡ length cs - length change.added =
    omega (
      arith,
      c.saturating_sub-first.ensures,
      c.len.ensures.len,
      ap length c.graph.ensures.graph,
      c.len-2.ensures,
      added,
    ) in
    let lowered : c.deref.result.now ≡ change.lowered =
    c.deref.ensures.value ∙ ap (λ (x : ChangeValue). x.lowered) c.change.view_is in
    record {
      len = c.requires.len;
      all = all-heads s.history t changed.valid graph changed.above.history (history_change change)
          changed.told.history first counted before.all c.args.self.now.all c.update_heads.new.heads
          grown.all c.requires.all heads.all c.update_heads.ensures;
      public = public-heads s.history t changed.valid graph changed.above.history (history_change change)
          changed.told.history first counted before.public c.args.self.now.public c.update_heads-2.new.heads
          grown.public c.requires.public heads.public
          (subst (λ ns. AreUpdated cs (IsTouched cs first ns) (IsPublicAt t) c.args.self.now.public
          c.update_heads-2.new.heads) lowered c.update_heads-2.ensures);
    }
