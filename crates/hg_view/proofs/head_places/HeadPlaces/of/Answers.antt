use Rattle.std.proofs.Common.{◌∙◌, ap, length}
use Rattle.hg_phases.specs.State.{changesets}
use Rattle.hg_view.specs.HeadPlaces.{IsPlace, IsPublicAt}
use Rattle.hg_view.proofs.ChangeLemmas.{heads-all}
use Rattle.hg_view.proofs.head_places.HeadPlaces.of.Goals as goal

pub returns : goal.returns
returns c =
    let t = c.args.replica.now.history in
    let cs = changesets t in
    let long = c.in_ok-grow.ensures.long in
    let count = c.len.ensures.len ∙ ap length c.graph.ensures.graph in
    record {
      len = long.len ∙ count;
      all = heads-all cs (IsPlace t) c.grow.new.self.all c.update_heads.new.heads (long.all ∙ count)
          c.update_heads.ensures;
      public = heads-all cs (IsPublicAt t) c.grow.new.self.public c.update_heads-2.new.heads (long.public ∙ count)
          c.update_heads-2.ensures;
    }
