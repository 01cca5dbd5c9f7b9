use Rattle.std.proofs.Common.{◌≡◌, sym, ◌∙◌}
use Rattle.hg_changeset.specs.declared.node.Node.{Node}
use Rattle.hg_instab.proofs.WalkLemmas.{adds-one, adds-same}
use Rattle.hg_why.specs.Before.{LeadsBackTo}
use Rattle.hg_why.proofs.before.step_back.Goals as goal

pub returns-in_ok-insert : goal.returns-in_ok-insert
returns-in_ok-insert c =
    let earlier = c.predecessor.result in
    let told = c.predecessor.ensures.predecessor in
    adds-same (λ (p : Node). earlier ≡ p) (LeadsBackTo c.args.steps c.args.marker.now) c.args.found.now.keys
    c.insert.new.self.keys
    (λ p. (λ h. told ∙ h.1, λ e. (c.is_over.ensures.0 c.if-is_over.true, sym told ∙ e)))
    (adds-one c.args.found.now.keys c.insert.new.self.keys earlier c.in_ok-insert.ensures.keys)
