use Rattle.std.proofs.Common.{◌≡◌, ◌↔◌, ◌⊎◌, Contains, ap, subst}
use Rattle.hg_instab.specs.Instabilities.{InstabilitySets}
use Rattle.hg_instab.proofs.instabilities.Instabilities.make_extinct.Goals as goal

pub returns-in-Ok-clause-gained : goal.returns-in-Ok-clause-gained
returns-in-Ok-clause-gained c = record {
  obsolete = λ n. subst (λ (before : InstabilitySets). Contains c.put.new.set.keys n
      ↔ (Contains before.obsolete n ⊎ (n ≡ c.args.node))) c.self.view_is (c.in_ok-came.ensures.ok.then n);
  extinct = λ n. subst (λ (before : InstabilitySets). Contains c.put-2.new.set.keys n
      ↔ (Contains before.extinct n ⊎ (n ≡ c.args.node))) c.self.view_is (c.in-Ok.ensures.ok.then n);
  orphan = ap (λ (before : InstabilitySets). before.orphan) c.self.view_is;
  suspended = ap (λ (before : InstabilitySets). before.suspended) c.self.view_is;
  phase_divergent = ap (λ (before : InstabilitySets). before.phase_divergent) c.self.view_is;
  content_divergent = ap (λ (before : InstabilitySets). before.content_divergent) c.self.view_is;
  after_public = ap (λ (before : InstabilitySets). before.after_public) c.self.view_is;
  near_forks = ap (λ (before : InstabilitySets). before.near_forks) c.self.view_is;
}
