use Rattle.std.proofs.Common.{◌≡◌, ◌↔◌, length, IsTrue, subst, ap, ◌∙◌}
use Rattle.std.specs.Bool.{◌==◌}
use Rattle.hg_discovery.specs.Search.{Search}
use Rattle.hg_discovery.specs.Rounds.{undecided}
use Rattle.hg_discovery.proofs.CountLemmas.{done_count}
use Rattle.hg_discovery.proofs.discovery.Discovery.done.Goals as goal

pub returns : goal.returns
returns c =
    let asked = c.self.inside.asked in
    let empty : c.is_empty.result ≡ (length asked.items == 0) = c.is_empty.ensures ∙ ap (λ n. n == 0) asked.ok.0 in
    subst (λ (s : Search). IsTrue c.is_empty.result ↔ (undecided s.decided ≡ 0)) c.self.view_is
    (done_count _ c.self.invariant.0 c.is_empty.result empty)
