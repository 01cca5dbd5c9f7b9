use Rattle.std.proofs.Common.{◌∙◌, ap, ◌++◌}
use Rattle.crossbeam_queue.specs.Passes.{view}
use Rattle.hg_inbox.specs.declared.rule.Log.{Log}
use Rattle.hg_inbox.specs.Views.{all_puts, all_takes}
use Rattle.hg_inbox.proofs.RestLemmas.{bytes}
use Rattle.hg_inbox.proofs.OnceLemmas.{rest_of}
use Rattle.hg_inbox.proofs.inbox.Inbox.close.Goals as goal

pub returns-clause-rest : goal.returns-clause-rest
returns-clause-rest g c =
    let first = c.self.invariant.1 in
    let all = c.gather.ensures.all in
    rest_of (view c.gather.new.origin) (view c.take_rest.new.pass) c.args.seats.items (bytes c.take_rest.result.items)
    (ap (λ (h : Log). h.puts) all ∙ ap (λ (h : Log). h.puts ++ all_puts c.args.seats.items) first)
    (ap (λ (h : Log). h.takes) all ∙ ap (λ (h : Log). h.takes ++ all_takes c.args.seats.items) first)
    c.take_rest.ensures.rest.0 c.take_rest.ensures.rest.1
