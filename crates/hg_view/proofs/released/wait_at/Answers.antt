use Rattle.std.proofs.Common.{true≢false, ◌≡◌, Some, ap, subst, sym, ◌∙◌}
use Rattle.std.proofs.lemmas.Option.{same_Some}
use Rattle.std.proofs.lemmas.Result.{on_ok_weaker}
use Rattle.hg_graph.proofs.QueueLemmas.{widens-none, widens-same}
use Rattle.hg_view.specs.Released.{IsLeftAt}
use Rattle.hg_view.proofs.released.wait_at.Goals as goal

pub returns-then-not-is_left_at : goal.returns-then-not-is_left_at
returns-then-not-is_left_at c =
    let left = IsLeftAt c.args.graph.now c.args.upheld.now.keys c.args.gone.now.keys in
    widens-none (λ k. (c.args.place ≡ Some k) × left k) c.args.waiting.now
    (λ k h. true≢false (sym (c.is_left_at.ensures.1 (subst left (sym (same_Some c.in-Some.place k
    (sym c.in-Some.is ∙ h.0))) h.1)) ∙ c.if-not-is_left_at.true))

pub returns : goal.returns
returns c =
    let left = IsLeftAt c.args.graph.now c.args.upheld.now.keys c.args.gone.now.keys in
    let place = c.in-Some.place in
    on_ok_weaker c.insert.result
    (widens-same (λ k. place ≡ k) (λ k. (c.args.place ≡ Some k) × left k) c.args.waiting.now c.insert.new.self
    (λ k. (
      λ h. same_Some place k (sym c.in-Some.is ∙ h.0),
      λ e. (
        c.in-Some.is ∙ ap (λ j. Some j) e,
        subst left e (c.is_left_at.ensures.0 c.if-not-is_left_at.false),
      ),
    ))) c.insert.ensures
