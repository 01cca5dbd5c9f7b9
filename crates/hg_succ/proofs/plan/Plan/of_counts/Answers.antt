use Rattle.std.proofs.Common.{length, inl, inr, sym, true≢false}
use Rattle.hg_replica.specs.Content.{content_of}
use Rattle.hg_succ.specs.Rows.{rows_of}
use Rattle.hg_succ.specs.Numbered.{IsNumbered}
use Rattle.hg_succ.proofs.RangeLemmas.{plan_closed, plan_apart, closed_nodes}
use Rattle.hg_succ.proofs.plan.Plan.of_counts.Goals as goal

pub returns : goal.returns
returns c =
    let s = c.args.replica.now in
    let found = c.in_ok-overlapping.field-0 in
    let closure = c.in_ok-listed.field-0.nodes.keys in
    let rows = rows_of c.in_ok-listed.field-0.rows.items in
    let numbered : IsNumbered (content_of s) found.starts.keys closure rows = c.in_ok-listed.ensures in
    let closed = closed_nodes s found.starts.keys closure rows numbered in
    record {
      closed = λ n y unites to. inr
          (plan_closed s c.args.nodes.now.keys c.args.order.now found c.in_ok-overlapping.ensures
          (length c.args.rows.now)
          c.requires.all c.requires.listed closure numbered.first closed n y (elim unites [
            | inl lists ↦ elim lists [ inl whole ↦ absurd (true≢false (sym whole)) | inr in' ↦ inl in' ]
            | inr overlapping ↦ inr overlapping
          ]) to);
      apart = λ n h off out. plan_apart s c.args.nodes.now.keys c.args.order.now found c.in_ok-overlapping.ensures
          (length c.args.rows.now) c.requires.all c.requires.listed closure numbered.first closed n h off
          (λ overlapping. out (inr overlapping));
    }
