use Rattle.std.proofs.Common.{◌≡◌, ◌+◌, ◌∙◌, [], ℕ, List, length, arith, ap, sym, subst}
use Rattle.std.proofs.lemmas.List.{length_push}
use Rattle.hg_succ.specs.Rows.{At}
use Rattle.hg_succ.specs.Search.{state_of}
use Rattle.hg_changeset.proofs.ListLemmas.{slice_get-append_seam}
use Rattle.hg_succ.proofs.SearchLemmas.{closed_within}
use Rattle.hg_succ.proofs.CloseLemmas.{closes_none, closes_more}
use Rattle.hg_succ.proofs.search.Search.close.Goals as goal

pub loop-self-init : goal.loop-self-init
loop-self-init c = record { closed = closes_none c.args.cyclic (state_of c.args.self.now); low = c.requires.place }

pub close_last-requires-clause-within : goal.close_last-requires-clause-within
close_last-requires-clause-within c = closed_within c.args.cyclic (state_of c.args.self.now)
    (state_of c.loop-self.self) c.loop-self.invariant.closed c.requires.within

pub loop-self-preserved : goal.loop-self-preserved
loop-self-preserved c =
    let old = state_of c.args.self.now in
    let s = state_of c.loop-self.self in
    let last = c.in_ok-close_last.ensures in
    let within = closed_within c.args.cyclic old s c.loop-self.invariant.closed c.requires.within in
    let long : length s.waiting ≡ length c.close_last.new.self.waiting.items + 1 = ap length last.waiting
    ∙ length_push c.close_last.new.self.waiting.items last.node in
    record {
      closed = closes_more c.args.cyclic old s (state_of c.close_last.new.self) c.loop-self.invariant.closed last
          (within (length c.close_last.new.self.waiting.items) last.node
          (subst (λ (xs : List ℕ). At xs (length c.close_last.new.self.waiting.items) last.node) (sym last.waiting)
          (slice_get-append_seam c.close_last.new.self.waiting.items last.node [])));
      low = omega (arith, long, c.len.ensures, c.loop-self.self.waiting.ok.0);
    }
