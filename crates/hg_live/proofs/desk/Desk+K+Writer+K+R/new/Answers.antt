use Rattle.std.proofs.Common.{rules, ◌∙◌, length, ap, sym}
use Rattle.hg_live.proofs.AfterLemmas.{after_none, after_same}
use Rattle.hg_live.proofs.desk.Desk+K+Writer+K+R.new.Goals as goal

pub invariant_of-result : goal.invariant_of-result
invariant_of-result g c =
    let o = g.K.NodeName.opening in
    record {
      after = after_same o o c.args.working _ c.args.journal (after_none o) (sym c.requires.journal)
          (sym c.requires.working);
      rest = search rules;
      counted = c.requires.book ∙ sym (ap length c.requires.journal);
      unasked = c.requires.rest.0;
      start = c.front-start.ensures ∙ c.requires.journal;
      room = c.requires.waiting.1;
      parts = c.requires.rest.1;
    }
