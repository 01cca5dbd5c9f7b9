use Rattle.std.proofs.Common.{rules, ◌≡◌, ◌∙◌, length, refl, subst}
use Rattle.std.specs.Prelude.{Ok}
use Rattle.hg_discovery.specs.Search.{Search, IsSample, IsSearch}
use Rattle.hg_discovery.specs.Answers.{AnswerAnswer, TakesAnswers}
use Rattle.hg_discovery.proofs.CountLemmas.{round_count}
use Rattle.hg_discovery.proofs.ToldLemmas.{placed_nodes_after}
use Rattle.hg_discovery.proofs.discovery.Discovery.answer.Goals as goal

pub answered-requires-clause-in_order : goal.answered-requires-clause-in_order
answered-requires-clause-in_order c = rw c.deref.ensures.value c.self.invariant.0.in_order

pub sample-requires-clause-in_order : goal.sample-requires-clause-in_order
sample-requires-clause-in_order c = rw c.deref-4.ensures.value c.self.invariant.0.in_order

pub sample-requires-clause-closed : goal.sample-requires-clause-closed
sample-requires-clause-closed c =
    rw c.deref-4.ensures.value (rw c.deref-6.ensures.value (rw c.deref.ensures.value at c.in_ok-decided.ensures.closed))

pub sample-requires-clause-placed_nodes : goal.sample-requires-clause-placed_nodes
sample-requires-clause-placed_nodes c =
    let old = c.self.inside in
    let new = c.in_ok-decided.decided.items in
    let told : TakesAnswers old.parents.items old.asked.items c.args.answers.now old.decided.items new =
    rw c.deref.ensures.value at (rw c.deref-2.ensures.value at
    (rw c.deref-3.ensures.value at c.in_ok-decided.ensures.told)) in
    rw c.deref-5.ensures.value (rw c.deref-6.ensures.value (placed_nodes_after old.parents.items old.asked.items
    c.args.answers.now old.decided.items new old.placed_nodes.items told c.self.invariant.0.placed_nodes))

pub invariant_of-self : goal.invariant_of-self
invariant_of-self c =
    let old = c.self.inside in
    let known = c.self.invariant.0 in
    let ps = old.parents.items in
    let xs = old.placed_nodes.items in
    let new = c.in_ok-decided.decided.items in
    let asked = c.in_ok-asked.asked.items in
    let told : TakesAnswers ps old.asked.items c.args.answers.now old.decided.items new =
    rw c.deref.ensures.value at (rw c.deref-2.ensures.value at
    (rw c.deref-3.ensures.value at c.in_ok-decided.ensures.told)) in
    let len : length new ≡ length old.decided.items =
    rw c.deref-3.ensures.value at c.in_ok-decided.ensures.len in
    let drawn : IsSample (record { parents = ps; placed_nodes = xs; decided = new; asked = asked }) asked =
    rw c.deref-4.ensures.value at
    (rw c.deref-5.ensures.value at (rw c.deref-6.ensures.value at c.in_ok-asked.ensures)) in (
      record {
        len = len ∙ known.len;
        in_order = known.in_order;
        placed_nodes =
            placed_nodes_after ps old.asked.items c.args.answers.now old.decided.items new xs told known.placed_nodes;
        closed = rw c.deref.ensures.value at c.in_ok-decided.ensures.closed;
        sample = drawn;
      },
      c.self.invariant.1,
      c.self.invariant.2,
    )

pub returns-clause-answer : goal.returns-clause-answer
returns-clause-answer c =
    let old = c.self.inside in
    let new = c.in_ok-decided.decided.items in
    let after : Search = record {
      parents = old.parents.items;
      placed_nodes = old.placed_nodes.items;
      decided = new;
      asked = c.in_ok-asked.asked.items;
    } in
    let told : TakesAnswers old.parents.items old.asked.items c.args.answers.now old.decided.items new =
    rw c.deref.ensures.value at (rw c.deref-2.ensures.value at
    (rw c.deref-3.ensures.value at c.in_ok-decided.ensures.told)) in
    let len : length c.args.answers.now ≡ length old.asked.items = search rules in
    subst (λ (s : Search). AnswerAnswer s c.args.answers.now (Ok tt) after) c.self.view_is (
      len,
      record { parents = refl; placed_nodes = refl; told = told; search = (invariant_of-self c).0 },
    )

pub returns-clause-fewer : goal.returns-clause-fewer
returns-clause-fewer c =
    let known : IsSearch c.args.self.now = subst IsSearch c.self.view_is c.self.invariant.0 in
    round_count c.args.self.now _ c.args.answers.now known (returns-clause-answer c).1
