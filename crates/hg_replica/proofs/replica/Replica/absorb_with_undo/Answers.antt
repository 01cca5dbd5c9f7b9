use Rattle.std.proofs.Common.{◌≡◌, ◌≢◌, [], inl, ap, ◌∙◌, subst}
use Rattle.std.specs.Cow.{cow_value, cow_slice_items}
use Rattle.hg_obsstore.specs.Growth.{new_among}
use Rattle.hg_replica.specs.State.{ReplicaState}
use Rattle.hg_replica.specs.Least.{PartValue}
use Rattle.hg_replica.specs.Answer.{AbsorbAnswer, IsGrowthBeforeFault}
use Rattle.hg_replica.proofs.TakenLemmas.{Taken, taken}
use Rattle.hg_replica.proofs.replica.Replica.absorb_with_undo.Goals as goal
use Rattle.hg_replica.proofs.replica.Replica.absorb_with_undo.Goals.{After-keep_or_forget}

taken-here : (c : After-keep_or_forget) → Taken c.args.self.now (cow_value c.args.part) c.keep_or_forget.result
    (record { history = c.absorb_with_undo-absorbed.new.self; markers = c.keep_or_forget.new.store })
taken-here c =
    let lists = c.take_lists-changesets in
    let answered = c.absorb_with_undo-absorbed in
    let told = c.keep_or_forget in
    let s : ReplicaState = record { history = c.self.inside.history; markers = c.self.inside.store } in
    let t : ReplicaState = record { history = answered.new.self; markers = told.new.store } in
    let k : PartValue = record {
      history = record { changesets = cow_slice_items lists.result.0; bounds = c.deref-2.result.now };
      markers = cow_slice_items lists.result.1;
    } in
    let k_is : k ≡ cow_value c.args.part = λ i. record {
      history = record {
        changesets = lists.ensures.changesets i;
        bounds = (c.deref-2.ensures
            ∙ ap (λ (left : PartValue). left.history.bounds) (c.behind-part.view_is ∙ c.deref.ensures)
            ∙ lists.ensures.bounds) i;
      };
      markers = lists.ensures.markers i;
    } in
    subst (λ u. Taken u (cow_value c.args.part) told.result t) c.self.view_is
    (subst (λ x. Taken s x told.result t) k_is
    (taken s k t.history c.absorb.new.self t.markers c.len-before.result c.in-Ok.markers.items c.len-before.ensures
    c.in-Ok.ensures.ok c.in-Ok.ensures.union c.in-Ok.ensures.places answered.result told.result told.ensures
    answered.ensures.answer answered.ensures.back answered.ensures.nothing answered.ensures.growth
    answered.ensures.memory))

pub returns-clause-answer : goal.returns-clause-answer
returns-clause-answer c = (taken-here (goal.at.returns-clause-answer c).After-keep_or_forget).answer

pub returns-clause-back : goal.returns-clause-back
returns-clause-back c = (taken-here (goal.at.returns-clause-back c).After-keep_or_forget).back

pub returns-clause-nothing : goal.returns-clause-nothing
returns-clause-nothing c = (taken-here (goal.at.returns-clause-nothing c).After-keep_or_forget).nothing

pub returns-clause-growth : goal.returns-clause-growth
returns-clause-growth c = (taken-here (goal.at.returns-clause-growth c).After-keep_or_forget).growth

pub returns-clause-memory : goal.returns-clause-memory
returns-clause-memory c = (taken-here (goal.at.returns-clause-memory c).After-keep_or_forget).memory

pub returns-in-Err-clause-answer : goal.returns-in-Err-clause-answer
unfolding AbsorbAnswer
returns-in-Err-clause-answer c =
    (tt, (λ i. record { history = c.self.inside.history; markers = c.in-Err.ensures.err i }) ∙ c.self.view_is)

pub returns-in-Err-clause-memory : goal.returns-in-Err-clause-memory
unfolding IsGrowthBeforeFault
returns-in-Err-clause-memory c =
    let new =
    subst (λ ms. new_among c.self.inside.store ms ≢ []) c.take_lists-changesets.ensures.markers
    c.in-Err.ensures.memory in
    λ e. inl (subst (λ (u : ReplicaState). new_among u.markers (cow_value c.args.part).markers ≢ []) c.self.view_is new)
