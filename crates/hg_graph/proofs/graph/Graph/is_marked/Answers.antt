use Rattle.std.proofs.Common.{◌≡◌, ◌↔◌, ◌<◌, ◌-◌, ℕ, Bool, true, false, List, length, get_or, slice_get, Some, IsTrue}
use Rattle.std.proofs.Common.{refl, sym, ap, subst, arith, true≢false, ◌∙◌}
use Rattle.std.proofs.lemmas.Option.{slice_get-get_or, get_or_from_slice_get}
use Rattle.hg_changeset.specs.declared.node.Node.{Node}
use Rattle.hg_changeset.specs.Contents.{Contents}
use Rattle.hg_graph.specs.Graph.{nodes}
use Rattle.hg_graph.specs.Places.{IsOnlyAt}
use Rattle.hg_graph.specs.Marks.{IsMarkedNode}
use Rattle.hg_graph.proofs.GraphLemmas.{Contains-from_place}
use Rattle.hg_graph.proofs.PlaceLemmas.{placed_within}
use Rattle.hg_graph.proofs.graph.Graph.is_marked.Goals as goal

marked : (cs : List Contents) (marks : List Bool) (n : Node) (k : ℕ) → IsOnlyAt cs n k → k < length marks
    → IsTrue (get_or marks k false) ↔ IsMarkedNode cs marks n
marked cs marks n k only l = (
  λ t. (
    k,
    (only k).1 refl,
    (
      omega arith,
      subst (λ i. slice_get marks i ≡ Some true) zero_is
          (slice_get-get_or marks k false l ∙ ap (λ b. Some b) t),
    ),
  ),
  λ m.
      let k_is : m.0 ≡ k = (only m.0).0 m.1 in
      get_or_from_slice_get marks k true false
      (subst (λ i. slice_get marks i ≡ Some true) (sym zero_is)
      (subst (λ j. slice_get marks (j - 0) ≡ Some true) k_is m.2.1)),
)
  where
    zero_is : k ≡ k - 0
    zero_is = omega arith

within : (c : goal.After-shared_slice_known-in-Some-1) → c.in-Some.place < length c.args.marks.now
within c = let l = placed_within c.args.self.now c.args.node c.in-Some.place
    ((c.in-Some.ensures.place c.in-Some.place).1 refl) in omega (arith, l, c.requires)

pub bounds-marks-place : goal.bounds-marks-place
bounds-marks-place c = within c

pub returns-in-Some : goal.returns-in-Some
returns-in-Some c = marked c.args.self.now c.args.marks.now c.args.node c.in-Some.place c.in-Some.ensures.place
    (within c)

pub returns-in-None : goal.returns-in-None
returns-in-None c = (
  λ t. absurd (true≢false (sym t)),
  λ m. absurd (c.in-None.ensures.place (Contains-from_place (nodes c.args.self.now) m.0 c.args.node m.1)),
)
