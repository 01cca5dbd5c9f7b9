use Rattle.std.proofs.Common.{◌≡◌, ◌↔◌, ◌+◌, List, Contains, take, get_or, slice_get, sym, subst, ap, true≢false}
use Rattle.std.proofs.Common.{◌∙◌, arith}
use Rattle.std.proofs.lemmas.List.{take_all}
use Rattle.std.proofs.lemmas.Option.{none-some}
use Rattle.hg_changeset.specs.declared.node.Node.{Node}
use Rattle.hg_changeset.specs.Contents.{Contents}
use Rattle.hg_graph.specs.Graph.{nodes}
use Rattle.hg_message.specs.Covered.{IsAtOneIn}
use Rattle.hg_message.proofs.PlacedLemmas.{picked-push, picked-skip}
use Rattle.hg_message.proofs.heads.set_in.Goals as goal
use Rattle.hg_message.proofs.heads.set_in.Goals.{then-is_in+in-Some+in_ok-insert, then-is_in+in_default, else-is_in}

pub loop-place-preserved : goal.loop-place-preserved
loop-place-preserved c =
    let s = c.args.replica.now.history in
    let phase = c.args.phase in
    let places = c.args.places.now in
    let i = c.loop-place.place-index in
    let l = c.loop-place-test.true in
    elim c.if-is_in.branch [
      | then-is_in+in-Some+in_ok-insert w ↦
          let at =
          ap (λ (ds : List Contents). slice_get (nodes ds) (get_or places i 0)) (sym c.graph-graph.ensures.graph)
          ∙ sym w.node_at.ensures ∙ w.in-Some.is in
          subst (λ f. (n : Node) → Contains f.keys n ↔ IsAtOneIn s (take (i + 1) places) phase n) (sym w.found-is)
          (picked-push s phase places i l c.loop-place.found w.insert.new.self w.in-Some.node at
          (c.is_in.ensures.0 w.if-is_in.true) w.in_ok-insert.ensures.updates c.loop-place.invariant)
      | then-is_in+in_default w ↦
          subst (λ f. (n : Node) → Contains f.keys n ↔ IsAtOneIn s (take (i + 1) places) phase n) (sym w.found-is)
          (picked-skip s phase places i l c.loop-place.found.keys
          (λ n at so. none-some n (sym w.in_default.is ∙ w.node_at.ensures
          ∙ ap (λ (ds : List Contents). slice_get (nodes ds) (get_or places i 0)) c.graph-graph.ensures.graph ∙ at))
          c.loop-place.invariant)
      | else-is_in w ↦
          subst (λ f. (n : Node) → Contains f.keys n ↔ IsAtOneIn s (take (i + 1) places) phase n) (sym w.found-is)
          (picked-skip s phase places i l c.loop-place.found.keys
          (λ n at so. true≢false (sym (c.is_in.ensures.1 so) ∙ w.if-is_in.false)) c.loop-place.invariant)
    ]

pub returns : goal.returns
returns c =
    let ps = c.args.places.now in
    let all : take c.loop-place.place-index ps ≡ ps = take_all c.loop-place.place-index ps
    (omega (arith, c.loop-place-test.false)) in
    rw all at c.loop-place.invariant
