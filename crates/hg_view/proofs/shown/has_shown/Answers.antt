use Rattle.std.proofs.Common.{◌≡◌, ◌<◌, List, [], length, get_or, refl, true≢false, sym, subst, ◌∙◌, arith}
use Rattle.std.proofs.lemmas.List.{get_or_default}
use Rattle.std.proofs.lemmas.List.Elements.{Contains-get_or}
use Rattle.hg_changeset.specs.declared.node.Node.{Node}
use Rattle.hg_changeset.specs.Contents.{Contents}
use Rattle.hg_replica.specs.Content.{content_of}
use Rattle.hg_instab.specs.Walk.{Adds}
use Rattle.hg_instab.proofs.WalkLemmas.{adds-one}
use Rattle.hg_view.specs.Pins.{CountsAsObsolete}
use Rattle.hg_view.specs.Shown.{IsChild}
use Rattle.hg_view.proofs.ShownLemmas.{search-start, search-step, search-within, search-found, search-end}
use Rattle.hg_view.proofs.shown.has_shown.Goals as goal

pub loop-next-init : goal.loop-next-init
loop-next-init c =
    let node = c.args.node in
    let new = c.insert.new.self.keys in
    search-start c.args.replica.now c.graph-graph.ensures.valid c.args.pins.now node new c.requires
    (subst (λ (ks : List Node). Adds (λ n. node ≡ n) ks new) c.with_keys-met.ensures
    (adds-one c.with_keys-met.result.keys new node c.in_ok-insert.ensures.keys))

pub loop-next-smaller : goal.loop-next-smaller
loop-next-smaller c =
    let within = search-within _ c.graph-graph.ensures.valid _ _ _ _ c.loop-next.invariant c.len.ensures.unique in
    omega (arith, within, c.loop-next-test.true, c.len.ensures.len)

pub loop-next-preserved : goal.loop-next-preserved
loop-next-preserved c =
    let s = c.args.replica.now in
    let pins = c.args.pins.now in
    let met = c.loop-next.met.keys in
    let i = c.loop-next.next in
    let first : Node = record { 0 = [] } in
    let node = get_or met i first in
    let new = c.add_children.new.met.keys in
    let l : i < length met = omega (arith, c.loop-next-test.true, c.len.ensures.len) in
    let o : CountsAsObsolete (content_of s) pins node =
    subst (λ (ns : List Node). CountsAsObsolete (content_of s) pins (get_or ns i first))
    c.as_slice.ensures.keys (c.counts_as_obsolete.ensures.0 c.if-not-counts_as_obsolete.false) in
    search-step _ c.graph-graph.ensures.valid _ _ _ _ _ _ l (get_or_default met i node first l) c.loop-next.invariant o
    (subst (λ (cs : List Contents). Adds (IsChild cs node) met new) c.graph-graph.ensures.graph
    (subst (λ (ns : List Node). Adds (IsChild c.graph-graph.result.now (get_or ns i first)) met new)
    c.as_slice.ensures.keys c.in_ok-add_children.ensures))

pub returns-then-not-counts_as_obsolete : goal.returns-then-not-counts_as_obsolete
returns-then-not-counts_as_obsolete c =
    let s = c.args.replica.now in
    let pins = c.args.pins.now in
    let met = c.loop-next.met.keys in
    let i = c.loop-next.next in
    let first : Node = record { 0 = [] } in
    let node = get_or met i first in
    let l : i < length met = omega (arith, c.loop-next-test.true, c.len.ensures.len) in
    let not : ¬ (CountsAsObsolete (content_of s) pins node) = λ o. true≢false (sym (c.counts_as_obsolete.ensures.1
    (subst (λ (ns : List Node). CountsAsObsolete (content_of s) pins (get_or ns i first))
    (sym c.as_slice.ensures.keys) o)) ∙ c.if-not-counts_as_obsolete.true) in (
      λ t. search-found _ c.graph-graph.ensures.valid _ _ _ _ c.loop-next.invariant _
          (Contains-get_or _ _ _ l) not,
      λ v. refl,
    )

pub returns : goal.returns
returns c =
    let none = search-end _ c.graph-graph.ensures.valid _ _ _ _ c.loop-next.invariant
    (omega (arith, c.loop-next-test.false, c.len.ensures.len)) in
    (λ t. absurd (true≢false (sym t)), λ v. absurd (none v))
