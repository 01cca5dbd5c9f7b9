use Rattle.std.proofs.Common.{◌≡◌, ◌+◌, [], ℕ, List, take, get_or, Contains, arith, sym, subst, ◌∙◌}
use Rattle.std.proofs.lemmas.List.{take_all, get_or_default}
use Rattle.hg_changeset.specs.declared.node.Node.{Node}
use Rattle.hg_node_set.specs.Keys.{insert_key, number_after}
use Rattle.hg_node_set.proofs.CallerLemmas.{insert_key-grows, slice_get-insert_key}
use Rattle.hg_succ.specs.Rows.{At}
use Rattle.hg_succ.specs.Numbered.{Adds}
use Rattle.hg_succ.proofs.NumberLemmas.{adds_none, adds_one, more_of}
use Rattle.hg_succ.proofs.numbered.number_each.Goals as goal

pub loop-successor-init : goal.loop-successor-init
loop-successor-init c = adds_none (Contains []) c.args.nodes.now.keys c.args.row.now.items (λ y h. omega (arith, h.1))

pub loop-successor-preserved : goal.loop-successor-preserved
loop-successor-preserved c =
    let xs = c.args.successors.now in
    let i = c.loop-successor.successor-index in
    let x : Node = get_or xs i (record { 0 = [] }) in
    let number = c.in_ok-number.number in
    let old = c.loop-successor.nodes.keys in
    let new = c.insert_full.new.self.keys in
    let keys : new ≡ insert_key old x = c.in_ok-number.ensures.keys in
    let grows = insert_key-grows old x in
    let at : At new number x = subst (λ i. At new i x) (sym c.in_ok-number.ensures.index)
    (subst (λ (ns : List Node). At ns (number_after old x) x) (sym keys) (slice_get-insert_key old x)) in
    subst (λ (row : List ℕ). Adds (Contains (take (i + 1) xs)) c.args.nodes.now.keys new c.args.row.now.items row)
    (sym c.in_ok-push.ensures.items)
    (adds_one (Contains (take i xs)) (Contains (take (i + 1) xs)) c.args.nodes.now.keys old new c.args.row.now.items
    c.loop-successor.row.items number x
    c.loop-successor.invariant (grows.0, keys ∙ grows.1) at
    (more_of xs i x c.loop-successor-test.true (get_or_default xs i (record { 0 = [] }) x c.loop-successor-test.true)))

pub returns : goal.returns
returns c = subst (λ (xs : List Node). Adds (Contains xs) c.args.nodes.now.keys c.loop-successor.nodes.keys
    c.args.row.now.items c.loop-successor.row.items)
    (take_all c.loop-successor.successor-index c.args.successors.now c.loop-successor-test.false)
    c.loop-successor.invariant
