use Rattle.std.proofs.Common.{rules, ◌≡◌, ◌<◌, ℕ, List, [], length, get_or, Contains, inl, inr, sym, ap, subst, ◌∙◌}
use Rattle.std.proofs.Common.{arith}
use Rattle.std.proofs.lemmas.List.{get_or_default, take_all}
use Rattle.std.proofs.lemmas.List.Elements.{Contains-get_or}
use Rattle.hg_changeset.specs.declared.node.Node.{Node}
use Rattle.hg_node_set.specs.Keys.{insert_key}
use Rattle.hg_node_set.proofs.CallerLemmas.{Contains-insert_key, Contains-insert_key_kept, Contains-insert_key_cases}
use Rattle.hg_succ.specs.Rows.{At}
use Rattle.hg_succ.proofs.NumberLemmas.{more_of}
use Rattle.hg_succ.proofs.RangeLemmas.{node_there}
use Rattle.hg_succ.proofs.ranges.Ranges.note_overlap.Goals as goal

pub bounds-as_slice-successor : goal.bounds-as_slice-successor
bounds-as_slice-successor c =
    let l = c.requires.row (get_or c.args.row.now c.loop-successor.successor-index 0)
    (Contains-get_or c.args.row.now c.loop-successor.successor-index 0 c.loop-successor-test.true) in
    omega (arith, l, ap length c.as_slice-in-loop-successor.ensures.keys)

pub offset_bounds-as_slice-successor : goal.offset_bounds-as_slice-successor
offset_bounds-as_slice-successor c =
    let m = c.requires.row (get_or c.args.row.now c.loop-successor.successor-index 0)
    (Contains-get_or c.args.row.now c.loop-successor.successor-index 0 c.loop-successor-test.true) in
    let l : get_or c.args.row.now c.loop-successor.successor-index 0
    < length c.as_slice-in-loop-successor.result.now = omega (
      arith,
      m,
      ap length
          c.as_slice-in-loop-successor.ensures.keys,
    ) in
    search rules

pub loop-successor-preserved : goal.loop-successor-preserved
loop-successor-preserved c =
    let nodes = c.args.nodes.now.keys in
    let row = c.args.row.now in
    let i = c.loop-successor.successor-index in
    let j = get_or row i 0 in
    let x : Node = get_or c.as_slice-in-loop-successor.result.now j (record { 0 = [] }) in
    let keys = c.in_ok-insert-2.ensures.keys in
    record {
      ranges = c.loop-successor.invariant.ranges;
      overlapping = c.loop-successor.invariant.overlapping;
      starts = λ k y h at. subst (λ (ks : List Node). Contains ks y) (sym keys)
          (elim ((more_of row i j c.loop-successor-test.true
          (get_or_default row i 0 j c.loop-successor-test.true) k).0 h) [
            | inl before ↦ Contains-insert_key_kept c.loop-successor.self.starts.keys x y
                (c.loop-successor.invariant.starts k y before at)
            | inr same ↦
                let is : x ≡ y = node_there nodes c.as_slice-in-loop-successor.result.now j y
                c.as_slice-in-loop-successor.ensures.keys (subst (λ m. At nodes m y) (sym same) at) in
                subst (Contains (insert_key c.loop-successor.self.starts.keys x)) is
                (Contains-insert_key c.loop-successor.self.starts.keys x)
          ]);
      kept = λ y h. subst (λ (ks : List Node). Contains ks y) (sym keys)
          (Contains-insert_key_kept c.loop-successor.self.starts.keys x y (c.loop-successor.invariant.kept y h));
    }

pub returns : goal.returns
returns c n at =
    let nodes = c.args.nodes.now.keys in
    let x : Node = get_or c.as_slice.result.now c.args.number (record { 0 = [] }) in
    let is : x ≡ n = node_there nodes c.as_slice.result.now c.args.number n c.as_slice.ensures.keys at in
    let old = c.args.self.now.overlapping.keys in
    let keys : c.loop-successor.self.overlapping.keys ≡ insert_key old n =
    c.loop-successor.invariant.overlapping ∙ c.in_ok-insert.ensures.keys ∙ ap (insert_key old) is in
    record {
      ranges = c.loop-successor.invariant.ranges;
      there = subst (λ (ks : List Node). Contains ks n) (sym keys) (Contains-insert_key old n);
      kept = λ y h. subst (λ (ks : List Node). Contains ks y) (sym keys) (Contains-insert_key_kept old n y h);
      only = λ y h. Contains-insert_key_cases old n y (subst (λ (ks : List Node). Contains ks y) keys h);
      starts = λ j y h y_at. c.loop-successor.invariant.starts j y
          (subst (λ (js : List ℕ). Contains js j) (sym (take_all c.loop-successor.successor-index c.args.row.now
          c.loop-successor-test.false)) h) y_at;
      starts_kept = λ y h. c.loop-successor.invariant.kept y h;
    }
