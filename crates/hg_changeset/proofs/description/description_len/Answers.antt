use Rattle.std.proofs.Common.{◌≤◌, ◌-◌, ◌^◌, ℕ, List, ◌∷◌, ◌++◌, [], drop, take, get_or, length, min, arith, sym, ap}
use Rattle.std.proofs.Common.{◌∙◌}
use Rattle.std.proofs.lemmas.List.{take_rest}
use Rattle.hg_changeset.specs.Bytes.{line_feed}
use Rattle.hg_changeset.specs.WhiteSpace.{white_space, trimmed, trimmed_end}
use Rattle.hg_changeset.proofs.ListLemmas.{take-drop_rest}
use Rattle.hg_changeset.proofs.DescriptionLemmas.{ends_line}
use Rattle.hg_changeset.proofs.LengthLemmas.{counted_line, counted_on, plain_trimmed, plain_last, all_joined}
use Rattle.hg_changeset.proofs.description.description_len.Goals as goal
use Rattle.hg_changeset.proofs.description.description_len.Goals.{then-ends_line, else-ends_line}

pub loop-i-preserved : goal.loop-i-preserved
loop-i-preserved c =
    let s = c.args.desc.now in
    let start = c.loop-i.start in
    let i = c.loop-i.i in
    let h = c.loop-i.invariant.counted in
    let line = take (i - start) (drop start s) in
    let rest = ap (λ (t : List ℕ). ends_line (get_or s i 0) t) (sym (take_rest s i)) ∙ sym c.ends_line.ensures in
    elim c.if-ends_line.branch [
      | then-ends_line w ↦ record {
        within = omega arith;
        counted = rw (w.joined-is) (counted_line s start i c.loop-i.joined h c.if-ends_line.start
            w.with_line_feed-joined.result c.loop-i-test.true w.start-is (rest ∙ w.if-ends_line.true)
            (w.with_line_feed-joined.ensures (h.text ++ trimmed_end white_space line)
            (w.with_line.ensures h.text (trimmed_end white_space line)
            (sym (ap length w.trimmed_end-line.ensures)) (plain_trimmed line h.plain) h.measured)));
      }
      | else-ends_line w ↦ record {
        within = omega arith;
        counted = rw (w.start-is, w.joined-is) (counted_on s start i c.loop-i.joined h c.loop-i.invariant.within
            c.loop-i-test.true (rest ∙ w.if-ends_line.false));
      }
    ]

pub returns : goal.returns
returns c =
    let s = c.args.desc.now in
    let start = c.loop-i.start in
    let i = c.loop-i.i in
    let h = c.loop-i.invariant.counted in
    let past : length s ≤ i = omega (arith, c.loop-i-test.false) in
    (c.with_line-2.ensures h.text (trimmed_end white_space (drop start s))
    (sym (ap length (c.trimmed_end-line-2.ensures ∙ ap (trimmed_end white_space) (take-drop_rest s start))))
    (plain_trimmed (drop start s) (plain_last s start i c.loop-i.joined h past)) h.measured).1
    ∙ ap (λ (t : List ℕ). min (length (trimmed (line_feed ∷ []) t)) (2 ^ 64 - 1))
    (all_joined s start i c.loop-i.joined h past)
