use Rattle.std.proofs.Common.{◌&&◌, true, true≢false, ◌≡◌, ◌==◌, List, length, not, false, arith, sym, ap, subst, ◌∙◌}
use Rattle.hg_changeset.specs.declared.node.Node.{Node}
use Rattle.hg_succ.specs.Answer.{sets_of}
use Rattle.hg_succ.specs.Rows.{rows_of}
use Rattle.std.specs.List.{list_any}
use Rattle.hg_succ.specs.Unions.{is_largest, is_within_larger}
use Rattle.hg_succ.proofs.ListLemmas.{row_at}
use Rattle.hg_succ.proofs.SetLemmas.{none_longer}
use Rattle.hg_succ.proofs.HolderLemmas.{set_here, some_number, within_by_rows}
use Rattle.hg_succ.proofs.unions.is_largest.Goals as goal

pub returns-then-is_empty : goal.returns-then-is_empty
returns-then-is_empty c set at =
    let sets = c.args.sets.now in
    let v = c.index-sets-place.result in
    let same = set_here sets c.args.place v set c.requires.place c.index-sets-place.is at in
    let none : (length v.items == 0) ≡ true =
    subst (λ n. (n == 0) ≡ true) v.ok.0 (sym c.is_empty.ensures ∙ c.if-is_empty.true) in
    subst (λ (s : List Node). false ≡ is_largest (sets_of sets) s) same
    (ap (λ b. not b && not (list_any (is_within_larger v.items) (sets_of sets))) (sym none))

pub returns-then-len-longest : goal.returns-then-len-longest
returns-then-len-longest c set at =
    let sets = c.args.sets.now in
    let v = c.index-sets-place.result in
    let same = set_here sets c.args.place v set c.requires.place c.index-sets-place.is at in
    let some : (length v.items == 0) ≡ false =
    subst (λ n. (n == 0) ≡ false) v.ok.0 (sym c.is_empty.ensures ∙ c.if-is_empty.false) in
    subst (λ (s : List Node). true ≡ is_largest (sets_of sets) s) same
    (sym (none_longer (sets_of sets) c.args.longest v.items c.requires.longest
    (omega (arith, c.if-len-longest.true, c.len.ensures, v.ok.0)) some))

pub is_within_another-requires-clause-some : goal.is_within_another-requires-clause-some
is_within_another-requires-clause-some c =
    let sets = c.args.sets.now in
    let v = c.index-sets-place.result in
    some_number (sets_of sets) c.requires.holders.members (rows_of c.args.holders.now.rows.items)
    c.requires.holders.once c.requires.holders.numbered c.args.place v.items
    (row_at sets c.args.place v c.requires.place c.index-sets-place.is)
    (λ e. true≢false (sym (ap (λ (s : List Node). length s == 0) e)
    ∙ subst (λ n. (n == 0) ≡ false) v.ok.0 (sym c.is_empty.ensures ∙ c.if-is_empty.false)))

pub returns : goal.returns
returns c set at =
    let sets = c.args.sets.now in
    let v = c.index-sets-place.result in
    let same = set_here sets c.args.place v set c.requires.place c.index-sets-place.is at in
    let some : (length v.items == 0) ≡ false =
    subst (λ n. (n == 0) ≡ false) v.ok.0 (sym c.is_empty.ensures ∙ c.if-is_empty.false) in
    let within = within_by_rows (sets_of sets) c.requires.holders.members (rows_of c.args.holders.now.rows.items)
    c.requires.holders.once c.requires.holders.numbered c.args.place set c.is_within_another.result at
    c.requires.ascending c.requires.different c.is_within_another.ensures in
    ap not within ∙ ap (λ b. not b && not (list_any (is_within_larger set) (sets_of sets)))
    (sym (subst (λ (s : List Node). (length s == 0) ≡ false) same some))
