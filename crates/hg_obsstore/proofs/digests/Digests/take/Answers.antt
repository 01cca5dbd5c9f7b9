use Rattle.std.proofs.Common.{◌≡◌, ◌∙◌, [], ap, sym, subst, is_some, true, Contains, Some, None, arith, length}
use Rattle.std.specs.BTreeMap.{get, get_by}
use Rattle.std.specs.Cmp.{unsigned_Decides}
use Rattle.hg_changeset.specs.Node.{node_cmp}
use Rattle.hg_obsstore.specs.Digests.{found_places, under}
use Rattle.hg_obsstore.specs.Index.{without_last}
use Rattle.hg_obsstore.proofs.DigestLemmas.{keeps, without_last_keeps}
use Rattle.hg_obsstore.proofs.digests.Digests.take.Goals as goal

pub returns-then-is_empty-clause-kept : goal.returns-then-is_empty-clause-kept
returns-then-is_empty-clause-kept c =
    let found : is_some (get_by (node_cmp c.args.digest) c.args.self.now.by_digest) ≡ true =
    ap is_some (sym c.in-Some.ensures.value) in
    let h = (c.get_mut.follows.holds c.take_last.new.self).3 found in
    let u = c.remove.ensures.updates in
    let none : length c.as_slice.result.now ≡ 0 =
    (unsigned_Decides (length c.as_slice.result.now) 0).0 (sym c.is_empty.ensures ∙ c.if-is_empty.true) in
    keeps c.args.self.now (record { by_digest = c.remove.new.self }) _ _ u.1 (λ q off. u.2 q off ∙ h.2 q off) _
    (λ i other there. let kept : Contains c.as_slice.result.now i =
    subst (λ ps. Contains ps i) (sym (c.as_slice.ensures ∙ c.take_last.ensures)) (without_last_keeps _ _ _ other
    (subst (λ o. Contains (found_places o) i) (sym c.in-Some.ensures.value) there)) in
    absurd (omega (arith, kept.1, none)))

pub returns-else-is_empty-clause-kept : goal.returns-else-is_empty-clause-kept
returns-else-is_empty-clause-kept c =
    let found : is_some (get_by (node_cmp c.args.digest) c.args.self.now.by_digest) ≡ true =
    ap is_some (sym c.in-Some.ensures.value) in
    let h = (c.get_mut.follows.holds c.take_last.new.self).3 found in
    keeps c.args.self.now (record { by_digest = c.get_mut.follows.lender c.take_last.new.self }) _ _ h.1 h.2 _
    (λ i other there. subst (λ ps. Contains ps i) (sym c.take_last.ensures) (without_last_keeps _ _ _ other
    (subst (λ o. Contains (found_places o) i) (sym c.in-Some.ensures.value) there)))

pub returns-in-None-clause-taken : goal.returns-in-None-clause-taken
unfolding without_last
returns-in-None-clause-taken c =
    let none : under c.args.self.now c.args.digest ≡ [] = ap found_places (sym c.in-None.ensures.value) in
    ap (λ m. found_places (get node_cmp m c.args.digest)) c.get_mut.follows.holds-at-none ∙ none
    ∙ ap (λ ps. without_last ps c.args.place) (sym none)
