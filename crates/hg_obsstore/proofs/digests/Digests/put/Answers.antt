use Rattle.std.proofs.Common.{◌≡◌, ◌∙◌, [], ap, sym, subst, is_some, true, Contains, Some}
use Rattle.std.specs.BTreeMap.{get, get_by}
use Rattle.hg_changeset.specs.Node.{node_cmp}
use Rattle.hg_obsstore.specs.Digests.{found_places}
use Rattle.hg_obsstore.specs.declared.places.Places.TheVariants.{One}
use Rattle.std.proofs.Common.{arith}
use Rattle.hg_obsstore.proofs.DigestLemmas.{keeps, under_it, with_last_keeps, with_last_has}
use Rattle.hg_obsstore.proofs.digests.Digests.put.Goals as goal

pub returns-in_err-put_last-in-Some-clause-kept : goal.returns-in_err-put_last-in-Some-clause-kept
returns-in_err-put_last-in-Some-clause-kept c =
    let found : is_some (get_by (node_cmp c.args.digest) c.args.self.now.by_digest) ≡ true =
    ap is_some (sym c.in-Some.ensures.value) in
    let h = (c.get_mut.follows.holds c.put_last.new.self).3 found in
    keeps c.args.self.now (record { by_digest = c.get_mut.follows.lender c.put_last.new.self }) _ _ h.1 h.2 _
    (λ i other there. subst (λ ps. Contains ps i) (sym c.in_err-put_last-in-Some.ensures.err)
    (subst (λ o. Contains (found_places o) i) (sym c.in-Some.ensures.value) there))

pub returns-in_ok-put_last-in-Some-clause-ok : goal.returns-in_ok-put_last-in-Some-clause-ok
returns-in_ok-put_last-in-Some-clause-ok c =
    let found : is_some (get_by (node_cmp c.args.digest) c.args.self.now.by_digest) ≡ true =
    ap is_some (sym c.in-Some.ensures.value) in
    let h = (c.get_mut.follows.holds c.put_last.new.self).3 found in
    under_it c.args.self.now (record { by_digest = c.get_mut.follows.lender c.put_last.new.self }) c.args.digest
    (Some c.put_last.new.self) h.1 h.2 c.args.place c.args.place
    (subst (λ ps. Contains ps c.args.place) (sym c.in_ok-put_last-in-Some.ensures.ok) (with_last_has _ c.args.place))

pub returns-in_ok-put_last-in-Some-clause-kept : goal.returns-in_ok-put_last-in-Some-clause-kept
returns-in_ok-put_last-in-Some-clause-kept c =
    let found : is_some (get_by (node_cmp c.args.digest) c.args.self.now.by_digest) ≡ true =
    ap is_some (sym c.in-Some.ensures.value) in
    let h = (c.get_mut.follows.holds c.put_last.new.self).3 found in
    keeps c.args.self.now (record { by_digest = c.get_mut.follows.lender c.put_last.new.self }) _ _ h.1 h.2 _
    (λ i other there. subst (λ ps. Contains ps i) (sym c.in_ok-put_last-in-Some.ensures.ok)
    (with_last_keeps _ _ _ (subst (λ o. Contains (found_places o) i) (sym c.in-Some.ensures.value) there)))

pub returns-in_ok-insert-in-None-clause-kept : goal.returns-in_ok-insert-in-None-clause-kept
returns-in_ok-insert-in-None-clause-kept c =
    let u = c.get_mut.follows.holds-at-none in
    let h = c.in_ok-insert-in-None.ensures.updates in
    keeps c.args.self.now (record { by_digest = c.insert.new.self }) _ _ h.1
    (λ q off. h.2 q off ∙ ap (λ m. get node_cmp m q) u) _ (λ i other there. let n : Contains [] i =
    subst (λ o. Contains (found_places o) i) (sym c.in-None.ensures.value) there in absurd (omega (arith, n.1)))
