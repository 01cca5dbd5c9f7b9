use Rattle.std.proofs.Common.{rules, ◌≡◌, ◌∙◌, ◌++◌, ◌∷◌, [], sym, subst, List, ℕ, length, get_or}
use Rattle.hg_marker.specs.Fields.{Fields}
use Rattle.hg_obsstore.specs.Digests.{AreDigested, IsUnderDigest, KeepsOtherDigests}
use Rattle.hg_obsstore.specs.Index.{SamePlaces}
use Rattle.hg_obsstore.specs.Indexes.{HaveBelow, AreIndexed, AddMarker}
use Rattle.hg_obsstore.proofs.DigestLemmas.{digested_push, digested_same}
use Rattle.hg_obsstore.proofs.StoreLemmas.{read_last, cut_back, all_below, all_push, all_same}
use Rattle.hg_obsstore.proofs.store.put_last.Goals as goal

-- what holds of the marker that was read at the end holds of the one that was put there
at_end : (P : Fields → ℕ → Type 0) (ms xs : List Fields) (m x : Fields) (place : ℕ) → xs ≡ ms ++ m ∷ []
    → place ≡ length ms → x ≡ get_or xs place x → P x place → P m (length ms)
at_end P ms xs m x place items at read h =
    subst (P m) at (subst (λ y. P y place) (read_last ms xs m x place items at read) h)

pub add_marker-requires-clause-below : goal.add_marker-requires-clause-below
add_marker-requires-clause-below c =
    let at : c.len-place.result ≡ length c.args.markers.now.items = search rules in
    subst (HaveBelow c.args.index.now) (sym at) (all_below _ _ c.requires.indexed)

pub returns-in-Ok-clause-indexed : goal.returns-in-Ok-clause-indexed
returns-in-Ok-clause-indexed c =
    let items = c.in_ok-push.ensures.items in
    subst (λ (xs : List Fields). AreIndexed xs c.add_marker.new.index) (sym items)
    (all_push _ c.args.marker _ _ c.requires.indexed
    (at_end (λ m n. AddMarker m n c.args.index.now c.add_marker.new.index) c.args.markers.now.items
    c.push.new.self.items c.args.marker c.index-marker.result.now c.len-place.result items (search rules) (search rules)
    c.in-Ok.ensures.ok))

pub returns-in-Ok-clause-digested : goal.returns-in-Ok-clause-digested
returns-in-Ok-clause-digested c =
    let ms = c.args.markers.now.items in
    let items = c.in_ok-push.ensures.items in
    let at : c.len-place.result ≡ length ms = search rules in
    let read : c.index-marker.result.now ≡ get_or c.push.new.self.items c.len-place.result c.index-marker.result.now =
    search rules in
    subst (λ (xs : List Fields). AreDigested xs c.add_marker.new.index c.add_marker.new.digests) (sym items)
    (digested_push ms c.args.marker _ _ c.args.digests.now c.add_marker.new.digests c.requires.digested
    (at_end (λ m n. AddMarker m n c.args.index.now c.add_marker.new.index) ms c.push.new.self.items c.args.marker
    c.index-marker.result.now c.len-place.result items at read c.in-Ok.ensures.ok).predecessor
    (at_end (λ m n. IsUnderDigest c.add_marker.new.index c.add_marker.new.digests m n) ms c.push.new.self.items
    c.args.marker c.index-marker.result.now c.len-place.result items at read c.in-Ok.ensures.digest)
    (subst (λ n. KeepsOtherDigests n c.args.digests.now c.add_marker.new.digests) at c.in-Ok.ensures.kept))

pub returns-in-Err-clause-err : goal.returns-in-Err-clause-err
returns-in-Err-clause-err c =
    c.give_back_all.ensures.markers ∙ cut_back c.args.markers.now.items c.push.new.self.items c.truncate.new.self.items
    c.args.marker c.len-place.result c.in_ok-push.ensures.items (search rules) c.truncate.ensures.items

pub returns-in-Err-clause-indexed : goal.returns-in-Err-clause-indexed
returns-in-Err-clause-indexed c =
    let back = sym (c.give_back_all.ensures.markers ∙ cut_back c.args.markers.now.items c.push.new.self.items
    c.truncate.new.self.items c.args.marker c.len-place.result c.in_ok-push.ensures.items (search rules)
    c.truncate.ensures.items) in
    subst (λ (xs : List Fields). AreIndexed xs c.give_back_all.new.index) back
    (all_same c.args.markers.now.items c.args.index.now c.give_back_all.new.index
    (λ role. c.give_back_all.ensures.places role ∙ c.in-Err.ensures.err role) c.requires.indexed)

pub returns-in-Err-clause-digested : goal.returns-in-Err-clause-digested
returns-in-Err-clause-digested c =
    let ms = c.args.markers.now.items in
    let at : c.len-place.result ≡ length ms = search rules in
    let back = sym (c.give_back_all.ensures.markers ∙ cut_back ms c.push.new.self.items c.truncate.new.self.items
    c.args.marker c.len-place.result c.in_ok-push.ensures.items at c.truncate.ensures.items) in
    let same : SamePlaces c.args.index.now c.give_back_all.new.index =
    λ role. c.give_back_all.ensures.places role ∙ c.in-Err.ensures.err role in
    subst (λ (xs : List Fields). AreDigested xs c.give_back_all.new.index c.add_marker.new.digests) back
    (digested_same ms c.args.index.now c.give_back_all.new.index c.args.digests.now c.add_marker.new.digests
    c.requires.digested same
    (subst (λ n. KeepsOtherDigests n c.args.digests.now c.add_marker.new.digests) at c.in-Err.ensures.kept))
