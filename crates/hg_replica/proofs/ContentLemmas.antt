-- Contents say what states say.
use Rattle.std.proofs.Common.{◌≡◌, [], ◌∷◌, Contains, Result, Ok, Err, OnOk, OnErr, IfOk, IfErr, ◌↔◌, ◌⊎◌, inl, inr}
use Rattle.std.proofs.Common.{refl, sym, ap, subst, ◌∙◌}
use Rattle.hg_marker.specs.Fields.{Fields}
use Rattle.hg_phases.specs.State.{changesets}
use Rattle.hg_phases.proofs.ContentLemmas.{content-same as history-same, same_from_content as history_from_same}
use Rattle.hg_history.specs.declared.fault.Fault.{Fault}
use Rattle.hg_history.specs.declared.fault.Fault.TheVariants.{UnknownParent, Collision, UnknownBound, NullBound}
use Rattle.hg_history.specs.declared.fault.Fault.TheVariants.{NoMemory}
use Rattle.hg_history.specs.Answer.{IsFirstFault, IsRefusal}
use Rattle.hg_history.specs.Change.{unheld}
use Rattle.hg_history.proofs.ContentLemmas.{content-valid as history-valid, content-below as history-below}
use Rattle.hg_history.proofs.ContentLemmas.{below_from_content as history_from_below, content-covers as history-covers}
use Rattle.hg_history.proofs.ContentLemmas.{covers_from_content as history_from_covers, content-after as history-after}
use Rattle.hg_history.proofs.ContentLemmas.{least_from_content as history_from_least, content-fault as history-fault}
use Rattle.hg_history.proofs.ContentLemmas.{fault_from_content as history_from_fault}
use Rattle.hg_history.proofs.JoinLemmas.{join-contents as history-join, join_from_content as history_from_join}
use Rattle.hg_history.proofs.JoinLemmas.{collide-contents as history-collide}
use Rattle.hg_obsstore.specs.Sets.{IsUnion}
use Rattle.hg_obsstore.specs.Growth.{holds, new_among}
use Rattle.hg_replica.specs.State.{ReplicaState, IsValid, Below, IsSameState}
use Rattle.hg_replica.specs.Least.{PartValue, Covers, IsAdmitted, IsMarkerOfOne, IsLeast}
use Rattle.hg_replica.specs.Change.{ChangeValue, TellsChange}
use Rattle.hg_replica.specs.Answer.{AbsorbAnswer, IsJoin, JoinAnswer, IsAbsorbed}
use Rattle.hg_replica.specs.Content.{Content, content_of, IsValidContent, ContentBelow, ContentCovers, ContentAfter}
use Rattle.hg_replica.specs.Content.{ContentsJoined, ContentsCollide, IsContentFault}
use Rattle.hg_replica.proofs.MarkerLemmas.{within-sets, union-sets, same-sets}
use Rattle.hg_replica.proofs.LeastLemmas.{marker_of_one, least-valid}

pub content-valid : (s : ReplicaState) → IsValid s → IsValidContent (content_of s)
content-valid s valid = history-valid s.history valid

pub content-below : (s t : ReplicaState) → IsValid t → Below s t → ContentBelow (content_of s) (content_of t)
content-below s t valid below =
    (history-below s.history t.history valid.graph below.history, (within-sets s.markers t.markers).0 below.markers)

pub below_from_content : (s t : ReplicaState) → IsValid s → ContentBelow (content_of s) (content_of t) → Below s t
below_from_content s t valid below = record {
  history = history_from_below s.history t.history valid.graph below.0;
  markers = (within-sets s.markers t.markers).1 below.1;
}

pub content-same : (s t : ReplicaState) → IsValid s → IsValid t → IsSameState s t → content_of s ≡ content_of t
content-same s t v w same i = (
  history-same s.history t.history v.graph w.graph (same.0.history, same.1.history) i,
  same-sets s.markers t.markers same.0.markers same.1.markers i,
)

-- what is said of contents is said of each state that has the content
pub content-alike : (Q : Content → Type 0) (s t : ReplicaState) → IsValid s → IsValid t → IsSameState s t →
    Q (content_of s) ↔ Q (content_of t)
content-alike Q s t v w same = (subst Q (content-same s t v w same), subst Q (sym (content-same s t v w same)))

pub same_from_content : (s t : ReplicaState) → IsValid s → IsValid t → content_of s ≡ content_of t → IsSameState s t
same_from_content s t v w e =
    let h = history_from_same s.history t.history v.graph w.graph (ap (λ c. c.0) e) in
    let m = ap (λ c. c.1) e in (
      record {
        history = h.0;
        markers = (within-sets s.markers t.markers).1 (λ k is. sym (ap (λ (f : Fields → _). f k) m) ∙ is);
      },
      record {
        history = h.1;
        markers = (within-sets t.markers s.markers).1 (λ k is. ap (λ (f : Fields → _). f k) m ∙ is);
      },
    )

pub content-covers : (s : ReplicaState) (k : PartValue) → IsValid s → Covers s k → ContentCovers (content_of s) k
content-covers s k valid covers =
    (history-covers s.history k.history valid.graph covers.history, (within-sets k.markers s.markers).0 covers.markers)

pub covers_from_content : (s : ReplicaState) (k : PartValue) → IsValid s → ContentCovers (content_of s) k → Covers s k
covers_from_content s k valid covers = record {
  history = history_from_covers s.history k.history valid.graph covers.0;
  markers = (within-sets k.markers s.markers).1 covers.1;
}

-- the union with one part's markers
pub least-union : (s : ReplicaState) (k : PartValue) (t : ReplicaState) →
    ((m : Fields) → Contains t.markers m ↔ (Contains s.markers m ⊎ IsMarkerOfOne (k ∷ []) m))
    ↔ IsUnion (holds s.markers) (holds k.markers) (holds t.markers)
least-union s k t =
    let sets = union-sets s.markers k.markers t.markers in (
      λ h. sets.0 (λ m. (
        λ at. elim ((h m).0 at) [ inl x ↦ inl x | inr p ↦ inr ((marker_of_one k m).0 p) ],
        λ x. elim x [ inl y ↦ (h m).1 (inl y) | inr y ↦ (h m).1 (inr ((marker_of_one k m).1 y)) ],
      )),
      λ u m. let h = sets.1 u m in (
        λ at. elim (h.0 at) [ inl x ↦ inl x | inr y ↦ inr ((marker_of_one k m).1 y) ],
        λ x. elim x [ inl y ↦ h.1 (inl y) | inr p ↦ h.1 (inr ((marker_of_one k m).0 p)) ],
      ),
    )

pub content-after : (s t : ReplicaState) (k : PartValue) → IsValid s → IsValid t → IsAdmitted s k →
    IsLeast s (k ∷ []) t → ContentAfter (content_of s) k (content_of t)
content-after s t k v w admitted least =
    (history-after s.history t.history k.history v w.graph least.history admitted, (least-union s k t).0 least.markers)

pub least_from_content : (s t : ReplicaState) (k : PartValue) → IsValid s → IsValid t →
    ContentAfter (content_of s) k (content_of t) → IsAdmitted s k × IsLeast s (k ∷ []) t
least_from_content s t k v w after =
    let h = history_from_least s.history t.history k.history v w.graph after.0 in
    (h.0, record { history = h.1; markers = (least-union s k t).1 after.1 })

pub content-fault : (s : ReplicaState) (k : PartValue) (fault : Fault) → IsValid s →
    IsFirstFault (changesets s.history) k.history fault → IsContentFault (content_of s) k fault
content-fault s k fault valid h = history-fault s.history k.history fault valid.graph h

pub fault_from_content : (s : ReplicaState) (k : PartValue) (fault : Fault) → IsValid s →
    IsContentFault (content_of s) k fault → IsFirstFault (changesets s.history) k.history fault
fault_from_content s k fault valid h = history_from_fault s.history k.history fault valid.graph h

pub join-contents : (s o t : ReplicaState) → IsValid s → IsValid o → IsValid t → IsJoin s o t →
    ContentsJoined (content_of s) (content_of o) (content_of t)
join-contents s o t u v w join = (
  history-join s.history o.history t.history u.graph v.graph w.graph join.history,
  (union-sets s.markers o.markers t.markers).0 join.markers,
)

pub join_from_content : (s o t : ReplicaState) → IsValid s → IsValid o → IsValid t →
    ContentsJoined (content_of s) (content_of o) (content_of t) → IsJoin s o t
join_from_content s o t u v w h = record {
  history = history_from_join s.history o.history t.history u.graph v.graph w.graph h.0;
  markers = (union-sets s.markers o.markers t.markers).1 h.1;
}

-- ---- answers, in the words of contents

-- what absorbing leaves is the content after the part
pub absorbed-content : (s t : ReplicaState) (k : PartValue) (r : Result ChangeValue Fault) → IsValid s →
    AbsorbAnswer s k r t → OnOk r (ContentAfter (content_of s) k (content_of t))
unfolding AbsorbAnswer
absorbed-content s t k (Ok change) valid h =
    content-after s t k valid (least-valid s (k ∷ []) t h.least valid) h.admitted h.least
absorbed-content s t k (Err fault) valid h = tt

-- and its refusals are at fault, or for want of memory
pub refused-content : (s t : ReplicaState) (k : PartValue) (r : Result ChangeValue Fault) → IsValid s →
    AbsorbAnswer s k r t → IfErr r (λ fault. IsContentFault (content_of s) k fault ⊎ (fault ≡ NoMemory))
unfolding AbsorbAnswer
refused-content s t k (Ok change) valid h = tt
refused-content s t k (Err fault) valid h = by fault h.0
  where
    by : (fault : Fault) → IsRefusal (changesets s.history) k.history fault → IsContentFault (content_of s) k fault
        ⊎ (fault ≡ NoMemory)
    by (UnknownParent p) x = inl (content-fault s k (UnknownParent p) valid x)
    by (Collision n) x = inl (content-fault s k (Collision n) valid x)
    by (UnknownBound n) x = inl (content-fault s k (UnknownBound n) valid x)
    by NullBound x = inl (content-fault s k NullBound valid x)
    by NoMemory x = inr refl

-- the answer tells what was absorbed
pub absorbed-told : (s t : ReplicaState) (k : PartValue) (r : Result ChangeValue Fault) → AbsorbAnswer s k r t →
    IfOk r (λ change. IsAbsorbed s k change t)
unfolding AbsorbAnswer
absorbed-told s t k (Ok change) h = h
absorbed-told s t k (Err fault) h = tt

-- and what became of the state, whatever the part was
pub told-change : (s t : ReplicaState) (k : PartValue) (change : ChangeValue) → IsAbsorbed s k change t →
    TellsChange s change t
told-change s t k change h = record {
  history =
      record {
        new = unheld (changesets s.history) k.history.changesets;
        order = h.order;
        added = h.added;
        lowered = h.lowered;
      };
  markers = record { first = (new_among s.markers k.markers, h.marker_order); places = h.markers };
}

pub unchanged : (s t : ReplicaState) (k : PartValue) (r : Result ChangeValue Fault) → AbsorbAnswer s k r t →
    OnErr r (t ≡ s)
unfolding AbsorbAnswer
unchanged s t k (Ok change) h = tt
unchanged s t k (Err fault) h = h.1

pub joined-content : (s o t : ReplicaState) (r : Result Unit Fault) → IsValid s → IsValid o → JoinAnswer s o r t →
    OnOk r (ContentsJoined (content_of s) (content_of o) (content_of t))
unfolding JoinAnswer
joined-content s o t (Ok u) v w h = join-contents s o t v w h.0 h.1
joined-content s o t (Err fault) v w h = tt

pub refused-join : (s o t : ReplicaState) (r : Result Unit Fault) → IsValid s → IsValid o → JoinAnswer s o r t →
    IfErr r (λ fault. ContentsCollide (content_of s) (content_of o) fault ⊎ (fault ≡ NoMemory))
unfolding JoinAnswer
refused-join s o t (Ok u) v w h = tt
refused-join s o t (Err fault) v w h = history-collide s.history o.history v.graph w.graph fault h.0

pub join-unchanged : (s o t : ReplicaState) (r : Result Unit Fault) → JoinAnswer s o r t → OnErr r (t ≡ s)
unfolding JoinAnswer
join-unchanged s o t (Ok u) h = tt
join-unchanged s o t (Err fault) h = h.1
