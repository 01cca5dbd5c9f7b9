-- The laws of contents: of each replica's content, the history's law beside that of sets.
use Rattle.std.specs.Prelude.{◌≡◌, [], ◌∷◌, ◌↔◌}
use Rattle.hg_join.specs.Order.{IsPartialOrder, IsLeastAbove, IsLeastCovering}
use Rattle.hg_history.specs.declared.fault.Fault.{Fault}
use Rattle.hg_history.specs.declared.fault.Fault.TheVariants.{NoMemory}
use Rattle.hg_history.specs.ContentLaws.{contents_ordered, contents_absorbed, contents_stay_covered, contents_again}
use Rattle.hg_history.specs.ContentLaws.{contents_swap, covered_admitted, admitted_faultless, memory_faultless}
use Rattle.hg_history.specs.JoinedLaws.{joins_associate, joins_least, joins_commute, joins_itself, joined_apart}
use Rattle.hg_history.specs.JoinedLaws.{collided_for_good, memory_apart}
use Rattle.hg_obsstore.specs.Sets.{sets_ordered, stays_within, union_absorbed, union_associates, union_least}
use Rattle.hg_obsstore.specs.Sets.{union_commutes, union_idempotent, union_again, union_swap}
use Rattle.hg_obsstore.specs.Growth.{holds}
use Rattle.hg_replica.specs.Least.{PartValue}
use Rattle.hg_replica.specs.Content.{Content, IsValidContent, ContentBelow, ContentsJoined, ContentsCollide}
use Rattle.hg_replica.specs.Content.{ContentCovers, ContentAdmits, ContentAfter, IsContentFault}

pub replicas_ordered : IsPartialOrder IsValidContent ContentBelow
replicas_ordered = record {
  reflexive = λ a v. (contents_ordered.reflexive a.0 v, sets_ordered.reflexive a.1 tt);
  transitive =
      λ a b c u v w p q. (
        contents_ordered.transitive a.0 b.0 c.0 u v w p.0 q.0,
        sets_ordered.transitive a.1 b.1 c.1 tt tt tt p.1 q.1,
      );
  antisymmetric =
      λ a b v w p q i. (
        contents_ordered.antisymmetric a.0 b.0 v w p.0 q.0 i,
        sets_ordered.antisymmetric a.1 b.1 tt tt p.1 q.1 i,
      );
}

-- what covers a part still does when it grows
pub replicas_stay_covered : (a b : Content) (p : PartValue) → IsValidContent a → IsValidContent b → ContentBelow a b →
    ContentCovers a p → ContentCovers b p
replicas_stay_covered a b p v w up c =
    (contents_stay_covered a.0 b.0 p.history v w up.0 c.0, stays_within a.1 b.1 (holds p.markers) tt tt up.1 c.1)

-- what a part leaves is the least valid content above that covers it
pub replicas_absorbed : (a b : Content) (p : PartValue) → IsValidContent a → ContentAfter a p b →
    IsLeastCovering IsValidContent ContentBelow ContentCovers a (p ∷ []) b
replicas_absorbed a b p v h =
    let k = contents_absorbed a.0 b.0 p.history v h.0 in
    let l = union_absorbed a.1 b.1 (holds p.markers) tt h.1 in
    record {
      valid = k.valid;
      above = (k.above, l.above);
      covers = ((k.covers.0, l.covers.0), tt);
      least = λ d w up c. (k.least d.0 w up.0 (c.0.0, tt), l.least d.1 tt up.1 (c.0.1, tt));
    }

-- ---- what a part meets

-- only what is admitted is absorbed
pub replicas_admit : (a b : Content) (p : PartValue) → IsValidContent a → ContentAfter a p b → ContentAdmits a p
replicas_admit a b p v h = h.0.admitted

-- what is admitted has no fault
pub replicas_faultless : (a : Content) (p : PartValue) (fault : Fault) → IsValidContent a → ContentAdmits a p →
    IsContentFault a p fault → ⊥
replicas_faultless a p = admitted_faultless a.0 p.history

-- what is covered is admitted
pub replicas_admit_covered : (a : Content) (p : PartValue) → IsValidContent a → ContentCovers a p → ContentAdmits a p
replicas_admit_covered a p v c = covered_admitted a.0 p.history v c.0

-- what is covered changes nothing
pub replicas_again : (a b : Content) (p : PartValue) → IsValidContent a → ContentCovers a p → ContentAfter a p b → b ≡ a
replicas_again a b p v c h =
    λ i. (contents_again a.0 b.0 p.history v c.0 h.0 i, union_again a.1 b.1 (holds p.markers) tt c.1 h.1 i)

-- two parts leave one content in either order
pub replicas_swap : (a x xy y yx : Content) (p q : PartValue) → IsValidContent a → ContentAfter a p x →
    ContentAfter x q xy → ContentAfter a q y → ContentAfter y p yx → xy ≡ yx
replicas_swap a x xy y yx p q v to_x to_xy to_y to_yx = λ i. (
  contents_swap a.0 x.0 xy.0 y.0 yx.0 p.history q.history v to_x.0 to_xy.0 to_y.0 to_yx.0 i,
  union_swap a.1 x.1 xy.1 y.1 yx.1 (holds p.markers) (holds q.markers) tt to_x.1 to_xy.1 to_y.1 to_yx.1 i,
)

-- want of memory is no fault of a part
pub replicas_memory_faultless : (a : Content) (p : PartValue) (fault : Fault) → IsValidContent a → fault ≡ NoMemory →
    IsContentFault a p fault → ⊥
replicas_memory_faultless a p fault v = memory_faultless a.0 p.history fault

-- ---- what another replica meets

-- contents that have a join don't collide
pub replicas_apart : (a b c : Content) (fault : Fault) → IsValidContent a → IsValidContent b → ContentsJoined a b c →
    ContentsCollide a b fault → ⊥
replicas_apart a b c fault v w j = joined_apart a.0 b.0 c.0 fault j.0

-- what collides has no valid content above both
pub replicas_collide_for_good : (a b c : Content) (fault : Fault) → IsValidContent a → IsValidContent b →
    IsValidContent c → ContentBelow a c → ContentBelow b c → ContentsCollide a b fault → ⊥
replicas_collide_for_good a b c fault u v w p q = collided_for_good a.0 b.0 c.0 fault p.0 q.0

-- want of memory is no collision
pub replicas_memory_apart : (a b : Content) (fault : Fault) → IsValidContent a → IsValidContent b → fault ≡ NoMemory →
    ContentsCollide a b fault → ⊥
replicas_memory_apart a b fault v w = memory_apart a.0 b.0 fault

-- joins in either order
pub replicas_commute : (a b c : Content) → IsValidContent a → IsValidContent b →
    ContentsJoined a b c ↔ ContentsJoined b a c
replicas_commute a b c v w = (
  λ h. (joins_commute a.0 b.0 c.0 h.0, union_commutes a.1 b.1 c.1 h.1),
  λ h. (joins_commute b.0 a.0 c.0 h.0, union_commutes b.1 a.1 c.1 h.1),
)

-- a content joined with itself
pub replicas_join_themselves : (a : Content) → IsValidContent a → ContentsJoined a a a
replicas_join_themselves a v = (joins_itself a.0, union_idempotent a.1)

-- joins of three, however they are grouped
pub replicas_associate : (a b c d : Content) → IsValidContent a → IsValidContent b → IsValidContent c →
    ((ab : Content) × ContentsJoined a b ab × ContentsJoined ab c d)
    ↔ ((bc : Content) × ContentsJoined b c bc × ContentsJoined a bc d)
replicas_associate a b c d u v w =
    let one = joins_associate a.0 b.0 c.0 d.0 in
    let two = union_associates a.1 b.1 c.1 d.1 in (
      λ h.
          let x = one.0 (h.0.0, h.1.0, h.2.0) in
          let y = two.0 (h.0.1, h.1.1, h.2.1) in ((x.0, y.0), (x.1, y.1), (x.2, y.2)),
      λ h.
          let x = one.1 (h.0.0, h.1.0, h.2.0) in
          let y = two.1 (h.0.1, h.1.1, h.2.1) in ((x.0, y.0), (x.1, y.1), (x.2, y.2)),
    )

-- the join is the least valid content above both
pub replicas_least : (a b c : Content) → IsValidContent a → IsValidContent b → ContentsJoined a b c →
    IsLeastAbove IsValidContent ContentBelow a b c
replicas_least a b c v w h =
    let k = joins_least a.0 b.0 c.0 v w h.0 in
    let l = union_least a.1 b.1 c.1 h.1 in
    record {
      valid = k.valid;
      above_first = (k.above_first, l.above_first);
      above_second = (k.above_second, l.above_second);
      least = λ d z p q. (k.least d.0 z p.0 q.0, l.least d.1 tt p.1 q.1);
    }
