-- What stands on an orphan.
use Rattle.std.proofs.Common.{◌≡◌, inl, inr, sym, ap, subst, arith}
use Rattle.hg_changeset.specs.declared.node.Node.{Node}
use Rattle.hg_phases.specs.declared.phase.Phase.TheVariants.{Public}
use Rattle.hg_phases.specs.State.{Reaches, rank}
use Rattle.hg_phases.proofs.RankLemmas.{rank-apart}
use Rattle.hg_history.specs.Content.{Content as HistoryContent, IsHeld, Leads}
use Rattle.hg_history.specs.Content.Leads.{itself, below}
use Rattle.hg_history.specs.ContentLaws.{leads-low}
use Rattle.hg_history.proofs.ContentLemmas.{leads_from_reach}
use Rattle.hg_replica.specs.State.{ReplicaState, IsValid}
use Rattle.hg_replica.specs.Content.{Content, IsValidContent, content_of}
use Rattle.hg_replica.specs.Evolution.{IsMutable, IsObsolete, IsOrphan}
use Rattle.hg_replica.proofs.ContentLemmas.{content-valid}
use Rattle.hg_changeset.specs.EntryValue.{EntryValue}
use Rattle.hg_rewrite.specs.declared.op.Op.{Op}
use Rattle.hg_rewrite.specs.declared.op.Op.TheVariants.{Relocate}
use Rattle.hg_rewrite.specs.Refusals.{NoneApplies, not_linear}
use Rattle.hg_view.proofs.LawLemmas.{leads-along}

held-below : (f : HistoryContent) (a n : Node) → Leads f a n → IsHeld f a → IsHeld f n
held-below f a n itself held = held
held-below f a n (below {h = h} r at is) held = (h, at)

mutable-below : (f : Content) → IsValidContent f → (a n : Node) → Leads f.0 a n → IsMutable f a → IsMutable f n
mutable-below f valid a n leads mutable =
    let held = held-below f.0 a n leads (mutable.0, mutable.1) in
    let low = leads-low f.0 valid a n leads mutable.0 held.0 mutable.1 held.1 in (
      held.0,
      held.1,
      λ public.
          let none : rank held.0.phase ≡ 0 = ap rank public in
          mutable.2 (rank-apart mutable.0.phase Public (omega (arith, low, none))),
    )

-- what stands on an orphan is an orphan itself, where it isn't obsolete
pub not_below_orphan : (s : ReplicaState) → IsValid s → (a n : Node) → IsOrphan (content_of s) a
    → ¬ (IsOrphan (content_of s) n) → ¬ (IsObsolete (content_of s) n) → ¬ (Reaches s.history a n)
not_below_orphan s valid a n orphan stands current reaches =
    let f = content_of s in
    let leads = leads_from_reach s.history valid.graph a n reaches in
    let mutable = mutable-below f (content-valid s valid) a n leads orphan.0.0 in
    let root = orphan.1 in
    stands ((mutable, current), (root.0, ((mutable.0, mutable.1), leads-along f.0 root.0 a n root.1.1 leads), root.2))

-- a relocation is linear where the node stands above neither new parent
pub apart_linear : (s : ReplicaState) (op : Op) (node p q : Node) (entry : EntryValue) → op ≡ Relocate node p q entry
    → ¬ (Reaches s.history node p) → ¬ (Reaches s.history node q) → NoneApplies (not_linear s op)
apart_linear s op node p q entry is not_p not_q = subst (λ (o : Op). NoneApplies (not_linear s o)) (sym is)
    ((λ a. elim a.1.0 [ inl first ↦ not_p first | inr second ↦ not_q second ]), tt)
