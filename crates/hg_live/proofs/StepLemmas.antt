-- Accepted calls of a node are steps of a world of one peer.
use Rattle.std.proofs.Common.{ℕ, List, [], ◌∷◌, Ok, refl, sym, subst}
use Rattle.hg_replica.specs.State.{IsValid}
use Rattle.hg_replica.specs.Answer.{AbsorbAnswer}
use Rattle.hg_replica.specs.Least.{PartValue}
use Rattle.hg_replica.proofs.ContentLemmas.{absorbed-content}
use Rattle.hg_view.specs.Kept.{KeptValue}
use Rattle.hg_rewrite.specs.declared.op.Op.{Op}
use Rattle.hg_world.specs.declared.event.Event.TheVariants as event
use Rattle.hg_world.specs.Runs.{Absorbs}
use Rattle.hg_peer.specs.declared.mark.Mark.{Mark as MarkValue}
use Rattle.hg_peer.specs.Marks.{Marks}
use Rattle.hg_peer.specs.Words.{peer_state}
use Rattle.hg_live.specs.declared.entry.Entry.{Entry}
use Rattle.hg_live.specs.declared.entry.Entry.TheVariants.{Part, Mark}
use Rattle.hg_live.specs.After.{IsNext}
use Rattle.hg_live.specs.Calls.{EntersLocal, EntersBytes, EntersMark}
use Rattle.hg_live.specs.Steps.{IsStep}

-- the peer absorbs the part
absorbs : (s t : KeptValue) (k : PartValue) → IsValid s.replica → (h : IsNext s (Part k) t) →
    Absorbs peer_state s k h.0.0 t
unfolding AbsorbAnswer
absorbs s t k valid h = record {
  after = absorbed-content s.replica t.replica k (Ok h.0.0) valid h.0.1;
  tells = (h.0.1, h.1);
}

pub decided_alone : (s t : KeptValue) (op : Op) (entry : Entry) → EntersLocal op s entry → IsNext s entry t →
    IsStep [] s (event.Local 0 op) entry t
decided_alone s t op (Part k) so h = (h.0.0, (s, t, refl, so, absorbs s t k so.0 h, refl, refl))
decided_alone s t op (Mark m) so h = absurd so

pub taken_alone : (s t : KeptValue) (bytes : List ℕ) (entry : Entry) → IsValid s.replica →
    EntersBytes bytes s entry → IsNext s entry t → IsStep (bytes ∷ []) s (event.Take 0 0) entry t
taken_alone s t bytes (Part k) valid so h =
    (h.0.0, (s, t, refl, (bytes, refl, so), absorbs s t k valid h, refl, refl))
taken_alone s t bytes (Mark m) valid so h = absurd so

pub marked_alone : (s t : KeptValue) (m : MarkValue) (entry : Entry) → EntersMark m s entry → IsNext s entry t →
    IsStep [] s (event.Mark 0 m) entry t
marked_alone s t m entry so h =
    let marks : Marks s m t = subst (λ (e : Entry). IsNext s e t) so h in
    subst (λ (e : Entry). IsStep [] s (event.Mark 0 m) e t) (sym so) (s, t, refl, marks, refl, refl)
