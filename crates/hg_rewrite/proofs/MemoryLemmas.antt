-- Where memory may be wanting.
use Rattle.std.proofs.Common.{◌≡◌, ◌<◌, ◌⊎◌, inl, inr, List, [], ◌∷◌, ◌++◌, length, map, take, Result, Ok, Err, sym}
use Rattle.std.proofs.Common.{IsErrAnd, subst, ◌∙◌, arith}
use Rattle.hg_changeset.specs.declared.node.Node.{Node}
use Rattle.hg_replica.specs.State.{ReplicaState}
use Rattle.hg_replica.specs.Content.{content_of}
use Rattle.hg_replica.specs.Evolution.{IsObsolete}
use Rattle.hg_rewrite.specs.declared.op.Op.{Op}
use Rattle.hg_rewrite.specs.declared.op.Op.TheVariants.{Commit, Amend, Split, Fold, Prune, Relocate, Advance}
use Rattle.hg_rewrite.specs.declared.refusal.Refusal.{Refusal}
use Rattle.hg_rewrite.specs.declared.refusal.Refusal.TheVariants.{NoMemory}
use Rattle.hg_rewrite.specs.Refusals.{Row, NoneApplies, IsFirstRefusal, new_parents, unknown_nodes, hidden_parents}
use Rattle.hg_rewrite.specs.Refusals.{public_nodes, obsolete_nodes, not_linear, wrong_count, raise, bad_entries}
use Rattle.hg_rewrite.specs.Refusals.{bad_users, marker_refused}
use Rattle.hg_rewrite.specs.Memory.{WalksForHidden, WalksForDescendants, rows_before_descendants, MayWantMemory}
use Rattle.hg_rewrite.specs.Memory.{MayWantMemoryLater, bad_first, bad_prune}
use Rattle.hg_rewrite.specs.Parts.{made, marker, markers, metadata, new_ids, rewritten, chain}
use Rattle.hg_rewrite.proofs.RowLemmas.{none_both}
use Rattle.hg_rewrite.proofs.DecideLemmas.{ArePassed}
use Rattle.hg_rewrite.proofs.TableLemmas.{AreTelling, no_memory}

-- one of the two parents that it names is obsolete
either : (s : ReplicaState) (a b p q : Node) → a ∷ b ∷ [] ≡ p ∷ q ∷ []
    → IsObsolete (content_of s) p ⊎ IsObsolete (content_of s) q
    → IsObsolete (content_of s) a ⊎ IsObsolete (content_of s) b
either s a b p q e (inl h) = let same : a ≡ p = cc in inl (subst (IsObsolete (content_of s)) (sym same) h)
either s a b p q e (inr h) = let same : b ≡ q = cc in inr (subst (IsObsolete (content_of s)) (sym same) h)

pub walks_for_hidden : (s : ReplicaState) (op : Op) (p q : Node) → new_parents op ≡ p ∷ q ∷ []
    → IsObsolete (content_of s) p ⊎ IsObsolete (content_of s) q → WalksForHidden s op
walks_for_hidden s (Commit a b entry secret) p q e h = either s a b p q e h
walks_for_hidden s (Amend node entry) p q e h = cc
walks_for_hidden s (Split node es) p q e h = cc
walks_for_hidden s (Fold nodes entry) p q e h = cc
walks_for_hidden s (Prune node user secs offset) p q e h = cc
walks_for_hidden s (Relocate node a b entry) p q e h = either s a b p q e h
walks_for_hidden s (Advance node phase) p q e h = cc

-- the refusal that a call passes on is want of memory
pub told : {X : Type 0} (answer : Result X Refusal) (r : Refusal) → IsErrAnd answer (λ passed. passed ≡ r)
    → answer ≡ Err NoMemory → r ≡ NoMemory
told (Ok x) r is memory = absurd is
told (Err passed) r is memory = let e : passed ≡ NoMemory = cc in sym is ∙ e

-- a row's refusal never is
pub never : {A : Type 0} (rows : List Row) (r : Refusal) → AreTelling rows → IsFirstRefusal rows r → r ≡ NoMemory → A
never rows r tells first is = absurd (no_memory rows tells (subst (IsFirstRefusal rows) is first))

module _ (s : ReplicaState) (pins : List Node) (op : Op) where
  pub wanting_hidden : NoneApplies (unknown_nodes s op) → WalksForHidden s op → MayWantMemory s pins op
  wanting_hidden known walks = inl (known, walks)

  before : NoneApplies (unknown_nodes s op) → NoneApplies (hidden_parents s pins op) → NoneApplies (public_nodes s op)
      → NoneApplies (obsolete_nodes s op) → NoneApplies (rows_before_descendants s pins op)
  before known visible unpublished current =
      none_both (unknown_nodes s op) _ known
      (none_both (hidden_parents s pins op) _ visible
      (none_both (public_nodes s op) (obsolete_nodes s op) unpublished current))

  pub wanting_descendants : NoneApplies (unknown_nodes s op) → NoneApplies (hidden_parents s pins op)
      → NoneApplies (public_nodes s op) → NoneApplies (obsolete_nodes s op) → WalksForDescendants s.history op
      → MayWantMemoryLater s pins op
  wanting_descendants known visible unpublished current walks = inl (before known visible unpublished current, walks)

  pub wanting_later : ArePassed s pins op → NoneApplies (bad_entries op) → NoneApplies (bad_first s op)
      → NoneApplies (bad_users op) → NoneApplies (bad_prune s op) → MayWantMemoryLater s pins op
  wanting_later passed entered begun named pruned =
      let marked = bad_users op ++ bad_prune s op in
      let written = bad_entries op ++ (bad_first s op ++ marked) in
      inr (
        before passed.known passed.visible passed.unpublished passed.current,
        none_both (not_linear s op) (wrong_count op ++ (raise s op ++ written)) passed.linear
            (none_both (wrong_count op) (raise s op ++ written) passed.counted
            (none_both (raise s op) written passed.lowered
            (none_both (bad_entries op) (bad_first s op ++ marked) entered
            (none_both (bad_first s op) marked begun
            (none_both (bad_users op) (bad_prune s op) named pruned))))),
      )

-- ---- the marker of a prune

-- an operation that makes changesets is none
pub no_prune : (s : ReplicaState) (op : Op) → 1 < length (made s.history op) → NoneApplies (bad_prune s op)
unfolding chain
no_prune s (Commit p q entry secret) some = tt
no_prune s (Amend node entry) some = tt
no_prune s (Split node es) some = tt
no_prune s (Fold nodes entry) some = tt
no_prune s (Prune node user secs offset) some = absurd (omega (arith, some))
no_prune s (Relocate node p q entry) some = tt
no_prune s (Advance node phase) some = tt

-- it has one marker
pub prune_marked : (s : ReplicaState) (op : Op)
    → NoneApplies (map marker_refused
    (map (marker (metadata s.history op) (new_ids s.history op)) (take 1 (rewritten op))))
    → NoneApplies (bad_prune s op)
prune_marked s (Commit p q entry secret) h = tt
prune_marked s (Amend node entry) h = tt
prune_marked s (Split node es) h = tt
prune_marked s (Fold nodes entry) h = tt
prune_marked s (Prune node user secs offset) h = h
prune_marked s (Relocate node p q entry) h = tt
prune_marked s (Advance node phase) h = tt

pub all_marked : (s : ReplicaState) (op : Op) → NoneApplies (map marker_refused (markers s.history op))
    → NoneApplies (bad_prune s op)
all_marked s (Commit p q entry secret) h = tt
all_marked s (Amend node entry) h = tt
all_marked s (Split node es) h = tt
all_marked s (Fold nodes entry) h = tt
all_marked s (Prune node user secs offset) h = h
all_marked s (Relocate node p q entry) h = tt
all_marked s (Advance node phase) h = tt
