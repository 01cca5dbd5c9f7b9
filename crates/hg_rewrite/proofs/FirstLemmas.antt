-- The first new changeset, as far as it is seen before its text is written.
use Rattle.std.proofs.Common.{◌≡◌, List, [], ◌∷◌, map, Some, None, inl, refl, sym, ap, ◌∙◌}
use Rattle.std.specs.Prelude.{if◌then◌else◌}
use Rattle.std.specs.Option.{option_or}
use Rattle.std.proofs.lemmas.Option.{none-some}
use Rattle.hg_changeset.specs.declared.node.Node.{Node}
use Rattle.hg_changeset.specs.declared.changeset.ChangesetError.{ChangesetError}
use Rattle.hg_changeset.specs.declared.changeset.ChangesetError.TheVariants.{NullNode}
use Rattle.hg_changeset.specs.Node.{node_eq, null_node}
use Rattle.hg_changeset.specs.Changeset.{node_of, changeset_of, changeset_fault, fault_before_hashing}
use Rattle.hg_changeset.specs.EntryValue.{EntryValue}
use Rattle.hg_changeset.specs.EntryText.{entry_text}
use Rattle.hg_changeset.proofs.ChangesetLemmas.{seen_first}
use Rattle.hg_rewrite.specs.declared.refusal.Refusal.TheVariants.{Fault}
use Rattle.hg_rewrite.specs.declared.refusal.Cause.TheVariants.{Changeset}
use Rattle.hg_rewrite.specs.Parts.{NewChangeset, chain, written}
use Rattle.hg_rewrite.specs.Refusals.{NoneApplies, IsFirstRefusal, entry_refused, changeset_refused, unwritten}
use Rattle.hg_rewrite.specs.Memory.{refused_first}
use Rattle.hg_rewrite.proofs.RowLemmas.{first_later}

-- what is seen before is a fault of the changeset
whole_fault : (n : NewChangeset) (f : ChangesetError) → fault_before_hashing n.p n.q n.text ≡ Some f
    → changeset_fault n.p n.q n.text ≡ Some f
whole_fault n f h =
    seen_first n.p n.q n.text
    ∙ ap (λ o. option_or o
    (if node_eq (node_of (changeset_of n.p n.q n.text)) null_node then Some NullNode else None)) h

-- where no changeset is at fault the first isn't
pub none_first : (new : List NewChangeset) → NoneApplies (map changeset_refused new) → NoneApplies (refused_first new)
none_first [] none = tt
none_first (n ∷ new) none = ((λ a. none.0 (a.0, (a.1.0, whole_fault n a.1.0 a.1.1, a.1.2))), tt)

module _ (on : Node × Node) (e : EntryValue) (es : List EntryValue) where
  -- nothing is seen
  pub none_seen : fault_before_hashing on.0 on.1 (entry_text e) ≡ None
      → NoneApplies (refused_first (written on (e ∷ es)))
  unfolding chain
  none_seen fine = ((λ a. none-some a.1.0 (sym fine ∙ a.1.1)), tt)

  -- something is seen, and no entry is at fault
  pub first_seen : NoneApplies (map entry_refused (e ∷ es)) → (f : ChangesetError)
      → fault_before_hashing on.0 on.1 (entry_text e) ≡ Some f
      → IsFirstRefusal (unwritten (e ∷ es) (written on (e ∷ es))) (Fault (Changeset f))
  unfolding chain
  first_seen none f fault =
      first_later (map entry_refused (e ∷ es)) (map changeset_refused (written on (e ∷ es))) (Fault (Changeset f)) none
      (inl (f, whole_fault (record { p = on.0; q = on.1; text = entry_text e }) f fault, refl))
