-- The table of refusals, one check after the other.
use Rattle.std.proofs.Common.{◌≡◌, inr, List, ◌++◌, map, Ok, sym, subst}
use Rattle.hg_changeset.specs.declared.node.Node.{Node}
use Rattle.hg_phases.specs.State.{IsValid}
use Rattle.hg_replica.specs.State.{ReplicaState}
use Rattle.hg_replica.specs.Least.{PartValue, IsAdmitted}
use Rattle.hg_rewrite.specs.declared.op.Op.{Op}
use Rattle.hg_rewrite.specs.declared.op.Op.TheVariants.{Commit, Amend, Split, Fold, Prune, Relocate, Advance}
use Rattle.hg_rewrite.specs.declared.refusal.Refusal.{Refusal}
use Rattle.hg_rewrite.specs.Parts.{part_of, chain, markers, new_changesets}
use Rattle.hg_rewrite.specs.Refusals.{Row, NoneApplies, IsFirstRefusal, unknown_nodes, hidden_parents, public_nodes}
use Rattle.hg_rewrite.specs.Refusals.{obsolete_nodes, not_linear, wrong_count, raise, bad_entries, bad_users}
use Rattle.hg_rewrite.specs.Refusals.{changeset_refused, marker_refused, not_written, not_marked, existing_ids}
use Rattle.hg_rewrite.specs.Refusals.{refusals}
use Rattle.hg_rewrite.specs.Memory.{bad_first}
use Rattle.hg_rewrite.specs.Answer.{IsRefusal, DecideAnswer}
use Rattle.hg_rewrite.proofs.RowLemmas.{none_both, none_sooner, none_later, sooner, later}
use Rattle.hg_rewrite.proofs.FirstLemmas.{none_first}
use Rattle.hg_rewrite.proofs.PartLemmas.{admitted}

-- what names a user outside of an entry writes nothing
writes_nothing : (s : ReplicaState) (op : Op) (r : Refusal) → IsFirstRefusal (bad_users op) r
    → NoneApplies (not_written s op)
unfolding chain
writes_nothing s (Commit p q entry secret) r h = absurd h
writes_nothing s (Amend node entry) r h = absurd h
writes_nothing s (Split node es) r h = absurd h
writes_nothing s (Fold nodes entry) r h = absurd h
writes_nothing s (Prune node user secs offset) r h = tt
writes_nothing s (Relocate node p q entry) r h = absurd h
writes_nothing s (Advance node phase) r h = absurd h

module _ (s : ReplicaState) (op : Op) where
  -- what is written has entries that have texts
  pub entries_written : NoneApplies (not_written s op) → NoneApplies (bad_entries op)
  entries_written written = none_sooner (bad_entries op) (map changeset_refused (new_changesets s.history op)) written

  -- and a first changeset that is at fault in nothing
  pub first_written : NoneApplies (not_written s op) → NoneApplies (bad_first s op)
  first_written written = none_first (new_changesets s.history op)
      (none_later (bad_entries op) (map changeset_refused (new_changesets s.history op)) written)

  -- the users are some, and so are the markers
  pub none_unmarked : NoneApplies (bad_users op) → NoneApplies (map marker_refused (markers s.history op))
      → NoneApplies (not_marked s op)
  none_unmarked named marked = none_both (bad_users op) (map marker_refused (markers s.history op)) named marked

  pub marks_refused : (r : Refusal) → NoneApplies (bad_users op)
      → IsRefusal (map marker_refused (markers s.history op)) r → IsRefusal (not_marked s op) r
  marks_refused r named h = later (bad_users op) (map marker_refused (markers s.history op)) r named h

-- the checks that come before anything is written have passed
pub record ArePassed (s : ReplicaState) (pins : List Node) (op : Op) : Type 0 where
  pub known : NoneApplies (unknown_nodes s op)
  pub visible : NoneApplies (hidden_parents s pins op)
  pub unpublished : NoneApplies (public_nodes s op)
  pub current : NoneApplies (obsolete_nodes s op)
  pub linear : NoneApplies (not_linear s op)
  pub counted : NoneApplies (wrong_count op)
  pub lowered : NoneApplies (raise s op)

module _ (s : ReplicaState) (pins : List Node) (op : Op) where
  -- the rows from those of one refusal on
  abbrev rows_from_unmarked : List Row
  rows_from_unmarked = not_marked s op ++ existing_ids s op

  abbrev rows_from_unwritten : List Row
  rows_from_unwritten = not_written s op ++ rows_from_unmarked

  abbrev rows_from_raise : List Row
  rows_from_raise = raise s op ++ rows_from_unwritten

  abbrev rows_from_count : List Row
  rows_from_count = wrong_count op ++ rows_from_raise

  abbrev rows_from_not_linear : List Row
  rows_from_not_linear = not_linear s op ++ rows_from_count

  abbrev rows_from_obsolete : List Row
  rows_from_obsolete = obsolete_nodes s op ++ rows_from_not_linear

  abbrev rows_from_public : List Row
  rows_from_public = public_nodes s op ++ rows_from_obsolete

  abbrev rows_from_hidden : List Row
  rows_from_hidden = hidden_parents s pins op ++ rows_from_public

  -- what the rows refuse the table refuses
  abbrev Refuse : List Row → Type 0
  Refuse rows = (r : Refusal) → IsRefusal rows r → IsRefusal (refusals s pins op) r

  pub refused_unknown : Refuse (unknown_nodes s op)
  unfolding refusals
  refused_unknown r h = sooner (unknown_nodes s op) rows_from_hidden r h

  -- a check refuses, after those before it have passed
  module _ (known : NoneApplies (unknown_nodes s op)) where
    from_hidden : Refuse rows_from_hidden
    unfolding refusals
    from_hidden r h = later (unknown_nodes s op) rows_from_hidden r known h

    pub refused_hidden : Refuse (hidden_parents s pins op)
    refused_hidden r h = from_hidden r (sooner (hidden_parents s pins op) rows_from_public r h)

    module _ (visible : NoneApplies (hidden_parents s pins op)) where
      from_public : Refuse rows_from_public
      from_public r h = from_hidden r (later (hidden_parents s pins op) rows_from_public r visible h)

      pub refused_public : Refuse (public_nodes s op)
      refused_public r h = from_public r (sooner (public_nodes s op) rows_from_obsolete r h)

      module _ (unpublished : NoneApplies (public_nodes s op)) where
        from_obsolete : Refuse rows_from_obsolete
        from_obsolete r h = from_public r (later (public_nodes s op) rows_from_obsolete r unpublished h)

        pub refused_obsolete : Refuse (obsolete_nodes s op)
        refused_obsolete r h = from_obsolete r (sooner (obsolete_nodes s op) rows_from_not_linear r h)

        module _ (current : NoneApplies (obsolete_nodes s op)) where
          from_not_linear : Refuse rows_from_not_linear
          from_not_linear r h = from_obsolete r (later (obsolete_nodes s op) rows_from_not_linear r current h)

          pub refused_not_linear : Refuse (not_linear s op)
          refused_not_linear r h = from_not_linear r (sooner (not_linear s op) rows_from_count r h)

          module _ (linear : NoneApplies (not_linear s op)) where
            from_count : Refuse rows_from_count
            from_count r h = from_not_linear r (later (not_linear s op) rows_from_count r linear h)

            pub refused_count : Refuse (wrong_count op)
            refused_count r h = from_count r (sooner (wrong_count op) rows_from_raise r h)

            pub refused_raise : NoneApplies (wrong_count op) → Refuse (raise s op)
            refused_raise counted r h = from_count r (later (wrong_count op) rows_from_raise r counted
                (sooner (raise s op) rows_from_unwritten r h))

  module _ (passed : ArePassed s pins op) where
    from_unwritten : Refuse rows_from_unwritten
    from_unwritten r h = from_count passed.known passed.visible passed.unpublished passed.current passed.linear r
        (later (wrong_count op) rows_from_raise r passed.counted
        (later (raise s op) rows_from_unwritten r passed.lowered h))

    pub refused_unwritten : Refuse (not_written s op)
    refused_unwritten r h = from_unwritten r (sooner (not_written s op) rows_from_unmarked r h)

    module _ (written : NoneApplies (not_written s op)) where
      from_unmarked : Refuse rows_from_unmarked
      from_unmarked r h = from_unwritten r (later (not_written s op) rows_from_unmarked r written h)

      pub refused_unmarked : Refuse (not_marked s op)
      refused_unmarked r h = from_unmarked r (sooner (not_marked s op) (existing_ids s op) r h)

      pub refused_existing : NoneApplies (not_marked s op) → Refuse (existing_ids s op)
      refused_existing marked r h = from_unmarked r (later (not_marked s op) (existing_ids s op) r marked h)

    -- the user of a prune, which is tried before anything is written
    pub refused_user : (r : Refusal) → IsFirstRefusal (bad_users op) r → IsRefusal (refusals s pins op) r
    refused_user r h = refused_unmarked (writes_nothing s op r h) r
        (sooner (bad_users op) (map marker_refused (markers s.history op)) r (inr h))

    -- all checks have passed
    pub decided : IsValid s.history → NoneApplies (not_written s op) → NoneApplies (not_marked s op)
        → NoneApplies (existing_ids s op) → (part : PartValue) → part ≡ part_of s op → DecideAnswer s pins op (Ok part)
    unfolding refusals
    decided valid written marked new part is = (
      none_both (unknown_nodes s op) rows_from_hidden passed.known
          (none_both (hidden_parents s pins op) rows_from_public passed.visible
          (none_both (public_nodes s op) rows_from_obsolete passed.unpublished
          (none_both (obsolete_nodes s op) rows_from_not_linear passed.current
          (none_both (not_linear s op) rows_from_count passed.linear
          (none_both (wrong_count op) rows_from_raise passed.counted
          (none_both (raise s op) rows_from_unwritten passed.lowered
          (none_both (not_written s op) rows_from_unmarked written
          (none_both (not_marked s op) (existing_ids s op) marked new)))))))),
      is,
      subst (IsAdmitted s) (sym is) (admitted s valid op passed.known new),
    )
