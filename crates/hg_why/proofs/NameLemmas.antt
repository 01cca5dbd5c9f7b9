-- What changesets are called.
use Rattle.std.proofs.Common.{◌≡◌, Option, None, Some, Contains, refl, sym, ap, ◌∙◌}
use Rattle.std.specs.Option.{option_and_then}
use Rattle.hg_changeset.specs.declared.node.Node.{Node}
use Rattle.hg_changeset.specs.Contents.{Contents}
use Rattle.hg_changeset.specs.Changeset.{node_of}
use Rattle.hg_phases.specs.State.{Held, Holds, changesets}
use Rattle.hg_history.proofs.ContentLemmas.{content-changeset, node_in_content}
use Rattle.hg_replica.specs.State.{ReplicaState, IsValid}
use Rattle.hg_replica.specs.Content.{content_of}
use Rattle.hg_log.specs.Drawings.{Text}
use Rattle.hg_log.specs.Titles.{title}
use Rattle.hg_why.specs.Names.{title_at}

abbrev title_in : Option Held → Option Text
title_in held = option_and_then (λ h. title h.changeset.text) held

module _ (s : ReplicaState) (v : IsValid s) (n : Node) where
  pub title-found : (c : Contents) → Contains (changesets s.history) c → node_of c ≡ n
      → title c.text ≡ title_at (content_of s) n
  title-found c at is =
      let h = content-changeset s.history v.graph n c at is in
      ap (λ (d : Contents). title d.text) (sym h.2) ∙ ap title_in (sym h.1)

  pub title-missing : ¬ (Holds s.history n) → None ≡ title_at (content_of s) n
  title-missing missing = by ((content_of s).0 n) refl
    where
      by : (o : Option Held) → (content_of s).0 n ≡ o → None ≡ title_in o
      by None is = refl
      by (Some h) is = absurd (missing (node_in_content s.history v.graph n (h, is)))
