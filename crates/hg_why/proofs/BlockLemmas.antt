-- Blocks that are written one after the other.
use Rattle.std.proofs.Common.{◌≡◌, ◌+◌, ℕ, suc, ◌++◌, [], List, Option, refl, sym, subst, ◌∙◌, append_assoc, arith}
use Rattle.std.proofs.Common.{inl, inr, length, codes}
use Rattle.std.specs.Io.KnownBytes.{Appends}
use Rattle.std.proofs.KnownBytes.{Appends-nil, Appends-trans}
use Rattle.std.proofs.lemmas.List.{append-nil}
use Rattle.std.proofs.lemmas.Option.{same_Some}
use Rattle.hg_changeset.specs.declared.node.Node.{Node}
use Rattle.hg_phases.specs.State.{changesets}
use Rattle.hg_replica.specs.Content.{content_of}
use Rattle.hg_view.specs.Kept.{KeptValue}
use Rattle.hg_log.specs.Drawings.{IsLine, StandsAt, Text}
use Rattle.hg_log.specs.Kinds.{IsUnstable}
use Rattle.hg_why.specs.declared.reason.Reason.{Reason}
use Rattle.hg_why.specs.Blocks.{AreBlocks, IsBlockAt, IsBlockOf, IsWhy}
use Rattle.hg_why.specs.Causes.{AreReasons}

-- the heading is written, and the blocks of so many places
abbrev pub AreWritten : Text → KeptValue → ℕ → Option Text → Option Text → Type 0
AreWritten name kept place held holds =
    (heading : Text) × (blocks : Text) × IsLine (codes "why " ++ name) heading × AreBlocks kept place blocks
    × Appends held holds (heading ++ blocks)

pub first-written : (name line : Text) (kept : KeptValue) (a b : Option Text) → line ≡ codes "why " ++ name
    → ((text : Text) × IsLine line text × Appends a b text) → AreWritten name kept 0 a b
first-written name line kept a b is written = (
  written.0,
  [],
  subst (λ (l : Text). IsLine l written.0) is written.1,
  refl,
  subst (Appends a b) (sym (append-nil written.0)) written.2,
)

pub next-written : (name : Text) (kept : KeptValue) (place : ℕ) (a b c : Option Text) → AreWritten name kept place a b
    → ((here : Text) × IsBlockAt kept place here × Appends b c here) → AreWritten name kept (place + 1) a c
next-written name kept place a b c w next =
    let blocks : Text = w.1 ++ next.0 in
    let more : suc place ≡ place + 1 = omega arith in
    let P : ℕ → Type 0 = λ k. AreBlocks kept k blocks in (
      w.0,
      blocks,
      w.2,
      subst P more (w.1, next.0, w.3, next.1, refl),
      subst (Appends a c) (append_assoc w.0 w.1 next.0) (Appends-trans a b c (w.0 ++ w.1) next.0 w.4 next.2),
    )

pub all-written : (name : Text) (kept : KeptValue) (place : ℕ) (a b : Option Text)
    → place ≡ length (changesets kept.replica.history) → AreWritten name kept place a b
    → (text : Text) × IsWhy name kept text × Appends a b text
all-written name kept place a b all w =
    (w.0 ++ w.1, (w.0, w.1, w.2, subst (λ (k : ℕ). AreBlocks kept k w.1) all w.3, refl), w.4)

-- ---- one block

pub stable-block : (kept : KeptValue) (place : ℕ) (n : Node) (a : Option Text) → StandsAt kept place n
    → ¬ (IsUnstable (content_of kept.replica) n)
    → (here : Text) × IsBlockAt kept place here × Appends a a here
stable-block kept place n a stands stable = (
  [],
  inr (
    λ other. stable (subst (IsUnstable (content_of kept.replica)) (same_Some other.0 n (sym other.1.0 ∙ stands))
        other.1.1),
    refl,
  ),
  Appends-nil a,
)

pub unstable-block : (kept : KeptValue) (place : ℕ) (n : Node) (reasons : List Reason) (a b : Option Text)
    → StandsAt kept place n → IsUnstable (content_of kept.replica) n → AreReasons (content_of kept.replica) n reasons
    → ((text : Text) × IsBlockOf n reasons text × Appends a b text)
    → (here : Text) × IsBlockAt kept place here × Appends a b here
unstable-block kept place n reasons a b stands unstable are block =
    (block.0, inl (n, reasons, (stands, unstable), are, block.1), block.2)
