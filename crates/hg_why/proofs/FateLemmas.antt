-- The line of what became of a changeset.
use Rattle.std.proofs.Common.{◌≡◌, ◌++◌, [], Option, ap, subst, ◌∙◌}
use Rattle.std.specs.Io.KnownBytes.{Appends}
use Rattle.hg_changeset.specs.declared.node.Node.{Node}
use Rattle.hg_replica.specs.State.{ReplicaState}
use Rattle.hg_replica.specs.Content.{content_of}
use Rattle.hg_succ.specs.declared.sets.Sets.{Sets}
use Rattle.hg_succ.specs.Answer.{AreSets}
use Rattle.hg_log.specs.Drawings.{IsLine, Text}
use Rattle.hg_why.specs.FateLines.{IsFateLine, fate_line, heading_text, sets_text}
use Rattle.hg_why.specs.Names.{name_of}

pub fate-written : (s t : ReplicaState) (label name : Text) (n : Node) (sets : Sets) (empty heading line : Text)
    (a b : Option Text) → t ≡ s → AreSets (content_of t) n sets → empty ≡ []
    → heading ≡ empty ++ heading_text label name → line ≡ heading ++ sets_text (name_of (content_of t)) sets
    → ((text : Text) × IsLine line text × Appends a b text)
    → (text : Text) × IsFateLine (content_of s) label name n text × Appends a b text
fate-written s t label name n sets empty heading line a b same are none front whole written =
    let rest : Text = sets_text (name_of (content_of t)) sets in
    let is : line ≡ fate_line (name_of (content_of t)) label name sets =
    whole ∙ ap (λ (l : Text). l ++ rest) (front ∙ ap (λ (l : Text). l ++ heading_text label name) none) in
    let its : IsLine (fate_line (name_of (content_of t)) label name sets) written.0 =
    subst (λ (l : Text). IsLine l written.0) is written.1 in
    let P : ReplicaState → Type 0 = λ r. IsFateLine (content_of r) label name n written.0 in
    (written.0, subst P same (sets, are, its), written.2)
