-- A record of a changeset that is held.
use Rattle.std.proofs.Common.{◌≡◌, Bool, false, not, subst, sym, ◌∙◌}
use Rattle.std.proofs.lemmas.Bool.{not-false}
use Rattle.hg_changeset.specs.declared.node.Node.{Node}
use Rattle.hg_changeset.specs.Node.{node_eq}
use Rattle.hg_changeset.specs.Same.{node_eq_decides}
use Rattle.hg_changeset.specs.Contents.{Contents}
use Rattle.hg_changeset.specs.Changeset.{IsChangeset, changeset_of, node_of}
use Rattle.hg_message.specs.Record.{RecordFields, IsItsRecord, contents_of}
use Rattle.hg_message.proofs.RecordLemmas.{its_record}
use Rattle.hg_message.proofs.WritingLemmas.{normal_again, normal_differ}

-- two ids that the test doesn't tell apart
pub not_apart : (p q : Node) (apart : Bool) → apart ≡ not (node_eq p q) → apart ≡ false → p ≡ q
not_apart p q apart e unset = (node_eq_decides p q).0 (not-false (node_eq p q) (sym e ∙ unset))

-- the fields are those of a changeset: its id, its parents in normal form and its text
pub held_record : (f : RecordFields) (c : Contents) → IsChangeset c → node_of c ≡ f.id → c.first ≡ f.p
    → c.second ≡ f.q → c.text ≡ f.text → IsItsRecord f
held_record f c h id first second text =
    let same : (record { id = node_of c; p = c.first; q = c.second; text = c.text }) ≡ f =
    λ i. record { id = id i; p = first i; q = second i; text = text i } in
    subst IsItsRecord same (its_record c c.first c.second c.text (normal_again c h.normal) (normal_differ c h.normal)
    h.not_null)

-- so the changeset is what they say
pub held_contents : (f : RecordFields) (c : Contents) → IsChangeset c → c.first ≡ f.p → c.second ≡ f.q
    → c.text ≡ f.text → c ≡ contents_of f
held_contents f c h first second text =
    normal_again c h.normal ∙ (λ i. changeset_of (first i) (second i) (text i))
