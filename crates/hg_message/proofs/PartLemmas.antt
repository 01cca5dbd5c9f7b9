-- What is read of a message at a replica.
use Rattle.std.proofs.Common.{◌≡◌, ◌<◌, ℕ, Bool, true, false, ◌&&◌, List, [], ◌∷◌, ◌++◌, length, Some}
use Rattle.std.proofs.Common.{Option, Result, Ok, Err, inl, inr, refl, sym, ap, subst, ◌∙◌, arith}
use Rattle.std.proofs.lemmas.Bool.{true≢false}
use Rattle.std.specs.Prelude.{IsTrue, IfErr, IsErrOf}
use Rattle.std.proofs.lemmas.List.Elements.{Contains-append_cases}
use Rattle.hg_changeset.specs.declared.node.Node.{Node}
use Rattle.hg_changeset.specs.Contents.{Contents}
use Rattle.hg_changeset.proofs.ListLemmas.{Contains-one}
use Rattle.hg_marker.specs.Fields.{Fields}
use Rattle.hg_marker.specs.declared.error.ReadError.{ReadError}
use Rattle.hg_marker.specs.declared.error.ReadError.TheVariants as reading
use Rattle.hg_marker.specs.Reading.{IsRead, Fails}
use Rattle.hg_marker.proofs.Formats.{ok_is}
use Rattle.hg_phases.specs.declared.phase.Phase.{Phase}
use Rattle.hg_phases.specs.State.{changesets}
use Rattle.hg_replica.specs.State.{ReplicaState}
use Rattle.hg_replica.specs.Least.{PartValue}
use Rattle.hg_message.specs.declared.error.MessageFault.{MessageFault}
use Rattle.hg_message.specs.declared.layout.Layout.{Layout}
use Rattle.hg_message.specs.declared.scope.Scope.{Scope}
use Rattle.hg_message.specs.Value.{MessageValue}
use Rattle.hg_message.specs.Counted.{first_of}
use Rattle.hg_message.specs.Record.{record_at}
use Rattle.hg_message.specs.Message.{message_at}
use Rattle.hg_message.specs.Known.{IsKnownAt, AreKnownAt, PartAnswer, rest_of}
use Rattle.hg_message.specs.Layout.{records_in, bounds_in, markers_in, with_read, with_markers, said, KnowsRecords}
use Rattle.hg_message.specs.Layout.{GivesPart}
use Rattle.hg_message.proofs.LayoutLemmas.{counted_long}

-- where all so far are known, and the next is
pub both_known : (a b : Bool) → IsTrue (a && b) → IsTrue a × IsTrue b
both_known true b h = (refl, h)
both_known false b h = absurd (true≢false (sym h))

-- one more changeset that is known
pub known_more : (held : Option ReplicaState) (front : List Contents) (c : Contents) → AreKnownAt held front
    → IsKnownAt held c → AreKnownAt held (front ++ c ∷ [])
known_more held front c known here d at = elim (Contains-append_cases front (c ∷ []) d at) [
  | inl x ↦ known d x
  | inr x ↦ subst (IsKnownAt held) (Contains-one c d x) here
]

-- ---- the parts of a message

abbrev Read : Type 0 → Type 0
Read A = Result A MessageFault

abbrev Records : Type 0
Records = Read (List Contents × List ℕ)

abbrev Bounds : Type 0
Bounds = Read (List (Node × Phase) × List ℕ)

-- what they say together
abbrev together : Scope → Records → Bounds → Read (List Fields) → Read MessageValue
together scope records bounds markers = with_read records (λ changesets. with_read bounds
    (λ bounds. with_markers scope changesets bounds markers))

changesets_said : (scope : Scope) (r : Records) (b : Bounds) (k : Read (List Fields)) (m : MessageValue)
    → together scope r b k ≡ Ok m → (x : List Contents × List ℕ) × (r ≡ Ok x) × (x.0 ≡ m.changesets)
changesets_said scope (Ok x) (Ok y) (Ok markers) m e = (
  x,
  refl,
  ap (λ (n : MessageValue). n.changesets) (ok_is MessageFault
      (record { scope = scope; changesets = x.0; bounds = y.0; markers = markers }) m e),
)
changesets_said scope (Ok x) (Ok y) (Err fault) m e = absurd cc
changesets_said scope (Ok x) (Err fault) k m e = absurd cc
changesets_said scope (Err fault) b k m e = absurd cc

-- there is a record, where the message has a changeset
pub some_records : (l : Layout) (m : MessageValue) → said l ≡ Ok m → 0 < length m.changesets → 0 < l.count
some_records l m e some =
    let x = changesets_said l.scope (records_in l) (bounds_in l) (markers_in l) m e in
    let long = counted_long (record_at l.total) 0 l.count l.records.now x.0 x.1 in
    omega (arith, long, ap length x.2, some)

rest_together : (scope : Scope) (r : Records) (b : Bounds) (k : Read (List Fields)) (bounds : List (Node × Phase))
    (markers : List Fields) → IsRead r → first_of b ≡ Ok bounds → k ≡ Ok markers
    → (m : MessageValue) × (together scope r b k ≡ Ok m)
    × (record { history = record { changesets = []; bounds = bounds }; markers = markers } ≡ rest_of m)
rest_together scope (Ok x) (Ok y) (Ok found) bounds markers read e g =
    let same_bounds = ok_is MessageFault y.0 bounds e in
    let same_markers = ok_is MessageFault found markers g in (
      record { scope = scope; changesets = x.0; bounds = y.0; markers = found },
      refl,
      λ i. record {
        history = record { changesets = []; bounds = sym same_bounds i };
        markers = sym same_markers i;
      },
    )
rest_together scope (Ok x) (Ok y) (Err fault) bounds markers read e g = absurd cc
rest_together scope (Ok x) (Err fault) k bounds markers read e g = absurd cc
rest_together scope (Err fault) b k bounds markers read e g = elim read [ ]

-- what is left of the part, without its changesets
pub rest_given : (l : Layout) (bounds : List (Node × Phase)) (markers : List Fields) → IsRead (records_in l)
    → IsTrue l.are_known → first_of (bounds_in l) ≡ Ok bounds → markers_in l ≡ Ok markers
    → GivesPart l (Ok (record { history = record { changesets = []; bounds = bounds }; markers = markers }))
rest_given l bounds markers read known e g =
    let m = rest_together l.scope (records_in l) (bounds_in l) (markers_in l) bounds markers read e g in
    (m.0, m.1, inr (known, m.2))

-- what holds where memory was wanting
pub wanted : {X : Type 0} (r : Result PartValue (ReadError MessageFault))
    → IfErr r (λ error. (error ≡ reading.NoMemory) × X) → IsErrOf r reading.NoMemory → X
wanted (Ok part) h e = absurd cc
wanted (Err error) h e = h.1

-- a part, or the refusal, is what the bytes give at the replica
pub part_answer : (s : ReplicaState) (bytes : List ℕ) (l : Layout) (r : Result PartValue (ReadError MessageFault))
    → message_at bytes ≡ said l → KnowsRecords (Some s) l → GivesPart l r → PartAnswer s bytes r
part_answer s bytes l (Err e) same known gives =
    subst (λ (x : Read MessageValue). Fails e x) (sym same) gives
part_answer s bytes l (Ok part) same known gives = (
  gives.0,
  same ∙ gives.1,
  elim gives.2 [
    | inl whole ↦ inl whole
    | inr h ↦
        let x = changesets_said l.scope (records_in l) (bounds_in l) (markers_in l) gives.0 gives.1 in
        inr (subst (AreKnownAt (Some s)) x.2 (known h.0 x.0 x.1), h.1)
  ],
)
