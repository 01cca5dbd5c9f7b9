-- What `decide` answers.
use Rattle.std.specs.Prelude.{◌≡◌, ◌⊎◌, ℕ, List, map, Result, Ok, Err}
use Rattle.std.specs.declared.vec.Vec.{Vec}
use Rattle.std.specs.declared.alloc.Global.{Global}
use Rattle.hg_changeset.specs.declared.node.Node.{Node}
use Rattle.hg_changeset.specs.declared.entry.EntryError.{EntryError}
use Rattle.hg_changeset.specs.declared.entry.EntryError.TheVariants as error
use Rattle.hg_changeset.specs.EntryValue.{EntryValue}
use Rattle.hg_changeset.specs.EntryText.{entry_text}
use Rattle.hg_marker.specs.declared.error.MarkerError.{MarkerError}
use Rattle.hg_marker.specs.declared.error.ReadError.{ReadError}
use Rattle.hg_marker.specs.declared.error.ReadError.TheVariants as marking
use Rattle.hg_replica.specs.State.{ReplicaState}
use Rattle.hg_replica.specs.Least.{PartValue, IsAdmitted}
use Rattle.hg_rewrite.specs.declared.op.Op.{Op}
use Rattle.hg_rewrite.specs.declared.refusal.Refusal.{Refusal}
use Rattle.hg_rewrite.specs.declared.refusal.Refusal.TheVariants.{Fault, NoMemory}
use Rattle.hg_rewrite.specs.declared.refusal.Cause.TheVariants.{Entry, Marker}
use Rattle.hg_rewrite.specs.Parts.{part_of}
use Rattle.hg_rewrite.specs.Refusals.{Row, refusals, entry_refused, NoneApplies, IsFirstRefusal}

-- the refusal is that of the first row that applies, or tells that memory was wanting
abbrev pub IsRefusal : List Row → Refusal → Type 0
IsRefusal rows r = (r ≡ NoMemory) ⊎ IsFirstRefusal rows r

-- the operation's part, which can be absorbed here, or the first refusal that applies under the pins
abbrev pub DecideAnswer : ReplicaState → List Node → Op → Result PartValue Refusal → Type 0
DecideAnswer s pins op (Ok part) = NoneApplies (refusals s pins op) × (part ≡ part_of s op) × IsAdmitted s part
DecideAnswer s pins op (Err r) = IsRefusal (refusals s pins op) r

-- the answer of a check that tries these rows, and takes no memory
abbrev pub Checked : List Row → Result (Unit {0}) Refusal → Type 0
Checked rows (Ok done) = NoneApplies rows
Checked rows (Err r) = IsFirstRefusal rows r

-- the answer of one that may want memory
abbrev pub CheckedInMemory : List Row → Result (Unit {0}) Refusal → Type 0
CheckedInMemory rows (Ok done) = NoneApplies rows
CheckedInMemory rows (Err r) = IsRefusal rows r

-- the answer of what tries these rows and then gives these values
abbrev pub Gives : {X : Type 0} → List Row → List X → Result (Vec X Global) Refusal → Type 0
Gives rows xs (Ok v) = NoneApplies rows × (v.items ≡ xs)
Gives rows xs (Err r) = IsRefusal rows r

-- the answer of what writes these entries
abbrev pub TextsAnswer : List EntryValue → Result (Vec (Vec ℕ Global) Global) Refusal → Type 0
TextsAnswer es (Ok texts) = NoneApplies (map entry_refused es)
    × (map (λ text. text.items) texts.items ≡ map entry_text es)
TextsAnswer es (Err r) = IsRefusal (map entry_refused es) r

-- the refusal that tells a fault of an entry; want of memory is no fault of it
abbrev pub entry_refusal : EntryError → Refusal
entry_refusal error.EmptyUser = Fault (Entry error.EmptyUser)
entry_refusal error.NewlineInUser = Fault (Entry error.NewlineInUser)
entry_refusal error.BadExtraKey = Fault (Entry error.BadExtraKey)
entry_refusal error.NoMemory = NoMemory

-- the refusal that tells why a marker wasn't made; want of memory is no fault of it
abbrev pub mark_refusal : ReadError MarkerError → Refusal
mark_refusal (marking.Fault fault) = Fault (Marker fault)
mark_refusal marking.NoMemory = NoMemory
