-- The first fault of a message, in the words of its format: fields stand in front, each whole and without fault, and
-- the one that comes after them is cut or at fault. Three tables over the fields say how long each is, what is a fault
-- of it, and which one comes after it.
use Rattle.std.specs.Prelude.{◌≡◌, ◌≢◌, ◌<◌, ◌+◌, ◌⊎◌, ◌==◌, ℕ, zero, suc, List, [], ◌∷◌, ◌++◌, length, get_or, Err}
use Rattle.std.specs.Prelude.{if◌then◌else◌}
use Rattle.std.specs.Int.{w32, from_be_bytes}
use Rattle.hg_changeset.specs.declared.node.Node.{Node}
use Rattle.hg_changeset.specs.Node.{null_node}
use Rattle.hg_changeset.specs.Contents.{Contents}
use Rattle.hg_changeset.specs.Changeset.{node_of, changeset_of, text_limit}
use Rattle.hg_obsstore.specs.declared.fault.StoreFault.{StoreFault}
use Rattle.hg_obsstore.specs.Faults.{IsStoreFault}
use Rattle.hg_message.specs.declared.error.MessageFault.{MessageFault}
use Rattle.hg_message.specs.declared.error.MessageFault.TheVariants.{Truncated, BadMagic, BadVersion, HashMismatch}
use Rattle.hg_message.specs.declared.error.MessageFault.TheVariants.{BadParents, BadPhase, Trailing, TextTooLong}
use Rattle.hg_message.specs.declared.error.MessageFault.TheVariants.{BadScope}
use Rattle.hg_message.specs.Message.{magic_number, told_in}

-- The fields of a message, in their order. One of a record tells which record it is, how many come after that, and what
-- the fields before it said; one of a bound tells how many bounds come after that.
pub data Field : Type 0 where
  Magic : Field
  Version : Field
  ScopeNumber : Field
  Count : Field
  Id : (index : ℕ) (after : ℕ) → Field
  FirstParent : (index : ℕ) (after : ℕ) (n : Node) → Field
  SecondParent : (index : ℕ) (after : ℕ) (n : Node) (p : Node) → Field
  TextLength : (index : ℕ) (after : ℕ) (n : Node) (p : Node) (q : Node) → Field
  Text : (index : ℕ) (after : ℕ) (n : Node) (p : Node) (q : Node) (len : ℕ) → Field
  Entries : Field
  PhaseNumber : (after : ℕ) → Field
  BoundNode : (after : ℕ) → Field
  StoreLength : Field
  Store : (len : ℕ) → Field
  End : Field

-- the number that four bytes tell, the highest first
abbrev pub value : List ℕ → ℕ
value bytes = from_be_bytes w32 bytes

-- the id that twenty bytes tell
abbrev pub node_in : List ℕ → Node
node_in bytes = record { 0 = bytes }

-- ---- how long each is

abbrev pub width : Field → ℕ
width Magic = 4
width Version = 1
width ScopeNumber = 1
width Count = 4
width (Id index after) = 20
width (FirstParent index after n) = 20
width (SecondParent index after n p) = 20
width (TextLength index after n p q) = 4
width (Text index after n p q len) = len
width Entries = 4
width (PhaseNumber after) = 4
width (BoundNode after) = 20
width StoreLength = 4
width (Store len) = len
width End = 0

-- ---- what is a fault of its bytes, which begin at this place

-- the id isn't that of the changeset, or is the null id
abbrev pub IsMisnamed : Node → Contents → Type 0
IsMisnamed n c = (node_of c ≢ n) ⊎ (n ≡ null_node)

abbrev pub HasFault : Field → ℕ → List ℕ → MessageFault → Type 0
HasFault Magic place bytes fault = (value bytes ≢ magic_number) × (fault ≡ BadMagic)
HasFault Version place bytes fault = (bytes ≢ 1 ∷ []) × (bytes ≢ 2 ∷ []) × (fault ≡ BadVersion)
HasFault ScopeNumber place bytes fault = (bytes ≢ 0 ∷ []) × (bytes ≢ 1 ∷ []) × (fault ≡ BadScope)
HasFault Count place bytes fault = ⊥
HasFault (Id index after) place bytes fault = ⊥
HasFault (FirstParent index after n) place bytes fault = ⊥
HasFault (SecondParent index after n p) place bytes fault = ⊥
HasFault (TextLength index after n p q) place bytes fault = (text_limit < value bytes) × (fault ≡ TextTooLong index)
HasFault (Text index after n p q len) place bytes fault =
    ((p ≡ q) × (p ≢ null_node) × (fault ≡ BadParents index))
    ⊎ ((p ≡ q → p ≡ null_node) × IsMisnamed n (changeset_of p q bytes) × (fault ≡ HashMismatch index))
HasFault Entries place bytes fault = ⊥
HasFault (PhaseNumber after) place bytes fault = (2 < value bytes) × (fault ≡ BadPhase)
HasFault (BoundNode after) place bytes fault = ⊥
HasFault StoreLength place bytes fault = ⊥
HasFault (Store len) place bytes fault = (cause : StoreFault) × IsStoreFault bytes cause
    × (told_in {A = Unit {0}} place (Err cause) ≡ Err fault)
HasFault End place bytes fault = ⊥

-- ---- which one comes after it

-- behind this version: version 1 has no field for the scope
abbrev pub count_or_scope : ℕ → Field
count_or_scope version = if version == 1 then Count else ScopeNumber

-- after so many records, where so many are left
abbrev pub record_or_entries : ℕ → ℕ → Field
record_or_entries index zero = Entries
record_or_entries index (suc after) = Id index after

-- where so many bounds are left
abbrev pub bound_or_store : ℕ → Field
bound_or_store zero = StoreLength
bound_or_store (suc after) = PhaseNumber after

abbrev pub next : Field → List ℕ → Field
next Magic bytes = Version
next Version bytes = count_or_scope (get_or bytes 0 0)
next ScopeNumber bytes = Count
next Count bytes = record_or_entries 0 (value bytes)
next (Id index after) bytes = FirstParent index after (node_in bytes)
next (FirstParent index after n) bytes = SecondParent index after n (node_in bytes)
next (SecondParent index after n p) bytes = TextLength index after n p (node_in bytes)
next (TextLength index after n p q) bytes = Text index after n p q (value bytes)
next (Text index after n p q len) bytes = record_or_entries (suc index) after
next Entries bytes = bound_or_store (value bytes)
next (PhaseNumber after) bytes = BoundNode after
next (BoundNode after) bytes = bound_or_store after
next StoreLength bytes = Store (value bytes)
next (Store len) bytes = End
next End bytes = End

-- ---- the first fault

-- all bytes of the field are there, and have no fault
abbrev pub IsWhole : Field → ℕ → List ℕ → Type 0
IsWhole field place bytes = (length bytes ≡ width field) × ((fault : MessageFault) → HasFault field place bytes fault
    → ⊥)

-- not all bytes of the field are there, which is told with its place
abbrev pub IsCut : Field → ℕ → List ℕ → MessageFault → Type 0
IsCut field place rest fault = (length rest < width field) × (fault ≡ Truncated place)

-- all are there, and have this fault
pub record IsFaulty (field : Field) (place : ℕ) (rest : List ℕ) (fault : MessageFault) : Type 0 where
  pub bytes : List ℕ
  pub others : List ℕ
  pub parts : rest ≡ bytes ++ others
  pub len : length bytes ≡ width field
  pub fault_is : HasFault field place bytes fault

-- bytes follow where none are to come any more
abbrev pub IsFollowed : Field → List ℕ → MessageFault → Type 0
IsFollowed field rest fault = (field ≡ End) × (0 < length rest) × (fault ≡ Trailing)

-- the rest begins with these bytes, and P holds of the others
pub record BeginsWith (bytes rest : List ℕ) (P : List ℕ → Type 0) : Type 0 where
  pub others : List ℕ
  pub parts : rest ≡ bytes ++ others
  pub others_are : P others

-- the rest, which begins at this place with these fields, has this fault in the field after them; each of them is whole
-- and without fault
abbrev pub FaultAfter : List (List ℕ) → Field → ℕ → List ℕ → MessageFault → Type 0
FaultAfter [] field place rest fault = IsCut field place rest fault ⊎ IsFaulty field place rest fault
    ⊎ IsFollowed field rest fault
FaultAfter (bytes ∷ fields) field place rest fault =
    IsWhole field place bytes
    × BeginsWith bytes rest (λ others. FaultAfter fields (next field bytes) (place + length bytes) others fault)

-- this is the first fault of the bytes: some fields stand in front, whole and without fault, and the one after them has
-- it
pub record IsMessageFault (bytes : List ℕ) (fault : MessageFault) : Type 0 where
  pub fields : List (List ℕ)
  pub first : FaultAfter fields Magic 0 bytes fault
