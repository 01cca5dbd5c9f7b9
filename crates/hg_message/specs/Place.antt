-- Places in a message, which count from its first byte.
use Rattle.std.specs.Prelude.{ℕ, ◌-◌, List, length}
use Rattle.hg_marker.specs.Reading.{Reader}
use Rattle.hg_message.specs.declared.error.MessageFault.{MessageFault}
use Rattle.hg_message.specs.declared.error.MessageFault.TheVariants.{Truncated}

-- a part that needs its place: how many of all bytes stand before it
abbrev pub here : {F A : Type 0} → ℕ → (ℕ → Reader F A) → Reader F A
here total r rest = r (total - length rest) rest

-- the fault of a field that isn't whole
abbrev pub truncated_at : ℕ → List ℕ → MessageFault
truncated_at total rest = Truncated (total - length rest)

-- a field whose fault is that it isn't whole
abbrev pub whole : {A : Type 0} → ℕ → (MessageFault → Reader MessageFault A) → Reader MessageFault A
whole total r = here total (λ place. r (Truncated place))
