-- Which part of its history an offer names, and how bytes tell it.
use Rattle.std.specs.Prelude.{ℕ, ◌==◌, ◌||◌, Bool, Result, Ok, Err, if◌then◌else◌}
use Rattle.hg_marker.specs.Reading.{Reader, ◌>>=◌, says, yields, byte}
use Rattle.hg_message.specs.declared.scope.Scope.{Scope}
use Rattle.hg_message.specs.declared.scope.Scope.TheVariants.{Served, Whole}
use Rattle.hg_message.specs.declared.error.MessageFault.{MessageFault}
use Rattle.hg_message.specs.declared.error.MessageFault.TheVariants.{BadScope}
use Rattle.hg_message.specs.Place.{whole}

-- the number of a scope
abbrev pub scope_number : Scope → ℕ
scope_number Served = 0
scope_number Whole = 1

-- the scope of this number
abbrev pub numbered_scope : ℕ → Result Scope MessageFault
numbered_scope n = if n == 0 then Ok Served else if n == 1 then Ok Whole else Err BadScope

-- a version of the format: 1, which has no field for the scope, or 2, which has one
abbrev pub is_version : ℕ → Bool
is_version version = version == 1 || version == 2

-- a scope
unfoldable pub scope_at : ℕ → Reader MessageFault Scope
scope_at total = do
  number ← whole total byte
  scope ← yields (numbered_scope number)
  says scope

-- the scope that is told behind this version: what has version 1 is served
unfoldable pub scope_of : ℕ → ℕ → Reader MessageFault Scope
scope_of total version bytes = if version == 1 then Ok (Served, bytes) else scope_at total bytes
