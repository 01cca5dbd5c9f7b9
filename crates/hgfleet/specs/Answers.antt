-- What the program answers: what comes of a command, and the status.
use Rattle.std.specs.Prelude.{ℕ, ◌≡◌, ◌⊎◌, [], Bool, Err, Ok, Option, Result}
use Rattle.std.specs.Io.KnownBytes.{Keeps}
use Rattle.hg_log.specs.Drawings.{Text}
use Rattle.hgfleet.specs.declared.arguments.Wanted.{Wanted}
use Rattle.hgfleet.specs.declared.failure.Failure.{Failure}
use Rattle.hgfleet.specs.Commands.{DoesWanted, IsFailure, LeavesRefusals, failure_status}

-- a command ended so, and then what waited in a buffer was handed on, of which this is left: all of what came of a
-- command that was done, or, where that couldn't be written, it ends with status 1; one that failed ends with the
-- status of its failure, whatever became of the buffer
abbrev pub IsFlushed : {T : Type 0} → Result T Failure → Text → Result T Failure → Type 0
IsFlushed (Ok x) waiting (Ok y) = waiting ≡ []
IsFlushed (Ok x) waiting (Err failure) = failure_status failure ≡ 1
IsFlushed (Err failure) waiting (Ok y) = ⊥
IsFlushed (Err failure) waiting (Err told) = failure_status told ≡ failure_status failure

-- a command that was done leaves nothing in the buffer, and the status is 0; or what came of it couldn't be written to
-- the end, and it is 1
abbrev pub IsEnd : Text → ℕ → Type 0
IsEnd waiting status = ((waiting ≡ []) × (status ≡ 0)) ⊎ (status ≡ 1)

-- with a reader of this, of which so much is left, and a writer that held and holds this, of which so much waits in its
-- buffer, what is wanted is done, or it failed, and the status says which
abbrev pub IsProgramAnswer : Wanted → Bool → Option Text → Option Text → Option Text → Option Text → Text → ℕ → Type 0
IsProgramAnswer wanted is_coloured known left held holds waiting status =
    (written : Option Text) × (refusals : Text) × Keeps written holds × LeavesRefusals wanted [] refusals
    × ((DoesWanted wanted is_coloured known held written [] refusals × IsEnd waiting status)
    ⊎ ((failure : Failure) × IsFailure wanted known left held written [] refusals failure
    × (status ≡ failure_status failure)))
