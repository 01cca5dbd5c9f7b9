-- What is answered of a command, by how it ended and by what became of the buffer behind it.
use Rattle.std.proofs.Common.{◌≡◌, ◌∙◌, ℕ, Bool, [], Option, Result, Ok, Err, OnOk, IfErr, inl, inr}
use Rattle.std.proofs.Common.{refl}
use Rattle.std.specs.Prelude.{MatchResult}
use Rattle.std.specs.Io.KnownBytes.{Keeps}
use Rattle.hg_log.specs.Drawings.{Text}
use Rattle.hgfleet.specs.declared.arguments.Wanted.{Wanted}
use Rattle.hgfleet.specs.declared.failure.Failure.{Failure}
use Rattle.hgfleet.specs.declared.failure.Failure.TheVariants as failed
use Rattle.hgfleet.specs.Answers.{IsProgramAnswer, IsFlushed}
use Rattle.hgfleet.specs.Commands.{DoesWanted, IsFailure, IsWriteFailure, LeavesRefusals, failure_status}

-- where a text couldn't be written, the status is that of nobody reading it
pub write_status : (failure : Failure) → IsWriteFailure failure → 1 ≡ failure_status failure
write_status (failed.Run fault) is = rw is refl
write_status (failed.Noted noted) is = rw is refl
write_status (failed.Show fault) is = rw is refl
write_status (failed.Refused count) is = absurd is
write_status (failed.UnknownName name) is = absurd is
write_status (failed.UnknownNode name nodes) is = absurd is
write_status (failed.FewLines count) is = absurd is
write_status (failed.File name fault) is = absurd is
write_status (failed.Unmet count) is = absurd is
write_status (failed.NotTaken told) is = absurd is
write_status failed.Differ is = absurd is
write_status failed.OutputClosed is = absurd is

-- what is answered where all was handed on, and where it wasn't
pub all_flushed : {T : Type 0} (done : Result T Failure) (waiting : Text) → waiting ≡ [] → IsFlushed done waiting done
all_flushed (Ok x) waiting is = is
all_flushed (Err failure) waiting is = refl

pub not_flushed : {T : Type 0} (done : Result T Failure) (waiting : Text) (told : Failure)
    → MatchResult done (λ _. failure_status told ≡ 1) (λ failure. failure_status told ≡ failure_status failure)
    → IsFlushed {T = T} done waiting (Err told)
not_flushed (Ok x) waiting told is = is
not_flushed (Err failure) waiting told is = is

-- the status says which
pub answered : {T : Type 0} (wanted : Wanted) (is_coloured : Bool) (known left held written holds : Option Text)
    (refusals waiting : Text) (done flushed : Result T Failure) (status : ℕ)
    → OnOk done (DoesWanted wanted is_coloured known held written [] refusals)
    → IfErr done (IsFailure wanted known left held written [] refusals) → LeavesRefusals wanted [] refusals
    → Keeps written holds → IsFlushed done waiting flushed
    → MatchResult flushed (λ _. status ≡ 0) (λ failure. status ≡ failure_status failure)
    → IsProgramAnswer wanted is_coloured known left held holds waiting status
answered wanted is_coloured known left held written holds refusals waiting (Ok x) (Ok y) status d f l k flushed s =
    (written, refusals, k, l, inl (d, inl (flushed, s)))
answered wanted is_coloured known left held written holds refusals waiting (Ok x) (Err e) status d f l k flushed s =
    (written, refusals, k, l, inl (d, inr (s ∙ flushed)))
answered wanted is_coloured known left held written holds refusals waiting (Err e) (Ok y) status d f l k flushed s =
    absurd flushed
answered wanted is_coloured known left held written holds refusals waiting (Err e) (Err t) status d f l k flushed s =
    (written, refusals, k, l, inr (e, f, s ∙ flushed))
