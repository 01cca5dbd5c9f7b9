-- What a trial of files is, and why trials and comparisons end early.
use Rattle.std.proofs.Common.{◌≡◌, ◌<◌, ◌∙◌, ℕ, List, Option, String, ap, get_or, inl, inr, length, map, refl}
use Rattle.std.proofs.Common.{sym}
use Rattle.std.specs.Borrow.{Bor}
use Rattle.std.specs.Io.KnownBytes.{Appends}
use Rattle.std.specs.Prelude.{None, Some, option_map, string_bytes}
use Rattle.std.proofs.lemmas.List.{length-map}
use Rattle.std.specs.declared.alloc.Global.{Global}
use Rattle.std.proofs.lemmas.List.Elements.{Contains-get_or}
use Rattle.hg_log.specs.Drawings.{Text}
use Rattle.hg_preview.specs.declared.messages.NamedMessage.{NamedMessage}
use Rattle.hg_preview.specs.Answers.{texts_of}
use Rattle.hg_replica.specs.State.{ReplicaState, nothing_held}
use Rattle.hg_trial.specs.declared.tried.Answer.{Answer}
use Rattle.hg_trial.specs.Trials.{AnswersTo, IsLeastOfTaken}
use Rattle.hgfleet.specs.declared.failure.Failure.{Failure}
use Rattle.hgfleet.specs.declared.failure.Failure.TheVariants as failed
use Rattle.hgfleet.specs.declared.try_arguments.WantedTrial.{WantedTrial}
use Rattle.hgfleet.specs.Trying.{EndsTrial, IsAccount, IsAnsweredTrial, IsTrial, IsUnread}
use Rattle.hgfleet.specs.Trying.{IsTargetUnwritten, IsUnreadAmong}

-- ---- why it ends

-- ---- files that weren't read

pub unread_among : (names : List (String Global)) (i : ℕ) (d : String Global) (failure : Failure) → i < length names
    → IsUnread (string_bytes (get_or names i d)) failure → IsUnreadAmong names failure
unread_among names i d (failed.File told fault) within is = (get_or names i d, Contains-get_or names i d within, is)
unread_among names i d (failed.Run fault) within is = is
unread_among names i d (failed.Noted noted) within is = absurd is
unread_among names i d (failed.Refused count) within is = absurd is
unread_among names i d (failed.Show fault) within is = absurd is
unread_among names i d (failed.UnknownName name) within is = absurd is
unread_among names i d (failed.UnknownNode name nodes) within is = absurd is
unread_among names i d (failed.FewLines count) within is = absurd is
unread_among names i d (failed.Unmet count) within is = absurd is
unread_among names i d failed.OutputClosed within is = absurd is
unread_among names i d (failed.NotTaken told) within is = absurd is
unread_among names i d failed.Differ within is = absurd is

pub unread_ends_trial : (wanted : WantedTrial) (held : Option Text) (failure : Failure)
    → IsUnreadAmong wanted.files.items failure → EndsTrial wanted held held failure
unread_ends_trial wanted held (failed.File told fault) is = inl (is, refl)
unread_ends_trial wanted held (failed.Run fault) is = inr (inr is)
unread_ends_trial wanted held (failed.Noted noted) is = absurd is
unread_ends_trial wanted held (failed.Refused count) is = absurd is
unread_ends_trial wanted held (failed.Show fault) is = absurd is
unread_ends_trial wanted held (failed.UnknownName name) is = absurd is
unread_ends_trial wanted held (failed.UnknownNode name nodes) is = absurd is
unread_ends_trial wanted held (failed.FewLines count) is = absurd is
unread_ends_trial wanted held (failed.Unmet count) is = absurd is
unread_ends_trial wanted held failed.OutputClosed is = absurd is
unread_ends_trial wanted held (failed.NotTaken told) is = absurd is
unread_ends_trial wanted held failed.Differ is = absurd is

-- ---- a trial

-- there are as many messages as names
pub trial_told : (wanted : WantedTrial) (named messages : List NamedMessage) (answers : List Answer)
    (trial : ReplicaState) (held holds : Option Text) → length named ≡ length wanted.files.items → messages ≡ named
    → AnswersTo nothing_held (texts_of messages) answers trial → IsLeastOfTaken (texts_of messages) answers trial
    → ((text : Text) × IsAccount wanted.account answers trial text × Appends held holds text)
    → IsTrial wanted answers held holds
trial_told wanted named messages answers trial held holds count same answered least written =
    let bytes_of : NamedMessage → Bor Text = λ message. message.bytes in
    let text_of : Bor Text → Text = λ bytes. bytes.now in
    let all = length-map (map bytes_of messages) text_of ∙ length-map messages bytes_of ∙ ap length same ∙ count in
    (texts_of messages, trial, written.0, all, answered, least, written.1, written.2)

-- where the file that is named wasn't written, all messages were answered
unwritten_to : (wanted : WantedTrial) (target : Option (String Global)) (held holds : Option Text) (failure : Failure)
    → wanted.target ≡ target → IsTargetUnwritten target failure → IsAnsweredTrial wanted held holds
    → EndsTrial wanted held holds failure
unwritten_to wanted (Some name) held holds (failed.File told fault) e is answered =
    inr (ap (option_map string_bytes) e ∙ ap Some (sym is), answered)
unwritten_to wanted (Some name) held holds (failed.Run fault) e is answered = inr (inr is)
unwritten_to wanted (Some name) held holds (failed.Noted noted) e is answered = absurd is
unwritten_to wanted (Some name) held holds (failed.Refused count) e is answered = absurd is
unwritten_to wanted (Some name) held holds (failed.Show fault) e is answered = absurd is
unwritten_to wanted (Some name) held holds (failed.UnknownName unknown) e is answered = absurd is
unwritten_to wanted (Some name) held holds (failed.UnknownNode unknown nodes) e is answered = absurd is
unwritten_to wanted (Some name) held holds (failed.FewLines count) e is answered = absurd is
unwritten_to wanted (Some name) held holds (failed.Unmet count) e is answered = absurd is
unwritten_to wanted (Some name) held holds failed.OutputClosed e is answered = absurd is
unwritten_to wanted (Some name) held holds (failed.NotTaken told) e is answered = absurd is
unwritten_to wanted (Some name) held holds failed.Differ e is answered = absurd is
unwritten_to wanted None held holds failure e is answered = absurd is

pub unwritten_ends_trial : (wanted : WantedTrial) (held holds : Option Text) (failure : Failure)
    → IsTargetUnwritten wanted.target failure → IsAnsweredTrial wanted held holds → EndsTrial wanted held holds failure
unwritten_ends_trial wanted held holds failure is answered =
    unwritten_to wanted wanted.target held holds failure refl is answered
