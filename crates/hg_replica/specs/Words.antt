-- The words of replicas, as states that join.
use Rattle.std.specs.Prelude.{◌≡◌}
use Rattle.hg_join.specs.declared.state.JoinState.{Ghosts as StateWords}
use Rattle.hg_history.specs.declared.fault.Fault.{Fault}
use Rattle.hg_history.specs.declared.fault.Fault.TheVariants.{NoMemory}
use Rattle.hg_replica.specs.State.{ReplicaState}
use Rattle.hg_replica.specs.Least.{PartValue}
use Rattle.hg_replica.specs.Answer.{IsAbsorbed}
use Rattle.hg_replica.specs.Change.{ChangeValue}
use Rattle.hg_replica.specs.Content.{Content, content_of, IsValidContent, ContentBelow, ContentsJoined, ContentsCollide}
use Rattle.hg_replica.specs.Content.{ContentCovers, ContentAdmits, ContentAfter, IsContentFault}

-- a replica contains the changeset and its phase under each id, and which markers are held: two replicas with one
-- content answer every look-up alike
abbrev pub replica_words : StateWords ReplicaState PartValue ChangeValue Fault
replica_words = record {
  Content = Content;
  content = content_of;
  IsValid = IsValidContent;
  Below = ContentBelow;
  Joined = ContentsJoined;
  Collides = ContentsCollide;
  PartContent = PartValue;
  part_content = λ part. part;
  Covers = ContentCovers;
  Admits = ContentAdmits;
  After = ContentAfter;
  IsFirstFault = IsContentFault;
  Tells = IsAbsorbed;
  IsWantOfMemory = λ fault. fault ≡ NoMemory;
}
