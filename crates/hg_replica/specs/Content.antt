-- What a replica contains, free of the order in which it came: for each id the changeset and its phase, and the set of
-- markers.
use Rattle.std.specs.Prelude.{Bool}
use Rattle.hg_marker.specs.Fields.{Fields}
use Rattle.hg_phases.specs.Content.{content_of as history_content}
use Rattle.hg_history.specs.declared.fault.Fault.{Fault}
use Rattle.hg_history.specs.Content.{Content as HistoryContent, IsValidContent as IsValidHistory}
use Rattle.hg_history.specs.Content.{ContentBelow as BelowHistory, ContentsJoined as HistoriesJoined}
use Rattle.hg_history.specs.Content.{ContentsCollide as HistoriesCollide, ContentCovers as CoversHistory}
use Rattle.hg_history.specs.Content.{ContentAdmits as AdmitsHistory, ContentAfter as AfterHistory}
use Rattle.hg_history.specs.Content.{IsContentFault as IsHistoryFault}
use Rattle.hg_obsstore.specs.Sets.{IsWithin, HasAll, IsUnion}
use Rattle.hg_obsstore.specs.Growth.{holds}
use Rattle.hg_replica.specs.State.{ReplicaState}
use Rattle.hg_replica.specs.Least.{PartValue}

-- the history's content, and for each marker whether it is held
abbrev pub Content : Type 0
Content = HistoryContent × (Fields → Bool)

abbrev pub content_of : ReplicaState → Content
content_of s = (history_content s.history, holds s.markers)

abbrev pub IsValidContent : Content → Type 0
IsValidContent f = IsValidHistory f.0

-- what f holds g holds as well: the same changesets, with phases no higher, and the same markers
abbrev pub ContentBelow : Content → Content → Type 0
ContentBelow f g = BelowHistory f.0 g.0 × IsWithin f.1 g.1

-- the third holds what either holds, each changeset with the lowest phase that either gives it; under no id do they
-- hold two
abbrev pub ContentsJoined : Content → Content → Content → Type 0
ContentsJoined f g j = HistoriesJoined f.0 g.0 j.0 × IsUnion f.1 g.1 j.1

-- the fault names an id under which two changesets are held
abbrev pub ContentsCollide : Content → Content → Fault → Type 0
ContentsCollide f g fault = HistoriesCollide f.0 g.0 fault

-- the content holds what the part holds, and keeps its bounds
abbrev pub ContentCovers : Content → PartValue → Type 0
ContentCovers f k = CoversHistory f.0 k.history × HasAll f.1 (holds k.markers)

-- the part can be absorbed
abbrev pub ContentAdmits : Content → PartValue → Type 0
ContentAdmits f k = AdmitsHistory f.0 k.history

-- the part can be absorbed, and g is f with it
abbrev pub ContentAfter : Content → PartValue → Content → Type 0
ContentAfter f k g = AfterHistory f.0 k.history g.0 × IsUnion f.1 (holds k.markers) g.1

-- what is first wrong with a part: its changesets are tried in their order, then its bounds. No marker is at fault
abbrev pub IsContentFault : Content → PartValue → Fault → Type 0
IsContentFault f k fault = IsHistoryFault f.0 k.history fault
