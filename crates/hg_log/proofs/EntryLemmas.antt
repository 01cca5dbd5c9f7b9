-- Entries that are written one after the other.
use Rattle.std.proofs.Common.{◌≡◌, ◌+◌, ◌-◌, ◌<◌, ◌++◌, ◌∷◌, [], ℕ, Bool, true, List, Option, Some, refl, ap, ◌∙◌, sym}
use Rattle.std.proofs.Common.{subst, append-nil, All, false, get_or, length, inl, inr, take, ◌≤◌}
use Rattle.std.specs.Prelude.{Contains, codes, if◌then◌else◌, option_map, slice_get}
use Rattle.std.specs.Io.KnownBytes.{Appends}
use Rattle.std.proofs.lemmas.List.{take_all}
use Rattle.std.proofs.lemmas.List.Elements.{All-contains_itself, All-weaker}
use Rattle.std.proofs.lemmas.Option.{slice_get_within, slice_get-map, same_Some}
use Rattle.std.proofs.KnownBytes.{Appends-trans, Appends-nil}
use Rattle.hg_changeset.specs.Contents.{Contents}
use Rattle.hg_changeset.specs.Changeset.{node_of}
use Rattle.hg_changeset.specs.declared.node.Node.{Node}
use Rattle.hg_marker.specs.Fields.{Fields}
use Rattle.hg_obsstore.specs.Places.{picked}
use Rattle.hg_phases.specs.declared.phase.Phase.{Phase}
use Rattle.hg_phases.specs.State.{Held, changesets}
use Rattle.hg_phases.specs.Words.{phase_word}
use Rattle.hg_replica.specs.State.{ReplicaState}
use Rattle.hg_view.specs.Status.{IsStatus}
use Rattle.hg_view.specs.declared.status.Status.{Status}
use Rattle.hg_obsstore.specs.Markers.{ArePlaces}
use Rattle.hg_view.specs.Kept.{KeptValue}
use Rattle.hg_log.specs.Drawings.{IsPlaceGiven, IsPlaceToBeDrawn, Text}
use Rattle.hg_log.specs.Entries.{Entry, IsEntryAt, object_text, told_text}
use Rattle.hg_log.specs.Json.{IsAppended, behind}
use Rattle.hg_log.specs.declared.named.NamedNode.{NamedNode}
use Rattle.hg_log.specs.Objects.{AreNodeEntries, AreEntries, IsArray, IsEntryOf, NodeState, WritesEntries, named}
use Rattle.hg_log.specs.Objects.{names_and_states, objects_text}
use Rattle.hg_log.proofs.DrawingLemmas.{AreGivenFrom, next_given, none_given, pieces_more}
use Rattle.hg_log.proofs.NamedLemmas.{named_more}
use Rattle.hg_log.proofs.JsonLemmas.{behind-append, divided-append}

-- ---- places of markers

-- each of the places is one of a marker
pub are_within : (P : Fields → Type 0) (ms : List Fields) (places : List ℕ) → ArePlaces P ms places
    → All (λ place. place < length ms) places
are_within P ms places are =
    All-weaker (Contains places) (λ place. place < length ms)
    (λ place at. let is = (are.exact place).0 at in slice_get_within ms place is.0 is.1) places
    (All-contains_itself places)

-- ---- what is held

-- what stands among the changesets is that of what is held at the place
pub held_at : (kept : KeptValue) (place : ℕ) (c : Contents) (h : Held)
    → slice_get (changesets kept.replica.history) place ≡ Some c → slice_get kept.replica.history.held place ≡ Some h
    → h.changeset ≡ c
held_at kept place c h there held =
    let mapped = slice_get-map (λ (g : Held). g.changeset) kept.replica.history.held place in
    same_Some h.changeset c (ap (option_map (λ (g : Held). g.changeset)) (sym held) ∙ sym mapped ∙ there)

-- what is told of a place is an entry of it
pub entry_told : (name line longer : Text) (kept : KeptValue) (place : ℕ) (s : ReplicaState) (graph : List Contents)
    (store : List Fields) (cs : Contents) (n k : Node) (phase : Phase) (word : Text) (status : Status)
    (places : List ℕ) → s ≡ kept.replica → graph ≡ changesets s.history → store ≡ s.markers
    → slice_get graph place ≡ Some cs
    → ((h : Held) × (slice_get s.history.held place ≡ Some h) × (h.phase ≡ phase))
    → n ≡ node_of cs → IsStatus kept n status → k ≡ node_of cs → ArePlaces (λ m. m.predecessor ≡ k) store places
    → word ≡ phase_word phase → IsAppended line (told_text cs status word name (picked store places)) longer
    → (e : Entry) × IsEntryAt name kept place e × IsAppended line (object_text e) longer
entry_told name line longer kept place s graph store cs n k phase word status places same_state same_graph same_store at
    held id is other_id are same_word text =
    let h : Held = held.0 in
    let markers : List Fields = picked kept.replica.markers places in
    let stored : store ≡ kept.replica.markers = same_store ∙ ap (λ (r : ReplicaState). r.markers) same_state in
    let graphed : graph ≡ changesets kept.replica.history =
    same_graph ∙ ap (λ (r : ReplicaState). changesets r.history) same_state in
    let there : slice_get (changesets kept.replica.history) place ≡ Some cs =
    subst (λ (g : List Contents). slice_get g place ≡ Some cs) graphed at in
    let here : slice_get kept.replica.history.held place ≡ Some h =
    subst (λ (r : ReplicaState). slice_get r.history.held place ≡ Some h) same_state held.1 in
    let same : h.changeset ≡ cs = held_at kept place cs h there here in
    let is_status : IsStatus kept (node_of h.changeset) status =
    subst (λ (m : Node). IsStatus kept m status) (id ∙ ap node_of (sym same)) is in
    let are_of : ArePlaces (λ m. m.predecessor ≡ node_of h.changeset) store places =
    subst (λ (p : Node). ArePlaces (λ m. m.predecessor ≡ p) store places) (other_id ∙ ap node_of (sym same)) are in
    let are_there : ArePlaces (λ m. m.predecessor ≡ node_of h.changeset) kept.replica.markers places =
    subst (λ (ms : List Fields). ArePlaces (λ m. m.predecessor ≡ node_of h.changeset) ms places) stored are_of in
    let of_changeset =
    subst (λ (c : Contents). IsAppended line (told_text c status word name (picked store places)) longer)
    (sym same) text in
    let of_phase =
    subst (λ (w : Text). IsAppended line (told_text h.changeset status w name (picked store places)) longer)
    (same_word ∙ ap phase_word (sym held.2)) of_changeset in
    let of_markers = subst
    (λ (ms : List Fields). IsAppended line
    (told_text h.changeset status (phase_word h.phase) name (picked ms places)) longer)
    stored of_phase in (
      record { repository = name; held = h; status = status; markers = markers },
      record { repository = refl; held = here; status = is_status; markers = (places, are_there, refl) },
      of_markers,
    )

-- ---- entries

pub nothing_written : (Are : List Entry → Type 0) (b : Bool) (held : Option Text) → Are []
    → WritesEntries Are b b held held
nothing_written Are b held none = ([], none, Appends-nil held, refl)

-- those after the first ones
pub joined_written : (P Q R : List Entry → Type 0) (a b c : Bool) (x y z : Option Text)
    → ((es others : List Entry) → P es → Q others → R (es ++ others)) → WritesEntries P a b x y
    → WritesEntries Q b c y z → WritesEntries R a c x z
joined_written P Q R a b c x y z join first second =
    let es = first.0 in
    let others = second.0 in
    let text : objects_text a (es ++ others) ≡ objects_text a es ++ objects_text b others =
    subst (λ (s : Bool). objects_text a (es ++ others) ≡ objects_text a es ++ objects_text s others) (sym first.3)
    (divided-append a (codes ",") object_text es others) in
    let all : Appends x z (objects_text a es ++ objects_text b others) =
    Appends-trans x y z (objects_text a es) (objects_text b others) first.2 second.2 in
    let last : c ≡ behind (behind a es) others =
    subst (λ (s : Bool). c ≡ behind s others) first.3 second.3 in (
      es ++ others,
      join es others first.1 second.1,
      subst (λ (t : Text). Appends x z t) (sym text) all,
      last ∙ sym (behind-append a es others),
    )

-- one entry
pub one_written : (node : NodeState) (place : ℕ) (e : Entry) (a c : Bool) (l m : Text) (x y : Option Text)
    → IsEntryAt node.0 node.1 place e → l ≡ (if a then codes "," else []) → m ≡ l ++ object_text e → c ≡ true
    → Appends x y m → WritesEntries (IsEntryOf node place) a c x y
one_written node place e a c l m x y is front line is_behind written =
    let whole : m ≡ objects_text a (e ∷ []) =
    line ∙ ap (λ (t : Text). t ++ object_text e) front
    ∙ ap (λ (t : Text). (if a then codes "," else []) ++ t) (sym (append-nil (object_text e))) in
    (e ∷ [], (e, is, refl), subst (λ (t : Text). Appends x y t) whole written, is_behind)

-- ---- places

abbrev pub AreEntriesAt : NodeState → Bool → ℕ → List Entry → Type 0
AreEntriesAt node shows_hidden place es = AreGivenFrom (IsEntryOf node) node.1 shows_hidden place es

pub none_told : (node : NodeState) (shows_hidden : Bool) (place : ℕ) (a : Bool) (x : Option Text)
    → place ≡ length (changesets node.1.replica.history)
    → WritesEntries (AreEntriesAt node shows_hidden place) a a x x
none_told node shows_hidden place a x end =
    nothing_written (AreEntriesAt node shows_hidden place) a x
    (none_given (IsEntryOf node) node.1 shows_hidden place end)

-- the place below those that are told
pub next_told : (node : NodeState) (shows_hidden : Bool) (place : ℕ) (a b c : Bool) (x y z : Option Text) → 0 < place
    → WritesEntries (AreEntriesAt node shows_hidden place) a b x y
    → WritesEntries (IsPlaceGiven (IsEntryOf node) node.1 shows_hidden (place - 1)) b c y z
    → WritesEntries (AreEntriesAt node shows_hidden (place - 1)) a c x z
next_told node shows_hidden place a b c x y z within first second =
    joined_written (AreEntriesAt node shows_hidden place)
    (IsPlaceGiven (IsEntryOf node) node.1 shows_hidden (place - 1))
    (AreEntriesAt node shows_hidden (place - 1)) a b c x y z
    (λ (es others : List Entry). next_given (IsEntryOf node) node.1 shows_hidden place es others within) first second

pub shown_told : (node : NodeState) (shows_hidden : Bool) (place : ℕ) (a b : Bool) (x y : Option Text)
    → IsPlaceToBeDrawn node.1 shows_hidden place → WritesEntries (IsEntryOf node place) a b x y
    → WritesEntries (IsPlaceGiven (IsEntryOf node) node.1 shows_hidden place) a b x y
shown_told node shows_hidden place a b x y shown told = (told.0, inl (shown, told.1), told.2, told.3)

pub hidden_told : (node : NodeState) (shows_hidden : Bool) (place : ℕ) (a : Bool) (x : Option Text)
    → ¬ (IsPlaceToBeDrawn node.1 shows_hidden place)
    → WritesEntries (IsPlaceGiven (IsEntryOf node) node.1 shows_hidden place) a a x x
hidden_told node shows_hidden place a x hidden =
    nothing_written (IsPlaceGiven (IsEntryOf node) node.1 shows_hidden place) a x (inr (hidden, refl))

-- ---- nodes

-- one more node
pub next_node : (shows_hidden : Bool) (nodes : List NamedNode) (i : ℕ) (n : NamedNode) (b c : Bool)
    (x y z : Option Text) → i < length nodes → n ≡ get_or nodes i n
    → WritesEntries (AreEntries shows_hidden (names_and_states (take i nodes))) false b x y
    → WritesEntries (AreNodeEntries shows_hidden (named n)) b c y z
    → WritesEntries (AreEntries shows_hidden (names_and_states (take (i + 1) nodes))) false c x z
next_node shows_hidden nodes i n b c x y z within is first second =
    let before : List NodeState = names_and_states (take i nodes) in
    let node : NodeState = named n in
    subst (λ (ns : List NodeState). WritesEntries (AreEntries shows_hidden ns) false c x z)
    (sym (named_more nodes i n within is))
    (joined_written (AreEntries shows_hidden before) (AreNodeEntries shows_hidden node)
    (AreEntries shows_hidden (before ++ node ∷ [])) false b c x y z
    (λ (es others : List Entry). pieces_more (AreNodeEntries shows_hidden) before node es others) first second)

-- all nodes
pub all_nodes : (shows_hidden : Bool) (nodes : List NamedNode) (i : ℕ) (b : Bool) (x y : Option Text)
    → length nodes ≤ i → WritesEntries (AreEntries shows_hidden (names_and_states (take i nodes))) false b x y
    → (es : List Entry) × AreEntries shows_hidden (names_and_states nodes) es × Appends x y (objects_text false es)
all_nodes shows_hidden nodes i b x y end all =
    let told : AreEntries shows_hidden (names_and_states nodes) all.0 =
    subst (λ (ns : List NamedNode). AreEntries shows_hidden (names_and_states ns) all.0) (take_all i nodes end) all.1 in
    (all.0, told, all.2)

-- an array of them
pub array_written : (shows_hidden : Bool) (nodes : List NodeState) (w x y z : Option Text)
    → Appends w x (codes "[")
    → ((es : List Entry) × AreEntries shows_hidden nodes es × Appends x y (objects_text false es))
    → Appends y z (codes "\n]\n")
    → (text : Text) × IsArray shows_hidden nodes text × Appends w z text
array_written shows_hidden nodes w x y z start told end =
    let front : Text = codes "[" ++ objects_text false told.0 in (
      front ++ codes "\n]\n",
      (told.0, told.1, refl),
      Appends-trans w y z front (codes "\n]\n")
          (Appends-trans w x y (codes "[") (objects_text false told.0) start told.2) end,
    )
