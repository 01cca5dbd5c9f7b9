-- New labels: when they are free to name what an operation makes.
use Rattle.std.proofs.Common.{◌≡◌, ◌⊎◌, ◌↔◌, inl, inr, ℕ, suc, ◌≤◌, List, [], ◌∷◌, ◌++◌, length, map, Bool, true, false}
use Rattle.std.proofs.Common.{◌&&◌, IsTrue, Contains, Option, Some, None, is_none, refl, sym, ap, subst, ◌∙◌}
use Rattle.std.proofs.Common.{arith, true≢false}
use Rattle.std.specs.List.{AllByRecursion, IsDistinct, list_all}
use Rattle.std.specs.Map.{update}
use Rattle.std.specs.Option.{option_map_or}
use Rattle.std.specs.Str.{bytes_eq}
use Rattle.std.proofs.lemmas.Bool.{cases_Bool, cond-true, cond-false, and_left, and_right, and_parts, and_cases}
use Rattle.std.proofs.lemmas.List.{length-map}
use Rattle.std.proofs.lemmas.Slice.Eq.{bytes_eq-Decides}
use Rattle.hg_changeset.specs.declared.node.Node.{Node}
use Rattle.hg_changeset.specs.Node.{node_eq, null_node}
use Rattle.hg_changeset.proofs.ListLemmas.{Contains-first, Contains-later}
use Rattle.hg_changeset.proofs.NodeLemmas.{node_apart}
use Rattle.hg_graph.specs.Graph.{nodes}
use Rattle.hg_phases.specs.State.{State}
use Rattle.hg_replica.specs.State.{ReplicaState}
use Rattle.hg_replica.specs.Least.{PartValue}
use Rattle.hg_view.specs.Kept.{KeptValue}
use Rattle.hg_rewrite.specs.declared.op.Op.{Op}
use Rattle.hg_rewrite.specs.declared.op.Op.TheVariants as asks
use Rattle.hg_rewrite.specs.declared.refusal.Refusal.{Refusal}
use Rattle.hg_rewrite.specs.declared.refusal.Refusal.TheVariants.{Exists}
use Rattle.hg_rewrite.specs.Answer.{IsRefusal}
use Rattle.hg_rewrite.specs.Names.{refusal_number}
use Rattle.hg_rewrite.proofs.TableLemmas.{none_refused}
use Rattle.hg_rewrite.specs.Parts.{contents_of, chain, base, entries, part_of}
use Rattle.hg_rewrite.specs.Refusals.{Row, NoneApplies, refusals, unknown_nodes, hidden_parents, public_nodes}
use Rattle.hg_rewrite.specs.Refusals.{obsolete_nodes, not_linear, wrong_count, raise, not_written, not_marked, existing}
use Rattle.hg_rewrite.specs.Refusals.{existing_ids}
use Rattle.hg_changeset.specs.Contents.{Contents}
use Rattle.hg_changeset.specs.Changeset.{changeset_of, node_of}
use Rattle.hg_changeset.specs.EntryText.{entry_text}
use Rattle.hg_peer.specs.Peers.{Decides}
use Rattle.hg_line.specs.declared.operation.Operation.{Operation}
use Rattle.hg_line.specs.declared.operation.Operation.TheVariants.{Commit, Amend, Split, Fold, Prune, Relocate}
use Rattle.hg_line.specs.declared.operation.Operation.TheVariants.{Advance}
use Rattle.hg_line.specs.Commands.{Text, Word, texts}
use Rattle.hg_line.specs.declared.fault.LineFault.TheVariants.{NameTaken}
use Rattle.hg_line.specs.declared.command_fault.CommandFault.TheVariants.{Name}
use Rattle.hg_line.specs.Endings.{AreLabelsFree, IsTakenFault}
use mathlib.Core.Logic.{⊎_elim}
use Rattle.hg_line.specs.Entries.{entry_of, IsPruneOf}
use Rattle.hg_line.specs.Events.{Meaning, IsOperation, new_labels}
use Rattle.hg_names.specs.Names.{AreDistinct}
use Rattle.hg_line.specs.Lines.{may_name, each_may_name, may_be_bound}
use Rattle.hg_names.proofs.NameLemmas.{unequal}

not_there : {V : Type 0} (o : Option V) → is_none o ≡ true → o ≡ None
not_there None h = refl
not_there (Some v) h = cc

-- ---- labels that are all different

-- what others stand for stays where a label is bound
others_keep : (f g : Meaning Node) (label : Text) (v : Option Node) (words : List Word)
    → AllByRecursion (λ w. bytes_eq label w.now ≡ false) words
    → AllByRecursion (λ w. f w.now ≡ g w.now) words
    → AllByRecursion (λ w. update bytes_eq f label v w.now ≡ g w.now) words
others_keep f g label v [] a s = tt
others_keep f g label v (w ∷ words) a s =
    (cond-false (bytes_eq label w.now) v (f w.now) a.0 ∙ s.0, others_keep f g label v words a.1 s.1)

itself : (f : Meaning Node) (words : List Word) → AllByRecursion (λ w. f w.now ≡ f w.now) words
itself f [] = tt
itself f (w ∷ words) = (refl, itself f words)

free_apart : (f g : Meaning Node) (words : List Word) (ns : List Node) → AreDistinct words
    → AllByRecursion (λ w. f w.now ≡ g w.now) words
    → may_be_bound f (texts words) ns ≡ each_may_name g (texts words) ns
unfolding IsDistinct
free_apart f g [] ns d s = refl
free_apart f g (w ∷ words) [] d s = refl
free_apart f g (w ∷ words) (n ∷ ns) d s =
    ap (λ (o : Option Node). option_map_or (λ m. node_eq m n) o true
    && may_be_bound (update bytes_eq f w.now (Some n)) (texts words) ns) s.0
    ∙ ap (λ (b : Bool). may_name g w.now n && b)
    (free_apart (update bytes_eq f w.now (Some n)) g words ns d.1 (others_keep f g w.now (Some n) words d.0 s.1))

-- labels that are all different are free exactly if each of them is
pub distinct_free : (names : Meaning Node) (words : List Word) (ns : List Node) → AreDistinct words
    → may_be_bound names (texts words) ns ≡ each_may_name names (texts words) ns
distinct_free names words ns d = free_apart names names words ns d (itself names words)

-- each label that names nothing yet may name any node
pub unbound_free : (names : Meaning Node) (words : List Word) (ns : List Node)
    → list_all (λ w. is_none (names w.now)) words ≡ true → each_may_name names (texts words) ns ≡ true
unbound_free names [] ns h = refl
unbound_free names (w ∷ words) [] h = refl
unbound_free names (w ∷ words) (n ∷ ns) h =
    let both = and_parts (is_none (names w.now)) (list_all (λ v. is_none (names v.now)) words) h in
    ap (λ (o : Option Node). option_map_or (λ m. node_eq m n) o true && each_may_name names (texts words) ns)
    (not_there (names w.now) both.0) ∙ unbound_free names words ns both.1

pub nothing_free : (names : Meaning Node) (labels : List Text) → IsTrue (may_be_bound names labels [])
nothing_free names [] = refl
nothing_free names (label ∷ labels) = refl

-- ---- a label that comes twice

-- the text is among the words
abbrev Comes : Text → List Word → Type 0
Comes label [] = ⊥
Comes label (w ∷ words) = (bytes_eq label w.now ≡ true) ⊎ Comes label words

comes_by : (b : Bool) (label : Text) (w : Word) (words : List Word) → bytes_eq label w.now ≡ b
    → AllByRecursion (λ v. bytes_eq label v.now ≡ false) words ⊎ Comes label words
    → AllByRecursion (λ v. bytes_eq label v.now ≡ false) (w ∷ words) ⊎ Comes label (w ∷ words)
comes_by true label w words e rest = inr (inl e)
comes_by false label w words e (inl none) = inl (e, none)
comes_by false label w words e (inr later) = inr (inr later)

comes_or_not : (label : Text) (words : List Word) → AllByRecursion (λ w. bytes_eq label w.now ≡ false) words
    ⊎ Comes label words
comes_or_not label [] = inl tt
comes_or_not label (w ∷ words) = comes_by (bytes_eq label w.now) label w words refl (comes_or_not label words)

-- no node comes again
abbrev pub NoneAgain : List Node → Type 0
NoneAgain [] = Unit {0}
NoneAgain (n ∷ ns) = ¬ (Contains ns n) × NoneAgain ns

later : (label : Text) (w : Word) (words : List Word) → bytes_eq label w.now ≡ false → Comes label (w ∷ words)
    → Comes label words
later label w words differ (inl same) = absurd (true≢false (sym same ∙ differ))
later label w words differ (inr more) = more

not_free : (f : Meaning Node) (label : Text) (m n : Node) → f label ≡ Some m → (m ≡ n → ⊥) → may_name f label n ≡ false
not_free f label m n e apart = ap (λ (o : Option Node). option_map_or (λ k. node_eq k n) o true) e
    ∙ node_apart m n apart

-- a label that names a node isn't free to name another one
taken_later : (f : Meaning Node) (label : Text) (m : Node) (words : List Word) (ns : List Node) → f label ≡ Some m
    → ¬ (Contains ns m) → length words ≤ length ns → Comes label words
    → may_be_bound f (texts words) ns ≡ false
taken_later f label m [] ns e none long comes = absurd comes
taken_later f label m (w ∷ words) [] e none long comes = absurd (omega arith)
taken_later f label m (w ∷ words) (n ∷ ns) e none long comes =
    elim (cases_Bool (bytes_eq label w.now)) [
      | inl same ↦
          and_left (may_name f w.now n) (may_be_bound (update bytes_eq f w.now (Some n)) (texts words) ns)
          (not_free f w.now m n (sym (ap f ((bytes_eq-Decides label w.now).0 same)) ∙ e)
          (λ k. none (subst (Contains (n ∷ ns)) (sym k) (Contains-first n ns))))
      | inr differ ↦
          and_right (may_name f w.now n) (may_be_bound (update bytes_eq f w.now (Some n)) (texts words) ns)
          (taken_later (update bytes_eq f w.now (Some n)) label m words ns
          (cond-false (bytes_eq w.now label) (Some n) (f label) (unequal label w.now differ) ∙ e)
          (λ k. none (Contains-later n ns m k)) (omega arith) (later label w words differ comes))
    ]

-- one of the labels isn't free where one comes twice, and each is to name a node of its own
pub twice_taken : (f : Meaning Node) (words : List Word) (ns : List Node) → NoneAgain ns → length words ≤ length ns
    → ¬ (AreDistinct words) → may_be_bound f (texts words) ns ≡ false
unfolding IsDistinct
twice_taken f [] ns none long twice = absurd (twice tt)
twice_taken f (w ∷ words) [] none long twice = absurd (omega arith)
twice_taken f (w ∷ words) (n ∷ ns) none long twice =
    and_right (may_name f w.now n) (may_be_bound (update bytes_eq f w.now (Some n)) (texts words) ns)
    (elim (comes_or_not w.now words) [
      | inl apart ↦ twice_taken (update bytes_eq f w.now (Some n)) words ns none.1 (omega arith) (λ d. twice (apart, d))
      | inr comes ↦
          taken_later (update bytes_eq f w.now (Some n)) w.now n words ns
          (cond-true (bytes_eq w.now w.now) (Some n) (f w.now) ((bytes_eq-Decides w.now w.now).1 refl)) none.0
          (omega arith) comes
    ])

-- ---- what an operation makes

rows_after : (xs ys : List Row) → NoneApplies (xs ++ ys) → NoneApplies ys
rows_after [] ys h = h
rows_after (x ∷ xs) ys h = rows_after xs ys h.1

new_ids_apart : (s : State) (ns : List Node) → NoneApplies (existing s ns) → NoneAgain ns
new_ids_apart s [] h = tt
new_ids_apart s (n ∷ ns) h = (λ again. h.0 (Exists n, (inr again, refl)), new_ids_apart s ns h.1)

none_exists : (s : ReplicaState) (pins : List Node) (op : Op) → NoneApplies (refusals s pins op)
    → NoneApplies (existing_ids s op)
unfolding refusals
none_exists s pins op h =
    let r9 = existing_ids s op in
    let r8 = not_marked s op ++ r9 in
    let r7 = not_written s op ++ r8 in
    let r6 = raise s op ++ r7 in
    let r5 = wrong_count op ++ r6 in
    let r4 = not_linear s op ++ r5 in
    let r3 = obsolete_nodes s op ++ r4 in
    let r2 = public_nodes s op ++ r3 in
    let r1 = hidden_parents s pins op ++ r2 in
    rows_after (not_marked s op) r9
    (rows_after (not_written s op) r8
    (rows_after (raise s op) r7
    (rows_after (wrong_count op) r6
    (rows_after (not_linear s op) r5
    (rows_after (obsolete_nodes s op) r4
    (rows_after (public_nodes s op) r3
    (rows_after (hidden_parents s pins op) r2
    (rows_after (unknown_nodes s op) r1 h))))))))

-- no two of the new changesets have one id
pub new_apart : (s : KeptValue) (op : Op) (part : PartValue) → Decides s op part
    → NoneAgain (nodes part.history.changesets)
unfolding part_of
new_apart s op part d =
    subst (λ (k : PartValue). NoneAgain (nodes k.history.changesets)) (sym d.2)
    (new_ids_apart s.replica.history (nodes (part_of s.replica op).history.changesets)
    (none_exists s.replica s.pins op d.1))

chain_length : (on : Node × Node) (ts : List (List ℕ)) → length (chain on ts) ≡ length ts
unfolding chain
chain_length on [] = refl
chain_length on (t ∷ ts) = ap suc (chain_length (node_of (changeset_of on.0 on.1 t), null_node) ts)

made_length : (s : ReplicaState) (op : Op) → length (nodes (part_of s op).history.changesets) ≡ length (entries op)
unfolding part_of
made_length s op =
    length-map (map contents_of (chain (base s.history op) (map entry_text (entries op)))) node_of
    ∙ length-map (chain (base s.history op) (map entry_text (entries op))) contents_of
    ∙ chain_length (base s.history op) (map entry_text (entries op))
    ∙ length-map (entries op) entry_text

prune_writes_nothing : (n : Node) (op : Op) → IsPruneOf n op → length (entries op) ≡ 0
prune_writes_nothing n (asks.Commit p q entry secret) h = absurd h
prune_writes_nothing n (asks.Amend node entry) h = absurd h
prune_writes_nothing n (asks.Split node es) h = absurd h
prune_writes_nothing n (asks.Fold ns entry) h = absurd h
prune_writes_nothing n (asks.Prune node user secs offset) h = refl
prune_writes_nothing n (asks.Relocate node p q entry) h = absurd h
prune_writes_nothing n (asks.Advance node phase) h = absurd h

-- an entry for each new label
entries_for : (names : Meaning Node) (op : Operation) (asked : Op) → IsOperation names op asked
    → length (entries asked) ≡ length (new_labels op)
entries_for names (Commit new is_secret parents) asked (p, q, are, e) = ap (λ (o : Op). length (entries o)) e
entries_for names (Amend old new) asked (n, at, e) = ap (λ (o : Op). length (entries o)) e
entries_for names (Split old new) asked (n, es, at, items, e) =
    ap (λ (o : Op). length (entries o)) e ∙ ap length items ∙ length-map new.now (λ (w : Word). entry_of w.now)
    ∙ sym (length-map new.now (λ (w : Word). w.now))
entries_for names (Fold new old) asked (ns, are, e) = ap (λ (o : Op). length (entries o)) e
entries_for names (Prune old) asked (n, at, is) = prune_writes_nothing n asked is
entries_for names (Relocate old new parents) asked (n, p, q, at, are, e) = ap (λ (o : Op). length (entries o)) e
entries_for names (Advance label phase) asked (n, at, e) = ap (λ (o : Op). length (entries o)) e

-- a changeset for each new label
pub made_for : (names : Meaning Node) (op : Operation) (s : KeptValue) (asked : Op) (part : PartValue)
    → IsOperation names op asked → Decides s asked part
    → length (nodes part.history.changesets) ≡ length (new_labels op)
made_for names op s asked part meant d =
    ap (λ (k : PartValue). length (nodes k.history.changesets)) d.2 ∙ made_length s.replica asked
    ∙ entries_for names op asked meant

-- ---- labels and changesets, pair by pair

-- no label is left, or nothing that it could name
pub each_end : (names : Meaning Node) (labels : List Word) (cs : List Contents) → (length labels ≡ 0) ⊎ (length cs ≡ 0)
    → each_may_name names (texts labels) (nodes cs) ≡ true
each_end names [] cs h = refl
each_end names (w ∷ labels) [] h = refl
each_end names (w ∷ labels) (d ∷ cs) (inl h) = absurd (omega arith)
each_end names (w ∷ labels) (d ∷ cs) (inr h) = absurd (omega arith)

-- ---- what a check of the labels finds

-- what isn't decided is refused first by some row
pub refused_first : (state : KeptValue) (op : Op) (r : Refusal) (n : ℕ) → refusal_number r ≡ Some n
    → IsRefusal (refusals state.replica state.pins op) r → (part : PartValue) → ¬ (Decides state op part)
refused_first state op r n told (inl e) part d = let none : refusal_number r ≡ None = ap refusal_number e in cc
refused_first state op r n told (inr first) part d =
    none_refused (refusals state.replica state.pins op) r d.1 first

-- labels that are all different and name nothing yet are free to name whatever is made
pub free_unbound : (names : Meaning Node) (words : List Word) (state : KeptValue) (op : Op) → AreDistinct words
    → list_all (λ w. is_none (names w.now)) words ≡ true → AreLabelsFree names (texts words) state op
free_unbound names words state op distinct unbound part d =
    distinct_free names words (nodes part.history.changesets) distinct
    ∙ unbound_free names words (nodes part.history.changesets) unbound

-- two parts of one operation are one
one_part : (state : KeptValue) (op : Op) (part other : PartValue) → Decides state op part → Decides state op other
    → part ≡ other
one_part state op part other d e = d.2 ∙ sym e.2

pub free_made : (names : Meaning Node) (words : List Word) (state : KeptValue) (op : Op) (made : PartValue)
    (distinct : Bool) → (IsTrue distinct → AreDistinct words) → Decides state op made
    → (distinct && each_may_name names (texts words) (nodes made.history.changesets)) ≡ true
    → AreLabelsFree names (texts words) state op
free_made names words state op made distinct leads d free part e =
    let both = and_parts distinct (each_may_name names (texts words) (nodes made.history.changesets)) free in
    let at_made : may_be_bound names (texts words) (nodes made.history.changesets) ≡ true =
    distinct_free names words (nodes made.history.changesets) (leads both.0) ∙ both.1 in
    subst (λ (k : PartValue). may_be_bound names (texts words) (nodes k.history.changesets) ≡ true)
    (one_part state op made part d e) at_made

pub taken_made : (names : Meaning Node) (words : List Word) (state : KeptValue) (op : Op)
    (made : PartValue) (distinct : Bool) → IsTrue distinct ↔ AreDistinct words → Decides state op made
    → (distinct && each_may_name names (texts words) (nodes made.history.changesets)) ≡ false
    → IsTakenFault names words state op (Name NameTaken)
taken_made names words state op made distinct leads d taken =
    let free = each_may_name names (texts words) (nodes made.history.changesets) in (
      refl,
      (
        made,
        d,
        ⊎_elim
            (λ (no_d : distinct ≡ false). inr (λ (all : AreDistinct words). true≢false (sym (leads.1 all) ∙ no_d)))
            (λ (no_f : free ≡ false). taken_by (cases_Bool distinct) no_f)
            (and_cases distinct free taken),
      ),
    )
  where
    taken_by : (distinct ≡ true) ⊎ (distinct ≡ false)
        → each_may_name names (texts words) (nodes made.history.changesets) ≡ false
        → (may_be_bound names (texts words) (nodes made.history.changesets) ≡ false) ⊎ ¬ (AreDistinct words)
    taken_by (inl is_d) no_f = inl (distinct_free names words (nodes made.history.changesets) (leads.0 is_d) ∙ no_f)
    taken_by (inr no_d) no_f = inr (λ all. true≢false (sym (leads.1 all) ∙ no_d))
