-- A chain of changesets, as far as it is made.
use Rattle.std.proofs.Common.{◌≡◌, ◌⊎◌, inl, inr, ℕ, ◌<◌, ◌≤◌, ◌+◌, length, take, drop, get_or, List, [], ◌∷◌, ◌++◌}
use Rattle.std.proofs.Common.{map, Some, None, Option, Result, Ok, Err, refl, sym, ap, subst, ◌∙◌, append_assoc}
use Rattle.std.proofs.Common.{MatchOption}
use Rattle.std.proofs.lemmas.List.{map-append, append-nil, drop_more, drop_all}
use Rattle.std.proofs.lemmas.Option.{none-some}
use Rattle.std.specs.declared.vec.Vec.{Vec}
use Rattle.std.specs.declared.alloc.Global.{Global}
use Rattle.hg_changeset.specs.declared.node.Node.{Node}
use Rattle.hg_changeset.specs.declared.changeset.ChangesetError.{ChangesetError}
use Rattle.hg_changeset.specs.declared.entry.EntryError.{EntryError}
use Rattle.hg_changeset.specs.declared.entry.EntryError.TheVariants as error
use Rattle.hg_changeset.specs.EntryValue.{EntryValue}
use Rattle.hg_changeset.specs.EntryAnswer.{EntryAnswer, entry_fault}
use Rattle.hg_changeset.specs.Node.{null_node}
use Rattle.hg_changeset.specs.Contents.{Contents}
use Rattle.hg_changeset.specs.Changeset.{node_of, changeset_of, changeset_fault}
use Rattle.hg_rewrite.specs.declared.refusal.Refusal.TheVariants.{Fault, NoMemory}
use Rattle.hg_rewrite.specs.declared.refusal.Cause.TheVariants.{Changeset, Entry}
use Rattle.hg_rewrite.specs.Parts.{NewChangeset, contents_of, on_parents, chain}
use Rattle.hg_rewrite.specs.Refusals.{Applies, NoneApplies, IsFirstRefusal, changeset_refused, entry_refused}
use Rattle.hg_rewrite.specs.Answer.{IsRefusal, entry_refusal}
use Rattle.hg_rewrite.proofs.RowLemmas.{none_push, first_after, first_next}

abbrev pub bytes : List (Vec ℕ Global) → List (List ℕ)
bytes vs = map (λ (v : Vec ℕ Global). v.items) vs

-- a chain of one text
pub chain_of_one : (on : Node × Node) (text : List ℕ) → on_parents on text ∷ [] ≡ chain on (text ∷ [])
unfolding chain
chain_of_one on text = refl

-- what `Changeset::new` tells
pub new_ok : (o : Option ChangesetError) (c d : Contents) → MatchOption o
    (◌≡◌ {A = Result Contents ChangesetError} (Ok c) (Ok d)) (λ fault. ◌≡◌ {A = Result Contents ChangesetError} (Ok c)
    (Err fault)) → (o ≡ None) × (c ≡ d)
new_ok None c d h = (refl, cc)
new_ok (Some f) c d h = absurd (cc)

pub new_err : (o : Option ChangesetError) (e : ChangesetError) (d : Contents)
    → MatchOption o (◌≡◌ {A = Result Contents ChangesetError} (Err e) (Ok d))
    (λ fault. ◌≡◌ {A = Result Contents ChangesetError} (Err e) (Err fault)) → o ≡ Some e
new_err None e d h = absurd (cc)
new_err (Some f) e d h = cc

-- some changesets of the chain are made; the others are the chain of the rest
pub record IsMadeSoFar (parents : Node × Node) (texts rest : List (Vec ℕ Global)) (next : Node × Node)
    (cs : List Contents) : Type 0 where
  pub done : List NewChangeset
  pub whole : chain parents (bytes texts) ≡ done ++ chain next (bytes rest)
  pub faultless : NoneApplies (map changeset_refused done)
  pub made : cs ≡ map contents_of done

pub nothing_made : (parents : Node × Node) (texts : List (Vec ℕ Global)) → IsMadeSoFar parents texts texts parents []
nothing_made parents texts = record { done = []; whole = refl; faultless = tt; made = refl }

pub all_made : (parents : Node × Node) (texts : List (Vec ℕ Global)) (next : Node × Node) (cs : List Contents)
    → IsMadeSoFar parents texts [] next cs → NoneApplies (map changeset_refused (chain parents (bytes texts)))
    × (cs ≡ map contents_of (chain parents (bytes texts)))
unfolding chain
all_made parents texts next cs h =
    let whole : chain parents (bytes texts) ≡ h.done = h.whole ∙ append-nil h.done in (
      subst (λ ns. NoneApplies (map changeset_refused ns)) (sym whole) h.faultless,
      h.made ∙ ap (λ ns. map contents_of ns) (sym whole),
    )

module _ (parents : Node × Node) (texts rest : List (Vec ℕ Global)) (text : Vec ℕ Global) (p q : Node)
    (cs : List Contents) (so_far : IsMadeSoFar parents texts (text ∷ rest) (p, q) cs) where
  new : NewChangeset
  new = record { p = p; q = q; text = text.items }

  whole : chain parents (bytes texts) ≡ so_far.done ++ new ∷ chain (node_of (changeset_of p q text.items), null_node)
      (bytes rest)
  unfolding chain new
  whole = so_far.whole

  -- one more is made
  pub one_made : changeset_fault p q text.items ≡ None → IsMadeSoFar parents texts rest
      (node_of (changeset_of p q text.items), null_node) (cs ++ changeset_of p q text.items ∷ [])
  unfolding new
  one_made fine = record {
    done = so_far.done ++ new ∷ [];
    whole = whole ∙ sym (append_assoc so_far.done (new ∷ []) (chain (node_of (changeset_of p q text.items), null_node)
        (bytes rest)));
    faultless = none_push changeset_refused so_far.done new so_far.faultless (λ r. none-some r.1.0 (sym fine ∙ r.1.1));
    made = ap (λ xs. xs ++ changeset_of p q text.items ∷ []) so_far.made
        ∙ sym (map-append contents_of so_far.done (new ∷ []));
  }

  -- there is no next one
  pub next_refused : (f : ChangesetError) → changeset_fault p q text.items ≡ Some f
      → IsFirstRefusal (map changeset_refused (chain parents (bytes texts))) (Fault (Changeset f))
  unfolding new
  next_refused f fault =
      subst (λ ns. IsFirstRefusal (map changeset_refused ns) (Fault (Changeset f))) (sym whole)
      (first_after changeset_refused so_far.done (chain (node_of (changeset_of p q text.items), null_node)
      (bytes rest)) new (Fault (Changeset f)) so_far.faultless (f, fault, refl))

-- what `entry_text` tells
pub told_fault : (e : EntryValue) (f : EntryError) → EntryAnswer e (Err f)
    → (entry_refusal f ≡ NoMemory) ⊎ ((entry_fault e ≡ Some f) × (entry_refusal f ≡ Fault (Entry f)))
told_fault e error.EmptyUser h = inr (h, refl)
told_fault e error.NewlineInUser h = inr (h, refl)
told_fault e error.BadExtraKey h = inr (h, refl)
told_fault e error.NoMemory h = inl refl

pub refused_entry : (es : List EntryValue) (i : ℕ) (x : EntryValue) (f : EntryError) → i < length es
    → NoneApplies (map entry_refused (take i es)) → x ≡ get_or es i x → EntryAnswer x (Err f)
    → IsRefusal (map entry_refused es) (entry_refusal f)
refused_entry es i x f lt none is h = elim (told_fault x f h) [
  | inl e ↦ inl e
  | inr fault ↦ inr (first_next entry_refused es i x (entry_refusal f) lt none
      (f, sym (ap entry_fault is) ∙ fault.0, fault.1))
]

-- memory is wanted only for an entry that has a text
pub wanting_entry : (e : EntryValue) (f : EntryError) → EntryAnswer e (Err f) → entry_refusal f ≡ NoMemory
    → ¬ (Applies (entry_refused e))
wanting_entry e error.EmptyUser h w = absurd (cc)
wanting_entry e error.NewlineInUser h w = absurd (cc)
wanting_entry e error.BadExtraKey h w = absurd (cc)
wanting_entry e error.NoMemory h w = λ r. none-some r.1.0 (sym h ∙ r.1.1)

pub written_entry : (e : EntryValue) (text : Vec ℕ Global) → EntryAnswer e (Ok text) → ¬ (Applies (entry_refused e))
written_entry e text h r = none-some r.1.0 (sym h.0 ∙ r.1.1)

-- the next text of a loop over them
module _ (parents : Node × Node) (texts : List (Vec ℕ Global)) (n : ℕ) (text : Vec ℕ Global) (p q : Node)
    (cs : List Contents) (lt : n < length texts) (is : text ≡ get_or texts n text)
    (so_far : IsMadeSoFar parents texts (drop n texts) (p, q) cs) where
  before_next : IsMadeSoFar parents texts (text ∷ drop (n + 1) texts) (p, q) cs
  before_next = subst (λ rest. IsMadeSoFar parents texts rest (p, q) cs)
      (drop_more texts n text lt ∙ ap (λ x. x ∷ drop (n + 1) texts) (sym is)) so_far

  pub made_next : (m : ℕ) (id : Node) (c : Contents) (ds : List Contents) → m ≡ n + 1
      → MatchOption (changeset_fault p q text.items) (◌≡◌ {A = Result Contents ChangesetError} (Ok c)
      (Ok (changeset_of p q text.items))) (λ fault. ◌≡◌ {A = Result Contents ChangesetError} (Ok c) (Err fault))
      → id ≡ node_of c → ds ≡ cs ++ c ∷ [] → IsMadeSoFar parents texts (drop m texts) (id, null_node) ds
  made_next m id c ds more told id_is ds_is =
      let made = new_ok (changeset_fault p q text.items) c (changeset_of p q text.items) told in
      subst (λ j. IsMadeSoFar parents texts (drop j texts) (id, null_node) ds) (sym more)
      (subst (λ x. IsMadeSoFar parents texts (drop (n + 1) texts) (x, null_node) ds) (sym (id_is ∙ ap node_of made.1))
      (subst (IsMadeSoFar parents texts (drop (n + 1) texts) (node_of (changeset_of p q text.items), null_node))
      (sym (ds_is ∙ ap (λ x. cs ++ x ∷ []) made.1))
      (one_made parents texts (drop (n + 1) texts) text p q cs before_next made.0)))

  pub refused_next : (f : ChangesetError) → MatchOption (changeset_fault p q text.items)
      (◌≡◌ {A = Result Contents ChangesetError} (Err f) (Ok (changeset_of p q text.items)))
      (λ fault. ◌≡◌ {A = Result Contents ChangesetError} (Err f) (Err fault))
      → IsFirstRefusal (map changeset_refused (chain parents (bytes texts))) (Fault (Changeset f))
  refused_next f told = next_refused parents texts (drop (n + 1) texts) text p q cs before_next f
      (new_err (changeset_fault p q text.items) f (changeset_of p q text.items) told)

-- all texts are through
pub all_made_at_end : (parents : Node × Node) (texts : List (Vec ℕ Global)) (n : ℕ) (next : Node × Node)
    (cs : List Contents) → length texts ≤ n → IsMadeSoFar parents texts (drop n texts) next cs
    → NoneApplies (map changeset_refused (chain parents (bytes texts)))
    × (cs ≡ map contents_of (chain parents (bytes texts)))
all_made_at_end parents texts n next cs le so_far = all_made parents texts next cs
    (subst (λ rest. IsMadeSoFar parents texts rest next cs) (drop_all n texts le) so_far)
