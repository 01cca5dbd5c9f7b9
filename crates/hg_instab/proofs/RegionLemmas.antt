-- Regions of ids that markers name together, and what is content-divergent in them.
use Rattle.std.proofs.Common.{◌≡◌, ℕ, ◌+◌, ◌<◌, ◌↔◌, inl, inr, Bool, true≢false, IsTrue, List, [], ◌∷◌}
use Rattle.std.proofs.Common.{length, take, get_or, map, sum, slice_get, None, Contains, refl, sym, ap, subst, ◌∙◌}
use Rattle.std.proofs.Common.{arith}
use Rattle.std.specs.List.{AllZip, list_any}
use Rattle.std.proofs.lemmas.Bool.{or_left, or_right, or_cases}
use Rattle.std.proofs.lemmas.Option.{none-some, same_Some}
use Rattle.hg_changeset.specs.declared.node.Node.{Node}
use Rattle.hg_changeset.proofs.ListLemmas.{Contains-none, Contains-first, Contains-later, Contains-cons_cases}
use Rattle.hg_changeset.proofs.ListLemmas.{Contains-taken}
use Rattle.hg_graph.proofs.GraphLemmas.{place_from_Contains}
use Rattle.hg_marker.specs.Fields.{Fields}
use Rattle.hg_replica.specs.State.{ReplicaState}
use Rattle.hg_replica.specs.Content.{Content, content_of}
use Rattle.hg_replica.specs.Change.{ChangeValue}
use Rattle.hg_replica.specs.Evolution.{IsPredecessor, IsCurrent}
use Rattle.hg_replica.proofs.MarkerLemmas.{in_from_holds}
use Rattle.hg_succ.specs.Successors.{IsAny, IsPick, HasCounts, ways, AreMarkersOf, IsOverfull, HasSeveral}
use Rattle.hg_succ.specs.Successors.IsPick.{on_cycle, itself, unknown, rewritten}
use Rattle.hg_succ.specs.Successors.IsOverfull.{passed_on, too_many}
use Rattle.hg_succ.proofs.SingleLemmas.{single_not_several}
use Rattle.hg_instab.specs.declared.walk.Way.TheVariants.{Both}
use Rattle.hg_instab.specs.Changed.{IsFresh}
use Rattle.hg_instab.specs.Instabilities.{IsContentDivergent}
use Rattle.hg_instab.specs.Near.{IsForked, IsNamed, IsClosed, IsRegion}
use Rattle.hg_instab.specs.Region.{IsTouched, IsStart, AreStarts}
use Rattle.hg_instab.specs.Walk.{IsReached, IsNext, IsStep, IsFork, IsOfOneAt, Adds}
use Rattle.hg_instab.proofs.NearLemmas.{so-forward, so-backward}
use Rattle.hg_instab.proofs.PrecedeLemmas.{precedes-predecessor, reached-current}
use Rattle.hg_instab.proofs.WalkLemmas.{reached-next, nothing-reached}

-- ---- what was near

-- a test finds one of the nodes that is so
pub any-told : (test : Node → Bool) (Q : Node → Type 0) → ((n : Node) → IsTrue (test n) ↔ Q n) → (xs : List Node)
    → IsTrue (list_any test xs) ↔ ((n : Node) × Contains xs n × Q n)
any-told test Q told [] = (λ h. absurd (true≢false (sym h)), λ h. absurd (Contains-none h.0 h.1))
any-told test Q told (x ∷ xs) = let rest = any-told test Q told xs in (
  λ h. elim (or_cases (test x) (list_any test xs) h) [
    | inl first ↦ (x, Contains-first x xs, (told x).0 first)
    | inr later ↦ let r = rest.0 later in (r.0, Contains-later x xs r.0 r.1, r.2)
  ],
  λ h. elim (Contains-cons_cases x xs h.0 h.1) [
    | inl e ↦ or_left (test x) (list_any test xs) ((told x).1 (subst Q (sym e) h.2))
    | inr later ↦ or_right (test x) (list_any test xs) (rest.1 (h.0, later, h.2))
  ],
)

-- ---- what is added

-- where no marker stands at a place nothing more is so
pub of-missing : (Of : Fields → Node → Type 0) (ms : List Fields) (places : List ℕ) (i k : ℕ) → i < length places
    → get_or places i k ≡ k → slice_get ms k ≡ None → (n : Node)
    → IsOfOneAt Of ms (take (i + 1) places) n ↔ IsOfOneAt Of ms (take i places) n
of-missing Of ms places i k l is missing n = (
  λ h. elim ((Contains-taken places i k h.0 l is).0 h.1) [
    | inl old ↦ (h.0, old, h.2, h.3, h.4)
    | inr e ↦ absurd (none-some h.2 (sym missing ∙ ap (slice_get ms) e ∙ h.3))
  ],
  λ h. (h.0, (Contains-taken places i k h.0 l is).1 (inl h.1), h.2, h.3, h.4),
)

-- ---- the region

-- two markers stand at two places
forked-fork : (s : ReplicaState) (n : Node) → IsForked (content_of s) n → IsFork s.markers n
forked-fork s n h =
    let i = place_from_Contains s.markers h.0 (in_from_holds s.markers h.0 h.3) in
    let j = place_from_Contains s.markers h.1 (in_from_holds s.markers h.1 h.4) in (
      i.0,
      j.0,
      (λ e. h.2 (same_Some h.0 h.1 (sym i.1 ∙ ap (slice_get s.markers) e ∙ j.1))),
      (h.0, i.1, h.5),
      (h.1, j.1, h.6),
    )

module _ (s : ReplicaState) (starts region : List Node)
    (walked : (n : Node) → Contains region n ↔ IsReached (IsStep Both s.markers) starts n) where
  -- a step both ways stays in the region
  stays : (p n : Node) → Contains region p → IsStep Both s.markers p n → Contains region n
  stays p n h next = (walked n).1 (reached-next Both s.markers starts p n ((walked p).0 h) next)

  -- with an id that a marker names its predecessor is in the region
  up : (m : Fields) (a : Node) → Contains s.markers m → IsNamed m a → Contains region a → Contains region m.predecessor
  up m a held (inl e) h = subst (Contains region) (sym e) h
  up m a held (inr at) h = stays a m.predecessor h (inr (m, held, at, refl))

  -- and with that all that it names
  down : (m : Fields) (b : Node) → Contains s.markers m → IsNamed m b → Contains region m.predecessor
      → Contains region b
  down m b held (inl e) h = subst (Contains region) e h
  down m b held (inr at) h = stays m.predecessor b h (inl (m, held, refl, tt, at))

  region-closed : IsClosed (content_of s) (Contains region)
  region-closed m a b held named also h =
      let at = in_from_holds s.markers m held in down m b at also (up m a at named h)

  pub is-region : (change : ChangeValue) (near : List Node) → AreStarts s.markers change near starts
      → IsRegion (content_of s) change s.markers near region
  is-region change near are = record {
    closed = region-closed;
    fresh = λ m n at named close. begun m at (inr (n, named, close));
    forked = λ m at forked. begun m at (inl (forked-fork s m.predecessor forked));
    added = λ n at close. (walked n).1 (inl ((are n).1 (inr (at, close))));
  }
    where
      begun : (m : Fields) → IsFresh s.markers change m → IsTouched s.markers near m → Contains region m.predecessor
      begun m at touched = (walked m.predecessor).1
          (inl ((are m.predecessor).1 (inl (at.0, at.1, m, at.2, (touched, refl)))))

-- what was added to no starts
pub starts-are : (ms : List Fields) (change : ChangeValue) (near xs ys starts : List Node) → xs ≡ []
    → Adds (IsStart ms near change.markers) xs ys → Adds (λ n. Contains change.added n × Contains near n) ys starts
    → AreStarts ms change near starts
starts-are ms change near xs ys starts none a b n = (
  λ h. elim ((b.members n).0 h) [
    | inl first ↦ elim ((a.members n).0 first) [
      | inl before ↦ absurd (Contains-none n (subst (λ ns. Contains ns n) none before))
      | inr new ↦ inl new
    ]
    | inr added ↦ inr added
  ],
  λ h. (b.members n).1 (elim h [ inl new ↦ inl ((a.members n).1 (inr new)) | inr added ↦ inr added ]),
)

-- what begins nowhere is empty
pub no-region : (s : ReplicaState) (change : ChangeValue) (near starts : List Node) → starts ≡ []
    → AreStarts s.markers change near starts → IsRegion (content_of s) change s.markers near []
no-region s change near starts none are = is-region s [] [] (nothing-reached (IsStep Both s.markers)) change near
    (subst (AreStarts s.markers change near) none are)

-- ---- what has several successors sets is the predecessor of a marker

module _ (f : Content) (p : Node) where
  free_not_several : ¬ (IsPredecessor f p) → HasSeveral f p → ⊥
  free_not_several free = single_not_several f p (λ x way a b held there at by. absurd (free (elim way
      [ inl e ↦ (a, held, at ∙ sym e) | inr far ↦ precedes-predecessor f IsAny p x far ])))

  from-overfull : IsOverfull f p → IsPredecessor f p
  from-overfull (passed_on off to over) = (to.0, to.1, to.2)
  from-overfull (too_many ms counts off are zip many) = by ms counts are zip many
    where
      by : (ms : List Fields) (counts : List (List ℕ)) → AreMarkersOf f p ms → AllZip (HasCounts f) ms counts
          → 4096 < sum (map ways counts) → IsPredecessor f p
      by [] [] are zip many = absurd (omega (arith, many))
      by [] (cs ∷ counts) are zip many = absurd zip
      by (m ∷ ms) counts are zip many = let of-m = (are.exact m).0 (Contains-first m ms) in (m, of-m.0, of-m.1)

  from-pick : (pick : List Node) → IsPick f p pick → HasSeveral f p → IsPredecessor f p
  from-pick pick (on_cycle on) several = precedes-predecessor f IsAny p p on
  from-pick pick (itself free held) several = absurd (free_not_several free several)
  from-pick pick (unknown free held) several = absurd (free_not_several free several)
  from-pick pick (rewritten m held at off picks) several = (m, held, at)

  several-predecessor : HasSeveral f p → IsPredecessor f p
  several-predecessor (inl over) = from-overfull over
  several-predecessor (inr two) = from-pick two.2.pick.0 two.2.pick.1 (inr two)

-- ---- content-divergent in a region

pub divergent-in : (s : ReplicaState) (region starts found : List Node)
    → ((p : Node) → Contains starts p ↔ (Contains region p × HasSeveral (content_of s) p))
    → ((n : Node) → Contains found n ↔ (IsReached (IsNext IsAny s.markers) starts n × IsCurrent (content_of s) n))
    → IsClosed (content_of s) (Contains region) → (n : Node)
    → Contains found n ↔ (Contains region n × IsContentDivergent (content_of s) n)
divergent-in s region starts found begin led closed n =
    let f = content_of s in
    let are = reached-current s IsAny (λ (p : Node). Contains region p × HasSeveral f p) starts n
    (λ p. (
      λ h. let x = (begin p).0 h in (several-predecessor f p x.1, x),
      λ h. (begin p).1 h.1,
    )) in (
      λ h. let x = are.0 ((led n).0 h) in (
        so-forward f (Contains region) closed IsAny x.1.0 n x.1.2 x.1.1.0,
        (x.0, (x.1.0, x.1.1.1, x.1.2)),
      ),
      λ h. let by = h.1.1 in (led n).1 (are.1 (
        h.1.0,
        (by.0, (so-backward f (Contains region) closed IsAny by.0 n by.2 h.0, by.1), by.2),
      )),
    )
