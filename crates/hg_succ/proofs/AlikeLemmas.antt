-- Where contents are alike, what is found by following markers is the same.
use Rattle.std.proofs.Common.{◌≡◌, ◌↔◌, ◌∷◌, [], ℕ, List, Contains, inl, inr, sym, subst}
use Rattle.std.specs.List.{AllZip}
use Rattle.hg_changeset.specs.declared.node.Node.{Node}
use Rattle.hg_changeset.proofs.ListLemmas.{Contains-first, Contains-later}
use Rattle.hg_marker.specs.Fields.{Fields}
use Rattle.hg_replica.specs.Content.{Content}
use Rattle.hg_replica.specs.Evolution.{IsMarker, IsPredecessor, Precedes}
use Rattle.hg_replica.specs.Evolution.Precedes.{step, further}
use Rattle.hg_succ.specs.Alike.{AreAlikeOn}
use Rattle.hg_succ.specs.Successors.{IsAny, IsOnCycle, IsRewrittenTo, IsPick, IsPickOfEach, IsSuccessorsSet, IsFamily}
use Rattle.hg_succ.specs.Successors.{HasCount, HasCounts, AreMarkersOf, IsOverfull, HasSeveral}
use Rattle.hg_succ.specs.Successors.IsPick.{on_cycle, itself, unknown, rewritten}
use Rattle.hg_succ.specs.Successors.IsPickOfEach.{no_places, next_place}
use Rattle.hg_succ.specs.Successors.IsOverfull.{passed_on, too_many}

-- likeness goes both ways
pub alike-back : (P : Node → Type 0) (f g : Content) → AreAlikeOn P f g → AreAlikeOn P g f
alike-back P f g alike = record {
  held = λ n so. ((alike.held n so).1, (alike.held n so).0);
  markers = λ m so. ((alike.markers m so).1, (alike.markers m so).0);
  closed = λ m n so is at. alike.closed m n so ((alike.markers m so).1 is) at;
}

-- what is so place by place, and gives something else of each place, gives that place by place
pub each_zip : {A B : Type 0} (R S : A → B → Type 0) (xs : List A) (ys : List B)
    → ((x : A) (y : B) → Contains xs x → R x y → S x y) → AllZip R xs ys → AllZip S xs ys
each_zip R S [] [] gives zip = tt
each_zip R S [] (y ∷ ys) gives zip = absurd zip
each_zip R S (x ∷ xs) [] gives zip = absurd zip
each_zip R S (x ∷ xs) (y ∷ ys) gives zip = (
  gives x y (Contains-first x xs) zip.0,
  each_zip R S xs ys (λ z w h. gives z w (Contains-later x xs z h)) zip.1,
)

-- ---- steps

module _ (P : Node → Type 0) (f g : Content) (alike : AreAlikeOn P f g) where
  -- what a marker of the one rewrote, one of the other did
  pub marker-alike : (m : Fields) (n : Node) → P n → IsMarker f m → m.predecessor ≡ n → IsMarker g m
  marker-alike m n so is at = (alike.markers m (subst P (sym at) so)).0 is

  pub rewritten-alike : (n x : Node) → P n → IsRewrittenTo f n x → IsRewrittenTo g n x × P x
  rewritten-alike n x so to =
      let first : P to.0.predecessor = subst P (sym to.2) so in
      ((to.0, (alike.markers to.0 first).0 to.1, to.2, to.3), alike.closed to.0 x first to.1 to.3)

  -- a way forward leads to such ids, in both
  pub precedes-alike : (Kind : Fields → Type 0) (p n : Node) → P p → Precedes f Kind p n → Precedes g Kind p n × P n
  precedes-alike Kind p n so (step {m = m} held kind at is) =
      let first : P m.predecessor = subst P (sym is) so in
      (step ((alike.markers m first).0 held) kind at is, alike.closed m n first held at)
  precedes-alike Kind p n so (further {m = m} held kind at r) =
      let before = precedes-alike Kind p m.predecessor so r in
      (further ((alike.markers m before.1).0 held) kind at before.0, alike.closed m n before.1 held at)

  pub predecessor-alike : (n : Node) → P n → IsPredecessor f n → IsPredecessor g n
  predecessor-alike n so h = (h.0, marker-alike h.0 n so h.1 h.2, h.2)

  pub cycle-alike : (n : Node) → P n → IsOnCycle f n → IsOnCycle g n
  cycle-alike n so on = (precedes-alike IsAny n n so on).0

-- ---- picks and sets

module _ (P : Node → Type 0) (f g : Content) (alike : AreAlikeOn P f g) where
  off-alike : (n : Node) → P n → ¬ (IsOnCycle f n) → ¬ (IsOnCycle g n)
  off-alike n so off on = off (cycle-alike P g f (alike-back P f g alike) n so on)

  free-alike : (n : Node) → P n → ¬ (IsPredecessor f n) → ¬ (IsPredecessor g n)
  free-alike n so free h = free (predecessor-alike P g f (alike-back P f g alike) n so h)

  mutual
    pub pick-alike : (n : Node) (p : List Node) → P n → IsPick f n p → IsPick g n p
    pick-alike n p so (on_cycle on) = on_cycle (cycle-alike P f g alike n so on)
    pick-alike n p so (itself free held) = itself (free-alike n so free) ((alike.held n so).0 held)
    pick-alike n p so (unknown free not_held) =
        unknown (free-alike n so free) (λ h. not_held ((alike.held n so).1 h))
    pick-alike n p so (rewritten m held at off picks) =
        rewritten m (marker-alike P f g alike m n so held at) at (off-alike n so off)
        (picks-alike m.successors p (λ y h. (rewritten-alike P f g alike n y so (m, held, at, h)).1) picks)

    pub picks-alike : (ns p : List Node) → ((y : Node) → Contains ns y → P y) → IsPickOfEach f ns p
        → IsPickOfEach g ns p
    picks-alike [] p all no_places = no_places
    picks-alike (n ∷ ns) p all (next_place {pick = a} {picks = as'} first rest) =
        next_place (pick-alike n a (all n (Contains-first n ns)) first)
        (picks-alike ns as' (λ y h. all y (Contains-later n ns y h)) rest)

module _ (P : Node → Type 0) (f g : Content) (alike : AreAlikeOn P f g) where
  pub set-alike : (n : Node) (set : List Node) → P n → IsSuccessorsSet f n set → IsSuccessorsSet g n set
  set-alike n set so is = record {
    ascending = is.ascending;
    some = is.some;
    pick = (is.pick.0, pick-alike P f g alike n is.pick.0 so is.pick.1, is.pick.2, is.pick.3);
    largest = λ p is_pick within.
        is.largest p (pick-alike P g f (alike-back P f g alike) n p so is_pick) within;
  }

  pub markers-alike : (n : Node) (ms : List Fields) → P n → AreMarkersOf f n ms → AreMarkersOf g n ms
  markers-alike n ms so are = record {
    different = are.different;
    exact = λ m. (
      λ h. let of-m = (are.exact m).0 h in (marker-alike P f g alike m n so of-m.0 of-m.1, of-m.1),
      λ h. (are.exact m).1 (marker-alike P g f (alike-back P f g alike) m n so h.0 h.1, h.1),
    );
  }

-- ---- counts, and what is overfull

module _ (P : Node → Type 0) (f g : Content) (alike : AreAlikeOn P f g) where
  pub family-alike : (n : Node) (family : List (List Node)) → P n → IsFamily f n family → IsFamily g n family
  family-alike n family so is = record {
    ascending = is.ascending;
    exact = λ set. (
      λ h. set-alike P f g alike n set so ((is.exact set).0 h),
      λ h. (is.exact set).1 (set-alike P g f (alike-back P f g alike) n set so h),
    );
  }

  pub count-alike : (n : Node) (count : ℕ) → P n → HasCount f n count → HasCount g n count
  count-alike n count so h = (h.0, family-alike n h.0 so h.1, h.2)

  pub counts-alike : (m : Fields) (counts : List ℕ) → P m.predecessor → IsMarker f m → HasCounts f m counts
      → HasCounts g m counts
  counts-alike m counts so held zip = each_zip (HasCount f) (HasCount g) m.successors counts
      (λ y count at has. count-alike y count (alike.closed m y so held at) has) zip

  pub overfull-alike : (n : Node) → P n → IsOverfull f n → IsOverfull g n
  overfull-alike n so (passed_on {x = x} off to over) =
      let there = rewritten-alike P f g alike n x so to in
      passed_on {x = x} (off-alike P f g alike n so off) there.0 (overfull-alike x there.1 over)
  overfull-alike n so (too_many ms counts off are zip many) =
      too_many ms counts (off-alike P f g alike n so off) (markers-alike P f g alike n ms so are)
      (each_zip (HasCounts f) (HasCounts g) ms counts
      (λ m cs in' has. let of-m = (are.exact m).0 in' in
      counts-alike m cs (subst P (sym of-m.1) so) of-m.0 has) zip) many

  pub several-alike : (n : Node) → P n → HasSeveral f n → HasSeveral g n
  several-alike n so (inl over) = inl (overfull-alike n so over)
  several-alike n so (inr two) = inr (
    two.0,
    two.1,
    set-alike P f g alike n two.0 so two.2,
    set-alike P f g alike n two.1 so two.3,
    two.4,
  )

-- ---- both ways

module _ (P : Node → Type 0) (f g : Content) (alike : AreAlikeOn P f g) where
  pub same_sets : (n : Node) (set : List Node) → P n → IsSuccessorsSet f n set ↔ IsSuccessorsSet g n set
  same_sets n set so =
      (set-alike P f g alike n set so, set-alike P g f (alike-back P f g alike) n set so)

  pub same_overfull : (n : Node) → P n → IsOverfull f n ↔ IsOverfull g n
  same_overfull n so = (overfull-alike P f g alike n so, overfull-alike P g f (alike-back P f g alike) n so)

  pub same_several : (n : Node) → P n → HasSeveral f n ↔ HasSeveral g n
  same_several n so = (several-alike P f g alike n so, several-alike P g f (alike-back P f g alike) n so)
