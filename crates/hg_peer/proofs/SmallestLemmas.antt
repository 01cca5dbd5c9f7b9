-- The least content is that of the smallest state.
use Rattle.std.proofs.Common.{List, [], ◌∷◌, Contains}
use Rattle.std.specs.List.{AllByRecursion}
use Rattle.std.proofs.lemmas.List.Elements.{All-contains, All-from_recursion}
use Rattle.hg_join.specs.Order.{IsLeastCovering}
use Rattle.hg_changeset.proofs.ListLemmas.{Contains-first, Contains-later}
use Rattle.hg_replica.specs.State.{ReplicaState, IsValid}
use Rattle.hg_replica.specs.Least.{PartValue, IsSmallest}
use Rattle.hg_replica.specs.Content.{content_of, IsValidContent, ContentBelow, ContentCovers}
use Rattle.hg_replica.proofs.ContentLemmas.{content-valid, content-below, below_from_content, content-covers}
use Rattle.hg_replica.proofs.ContentLemmas.{covers_from_content}

all_of_each : {X : Type 0} (P : X → Type 0) (xs : List X) → ((x : X) → Contains xs x → P x) → AllByRecursion P xs
all_of_each P [] f = tt
all_of_each P (x ∷ xs) f = (f x (Contains-first x xs), all_of_each P xs (λ y at. f y (Contains-later x xs y at)))

pub smallest : (s t : ReplicaState) (ks : List PartValue) → IsValid s → IsValid t →
    IsLeastCovering IsValidContent ContentBelow ContentCovers (content_of s) ks (content_of t) → IsSmallest s ks t
smallest s t ks v w h = record {
  valid = w;
  above = below_from_content s t v h.above;
  covers =
      λ k at. covers_from_content t k w
      (All-contains (ContentCovers (content_of t)) ks k (All-from_recursion (ContentCovers (content_of t)) ks h.covers)
      at);
  below_each = λ u x up covers.
      below_from_content t u w
      (h.least (content_of u) (content-valid u x) (content-below s u x up)
      (all_of_each (ContentCovers (content_of u)) ks (λ k at. content-covers u k x (covers k at))));
}
