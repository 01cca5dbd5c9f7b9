-- What a list that took in an iterator's items has.
use Rattle.std.proofs.Common.{◌≡◌, ℕ, Option, List, map, Ok}
use Rattle.std.specs.Iterator.{Drains}
use Rattle.std.proofs.lemmas.Iterator.{YieldsList}
use Rattle.std.proofs.lemmas.Iterator.Adapters.{fact_from_extend}
use Rattle.std.proofs.lemmas.Iterator.Consumers.{YieldsList-at}

-- what `extend` took in, where v reads each item
pub from_extend : {S A B Q : Type 0} {steps : S → Option A → S → Type 0} {v : A → B} {s : S} {all : List B}
    {P : List A → Type 0} → (it : S) × (xs : List A) × (it ≡ s) × P xs × Drains steps it xs → YieldsList steps v s all
    → ((xs : List A) → map v xs ≡ all → P xs → Q) → Q
from_extend {v = v} ran road says = fact_from_extend {E = ℕ} v (Ok tt) ran (λ it b. YieldsList-at b road) says
