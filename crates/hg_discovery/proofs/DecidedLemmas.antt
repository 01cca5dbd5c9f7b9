-- Tests of what is decided.
use Rattle.std.proofs.Common.{◌≡◌, ℕ, ◌<◌, Bool, true, false, List, length, get_or, Some, refl, sym, ap, ◌∙◌}
use Rattle.std.proofs.Common.{true≢false}
use Rattle.std.proofs.lemmas.Option.{slice_get-get_or, get_or_from_slice_get}
use mathlib.Core.Bool.{beq}
use denote.Enum.Bare.{sameb}
use Rattle.hg_discovery.specs.contracts.finding.Finding.{the_type}
use Rattle.hg_discovery.specs.declared.finding.Finding.{Finding}
use Rattle.hg_discovery.specs.declared.finding.Finding.TheVariants.{Undecided, Common, Missing}
use Rattle.hg_discovery.specs.Search.{Is}

pub same : (a b : Finding) → sameb the_type a b ≡ true → a ≡ b
same Undecided Undecided h = refl
same Undecided Common h = absurd (true≢false (sym h))
same Undecided Missing h = absurd (true≢false (sym h))
same Common Undecided h = absurd (true≢false (sym h))
same Common Common h = refl
same Common Missing h = absurd (true≢false (sym h))
same Missing Undecided h = absurd (true≢false (sym h))
same Missing Common h = absurd (true≢false (sym h))
same Missing Missing h = refl

pub same_itself : (a : Finding) → sameb the_type a a ≡ true
same_itself Undecided = refl
same_itself Common = refl
same_itself Missing = refl

-- what was read at a place
pub read_so : (ds : List Finding) (k : ℕ) (d e : Finding) (b : Bool) → k < length ds
    → b ≡ sameb the_type (get_or ds k d) e → b ≡ true → Is ds e k
read_so ds k d e b l is t = slice_get-get_or ds k d l ∙ ap (λ x. Some x) (same (get_or ds k d) e (sym is ∙ t))

pub read_not_so : (ds : List Finding) (k : ℕ) (d e : Finding) (b : Bool) → b ≡ sameb the_type (get_or ds k d) e
    → b ≡ false → Is ds e k → ⊥
read_not_so ds k d e b is f h =
    let at : get_or ds k d ≡ e = get_or_from_slice_get ds k e d h in
    true≢false (sym (is ∙ ap (λ x. sameb the_type x e) at ∙ same_itself e) ∙ f)

pub same_bool : (a b : Bool) → beq a b ≡ true → a ≡ b
same_bool true true h = refl
same_bool true false h = absurd (true≢false (sym h))
same_bool false true h = absurd (true≢false (sym h))
same_bool false false h = refl

pub same_bool_itself : (a : Bool) → beq a a ≡ true
same_bool_itself true = refl
same_bool_itself false = refl
