-- Texts that are printed one after the other.
use Rattle.std.proofs.Common.{◌≡◌, ◌++◌, ◌∙◌, List, ℕ, Option, Some, None, ap, append_assoc, subst}
use Rattle.std.specs.Io.KnownBytes.{Appends}

-- two of them are as one
pub appends_both : (a b c : Option (List ℕ)) (x y : List ℕ) → Appends a b x → Appends b c y → Appends a c (x ++ y)
appends_both None b c x y h k = tt
appends_both (Some u) None c x y h k = absurd h
appends_both (Some u) (Some v) None x y h k = absurd k
appends_both (Some u) (Some v) (Some w) x y h k = k ∙ (ap (λ (t : List ℕ). t ++ y) h ∙ append_assoc u x y)

-- a text that is another is as that one
pub appends_as : (a b : Option (List ℕ)) (x y z : List ℕ) → Appends a b x → x ≡ y → y ≡ z → Appends a b z
appends_as a b x y z h e f = subst (Appends a b) (e ∙ f) h
