-- The changesets of a part that aren't held.
use Rattle.std.proofs.Common.{◌≡◌, Bool, true, false, cond, List, [], ◌∷◌, ◌++◌, append_assoc, Contains, refl, sym, ap}
use Rattle.std.proofs.Common.{◌∙◌, arith}
use Rattle.std.proofs.lemmas.List.{append-nil}
use Rattle.std.proofs.lemmas.List.Elements.{Contains-append_right}
use Rattle.std.proofs.lemmas.Map.Views.{list_any-from_Contains}
use Rattle.hg_changeset.specs.Contents.{Contents}
use Rattle.hg_changeset.specs.Changeset.{node_of}
use Rattle.hg_changeset.proofs.NodeLemmas.{node_eq_laws}
use Rattle.hg_graph.specs.Graph.{Holds, nodes}
use Rattle.hg_graph.proofs.GraphLemmas.{absent, Holds-from}
use Rattle.hg_history.specs.Change.{is_held, unheld}

-- what one more changeset of the part makes of them
abbrev IsPushed : List Contents → List Contents → Contents → Type 0
IsPushed held part c =
    unheld held (part ++ c ∷ []) ≡ unheld held part ++ cond (is_held (held ++ unheld held part) (node_of c)) [] (c ∷ [])

IsPushed-cons : (held part : List Contents) (x c : Contents) (b : Bool) → is_held held (node_of x) ≡ b
    → IsPushed held part c → IsPushed (held ++ x ∷ []) part c → IsPushed held (x ∷ part) c
IsPushed-cons held part x c true e known new = rw e known
IsPushed-cons held part x c false e known new = rw e (ap (λ xs. x ∷ xs) new
    ∙ ap (λ xs. x ∷ (unheld (held ++ x ∷ []) part ++ cond (is_held xs (node_of c)) [] (c ∷ [])))
    (append_assoc held (x ∷ []) (unheld (held ++ x ∷ []) part)))

unheld-push : (held part : List Contents) (c : Contents) → IsPushed held part c
unheld-push held [] c = ap (λ xs. cond (is_held xs (node_of c)) [] (c ∷ [])) (sym (append-nil held))
unheld-push held (x ∷ part) c =
    IsPushed-cons held part x c (is_held held (node_of x)) refl (unheld-push held part c)
    (unheld-push (held ++ x ∷ []) part c)

pub unheld-new : (held part : List Contents) (c : Contents) → ¬ (Holds (held ++ unheld held part) (node_of c))
    → unheld held (part ++ c ∷ []) ≡ unheld held part ++ c ∷ []
unheld-new held part c out =
    unheld-push held part c
    ∙ ap (λ b. unheld held part ++ cond b [] (c ∷ [])) (absent (held ++ unheld held part) (node_of c) out)

pub unheld-known : (held part : List Contents) (c : Contents) → Holds (held ++ unheld held part) (node_of c)
    → unheld held (part ++ c ∷ []) ≡ unheld held part
unheld-known held part c there =
    unheld-push held part c
    ∙ ap (λ b. unheld held part ++ cond b [] (c ∷ []))
    (list_any-from_Contains node_eq_laws (node_of c) (nodes (held ++ unheld held part)) there)
    ∙ append-nil (unheld held part)

-- of a part that is held nothing is added
pub unheld-none : (held part : List Contents) → ((c : Contents) → Contains part c → Contains held c)
    → unheld held part ≡ []
unheld-none held [] known = refl
unheld-none held (c ∷ part) known =
    ap (λ b. cond b (unheld held part) (c ∷ unheld (held ++ c ∷ []) part))
    (list_any-from_Contains node_eq_laws (node_of c) (nodes held)
    (Holds-from held c (known c (0, omega arith, refl))))
    ∙ unheld-none held part (λ d at. known d (Contains-append_right (c ∷ []) part d at))
