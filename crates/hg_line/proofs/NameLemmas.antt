-- Names of a script after one of them is bound, and after several are.
use Rattle.std.proofs.Common.{◌≡◌, ℕ, List, [], ◌∷◌, false, cond, ◌+◌, ◌<◌}
use Rattle.std.proofs.Common.{◌++◌, ◌⊎◌, length, map, take, get_or, Option, Some, None, is_some, refl, sym, ap}
use Rattle.std.proofs.Common.{◌∙◌, arith}
use Rattle.std.specs.Map.{update}
use Rattle.std.specs.Str.{bytes_eq}
use Rattle.std.proofs.lemmas.List.{take_more, map-append}
use denote.Bor.{Bor}
use mathlib.Core.Logic.{⊎_elim}
use Rattle.hg_changeset.specs.declared.node.Node.{Node}
use Rattle.hg_line.specs.Events.{AreIds}
use Rattle.hg_names.specs.declared.labels.Labels.{Labels}
use Rattle.hg_names.specs.Labels.{BindsNode, labelled}
use Rattle.hg_line.specs.Lines.{bound_to}

-- the names that are bound after hang on what each name stands for before alone
pub bound_to-same : (f g : List ℕ → Option Node) (labels : List (List ℕ)) (ns : List Node)
    → ((name : List ℕ) → f name ≡ g name) → (name : List ℕ) → bound_to f labels ns name ≡ bound_to g labels ns name
bound_to-same f g [] ns h name = h name
bound_to-same f g (l ∷ labels) [] h name = h name
bound_to-same f g (l ∷ labels) (n ∷ ns) h name =
    bound_to-same (update bytes_eq f l (Some n)) (update bytes_eq g l (Some n)) labels ns
    (λ q. ap (λ (v : Option Node). cond (bytes_eq l q) (Some n) v) (h q)) name

-- one label more is bound
pub bound_step : (old new : Labels) (label : Bor (List ℕ)) (n : Node) (ls labels : List (Bor (List ℕ)))
    (ns nodes : List Node) → BindsNode (labelled old) label.now n (labelled new) → labels ≡ label ∷ ls → nodes ≡ n ∷ ns
    → (name : List ℕ)
    → bound_to (labelled new) (map (λ w. w.now) ls) ns name ≡ bound_to (labelled old) (map (λ w. w.now) labels)
    nodes name
bound_step old new label n ls labels ns nodes b l k name =
    bound_to-same (labelled new) (update bytes_eq (labelled old) label.now (Some n)) (map (λ w. w.now) ls) ns b name
    ∙ sym (ap (λ (xs : List (Bor (List ℕ))). bound_to (labelled old) (map (λ w. w.now) xs) nodes name) l
    ∙ ap (λ (ys : List Node). bound_to (labelled old) (map (λ w. w.now) (label ∷ ls)) ys name) k)

-- no label is left, or nothing that it could name
pub bound_end : (f : List ℕ → Option Node) (labels : List (Bor (List ℕ))) (ns : List Node)
    → (length labels ≡ 0) ⊎ (length ns ≡ 0) → (name : List ℕ) → f name ≡ bound_to f (map (λ w. w.now) labels) ns name
bound_end f [] ns h name = refl
bound_end f (l ∷ labels) [] h name = refl
bound_end f (l ∷ labels) (n ∷ ns) h name = ⊎_elim (λ e. absurd (omega arith)) (λ e. absurd (omega arith)) h

-- one label more stands for its id
pub ids_more : (ids : List ℕ → Option Node) (labels : List (Bor (List ℕ))) (i : ℕ) (d : Bor (List ℕ))
    (nodes new : List Node) (n : Node) → i < length labels
    → AreIds ids (take i labels) nodes → ids (get_or labels i d).now ≡ Some n → new ≡ nodes ++ n ∷ []
    → AreIds ids (take (i + 1) labels) new
ids_more ids labels i d nodes new n l so_far here e =
    ap (map (λ w. ids w.now)) (take_more labels i d l)
    ∙ map-append (λ w. ids w.now) (take i labels) (get_or labels i d ∷ [])
    ∙ ap (λ (xs : List (Option Node)). xs ++ ids (get_or labels i d).now ∷ []) so_far
    ∙ ap (λ (o : Option Node). map Some nodes ++ o ∷ []) here
    ∙ sym (ap (map Some) e ∙ map-append Some nodes (n ∷ []))

pub unbound : {V : Type 0} (o : Option V) → is_some o ≡ false → o ≡ None
unbound None h = refl
unbound (Some v) h = cc
