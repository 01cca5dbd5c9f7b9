-- Paths of numbers and of the nodes that have them.
use Rattle.std.proofs.Common.{◌≡◌, ℕ, ◌<◌, List, length, ◌↔◌, refl, sym, ap, subst, arith, get_or, [], Vec, Global}
use Rattle.std.proofs.lemmas.List.{length-map}
use Rattle.std.proofs.lemmas.Option.{slice_get_within, slice_get-get_or}
use Rattle.hg_changeset.specs.declared.node.Node.{Node}
use Rattle.hg_changeset.proofs.ListLemmas.{slice_get_some}
use Rattle.hg_replica.specs.Content.{Content}
use Rattle.hg_replica.specs.Evolution.{Precedes}
use Rattle.hg_replica.specs.Evolution.Precedes.{step, further}
use Rattle.hg_succ.specs.Steps.{Reaches, LeadsBack}
use Rattle.hg_succ.specs.Steps.Reaches.{no_step, one_step_more}
use Rattle.hg_succ.specs.Rows.{At, rows_of, Edge, AreWithin}
use Rattle.hg_succ.specs.Successors.{IsAny, IsOnCycle, IsRewrittenTo}
use Rattle.hg_succ.specs.Numbered.{AreOnce, AreRows}
use Rattle.hg_succ.proofs.ListLemmas.{get_one}

-- steps over markers, as a first one and the others
path_from_precedes : (f : Content) (p n : Node) → Precedes f IsAny p n → (y : Node) × IsRewrittenTo f p y
    × Reaches (IsRewrittenTo f) y n
path_from_precedes f p n (step {m = m} held kind at is) = (n, (m, held, is, at), no_step)
path_from_precedes f p n (further {m = m} held kind at r) = let w = path_from_precedes f p m.predecessor r in
    (w.0, w.1, one_step_more w.2 (m, held, refl, at))

precedes_from_path : (f : Content) (p y n : Node) → IsRewrittenTo f p y → Reaches (IsRewrittenTo f) y n
    → Precedes f IsAny p n
precedes_from_path f p y n s no_step = step s.1 tt s.3 s.2
precedes_from_path f p y n s (one_step_more {y = k} r t) =
    further t.1 tt t.3 (subst (Precedes f IsAny p) (sym t.2) (precedes_from_path f p y k s r))

module _ (f : Content) (nodes : List Node) (rows : List (List ℕ)) (once : AreOnce nodes)
    (all : length rows ≡ length nodes) (exact : AreRows f nodes rows) where
  edge_to : (i j : ℕ) (x : Node) → Edge rows i j → At nodes i x → (y : Node) × At nodes j y × IsRewrittenTo f x y
  edge_to i j x e at = (let l = (exact i x e.0 at e.1).listed j e.2 in (l.0, l.2, l.1))

  pub edge_from : (i : ℕ) (x y : Node) → At nodes i x → IsRewrittenTo f x y → (j : ℕ) × At nodes j y × Edge rows i j
  edge_from i x y at to =
      let row = slice_get_some rows i (let l = slice_get_within nodes i x at in omega (arith, l, all)) in
      let e = (exact i x row.0 at row.1).each y to in
      (e.0, e.2, (row.0, row.1, e.1))

  path_to : (i j : ℕ) (x : Node) → At nodes i x → Reaches (Edge rows) i j
      → (y : Node) × At nodes j y × Reaches (IsRewrittenTo f) x y
  path_to i j x at no_step = (x, at, no_step)
  path_to i j x at (one_step_more {y = k} r e) = (let w = path_to i k x at r in let s = edge_to k j w.0 e w.1 in
      (s.0, s.1, one_step_more w.2 s.2))

  path_from : (i : ℕ) (x y : Node) → At nodes i x → Reaches (IsRewrittenTo f) x y
      → (j : ℕ) × At nodes j y × Reaches (Edge rows) i j
  path_from i x y at no_step = (i, at, no_step)
  path_from i x y at (one_step_more {y = w} r s) = (let k = path_from i x w at r in let e = edge_from k.0 w y k.1 s in
      (e.0, e.1, one_step_more k.2 e.2))

  -- a number is on a cycle where its node is
  pub cycles_are : (i : ℕ) (x : Node) → At nodes i x → LeadsBack (Edge rows) i ↔ IsOnCycle f x
  cycles_are i x at = (
    λ h.
        let s = edge_to i h.0 x h.1 at in
        let p = path_to h.0 i s.0 s.1 h.2 in
        precedes_from_path f x s.0 x s.2 (subst (Reaches (IsRewrittenTo f) s.0) (get_one nodes i p.0 x p.1 at) p.2),
    λ h.
        let w = path_from_precedes f x x h in
        let e = edge_from i x w.0 at w.1 in
        let p = path_from e.0 w.0 x e.1 w.2 in
        (e.0, e.2, subst (Reaches (Edge rows) e.0) (once p.0 i x p.1 at) p.2),
  )

  pub rows_within : AreWithin rows
  rows_within i j e =
      let x = slice_get_some nodes i (let l = slice_get_within rows i e.0 e.1 in omega (arith, l, all)) in
      let s = edge_to i j x.0 e x.1 in
      (let l = slice_get_within nodes j s.0 s.1 in omega (arith, l, all))
