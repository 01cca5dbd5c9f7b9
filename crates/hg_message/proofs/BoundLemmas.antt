-- A bound is read from its spelling and from nothing else.
use Rattle.std.proofs.Common.{◌≡◌, ℕ, ◌<◌, ◌^◌, Bool, true, false, eqb, cond, List, [], ◌++◌, Result, Ok, Err, refl}
use Rattle.std.proofs.Common.{sym, ap, subst, ◌∙◌, arith}
use Rattle.std.proofs.lemmas.Bool.{eqb-true}
use Rattle.std.proofs.lemmas.List.{append-nil}
use Rattle.hg_changeset.specs.declared.node.Node.{Node}
use Rattle.hg_marker.specs.Reading.{number, node}
use Rattle.hg_marker.proofs.Formats.{IsFormat, Sequence, sequence, number_format, IsNumber, node_format, IsIdOf}
use Rattle.hg_marker.proofs.Formats.{yields_format, Found, says_format, SaysOnly}
use Rattle.hg_phases.specs.declared.phase.Phase.{Phase}
use Rattle.hg_phases.specs.declared.phase.Phase.TheVariants.{Public, Draft, Secret}
use Rattle.hg_phases.specs.State.{rank}
use Rattle.hg_message.specs.declared.error.MessageFault.{MessageFault}
use Rattle.hg_message.specs.declared.error.MessageFault.TheVariants.{BadPhase}
use Rattle.hg_message.specs.Bound.{numbered_phase, bound_at}
use Rattle.hg_message.specs.Spelling.{IsBound, bound_layout, number as spelled}
use Rattle.hg_message.proofs.FormatLemmas.{eq_then, retold, whole_format}

abbrev say : Phase → Result Phase MessageFault
say q = Ok q

said : (q r : Phase) → say q ≡ say r → q ≡ r
said q r e = cc

numbered : (n : ℕ) (p : Phase) → numbered_phase n ≡ Ok p → rank p ≡ n
numbered n p h = by_test (eqb n 0) (eqb n 1) (eqb n 2) refl refl refl h
  where
    by_test : (a b c : Bool) → eqb n 0 ≡ a → eqb n 1 ≡ b → eqb n 2 ≡ c
        → cond a (Ok Public) (cond b (Ok Draft) (cond c (Ok Secret) (Err BadPhase))) ≡ say p → rank p ≡ n
    by_test true b c e f g h = ap rank (sym (said Public p h)) ∙ sym (eqb-true _ _ e)
    by_test false true c e f g h = ap rank (sym (said Draft p h)) ∙ sym (eqb-true _ _ f)
    by_test false false true e f g h = ap rank (sym (said Secret p h)) ∙ sym (eqb-true _ _ g)
    by_test false false false e f g h = absurd cc

numbers : (p : Phase) → numbered_phase (rank p) ≡ Ok p
numbers Public = refl
numbers Draft = refl
numbers Secret = refl

small : (p : Phase) → rank p < 2 ^ 32
small Public = omega arith
small Draft = omega arith
small Secret = omega arith

abbrev Parts : Node × Phase → List ℕ → Type 0
Parts = Sequence IsNumber (λ number. Sequence (Found (numbered_phase number))
    (λ phase. Sequence IsIdOf (λ id. SaysOnly (id, phase))))

bound_to : (x : Node × Phase) (bytes : List ℕ) → Parts x bytes → IsBound x bytes
bound_to x bytes a =
    let b = a.rest_spells in
    let d = b.rest_spells in
    let made : Node × Phase = (d.first, b.first) in
    let whole : bytes ≡ spelled a.first ++ d.first.0 = eq_then a.parts a.first_spells.same
    (eq_then b.parts b.first_spells.1 (eq_then d.parts d.first_spells.same d.rest_spells.1
    ∙ append-nil d.first.0)) in
    let laid : bytes ≡ bound_layout made = whole ∙ ap (λ (n : ℕ). spelled n ++ d.first.0)
    (sym (numbered a.first b.first b.first_spells.0)) in
    subst (λ (y : Node × Phase). IsBound y bytes) (sym d.rest_spells.0) (d.first_spells.is_node, laid)

bound_from : (x : Node × Phase) (bytes : List ℕ) → IsBound x bytes → Parts x bytes
bound_from x bytes s = record {
  first = rank x.1;
  front = spelled (rank x.1);
  back = x.0.0;
  first_spells = record { below = small x.1; same = refl };
  parts = s.1;
  rest_spells = record {
    first = x.1;
    front = [];
    back = x.0.0;
    first_spells = (numbers x.1, refl);
    parts = refl;
    rest_spells = record {
      first = x.0;
      front = x.0.0;
      back = [];
      first_spells = record { is_node = s.0; same = refl };
      parts = sym (append-nil x.0.0);
      rest_spells =
          (refl, refl);
    };
  };
}

pub bound_format : (total : ℕ) → IsFormat (bound_at total) IsBound
unfolding bound_at
bound_format total =
    retold (sequence (whole_format total number number_format)
    (λ n. sequence (yields_format (numbered_phase n)) (λ phase. sequence (whole_format total node node_format)
    (λ id. says_format (id, phase)))))
    bound_to bound_from
