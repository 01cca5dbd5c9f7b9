-- The steps of a journal keep its rule.
use Rattle.std.proofs.Common.{◌≡◌, ◌≢◌, ℕ, zero, suc, ◌+◌, ◌<◌, ◌∙◌, ◌==◌, true, false, List, [], ◌∷◌, ◌++◌, length}
use Rattle.std.proofs.Common.{set, refl, ap, sym, subst, arith, length-append, append_assoc, Option, None, inl}
use Rattle.std.proofs.lemmas.List.{append-nil, get_or-set_same, get_or-set_other, length-set}
use Rattle.std.proofs.lemmas.Bool.Decides.{nat_tests}
use mathlib.Core.List.{IsPrefix}
use prog.Atomic.{either}
use Rattle.logbook.specs.Pages.{Cell, cell, Nib, no_nib, adds, gives, may_write, step, Moves, Goes}
use Rattle.hg_journal.specs.Rules.{Notes, IsJournal, AreHome, EndsWith, Begins, Grows, Adds}
use Rattle.hg_journal.proofs.Prefixes.{prefix_trans, prefix_whole, prefix_length}
use Rattle.hg_journal.proofs.CellLemmas.{is_home, stay_longer, stay_set, set_is_home, are_home_still}
use Rattle.hg_journal.proofs.CellLemmas.{home_before_last, home_snoc}

abbrev pub shown : {E : Type 0} → Notes E → Notes E
shown notes = []

abbrev pub moved : {E : Type 0} → Notes E → Notes E → ℕ → Type 0
moved xs ys n = Unit {0}

-- it isn't 0
more_than_none : (m : ℕ) → (suc m == 0) ≡ false
more_than_none m = grind (arith, nat_tests)

either_zero : (m : ℕ) → either (m == 0) 0 m ≡ m
either_zero zero = refl
either_zero (suc m) = rw (more_than_none m) refl

module _ {E : Type 0} where
  -- whoever has the pen of the cell that the last note names has seen the whole
  pub whole_seen : (whole log : Notes E) (cs : List Cell) (p : Nib) → EndsWith whole p.key → IsPrefix whole log →
      IsJournal cs log → is_home cs p.key ≡ false → whole ≡ log
  whole_seen whole log cs p (before, entry, ends) ([], e) kept away = sym (append-nil whole) ∙ e
  whole_seen whole log cs p (before, entry, ends) (next ∷ rest, e) kept away =
      let all : before ++ (entry, p.key) ∷ next ∷ rest ≡ log =
      sym (append_assoc before ((entry, p.key) ∷ []) (next ∷ rest)) ∙ (ap (λ w. w ++ next ∷ rest) (sym ends) ∙ e) in
      let home = home_before_last cs before (entry, p.key) next rest (subst (AreHome cs) (sym all) kept.home) in
      absurd (cc (home, away))

  -- a cell beside the first comes home, and a note stands last
  pub kept_adding : (log : Notes E) (note : Option E × ℕ) (n : ℕ) (cs : List Cell) (p : Nib) → EndsWith log p.key →
      IsJournal cs log → p.key < length cs → is_home cs p.key ≡ false → length log ≡ n →
      IsJournal (set (set cs 0 (either ((cell cs 0).0 == n) (n + 1) (cell cs 0).0, true)) p.key (p.value, true))
      (log ++ note ∷ [])
  kept_adding log note n cs p (before, entry, ends) kept there away len =
      let found : (cell cs 0).0 ≡ n = ap (λ (c : Cell). c.0) kept.head ∙ len in
      let is : ((cell cs 0).0 == n) ≡ true = grind (arith, found, nat_tests) in
      let m = either ((cell cs 0).0 == n) (n + 1) (cell cs 0).0 in
      let told : m ≡ length (log ++ note ∷ []) = rw is (omega (arith, length-append log (note ∷ []), len)) in
      let cs1 = set cs 0 (m, true) in
      let cs2 = set cs1 p.key (p.value, true) in
      let apart : 0 ≢ p.key = λ e. cc (ap (λ (c : Cell). c.1) kept.head, away, ap (is_home cs) e) in
      let long : length cs1 ≡ length cs = length-set cs 0 (m, true) in
      let longer : length cs2 ≡ length cs1 = length-set cs1 p.key (p.value, true) in
      let stay : (key : ℕ) → is_home cs key ≡ true → is_home cs2 key ≡ true =
      λ key h. stay_set cs1 p.key p.value key (stay_set cs 0 m key h) in
      let home = home_snoc cs2 before (entry, p.key) note
      (are_home_still cs cs2 (before ++ (entry, p.key) ∷ []) stay (subst (AreHome cs) ends kept.home))
      (set_is_home cs1 p.key p.value (omega (arith, long, there))) in
      record {
        some = omega (arith, longer, long, kept.some);
        head = get_or-set_other cs1 p.key 0 (p.value, true) (0, false) apart ∙
            (get_or-set_same cs 0 (m, true) (0, false) kept.some ∙ ap (λ (k : ℕ). (k, true)) told);
        home = subst (λ (l : Notes E). AreHome cs2 (l ++ note ∷ [])) (sym ends) home;
      }

  pub adds_moves : (v whole : Notes E) (note : Option E × ℕ) (n : ℕ) (p : Nib) → IsPrefix whole v →
      EndsWith whole p.key → p.right ≡ may_write → length whole ≡ n →
      Moves IsJournal shown moved 0 (v, (p, None)) (λ m. either (m == n) (n + 1) m)
      (Adds (step 0 n (n + 1) note) (v, (p, None)))
  adds_moves v whole note n p begins ends right len cs log kept pre away =
      let a = away right in
      let same : whole ≡ log = whole_seen whole log cs p ends (prefix_trans whole v log begins pre) kept a.1 in
      let short = prefix_length whole v begins in
      let all : v ≡ log = prefix_whole v log pre (omega (arith, short, ap length same)) in
      let long : length log ≡ n = sym (ap length same) ∙ len in
      let goes : Goes IsJournal shown moved 0 (v, (p, None)) (λ m. either (m == n) (n + 1) m)
      (Adds (step 0 n (n + 1) note) (v, (p, None))) cs log = (
        gives,
        note ∷ [],
        None,
        right,
        kept_adding log note n cs p (subst (λ (l : Notes E). EndsWith l p.key) same ends) kept a.0 a.1 long,
        inl (refl, refl),
        (ap (λ (w : Notes E). w ++ note ∷ []) (sym all), ap length all ∙ long),
      ) in
      (kept.some, ap (λ (c : Cell). c.1) kept.head, goes)

  -- there is one cell more
  pub kept_growing : (log : Notes E) (m : ℕ) (cs : List Cell) → IsJournal cs log → m ≡ length log →
      IsJournal (set cs 0 (m, true) ++ (0, false) ∷ []) (log ++ [])
  kept_growing log m [] kept is = absurd (omega (arith, kept.some))
  kept_growing log m (c ∷ cs) kept is =
      let others = set (c ∷ cs) 0 (m, true) in
      let stay : (key : ℕ) → is_home (c ∷ cs) key ≡ true → is_home (others ++ (0, false) ∷ []) key ≡ true =
      λ key h. stay_longer others ((0, false) ∷ []) key (stay_set (c ∷ cs) 0 m key h) in
      record {
        some = omega arith;
        head = ap (λ (k : ℕ). (k, true)) (is ∙ ap length (sym (append-nil log)));
        home = subst (AreHome (others ++ (0, false) ∷ [])) (sym (append-nil log))
            (are_home_still (c ∷ cs) (others ++ (0, false) ∷ []) log stay kept.home);
      }

  pub grows_moves : (v : Notes E) (ask : Option E × ℕ) →
      Moves IsJournal shown moved 0 (v, (no_nib, None)) (λ m. either (m == 0) 0 m)
      (Grows (step 0 0 0 ask) (v, (no_nib, None)))
  grows_moves v ask cs log kept pre away =
      let goes : Goes IsJournal shown moved 0 (v, (no_nib, None)) (λ m. either (m == 0) 0 m)
      (Grows (step 0 0 0 ask) (v, (no_nib, None))) cs log = (
        adds,
        [],
        None,
        tt,
        kept_growing log (either ((cell cs 0).0 == 0) 0 (cell cs 0).0) cs kept
            (either_zero (cell cs 0).0 ∙ ap (λ (c : Cell). c.0) kept.head),
        inl (refl, refl),
        refl,
      ) in
      (kept.some, ap (λ (c : Cell). c.1) kept.head, goes)

  begins_goes : (log : Notes E) (ask : Option E × ℕ) (cs : List Cell) → IsJournal cs log →
      Goes IsJournal shown moved 0 ([], (no_nib, None)) (λ m. either (m == 0) 1 m)
      (Begins (step 0 0 1 ask) ([], (no_nib, None))) cs log
  begins_goes [] ask [] kept = absurd (omega (arith, kept.some))
  begins_goes [] ask (c ∷ cs) kept =
      let is : c.0 ≡ 0 = ap (λ (d : Cell). d.0) kept.head in
      let one : either (c.0 == 0) 1 c.0 ≡ 1 = rw is refl in (
        adds,
        (None, length (c ∷ cs)) ∷ [],
        None,
        tt,
        record { some = omega arith; head = ap (λ (k : ℕ). (k, true)) one; home = tt },
        inl (refl, refl),
        λ e. (refl, refl),
      )
  begins_goes (note ∷ log) ask cs kept =
      let found : (cell cs 0).0 ≡ suc (length log) = ap (λ (c : Cell). c.0) kept.head in
      let is : either ((cell cs 0).0 == 0) 1 (cell cs 0).0 ≡ length (note ∷ log) =
      rw (found, more_than_none (length log)) refl in (
        adds,
        [],
        None,
        tt,
        kept_growing (note ∷ log) (either ((cell cs 0).0 == 0) 1 (cell cs 0).0) cs kept is,
        inl (refl, refl),
        λ e. absurd (omega (arith, found, e)),
      )

  pub begins_moves : (ask : Option E × ℕ) →
      Moves IsJournal shown moved 0 ([], (no_nib, None)) (λ m. either (m == 0) 1 m)
      (Begins (step 0 0 1 ask) ([], (no_nib, None)))
  begins_moves ask cs log kept pre away = (kept.some, ap (λ (c : Cell). c.1) kept.head, begins_goes log ask cs kept)
