-- What is read of a line and of lines, against how roots are spelled.
use Rattle.std.proofs.Common.{◌≡◌, ℕ, zero, suc, ◌+◌, ◌<◌, ◌≤◌, Bool, true, false, cond, eqb, List, [], ◌∷◌, ◌++◌}
use Rattle.std.proofs.Common.{length, take, drop, get_or, Option, Some, None, Result, Ok, Err, ◌⊎◌, inl, inr, refl, sym}
use Rattle.std.proofs.Common.{ap, subst, ◌∙◌, append_assoc, append-nil, length-append, true≢false, arith}
use Rattle.std.specs.Prelude.{position, nat_le, ◌&&◌}
use Rattle.std.specs.List.{position_or_len, All, AllPass, list_all}
use Rattle.std.specs.Option.{ok_or}
use Rattle.std.specs.Result.{MatchResult, IfOk, IfErr, IsErrOf, result_ok}
use Rattle.std.specs.Str.Parse.{digits_value}
use Rattle.std.proofs.Math.Seq.{drop-cons}
use Rattle.std.proofs.lemmas.Bool.{and_parts, eq-eqb, eqb-true, leb-true, le-leb, lt-ltb}
use Rattle.std.proofs.lemmas.List.{take_at, drop_at, take-append-drop}
use Rattle.std.proofs.lemmas.List.Elements.{All-head, All-tail, All-weaker}
use Rattle.std.proofs.lemmas.List.Quantifiers.{position-Some}
use Rattle.std.proofs.lemmas.List.Sums.{AllPass-from_list_all, list_all-from_AllPass}
use Rattle.std.proofs.lemmas.Option.{cond_some, none-some}
use Rattle.hg_changeset.specs.declared.node.Node.{Node}
use Rattle.hg_changeset.specs.declared.node.NodeError.TheVariants.{BadLength, BadDigit}
use Rattle.hg_changeset.specs.Bytes.{space}
use Rattle.hg_changeset.specs.Node.{node_of_hex, id_value}
use Rattle.hg_phases.specs.declared.phase.Phase.TheVariants.{Draft, Secret}
use Rattle.hg_changeset.proofs.ListLemmas.{position-found}
use Rattle.hg_phaseroots.specs.declared.error.RootsError.{RootsError}
use Rattle.hg_phaseroots.specs.declared.error.RootsError.TheVariants.{BadLine, BadPhase, NoMemory}
use Rattle.hg_phaseroots.specs.Lines.{lines_of}
use Rattle.hg_phaseroots.specs.Reading.{Root, is_space, is_decimal, number_of, root_of, root_around, root_in}
use Rattle.hg_phaseroots.specs.Reading.{then_roots, roots_in, roots_of, IsReading}
use Rattle.hg_phaseroots.specs.Spelling.{IsLine, IsListed, Lists, AreSpelled, IsSpelling, IsNoLine, HasBadPhase}
use Rattle.hg_phaseroots.specs.Spelling.{IsRootsFault}
use Rattle.hg_phaseroots.proofs.ReadLemmas.{after_roots, after_none}
use Rattle.hg_phaseroots.proofs.WriteLemmas.{node_found}

-- ---- the parts of a line

position_after : (p : ℕ → Bool) (front : List ℕ) (x : ℕ) (rest : List ℕ) → All (λ b. p b ≡ false) front
    → p x ≡ true → position_or_len p (front ++ x ∷ rest) ≡ length front
position_after p [] x rest fail e = rw e refl
position_after p (b ∷ front) x rest fail e =
    let later = position_after p front x rest (All-tail (λ c. p c ≡ false) b front fail) e in
    rw (All-head (λ c. p c ≡ false) b front fail, later) (omega arith)

no_space : (b : ℕ) → is_decimal b ≡ true → is_space b ≡ false
no_space b decimal = by (is_space b) refl
  where
    by : (v : Bool) → is_space b ≡ v → v ≡ false
    by true e = absurd (true≢false (sym decimal ∙ ap is_decimal (eqb-true b 32 e)))
    by false e = refl

-- where the parts of a line are found
record AreParts (number : ℕ) (node : Node) (line : List ℕ) : Type 0 where
  at : ℕ
  space_at : position is_space line ≡ Some at
  number_at : number_of (take at line) ≡ Some number
  node_at : result_ok (node_of_hex (drop (at + 1) line)) ≡ Some node

number_read : (digits : List ℕ) → 1 ≤ length digits → length digits ≤ 9 → AllPass is_decimal digits
    → number_of digits ≡ Some (digits_value 10 digits)
number_read digits least most decimal =
    rw (
      le-leb 1 (length digits) least,
      le-leb (length digits) 9 most,
      list_all-from_AllPass is_decimal digits
          decimal,
    ) refl

parts_read : (number : ℕ) (node : Node) (line : List ℕ) → IsLine number node line → AreParts number node line
parts_read number node line is =
    let size = length is.digits in
    let apart = All-weaker (λ b. is_decimal b ≡ true) (λ b. is_space b ≡ false) no_space is.digits is.decimal in
    let found : position_or_len is_space line ≡ size = ap (position_or_len is_space) is.parts
    ∙ position_after is_space is.digits space is.id apart refl in
    let within : size < length line = omega (arith, ap length is.parts, length-append is.digits (space ∷ is.id)) in
    let front : take size line ≡ is.digits = ap (take size) is.parts ∙ take_at is.digits (space ∷ is.id) size refl in
    let back : drop (size + 1) line ≡ is.id =
    ap (drop (size + 1)) (is.parts ∙ sym (append_assoc is.digits (space ∷ []) is.id))
    ∙ drop_at (is.digits ++ space ∷ []) is.id (size + 1) (length-append is.digits (space ∷ [])) in
    record {
      at = size;
      space_at = rw (found, lt-ltb size (length line) within) refl;
      number_at = ap number_of front ∙ number_read is.digits is.least is.most is.decimal
          ∙ ap (λ (n : ℕ). Some n) (sym is.number_is);
      node_at = ap (λ (id : List ℕ). result_ok (node_of_hex id)) back ∙ node_found (eqb (length is.id) 40)
          (id_value is.id) node (eq-eqb (length is.id) 40 is.long) is.node_is;
    }

node_back : (long : Bool) (v : Option Node) (n : Node)
    → result_ok (cond long (ok_or v BadDigit) (Err BadLength)) ≡ Some n → (long ≡ true) × (v ≡ Some n)
node_back true (Some m) n e = (refl, e)
node_back true None n e = absurd (none-some n e)
node_back false v n e = absurd (none-some n e)

parts_back : (number : ℕ) (node : Node) (line : List ℕ) → AreParts number node line → IsLine number node line
parts_back number node line p =
    let i = p.at in
    let found = position-found is_space line i p.space_at in
    let within : i < length line = omega (arith, found.0, found.1) in
    let is_there : get_or line i 0 ≡ space = eqb-true (get_or line i 0) space
    (position-Some is_space line i 0 p.space_at).1 in
    let next : suc i ≡ i + 1 = omega arith in
    let front = take i line in
    let digits = cond_some (nat_le 1 (length front) && nat_le (length front) 9 && list_all is_decimal front)
    (digits_value 10 front) number p.number_at in
    let tests = and_parts (nat_le 1 (length front) && nat_le (length front) 9) (list_all is_decimal front) digits.0 in
    let few = and_parts (nat_le 1 (length front)) (nat_le (length front) 9) tests.0 in
    let id = node_back (eqb (length (drop (i + 1) line)) 40) (id_value (drop (i + 1) line)) node p.node_at in
    record {
      digits = take i line;
      id = drop (i + 1) line;
      parts = sym (take-append-drop i line) ∙ ap (λ (rest : List ℕ). take i line ++ rest)
          (drop-cons line i 0 within ∙ (λ t. is_there t ∷ drop (next t) line));
      least = leb-true _ _ few.0;
      most = leb-true _ _ few.1;
      decimal = AllPass-from_list_all is_decimal (take i line) tests.1;
      number_is = sym digits.1;
      long = eqb-true _ _ id.0;
      node_is = id.1;
    }

-- ---- a line

root_is : (n : ℕ) (line : List ℕ) → root_in n line ≡ root_around n line (position is_space line)
unfolding root_in
root_is n line = refl

line_read : (n number : ℕ) (node : Node) (line : List ℕ) → IsLine number node line
    → root_in n line ≡ root_of n number node
line_read n number node line is = let p = parts_read number node line is in
    root_is n line ∙ rw (p.space_at, p.number_at, p.node_at) refl

-- the line has the form, or it has not, and is told
abbrev IsLineRead : ℕ → List ℕ → Type 0
IsLineRead n line = ((number : ℕ) × (node : Node) × IsLine number node line)
    ⊎ (IsNoLine line × (root_in n line ≡ Err (BadLine n)))

module _ (n : ℕ) (line : List ℕ) where
  same_place : (i : ℕ) (number : ℕ) (node : Node) → position is_space line ≡ Some i → (p : AreParts number node line)
      → p.at ≡ i
  same_place i number node e p = let both : Some p.at ≡ Some i = sym p.space_at ∙ e in cc

  by_node : (i number : ℕ) → position is_space line ≡ Some i → number_of (take i line) ≡ Some number → (o : Option Node)
      → result_ok (node_of_hex (drop (i + 1) line)) ≡ o → IsLineRead n line
  by_node i number e f None g = inr (
    (λ other node is.
        let p = parts_read other node line is in
        none-some node
        (sym g ∙ ap (λ (k : ℕ). result_ok (node_of_hex (drop (k + 1) line))) (sym (same_place i other node e p))
        ∙ p.node_at)),
    root_is n line ∙ rw (e, f, g) refl,
  )
  by_node i number e f (Some node) g =
      inl (number, node, parts_back number node line (record { at = i; space_at = e; number_at = f; node_at = g }))

  by_number : (i : ℕ) → position is_space line ≡ Some i → (o : Option ℕ) → number_of (take i line) ≡ o
      → IsLineRead n line
  by_number i e None f = inr (
    (λ number node is.
        let p = parts_read number node line is in
        none-some number (sym f ∙ ap (λ (k : ℕ). number_of (take k line)) (sym (same_place i number node e p))
        ∙ p.number_at)),
    root_is n line ∙ rw (e, f) refl,
  )
  by_number i e (Some number) f = by_node i number e f (result_ok (node_of_hex (drop (i + 1) line))) refl

  by_space : (o : Option ℕ) → position is_space line ≡ o → IsLineRead n line
  by_space None e = inr (
    (λ number node is. let p = parts_read number node line is in none-some p.at (sym e ∙ p.space_at)),
    root_is n line ∙ rw e refl,
  )
  by_space (Some i) e = by_number i e (number_of (take i line)) refl

  line_told : IsLineRead n line
  line_told = by_space (position is_space line) refl

-- ---- what a line lists

abbrev list_of : Option Root → List Root
list_of None = []
list_of (Some root) = root ∷ []

listed_read : (n number : ℕ) (node : Node) (roots : List Root) → IsListed number node roots
    → (o : Option Root) × (root_of n number node ≡ Ok o) × (roots ≡ list_of o)
listed_read n number node roots h = elim h [
  | inl none ↦ (None, rw none.0 refl, none.1)
  | inr one ↦ elim one [
    | inl draft ↦ (Some (Draft, node), rw draft.0 refl, draft.1)
    | inr secret ↦ (Some (Secret, node), rw secret.0 refl, secret.1)
  ]
]

phase_above : (n number : ℕ) (node : Node) → 2 < number → root_of n number node ≡ Err (BadPhase n)
phase_above n number node lt =
    let public : eqb number 0 ≡ false = grind arith in
    let draft : eqb number 1 ≡ false = grind arith in
    let secret : eqb number 2 ≡ false = grind arith in
    rw (public, draft, secret) refl

listed_told : (n number : ℕ) (node : Node)
    → ((o : Option Root) × (root_of n number node ≡ Ok o) × IsListed number node (list_of o))
    ⊎ ((2 < number) × (root_of n number node ≡ Err (BadPhase n)))
listed_told n zero node = inl (None, refl, inl (refl, refl))
listed_told n (suc zero) node = inl (Some (Draft, node), refl, inr (inl (refl, refl)))
listed_told n (suc (suc zero)) node = inl (Some (Secret, node), refl, inr (inr (refl, refl)))
listed_told n (suc (suc (suc number))) node = let above : 2 < suc (suc (suc number)) = omega arith in
    inr (above, phase_above n (suc (suc (suc number))) node above)

then_listed : (o : Option Root) (r : Result (List Root) RootsError) → then_roots (Ok o) r ≡ after_roots (list_of o) r
then_listed None (Ok roots) = refl
then_listed None (Err e) = refl
then_listed (Some root) (Ok roots) = refl
then_listed (Some root) (Err e) = refl

-- ---- lines

first_read : (n : ℕ) (line : List ℕ) (lines : List (List ℕ)) (first : List Root) → Lists first line
    → roots_in n (line ∷ lines) ≡ after_roots first (roots_in (n + 1) lines)
first_read n line lines first h =
    let o = listed_read n h.number h.node first h.listed in
    ap (λ (r : Result (Option Root) RootsError). then_roots r (roots_in (n + 1) lines))
    (line_read n h.number h.node line h.is_line ∙ o.1)
    ∙ then_listed o.0 (roots_in (n + 1) lines)
    ∙ ap (λ (roots : List Root). after_roots roots (roots_in (n + 1) lines)) (sym o.2)

after_both : (first second : List Root) (r : Result (List Root) RootsError)
    → after_roots first (after_roots second r) ≡ after_roots (first ++ second) r
after_both first second (Ok roots) = ap (λ (all : List Root). Ok all) (sym (append_assoc first second roots))
after_both first second (Err e) = refl

past_spelled : (n : ℕ) (before rest : List (List ℕ)) (roots : List Root) → AreSpelled roots before
    → roots_in n (before ++ rest) ≡ after_roots roots (roots_in (n + length before) rest)
past_spelled n [] rest roots h =
    let same : n ≡ n + 0 = omega arith in
    ap (λ (k : ℕ). roots_in k rest) same ∙ after_none (roots_in (n + 0) rest)
    ∙ ap (λ (rs : List Root). after_roots rs (roots_in (n + 0) rest)) (sym h)
past_spelled n (line ∷ before) rest roots h =
    let same : n + 1 + length before ≡ n + length (line ∷ before) = omega arith in
    first_read n line (before ++ rest) h.0 h.2
    ∙ ap (after_roots h.0) (past_spelled (n + 1) before rest h.1 h.3)
    ∙ after_both h.0 h.1 (roots_in (n + 1 + length before) rest)
    ∙ (λ t. after_roots (sym h.4 t) (roots_in (same t) rest))

-- ---- where reading stops

record Stops (n : ℕ) (lines : List (List ℕ)) (error : RootsError) : Type 0 where
  before : List (List ℕ)
  line : List ℕ
  after : List (List ℕ)
  parts : lines ≡ before ++ line ∷ after
  roots : List Root
  spelled : AreSpelled roots before
  number : ℕ
  number_is : number ≡ n + length before
  wrong : ((error ≡ BadLine number) × IsNoLine line) ⊎ ((error ≡ BadPhase number) × HasBadPhase line)

abbrev AreLinesRead : ℕ → List (List ℕ) → Result (List Root) RootsError → Type 0
AreLinesRead n lines r = MatchResult r (λ roots. AreSpelled roots lines) (Stops n lines)

told_later : (n : ℕ) (line : List ℕ) (lines : List (List ℕ)) (first : List Root) → Lists first line
    → (r : Result (List Root) RootsError) → AreLinesRead (n + 1) lines r
    → AreLinesRead n (line ∷ lines) (after_roots first r)
told_later n line lines first h (Ok roots) t = (first, roots, h, t, refl)
told_later n line lines first h (Err e) t = record {
  before = line ∷ t.before;
  line = t.line;
  after = t.after;
  parts = ap (λ (ls : List (List ℕ)). line ∷ ls) t.parts;
  roots = first ++ t.roots;
  spelled = (first, t.roots, h, t.spelled, refl);
  number = t.number;
  number_is = omega (arith, t.number_is);
  wrong = t.wrong;
}

stops_here : (n : ℕ) (line : List ℕ) (lines : List (List ℕ)) (error : RootsError) → root_in n line ≡ Err error
    → ((error ≡ BadLine n) × IsNoLine line) ⊎ ((error ≡ BadPhase n) × HasBadPhase line)
    → AreLinesRead n (line ∷ lines) (roots_in n (line ∷ lines))
stops_here n line lines error e wrong =
    let stop : roots_in n (line ∷ lines) ≡ Err error =
    ap (λ (r : Result (Option Root) RootsError). then_roots r (roots_in (n + 1) lines)) e in
    let here : Stops n (line ∷ lines) error =
    record {
      before = [];
      line = line;
      after = lines;
      parts = refl;
      roots = [];
      spelled = refl;
      number =
          n;
      number_is = omega arith;
      wrong = wrong;
    } in
    subst (λ (r : Result (List Root) RootsError). AreLinesRead n (line ∷ lines) r) (sym stop) here

told : (n : ℕ) (lines : List (List ℕ)) → AreLinesRead n lines (roots_in n lines)
told n [] = refl
told n (line ∷ lines) = elim (line_told n line) [
  | inl form ↦ elim (listed_told n form.0 form.1) [
    | inl known ↦
        let lists : Lists (list_of known.0) line =
        record { number = form.0; node = form.1; is_line = form.2; listed = known.2 } in
        subst (λ (r : Result (List Root) RootsError). AreLinesRead n (line ∷ lines) r)
        (sym (first_read n line lines (list_of known.0) lists))
        (told_later n line lines (list_of known.0) lists (roots_in (n + 1) lines) (told (n + 1) lines))
    | inr above ↦ stops_here n line lines (BadPhase n) (line_read n form.0 form.1 line form.2 ∙ above.1)
        (inr (refl, (form.0, form.1, form.2, above.0)))
  ]
  | inr other ↦ stops_here n line lines (BadLine n) other.1 (inl (refl, other.0))
]

-- ---- a text

pub spelling_read : (roots : List Root) (text : List ℕ) → IsSpelling roots text → roots_of text ≡ Ok roots
spelling_read roots text h =
    ap (roots_in 1) (sym (append-nil (lines_of text)))
    ∙ past_spelled 1 (lines_of text) [] roots h
    ∙ ap (λ (rs : List Root). Ok rs) (append-nil roots)

pub read_spelling : (roots : List Root) (text : List ℕ) → roots_of text ≡ Ok roots → IsSpelling roots text
read_spelling roots text e = subst (λ (r : Result (List Root) RootsError). AreLinesRead 1 (lines_of text) r) e
    (told 1 (lines_of text))

pub fault_told : (text : List ℕ) (error : RootsError) → roots_of text ≡ Err error → IsRootsFault text error
fault_told text error e =
    let s : Stops 1 (lines_of text) error =
    subst (λ (r : Result (List Root) RootsError). AreLinesRead 1 (lines_of text) r) e
    (told 1 (lines_of text)) in
    let number : s.number ≡ length s.before + 1 = omega (arith, s.number_is) in
    elim s.wrong [
      | inl form ↦ subst (IsRootsFault text) (sym form.0)
          (record {
            before = s.before;
            line = s.line;
            after = s.after;
            lines = s.parts;
            roots = s.roots;
            spelled =
                s.spelled;
            number = number;
            wrong = form.1;
          })
      | inr bad ↦ subst (IsRootsFault text) (sym bad.0)
          (record {
            before = s.before;
            line = s.line;
            after = s.after;
            lines = s.parts;
            roots = s.roots;
            spelled =
                s.spelled;
            number = number;
            wrong = bad.1;
          })
    ]

no_line_read : (n : ℕ) (line : List ℕ) → IsNoLine line → root_in n line ≡ Err (BadLine n)
no_line_read n line wrong = elim (line_told n line) [
  | inl form ↦ absurd (wrong form.0 form.1 form.2)
  | inr other ↦ other.1
]

-- past lines that list roots, reading stops at this one
stops_at : (text : List ℕ) (before : List (List ℕ)) (line : List ℕ) (after : List (List ℕ)) (roots : List Root)
    (error : RootsError) → lines_of text ≡ before ++ line ∷ after → AreSpelled roots before
    → root_in (1 + length before) line ≡ Err error → roots_of text ≡ Err error
stops_at text before line after roots error lines spelled e =
    ap (roots_in 1) lines
    ∙ past_spelled 1 before (line ∷ after) roots spelled
    ∙ ap (λ (r : Result (Option Root) RootsError). after_roots roots
    (then_roots r (roots_in (1 + length before + 1) after))) e

pub fault_read : (text : List ℕ) (error : RootsError) → IsRootsFault text error → roots_of text ≡ Err error
fault_read text (BadLine n) h =
    let number : 1 + length h.before ≡ n = omega (arith, h.number) in
    stops_at text h.before h.line h.after h.roots (BadLine (1 + length h.before)) h.lines h.spelled
    (no_line_read (1 + length h.before) h.line h.wrong)
    ∙ ap (λ (k : ℕ). Err (BadLine k)) number
fault_read text (BadPhase n) h =
    let number : 1 + length h.before ≡ n = omega (arith, h.number) in
    stops_at text h.before h.line h.after h.roots (BadPhase (1 + length h.before)) h.lines h.spelled
    (line_read (1 + length h.before) h.wrong.0 h.wrong.1 h.line h.wrong.2 ∙ phase_above (1 + length h.before) h.wrong.0
    h.wrong.1 h.wrong.3)
    ∙ ap (λ (k : ℕ). Err (BadPhase k)) number
fault_read text NoMemory h = absurd h

-- ---- what is answered

pub as_reading : (text : List ℕ) (error : RootsError) → roots_of text ≡ Err error → IsReading text (Err error)
as_reading text (BadLine n) e = e
as_reading text (BadPhase n) e = e
as_reading text NoMemory e = absurd (fault_told text NoMemory e)

module _ (text : List ℕ) where
  pub found : (r : Result (List Root) RootsError) → IsReading text r → IfOk r (λ roots. IsSpelling roots text)
  found (Ok roots) e = read_spelling roots text e
  found (Err error) e = tt

  pub only : (r : Result (List Root) RootsError) → IsReading text r → (roots : List Root) → IsSpelling roots text
      → MatchResult r (λ read. read ≡ roots) (λ error. error ≡ NoMemory)
  only (Ok read) e roots h = same (sym e ∙ spelling_read roots text h)
    where
      same : ◌≡◌ {A = Result (List Root) RootsError} (Ok read) (Ok roots) → read ≡ roots
      same e = cc
  only (Err (BadLine n)) e roots h = absurd (differ (sym (spelling_read roots text h) ∙ e))
    where
      differ : ◌≡◌ {A = Result (List Root) RootsError} (Ok roots) (Err (BadLine n)) → ⊥
      differ e = cc
  only (Err (BadPhase n)) e roots h = absurd (differ (sym (spelling_read roots text h) ∙ e))
    where
      differ : ◌≡◌ {A = Result (List Root) RootsError} (Ok roots) (Err (BadPhase n)) → ⊥
      differ e = cc
  only (Err NoMemory) e roots h = refl

  pub fault : (r : Result (List Root) RootsError) → IsReading text r
      → IfErr r (λ error. (error ≡ NoMemory) ⊎ IsRootsFault text error)
  fault (Ok roots) e = tt
  fault (Err (BadLine n)) e = inr (fault_told text (BadLine n) e)
  fault (Err (BadPhase n)) e = inr (fault_told text (BadPhase n) e)
  fault (Err NoMemory) e = inl refl

  ok_or_err : (roots : List Root) (error : RootsError) → roots_of text ≡ Ok roots → roots_of text ≡ Err error → ⊥
  ok_or_err roots error e f = differ (sym e ∙ f)
    where
      differ : ◌≡◌ {A = Result (List Root) RootsError} (Ok roots) (Err error) → ⊥
      differ e = cc

  one_error : (a b : RootsError) → roots_of text ≡ Err a → roots_of text ≡ Err b → a ≡ b
  one_error a b e f = same (sym e ∙ f)
    where
      same : ◌≡◌ {A = Result (List Root) RootsError} (Err a) (Err b) → a ≡ b
      same e = cc

  pub refused : (r : Result (List Root) RootsError) → IsReading text r → (error : RootsError) → IsRootsFault text error
      → IsErrOf r error
  refused (Ok roots) e error h = absurd (ok_or_err roots error e (fault_read text error h))
  refused (Err (BadLine n)) e error h = ap (λ (x : RootsError). Err x)
      (one_error (BadLine n) error e (fault_read text error h))
  refused (Err (BadPhase n)) e error h = ap (λ (x : RootsError). Err x)
      (one_error (BadPhase n) error e (fault_read text error h))
  refused (Err NoMemory) e error h = absurd (ok_or_err e.0 error e.1 (fault_read text error h))
