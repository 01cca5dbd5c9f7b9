-- The nodes in their order, and the lines.
use Rattle.std.proofs.Common.{◌≡◌, ◌≢◌, ℕ, suc, List, [], ◌∷◌, ◌++◌, take, get_or, length, ◌<◌, ◌+◌, map, Contains}
use Rattle.std.proofs.Common.{Bool, true, false, cond, eqb, IsTrue, Option, Some, Result, Ok, Err, IsOk, ◌↔◌, ◌⊎◌, inl}
use Rattle.std.proofs.Common.{inr, refl, sym, ap, subst, ◌∙◌, append_assoc, true≢false, arith}
use Rattle.std.specs.List.{All, AllPass}
use Rattle.std.specs.Option.{option_map, ok_or}
use Rattle.std.specs.Ordering.{match_ordering}
use Rattle.std.specs.Result.{result_ok}
use Rattle.std.specs.BTreeSet.{contains, insert_key}
use Rattle.std.specs.declared.cmp.Ordering.{Ordering}
use Rattle.std.specs.declared.cmp.Ordering.TheVariants.{Less, Equal, Greater}
use Rattle.std.proofs.lemmas.Bool.{eq-eqb, eqb-true, lt-ltb}
use Rattle.std.proofs.lemmas.List.{take_more}
use Rattle.std.proofs.lemmas.List.Elements.{All-append, All-cons, All-contains_itself, All-head, All-map, All-tail}
use Rattle.std.proofs.lemmas.List.Elements.{All-weaker, Contains-append_left, Contains-append_right}
use Rattle.std.proofs.lemmas.List.Elements.{Contains-append_cases, Contains-push, Contains-push_cases}
use Rattle.std.proofs.lemmas.Map.Lookups.{btree_set_from_contains}
use Rattle.std.proofs.lemmas.Map.Views.{btree_set_contains_iff}
use Rattle.std.proofs.lemmas.Option.{none-some}
use Rattle.hex.specs.Hex.{decode_sized, encode_lower, is_hex_digit}
use Rattle.hex.specs.declared.error.FromHexError.{FromHexError}
use Rattle.hex.proofs.HexLemmas.{IsOk-decode_sized, decode_sized-encode_lower}
use Rattle.hg_changeset.specs.declared.node.Node.{Node}
use Rattle.hg_changeset.specs.declared.node.NodeError.TheVariants.{BadLength, BadDigit}
use Rattle.hg_changeset.specs.Bytes.{line_feed, space}
use Rattle.hg_changeset.specs.Node.{IsNode, node_cmp, node_of_hex, id_value}
use Rattle.hg_changeset.proofs.NodeLemmas.{node_cmp_exact, node_cmp_total}
use Rattle.hg_changeset.proofs.ListLemmas.{Contains-map_from, Contains-map, Contains-first, Contains-cons_cases}
use Rattle.hg_phases.specs.declared.phase.Phase.{Phase}
use Rattle.hg_phases.specs.declared.phase.Phase.TheVariants.{Public, Draft, Secret}
use Rattle.hg_phaseroots.specs.Lines.{is_line_feed, lines_of}
use Rattle.hg_phaseroots.specs.Reading.{Root, root_in, then_roots, roots_in, roots_of}
use Rattle.hg_phaseroots.specs.Writing.{AreListed, AreInOrder, IsSpelled, IsWritten, digit_of, line_of, text_of}
use Rattle.hg_phaseroots.proofs.LineLemmas.{line_first}

-- tests that hold together are one
bool_from_iff : {a b : Bool} → (IsTrue a → IsTrue b) → (IsTrue b → IsTrue a) → a ≡ b
bool_from_iff {a = true} {b = true} to from = refl
bool_from_iff {a = true} {b = false} to from = absurd (true≢false (sym (to refl)))
bool_from_iff {a = false} {b = true} to from = absurd (true≢false (sym (from refl)))
bool_from_iff {a = false} {b = false} to from = refl

-- what a set has after one more key, by how it stands to the first
inserted_by : (k n x : Node) (ns : List Node) → (Contains (insert_key node_cmp ns k) n ↔ (Contains ns n ⊎ (k ≡ n)))
    → (o : Ordering)
    → node_cmp k x ≡ o → Contains (match_ordering o (k ∷ x ∷ ns) (x ∷ ns) (x ∷ insert_key node_cmp ns k)) n
    ↔ (Contains (x ∷ ns) n ⊎ (k ≡ n))
inserted_by k n x ns rest Less e = (
  λ h. elim (Contains-cons_cases k (x ∷ ns) n h) [ inl same ↦ inr same | inr more ↦ inl more ],
  λ h. elim h [
    | inl more ↦ Contains-append_right (k ∷ []) (x ∷ ns) n more
    | inr same ↦
        subst (λ m. Contains (k ∷ x ∷ ns) m) same (Contains-first k (x ∷ ns))
  ],
)
inserted_by k n x ns rest Equal e = (
  λ h. inl h,
  λ h. elim h [
    | inl more ↦ more
    | inr same ↦ subst (λ m. Contains (x ∷ ns) m) (sym (node_cmp_exact k x e) ∙ same)
        (Contains-first x ns)
  ],
)
inserted_by k n x ns rest Greater e = (
  λ h. elim (Contains-cons_cases x (insert_key node_cmp ns k) n h) [
    | inl same ↦ inl (subst (λ m. Contains (x ∷ ns) m) same (Contains-first x ns))
    | inr more ↦ elim (rest.0 more) [ inl old ↦ inl (Contains-append_right (x ∷ []) ns n old) | inr same ↦ inr same ]
  ],
  λ h. elim h [
    | inl old ↦ elim (Contains-cons_cases x ns n old) [
      | inl same ↦ subst (λ m. Contains (x ∷ insert_key node_cmp ns k) m) same
          (Contains-first x (insert_key node_cmp ns k))
      | inr more ↦ Contains-append_right (x ∷ []) (insert_key node_cmp ns k) n (rest.1 (inl more))
    ]
    | inr same ↦ Contains-append_right (x ∷ []) (insert_key node_cmp ns k) n (rest.1 (inr same))
  ],
)

pub inserted : (ns : List Node) (k n : Node) → Contains (insert_key node_cmp ns k) n ↔ (Contains ns n ⊎ (k ≡ n))
inserted [] k n = (
  λ h. elim (Contains-cons_cases k [] n h) [ inl e ↦ inr e | inr none ↦ inl none ],
  λ h. elim h [
    | inl none ↦ absurd (omega (arith, none.1))
    | inr e ↦ subst (λ m. Contains (k ∷ []) m) e
        (Contains-first k [])
  ],
)
inserted (x ∷ ns) k n = inserted_by k n x ns (inserted ns k n) (node_cmp k x) refl

-- the nodes that the first i roots list with this phase
abbrev pub AreListedTo : List Root → Phase → ℕ → List Node → Type 0
AreListedTo roots phase i nodes = (n : Node) → Contains nodes n ↔ Contains (take i roots) (phase, n)

module _ (roots : List Root) (phase : Phase) (i : ℕ) (d : Root) (within : i < length roots) (old : List Node)
    (listed : AreListedTo roots phase i old) where
  more : take (i + 1) roots ≡ take i roots ++ get_or roots i d ∷ []
  more = take_more roots i d within

  pub listed_more : (get_or roots i d).0 ≡ phase → (new : List Node)
      → new ≡ insert_key node_cmp old (get_or roots i d).1 → AreListedTo roots phase (i + 1) new
  listed_more e new is n = (
    λ h. elim ((inserted old (get_or roots i d).1 n).0 (subst (λ ns. Contains ns n) is h)) [
      | inl was ↦ subst (λ rs. Contains rs (phase, n)) (sym more)
          (Contains-append_left (take i roots) (get_or roots i d ∷ []) (phase, n) ((listed n).0 was))
      | inr same ↦ subst (λ rs. Contains rs (phase, n)) (sym more)
          (subst (λ r. Contains (take i roots ++ get_or roots i d ∷ []) r) (λ t. (e t, same t))
          (Contains-push (take i roots) (get_or roots i d)))
    ],
    λ h. subst (λ ns. Contains ns n) (sym is)
        ((inserted old (get_or roots i d).1 n).1
        (elim (Contains-push_cases (take i roots) (get_or roots i d) (phase, n)
        (subst (λ rs. Contains rs (phase, n)) more h)) [
          | inl was ↦ inl ((listed n).1 was)
          | inr same ↦ inr (ap (λ r. r.1) same)
        ])),
  )

  pub listed_other : ((get_or roots i d).0 ≡ phase → ⊥) → AreListedTo roots phase (i + 1) old
  listed_other apart n = (
    λ h. subst (λ rs. Contains rs (phase, n)) (sym more)
        (Contains-append_left (take i roots) (get_or roots i d ∷ []) (phase, n) ((listed n).0 h)),
    λ h. elim (Contains-push_cases (take i roots) (get_or roots i d) (phase, n)
        (subst (λ rs. Contains rs (phase, n)) more h)) [
          | inl was ↦ (listed n).1 was
          | inr same ↦ absurd (apart (ap (λ r. r.0) same))
        ],
  )

-- ---- read back

-- two ascending lists of the same nodes are one
pub listed_once : (roots : List Root) (phase : Phase) (ns ms : List Node) → AreListed roots phase ns
    → AreListed roots phase ms → ns ≡ ms
listed_once roots phase ns ms a b =
    btree_set_from_contains node_cmp_total (record { keys = ns }) (record { keys = ms }) a.ascending b.ascending same
    node_cmp_exact
  where
    holds : (ks : List Node) (q : Node) → IsTrue (contains node_cmp (record { keys = ks }) q) ↔ Contains ks q
    holds ks q = btree_set_contains_iff node_cmp_total node_cmp_exact (record { keys = ks }) q

    same : (q : Node) → contains node_cmp (record { keys = ns }) q ≡ contains node_cmp (record { keys = ms }) q
    same q = bool_from_iff
        (λ h. (holds ms q).1 ((b.same q).1 ((a.same q).0 ((holds ns q).0 h))))
        (λ h. (holds ns q).1 ((a.same q).1 ((b.same q).0 ((holds ms q).0 h))))

-- the digits of an id that is spelled
spelled_ok : (n : Node) (d : Result (List ℕ) FromHexError)
    → option_map (λ bytes. record { 0 = bytes }) (result_ok d) ≡ Some n → IsOk d
spelled_ok n (Ok bytes) e = refl
spelled_ok n (Err f) e = absurd (none-some n e)

spelled_digits : (n : Node) → IsSpelled n → (length (encode_lower n.0) ≡ 40) × AllPass is_hex_digit (encode_lower n.0)
spelled_digits n is = (IsOk-decode_sized (encode_lower n.0) 20).0 (spelled_ok n (decode_sized (encode_lower n.0) 20) is)

no_line_feed : (b : ℕ) → is_hex_digit b ≡ true → is_line_feed b ≡ false
no_line_feed b digit = by (is_line_feed b) refl
  where
    by : (v : Bool) → is_line_feed b ≡ v → v ≡ false
    by true e = absurd (true≢false (sym digit ∙ ap is_hex_digit (eqb-true b 10 e)))
    by false e = refl

pub node_found : (long : Bool) (v : Option Node) (n : Node) → long ≡ true → v ≡ Some n
    → result_ok (cond long (ok_or v BadDigit) (Err BadLength)) ≡ Some n
node_found long v n e f = rw (e, f) refl

spelled_node : (n : Node) → IsSpelled n → result_ok (node_of_hex (encode_lower n.0)) ≡ Some n
spelled_node n is = node_found (eqb (length (encode_lower n.0)) 40) (id_value (encode_lower n.0)) n
    (eq-eqb (length (encode_lower n.0)) 40 (spelled_digits n is).0) is

digits_line : (d : ℕ) (n : Node) → is_line_feed d ≡ false → IsSpelled n
    → All (λ b. is_line_feed b ≡ false) (d ∷ space ∷ encode_lower n.0)
digits_line d n e is =
    All-cons (λ b. is_line_feed b ≡ false) d (space ∷ encode_lower n.0) e
    (All-cons (λ b. is_line_feed b ≡ false) space (encode_lower n.0) refl
    (All-weaker (λ b. is_hex_digit b ≡ true) (λ b. is_line_feed b ≡ false) no_line_feed (encode_lower n.0)
    (spelled_digits n is).1))

-- a written line says its root
line_says : (i : ℕ) (phase : Phase) (n : Node) → phase ≢ Public → IsSpelled n
    → root_in i (digit_of phase ∷ space ∷ encode_lower n.0) ≡ Ok (Some (phase, n))
unfolding root_in
line_says i Public n listed is = absurd (listed refl)
line_says i Draft n listed is =
    rw (lt-ltb 1 (suc (suc (length (encode_lower n.0)))) (omega arith), spelled_node n is) refl
line_says i Secret n listed is =
    rw (lt-ltb 1 (suc (suc (length (encode_lower n.0)))) (omega arith), spelled_node n is) refl

digit_no_feed : (phase : Phase) → is_line_feed (digit_of phase) ≡ false
digit_no_feed Public = refl
digit_no_feed Draft = refl
digit_no_feed Secret = refl

pub says_back : (i : ℕ) (roots : List Root) → All (λ r. (r.0 ≢ Public) × IsSpelled r.1) roots
    → roots_in i (lines_of (text_of roots)) ≡ Ok roots
says_back i [] each = refl
says_back i (root ∷ roots) each =
    let its = All-head (λ r. (r.0 ≢ Public) × IsSpelled r.1) root roots each in
    let line : List ℕ = digit_of root.0 ∷ space ∷ encode_lower root.1.0 in
    let lines = ap lines_of (append_assoc line (line_feed ∷ []) (text_of roots))
    ∙ line_first line (text_of roots) (digits_line (digit_of root.0) root.1 (digit_no_feed root.0) its.1) in
    ap (roots_in i) lines
    ∙ (λ t. then_roots (line_says i root.0 root.1 its.0 its.1 t)
    (says_back (i + 1) roots (All-tail (λ r. (r.0 ≢ Public) × IsSpelled r.1) root roots each) t))

draft_not_public : Draft ≢ Public
draft_not_public e = let n : ⊥ = cc in n

secret_not_public : Secret ≢ Public
secret_not_public e = let n : ⊥ = cc in n

-- ---- the lines

pub wrote_next : (phase : Phase) (out new all : List ℕ) (n : Node) (before after : List Node)
    → before ≡ n ∷ after → new ≡ out ++ line_of (phase, n)
    → out ++ text_of (map (λ m. (phase, m)) before) ≡ all → new ++ text_of (map (λ m. (phase, m)) after) ≡ all
wrote_next phase out new all n before after e is h =
    ap (λ t. t ++ text_of (map (λ m. (phase, m)) after)) is
    ∙ append_assoc out (line_of (phase, n)) (text_of (map (λ m. (phase, m)) after))
    ∙ ap (λ ns. out ++ text_of (map (λ m. (phase, m)) ns)) (sym e) ∙ h

pub spelled_next : (n : Node) (before after all : List Node) → before ≡ n ∷ after → IsSpelled n
    → (All IsSpelled before → All IsSpelled all) → All IsSpelled after → All IsSpelled all
spelled_next n before after all e is h rest = h (subst (All IsSpelled) (sym e) (All-cons IsSpelled n after is rest))

-- ---- the text

text-append : (xs ys : List Root) → text_of (xs ++ ys) ≡ text_of xs ++ text_of ys
text-append [] ys = refl
text-append (x ∷ xs) ys = ap (λ t. line_of x ++ t) (text-append xs ys)
    ∙ sym (append_assoc (line_of x) (text_of xs) (text_of ys))

module _ (roots : List Root) (drafts secrets : List Node) (start first text : List ℕ)
    (draft : AreListed roots Draft drafts) (secret : AreListed roots Secret secrets)
    (none : start ≡ []) (one : first ≡ start ++ text_of (map (λ n. (Draft, n)) drafts))
    (two : text ≡ first ++ text_of (map (λ n. (Secret, n)) secrets)) where
  all : List Root
  all = map (λ n. (Draft, n)) drafts ++ map (λ n. (Secret, n)) secrets

  text_is : text ≡ text_of all
  unfolding all
  text_is = two ∙ ap (λ t. t ++ text_of (map (λ n. (Secret, n)) secrets))
      (one ∙ ap (λ t. t ++ text_of (map (λ n. (Draft, n)) drafts)) none)
      ∙ sym (text-append (map (λ n. (Draft, n)) drafts) (map (λ n. (Secret, n)) secrets))

  pub is_written : IsWritten roots text
  unfolding all
  is_written = (all, record { drafts = drafts; secrets = secrets; draft = draft; secret = secret; all = refl }, text_is)

  pub is_read_back : All IsSpelled drafts → All IsSpelled secrets → (sorted : List Root) → AreInOrder roots sorted
      → roots_of text ≡ Ok sorted
  unfolding all
  is_read_back spelled spelled_too sorted order =
      ap roots_of text_is
      ∙ says_back 1 all
      (All-append (λ r. (r.0 ≢ Public) × IsSpelled r.1) (map (λ n. (Draft, n)) drafts)
      (map (λ n. (Secret, n)) secrets)
      (All-map (λ r. (r.0 ≢ Public) × IsSpelled r.1) (λ n. (Draft, n)) drafts
      (All-weaker IsSpelled (λ n. (Draft ≢ Public) × IsSpelled n) (λ n is. (draft_not_public, is)) drafts spelled))
      (All-map (λ r. (r.0 ≢ Public) × IsSpelled r.1) (λ n. (Secret, n)) secrets
      (All-weaker IsSpelled (λ n. (Secret ≢ Public) × IsSpelled n) (λ n is. (secret_not_public, is)) secrets
      spelled_too)))
      ∙ ap (λ rs. Ok rs)
      (sym (order.all ∙
      (λ t. map (λ n. (Draft, n)) (listed_once roots Draft order.drafts drafts order.draft draft t)
      ++ map (λ n. (Secret, n)) (listed_once roots Secret order.secrets secrets order.secret secret t))))

-- ---- laws of the written order

pub order_once : (roots sorted others : List Root) → AreInOrder roots sorted → AreInOrder roots others → sorted ≡ others
order_once roots sorted others a b =
    a.all
    ∙ (λ t. map (λ n. (Draft, n)) (listed_once roots Draft a.drafts b.drafts a.draft b.draft t)
    ++ map (λ n. (Secret, n)) (listed_once roots Secret a.secrets b.secrets a.secret b.secret t))
    ∙ sym b.all

ordered_into : (roots sorted : List Root) → AreInOrder roots sorted → (k : Phase) (n : Node) → Contains roots (k, n)
    → k ≢ Public → Contains sorted (k, n)
ordered_into roots sorted order Public n at listed = absurd (listed refl)
ordered_into roots sorted order Draft n at listed =
    subst (λ rs. Contains rs (Draft, n)) (sym order.all)
    (Contains-append_left (map (λ m. (Draft, m)) order.drafts) (map (λ m. (Secret, m)) order.secrets) (Draft, n)
    (Contains-map (λ m. (Draft, m)) order.drafts n ((order.draft.same n).1 at)))
ordered_into roots sorted order Secret n at listed =
    subst (λ rs. Contains rs (Secret, n)) (sym order.all)
    (Contains-append_right (map (λ m. (Draft, m)) order.drafts) (map (λ m. (Secret, m)) order.secrets) (Secret, n)
    (Contains-map (λ m. (Secret, m)) order.secrets n ((order.secret.same n).1 at)))

pub order_same : (roots sorted : List Root) → AreInOrder roots sorted → (r : Root) → Contains sorted r
    ↔ (Contains roots r × (r.0 ≢ Public))
order_same roots sorted order r = (
  λ h. elim (Contains-append_cases (map (λ n. (Draft, n)) order.drafts) (map (λ n. (Secret, n)) order.secrets) r
      (subst (λ rs. Contains rs r) order.all h)) [
        | inl d ↦ let m = Contains-map_from (λ n. (Draft, n)) order.drafts r d in
            subst (λ x. Contains roots x × (x.0 ≢ Public)) m.2 ((order.draft.same m.0).0 m.1, draft_not_public)
        | inr d ↦ let m = Contains-map_from (λ n. (Secret, n)) order.secrets r d in
            subst (λ x. Contains roots x × (x.0 ≢ Public)) m.2 ((order.secret.same m.0).0 m.1, secret_not_public)
      ],
  λ h. ordered_into roots sorted order r.0 r.1 h.0 h.1,
)

node_spelled : (n : Node) → IsNode n → IsSpelled n
node_spelled n is = ap (λ d. option_map (λ bytes. record { 0 = bytes }) (result_ok d))
    (decode_sized-encode_lower n.0 20 is.0 is.1)

pub order_again : (roots sorted : List Root) → ((r : Root) → Contains roots r → IsNode r.1) → AreInOrder roots sorted
    → roots_of (text_of sorted) ≡ Ok sorted
order_again roots sorted nodes order =
    says_back 1 sorted (All-weaker (Contains sorted) (λ r. (r.0 ≢ Public) × IsSpelled r.1)
    (λ r at. let its = (order_same roots sorted order r).0 at in (its.1, node_spelled r.1 (nodes r its.0))) sorted
    (All-contains_itself sorted))
