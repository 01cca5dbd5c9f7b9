-- What the parser makes of words is the same wherever the words that name the forms lie.
use Rattle.std.proofs.Common.{◌≡◌, ◌∷◌, [], List, map, codes, refl, sym, ◌∙◌, ap, ap₂, true, false, Bool, cond, ℕ}
use Rattle.std.proofs.Common.{zero, suc, Some, None, Option, Result, drop, length, subst}
use Rattle.std.specs.Prelude.{find, fold, is_some, option_map, slice_get, encode_utf8, unwrap_or, ◌&&◌, ◌||◌, ◌==◌}
use Rattle.std.specs.Borrow.{Bor}
use Rattle.std.specs.List.{list_any}
use Rattle.std.specs.Option.{option_map_or}
use Rattle.std.specs.Str.{bytes_eq, chars}
use Rattle.clap.specs.Faults.{bundle_step_fault, bundle_fault, check_fault, defaults_fault, entered_fault}
use Rattle.clap.specs.Faults.{flag_word_fault, flags_fault, level_fault, long_fault, option_fault, other_fault}
use Rattle.clap.specs.Faults.{positional_fault, react_fault, repeat_fault, settle_fault, short_fault, step_fault}
use Rattle.clap.specs.Faults.{stray_fault, turn_fault, use_fault, values_fault, walk_fault, word_fault}
use Rattle.clap.specs.Kinds.{Kinds, or_else, range_kinds}
use Rattle.clap.specs.Lexer.{long_of, short_of}
use Rattle.clap.specs.Simple.{Shape, built, entered, filled, help_rule, label_of, names_of, rows_at}
use Rattle.clap.specs.Simple.{with_index, new_shape}
use Rattle.clap.specs.ValueTests.{accepts}
use Rattle.clap.specs.Walk.{Held, Names, Outcome, Row, Rule, Step, Text, Waiting, Walk, after_flag, after_step}
use Rattle.clap.specs.Walk.{answers_to}
use Rattle.clap.specs.Walk.{arg_by_id, arg_by_index, arg_by_long, arg_by_short, attached_value, bundle, bundle_met}
use Rattle.clap.specs.Walk.{bundle_step}
use Rattle.clap.specs.Walk.{done, finished, flag_met, idle, long_met, long_or_other, next, nothing_held}
use Rattle.clap.specs.Walk.{option, option_met, option_word, plain, plain_word, positional, pushed}
use Rattle.clap.specs.Walk.{reacted, refused, rows_after, settled, settled_rows, short_met, short_or_plain}
use Rattle.clap.specs.Walk.{stop_after, subcommand, subcommand_met, subcommand_or_other, takes_several, takes_values}
use Rattle.clap.specs.Walk.{to_positional, trailing, used, used_by_id, value, values_or_missing, waits, walk}
use Rattle.clap.specs.Walk.{walk_from}
use Rattle.clap.specs.Walk.{walked, walked_from, with_default, word_met, is_pending}
use Rattle.clap.specs.declared.builder.value_parser.ValueParser.TheVariants as vp
use Rattle.clap.specs.declared.error.kind.ErrorKind.TheVariants as kind
use Rattle.hgfleet.specs.Arguments.{AnswerBy, FormsAnswer, NamesForms, Words, command_met, explain_rule, faults_at}
use Rattle.hgfleet.specs.Arguments.{form_rule, name_rule, program_at}
use Rattle.hgfleet.specs.declared.arguments.ArgumentFault.{ArgumentFault}
use Rattle.hgfleet.specs.declared.arguments.Wanted.{Wanted}

-- a choice between equals
chosen : {X : Type 0} {A : Type 0} (h : Option A → X) (a b : A) (first : Bool) (rest : Option A)
    → h (Some a) ≡ h (Some b)
    → h (cond first (Some a) rest) ≡ h (cond first (Some b) rest)
chosen h a b true rest e = e
chosen h a b false rest e = refl

-- ---- the words that name the forms

any_behind : (test : Text → Bool) (words : List (Bor Text))
    → list_any (λ s. test s.now) words ≡ list_any test (map (λ s. s.now) words)
any_behind test [] = refl
any_behind test (w ∷ ws) = go (test w.now) (any_behind test ws)
  where
    go : (b : Bool) → list_any (λ s. test s.now) ws ≡ list_any test (map (λ s. s.now) ws)
        → (b || list_any (λ s. test s.now) ws)
        ≡ (b || list_any test (map (λ s. s.now) ws))
    go true e = refl
    go false e = e

-- a form as the built command has it
abbrev form_in : Words → Rule
form_in words = with_index 1 (filled (form_rule words))

module _ (f g : Words) (named_f : NamesForms f) (named_g : NamesForms g) where
  accepts_alike : (text : Text) → accepts false (vp.Names f) text ≡ accepts false (vp.Names g) text
  accepts_alike text =
      any_behind (λ name. bytes_eq name text) f.now
      ∙ ap (list_any (λ name. bytes_eq name text)) (named_f ∙ sym named_g)
      ∙ sym (any_behind (λ name. bytes_eq name text) g.now)

  values_alike : (values : List Text) → values_fault (form_in f) values ≡ values_fault (form_in g) values
  values_alike [] = refl
  values_alike (v ∷ vs) =
      ap₂ or_else (ap (λ (b : Bool). cond b [] (kind.InvalidValue ∷ [])) (accepts_alike v)) (values_alike vs)

  use_alike : (again : Bool) (values : List Text) (rows : List Row)
      → use_fault again (form_in f) values rows ≡ use_fault again (form_in g) values rows
  use_alike again values rows =
      ap (λ (ks : Kinds). or_else (range_kinds 1 1 (length values)) (or_else (repeat_fault again
      (codes "form") rows) ks))
      (values_alike (values_or_missing (form_in f) values))

  -- ---- the walk over words with a form and other arguments

  module _ (rest : List Rule) where
    abbrev C : List Rule
    C = form_in f ∷ rest

    abbrev D : List Rule
    D = form_in g ∷ rest

    rows_alike : (p : Option (Text × List Text)) (rows : List Row) → settled_rows C p rows ≡ settled_rows D p rows
    rows_alike None rows = refl
    rows_alike (Some p) rows =
        chosen (λ o. used_by_id o p.1 rows) (form_in f) (form_in g) (bytes_eq (codes "form") p.0)
        (arg_by_id rest p.0) refl

    settled_alike : (h : Held) → settled C h ≡ settled D h
    settled_alike h = ap (λ (rows : List Row). record h { rows = rows; pending = None }) (rows_alike h.pending h.rows)

    reacted_alike : (a : Rule) (values : List Text) (h : Held) → reacted C a values h ≡ reacted D a values h
    reacted_alike a values h =
        ap (λ (k : Held). record h { rows = used a values k.rows; pending = None }) (settled_alike h)

    option_alike : (a : Rule) (v : Option Text) (h : Held) → option_met C a v h ≡ option_met D a v h
    option_alike a (Some v) h = ap (λ (k : Held). (k, done)) (reacted_alike a (v ∷ []) h)
    option_alike a None h = ap (λ (k : Held). (record k { pending = Some (a.id, []) }, waits a.id)) (settled_alike h)

    flag_alike : (a : Rule) (v : Option Text) (h : Held) → flag_met C a v h ≡ flag_met D a v h
    flag_alike a (Some v) h = refl
    flag_alike a None h = ap (λ (k : Held). (k, done)) (reacted_alike a [] h)

    long_alike : (o : Option Rule) (v : Option Text) (h : Held) → long_met C o v h ≡ long_met D o v h
    long_alike None v h = refl
    long_alike (Some a) v h = ap₂ (cond (takes_values a)) (option_alike a v h) (flag_alike a v h)

    short_alike : (o : Option Rule) (left : Text) (h : Held) (n m : Held → Held × Outcome) → ((k : Held) → n k ≡ m k)
        → short_met C o left h n ≡ short_met D o left h m
    short_alike None left h n m same = refl
    short_alike (Some a) left h n m same =
        ap₂ (cond (takes_values a)) (option_alike a (attached_value left) h)
        (same (reacted C a [] h) ∙ ap m (reacted_alike a [] h))

    bundle_step_alike : (x : Option ℕ) (flags : Text) (skip : ℕ) (so_far : Outcome) (h : Held)
        (n m : Text → ℕ → Outcome → Held → Held × Outcome)
        → ((t : Text) (s : ℕ) (o : Outcome) (k : Held) → n t s o k ≡ m t s o k)
        → bundle_step C x flags skip so_far h n ≡ bundle_step D x flags skip so_far h m
    bundle_step_alike None flags skip so_far h n m same = refl
    bundle_step_alike (Some x) flags zero so_far h n m same =
        let left = drop (length (encode_utf8 x)) flags in
        short_alike (arg_by_short rest x) left h (n left 0 done) (m left 0 done) (λ k. same left 0 done k)
    bundle_step_alike (Some x) flags (suc skip) so_far h n m same =
        same (drop (length (encode_utf8 x)) flags) skip so_far h

    bundle_alike : (k : ℕ) (flags : Text) (skip : ℕ) (so_far : Outcome) (h : Held)
        → bundle_met C k flags skip so_far h ≡ bundle_met D k flags skip so_far h
    unfolding bundle_met
    bundle_alike zero flags skip so_far h = refl
    bundle_alike (suc k) flags skip so_far h =
        bundle_step_alike (slice_get (chars flags) 0) flags skip so_far h (bundle_met C k) (bundle_met D k)
        (bundle_alike k)

    plain_alike : (w : Waiting) (word : Text) (h : Held) → plain_word C w word h ≡ plain_word D w word h
    plain_alike idle word h = refl
    plain_alike positional word h = refl
    plain_alike (option id) word h =
        ap (λ (r : Held × Waiting). (r.0, next r.1))
        (chosen (λ o. option_word o id word h) (form_in f) (form_in g) (bytes_eq (codes "form") id)
        (arg_by_id rest id) refl)

    after_alike : (w : Waiting) (word : Text) (h : Held) (o : Outcome)
        → after_flag C w word h o ≡ after_flag D w word h o
    after_alike w word h done = refl
    after_alike w word h (waits id) = refl
    after_alike w word h plain = plain_alike w word h
    after_alike w word h refused = plain_alike w word h

    met_alike : (w : Waiting) (word : Text) (x y : Held × Outcome) → x ≡ y
        → after_flag C w word x.0 x.1 ≡ after_flag D w word y.0 y.1
    met_alike w word x y e =
        ap (λ (r : Held × Outcome). after_flag C w word r.0 r.1) e ∙ after_alike w word y.0 y.1

    short_or_plain_alike : (w : Waiting) (word : Text) (o : Option Text) (h : Held)
        → short_or_plain C w word o h ≡ short_or_plain D w word o h
    short_or_plain_alike w word None h = plain_alike w word h
    short_or_plain_alike w word (Some flags) h =
        met_alike w word (bundle C flags h) (bundle D flags h)
        (bundle_alike (length flags) flags h.skip plain (record h { skip = 0 }))

    long_or_other_alike : (w : Waiting) (word : Text) (o : Option (Text × Option Text)) (h : Held)
        → long_or_other C w word o h ≡ long_or_other D w word o h
    long_or_other_alike w word None h = short_or_plain_alike w word (short_of word) h
    long_or_other_alike w word (Some p) h =
        met_alike w word (long_met C (arg_by_long rest p.0) p.1 h) (long_met D (arg_by_long rest p.0) p.1 h)
        (long_alike (arg_by_long rest p.0) p.1 h)

    other_alike : (o : Option Text) (w : Waiting) (position : ℕ) (word : Text) (h : Held)
        → subcommand_or_other C o w position word h ≡ subcommand_or_other D o w position word h
    other_alike (Some name) w position word h = refl
    other_alike None w position word h =
        ap (cond (bytes_eq word (45 ∷ 45 ∷ [])) (h, trailing position)) (long_or_other_alike w word (long_of word) h)

    word_alike : (names : Names) (is_trailing : Bool) (w : Waiting) (position : ℕ) (word : Text) (h : Held)
        → word_met C names is_trailing w position word h ≡ word_met D names is_trailing w position word h
    word_alike names is_trailing w position word h =
        ap (cond is_trailing (h, value)) (other_alike (subcommand_met names w word) w position word h)

    to_same : (o : Option Rule) (word : Text) (w : Walk) (h : Held)
        → to_positional C o word w h ≡ to_positional D o word w h
    to_same None word w h = refl
    to_same (Some a) word w h =
        ap (λ (k : Held). record (to_positional C (Some a) word w h) {
          held = pushed a.id word (cond (is_pending a h.pending && takes_several a) h k);
        }) (settled_alike h)

    step_alike : (word : Text) (w : Walk) (h : Held) (s : Step) → after_step C word w h s ≡ after_step D word w h s
    step_alike word w h (next waiting) = refl
    step_alike word w h (trailing position) = refl
    step_alike word w h (subcommand name) = refl
    step_alike word w h value =
        chosen (λ o. to_positional C o word w h) (form_in f) (form_in g) (1 == w.position)
        (arg_by_index rest w.position) refl
        ∙ to_same (arg_by_index D w.position) word w h

    from_alike : (names : Names) (p : Option (Text × List Text)) (w : Walk) (word : Text)
        → walked_from C names p w word ≡ walked_from D names p w word
    from_alike names (Some p) w word = refl
    from_alike names None w word =
        ap (λ (met : Held × Step). after_step C word w met.0 met.1)
        (word_alike names w.is_trailing w.waiting w.position word w.held)
        ∙ step_alike word w (word_met D names w.is_trailing w.waiting w.position word w.held).0
        (word_met D names w.is_trailing w.waiting w.position word w.held).1

    walked_alike : (names : Names) (w : Walk) (word : Text) → walked C names w word ≡ walked D names w word
    unfolding walked
    walked_alike names w word = from_alike names w.stopped w word

    walks_alike : (names : Names) (w : Walk) (words : List Text)
        → fold (walked C names) w words ≡ fold (walked D names) w words
    walks_alike names w [] = refl
    walks_alike names w (word ∷ words) =
        ap (λ (v : Walk). fold (walked C names) v words) (walked_alike names w word)
        ∙ walks_alike names (walked D names w word) words

    finished_alike : (h : Held) → finished C h ≡ finished D h
    finished_alike h = ap (λ (k : Held). fold with_default (with_default k.rows (form_in f)) rest) (settled_alike h)

    pub rows_after_alike : (names : Names) (words : List Text) → rows_after C names words ≡ rows_after D names words
    rows_after_alike names words =
        ap (λ (w : Walk). finished C w.held) (walks_alike names (walk_from nothing_held) words)
        ∙ finished_alike (walk D names nothing_held words).held

    -- ---- the faults of such words

    settle_alike : (again : Bool) (h : Held) → settle_fault C again h ≡ settle_fault D again h
    settle_alike again h = go h.pending
      where
        go : (p : Option (Text × List Text))
            → option_map_or (λ q. option_map_or (λ a. use_fault again a q.1 h.rows) (arg_by_id C q.0) []) p []
            ≡ option_map_or (λ q. option_map_or (λ a. use_fault again a q.1 h.rows) (arg_by_id D q.0) []) p []
        go None = refl
        go (Some q) =
            chosen (λ o. option_map_or (λ a. use_fault again a q.1 h.rows) o []) (form_in f) (form_in g)
            (bytes_eq (codes "form") q.0) (arg_by_id rest q.0) (use_alike again q.1 h.rows)

    react_alike : (again : Bool) (a : Rule) (values : List Text) (h : Held)
        → react_fault C again a values h ≡ react_fault D again a values h
    react_alike again a values h =
        ap₂ or_else (settle_alike again h) (ap (λ (k : Held). use_fault again a values k.rows) (settled_alike h))

    option_fault_alike : (again : Bool) (a : Rule) (v : Option Text) (h : Held)
        → option_fault C again a v h ≡ option_fault D again a v h
    option_fault_alike again a (Some v) h = react_alike again a (v ∷ []) h
    option_fault_alike again a None h = settle_alike again h

    long_fault_alike : (again : Bool) (o : Option Rule) (v : Option Text) (h : Held)
        → long_fault C again o v h ≡ long_fault D again o v h
    long_fault_alike again None v h = refl
    long_fault_alike again (Some a) v h =
        ap₂ (cond (takes_values a)) (option_fault_alike again a v h)
        (ap (cond (is_some v) (kind.TooManyValues ∷ [])) (react_alike again a [] h))

    short_fault_alike : (again : Bool) (o : Option Rule) (left : Text) (h : Held) (n m : Held → Kinds)
        → ((k : Held) → n k ≡ m k) → short_fault C again o left h n ≡ short_fault D again o left h m
    short_fault_alike again None left h n m same = refl
    short_fault_alike again (Some a) left h n m same =
        ap₂ (cond (takes_values a)) (option_fault_alike again a (attached_value left) h)
        (ap₂ or_else (react_alike again a [] h) (same (reacted C a [] h) ∙ ap m (reacted_alike a [] h)))

    flags_step_alike : (again : Bool) (x : Option ℕ) (flags : Text) (skip : ℕ) (h : Held) (n m : Text → ℕ → Held
        → Kinds)
        → ((t : Text) (s : ℕ) (k : Held) → n t s k ≡ m t s k)
        → bundle_step_fault C again x flags skip h n ≡ bundle_step_fault D again x flags skip h m
    flags_step_alike again None flags skip h n m same = refl
    flags_step_alike again (Some x) flags zero h n m same =
        let left = drop (length (encode_utf8 x)) flags in
        short_fault_alike again (arg_by_short rest x) left h (n left 0) (m left 0) (λ k. same left 0 k)
    flags_step_alike again (Some x) flags (suc skip) h n m same = same (drop (length (encode_utf8 x)) flags) skip h

    flags_alike : (again : Bool) (k : ℕ) (flags : Text) (skip : ℕ) (h : Held)
        → flags_fault C again k flags skip h ≡ flags_fault D again k flags skip h
    unfolding flags_fault
    flags_alike again zero flags skip h = refl
    flags_alike again (suc k) flags skip h =
        flags_step_alike again (slice_get (chars flags) 0) flags skip h (flags_fault C again k) (flags_fault D again k)
        (flags_alike again k)

    flag_word_alike : (again : Bool) (o : Option (Text × Option Text)) (word : Text) (h : Held)
        → flag_word_fault C again o word h ≡ flag_word_fault D again o word h
    flag_word_alike again (Some p) word h = long_fault_alike again (arg_by_long rest p.0) p.1 h
    flag_word_alike again None word h = go (short_of word)
      where
        go : (o : Option Text) → option_map_or (λ flags. bundle_fault C again flags h) o []
            ≡ option_map_or (λ flags. bundle_fault D again flags h) o []
        go None = refl
        go (Some flags) = flags_alike again (length flags) flags h.skip (record h { skip = 0 })

    positional_alike : (again : Bool) (a : Rule) (h : Held)
        → positional_fault C again a h ≡ positional_fault D again a h
    positional_alike again a h = ap (cond (is_pending a h.pending && takes_several a) []) (settle_alike again h)

    defaults_alike : (rows : List Row) → defaults_fault rows C ≡ defaults_fault rows D
    unfolding defaults_fault
    defaults_alike rows = refl

    module _ (s : Shape) where
      abbrev S : Shape
      S = record s { rules = C }

      abbrev T : Shape
      T = record s { rules = D }

      other_fault_alike : (o : Option Text) (word : Text) (h : Held) → other_fault S o word h ≡ other_fault T o word h
      other_fault_alike (Some name) word h = refl
      other_fault_alike None word h =
          ap (cond (bytes_eq word (45 ∷ 45 ∷ [])) []) (flag_word_alike s.args_override_self (long_of word) word h)

      word_fault_alike : (names : Names) (is_trailing : Bool) (w : Waiting) (word : Text) (h : Held)
          → word_fault S names is_trailing w word h ≡ word_fault T names is_trailing w word h
      word_fault_alike names is_trailing w word h =
          ap (cond is_trailing []) (other_fault_alike (subcommand_met names w word) word h)

      step_fault_alike : (position : ℕ) (h : Held) (x : Step) → step_fault S position h x ≡ step_fault T position h x
      step_fault_alike position h (next waiting) = refl
      step_fault_alike position h (trailing p) = refl
      step_fault_alike position h (subcommand name) = refl
      step_fault_alike position h value =
          chosen (λ o. option_map_or (λ a. positional_fault C s.args_override_self a h) o (stray_fault s)) (form_in f)
          (form_in g) (1 == position) (arg_by_index rest position) refl
          ∙ go (arg_by_index D position)
        where
          go : (o : Option Rule) → option_map_or (λ a. positional_fault C s.args_override_self a h) o (stray_fault s)
              ≡ option_map_or (λ a. positional_fault D s.args_override_self a h) o (stray_fault s)
          go None = refl
          go (Some a) = positional_alike s.args_override_self a h

      turn_alike : (names : Names) (w : Walk) (word : Text) → turn_fault S names w word ≡ turn_fault T names w word
      turn_alike names w word =
          let e = word_alike names w.is_trailing w.waiting w.position word w.held in
          let met = word_met D names w.is_trailing w.waiting w.position word w.held in
          ap (cond (is_some w.stopped) [])
          (ap₂ or_else (word_fault_alike names w.is_trailing w.waiting word w.held)
          (ap (λ (met : Held × Step). step_fault S w.position met.0 met.1) e
          ∙ step_fault_alike w.position met.0 met.1))

      walk_alike : (names : Names) (w : Walk) (words : List Text)
          → walk_fault S names w words ≡ walk_fault T names w words
      unfolding walk_fault
      walk_alike names w [] = refl
      walk_alike names w (word ∷ words) =
          ap₂ or_else (turn_alike names w word)
          (ap (λ (v : Walk). walk_fault S names v words) (walked_alike names w word)
          ∙ walk_alike names (walked D names w word) words)

      end_alike : (h : Held) (below : Bool)
          → or_else (settle_fault C s.args_override_self h)
          (or_else (defaults_fault (settled C h).rows C) (check_fault S (finished C h) below))
          ≡ or_else (settle_fault D s.args_override_self h)
          (or_else (defaults_fault (settled D h).rows D) (check_fault T (finished D h) below))
      end_alike h below =
          ap₂ or_else (settle_alike s.args_override_self h)
          (ap₂ or_else (ap (λ (k : Held). defaults_fault k.rows C) (settled_alike h)
          ∙ defaults_alike (settled D h).rows)
          (ap (λ (rows : List Row). check_fault S rows below) (finished_alike h)))

      pub level_alike : (names : Names) (h : Held) (words : List Text) (has : Bool) (below : Kinds)
          → level_fault S names h words has below ≡ level_fault T names h words has below
      level_alike names h words has below =
          let end = (walk D names h words).held in
          ap₂ or_else (walk_alike names (walk_from h) words)
          (ap (or_else below) (ap (λ (w : Walk). or_else (settle_fault C s.args_override_self w.held)
          (or_else (defaults_fault (settled C w.held).rows C) (check_fault S (finished C w.held) has)))
          (walks_alike names (walk_from h) words) ∙ end_alike end has))

  -- ---- the program

  abbrev help_in : Rule
  help_in = filled help_rule

  abbrev name_in : Rule
  name_in = with_index 2 (filled name_rule)

  abbrev explain_in : Rule
  explain_in = filled explain_rule

  abbrev no_shape : Shape
  no_shape = new_shape []

  abbrev sub_at : ℕ → Shape
  sub_at i = unwrap_or (slice_get (built (program_at f)).subs i) no_shape

  abbrev other_at : ℕ → Shape
  other_at i = unwrap_or (slice_get (built (program_at g)).subs i) no_shape

  -- the first of six shapes that the tests choose
  of_six : {X : Type 0} (h : Option Shape → X) (a b c d e : Bool) (x y z s t s' t' : Shape) (rest : Option Shape)
      → h (Some s) ≡ h (Some s') → h (Some t) ≡ h (Some t')
      → h (cond a (Some x) (cond b (Some y) (cond c (Some z) (cond d (Some s) (cond e (Some t) rest)))))
      ≡ h (cond a (Some x) (cond b (Some y) (cond c (Some z) (cond d (Some s') (cond e (Some t') rest)))))
  of_six h true b c d e x y z s t s' t' rest p q = refl
  of_six h false true c d e x y z s t s' t' rest p q = refl
  of_six h false false true d e x y z s t s' t' rest p q = refl
  of_six h false false false true e x y z s t s' t' rest p q = p
  of_six h false false false false true x y z s t s' t' rest p q = q
  of_six h false false false false false x y z s t s' t' rest p q = refl

  abbrev named_at : Text → ℕ → Bool
  named_at word i = answers_to word (label_of (sub_at i))

  abbrev last_named : Text → Option Shape
  last_named word = find (λ s. answers_to word (label_of s)) (drop 5 (built (program_at f)).subs)

  entered_alike : (stop : Option (Text × List Text))
      → entered (built (program_at f)) stop ≡ entered (built (program_at g)) stop
  entered_alike None = refl
  entered_alike (Some p) =
      of_six (option_map (λ s. rows_at s p.1)) (named_at p.0 0) (named_at p.0 1) (named_at p.0 2) (named_at p.0 3)
      (named_at p.0 4) (sub_at 0) (sub_at 1) (sub_at 2) (sub_at 3) (sub_at 4) (other_at 3) (other_at 4)
      (last_named p.0)
      (ap (λ (rows : List Row). Some (codes "show", rows)) (rows_after_alike (help_in ∷ []) [] p.1))
      (ap (λ (rows : List Row). Some (codes "write", rows))
      (rows_after_alike (name_in ∷ explain_in ∷ help_in ∷ []) [] p.1))

  entered_fault_alike : (stop : Option (Text × List Text))
      → entered_fault (built (program_at f)) stop ≡ entered_fault (built (program_at g)) stop
  entered_fault_alike None = refl
  entered_fault_alike (Some p) =
      of_six (λ o. option_map_or (λ s. level_fault s [] nothing_held p.1 false []) o []) (named_at p.0 0)
      (named_at p.0 1) (named_at p.0 2) (named_at p.0 3) (named_at p.0 4) (sub_at 0) (sub_at 1) (sub_at 2) (sub_at 3)
      (sub_at 4) (other_at 3) (other_at 4) (last_named p.0)
      (level_alike (help_in ∷ []) (sub_at 3) [] nothing_held p.1 false [])
      (level_alike (name_in ∷ explain_in ∷ help_in ∷ []) (sub_at 4) [] nothing_held p.1 false [])

  abbrev stop_at : List Text → Option (Text × List Text)
  stop_at words = stop_after (built (program_at f)).top.rules (names_of (built (program_at f))) (drop 1 words)

  command_alike : (words : List Text) → command_met f words ≡ command_met g words
  unfolding command_met
  command_alike words = entered_alike (stop_at words)

  fault_alike : (words : List Text) → faults_at f words ≡ faults_at g words
  unfolding faults_at
  fault_alike words =
      let top = (built (program_at f)).top in
      let names = names_of (built (program_at f)) in
      ap₂ (λ (has : Bool) (below : Kinds). level_fault top names nothing_held (drop 1 words) has below)
      (ap is_some (entered_alike (stop_at words))) (entered_fault_alike (stop_at words))

  -- what is answered by the one is answered by the other
  pub answer_alike : (words : List Text) (r : Result Wanted ArgumentFault) → FormsAnswer f words r
      → FormsAnswer g words r
  answer_alike words r h =
      subst (λ (faults : Kinds). AnswerBy faults (command_met g words) words r) (fault_alike words)
      (subst (λ (met : Option (Text × List Row)). AnswerBy (faults_at f words) met words r) (command_alike words) h)
