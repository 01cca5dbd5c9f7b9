-- What some words ask for, as the parser tells it.
use Rattle.std.proofs.Common.{◌≡◌, ◌∷◌, [], List, arith, codes, length, map, refl, suc, sym, ap, subst, ℕ}
use Rattle.std.specs.Borrow.{Bor}
use Rattle.std.specs.Prelude.{slice_get, unwrap_or}
use Rattle.clap.specs.Words.{Text}
use Rattle.clap.proofs.OnLiterals.{clap_on_literals}
use Rattle.hgfleet.specs.Arguments.{NamesForms, Words, command_met, faults_at, form_words}
use Rattle.hgfleet.specs.Asked.{AreAskedFor}

-- a text at this place
abbrev placed : ℕ × ℕ → Text → Bor Text
placed place text = record { ref_ptr = place; now = text }

-- the words that name the forms, at these places
abbrev forms_at : ℕ × ℕ → ℕ × ℕ → ℕ × ℕ → ℕ × ℕ → Words
forms_at p a b c = record {
  ref_ptr = p;
  now = placed a (codes "store") ∷ placed b (codes "roots") ∷ placed c (codes "message") ∷ [];
}

abbrev IsAskedFor : Words → Text → Type 0
IsAskedFor forms name =
    AreAskedFor (λ words. faults_at forms (name ∷ words)) (λ words. command_met forms (name ∷ words))

asked_at : (p a b c : ℕ × ℕ) (name : Text) → IsAskedFor (forms_at p a b c) name
unfolding clap_on_literals faults_at command_met
asked_at p a b c name = record {
  help = refl;
  short_help = refl;
  help_of_run = refl;
  version = refl;
  nothing = refl;
  run = refl;
  more = refl;
  run_numbers = refl;
  no_notes = refl;
  explain = refl;
  explained = refl;
  traced = refl;
  strict = refl;
  both_notes = refl;
  explain_more = refl;
  race = refl;
  numbers_of_race = refl;
  longest_race = refl;
  longest_numbers = refl;
  too_many_nodes = refl;
  too_few_nodes = refl;
  negative_nodes = refl;
  no_rounds = refl;
  help_of_race = refl;
  log = refl;
  options_of_log = refl;
  log_of_two = refl;
  options_of_two = refl;
  graph = refl;
  json = refl;
  log_at_a_line = refl;
  line_given = refl;
  no_line = refl;
  two_pictures = refl;
  no_picture = refl;
  help_of_log = refl;
  show_store = refl;
  shown_store = refl;
  show_nothing = refl;
  show_alone = refl;
  help_of_show = refl;
  write_store = refl;
  written_store = refl;
  written_message = refl;
  write_no_name = refl;
  help_of_write = refl;
  why = refl;
  names_of_why = refl;
  fate = refl;
  labels_of_fate = refl;
  fate_of_none = refl;
}

-- what is so at all places is so of all words that name the forms
wherever : (P : Words → Type 0) → ((p a b c : ℕ × ℕ) → P (forms_at p a b c)) → (forms : Words) → NamesForms forms
    → P forms
wherever P h forms named = go forms.now named
  where
    text_at : ℕ → List Text → Text
    text_at i texts = unwrap_or (slice_get texts i) []

    go : (words : List (Bor Text)) → map (λ s. s.now) words ≡ form_words
        → P (record { ref_ptr = forms.ref_ptr; now = words })
    go [] e = let l : 0 ≡ 3 = ap length e in absurd (omega (arith, l))
    go (a ∷ []) e = let l : 1 ≡ 3 = ap length e in absurd (omega (arith, l))
    go (a ∷ b ∷ []) e = let l : 2 ≡ 3 = ap length e in absurd (omega (arith, l))
    go (a ∷ b ∷ c ∷ d ∷ rest) e =
        let l : suc (suc (suc (suc (length (map (λ s. s.now) rest))))) ≡ 3 = ap length e in absurd (omega (arith, l))
    go (a ∷ b ∷ c ∷ []) e =
        let at : List Text → Words = λ texts. record {
          ref_ptr = forms.ref_ptr;
          now = placed a.ref_ptr (text_at 0 texts) ∷ placed b.ref_ptr (text_at 1 texts)
              ∷ placed c.ref_ptr (text_at 2 texts) ∷ [];
        } in
        subst (λ texts. P (at texts)) (sym e) (h forms.ref_ptr a.ref_ptr b.ref_ptr c.ref_ptr)

pub are_asked_for : (forms : Words) (name : Text) → NamesForms forms → IsAskedFor forms name
are_asked_for forms name named = wherever (λ f. IsAskedFor f name) (λ p a b c. asked_at p a b c name) forms named
