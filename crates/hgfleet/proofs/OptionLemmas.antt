-- What the command that was met asks for.
use Rattle.std.proofs.Common.{◌≡◌, ◌∙◌, List, Bool, true, false, refl, sym, ap, subst, codes, true≢false}
use Rattle.std.proofs.Common.{Option, Some, None}
use Rattle.std.specs.Prelude.{unwrap_or}
use Rattle.std.specs.Option.{option_map_or}
use Rattle.std.specs.Str.{bytes_eq}
use Rattle.std.specs.Str.Parse.{ParsesBool}
use Rattle.std.proofs.lemmas.Slice.Eq.{bytes_eq-Decides}
use Rattle.clap.specs.Words.{App, HasMatchesOf, ReadsOne, Row, Text, found_of, is_simple, one_text}
use Rattle.clap.specs.Words.{rows_of, subcommand_of, subcommand_rows_of}
use Rattle.clap.specs.declared.parser.matches.ArgMatches.{ArgMatches}
use Rattle.clap.proofs.OnLiterals.{clap_on_literals}
use Rattle.clap.proofs.WalkLemmas.{one_text-rows}
use Rattle.hgfleet.specs.Arguments.{MeetsWanted, Words, command_met, program_at}
use Rattle.hgfleet.specs.TryArguments.{flag_given}
use Rattle.hgfleet.specs.declared.arguments.Wanted.{Wanted}

program_is_simple : (forms : Words) → is_simple (program_at forms) ≡ true
unfolding clap_on_literals
program_is_simple forms = refl

-- the command that a parse met is the one that the words name
met_at : (a : App) (words : List Text) (m : ArgMatches) (forms : Words) → a ≡ program_at forms
    → HasMatchesOf a words m → subcommand_rows_of m ≡ command_met forms words
unfolding command_met
met_at a words m forms e has =
    (has (ap is_simple e ∙ program_is_simple forms)).1 ∙ ap (λ (b : App). subcommand_of b words) e

pub wanted_at : (a : App) (words : List Text) (m : ArgMatches) (forms : Words) (wanted : Option Wanted)
    → a ≡ program_at forms → HasMatchesOf a words m → MeetsWanted (subcommand_rows_of m) wanted
    → MeetsWanted (command_met forms words) wanted
wanted_at a words m forms wanted e has meets =
    subst (λ (met : Option (Text × List Row)). MeetsWanted met wanted) (met_at a words m forms e has) meets

text_true : (t : Text) → t ≡ codes "true" → bytes_eq t (codes "true") ≡ true
text_true t e = (bytes_eq-Decides t (codes "true")).1 e

text_other : (b : Bool) (t : Text) → bytes_eq t (codes "true") ≡ b → (t ≡ codes "true" → ⊥) → false ≡ b
text_other true t e h = absurd (h ((bytes_eq-Decides t (codes "true")).0 e))
text_other false t e h = refl

false_is_not_true : (t : Text) → t ≡ codes "false" → t ≡ codes "true" → ⊥
false_is_not_true t e is =
    true≢false (sym (ap (λ (u : Text). bytes_eq u (codes "true")) is) ∙ ap (λ (u : Text). bytes_eq u (codes "true")) e)

-- what is read of a text as a truth value is whether the text is `true`
value_read : (E : Type 0) (t : Text) (v : Option Bool) → ReadsOne (ParsesBool {E = E}) t v
    → unwrap_or v false ≡ bytes_eq t (codes "true")
value_read E t (Some true) h = sym (text_true t h)
value_read E t (Some false) h = text_other (bytes_eq t (codes "true")) t refl (false_is_not_true t h)
value_read E t None h = text_other (bytes_eq t (codes "true")) t refl h.1.0

-- a flag that is read as a truth value
pub flag_read : (E : Type 0) (m : ArgMatches) (id : Text) (r : Option Bool)
    → (one_text (found_of m) id ≡ None → r ≡ None)
    → ((t : Text) → one_text (found_of m) id ≡ Some t → ReadsOne (ParsesBool {E = E}) t r)
    → (b : Bool) → unwrap_or r false ≡ b → b ≡ flag_given id (rows_of (found_of m))
flag_read E m id r none value b is =
    sym is ∙ go (one_text (found_of m) id) refl
    ∙ ap (λ (o : Option Text). option_map_or (λ text. bytes_eq text (codes "true")) o false) (one_text-rows
    (found_of m) id)
  where
    go : (o : Option Text) → one_text (found_of m) id ≡ o
        → unwrap_or r false ≡ option_map_or (λ text. bytes_eq text (codes "true")) o false
    go None e = ap (λ (v : Option Bool). unwrap_or v false) (none e)
    go (Some t) e = value_read E t r (value t e)
