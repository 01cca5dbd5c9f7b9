-- Words in colours, as a terminal reads them.
use Rattle.std.specs.Prelude.{◌++◌, ◌∷◌, Bool, codes, if◌then◌else◌}
use Rattle.hg_log.specs.declared.colour.Colour.{Colour}
use Rattle.hg_log.specs.declared.colour.Colour.TheVariants.{Red, Yellow}
use Rattle.hg_log.specs.Drawings.{Text}

-- the code before words in a colour: an escape, and what it says
abbrev pub start_of : Colour → Text
start_of Red = 27 ∷ codes "[0;31m"
start_of Yellow = 27 ∷ codes "[0;33m"

-- the code behind them
abbrev pub end_of_colour : Text
end_of_colour = 27 ∷ codes "[0m"

-- words between the codes, where there are to be colours
abbrev pub in_colour : Colour → Bool → Text → Text
in_colour colour is_coloured words =
    if is_coloured then start_of colour ++ (words ++ end_of_colour) else words
