-- What is written of a line with its notes.
use Rattle.std.proofs.Common.{Bool, true, false, refl, inl}
use Rattle.hg_line.specs.Commands.{Text}
use Rattle.hg_line.specs.Printing.{IsExplained, IsTraced}

pub same_explained : (explains : Bool) (text : Text) → IsExplained explains text text
same_explained false text = refl
same_explained true text = inl refl

pub same_traced : (traces : Bool) (text : Text) → IsTraced traces text text
same_traced false text = refl
same_traced true text = inl refl
