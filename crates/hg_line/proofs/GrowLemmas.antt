-- How what a writer holds grows.
use Rattle.std.proofs.Common.{◌≡◌, ℕ, ◌-◌, List, [], ◌++◌, length, take, drop, Option, Result, Ok, Err, OnErr}
use Rattle.std.proofs.Common.{OnOk, sym, ap, ◌∙◌}
use Rattle.std.proofs.Common.{append_assoc, take-append-drop}
use Rattle.std.proofs.lemmas.List.{take_rest}
use Rattle.std.proofs.KnownBytes.{Appends-nil, Appends-trans}
use Rattle.hg_line.specs.Outputs.{Grows, Printed}

pub grows_stays : (held : Option (List ℕ)) → Grows held held
grows_stays held = ([], Appends-nil held)

-- behind what was printed
pub grows_after : (held between holds : Option (List ℕ)) (text : List ℕ) → Printed held text between
    → Grows between holds → Grows held holds
grows_after held between holds text printed (more, grew) =
    (text ++ more, Appends-trans held between holds text more printed grew)

-- and behind what was written of another text
pub grows_more : (held between holds : Option (List ℕ)) (text : List ℕ) → Grows held between
    → Printed between text holds → Grows held holds
grows_more held between holds text (more, grew) printed =
    (more ++ text, Appends-trans held between holds more text grew printed)

pub grows_then : (held between holds : Option (List ℕ)) → Grows held between → Grows between holds → Grows held holds
grows_then held between holds (more, grew) (later, grew_later) =
    (more ++ later, Appends-trans held between holds more later grew grew_later)

-- whether all was written or not
pub grows_either : {T E : Type 0} (held holds : Option (List ℕ)) (text : List ℕ) (r : Result T E)
    → OnOk r (Printed held text holds) → OnErr r (Grows held holds) → Grows held holds
grows_either held holds text (Ok x) printed grew = (text, printed)
grows_either held holds text (Err e) printed grew = grew

pub grows_after_err : {T E : Type 0} (held between holds : Option (List ℕ)) (text : List ℕ) (r : Result T E)
    → Printed held text between → OnErr r (Grows between holds) → OnErr r (Grows held holds)
grows_after_err held between holds text (Ok x) printed grew = tt
grows_after_err held between holds text (Err e) printed grew = grows_after held between holds text printed grew

-- some bytes more of all are written
pub moves_front : (all done rest : List ℕ) (n : ℕ) → all ≡ done ++ rest
    → all ≡ (done ++ take n rest) ++ take (length rest - n) (drop n rest)
moves_front all done rest n e =
    e ∙ ap (λ (l : List ℕ). done ++ l) (sym (take-append-drop n rest))
    ∙ sym (append_assoc done (take n rest) (drop n rest))
    ∙ ap (λ (l : List ℕ). (done ++ take n rest) ++ l) (sym (take_rest rest n))
