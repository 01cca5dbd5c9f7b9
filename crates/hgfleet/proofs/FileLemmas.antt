-- What was read of a file.
use Rattle.std.proofs.Common.{◌≡◌, ◌≤◌, ◌+◌, ◌∙◌, ◌++◌, ℕ, [], Option, None, Some, IfSome, arith, length}
use Rattle.std.proofs.Common.{ap, subst, sym, take}
use Rattle.std.specs.Prelude.{option_map}
use Rattle.std.proofs.lemmas.List.{length-take, take_all}
use Rattle.hg_log.specs.Drawings.{Text}
use Rattle.hgfleet.specs.Limits.{file_limit}
use Rattle.hgfleet.specs.Trying.{IsFileRead}

-- what is shorter than the front that was read is all
all_read : (all bytes : Text) → bytes ≡ take (file_limit + 1) all → length bytes ≤ file_limit → all ≡ bytes
all_read all bytes is short =
    let front = ap length is ∙ length-take (file_limit + 1) all in
    let within : length all ≤ file_limit + 1 = omega (arith, front, short) in
    sym (is ∙ take_all (file_limit + 1) all within)

known_read : (known : Option Text) (before after bytes : Text) → before ≡ []
    → IfSome (option_map (take (file_limit + 1)) known) (λ more. after ≡ before ++ more) → bytes ≡ after
    → length bytes ≤ file_limit → IsFileRead known bytes
known_read None before after bytes none grew same short = (short, tt)
known_read (Some all) before after bytes none grew same short =
    let is = same ∙ grew ∙ ap (λ (l : Text). l ++ take (file_limit + 1) all) none in
    (short, all_read all bytes is short)

-- what was read within the limit, of a reader that is the one that there was
pub is_read : (known inner : Option Text) (limit : ℕ) (before after bytes : Text) → limit ≡ file_limit + 1
    → inner ≡ known → before ≡ [] → IfSome (option_map (take limit) inner) (λ more. after ≡ before ++ more)
    → bytes ≡ after → length bytes ≤ file_limit → IsFileRead known bytes
is_read known inner limit before after bytes is_limit is_known none grew same short =
    let P : ℕ → Type 0 = λ n. IfSome (option_map (take n) inner) (λ more. after ≡ before ++ more) in
    let Q : Option Text → Type 0 = λ o.
    IfSome (option_map (take (file_limit + 1)) o) (λ more. after ≡ before ++ more) in
    known_read known before after bytes none (subst Q is_known (subst P is_limit grew)) same short
