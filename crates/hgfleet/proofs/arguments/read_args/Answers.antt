use Rattle.std.proofs.Common.{map, rules}
use Rattle.hgfleet.proofs.PlaceLemmas.{answer_alike}
use Rattle.hgfleet.specs.Arguments.{NamesForms}
use Rattle.hgfleet.proofs.arguments.read_args.Goals as goal

pub returns : goal.returns
returns c forms names =
    let named : NamesForms c.as_slice.result = search rules in
    answer_alike c.as_slice.result forms named names (map (λ s. s.now) c.args.words.now) _ c.read_by_forms.ensures
