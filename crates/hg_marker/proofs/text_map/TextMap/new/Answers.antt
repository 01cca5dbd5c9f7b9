use Rattle.std.proofs.Common.{ap, ◌∙◌}
use Rattle.std.specs.FinMap.{from_sorted}
use Rattle.hg_marker.specs.Texts.{bytes_cmp, entry_bytes}
use Rattle.hg_marker.proofs.TextsLemmas.{from_none}
use Rattle.hg_marker.proofs.text_map.TextMap.new.Goals as goal

pub returns : goal.returns
returns c = ap (λ es. from_sorted {R = bytes_cmp} (entry_bytes es)) c.new.ensures.empty ∙ from_none
