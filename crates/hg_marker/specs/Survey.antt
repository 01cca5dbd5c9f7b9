-- What one walk over the pieces of bytes finds.
use Rattle.std.specs.Prelude.{◌≡◌, ℕ, List, true}
use Rattle.std.specs.List.{list_all, list_any}
use Rattle.hg_marker.specs.declared.pieces.Survey.{Survey}
use Rattle.hg_marker.specs.Metadata.{pieces, has_colon, entry}
use Rattle.hg_marker.specs.Parents.{is_parents_key}
use Rattle.hg_marker.specs.Written.{IsWritten}

-- the bytes spell metadata, as their one written spelling where that was found, and name parents where it was found
pub record IsSurvey (found : Survey) (bytes : List ℕ) : Type 0 where
  pub colons : list_all has_colon (pieces bytes) ≡ true
  pub written : found.is_written ≡ true → IsWritten bytes
  pub parents : found.names_parents ≡ list_any (λ p. is_parents_key (entry p).0) (pieces bytes)
