use Rattle.std.proofs.Common.{◌≡◌, ◌∙◌, [], Ok, ap, sym, rules}
use Rattle.std.proofs.lemmas.Result.{err_from_is_err_and}
use Rattle.std.proofs.lemmas.Map.Made.{IsDistinct-from_AllPairs}
use Rattle.hg_marker.specs.Same.{fields_decides}
use Rattle.hg_obsstore.specs.Growth.{new_among}
use Rattle.hg_obsstore.proofs.FormatLemmas.{fails_alike, ok_is, store_longer}
use Rattle.hg_obsstore.proofs.GrowthLemmas.{copied}
use Rattle.hg_obsstore.proofs.format.read_store_with_keys.Goals as goal

pub returns-in_err-markers : goal.returns-in_err-markers
returns-in_err-markers c = record {
  only = λ ms h.
      let p = err_from_is_err_and c.from_residual.result c.from_residual.ensures.1 in
      rw (p.1, p.2) (fails_alike c.in_err-markers.field-0.0 ms (new_among [] ms) (c.in_err-markers.ensures.only ms h));
  again = λ ms different. search rules;
  found = search rules;
  fault = search rules;
  refused = search rules;
  memory = search rules;
}

pub returns-in-Ok : goal.returns-in-Ok
returns-in-Ok c = record {
  only = λ ms h.
      let same : ms ≡ c.in_ok-markers.markers.items = ok_is _ _ (c.in_ok-markers.ensures.only ms h) in
      ap (λ xs. Ok xs) (ap (new_among []) same ∙ sym c.in-Ok.ensures.ok);
  again = λ ms different h.
      let same : ms ≡ c.in_ok-markers.markers.items = ok_is _ _ (c.in_ok-markers.ensures.only ms h) in
      ap (λ xs. Ok xs) (sym (copied _ (IsDistinct-from_AllPairs fields_decides _ different)) ∙ ap (new_among []) same
      ∙ sym c.in-Ok.ensures.ok);
  found = search rules;
  fault = search rules;
  refused = search rules;
  memory = search rules;
}

pub returns-in-Err : goal.returns-in-Err
returns-in-Err c = record {
  only = search rules;
  again = search rules;
  found = search rules;
  fault = search rules;
  refused = search rules;
  memory =
      λ _. store_longer _ _ c.in_ok-markers.ensures.found c.in-Err.ensures.err;
}
