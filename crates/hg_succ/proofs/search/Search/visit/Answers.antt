use Rattle.std.proofs.Common.{◌<◌, length, arith, sym, subst, refl, inl}
use Rattle.std.proofs.lemmas.List.{length-map}
use Rattle.std.proofs.lemmas.Option.{slice_get_read}
use Rattle.hg_succ.specs.declared.search.Progress.TheVariants.{New}
use Rattle.hg_succ.specs.Rows.{rows_of, At}
use Rattle.hg_succ.specs.Search.{state_of, IsSearch, SearchState, StaysMet}
use Rattle.hg_succ.proofs.ListLemmas.{get_one}
use Rattle.hg_succ.proofs.SearchLemmas.{enters, none_waits, set_stays, set_not_new}
use Rattle.hg_succ.proofs.search.Search.visit.Goals as goal

pub run-requires-clause-search : goal.run-requires-clause-search
run-requires-clause-search c =
    let s = state_of c.args.self.now in
    let R = rows_of c.args.rows.now in
    let within : c.args.node < length s.marks =
    omega (arith, c.requires.node, c.requires.search.marks_long, length-map c.args.rows.now (λ row. row.items)) in
    let read = slice_get_read s.marks (length s.marks) c.args.node c.index.result.now refl within c.index.ensures in
    let new : At s.marks c.args.node New = subst (At s.marks c.args.node) c.in-New.is read in
    subst (IsSearch R) (sym c.in_ok-enter.ensures)
    (enters R s c.requires.search c.args.node new (inl c.requires.waiting))

pub returns-in_ok-run-clause-waiting : goal.returns-in_ok-run-clause-waiting
returns-in_ok-run-clause-waiting c = none_waits (rows_of c.args.rows.now) (state_of c.run.new.self)
    c.in_ok-run.ensures.search c.in_ok-run.ensures.path

pub returns-in_ok-run-clause-met : goal.returns-in_ok-run-clause-met
returns-in_ok-run-clause-met c =
    let s = state_of c.args.self.now in
    let entered_stays : StaysMet s.marks c.enter.new.self.marks.items =
    subst (λ (st : SearchState). StaysMet s.marks st.marks) (sym c.in_ok-enter.ensures)
    (set_stays s.marks c.args.node (length s.waiting)) in
    λ x h. entered_stays x (c.in_ok-run.ensures.met x h)

pub returns-in_ok-run-clause-done : goal.returns-in_ok-run-clause-done
returns-in_ok-run-clause-done c h =
    let s = state_of c.args.self.now in
    let within : c.args.node < length s.marks =
    omega (arith, c.requires.node, c.requires.search.marks_long, length-map c.args.rows.now (λ row. row.items)) in
    set_not_new s.marks c.args.node (length s.waiting) within
    (subst (λ (st : SearchState). At st.marks c.args.node New) c.in_ok-enter.ensures
    (c.in_ok-run.ensures.met c.args.node h))

pub returns-in_default : goal.returns-in_default
returns-in_default c =
    let s = state_of c.args.self.now in
    let within : c.args.node < length s.marks =
    omega (arith, c.requires.node, c.requires.search.marks_long, length-map c.args.rows.now (λ row. row.items)) in
    let read = slice_get_read s.marks (length s.marks) c.args.node c.index.result.now refl within c.index.ensures in
    record {
      search = c.requires.search;
      waiting = c.requires.waiting;
      met = λ x h. h;
      done = λ h. c.in_default.not-New (get_one s.marks c.args.node c.index.result.now New read h);
    }
