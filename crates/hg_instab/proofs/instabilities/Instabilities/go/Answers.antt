use Rattle.hg_instab.proofs.instabilities.Instabilities.go.Goals as goal

pub returns : goal.returns
returns c before is stages come =
    let at = rw (← c.self.view_is) at stages in
    let all = rw (← c.self.view_is) at come in
    record {
      obsolete = λ n. c.go.ensures before.obsolete n is.obsolete at.obsolete all.obsolete;
      orphan = λ n. c.go-2.ensures before.orphan n is.orphan at.orphan all.orphan;
      suspended = λ n. c.go-3.ensures before.suspended n is.suspended at.suspended all.suspended;
      extinct = λ n. c.go-4.ensures before.extinct n is.extinct at.extinct all.extinct;
      phase_divergent = λ n. c.go-5.ensures before.phase_divergent n is.phase_divergent at.phase_divergent
          all.phase_divergent;
      content_divergent = λ n. c.go-6.ensures before.content_divergent n is.content_divergent at.content_divergent
          all.content_divergent;
      after_public = λ n. c.go-7.ensures before.after_public n is.after_public at.after_public all.after_public;
      near_forks = λ n. c.go-8.ensures before.near_forks n is.near_forks at.near_forks all.near_forks;
    }
