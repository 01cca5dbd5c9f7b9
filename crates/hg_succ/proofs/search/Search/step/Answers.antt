use Rattle.std.proofs.Common.{rules, ◌<◌, length, arith}
use Rattle.hg_succ.specs.Rows.{rows_of}
use Rattle.hg_succ.specs.Search.{state_of}
use Rattle.hg_succ.proofs.SearchLemmas.{place_waits, node_end, node_rows, node_left, left_is, left_within, edge_within}
use Rattle.hg_succ.proofs.SearchLemmas.{step_search, step_met, step_less, step_left}
use Rattle.hg_succ.proofs.search.Search.step.Goals as goal

pub index-node-requires : goal.index-node-requires
index-node-requires c = let l = place_waits (rows_of c.args.rows.now) (state_of c.args.self.now) c.requires.search
    c.args.place c.requires.end in omega (arith, l, c.args.self.now.waiting.ok.0)

pub index-left-requires : goal.index-left-requires
index-left-requires c = let l = node_left c.args.rows.now (state_of c.args.self.now) c.requires.search c.requires.within
    c.args.place c.requires.end c.index-node.result.now c.index-node.ensures in
    omega (arith, l, c.args.self.now.left.ok.0)

pub leave-requires-clause-end : goal.leave-requires-clause-end
leave-requires-clause-end c =
    let s = state_of c.args.self.now in
    let u = c.index-node.result.now in (
      u,
      node_end c.args.rows.now s c.requires.search c.requires.within c.args.place c.requires.end u c.index-node.ensures,
      rw c.if-left-eq0.true at
          (left_is c.args.rows.now s c.requires.search c.requires.within c.args.place c.requires.end u
          c.index-node.ensures c.index-left.result.now c.index-left.ensures),
    )

pub bounds-rows-node : goal.bounds-rows-node
bounds-rows-node c = node_rows c.args.rows.now (state_of c.args.self.now) c.requires.search c.requires.within
    c.args.place c.requires.end c.index-node.result.now c.index-node.ensures

pub offset_bounds-rows-node : goal.offset_bounds-rows-node
offset_bounds-rows-node c = let l : c.index-node.result.now < length c.args.rows.now = node_rows c.args.rows.now
    (state_of c.args.self.now) c.requires.search c.requires.within c.args.place c.requires.end c.index-node.result.now
    c.index-node.ensures in search rules

pub index-requires : goal.index-requires
index-requires c = let l = left_within c.args.rows.now (state_of c.args.self.now) c.requires.search c.requires.within
    c.args.place c.requires.end c.index-node.result.now c.index-node.ensures c.index-left.result.now
    c.index-left.ensures c.index-rows-node.result c.index-rows-node.is in
    omega (arith, l, c.if-left-eq0.false, c.index-rows-node.result.ok.0)

pub follow-requires : goal.follow-requires
follow-requires c = edge_within c.args.rows.now (state_of c.args.self.now) c.requires.search c.requires.within
    c.args.place c.requires.end c.index-node.result.now c.index-node.ensures c.index-left.result.now
    c.index-left.ensures c.index-rows-node.result c.index-rows-node.is c.if-left-eq0.false c.index.result.now
    c.index.ensures

pub index_mut-requires : goal.index_mut-requires
index_mut-requires c = let l = step_left c.args.rows.now (state_of c.args.self.now) c.requires.search c.requires.within
    c.args.place c.requires.end c.index-node.result.now c.index-node.ensures c.index-left.result.now
    c.index-left.ensures c.index-rows-node.result c.index-rows-node.is c.if-left-eq0.false c.index.result.now
    c.index.ensures (state_of c.follow.new.self) c.in_ok-follow.ensures in omega (arith, l, c.follow.new.self.left.ok.0)

pub returns-clause-search : goal.returns-clause-search
returns-clause-search c = step_search c.args.rows.now (state_of c.args.self.now) c.requires.search c.requires.within
    c.args.place c.requires.end c.index-node.result.now c.index-node.ensures c.index-left.result.now
    c.index-left.ensures c.index-rows-node.result c.index-rows-node.is c.if-left-eq0.false c.index.result.now
    c.index.ensures (state_of c.follow.new.self) c.in_ok-follow.ensures

pub returns-clause-met : goal.returns-clause-met
returns-clause-met c = step_met c.args.rows.now (state_of c.args.self.now) c.requires.search c.requires.within
    c.args.place c.requires.end c.index-node.result.now c.index-node.ensures c.index-left.result.now
    c.index-left.ensures c.index-rows-node.result c.index-rows-node.is c.if-left-eq0.false c.index.result.now
    c.index.ensures (state_of c.follow.new.self) c.in_ok-follow.ensures

pub returns-clause-less : goal.returns-clause-less
returns-clause-less c = step_less c.args.rows.now (state_of c.args.self.now) c.requires.search c.requires.within
    c.args.place c.requires.end c.index-node.result.now c.index-node.ensures c.index-left.result.now
    c.index-left.ensures c.index-rows-node.result c.index-rows-node.is c.if-left-eq0.false c.index.result.now
    c.index.ensures (state_of c.follow.new.self) c.in_ok-follow.ensures
