use Rattle.std.proofs.Common.{◌≡◌, codes, ap, ◌∙◌, sym, subst, List, ◌++◌, false}
use Rattle.std.proofs.lemmas.List.{take_all}
use Rattle.std.specs.declared.vec.Vec.{Vec}
use Rattle.std.specs.declared.alloc.Global.{Global}
use Rattle.hg_replica.specs.Content.{content_of}
use Rattle.hg_changeset.specs.declared.node.Node.{Node}
use Rattle.hg_log.specs.Drawings.{Text}
use Rattle.hg_log.specs.Json.{divided}
use Rattle.hg_why.specs.FateLines.{set_text}
use Rattle.hg_why.specs.Names.{name_of}
use Rattle.hg_why.proofs.DividerLemmas.{divided-map, next_appended, none_appended}
use Rattle.hg_why.proofs.fate_line.push_each_set.Goals as goal

pub loop-set-init : goal.loop-set-init
loop-set-init c =
    let made : Vec Node Global → Text = λ v. set_text (name_of (content_of c.args.replica.now)) v.items in
    none_appended (codes " or ") made c.args.line.now.items

pub loop-set-preserved : goal.loop-set-preserved
loop-set-preserved c =
    let set : List Node → Text = set_text (name_of (content_of c.args.replica.now)) in
    let made : Vec Node Global → Text = λ v. set v.items in
    let front = c.push_text.new.line.items in
    let item = c.set-item.result in
    let same = ap (λ (v : Vec Node Global). front ++ made v) c.set-item.is in
    let appended = c.in_ok-push_set.ensures ∙ ap (λ (ns : List Node). front ++ set ns) c.deref.ensures.value ∙ same in
    next_appended (codes " or ") made c.args.family.now c.loop-set.set-index item _ _ _ _ _ c.loop-set-test.true
    c.loop-set.invariant c.in_ok-push_text.ensures appended

pub returns : goal.returns
returns c =
    let family = c.args.family.now in
    let set : List Node → Text = set_text (name_of (content_of c.args.replica.now)) in
    let made : Vec Node Global → Text = λ v. set v.items in
    let line = c.args.line.now.items in
    let all : c.loop-set.line.items ≡ line ++ divided false (codes " or ") made family =
    subst (λ (vs : List (Vec Node Global)). c.loop-set.line.items ≡ line ++ divided false (codes " or ") made vs)
    (take_all c.loop-set.set-index family c.loop-set-test.false) c.loop-set.invariant.0 in
    all ∙ ap (λ (t : Text). line ++ t) (sym (divided-map false (codes " or ") (λ v. v.items) set family))
