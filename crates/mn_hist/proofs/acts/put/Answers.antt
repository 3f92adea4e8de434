use Rattle.std.proofs.Common.{◌≤◌, List, arith, length, subst, sym}
use Rattle.mn_hist.specs.declared.acts.PlacedAct.{PlacedAct}
use Rattle.mn_hist.specs.History.{AreActsOf, IsIndexIn}
use Rattle.mn_hist.proofs.Putting.{put_last}
use Rattle.mn_hist.proofs.acts.put.Goals as goal

pub returns : goal.returns
returns c = λ placed up are free.
    let at = c.index_for-at.result in
    let last : length c.args.acts.now.items ≤ at = omega (arith, c.len.ensures, c.if-at-len.false) in
    put_last c.args.acts.now.items c.push.new.self.items c.args.act at
    (subst (λ (l : List PlacedAct). at ≤ length l) c.deref.ensures.value c.index_for-at.ensures.within) last
    (subst (λ (l : List PlacedAct). IsIndexIn l c.args.act.place at) c.deref.ensures.value
    (c.index_for-at.ensures.index placed up (subst (λ (l : List PlacedAct). AreActsOf l placed) (sym c.deref.ensures.value) are) free))
    c.in_ok-push.ensures.items
