use Rattle.std.proofs.Common.{List, sym, subst, arith}
use Rattle.mn_callers.specs.declared.desk.Desk.{Desk}
use Rattle.mn_callers.specs.Begins.{AreNewDesks, IsNewDesk}
use Rattle.mn_callers.proofs.Beginning.{pushed}
use Rattle.mn_callers.proofs.callers.new_desks.Goals as goal

pub loop-at-preserved : goal.loop-at-preserved
loop-at-preserved c =
    let made = c.new.result in
    let count = c.loop-at.invariant.count in
    let fresh : IsNewDesk c.loop-at.at made = record {
      number = c.new.ensures.list.0;
      empty = c.new.ensures.list.1;
      idle = c.new.ensures.idle;
      is_desk = c.new.ensures.desk;
    } in
    record {
      count = omega (arith, c.in_ok-push.ensures.len);
      new = subst (λ (l : List Desk). AreNewDesks l) (sym c.in_ok-push.ensures.items)
          (pushed IsNewDesk c.loop-at.desks.items made c.loop-at.at (omega (arith, c.loop-at.desks.ok.0)) fresh c.loop-at.invariant.new);
    }
