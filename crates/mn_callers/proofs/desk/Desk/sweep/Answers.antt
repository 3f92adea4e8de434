use Rattle.std.proofs.Common.{ap, subst}
use Rattle.mn_runs.specs.Lists.{ClientState}
use Rattle.mn_runs.specs.Protocol.{entries_of}
use Rattle.mn_callers.specs.declared.desk.Desk.{Desk}
use Rattle.mn_callers.specs.Desks.{RecoversOn}
use Rattle.mn_callers.specs.Hands.{MovesOn, hand_of}
use Rattle.mn_callers.proofs.Hands.{moves_further}
use Rattle.mn_callers.proofs.Sweeping.{recovers_more}
use Rattle.mn_callers.proofs.desk.Desk.sweep.Goals as goal

pub loop-tid-init : goal.loop-tid-init
loop-tid-init g c =
    let list = ap (λ (d : Desk). d.list) c.leave.ensures in record {
      turn = c.listed_ids.ensures.turn;
      goes_on = subst (λ (l : ClientState). MovesOn (g.X.Transport.went c.args.table.now c.listed_ids.new.table) (hand_of c.args.pass.now l) (hand_of c.listed_ids.new.pass c.listed_ids.new.self.list)) list
          (moves_further g.X.Transport.went g.met.X.Transport.goes_on _ _ _ _ _ _ c.restart_all.ensures.goes_on c.listed_ids.ensures.goes_on);
      desk = c.listed_ids.ensures.desk;
      idle = c.listed_ids.ensures.idle;
      recovers = subst (λ (l : ClientState). RecoversOn (entries_of l.entries) (entries_of c.listed_ids.new.self.list.entries)) list (recovers_more _ _ _ c.restart_all.ensures.recovers c.listed_ids.ensures.recovers);
    }

pub loop-tid-preserved : goal.loop-tid-preserved
loop-tid-preserved g c = record {
  turn = c.recover_id.ensures.turn;
  goes_on = moves_further g.X.Transport.went g.met.X.Transport.goes_on _ _ _ _ _ _ c.loop-tid.invariant.goes_on c.recover_id.ensures.goes_on;
  desk = c.recover_id.ensures.desk;
  idle = c.recover_id.ensures.idle;
  recovers = recovers_more _ _ _ c.loop-tid.invariant.recovers c.recover_id.ensures.recovers;
}

pub returns-in_err-tids-clause-goes_on : goal.returns-in_err-tids-clause-goes_on
returns-in_err-tids-clause-goes_on g c =
    let list = ap (λ (d : Desk). d.list) c.leave.ensures in
    subst (λ (l : ClientState). MovesOn (g.X.Transport.went c.args.table.now c.listed_ids.new.table) (hand_of c.args.pass.now l) (hand_of c.listed_ids.new.pass c.listed_ids.new.self.list)) list
    (moves_further g.X.Transport.went g.met.X.Transport.goes_on _ _ _ _ _ _ c.restart_all.ensures.goes_on c.listed_ids.ensures.goes_on)

pub returns-in_err-tids-clause-recovers : goal.returns-in_err-tids-clause-recovers
returns-in_err-tids-clause-recovers g c =
    let list = ap (λ (d : Desk). d.list) c.leave.ensures in
    subst (λ (l : ClientState). RecoversOn (entries_of l.entries) (entries_of c.listed_ids.new.self.list.entries)) list (recovers_more _ _ _ c.restart_all.ensures.recovers c.listed_ids.ensures.recovers)

pub returns-in_err-recover_id-clause-goes_on : goal.returns-in_err-recover_id-clause-goes_on
returns-in_err-recover_id-clause-goes_on g c = moves_further g.X.Transport.went g.met.X.Transport.goes_on _ _ _ _ _ _ c.loop-tid.invariant.goes_on c.recover_id.ensures.goes_on

pub returns-in_err-recover_id-clause-recovers : goal.returns-in_err-recover_id-clause-recovers
returns-in_err-recover_id-clause-recovers g c = recovers_more _ _ _ c.loop-tid.invariant.recovers c.recover_id.ensures.recovers
