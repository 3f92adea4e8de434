use Rattle.std.proofs.Common.{List, subst, sym}
use Rattle.std.specs.Prelude.{Contains}
use Rattle.mn_base.specs.declared.ids.Tid.{Tid}
use Rattle.mn_runs.specs.Protocol.{start_of}
use Rattle.mn_callers.proofs.Closing.{any_error, bare_up, closes_after, closes_further, if_error, on_ok, settled_by}
use Rattle.mn_callers.proofs.Turns.{goes_further}
use Rattle.mn_callers.proofs.settle.Closer.settle.Goals as goal

pub returns-in_err-tids-clause-goes_on : goal.returns-in_err-tids-clause-goes_on
returns-in_err-tids-clause-goes_on g c = goes_further _ _ _ _ _ _ c.restart_all.ensures.goes_on c.held_ids.ensures.goes_on

pub returns-clause-goes_on : goal.returns-clause-goes_on
returns-clause-goes_on g c = goes_further _ _ _ _ _ _ (goes_further _ _ _ _ _ _ c.restart_all.ensures.goes_on c.held_ids.ensures.goes_on) c.recover_all.ensures.goes_on

pub returns-clause-settled : goal.returns-clause-settled
returns-clause-settled g c =
    let all = c.recover_all.ensures in
    on_ok c.recover_all.result all.up all.extends all.done
    (λ up extends done. settled_by _ c.held_ids.new.table.stations.items c.recover_all.new.table.stations.items c.in_ok-tids.tids.items c.in_ok-tids.ensures.held up extends (λ t there. done t (subst (λ (l : List Tid). Contains l t) (sym c.deref.ensures.value) there)))

pub returns-clause-closes : goal.returns-clause-closes
returns-clause-closes g c =
    closes_after c.recover_all.result _ _ _ (closes_further _ _ _ c.in_ok-restart_all.ensures.closes c.in_ok-tids.ensures.closes) c.recover_all.ensures.closes

pub returns-in_err-restart_all-clause-damaged : goal.returns-in_err-restart_all-clause-damaged
returns-in_err-restart_all-clause-damaged g c =
    any_error c.from_residual.result _ (λ cause damage. (
      c.in_err-restart_all.ensures.closes_failed,
      λ bare. c.in_err-restart_all.ensures.some_down (bare_up g.D.Disk.state g.D.Disk.faults (start_of g.N.Named.records) g.N.Named.faults g.N.Named.honest c.args.table.now.stations.items c.made.ensures bare),
    ))

pub returns-clause-damaged : goal.returns-clause-damaged
returns-clause-damaged g c = if_error c.recover_all.result _ _ (λ cause whole damage. absurd (whole damage)) c.recover_all.ensures.whole
