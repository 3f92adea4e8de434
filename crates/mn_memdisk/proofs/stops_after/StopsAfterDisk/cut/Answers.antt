use Rattle.mn_memdisk.proofs.stops_after.StopsAfterDisk.cut.Goals as goal

pub returns-then-eq-2-clause-time : goal.returns-then-eq-2-clause-time
returns-then-eq-2-clause-time c = rw (← c.self.view_is) c.cut-result.ensures.time

pub returns-then-is_err-clause-time : goal.returns-then-is_err-clause-time
returns-then-is_err-clause-time c = rw (← c.self.view_is) c.cut-result.ensures.time

pub returns-else-is_err-clause-time : goal.returns-else-is_err-clause-time
returns-else-is_err-clause-time c = rw (← c.self.view_is) c.cut-result.ensures.time
