use Rattle.mn_memdisk.proofs.stops_after.StopsAfterDisk.sync.Goals as goal

pub returns-then-is_err-clause-time : goal.returns-then-is_err-clause-time
returns-then-is_err-clause-time c = rw (← c.self.view_is) c.sync-result.ensures.time

pub returns-else-is_err-clause-time : goal.returns-else-is_err-clause-time
returns-else-is_err-clause-time c = rw (← c.self.view_is) c.sync-result.ensures.time
