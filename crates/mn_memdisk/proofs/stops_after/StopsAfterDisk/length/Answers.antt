use Rattle.mn_memdisk.proofs.stops_after.StopsAfterDisk.length.Goals as goal

pub returns-then-is_err-clause-same : goal.returns-then-is_err-clause-same
returns-then-is_err-clause-same c = rw (← c.self.view_is) c.length-result.ensures.same

pub returns-else-is_err-clause-same : goal.returns-else-is_err-clause-same
returns-else-is_err-clause-same c = rw (← c.self.view_is) c.length-result.ensures.same
