use Rattle.mn_memdisk.proofs.stops_after.StopsAfterDisk.make_room.Goals as goal

pub returns-clause-same : goal.returns-clause-same
returns-clause-same c = rw (← c.self.view_is) c.make_room.ensures.same
