use Rattle.mn_callers.proofs.Closing.{ids_sound}
use Rattle.mn_callers.proofs.Turns.{ok_then}
use Rattle.mn_callers.proofs.desk.Desk.add_listed.Goals as goal

pub returns-in-Listed-clause-ids : goal.returns-in-Listed-clause-ids
returns-in-Listed-clause-ids g c =
    ok_then c.add_ids.result _ _ (λ is. ids_sound c.args.tids.now.items c.add_ids.new.tids.items c.in-Listed.doubts c.requires.ids c.in-Listed.ensures.fits.1 is) c.add_ids.ensures
