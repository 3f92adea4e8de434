use Rattle.std.proofs.Common.{◌≡◌, false, subst, sym}
use Rattle.std.specs.List.{AllByRecursion}
use Rattle.mn_runs.specs.Seen.{Seen, seen_at}
use Rattle.mn_hist.specs.Shown.{as_seen, is_of_catalog}
use Rattle.mn_hist.proofs.Notings.{told_read}
use Rattle.mn_hist.proofs.shown.reads_catalog.Goals as goal

pub returns-in-Some : goal.returns-in-Some
returns-in-Some c = told_read c.is_catalog.result (as_seen c.in-Some.read) (seen_at c.args.entry.now) (sym c.in-Some.ensures) c.is_catalog.ensures

pub returns-in-None : goal.returns-in-None
returns-in-None c = subst (AllByRecursion (λ (s : Seen). is_of_catalog s ≡ false)) c.in-None.ensures tt
