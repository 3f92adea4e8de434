use Rattle.mn_catalog.specs.Places.{AreRead}
use Rattle.mn_catalog.proofs.catalog.used_entries.Given as goal

abbrev pub invariant-loop-version : goal.invariant-loop-version
invariant-loop-version l = AreRead l.version l.bytes l.entries.items
