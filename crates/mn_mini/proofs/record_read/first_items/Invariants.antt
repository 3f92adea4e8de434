use Rattle.mn_mini.proofs.ItemLists.{Progress}
use Rattle.mn_mini.proofs.record_read.first_items.Given as goal

abbrev pub invariant-loop : goal.invariant-loop
invariant-loop l = Progress l.bytes l.count l.counter l.kind l.items.items l.rest
