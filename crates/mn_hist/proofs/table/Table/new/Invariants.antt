use Rattle.std.proofs.Common.{◌≡◌, [], map, replicate}
use Rattle.mn_hist.proofs.table.Table.new.Given as goal

-- so many clients, of which nothing is kept
abbrev pub invariant-loop : goal.invariant-loop
invariant-loop g l = map (λ numbers. numbers.items) l.clients.items ≡ replicate l.counter []
