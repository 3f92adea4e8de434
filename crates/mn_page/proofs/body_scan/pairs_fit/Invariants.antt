use Rattle.std.proofs.Common.{◌≡◌, length, map}
use Rattle.std.specs.Option.{option_map}
use Rattle.mn_page.specs.Reading.{ascends_to, pair_seen}
use Rattle.mn_page.proofs.body_scan.pairs_fit.Given as goal

-- what is left ascends exactly where the whole does
abbrev pub invariant-loop-rest : goal.invariant-loop-rest
invariant-loop-rest l = ascends_to l.last (map (λ q. q.key) (map pair_seen l.rest)) (option_map (λ h. h.now) l.high) ≡ ascends_to l.initial.last (map (λ q. q.key) (map pair_seen l.initial.rest)) (option_map (λ h. h.now) l.high)

abbrev pub decreases-loop-rest : goal.decreases-loop-rest
decreases-loop-rest l = length l.rest
