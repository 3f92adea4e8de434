use Rattle.std.proofs.Common.{◌≡◌, length, map}
use Rattle.std.specs.Option.{option_map}
use Rattle.mn_page.specs.Reading.{ascends_to, child_seen}
use Rattle.mn_page.proofs.body_scan.children_fit.Given as goal

-- what is left ascends exactly where the whole does
abbrev pub invariant-loop-rest : goal.invariant-loop-rest
invariant-loop-rest l = ascends_to l.above (map (λ c. c.separator) (map child_seen l.rest)) (option_map (λ h. h.now) l.high) ≡ ascends_to l.initial.above (map (λ c. c.separator) (map child_seen l.initial.rest)) (option_map (λ h. h.now) l.high)

abbrev pub decreases-loop-rest : goal.decreases-loop-rest
decreases-loop-rest l = length l.rest
