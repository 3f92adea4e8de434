use Rattle.std.proofs.Common.{◌≡◌, ◌++◌, drop}
use Rattle.std.specs.Prelude.{flat_map}
use Rattle.mn_script.specs.Grammar.{line, point_text}
use Rattle.mn_script.proofs.write.push_points.Given as goal

-- the text so far, and that of the rest
abbrev pub invariant-loop-point : goal.invariant-loop-point
invariant-loop-point l = l.out.items ++ flat_map (λ p. line (point_text l.clients p)) (drop l.point-index l.points) ≡ l.fn.out.items ++ flat_map (λ p. line (point_text l.clients p)) l.points
