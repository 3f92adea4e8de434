use Rattle.std.proofs.Common.{◌≡◌, ◌-◌, false, length}
use Rattle.mn_work.specs.Attempts.{StaysLast}
use Rattle.mn_work.specs.Cached.{AreUsed}
use Rattle.mn_work.specs.Firsts.{CameKept}
use Rattle.mn_work.proofs.Attempts.{RunsSo}
use Rattle.mn_work.proofs.attempt.Attempt.advance.Given as goal

-- each round does a step
abbrev pub invariant-loop-self : goal.invariant-loop-self
invariant-loop-self l =
    RunsSo l.fn.known l.known l.later l.steps l.fn.self l.self
    × AreUsed l.fn.known.cache l.known.cache × (l.all ≡ l.steps)
    × StaysLast l.fn.known.cache l.fn.self l.self
    × (l.later ≡ false → CameKept l.known.cache l.fn.self l.self)

abbrev pub decreases-loop-self : goal.decreases-loop-self
decreases-loop-self l = length l.all - l.self.done
