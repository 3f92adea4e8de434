use Rattle.std.proofs.Common.{◌≡◌, true}
use Rattle.mn_work.specs.Attempts.{StaysLast}
use Rattle.mn_work.specs.Cached.{AreUsed}
use Rattle.mn_work.specs.Firsts.{CameKept}
use Rattle.mn_work.proofs.Attempts.{RunsSo}
use Rattle.mn_work.proofs.Levels.{IsDown}
use Rattle.mn_work.proofs.attempt.Attempt.run_step.Given as goal

-- the pages that came in went down; a later try asks for its first
abbrev pub invariant-loop-level : goal.invariant-loop-level
invariant-loop-level l =
    RunsSo l.fn.known l.known l.later l.steps l.fn.self l.self
    × AreUsed l.fn.known.cache l.known.cache × (l.self.done ≡ l.fn.self.done)
    × (l.later ≡ true → l._level ≡ 0) × StaysLast l.fn.known.cache l.fn.self l.self
    × IsDown l._level l.steps l.self × CameKept l.known.cache l.fn.self l.self
