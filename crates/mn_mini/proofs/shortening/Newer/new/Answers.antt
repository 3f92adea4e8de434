use Rattle.mn_mini.proofs.ShortSteps.{goes_first}
use Rattle.mn_mini.proofs.shortening.Newer.new.Goals as goal

pub returns : goal.returns
returns c = λ whole. goes_first (record { over = c.new-over.result; ended = c.new-ended.result }) whole c.new-over.ensures.empty c.new-ended.ensures.empty
