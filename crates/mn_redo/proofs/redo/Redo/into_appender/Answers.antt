use Rattle.mn_redo.proofs.redo.Redo.into_appender.Goals as goal

pub returns-clause-log : goal.returns-clause-log
returns-clause-log g c = rw (← c.self.view_is) (λ going. (c.self.invariant going).log)
