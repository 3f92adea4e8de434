use Rattle.mn_redo.proofs.redo.Redo.close.Goals as goal

pub returns-clause-stands : goal.returns-clause-stands
returns-clause-stands g c = rw (← c.self.view_is) (λ going h. c.close.ensures.stands going _ (c.self.invariant going).log h)
