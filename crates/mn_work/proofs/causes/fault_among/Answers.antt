use Rattle.mn_work.proofs.causes.fault_among.Goals as goal

pub returns-in-Fault : goal.returns-in-Fault
returns-in-Fault c seens op walks brought =
    c.in-Fault.ensures.met seens op (c.loop-level.invariant.1 seens op walks brought) brought

pub loop-level-preserved : goal.loop-level-preserved
loop-level-preserved c = (
  c.in-Below.ensures.high,
  λ seens op walks brought.
      let now = c.loop-level.invariant.1 seens op walks brought in
      (now.0, c.in-Below.ensures.met seens op now brought),
)
