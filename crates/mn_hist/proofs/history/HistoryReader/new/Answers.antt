use Rattle.std.proofs.Common.{rules, length, refl, ap}
use Rattle.mn_hist.proofs.Joining.{all_idle}
use Rattle.mn_hist.proofs.history.HistoryReader.new.Goals as goal

pub returns : goal.returns
returns c = record {
  reading = record { commits = c.in_ok-new.ensures; long = ap length c.in_ok-idle_callers.ensures; said = λ d n. search rules };
  callers = all_idle c.in_ok-idle_callers.field-0.items c.in_ok-idle_callers.ensures;
  plans = λ tid mini plan. search rules;
  stands = λ d n. search rules;
  acts = search rules;
  history = refl;
}
