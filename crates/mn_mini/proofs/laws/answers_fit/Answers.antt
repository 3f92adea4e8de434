use Rattle.mn_mini.proofs.Fits.{answers_do_fit, length-space_of}
use Rattle.mn_mini.proofs.laws.answers_fit.Goals as goal

pub returns-clause-fits : goal.returns-clause-fits
returns-clause-fits c = answers_do_fit

pub returns-clause-size : goal.returns-clause-size
returns-clause-size c = length-space_of
