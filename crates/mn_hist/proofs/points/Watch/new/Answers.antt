use Rattle.std.proofs.Common.{rules, List, Option, None, ℕ, ap, ◌∙◌}
use Rattle.std.specs.Prelude.{slice_get}
use Rattle.mn_hist.proofs.Flags.{none_met}
use Rattle.mn_hist.proofs.Watched.{all_same}
use Rattle.mn_hist.proofs.points.Watch.new.Goals as goal

pub returns-clause-watches : goal.returns-clause-watches
returns-clause-watches c = record {
  met = none_met c.args.points.now c.in_ok-none_met.field-0.items c.in_ok-none_met.ensures;
  numbers = λ d few. ap (λ (l : List (Option ℕ)). slice_get l d.0) c.in_ok-no_numbers.ensures ∙ all_same 256 d.0 None few;
  votes = λ d t. search rules;
}
