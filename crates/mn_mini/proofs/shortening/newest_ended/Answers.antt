use Rattle.std.proofs.Common.{sym, ◌∙◌}
use Rattle.mn_mini.specs.Shorten.{parts_of}
use Rattle.mn_mini.proofs.ShortSteps.{popped, none_popped}
use Rattle.mn_mini.proofs.shortening.newest_ended.Goals as goal

pub returns-in-Some : goal.returns-in-Some
returns-in-Some c = popped parts_of c.args.ended.now.items c.pop.new.self.items c.in-Some.parts c.in-Some.ensures.items

pub returns-in-None : goal.returns-in-None
returns-in-None c = λ older parts has.
    absurd (none_popped parts_of c.args.ended.now.items (sym c.args.ended.now.ok.0 ∙ c.in-None.ensures.cases.0) older parts has)
