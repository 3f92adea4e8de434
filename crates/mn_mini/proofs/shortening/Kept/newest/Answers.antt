use Rattle.std.proofs.Common.{Vec, Global, sym, ◌∙◌}
use Rattle.mn_mini.specs.declared.part.PartItem.{PartItem}
use Rattle.mn_mini.proofs.ShortSteps.{popped, none_popped}
use Rattle.mn_mini.proofs.shortening.Kept.newest.Goals as goal

pub returns-in-Some : goal.returns-in-Some
returns-in-Some c = popped (λ (v : Vec PartItem Global). v.items) c.args.self.now.parts.items c.pop.new.self.items c.in-Some.items c.in-Some.ensures.items

pub returns-in-None : goal.returns-in-None
returns-in-None c = λ older part has.
    absurd (none_popped (λ (v : Vec PartItem Global). v.items) c.args.self.now.parts.items (sym c.args.self.now.parts.ok.0 ∙ c.in-None.ensures.cases.0) older part has)
