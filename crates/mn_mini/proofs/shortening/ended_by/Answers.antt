use Rattle.std.proofs.Common.{◌++◌, Bool, Some, sym, subst, if◌then◌else◌}
use Rattle.mn_mini.specs.declared.shortening.Ended.TheVariants as End
use Rattle.mn_mini.specs.Short.{Applied, Dropped}
use Rattle.mn_mini.specs.Shorten.{OverTells, FateTells, parts_of, joined}
use Rattle.mn_mini.proofs.shortening.ended_by.Goals as goal

pub returns-then-yes : goal.returns-then-yes
returns-then-yes c = λ items tells.
    subst (λ (b : Bool). FateTells (Some (End.Applied c.in_ok-kept.kept)) (if b then Applied items else Dropped) (parts_of c.args.parts.now) × OverTells c.keep_each.new.over (if b then joined (parts_of c.args.parts.now) ++ items else items))
    (sym c.if-yes.true) (c.in_ok-kept.ensures items tells)

pub returns : goal.returns
returns c = λ items tells.
    subst (λ (b : Bool). FateTells (Some End.Dropped) (if b then Applied items else Dropped) (parts_of c.args.parts.now) × OverTells c.args.over.now (if b then joined (parts_of c.args.parts.now) ++ items else items))
    (sym c.if-yes.false) (tt, tells)
