use Rattle.std.proofs.Common.{◌≡◌, ◌++◌, ◌∷◌, [], List, ap, sym, ◌∙◌, subst}
use Rattle.mn_base.specs.declared.ids.NodeNo.{NodeNo}
use Rattle.mn_mini.specs.declared.record.Record.{Record}
use Rattle.mn_mini.specs.declared.record.Record.TheVariants.{Voted}
use Rattle.mn_mini.specs.Shorten.{Goes}
use Rattle.mn_mini.proofs.ShortSteps.{goes_voted}
use Rattle.mn_mini.proofs.shortening.Newer.keep_vote.Goals as goal

pub returns : goal.returns
returns c = λ older whole g.
    let old = c.args.kept.now.items in
    let left = c.in_ok-part.part in
    let both = c.in_ok-part.ensures g.over g.fates c.args.participants.now older g.tells in
    let goes = goes_voted c.args.self.now c.voted_part.new.self old c.args.tid c.args.participants.now c.args.part.now left older whole g both.0 both.1 in
    let kept : c.push.new.self.items ≡ old ++ Voted c.args.tid c.args.participants.now left ∷ [] =
    c.in_ok-push.ensures.items ∙ ap (λ (ps : List NodeNo). old ++ Voted c.args.tid ps left ∷ []) c.in_ok-participants.ensures in
    subst (λ (l : List Record). Goes c.voted_part.new.self l older whole) (sym kept) goes
