use Rattle.std.proofs.Common.{◌≡◌, ◌++◌, ◌∷◌, [], List, ap, sym, ◌∙◌, subst}
use Rattle.mn_mini.specs.declared.record.Record.{Record}
use Rattle.mn_mini.specs.declared.record.Record.TheVariants.{Decided}
use Rattle.mn_mini.specs.Node.{held_parts}
use Rattle.mn_mini.specs.Shorten.{Goes, ended_lists, held_of}
use Rattle.mn_mini.proofs.ShortSteps.{goes_decided, goes_forced}
use Rattle.mn_mini.proofs.shortening.Newer.note.Goals as goal

pub returns-in_ok-keep_vote-in-Voted : goal.returns-in_ok-keep_vote-in-Voted
returns-in_ok-keep_vote-in-Voted c = λ older whole g ended.
    let here = subst (λ (r : Record). Goes c.args.self.now c.args.kept.now.items (r ∷ older) whole) c.in-Voted.is g in
    (c.in_ok-keep_vote-in-Voted.ensures older whole here, ended ∙ ap (λ (r : Record). ended_lists (r ∷ older)) c.in-Voted.is)

pub returns-in_ok-keep_execution-in-Executed : goal.returns-in_ok-keep_execution-in-Executed
returns-in_ok-keep_execution-in-Executed c = λ older whole g ended.
    let here = subst (λ (r : Record). Goes c.args.self.now c.args.kept.now.items (r ∷ older) whole) c.in-Executed.is g in
    (c.in_ok-keep_execution-in-Executed.ensures older whole here, ended ∙ ap (λ (r : Record). ended_lists (r ∷ older)) c.in-Executed.is)

pub returns-in_ok-push-in-Decided : goal.returns-in_ok-push-in-Decided
returns-in_ok-push-in-Decided c = λ older whole g ended.
    let old = c.args.kept.now.items in
    let tid = c.in-Decided.tid in
    let yes = c.in-Decided.yes in
    let here = subst (λ (r : Record). Goes c.args.self.now old (r ∷ older) whole) c.in-Decided.is g in
    let newest = c.newest_ended-parts.ensures (ended_lists older) (held_of tid (held_parts older)) (ended ∙ ap (λ (r : Record). ended_lists (r ∷ older)) c.in-Decided.is) in
    let tells = c.in_ok-note_decision-in-Decided.ensures here.over here.fates older here.tells newest.0 in
    let kept : c.push.new.self.items ≡ old ++ Decided tid yes ∷ [] =
    c.in_ok-push-in-Decided.ensures.items ∙ ap (λ (r : Record). old ++ r ∷ []) (c.in_ok-try_copy-in-Decided.ensures ∙ c.in-Decided.is) in (
      subst (λ (l : List Record). Goes c.note_decision.new.self l older whole) (sym kept)
          (goes_decided c.args.self.now c.note_decision.new.self old tid yes older whole here tells),
      newest.1,
    )

pub returns-in_ok-push-in-Forced : goal.returns-in_ok-push-in-Forced
returns-in_ok-push-in-Forced c = λ older whole g ended.
    let here = subst (λ (r : Record). Goes c.args.self.now c.args.kept.now.items (r ∷ older) whole) c.in-Forced.is g in (
      subst (λ (l : List Record). Goes c.args.self.now l older whole) (sym c.in_ok-push-in-Forced.ensures.items) (goes_forced c.args.self.now c.args.kept.now.items c.in-Forced.tid older whole here),
      ended ∙ ap (λ (r : Record). ended_lists (r ∷ older)) c.in-Forced.is,
    )
