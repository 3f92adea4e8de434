use Rattle.std.proofs.Common.{◌++◌, ◌∷◌, [], List, length, reverse, refl, ap, sym, subst, ◌∙◌}
use Rattle.mn_mini.specs.declared.record.Record.{Record}
use Rattle.mn_mini.specs.declared.record.Record.TheVariants.{Voted, Executed, Decided, Forced}
use Rattle.mn_mini.specs.Node.{space_of}
use Rattle.mn_node.specs.declared.held.Vote.{Vote}
use Rattle.mn_node.specs.Held.{AreHeldVotes}
use Rattle.mn_node.proofs.Replayed.{space_decided}
use Rattle.mn_node.proofs.Votes.{held_voted, held_same, held_decided}
use Rattle.mn_node.proofs.replay.apply.Goals as goal

pub returns-in_ok-push-in-Voted-clause-held : goal.returns-in_ok-push-in-Voted-clause-held
returns-in_ok-push-in-Voted-clause-held c =
    let before = c.args.before.now in
    let votes = c.args.held.now.items in
    let one = held_voted before votes c.in-Voted.tid c.in-Voted.participants c.in-Voted.part (length before) refl c.requires.held in
    let all = subst (λ (l : List Vote). AreHeldVotes (before ++ Voted c.in-Voted.tid c.in-Voted.participants c.in-Voted.part ∷ []) l) (sym c.in_ok-push-in-Voted.ensures.items) one in
    subst (λ (r : Record). AreHeldVotes (before ++ r ∷ []) c.push.new.self.items) (sym c.in-Voted.is) all

pub returns-in-Executed-clause-held : goal.returns-in-Executed-clause-held
returns-in-Executed-clause-held c =
    subst (λ (r : Record). AreHeldVotes (c.args.before.now ++ r ∷ []) c.args.held.now.items) (sym c.in-Executed.is)
    (held_same c.args.before.now c.args.held.now.items (Executed c.in-Executed.tid c.in-Executed.part) refl c.requires.held)

pub returns-in-Forced-clause-held : goal.returns-in-Forced-clause-held
returns-in-Forced-clause-held c =
    subst (λ (r : Record). AreHeldVotes (c.args.before.now ++ r ∷ []) c.args.held.now.items) (sym c.in-Forced.is)
    (held_same c.args.before.now c.args.held.now.items (Forced c.in-Forced.tid) refl c.requires.held)

pub returns-in-Decided-clause-held : goal.returns-in-Decided-clause-held
returns-in-Decided-clause-held c =
    let before = c.args.before.now in
    let one = held_decided before c.args.held.now.items c.in-Decided.tid c.in-Decided.yes c.requires.held in
    let all = subst (λ (l : List Vote). AreHeldVotes (before ++ Decided c.in-Decided.tid c.in-Decided.yes ∷ []) l) (sym c.forget.ensures) one in
    subst (λ (r : Record). AreHeldVotes (before ++ r ∷ []) c.forget.new.held.items) (sym c.in-Decided.is) all

pub returns-in-Decided-clause-space : goal.returns-in-Decided-clause-space
returns-in-Decided-clause-space c = λ base e.
    let before = reverse c.args.before.now in
    space_decided base before c.args.space.now c.write_decided.new.space c.in-Decided.tid c.in-Decided.yes c.write_decided.ensures.space e
    ∙ sym (ap (λ (r : Record). space_of base (r ∷ before)) c.in-Decided.is)
