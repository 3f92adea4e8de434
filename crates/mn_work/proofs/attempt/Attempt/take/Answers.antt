use Rattle.std.proofs.Common.{◌∙◌, refl}
use Rattle.mn_work.specs.Attempts.{with_overlay}
use Rattle.mn_work.proofs.Attempts.{bad_on, changed_or_same, found_on, has_unmet, on_its_way, stuck_at, stuck_may, unmet_on}
use Rattle.mn_work.proofs.Firsts.{on_way}
use Rattle.mn_work.proofs.attempt.Attempt.take.Goals as goal

pub fails-requires-clause-may : goal.fails-requires-clause-may
fails-requires-clause-may c =
    let s = c.requires.stepped in
    let before = with_overlay c.args.self.now s.before in
    let bad = s.answer_is ∙ c.in-BadPath.is in
    stuck_may c.args.known.now c.args.later c.args.steps.now c.args.self.now
    (on_its_way c.args.known.now c.args.steps.now before c.args.self.now
    (λ entries way. bad_on c.args.known.now.nodes entries c.args.steps.now before c.args.self.now way (refl, refl) s.step s.next s.state refl refl c.moves_take_steps.ensures c.in-BadPath.addr bad refl refl) s.way)
    (stuck_at c.args.known.now.nodes c.args.steps.now before c.args.self.now s.step c.in-BadPath.addr s.next bad s.state)

pub end_unmet-requires-clause-unmet : goal.end_unmet-requires-clause-unmet
end_unmet-requires-clause-unmet c =
    let s = c.requires.stepped in
    let before = with_overlay c.args.self.now s.before in
    has_unmet c.args.known.now c.args.steps.now before c.args.self.now c.in-Unmet.found
    (λ entries way. unmet_on c.args.known.now.nodes entries c.args.steps.now before c.args.self.now way (refl, refl) s.step s.next s.state refl refl c.moves_take_steps.ensures c.in-Unmet.found (s.answer_is ∙ c.in-Unmet.is) refl) s.way

pub returns-in_ok-push-in-Found-clause-ran : goal.returns-in_ok-push-in-Found-clause-ran
returns-in_ok-push-in-Found-clause-ran c =
    let s = c.requires.stepped in
    let before = with_overlay c.args.self.now s.before in
    on_its_way c.args.known.now c.args.steps.now before _
    (λ entries way. found_on c.args.known.now.nodes entries c.args.steps.now before _ way (refl, refl) s.step s.next s.state refl refl c.moves_take_steps.ensures c.in-Found.value (s.answer_is ∙ c.in-Found.is) refl c.in_ok-push-in-Found.ensures.items) s.way

pub returns-in-Changed-clause-ran : goal.returns-in-Changed-clause-ran
returns-in-Changed-clause-ran c =
    let s = c.requires.stepped in
    let before = with_overlay c.args.self.now s.before in
    on_its_way c.args.known.now c.args.steps.now before _
    (λ entries way.
    changed_or_same c.args.known.now.nodes entries c.args.steps.now before _ way (refl, refl) s.step s.next s.state refl refl c.moves_take_steps.ensures c.args.answer s.answer_is c.in-Changed.is refl refl)
    s.way

pub returns-in-BadPath-clause-way : goal.returns-in-BadPath-clause-way
returns-in-BadPath-clause-way c =
    let s = c.requires.stepped in
    let before = with_overlay c.args.self.now s.before in
    let bad = s.answer_is ∙ c.in-BadPath.is in
    on_way c.args.known.now c.args.steps.now c.args.self.now c.fails.result
    (on_its_way c.args.known.now c.args.steps.now before c.args.self.now
    (λ entries way. bad_on c.args.known.now.nodes entries c.args.steps.now before c.args.self.now way (refl, refl) s.step s.next s.state refl refl c.moves_take_steps.ensures c.in-BadPath.addr bad refl refl) s.way)
