use Rattle.std.proofs.Common.{rules, ◌≡◌, ◌<◌, ◌≤◌, ◌⊎◌, inl, inr, length, take, refl, ◌∙◌, sym, arith}
use Rattle.mn_redo.specs.Grammar.{header, beginning, current_number, current_place, number_of, start_in}
use Rattle.mn_redo.proofs.Leads.{chosen, lead_of, number_of_front, same_pick}
use Rattle.mn_redo.proofs.area.find_start.Goals as goal
use Rattle.mn_redo.proofs.area.find_start.Goals.{then-start-lt80-via-then-start-lt80, then-start-lt80-via-else-start-lt80+then-start-content}

pub returns-clause-lead : goal.returns-clause-lead
returns-clause-lead c =
    let content = c.args.content.now in
    let head : take 16 content ≡ header c.args.node c.args.nodes = search rules in
    let n = c.in-Some.first in
    let m = c.in-Some-told.second in
    let start = c.choose-start.result in
    let long : 80 ≤ start = search rules in
    let within : start < length content = search rules in
    let begins : start ≡ beginning content =
    c.choose-start.ensures ∙ chosen n.number m.number n.start m.start (start_in 0 content) (start_in 1 content) 80 c.in-Some.ensures.start c.in-Some-told.ensures.start
    ∙ same_pick n.number m.number (start_in 0 content) (start_in 1 content) (number_of 0 content) (number_of 1 content) (start_in 0 content) (start_in 1 content) 80 c.in-Some.ensures.number c.in-Some-told.ensures.number refl refl in
    lead_of c.args.node c.args.nodes content start within long head c.in-Some.ensures.right c.in-Some-told.ensures.right (sym begins)

pub returns-clause-number : goal.returns-clause-number
returns-clause-number c =
    let content = c.args.content.now in
    let start = c.choose-start.result in
    let long : 80 ≤ start = search rules in
    let within : start < length content = search rules in
    let is : c.max.result ≡ current_number content = omega (arith, c.max.ensures, c.in-Some.ensures.number, c.in-Some-told.ensures.number) in
    is ∙ sym (number_of_front c.args.node c.args.nodes content start within long)

pub returns-then-start-lt80-clause-wrong : goal.returns-then-start-lt80-clause-wrong
returns-then-start-lt80-clause-wrong c =
    let content = c.args.content.now in
    let head : take 16 content ≡ header c.args.node c.args.nodes = search rules in
    let n = c.in-Some.first in
    let m = c.in-Some-told.second in
    let start = c.choose-start.result in
    let begins : start ≡ beginning content =
    c.choose-start.ensures ∙ chosen n.number m.number n.start m.start (start_in 0 content) (start_in 1 content) 80 c.in-Some.ensures.start c.in-Some-told.ensures.start
    ∙ same_pick n.number m.number (start_in 0 content) (start_in 1 content) (number_of 0 content) (number_of 1 content) (start_in 0 content) (start_in 1 content) 80 c.in-Some.ensures.number c.in-Some-told.ensures.number refl refl in
    let place : c.choose.result ≡ current_place content = c.choose.ensures ∙ same_pick n.number m.number 16 48 (number_of 0 content) (number_of 1 content) 16 48 48 c.in-Some.ensures.number c.in-Some-told.ensures.number refl refl in
    let bad : (beginning content < 80) ⊎ (length content ≤ beginning content) =
    elim c.then-start-lt80.branch [ then-start-lt80-via-then-start-lt80 w ↦ inl (omega (arith, w.if-start-lt80.true, begins)) | then-start-lt80-via-else-start-lt80+then-start-content w ↦ inr (omega (arith, w.if-start-content.true, begins)) ] in
    inr (head, inr (c.in-Some.ensures.right, inr (c.in-Some-told.ensures.right, (bad, place))))
