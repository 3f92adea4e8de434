use Rattle.std.proofs.Common.{◌++◌, ◌∙◌, arith}
use Rattle.std.proofs.lemmas.Grind.{common_steps}
use Rattle.std.specs.Option.{option_map}
use Rattle.mn_page.specs.Reading.{head_text, fences_text, body_text, head_of, body_seen}
use Rattle.mn_page.proofs.PageText.{text_parts, page_head, page_fences, page_is, page_spelled, page_back, page_body_at}
use Rattle.mn_page.proofs.page_scan.first_page.Goals as goal

pub returns-in_err-head-clause-only : goal.returns-in_err-head-clause-only
returns-in_err-head-clause-only c = λ p more is spelled.
    let told = c.in_err-head.ensures.only (head_of p) (fences_text (p.low, p.high) ++ (body_text p.body ++ more)) (page_head p is)
    (spelled ∙ text_parts (head_text (head_of p)) (fences_text (p.low, p.high)) (body_text p.body) more) in
    grind (arith, common_steps, told)

pub returns-in_err-low-clause-only : goal.returns-in_err-low-clause-only
returns-in_err-low-clause-only c = λ p more is spelled.
    let head = c.in_ok-head.ensures.only (head_of p) (fences_text (p.low, p.high) ++ (body_text p.body ++ more)) (page_head p is)
    (spelled ∙ text_parts (head_text (head_of p)) (fences_text (p.low, p.high)) (body_text p.body) more) in
    let told = c.in_err-low.ensures.only (p.low, p.high) (body_text p.body ++ more) (page_fences p is) head.1 in
    grind (arith, common_steps, told)

pub returns-in_err-rest-clause-only : goal.returns-in_err-rest-clause-only
returns-in_err-rest-clause-only c = λ p more is spelled.
    let head = c.in_ok-head.ensures.only (head_of p) (fences_text (p.low, p.high) ++ (body_text p.body ++ more)) (page_head p is)
    (spelled ∙ text_parts (head_text (head_of p)) (fences_text (p.low, p.high)) (body_text p.body) more) in
    let fences = c.in_ok-low.ensures.only (p.low, p.high) (body_text p.body ++ more) (page_fences p is) head.1 in
    let at = page_body_at p c.in_ok-head.head c.in_ok-low.low.now (option_map (λ h. h.now) c.in_ok-low.high) is head.0 fences.0 fences.1 in
    let told = c.in_err-rest.ensures.only p.body more at fences.2 in
    grind (arith, common_steps, told)

pub returns-clause-found : goal.returns-clause-found
returns-clause-found c =
    record {
      may = page_is c.in_ok-head.head c.in_ok-low.low.now (option_map (λ h. h.now) c.in_ok-low.high) (body_seen c.first_body.new.body) c.in_ok-head.ensures.found.may c.in_ok-low.ensures.found.may c.in_ok-rest.ensures.found.may;
      spelled = page_spelled c.in_ok-head.head c.in_ok-low.low.now (option_map (λ h. h.now) c.in_ok-low.high) (body_seen c.first_body.new.body) c.args.bytes.now c.in_ok-head.behind.now c.in_ok-low.behind.now c.in_ok-rest.rest.now
          (c.in_ok-rest.ensures.found.may).0 c.in_ok-head.ensures.found.spelled c.in_ok-low.ensures.found.spelled c.in_ok-rest.ensures.found.spelled;
    }

pub returns-clause-only : goal.returns-clause-only
returns-clause-only c = λ p more is spelled.
    let head = c.in_ok-head.ensures.only (head_of p) (fences_text (p.low, p.high) ++ (body_text p.body ++ more)) (page_head p is)
    (spelled ∙ text_parts (head_text (head_of p)) (fences_text (p.low, p.high)) (body_text p.body) more) in
    let fences = c.in_ok-low.ensures.only (p.low, p.high) (body_text p.body ++ more) (page_fences p is) head.1 in
    let at = page_body_at p c.in_ok-head.head c.in_ok-low.low.now (option_map (λ h. h.now) c.in_ok-low.high) is head.0 fences.0 fences.1 in
    let body = c.in_ok-rest.ensures.only p.body more at fences.2 in
    (page_back c.in_ok-head.head c.in_ok-low.low.now (option_map (λ h. h.now) c.in_ok-low.high) (body_seen c.first_body.new.body) p head.0 fences.0 fences.1 body.0, body.1)
