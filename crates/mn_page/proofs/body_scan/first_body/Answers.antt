use Rattle.std.proofs.Common.{◌≡◌, ◌≤◌, ◌-◌, ◌++◌, subst, sym, arith}
use Rattle.std.specs.Prelude.{IsSomeAnd}
use Rattle.std.specs.Option.{option_map}
use Rattle.mn_page.specs.declared.page.Body.{Body}
use Rattle.mn_page.specs.Grammar.{count_in, body_bytes}
use Rattle.mn_page.specs.Reading.{body_seen}
use Rattle.mn_page.proofs.PageText.{inner_parts}
use Rattle.mn_page.proofs.body_scan.first_body.Goals as goal

pub returns-clause-only : goal.returns-clause-only
returns-clause-only c = λ body more is spelled.
    let front = c.in_ok-count.ensures.only (count_in body) (body_bytes body ++ more) spelled in
    let count = front.0 in
    let up : 1 ≤ c.args.height = omega (arith, c.if-height-eq0.false) in
    let some = c.if-count-eq0.false in
    let parts = inner_parts c.args.height (c.in_ok-count.count - 1) c.args.low.now (option_map (λ h. h.now) c.args.high) c.in_ok-count.behind.now more body up is (omega (arith, count, some)) front.1 in
    subst (λ (b : Body). IsSomeAnd c.inner_body.result (λ rest. (body_seen c.inner_body.new.body ≡ b) × (rest.now ≡ more))) (sym parts.1) (c.inner_body.ensures.only parts.0 more parts.2 parts.3)
