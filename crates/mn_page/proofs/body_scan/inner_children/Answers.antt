use Rattle.std.proofs.Common.{◌≡◌, ◌≤◌, ℕ, List, ◌++◌, map, true, false, ap, ◌∙◌, arith}
use Rattle.std.proofs.lemmas.Grind.{common_steps}
use Rattle.std.specs.List.{flat_map}
use Rattle.std.specs.Option.{option_map}
use Rattle.mn_base.proofs.Booleans.{clash}
use Rattle.mn_page.specs.declared.page.Child.{Child}
use Rattle.mn_page.specs.Grammar.{addr_bytes, child_bytes}
use Rattle.mn_page.specs.Reading.{children_seen, ascends_to}
use Rattle.mn_page.proofs.Fences.{children_of, children_are, children_do}
use Rattle.mn_page.proofs.body_scan.inner_children.Goals as goal

pub returns-then-not-children_fit-clause-only : goal.returns-then-not-children_fit-clause-only
returns-then-not-children_fit-clause-only c = λ children more are spelled.
    let first = c.in_ok-first.ensures.only children.0 (flat_map child_bytes children.1 ++ more) are.3 spelled in
    let same = c.in_ok-behind.ensures.only children.1 more (children_are c.args.low.now (option_map (λ h. h.now) c.args.high) c.args.count children are) first.1 in
    let never : ascends_to c.args.low.now (map (λ d. d.separator) (children_seen c.args.count c.first_children.new.children)) (option_map (λ h. h.now) c.args.high) ≡ false = grind (arith, common_steps) in
    clash (ascends_to c.args.low.now (map (λ d. d.separator) (children_seen c.args.count c.first_children.new.children)) (option_map (λ h. h.now) c.args.high))
    (ap (λ (l : List Child). ascends_to c.args.low.now (map (λ d. d.separator) l) (option_map (λ h. h.now) c.args.high)) same.0 ∙ children_do c.args.low.now (option_map (λ h. h.now) c.args.high) c.args.count children are) never

pub returns-clause-found : goal.returns-clause-found
returns-clause-found c =
    let fit : ascends_to c.args.low.now (map (λ d. d.separator) (children_seen c.args.count c.first_children.new.children)) (option_map (λ h. h.now) c.args.high) ≡ true = grind (arith, common_steps) in
    let some : 1 ≤ c.args.count = omega (arith, c.if-count-lt1.false) in
    let few : c.args.count ≤ 7 = omega (arith, c.if-count-gt7.false) in
    record {
      may = children_of c.args.low.now (option_map (λ h. h.now) c.args.high) c.args.count (c.in_ok-first.first, children_seen c.args.count c.first_children.new.children) some few c.in_ok-first.ensures.found.may c.in_ok-behind.ensures.found.may fit;
      spelled = c.in_ok-first.ensures.found.spelled ∙ ap (λ (l : List ℕ). addr_bytes c.in_ok-first.first ++ l) c.in_ok-behind.ensures.found.spelled;
    }

pub returns-clause-only : goal.returns-clause-only
returns-clause-only c = λ children more are spelled.
    let first = c.in_ok-first.ensures.only children.0 (flat_map child_bytes children.1 ++ more) are.3 spelled in
    let rest = c.in_ok-behind.ensures.only children.1 more (children_are c.args.low.now (option_map (λ h. h.now) c.args.high) c.args.count children are) first.1 in
    (first.0, rest.0, rest.1)
