use Rattle.std.proofs.Common.{◌≡◌, ◌≤◌, List, true, false, ap, ◌∙◌, arith}
use Rattle.std.proofs.lemmas.Grind.{common_steps}
use Rattle.std.specs.Option.{option_map}
use Rattle.mn_base.proofs.Booleans.{clash}
use Rattle.mn_base.specs.declared.reply.Pair.{Pair}
use Rattle.mn_page.specs.Reading.{pairs_seen, pairs_fit}
use Rattle.mn_page.proofs.Fences.{pairs_of, pairs_are, pairs_do}
use Rattle.mn_page.proofs.body_scan.leaf_pairs.Goals as goal

pub returns-then-not-pairs_fit-clause-only : goal.returns-then-not-pairs_fit-clause-only
returns-then-not-pairs_fit-clause-only c = λ ps more are spelled.
    let same = c.in_ok-rest.ensures.only ps more (pairs_are c.args.low.now (option_map (λ h. h.now) c.args.high) c.args.count ps are) spelled in
    let never : pairs_fit c.args.low.now (option_map (λ h. h.now) c.args.high) (pairs_seen c.args.count c.first_pairs.new.pairs) ≡ false = grind (arith, common_steps) in
    clash (pairs_fit c.args.low.now (option_map (λ h. h.now) c.args.high) (pairs_seen c.args.count c.first_pairs.new.pairs))
    (ap (λ (l : List Pair). pairs_fit c.args.low.now (option_map (λ h. h.now) c.args.high) l) same.0 ∙ pairs_do c.args.low.now (option_map (λ h. h.now) c.args.high) c.args.count ps are) never

pub returns-clause-found : goal.returns-clause-found
returns-clause-found c =
    let fit : pairs_fit c.args.low.now (option_map (λ h. h.now) c.args.high) (pairs_seen c.args.count c.first_pairs.new.pairs) ≡ true = grind (arith, common_steps) in
    let few : c.args.count ≤ 8 = omega (arith, c.if-count-gt8.false) in
    record {
      may = pairs_of c.args.low.now (option_map (λ h. h.now) c.args.high) c.args.count (pairs_seen c.args.count c.first_pairs.new.pairs) few c.in_ok-rest.ensures.found.may fit;
      spelled = c.in_ok-rest.ensures.found.spelled;
    }

pub returns-clause-only : goal.returns-clause-only
returns-clause-only c = λ ps more are spelled.
    c.in_ok-rest.ensures.only ps more (pairs_are c.args.low.now (option_map (λ h. h.now) c.args.high) c.args.count ps are) spelled
