use Rattle.std.proofs.Common.{◌≡◌, ◌+◌, ◌-◌, ℕ, List, take, drop, ap, ◌∙◌, arith}
use Rattle.std.proofs.lemmas.List.{drop-take, take-take}
use Rattle.mn_forest.specs.Rules.{space_at}
use Rattle.mn_forest.proofs.place.front_range.Goals as goal

pub returns-clause-bytes : goal.returns-clause-bytes
returns-clause-bytes c =
    let space = space_at c.args.spaces.now c.args.node in
    let start = c.args.start in
    let size = c.args.size in
    let count : start + size - start ≡ size = omega arith in
    let sum : 20480 ≡ start + (20480 - start) = omega (arith, c.requires.before) in
    ap (λ (n : ℕ). take n (drop start c.front_at.result.now)) count
    ∙ ap (λ (l : List ℕ). take size (drop start l)) c.front_at.ensures.bytes
    ∙ ap (λ (n : ℕ). take size (drop start (take n space))) sum
    ∙ ap (λ (l : List ℕ). take size l) (drop-take start (20480 - start) space)
    ∙ take-take size (20480 - start) (drop start space) (omega (arith, c.requires.before))
