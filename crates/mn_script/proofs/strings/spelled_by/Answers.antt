use Rattle.std.proofs.Common.{◌++◌, sym, ap, ◌∙◌, List, ℕ, drop}
use Rattle.std.specs.Prelude.{option_map}
use Rattle.std.proofs.lemmas.List.{take_rest}
use Rattle.mn_script.specs.Words.{unspelled}
use Rattle.mn_script.proofs.StringLemmas.{in_front}
use Rattle.mn_script.proofs.strings.spelled_by.Goals as goal

pub loop-rest-preserved : goal.loop-rest-preserved
loop-rest-preserved c =
    let rest = c.loop-rest.rest.now in
    let bytes = c.loop-rest.bytes.items in
    let byte = c.in-Some.byte in
    let behind = unspelled (drop c.in-Some.taken rest) in
    ap (λ (r : List ℕ). option_map (λ bs. c.push.new.self.items ++ bs) (unspelled r)) (take_rest rest c.in-Some.taken)
    ∙ ap (λ (l : List ℕ). option_map (λ bs. l ++ bs) behind) c.in_ok-push.ensures.items
    ∙ in_front bytes byte behind
    ∙ ap (option_map (λ bs. bytes ++ bs)) (sym c.in-Some.ensures.2)
    ∙ c.loop-rest.invariant
