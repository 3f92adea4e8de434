use Rattle.std.proofs.Common.{rules, ◌≡◌, ◌<◌, ◌∷◌, [], ◌++◌, ℕ, List, length, take, get_or, ◌∙◌, ap, sym, arith, length-append, vec_len, vec_capacity}
use Rattle.std.proofs.lemmas.List.{get_or_read, length-take-le}
use Rattle.mn_redo.specs.Grammar.{places, records}
use Rattle.mn_redo.proofs.Bodies.{places_more, records_more, records_so_far}
use Rattle.mn_redo.proofs.Parse.{length-places}
use Rattle.mn_redo.proofs.change.place_all.Goals as goal

pub unwrap-requires : goal.unwrap-requires
unwrap-requires c =
    let i = c.loop-body.body-index in
    let bodies = c.args.bodies.now in
    let lt : i < length bodies = search rules in
    let few : vec_len c.loop-body.gates < vec_capacity c.loop-body.gates = omega (arith, c.loop-body.gates.ok.0, ap length c.loop-body.invariant.gates, length-places 0 (take i bodies), length-take-le i bodies (omega (arith, lt)), c.loop-body.invariant.room, c.requires.room, lt) in
    search (rules, few)

pub overflow_add-at-in-loop-body : goal.overflow_add-at-in-loop-body
overflow_add-at-in-loop-body c =
    let i = c.loop-body.body-index in
    let bodies = c.args.bodies.now in
    let lt : i < length bodies = search rules in
    let body : c.as_slice.result.now ≡ get_or bodies i [] = c.as_slice.ensures ∙ get_or_read bodies i _ lt c.body-item.is [] in
    omega (arith, c.loop-body.invariant.at, records_so_far bodies i lt, ap length body, c.requires.small, length-append (records bodies) (0 ∷ []))

pub loop-body-preserved : goal.loop-body-preserved
loop-body-preserved c =
    let i = c.loop-body.body-index in
    let bodies = c.args.bodies.now in
    let lt : i < length bodies = search rules in
    let body : c.as_slice.result.now ≡ get_or bodies i [] = c.as_slice.ensures ∙ get_or_read bodies i _ lt c.body-item.is [] in
    let pushed = rw c.unwrap.ensures at c.push.ensures.items in
    record {
      gates = pushed ∙ ap (λ (l : List ℕ). l ++ c.loop-body.at ∷ []) c.loop-body.invariant.gates ∙ ap (λ (n : ℕ). places 0 (take i bodies) ++ n ∷ []) c.loop-body.invariant.at ∙ sym (places_more bodies i lt);
      at = omega (arith, c.loop-body.invariant.at, records_more bodies i lt, ap length body);
      room = omega (arith, c.loop-body.invariant.room, c.push.ensures.capacity);
    }
