use Rattle.std.proofs.Common.{rules, ◌≡◌, ◌<◌, ◌-◌, ◌∷◌, [], ◌++◌, ℕ, List, length, take, get_or, ◌∙◌, ap, sym, arith, length-append}
use Rattle.std.proofs.lemmas.List.{get_or_read, take_more}
use Rattle.mn_redo.specs.Grammar.{records, whole_log}
use Rattle.mn_redo.proofs.Append.{opened_in_memory}
use Rattle.mn_redo.proofs.Bodies.{size_at, records_so_far}
use Rattle.mn_redo.proofs.change.stage_all.Goals as goal

pub stage-requires-clause-size : goal.stage-requires-clause-size
stage-requires-clause-size c =
    let lt : c.loop-body.body-index < length c.args.bodies.now = search rules in
    let body : c.as_slice.result.now ≡ get_or c.args.bodies.now c.loop-body.body-index [] = c.as_slice.ensures ∙ get_or_read c.args.bodies.now c.loop-body.body-index _ lt c.body-item.is [] in
    omega (arith, ap length body, size_at c.args.bodies.now c.loop-body.body-index c.requires.sizes lt)

pub stage-requires-clause-room : goal.stage-requires-clause-room
stage-requires-clause-room c =
    let i = c.loop-body.body-index in
    let bodies = c.args.bodies.now in
    let lt : i < length bodies = search rules in
    let body : c.as_slice.result.now ≡ get_or bodies i [] = c.as_slice.ensures ∙ get_or_read bodies i _ lt c.body-item.is [] in
    omega (arith, ap length body, records_so_far bodies i lt, c.loop-body.bytes.ok.0, ap length c.loop-body.invariant.bytes, c.loop-body.invariant.room, c.requires.room, length-append (records (take i bodies)) (0 ∷ []), length-append (records bodies) (0 ∷ []))

pub loop-body-preserved : goal.loop-body-preserved
loop-body-preserved c =
    let i = c.loop-body.body-index in
    let bodies = c.args.bodies.now in
    let lt : i < length bodies = search rules in
    let body : c.as_slice.result.now ≡ get_or bodies i [] = c.as_slice.ensures ∙ get_or_read bodies i _ lt c.body-item.is [] in
    let was = c.loop-body.invariant.bytes in
    let gate : c.len-gate.result - 1 ≡ length (records (take i bodies)) = omega (arith, c.len-gate.ensures, c.loop-body.bytes.ok.0, ap length was, length-append (records (take i bodies)) (0 ∷ [])) in
    record {
      bytes =
          opened_in_memory [] (take i bodies) c.as_slice.result.now (c.len-gate.result - 1) c.loop-body.bytes.items c.stage.new.bytes.items was c.stage.ensures.bytes gate
          ∙ ap (λ (b : List ℕ). whole_log (take i bodies ++ b ∷ [])) body ∙ ap whole_log (sym (take_more bodies i [] lt));
      room = omega (arith, c.loop-body.invariant.room, c.stage.ensures.room);
    }
