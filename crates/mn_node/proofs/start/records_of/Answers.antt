use Rattle.std.proofs.Common.{◌≡◌, ◌+◌, ℕ, List, take, Result, Err, [], refl, sym, ap, subst, arith, ◌∙◌}
use Rattle.std.proofs.lemmas.List.{take_all}
use Rattle.mn_mini.specs.declared.record.Record.{Record}
use Rattle.mn_mini.specs.RecordGrammar.{SpellsNone}
use Rattle.mn_node.specs.State.{AreRecords}
use Rattle.mn_node.specs.declared.start.StartCause.{StartCause}
use Rattle.mn_node.specs.declared.start.StartCause.TheVariants.{Damaged}
use Rattle.mn_node.proofs.Replies.{one_read}
use Rattle.mn_node.proofs.start.records_of.Goals as goal

-- the place in a cause
abbrev place_in : {T : Type 0} → Result T StartCause → ℕ
place_in (Err (Damaged at)) = at
place_in result = 0

pub returns-in-Err-BadRecord-clause-damaged : goal.returns-in-Err-BadRecord-clause-damaged
returns-in-Err-BadRecord-clause-damaged g c = λ at is. record {
  number = c.loop-number.number;
  within = omega (arith, c.loop-number-test.true, c.count-number-end.ensures);
  before = c.loop-number.records.items;
  records = c.loop-number.invariant;
  bad = subst SpellsNone c.body.ensures (c.in-Err-BadRecord.ensures.bad c.in-Err-BadRecord.field-0-is);
  at_is = sym (ap place_in is) ∙ c.gate.ensures;
}

pub loop-number-preserved : goal.loop-number-preserved
loop-number-preserved g c =
    let bodies = c.args.redo.now.bodies in
    let n = c.loop-number.number in
    subst (λ (l : List Record). AreRecords (take (n + 1) bodies) l) (sym c.in_ok-push-in-Ok.ensures.items)
    (one_read bodies n c.loop-number.records.items c.in-Ok.record c.body.result.now c.loop-number.invariant (omega (arith, c.loop-number-test.true, c.count-number-end.ensures)) c.body.ensures c.in-Ok.ensures.read)

pub loop-number-init : goal.loop-number-init
loop-number-init g c = subst (λ (l : List Record). AreRecords [] l) (sym c.new-records.ensures.items) (record { bodies_are = refl; sound = tt })

pub returns-clause-records : goal.returns-clause-records
returns-clause-records g c =
    let all : take c.loop-number.number c.args.redo.now.bodies ≡ c.args.redo.now.bodies = take_all c.loop-number.number c.args.redo.now.bodies (omega (arith, c.loop-number-test.false, c.count-number-end.ensures)) in
    subst (λ (l : List (List ℕ)). AreRecords l c.loop-number.records.items) all c.loop-number.invariant
