use Rattle.std.proofs.Common.{◌≡◌, ◌+◌, ◌∷◌, List, take, reverse, Some, slice_get, ap, sym, ◌∙◌, subst, arith, Contains}
use Rattle.std.proofs.lemmas.List.{take_all}
use Rattle.std.proofs.lemmas.Result.{err_from_is_err_and}
use Rattle.mn_mini.specs.declared.record.Record.{Record}
use Rattle.mn_flat.specs.Known.{parts_seen}
use Rattle.mn_flat.specs.Told.{IsPast, RefusesIn, SaysWrong}
use Rattle.mn_flat.specs.Votes.{AreRight, all_of, list_at}
use Rattle.mn_flat.proofs.Lists.{next_record, among_all, at_place}
use Rattle.mn_flat.proofs.Placing.{is_wrong}
use Rattle.mn_flat.proofs.flat.test_all.Goals as goal

pub loop-number-init : goal.loop-number-init
loop-number-init c = record {
  past = record { known = c.new.ensures; held = ap parts_seen c.new-2.ensures.items };
  right = λ records told is end. tt;
}

pub loop-number-preserved : goal.loop-number-preserved
loop-number-preserved c =
    let list = c.args.list.now in
    let i = c.loop-number.number in
    let r = c.index-list-number.result in
    let older = reverse (take i list) in
    let next : reverse (take (i + 1) list) ≡ r ∷ older = next_record list i r c.loop-number-test.true c.index-list-number.is in
    let past = c.loop-number.invariant.past in
    record {
      past = subst (λ (l : List Record). IsPast c.note.new.past l) (sym next) (c.in_ok-note.ensures older past);
      right = λ records told is end.
          let there : Contains (all_of records) r = among_all records c.args.node.0 i r (ap (λ (l : List Record). slice_get l i) (sym is) ∙ at_place list i r c.loop-number-test.true c.index-list-number.is) in
          subst (λ (l : List Record). AreRight records c.args.node l) (sym next) (c.in_ok-test.ensures.right records older told past end there, c.loop-number.invariant.right records told is end);
    }

pub returns-in_err-test-clause-wrong : goal.returns-in_err-test-clause-wrong
returns-in_err-test-clause-wrong c = λ records told is end.
    let list = c.args.list.now in
    let i = c.loop-number.number in
    let r = c.index-list-number.result in
    let at : slice_get (list_at records c.args.node) i ≡ Some r = ap (λ (l : List Record). slice_get l i) (sym is) ∙ at_place list i r c.loop-number-test.true c.index-list-number.is in
    let there : Contains (all_of records) r = among_all records c.args.node.0 i r at in
    let p = err_from_is_err_and c.from_residual.result c.from_residual.ensures.1 in
    let e = c.in_err-test.field-0.0 in
    let wrong = c.in_err-test.ensures.wrong records (reverse (take i list)) told c.loop-number.invariant.past end there in
    rw p.1
    (subst (RefusesIn records c.args.node) (sym p.2)
    (is_wrong records c.args.node i r e at (subst (λ (l : List Record). AreRight records c.args.node (reverse (take i l))) is (c.loop-number.invariant.right records told is end))
    (subst (λ (l : List Record). SaysWrong records c.args.node i (reverse (take i l)) r e) is wrong)))

pub returns-clause-right : goal.returns-clause-right
returns-clause-right c = λ records told is end.
    let every : take c.loop-number.number c.args.list.now ≡ c.args.list.now = take_all c.loop-number.number c.args.list.now (omega (arith, c.loop-number-test.false)) in
    subst (λ (l : List Record). AreRight records c.args.node (reverse l)) every (c.loop-number.invariant.right records told is end)
