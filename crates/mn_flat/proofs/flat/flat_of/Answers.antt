use Rattle.std.proofs.Common.{◌≡◌, ◌<◌, ◌≤◌, ◌+◌, ◌⊎◌, inl, inr, [], ℕ, List, length, map, reverse, ap, sym, ◌∙◌, subst, arith}
use Rattle.std.proofs.lemmas.Result.{err_from_is_err_and}
use Rattle.mn_base.specs.Ids.{node_numbers}
use Rattle.mn_base.specs.declared.ids.NodeNo.{NodeNo}
use Rattle.mn_base.proofs.Naturals.{below_or}
use Rattle.mn_mini.specs.declared.record.Record.{Record}
use Rattle.mn_mini.specs.Node.{held_parts, space_of, with_held}
use Rattle.mn_runs.specs.Sound.{AreSound, is_committed}
use Rattle.mn_law.specs.Opened.{HeldAreGreater}
use Rattle.mn_runs.specs.Protocol.{start_of, base_at}
use Rattle.mn_flat.proofs.Voting.{greater_of}
use Rattle.mn_flat.specs.declared.error.VoteError.{VoteError}
use Rattle.mn_page.specs.Base.{base_of}
use Rattle.mn_flat.specs.Refusal.{RefusesRecords, IsWantOfMemory}
use Rattle.mn_flat.specs.Votes.{AreRight, lists_of, list_at, numbered}
use Rattle.mn_flat.proofs.Lists.{read_or}
use Rattle.mn_flat.proofs.Fitting.{right_fit}
use Rattle.mn_flat.proofs.Placing.{refused, unfit}
use Rattle.mn_flat.proofs.Opening.{opened_space, one_more, opened}
use Rattle.mn_flat.proofs.flat.flat_of.Goals as goal

pub loop-n-preserved : goal.loop-n-preserved
loop-n-preserved c =
    let records = c.args.records.now in
    let n = c.loop-n.n in
    let list : c.as_slice.result.now ≡ list_at records (numbered n) = c.as_slice.ensures ∙ read_or records n c.index-records-n.result [] c.loop-n-test.true c.index-records-n.is in
    let right = c.in_ok-space_with.ensures.right records c.in_ok-told.ensures list (omega arith) in
    record {
      spaces = c.in_ok-push.ensures.items
          ∙ one_more (opened_space records (λ k. base_of (length records) k.0)) c.loop-n.spaces.items n c.in_ok-space_with.field-0 c.loop-n.invariant.spaces
          (c.in_ok-space_with.ensures.space records c.in_ok-told.ensures
          ∙ ap (λ (l : List Record). with_held (is_committed (length records) (lists_of records)) (space_of (base_of (length records) n) (reverse l)) (held_parts (reverse l))) list);
      right = λ m low. by m low (below_or m.0 n) (subst (λ (l : List Record). AreRight records (numbered n) (reverse l)) list right);
    }
  where
    by : (m : NodeNo) → m.0 < c.loop-n.n + 1 → (m.0 < c.loop-n.n) ⊎ (c.loop-n.n ≤ m.0) → AreRight c.args.records.now (numbered c.loop-n.n) (lists_of c.args.records.now (numbered c.loop-n.n)) → AreRight c.args.records.now m (lists_of c.args.records.now m)
    by m low (inl less) here = c.loop-n.invariant.right m less
    by m low (inr high) here =
        let same : c.loop-n.n ≡ m.0 = omega arith in
        subst (λ (k : ℕ). AreRight c.args.records.now (numbered k) (lists_of c.args.records.now (numbered k))) same here

pub returns-in_err-space_with-clause-named : goal.returns-in_err-space_with-clause-named
returns-in_err-space_with-clause-named c =
    let records = c.args.records.now in
    let n = c.loop-n.n in
    let list : c.as_slice.result.now ≡ list_at records (numbered n) = c.as_slice.ensures ∙ read_or records n c.index-records-n.result [] c.loop-n-test.true c.index-records-n.is in
    let p = err_from_is_err_and c.from_residual-in_err-space_with.result c.from_residual-in_err-space_with.ensures.1 in
    let said = refused records (numbered n) c.in_err-space_with.field-0.0 c.loop-n.invariant.right (c.in_err-space_with.ensures.wrong records c.in_ok-told.ensures list (omega arith)) in
    rw p.1 (subst (RefusesRecords records) (sym p.2) said)

pub returns-in_err-space_with-clause-unsound : goal.returns-in_err-space_with-clause-unsound
returns-in_err-space_with-clause-unsound c =
    let records = c.args.records.now in
    let n = c.loop-n.n in
    let list : c.as_slice.result.now ≡ list_at records (numbered n) = c.as_slice.ensures ∙ read_or records n c.index-records-n.result [] c.loop-n-test.true c.index-records-n.is in
    let p = err_from_is_err_and c.from_residual-in_err-space_with.result c.from_residual-in_err-space_with.ensures.1 in
    let said = refused records (numbered n) c.in_err-space_with.field-0.0 c.loop-n.invariant.right (c.in_err-space_with.ensures.wrong records c.in_ok-told.ensures list (omega arith)) in
    rw p.1 (subst (λ (e : VoteError). (IsWantOfMemory e → ⊥) → AreSound (length records) (lists_of records) → HeldAreGreater (length records) (base_at (start_of records)) (lists_of records) → ⊥) (sym p.2) (unfit records c.in_err-space_with.field-0.0 said))

pub returns-clause-memory : goal.returns-clause-memory
returns-clause-memory c =
    let records = c.args.records.now in
    let last : c.loop-n.n ≡ length records = omega arith in
    c.from_vec.ensures ∙ c.loop-n.invariant.spaces ∙ ap (λ (k : ℕ). map (opened_space records (λ m. base_of (length records) m.0)) (node_numbers k)) last ∙ opened records

pub returns-clause-sound : goal.returns-clause-sound
returns-clause-sound c = right_fit c.args.records.now (λ n low. c.loop-n.invariant.right n (omega arith))

pub returns-clause-greater : goal.returns-clause-greater
returns-clause-greater c = greater_of c.args.records.now (λ n low. c.loop-n.invariant.right n (omega arith))
