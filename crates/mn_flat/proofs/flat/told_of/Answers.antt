use Rattle.std.proofs.Common.{◌≡◌, ◌++◌, ◌+◌, ◌⊎◌, inl, inr, ℕ, List, [], length, take, reverse, get_or, Some, slice_get, ap, sym, ◌∙◌, subst, arith}
use Rattle.std.specs.List.{flat_map}
use Rattle.std.proofs.lemmas.List.{take_all, get_or_past, length_push}
use Rattle.mn_mini.specs.declared.record.Record.{Record}
use Rattle.mn_flat.specs.declared.known.Table.{Table}
use Rattle.mn_flat.specs.Known.{TableTells}
use Rattle.mn_flat.proofs.Lists.{joined_more, pushed_at, read_or}
use Rattle.mn_flat.proofs.flat.told_of.Goals as goal

pub loop-list-preserved : goal.loop-list-preserved
loop-list-preserved c =
    let lists = c.args.records.now in
    let i = c.loop-list.list-index in
    let before = reverse (flat_map (λ (list : List Record). list) (take i lists)) in
    let pushed = c.in_ok-push.ensures.items in
    record {
      all = subst (λ (l : List Record). TableTells c.note_all.new.table l) (ap (λ (l : List Record). reverse l ++ before) c.as_slice.ensures ∙ sym (joined_more lists i c.list-item.result c.loop-list-test.true c.list-item.is)) (c.in_ok-note_all.ensures before c.loop-list.invariant.all);
      count = ap length pushed ∙ length_push c.loop-list.nodes.items c.in_ok-table_of.field-0 ∙ ap (λ (k : ℕ). k + 1) c.loop-list.invariant.count;
      each = λ n t at. by n t (pushed_at c.loop-list.nodes.items c.in_ok-table_of.field-0 t n (ap (λ (l : List Table). slice_get l n) (sym pushed) ∙ at));
    }
  where
    by : (n : ℕ) (t : Table) → (slice_get c.loop-list.nodes.items n ≡ Some t) ⊎ ((n ≡ length c.loop-list.nodes.items) × (t ≡ c.in_ok-table_of.field-0)) → TableTells t (reverse (get_or c.args.records.now n []))
    by n t (inl here) = c.loop-list.invariant.each n t here
    by n t (inr last) =
        let place : n ≡ c.loop-list.list-index = last.0 ∙ c.loop-list.invariant.count in
        let list : c.as_slice-in-loop-list.result.now ≡ get_or c.args.records.now n [] = c.as_slice-in-loop-list.ensures ∙ read_or c.args.records.now c.loop-list.list-index c.list-item.result [] c.loop-list-test.true c.list-item.is ∙ ap (λ (k : ℕ). get_or c.args.records.now k []) (sym place) in
        subst (λ (u : Table). TableTells u (reverse (get_or c.args.records.now n []))) (sym last.1) (subst (λ (l : List Record). TableTells c.in_ok-table_of.field-0 (reverse l)) list c.in_ok-table_of.ensures)

pub returns : goal.returns
returns c =
    let lists = c.args.records.now in
    let every : take c.loop-list.list-index lists ≡ lists = take_all c.loop-list.list-index lists (omega (arith, c.loop-list-test.false)) in
    let same : c.loop-list.list-index ≡ length lists = omega arith in
    record {
      all = subst (λ (l : List (List Record)). TableTells c.loop-list.all (reverse (flat_map (λ (list : List Record). list) l))) every c.loop-list.invariant.all;
      nodes = record {
        each = λ n t at. c.loop-list.invariant.each n.0 t at;
        beyond = λ n high. ap (λ (r : List Record). reverse r) (get_or_past lists n.0 [] (let count = c.loop-list.invariant.count in omega arith));
      };
      count = c.loop-list.invariant.count ∙ same;
    }
