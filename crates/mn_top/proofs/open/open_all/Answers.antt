use Rattle.std.proofs.Common.{rules, ℕ, ◌≡◌, ◌<◌, ◌+◌, ◌-◌, Some, List, slice_get, ◌++◌, ◌∷◌, [], ◌∙◌, length, length-append, map, drop, reverse, sym, ap, subst, arith}
use Rattle.std.proofs.lemmas.List.{length-drop, length-map, length-reverse, reverse-append, reverse-reverse}
use Rattle.mn_top.specs.Logs.{WasRead, WasntRead}
use Rattle.mn_top.proofs.Gets.{next_reversed, within}
use Rattle.mn_top.proofs.ReadLogs.{read_more, wasnt_opened}
use Rattle.mn_top.proofs.open.open_all.Goals as goal

pub loop-disk-preserved : goal.loop-disk-preserved
loop-disk-preserved g c =
    let kept = c.loop-disk.invariant in
    let next = next_reversed c.args.disks.items c.pop.new.self.items c.loop-disk.rest.items (length c.loop-disk.redos.items) c.in-Some.disk kept.1 c.in-Some.ensures.items in
    let number : c.len-in-Some.result ≡ length c.loop-disk.redos.items = omega arith in
    let longer : length c.push_reserved.new.self.items ≡ length c.loop-disk.redos.items + 1 =
    ap (λ l. length l) c.push_reserved.ensures.items ∙ length-append c.loop-disk.redos.items (c.in-Ok-open_one.opened.redo ∷ []) in (
      read_more g.D.Disk.state g.D.Disk.faults c.args.disks.items c.loop-disk.redos.items c.push_reserved.new.self.items c.loop-disk.records.items c.push_reserved-in-Ok-open_one.new.self.items c.in-Some.disk
          c.in-Ok-open_one.opened.redo c.in-Ok-open_one.opened.records c.push_reserved.ensures.items c.push_reserved-in-Ok-open_one.ensures.items kept.0 next.0
          (subst (λ (n : ℕ). WasRead g.D.Disk.state g.D.Disk.faults n (length c.loop-disk.redos.items) c.in-Some.disk c.in-Ok-open_one.opened.redo c.in-Ok-open_one.opened.records) kept.2
          (subst (λ (n : ℕ). WasRead g.D.Disk.state g.D.Disk.faults c.len-nodes.result n c.in-Some.disk c.in-Ok-open_one.opened.redo c.in-Ok-open_one.opened.records) number c.in-Ok-open_one.ensures.read)),
      next.1 ∙ ap (λ (n : ℕ). reverse (drop n c.args.disks.items)) (sym longer),
      kept.2,
      omega arith,
      omega arith,
      omega arith,
    )

pub returns-in-Err-clause-failed : goal.returns-in-Err-clause-failed
returns-in-Err-clause-failed g c =
    let kept = c.loop-disk.invariant in
    let redos = c.loop-disk.redos.items in
    let given = c.args.disks.items in
    let next = next_reversed given c.pop.new.self.items c.loop-disk.rest.items (length redos) c.in-Some.disk kept.1 c.in-Some.ensures.items in
    let number : c.len-in-Some.result ≡ length redos = omega arith in
    let turned = ap reverse c.push_reserved-in-Err.ensures.items ∙ reverse-append c.pop.new.self.items (c.in-Err.field-0.disk ∷ []) ∙ ap (λ l. c.in-Err.field-0.disk ∷ l) (ap reverse next.1 ∙ reverse-reverse (drop (length redos + 1) given)) in
    wasnt_opened g.D.Disk.state g.D.Disk.faults g.D.Disk.is_disk given redos c.loop-disk.records.items kept.0 c.in-Some.disk c.in-Err.field-0.disk c.close_all.result.items c.in-Err.field-0.due next.0
    (c.close_all.ensures ∙ ap (λ l. map (λ r. r.disk) redos ++ l) turned)
    (subst (λ (n : ℕ). WasntRead g.D.Disk.state g.D.Disk.faults n (length redos) c.in-Some.disk c.in-Err.field-0.disk c.in-Err.field-0.due) kept.2
    (subst (λ (n : ℕ). WasntRead g.D.Disk.state g.D.Disk.faults c.len-nodes.result n c.in-Some.disk c.in-Err.field-0.disk c.in-Err.field-0.due) number c.in-Err.ensures.bad))

none_at : {X : Type 0} (k : ℕ) (x : X) → slice_get [] k ≡ Some x → ⊥
none_at k x is = absurd cc

pub loop-disk-init : goal.loop-disk-init
loop-disk-init g c =
    let given = c.args.disks.items in
    let redos : c.in-Ok.redos.items ≡ [] = search rules in
    let records : c.in-Ok.records.items ≡ [] = search rules in
    let none : length c.in-Ok.redos.items ≡ 0 = ap length redos in (
      record {
        within = omega (arith, none);
        same = ap length records ∙ sym none;
        each = λ k old redo list was at there. absurd (none_at k redo (subst (λ (l : List _). slice_get l k ≡ Some redo) redos at));
      },
      c.reverse.ensures.items ∙ ap (λ (n : ℕ). reverse (drop n given)) (sym none),
      search rules,
      search rules,
      search rules,
      search rules,
    )

pub returns-in-Err-clause-count : goal.returns-in-Err-clause-count
returns-in-Err-clause-count g c =
    let kept = c.loop-disk.invariant in
    let redos = c.loop-disk.redos.items in
    let given = c.args.disks.items in
    let next = next_reversed given c.pop.new.self.items c.loop-disk.rest.items (length redos) c.in-Some.disk kept.1 c.in-Some.ensures.items in
    let rest : length c.pop.new.self.items ≡ length given - (length redos + 1) = ap length next.1 ∙ length-reverse (drop (length redos + 1) given) ∙ length-drop (length redos + 1) given in
    let more : length c.push_reserved-in-Err.new.self.items ≡ length c.pop.new.self.items + 1 = ap length c.push_reserved-in-Err.ensures.items ∙ length-append c.pop.new.self.items (c.in-Err.field-0.disk ∷ []) in
    let low : length redos < length given = within given (length redos) c.in-Some.disk next.0 in
    ap length c.close_all.ensures ∙ length-append (map (λ r. r.disk) redos) (reverse c.push_reserved-in-Err.new.self.items) ∙ omega (arith, length-map redos (λ r. r.disk), length-reverse c.push_reserved-in-Err.new.self.items, rest, more, low, kept.0.within)
