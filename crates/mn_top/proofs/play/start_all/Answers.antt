use Rattle.std.proofs.Common.{rules, slice_get, List, Some, ℕ, ◌≡◌, ◌<◌, ◌+◌, ◌-◌, ◌++◌, ◌∷◌, [], ◌∙◌, length, length-append, map, drop, reverse, sym, ap, subst, arith, append-nil}
use Rattle.std.proofs.lemmas.List.{length-drop, length-reverse}
use Rattle.mn_top.specs.Logs.{WerentStarted, due_of_starting}
use Rattle.mn_top.specs.declared.due.Due.{Due}
use Rattle.mn_top.proofs.Gets.{next_reversed, within}
use Rattle.mn_top.proofs.Starting.{none_started, started_more, werent_started, turned_disks}
use Rattle.mn_top.proofs.play.start_all.Goals as goal

pub returns-in_default-clause-failed : goal.returns-in_default-clause-failed
returns-in_default-clause-failed g c =
    none_started g.D.Disk.state g.D.Disk.faults c.args.redos.items c.close_all.result.items c.requires.may
    (c.close_all.ensures ∙ ap (λ l. map (λ r. r.disk) c.args.redos.items ++ reverse l) c.requires.empty ∙ append-nil (map (λ r. r.disk) c.args.redos.items))

pub start-requires-clause-going : goal.start-requires-clause-going
start-requires-clause-going g c =
    let kept = c.loop-redo.invariant in
    let next = next_reversed c.args.redos.items c.pop.new.self.items c.loop-redo.left.items (length c.loop-redo.nodes.items) c.in-Some.redo kept.1 c.in-Some.ensures.items in
    (c.requires.may (length c.loop-redo.nodes.items) c.in-Some.redo next.0).going

pub start-requires-clause-nodes : goal.start-requires-clause-nodes
start-requires-clause-nodes g c =
    let kept = c.loop-redo.invariant in
    let next = next_reversed c.args.redos.items c.pop.new.self.items c.loop-redo.left.items (length c.loop-redo.nodes.items) c.in-Some.redo kept.1 c.in-Some.ensures.items in
    (c.requires.may (length c.loop-redo.nodes.items) c.in-Some.redo next.0).some

pub start-requires-clause-apart : goal.start-requires-clause-apart
start-requires-clause-apart g c =
    let kept = c.loop-redo.invariant in
    let next = next_reversed c.args.redos.items c.pop.new.self.items c.loop-redo.left.items (length c.loop-redo.nodes.items) c.in-Some.redo kept.1 c.in-Some.ensures.items in
    (c.requires.may (length c.loop-redo.nodes.items) c.in-Some.redo next.0).apart

pub loop-redo-preserved : goal.loop-redo-preserved
loop-redo-preserved g c =
    let kept = c.loop-redo.invariant in
    let next = next_reversed c.args.redos.items c.pop.new.self.items c.loop-redo.left.items (length c.loop-redo.nodes.items) c.in-Some.redo kept.1 c.in-Some.ensures.items in
    let started = c.in-Ok-start.ensures.started in
    let longer : length c.push_reserved.new.self.items ≡ length c.loop-redo.nodes.items + 1 =
    ap (λ l. length l) c.push_reserved.ensures.items ∙ length-append c.loop-redo.nodes.items (c.in-Ok-start.node ∷ []) in (
      started_more g.D.Disk.state g.D.Disk.faults c.args.redos.items c.loop-redo.nodes.items c.push_reserved.new.self.items c.in-Some.redo c.in-Ok-start.node c.push_reserved.ensures.items kept.0 next.0
          (record { up = started.up; node = started.node; nodes_are = started.nodes; records = started.records; stands = started.stands; honest = c.in-Ok-start.ensures.honest_ok; later = c.in-Ok-start.ensures.later_ok }),
      next.1 ∙ ap (λ (n : ℕ). reverse (drop n c.args.redos.items)) (sym longer),
      omega arith,
    )

pub returns-in-Err-clause-failed : goal.returns-in-Err-clause-failed
returns-in-Err-clause-failed g c =
    let kept = c.loop-redo.invariant in
    let redos = c.args.redos.items in
    let nodes = c.loop-redo.nodes.items in
    let next = next_reversed redos c.pop.new.self.items c.loop-redo.left.items (length nodes) c.in-Some.redo kept.1 c.in-Some.ensures.items in
    let number : c.len-in-Err.result ≡ length nodes = omega arith in
    subst (λ (d : Due). WerentStarted g.D.Disk.state g.D.Disk.faults redos c.close_failed.result.items d) (sym (c.due_of_start-due.ensures ∙ ap (λ (n : ℕ). due_of_starting n c.in-Err.field-0.cause) number))
    (werent_started g.D.Disk.state g.D.Disk.faults redos nodes c.in-Some.redo c.in-Err.field-0.disk c.close_failed.result.items c.in-Err.field-0.cause c.requires.may kept.0 c.close_failed.ensures.closed next.0
    (c.close_failed.ensures.disks ∙ ap (λ l. map (λ n. n.disk) nodes ++ c.in-Err.field-0.disk ∷ l) (turned_disks redos c.pop.new.self.items (length nodes + 1) next.1))
    (record { honest = c.in-Err.ensures.honest_err; later = c.in-Err.ensures.later_err; stands = λ h. c.in-Err.ensures.stands_err (c.in-Err.ensures.honest_err h) })
    c.in-Err.ensures.fault (λ at. c.in-Err.ensures.damaged at))

none_at : {X : Type 0} (k : ℕ) (x : X) → slice_get [] k ≡ Some x → ⊥
none_at k x is = absurd cc

pub loop-redo-init : goal.loop-redo-init
loop-redo-init g c =
    let given = c.args.redos.items in
    let nodes : c.in-Ok.nodes.items ≡ [] = search rules in
    let none : length c.in-Ok.nodes.items ≡ 0 = ap length nodes in (
      record { within = omega (arith, none); each = λ k redo n was is. absurd (none_at k n (subst (λ (l : List _). slice_get l k ≡ Some n) nodes is)) },
      c.reverse.ensures.items ∙ ap (λ (n : ℕ). reverse (drop n given)) (sym none),
      search rules,
    )

pub close_failed-requires-clause-room : goal.close_failed-requires-clause-room
close_failed-requires-clause-room g c =
    let kept = c.loop-redo.invariant in
    let redos = c.args.redos.items in
    let nodes = c.loop-redo.nodes.items in
    let next = next_reversed redos c.pop.new.self.items c.loop-redo.left.items (length nodes) c.in-Some.redo kept.1 c.in-Some.ensures.items in
    let left : length c.pop.new.self.items ≡ length redos - (length nodes + 1) = ap length next.1 ∙ length-reverse (drop (length nodes + 1) redos) ∙ length-drop (length nodes + 1) redos in
    let low : length nodes < length redos = within redos (length nodes) c.in-Some.redo next.0 in
    omega (arith, left, low, c.requires.room)
