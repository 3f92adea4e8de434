use Rattle.std.proofs.Common.{◌≡◌, ◌≤◌, ◌<◌, ◌+◌, ◌-◌, ◌++◌, ◌∷◌, [], length, arith, sym, ◌∙◌, ap, subst, length-append, length-set}
use Rattle.mn_redo.specs.Appender.{IsLogOf}
use Rattle.mn_redo.specs.Grammar.{records, behind_gate}
use Rattle.mn_redo.specs.Log.{listed_in}
use Rattle.mn_redo.proofs.Append.{opened_in_memory}
use Rattle.mn_redo.proofs.Copied.{listed_put, kept_put}
use Rattle.mn_redo.proofs.Going.{started_going}
use Rattle.mn_redo.proofs.Parse.{length-behind_gate}
use Rattle.mn_redo.proofs.Placed.{kept_length}
use Rattle.mn_redo.proofs.redo.Redo.append.Goals as goal

pub returns-clause-list : goal.returns-clause-list
returns-clause-list g c =
    let r = c.self.inside in
    let body = c.args.body.now in
    let copied = c.self.invariant (started_going r.appender.phase (ap (λ s. s.phase) c.self.view_is ∙ c.requires.started)) in
    let bodies = listed_in 0 r.bytes.items in
    let at : c.len-gate.result ≡ length (records bodies) + 1 = omega (arith, c.len-gate.ensures, kept_length r.bytes.items copied.kept.kept) in
    let memory = opened_in_memory [] bodies body (c.len-gate.result - 1) _ _ copied.kept.kept.bytes_are c.stage.ensures.bytes (omega (arith, at)) in
    listed_put r.bytes.items r.gates.items _ body c.requires.size copied.kept memory ∙ ap (λ s. s.bodies ++ body ∷ []) c.self.view_is

pub invariant_of-self-2 : goal.invariant_of-self-2
invariant_of-self-2 g c _ =
    let r = c.self.inside in
    let body = c.args.body.now in
    let copied = c.self.invariant (started_going r.appender.phase (ap (λ s. s.phase) c.self.view_is ∙ c.requires.started)) in
    let bodies = listed_in 0 r.bytes.items in
    let at : c.len-gate.result ≡ length (records bodies) + 1 = omega (arith, c.len-gate.ensures, kept_length r.bytes.items copied.kept.kept) in
    let memory = opened_in_memory [] bodies body (c.len-gate.result - 1) _ _ copied.kept.kept.bytes_are c.stage.ensures.bytes (omega (arith, at)) in
    let listed = listed_put r.bytes.items r.gates.items _ body c.requires.size copied.kept memory in
    let log = c.in_ok-append.ensures.list bodies copied.log in
    let pushed = rw c.unwrap.ensures at c.push.ensures.items in
    let len = rw c.unwrap.ensures at c.push.ensures.len in
    let spare : 0 < r.spare_bodies = omega (arith, c.requires.spare_body, ap (λ s. s.spare_bodies) c.self.view_is) in
    let bytes : length body ≤ r.spare_bytes = omega (arith, c.requires.spare_bytes, ap (λ s. s.spare_bytes) c.self.view_is) in
    record {
      kept = kept_put r.bytes.items r.gates.items _ body c.requires.size copied.kept memory c.push.new.self.items (c.len-gate.result - 1) log.few pushed (omega (arith, at));
      log = subst (IsLogOf g.D.Disk.state c.append.new.self) (sym listed) log;
      spare = omega (arith, copied.spare, c.in_ok-append.ensures.bodies, spare);
      spare_too = omega (arith, copied.spare_too, c.in_ok-append.ensures.bytes, bytes);
      gates_fit = omega (arith, copied.gates_fit, ap length pushed, length-append r.gates.items ((c.len-gate.result - 1) ∷ []), c.push.ensures.capacity, spare);
      bytes_fit = omega (arith, copied.bytes_fit, length-set c.stage.new.bytes.items (c.len-gate.result - 1) 1, ap length c.stage.ensures.bytes, c.stage.ensures.room, spare, bytes, length-append r.bytes.items (behind_gate body ++ 0 ∷ []), length-append (behind_gate body) (0 ∷ []), length-behind_gate body);
    }

pub returns-in_err-append-clause-images : goal.returns-in_err-append-clause-images
returns-in_err-append-clause-images g c =
    let r = c.self.inside in
    let copied = c.self.invariant (started_going r.appender.phase (ap (λ s. s.phase) c.self.view_is ∙ c.requires.started)) in
    rw (← c.self.view_is) (λ h x image. c.append.ensures.images (listed_in 0 r.bytes.items) copied.log h x image)

pub returns-clause-images : goal.returns-clause-images
returns-clause-images g c =
    let r = c.self.inside in
    let copied = c.self.invariant (started_going r.appender.phase (ap (λ s. s.phase) c.self.view_is ∙ c.requires.started)) in
    rw (← c.self.view_is) (λ h x image. c.append.ensures.images (listed_in 0 r.bytes.items) copied.log h x image)

pub returns-clause-stable : goal.returns-clause-stable
returns-clause-stable g c =
    let r = c.self.inside in
    let copied = c.self.invariant (started_going r.appender.phase (ap (λ s. s.phase) c.self.view_is ∙ c.requires.started)) in
    rw (← c.self.view_is) (λ h x image. c.in_ok-append.ensures.stable (listed_in 0 r.bytes.items) copied.log h x image)
