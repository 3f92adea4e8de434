use Rattle.std.proofs.Common.{◌≡◌, ◌≤◌, ◌<◌, ◌+◌, ◌*◌, [], length, arith, sym, ◌∙◌, ap, subst}
use Rattle.mn_redo.specs.Appender.{IsLogOf}
use Rattle.mn_redo.specs.Grammar.{total}
use Rattle.mn_redo.specs.Log.{listed_in}
use Rattle.mn_redo.proofs.Copied.{kept_whole}
use Rattle.mn_redo.proofs.Going.{started_going}
use Rattle.mn_redo.proofs.Parse.{listed_is, length-places}
use Rattle.mn_redo.proofs.Placed.{kept_length}
use Rattle.mn_redo.proofs.Shortened.{whole_length}
use Rattle.mn_redo.proofs.redo.Redo.shorten.Goals as goal

pub stage_all-requires-clause-room : goal.stage_all-requires-clause-room
stage_all-requires-clause-room g c =
    let r = c.self.inside in
    let copied = c.self.invariant (started_going r.appender.phase (ap (λ s. s.phase) c.self.view_is ∙ c.requires.started)) in
    omega (arith, copied.bytes_fit, whole_length c.args.bodies.now, c.requires.spare_bodies, c.requires.spare_bytes, ap (λ s. s.spare_bodies) c.self.view_is, ap (λ s. s.spare_bytes) c.self.view_is)

pub overflow_sub-self-3 : goal.overflow_sub-self-3
overflow_sub-self-3 g c = omega (arith, c.len.ensures, c.stage_all.new.bytes.ok.0, ap length c.stage_all.ensures.bytes, whole_length c.args.bodies.now)

pub overflow_sub-self-4 : goal.overflow_sub-self-4
overflow_sub-self-4 g c =
    omega (arith, c.len.ensures, c.stage_all.new.bytes.ok.0, ap length c.stage_all.ensures.bytes, whole_length c.args.bodies.now, c.requires.spare_bytes, ap (λ s. s.spare_bytes) c.self.view_is)

pub returns-clause-bytes : goal.returns-clause-bytes
returns-clause-bytes g c =
    omega (arith, c.len.ensures, c.stage_all.new.bytes.ok.0, ap length c.stage_all.ensures.bytes, whole_length c.args.bodies.now, c.requires.spare_bytes, ap (λ s. s.spare_bytes) c.self.view_is)

pub returns-in_err-shorten-clause-images : goal.returns-in_err-shorten-clause-images
returns-in_err-shorten-clause-images g c =
    let r = c.self.inside in
    let copied = c.self.invariant (started_going r.appender.phase (ap (λ s. s.phase) c.self.view_is ∙ c.requires.started)) in
    rw (← c.self.view_is) (λ h x image. c.shorten.ensures.images (listed_in 0 r.bytes.items) copied.log h x image)

pub returns-clause-images : goal.returns-clause-images
returns-clause-images g c =
    let r = c.self.inside in
    let copied = c.self.invariant (started_going r.appender.phase (ap (λ s. s.phase) c.self.view_is ∙ c.requires.started)) in
    rw (← c.self.view_is) (λ h x image. c.shorten.ensures.images (listed_in 0 r.bytes.items) copied.log h x image)

pub returns-clause-stable : goal.returns-clause-stable
returns-clause-stable g c =
    let r = c.self.inside in
    let copied = c.self.invariant (started_going r.appender.phase (ap (λ s. s.phase) c.self.view_is ∙ c.requires.started)) in
    rw (← c.self.view_is) (λ h x image. c.in_ok-shorten.ensures.stable (listed_in 0 r.bytes.items) copied.log h x image)

pub returns-clause-list : goal.returns-clause-list
returns-clause-list g c = listed_is [] c.args.bodies.now _ c.requires.sizes c.stage_all.ensures.bytes

pub invariant_of-self-2 : goal.invariant_of-self-2
invariant_of-self-2 g c _ =
    let r = c.self.inside in
    let others = c.args.bodies.now in
    let copied = c.self.invariant (started_going r.appender.phase (ap (λ s. s.phase) c.self.view_is ∙ c.requires.started)) in
    let log = c.in_ok-shorten.ensures.list (listed_in 0 r.bytes.items) copied.log in
    let listed = listed_is [] others c.stage_all.new.bytes.items c.requires.sizes c.stage_all.ensures.bytes in
    let spare : length others < r.spare_bodies = omega (arith, c.requires.spare_bodies, ap (λ s. s.spare_bodies) c.self.view_is) in
    let bytes : total others ≤ r.spare_bytes = omega (arith, c.requires.spare_bytes, ap (λ s. s.spare_bytes) c.self.view_is) in
    let size : length c.stage_all.new.bytes.items ≡ total others + 5 * length others + 1 = ap length c.stage_all.ensures.bytes ∙ whole_length others in
    record {
      kept = kept_whole c.stage_all.new.bytes.items c.place_all.new.gates.items others c.requires.sizes log.few c.stage_all.ensures.bytes c.place_all.ensures.gates;
      log = subst (IsLogOf g.D.Disk.state c.shorten.new.self) (sym listed) log;
      spare = omega (arith, copied.spare, c.in_ok-shorten.ensures.bodies, spare);
      spare_too = omega (arith, copied.spare_too, c.in_ok-shorten.ensures.bytes, bytes, size, c.stage_all.new.bytes.ok.0, c.len.ensures);
      gates_fit = omega (arith, copied.gates_fit, ap length c.place_all.ensures.gates, length-places 0 others, c.place_all.ensures.room, spare);
      bytes_fit = omega (arith, copied.bytes_fit, size, c.len.ensures, c.stage_all.new.bytes.ok.0, c.stage_all.ensures.room, spare, bytes, kept_length r.bytes.items copied.kept.kept);
    }
