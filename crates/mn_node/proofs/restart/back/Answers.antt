use Rattle.std.proofs.Common.{Bool, inl, inr, refl, Err, ap, sym, subst, ◌∙◌}
use Rattle.mn_node.specs.declared.restart.RestartError.{RestartError}
use Rattle.mn_redo.specs.declared.redo.Phase.TheVariants.{Fresh}
use Rattle.std.proofs.Common.{◌≡◌}
use Rattle.mn_redo.specs.Appender.{IsLogOf}
use Rattle.mn_node.specs.Node.{bodies_of, on_disk}
use Rattle.mn_node.specs.Restart.{FailsRestart, RestartLeaves}
use Rattle.mn_node.specs.State.{MayBeFound, left_behind_list, list_of, other_list_of}
use Rattle.mn_node.proofs.Moments.{none_new, reopened, still_stands, woken, writes_nothing}
use Rattle.mn_node.proofs.Restarts.{found_stands, is_fresh_now, is_started, no_damage, not_longer, not_opened, neither, not_listed}
use Rattle.mn_node.proofs.Steps.{keeps_then}
use Rattle.mn_node.proofs.restart.back.Goals as goal

pub returns-in-Err-clause-cause : goal.returns-in-Err-clause-cause
returns-in-Err-clause-cause g c =
    let old = c.args.redo.now in
    let m = c.args.memory.now in
    let pending = c.args.pending.now in
    let others = other_list_of m pending c.args.cutting in
    let content = (g.D.Disk.state old.disk).content in
    let left = left_behind_list c.args.cutting pending in
    let told = not_opened g.D.Disk.state g.D.Disk.faults old.disk c.reopen.new.self.disk (on_disk m) left c.in-Err.cause (λ e. c.in-Err.ensures.fault (ap Err e))
    (λ at is honest. no_damage old.node old.nodes content at (bodies_of (on_disk m)) (bodies_of others) c.damaged_or_not.ensures (c.in-Err.ensures.damaged honest at (ap Err is))
    (c.requires.stands honest content (g.D.Disk.is_disk old.disk honest).read)) (λ at is. let told = c.in-Err.ensures.told at (ap Err is) in inr (old.node, old.nodes, told.0, told.1)) in
    subst (λ (e : RestartError). FailsRestart g.D.Disk.state g.D.Disk.faults old.disk c.reopen.new.self.disk (on_disk m) left e) (sym c.error_of.ensures) told

pub returns-in-Err-find_list-clause-cause : goal.returns-in-Err-find_list-clause-cause
returns-in-Err-find_list-clause-cause g c =
    let old = c.args.redo.now in
    let m = c.args.memory.now in
    let pending = c.args.pending.now in
    let others = other_list_of m pending c.args.cutting in
    let content = (g.D.Disk.state old.disk).content in
    let log = c.in-Ok.log in
    not_listed g.D.Disk.state g.D.Disk.faults old.disk c.reopen.new.self.disk log (on_disk m) others (left_behind_list c.args.cutting pending) c.in-Err-find_list.error c.in-Err-find_list.ensures.neither
    (λ first second honest. neither old.node old.nodes content log.bodies (on_disk m) others c.one_list.ensures first second (c.in-Ok.ensures.read honest) (c.requires.stands honest content (g.D.Disk.is_disk old.disk honest).read))
    c.in-Err-find_list.ensures.differs

pub returns-in-Err-clause-stands : goal.returns-in-Err-clause-stands
returns-in-Err-clause-stands g c now l image =
    let honest = c.reopen.ensures.no_better now in
    c.requires.stands honest l (c.reopen.ensures.images honest l image)

pub returns-in-Err-clause-moments : goal.returns-in-Err-clause-moments
returns-in-Err-clause-moments g c honest =
    let old = c.args.redo.now in
    let m = c.args.memory.now in
    let pending = c.args.pending.now in
    let others = other_list_of m pending c.args.cutting in
    reopened g.D.Disk.state old c.reopen.new.self.disk (on_disk m) others (c.requires.stands honest) (c.reopen.ensures.unwritten honest)

pub returns-then-is_fresh-clause-stands : goal.returns-then-is_fresh-clause-stands
returns-then-is_fresh-clause-stands g c now l image =
    let honest = c.reopen.ensures.no_better now in
    c.requires.stands honest l (c.reopen.ensures.images honest l image)

pub returns-then-is_fresh-clause-moments : goal.returns-then-is_fresh-clause-moments
returns-then-is_fresh-clause-moments g c honest =
    let old = c.args.redo.now in
    let m = c.args.memory.now in
    let pending = c.args.pending.now in
    let others = other_list_of m pending c.args.cutting in
    reopened g.D.Disk.state old c.reopen.new.self.disk (on_disk m) others (c.requires.stands honest) (c.reopen.ensures.unwritten honest)

pub returns-in-Err-find_list-clause-stands : goal.returns-in-Err-find_list-clause-stands
returns-in-Err-find_list-clause-stands g c now l image =
    let honest = c.reopen.ensures.no_better now in
    c.requires.stands honest l (c.reopen.ensures.images honest l image)

pub returns-in-Err-find_list-clause-moments : goal.returns-in-Err-find_list-clause-moments
returns-in-Err-find_list-clause-moments g c honest =
    let old = c.args.redo.now in
    let m = c.args.memory.now in
    let pending = c.args.pending.now in
    let others = other_list_of m pending c.args.cutting in
    reopened g.D.Disk.state old c.reopen.new.self.disk (on_disk m) others (c.requires.stands honest) (c.reopen.ensures.unwritten honest)

pub wake_found-requires-clause-log : goal.wake_found-requires-clause-log
wake_found-requires-clause-log g c =
    subst (IsLogOf g.D.Disk.state c.reopen.new.self) c.in-Ok-find_list.ensures.found c.in-Ok.ensures.log

pub wake_found-requires-clause-stands : goal.wake_found-requires-clause-stands
wake_found-requires-clause-stands g c honest l image =
    let old = c.args.redo.now in
    let mid = c.reopen.new.self in
    still_stands old.node mid.node old.nodes mid.nodes (sym c.reopen.ensures.node) (sym c.reopen.ensures.nodes) c.in-Ok.log.bodies _ c.in-Ok-find_list.ensures.found l
    (c.in-Ok.ensures.stands (c.reopen.ensures.no_better honest) l image)

pub returns-in_err-wake_found-clause-moments : goal.returns-in_err-wake_found-clause-moments
returns-in_err-wake_found-clause-moments g c honest =
    let old = c.args.redo.now in
    let m = c.args.memory.now in
    let pending = c.args.pending.now in
    let others = other_list_of m pending c.args.cutting in
    let mid = c.reopen.new.self in
    let found = list_of m pending c.in-Ok-find_list.found in
    woken g.D.Disk.state old mid c.wake_found.new.redo.disk (on_disk m) others found c.reopen.ensures.node c.reopen.ensures.nodes (found_stands old.node old.nodes m pending c.args.cutting c.in-Ok-find_list.found c.in-Ok-find_list.ensures.may)
    (c.requires.stands honest) (c.reopen.ensures.unwritten honest) (c.wake_found.ensures.moments (c.reopen.ensures.honest honest))

pub returns-in_err-wake_found-clause-stands : goal.returns-in_err-wake_found-clause-stands
returns-in_err-wake_found-clause-stands g c honest l image =
    let old = c.args.redo.now in
    let m = c.args.memory.now in
    let pending = c.args.pending.now in
    let others = other_list_of m pending c.args.cutting in
    let mid = c.reopen.new.self in
    let found = list_of m pending c.in-Ok-find_list.found in
    found_stands old.node old.nodes m pending c.args.cutting c.in-Ok-find_list.found c.in-Ok-find_list.ensures.may l
    (still_stands mid.node old.node mid.nodes old.nodes c.reopen.ensures.node c.reopen.ensures.nodes (bodies_of found) (bodies_of found) refl l (c.wake_found.ensures.stands honest l image))

pub returns-in_err-wake_found-clause-keeps : goal.returns-in_err-wake_found-clause-keeps
returns-in_err-wake_found-clause-keeps g c honest bodies stands l image =
    let old = c.args.redo.now in
    let m = c.args.memory.now in
    let pending = c.args.pending.now in
    let others = other_list_of m pending c.args.cutting in
    let mid = c.reopen.new.self in
    let found = list_of m pending c.in-Ok-find_list.found in
    let content = (g.D.Disk.state old.disk).content in
    let same = c.one_list.ensures old.node old.nodes content c.in-Ok.log.bodies bodies (c.in-Ok.ensures.read honest) (stands content (g.D.Disk.is_disk old.disk honest).read) in
    still_stands mid.node old.node mid.nodes old.nodes c.reopen.ensures.node c.reopen.ensures.nodes (bodies_of found) bodies (sym c.in-Ok-find_list.ensures.found ∙ same) l (c.wake_found.ensures.stands (c.wake_found.ensures.continues.honest (c.reopen.ensures.honest honest)) l image)

pub returns-clause-moments : goal.returns-clause-moments
returns-clause-moments g c honest =
    let old = c.args.redo.now in
    let m = c.args.memory.now in
    let pending = c.args.pending.now in
    let others = other_list_of m pending c.args.cutting in
    let mid = c.reopen.new.self in
    let found = list_of m pending c.in-Ok-find_list.found in
    woken g.D.Disk.state old mid c.wake_found.new.redo.disk (on_disk m) others found c.reopen.ensures.node c.reopen.ensures.nodes (found_stands old.node old.nodes m pending c.args.cutting c.in-Ok-find_list.found c.in-Ok-find_list.ensures.may)
    (c.requires.stands honest) (c.reopen.ensures.unwritten honest) (c.wake_found.ensures.moments (c.reopen.ensures.honest honest))

pub returns-clause-stands : goal.returns-clause-stands
returns-clause-stands g c honest l image =
    let old = c.args.redo.now in
    let m = c.args.memory.now in
    let pending = c.args.pending.now in
    let others = other_list_of m pending c.args.cutting in
    let mid = c.reopen.new.self in
    let found = list_of m pending c.in-Ok-find_list.found in
    found_stands old.node old.nodes m pending c.args.cutting c.in-Ok-find_list.found c.in-Ok-find_list.ensures.may l
    (still_stands mid.node old.node mid.nodes old.nodes c.reopen.ensures.node c.reopen.ensures.nodes (bodies_of found) (bodies_of found) refl l (c.wake_found.ensures.stands honest l image))

pub returns-clause-keeps : goal.returns-clause-keeps
returns-clause-keeps g c honest bodies stands l image =
    let old = c.args.redo.now in
    let m = c.args.memory.now in
    let pending = c.args.pending.now in
    let others = other_list_of m pending c.args.cutting in
    let mid = c.reopen.new.self in
    let found = list_of m pending c.in-Ok-find_list.found in
    let content = (g.D.Disk.state old.disk).content in
    let same = c.one_list.ensures old.node old.nodes content c.in-Ok.log.bodies bodies (c.in-Ok.ensures.read honest) (stands content (g.D.Disk.is_disk old.disk honest).read) in
    still_stands mid.node old.node mid.nodes old.nodes c.reopen.ensures.node c.reopen.ensures.nodes (bodies_of found) bodies (sym c.in-Ok-find_list.ensures.found ∙ same) l (c.wake_found.ensures.stands (c.wake_found.ensures.continues.honest (c.reopen.ensures.honest honest)) l image)

pub returns-clause-found : goal.returns-clause-found
returns-clause-found g c honest bodies stands =
    let old = c.args.redo.now in
    let content = (g.D.Disk.state old.disk).content in
    let same = c.one_list.ensures old.node old.nodes content c.in-Ok.log.bodies bodies (c.in-Ok.ensures.read honest) (stands content (g.D.Disk.is_disk old.disk honest).read) in
    ap bodies_of c.in_ok-wake_found.ensures.list ∙ sym c.in-Ok-find_list.ensures.found ∙ same

pub returns-then-is_fresh-clause-cause : goal.returns-then-is_fresh-clause-cause
returns-then-is_fresh-clause-cause g c =
    let old = c.args.redo.now in
    let mid = c.reopen.new.self in
    let m = c.args.memory.now in
    let content = (g.D.Disk.state old.disk).content in
    let fresh = is_fresh_now c.is_fresh.result (mid.phase ≡ Fresh) c.is_fresh.ensures c.if-is_fresh.true in
    subst (λ (e : RestartError). FailsRestart g.D.Disk.state g.D.Disk.faults old.disk mid.disk (on_disk m) (left_behind_list c.args.cutting c.args.pending.now) e) (sym c.no_log.ensures)
    (λ honest. c.requires.header honest content (g.D.Disk.is_disk old.disk honest).read (c.in-Ok.ensures.fresh honest fresh), inl ((refl, refl), inl refl))

pub returns-in_err-wake_found-clause-unwritten : goal.returns-in_err-wake_found-clause-unwritten
returns-in_err-wake_found-clause-unwritten g c honest =
    let old = c.args.redo.now in
    let mid = c.reopen.new.self in
    let now = c.reopen.ensures.honest honest in
    let started = is_started mid.phase c.is_fresh.result c.is_fresh.ensures c.if-is_fresh.false c.in-Ok.ensures.going in
    writes_nothing (g.D.Disk.state old.disk) (g.D.Disk.state mid.disk) (g.D.Disk.state c.wake_found.new.redo.disk) (g.D.Disk.is_disk mid.disk now) (c.reopen.ensures.unwritten honest) (c.reopen.ensures.images honest)
    (c.wake_found.ensures.rests started now)

pub returns-in_err-wake_found-clause-images : goal.returns-in_err-wake_found-clause-images
returns-in_err-wake_found-clause-images g c honest =
    let old = c.args.redo.now in
    let mid = c.reopen.new.self in
    let started = is_started mid.phase c.is_fresh.result c.is_fresh.ensures c.if-is_fresh.false c.in-Ok.ensures.going in
    none_new (g.D.Disk.state old.disk) (g.D.Disk.state mid.disk) (g.D.Disk.state c.wake_found.new.redo.disk) (c.reopen.ensures.images honest) (c.wake_found.ensures.rests started (c.reopen.ensures.honest honest))

pub returns-clause-unwritten : goal.returns-clause-unwritten
returns-clause-unwritten g c honest =
    let old = c.args.redo.now in
    let mid = c.reopen.new.self in
    let now = c.reopen.ensures.honest honest in
    let started = is_started mid.phase c.is_fresh.result c.is_fresh.ensures c.if-is_fresh.false c.in-Ok.ensures.going in
    writes_nothing (g.D.Disk.state old.disk) (g.D.Disk.state mid.disk) (g.D.Disk.state c.wake_found.new.redo.disk) (g.D.Disk.is_disk mid.disk now) (c.reopen.ensures.unwritten honest) (c.reopen.ensures.images honest)
    (c.wake_found.ensures.rests started now)

pub returns-clause-images : goal.returns-clause-images
returns-clause-images g c honest =
    let old = c.args.redo.now in
    let mid = c.reopen.new.self in
    let started = is_started mid.phase c.is_fresh.result c.is_fresh.ensures c.if-is_fresh.false c.in-Ok.ensures.going in
    none_new (g.D.Disk.state old.disk) (g.D.Disk.state mid.disk) (g.D.Disk.state c.wake_found.new.redo.disk) (c.reopen.ensures.images honest) (c.wake_found.ensures.rests started (c.reopen.ensures.honest honest))

pub returns-clause-continues : goal.returns-clause-continues
returns-clause-continues g c =
    let read = c.reopen.ensures in
    keeps_then g.D.Disk.state g.D.Disk.faults c.args.redo.now c.reopen.new.self c.wake_found.new.redo
    (record { node = read.node; nodes = read.nodes; honest = read.honest; no_better = read.no_better; later = read.later; header = read.header_stays }) c.wake_found.ensures.continues

pub returns-clause-records : goal.returns-clause-records
returns-clause-records g c =
    let m = c.args.memory.now in
    subst (λ (b : Bool). RestartLeaves m.records.items c.args.pending.now c.wake_found.new.memory.records.items b) (sym c.is_longer-there.ensures) c.in_ok-wake_found.ensures.records

pub returns-clause-cutting : goal.returns-clause-cutting
returns-clause-cutting g c is = c.is_longer-there.ensures ∙ not_longer c.args.cutting c.in-Ok-find_list.found c.in-Ok-find_list.ensures.may is

pub returns-clause-uncut : goal.returns-clause-uncut
returns-clause-uncut g c is = c.in_ok-wake_found.ensures.uncut (subst (λ (b : Bool). MayBeFound b c.in-Ok-find_list.found) is c.in-Ok-find_list.ensures.may)
