use Rattle.std.proofs.Common.{refl}
use Rattle.mn_redo.specs.Grammar.{Stands}
use Rattle.mn_node.proofs.Moments.{only_rests, only_same, rests_and_stands, still_stands}
use Rattle.mn_node.proofs.start.start_log.Goals as goal

pub returns-then-held-gt4294967295-clause-moments : goal.returns-then-held-gt4294967295-clause-moments
returns-then-held-gt4294967295-clause-moments g c bodies log honest stands =
    let old = c.args.redo.now in
    only_same (g.D.Disk.state old.disk) (λ l. Stands old.node old.nodes l bodies) (g.D.Disk.is_disk old.disk honest) stands

pub returns-then-is_err-clause-moments : goal.returns-then-is_err-clause-moments
returns-then-is_err-clause-moments g c bodies log honest stands =
    let old = c.args.redo.now in
    only_rests (g.D.Disk.state old.disk) (g.D.Disk.state c.reserve.new.self.disk) (λ l. Stands old.node old.nodes l bodies) (g.D.Disk.is_disk old.disk honest) stands (c.reserve.ensures.stays honest)

pub returns-in_err-start-clause-keeps : goal.returns-in_err-start-clause-keeps
returns-in_err-start-clause-keeps g c bodies log was honest l image =
    let old = c.args.redo.now in
    let mid = c.reserve.new.self in
    still_stands mid.node old.node mid.nodes old.nodes c.reserve.ensures.node c.reserve.ensures.nodes bodies bodies refl l (c.start.ensures.stands bodies (c.reserve.ensures.log bodies log) (c.start.ensures.no_better honest) l image)

pub returns-in_err-start-clause-moments : goal.returns-in_err-start-clause-moments
returns-in_err-start-clause-moments g c bodies log honest stands =
    let old = c.args.redo.now in
    let mid = c.reserve.new.self in
    let stays = c.reserve.ensures.stays honest in
    rests_and_stands g.D.Disk.state old mid c.start.new.self.disk bodies c.reserve.ensures.node c.reserve.ensures.nodes (g.D.Disk.is_disk old.disk honest) stands stays (c.start.ensures.any_moment bodies (c.reserve.ensures.log bodies log) stays.time.honest)

pub returns-clause-stands : goal.returns-clause-stands
returns-clause-stands g c bodies log honest l image =
    let old = c.args.redo.now in
    let mid = c.reserve.new.self in
    still_stands mid.node old.node mid.nodes old.nodes c.reserve.ensures.node c.reserve.ensures.nodes bodies bodies refl l (c.start.ensures.stands bodies (c.reserve.ensures.log bodies log) (c.start.ensures.no_better honest) l image)

pub returns-clause-keeps : goal.returns-clause-keeps
returns-clause-keeps g c bodies log was honest l image =
    let old = c.args.redo.now in
    let mid = c.reserve.new.self in
    still_stands mid.node old.node mid.nodes old.nodes c.reserve.ensures.node c.reserve.ensures.nodes bodies bodies refl l (c.start.ensures.stands bodies (c.reserve.ensures.log bodies log) (c.start.ensures.no_better honest) l image)

pub returns-clause-moments : goal.returns-clause-moments
returns-clause-moments g c bodies log honest stands =
    let old = c.args.redo.now in
    let mid = c.reserve.new.self in
    let stays = c.reserve.ensures.stays honest in
    rests_and_stands g.D.Disk.state old mid c.start.new.self.disk bodies c.reserve.ensures.node c.reserve.ensures.nodes (g.D.Disk.is_disk old.disk honest) stands stays (c.start.ensures.any_moment bodies (c.reserve.ensures.log bodies log) stays.time.honest)
