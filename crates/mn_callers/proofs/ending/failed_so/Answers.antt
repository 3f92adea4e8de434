use Rattle.std.proofs.Common.{Err, ap, refl, subst}
use Rattle.mn_cell.specs.declared.trace.RunCause.{RunCause}
use Rattle.mn_cell.specs.declared.trace.RunCause.TheVariants.{Disk, Damaged}
use Rattle.mn_callers.specs.Failed.{IsDamage}
use Rattle.mn_callers.proofs.Handing.{as_many, fails_so, run_on}
use Rattle.mn_callers.proofs.ending.failed_so.Goals as goal

pub returns-in-Disk-clause-fails : goal.returns-in-Disk-clause-fails
returns-in-Disk-clause-fails g c given named =
    fails_so g.D.Disk.state g.D.Disk.faults g.N.Named.records g.N.Named.faults g.N.Named.honest c.args.script.now given c.args.nodes.items (Err c.args.cause) c.args.log named c.requires
    (Disk c.in-Disk.node) (ap (λ (cause : RunCause). Err cause) c.in-Disk.is) (λ e. cc)

pub returns-in-Damaged-clause-fails : goal.returns-in-Damaged-clause-fails
returns-in-Damaged-clause-fails g c given named =
    fails_so g.D.Disk.state g.D.Disk.faults g.N.Named.records g.N.Named.faults g.N.Named.honest c.args.script.now given c.args.nodes.items (Err c.args.cause) c.args.log named c.requires
    (Damaged c.in-Damaged.node c.in-Damaged.place c.in-Damaged.kept c.in-Damaged.found) (ap (λ (cause : RunCause). Err cause) c.in-Damaged.is) (λ e. cc)

pub returns-in-NoMemory-clause-fails : goal.returns-in-NoMemory-clause-fails
returns-in-NoMemory-clause-fails g c given named =
    c.no_memory.ensures.fails c.args.script.now given (as_many g.D.Disk.state g.D.Disk.faults g.N.Named.records g.N.Named.faults g.N.Named.honest c.args.script.now given c.args.nodes.items (Err c.args.cause) c.args.log named c.requires)
    c.args.log (λ sound. run_on g.D.Disk.state g.D.Disk.faults g.N.Named.records g.N.Named.faults g.N.Named.honest c.args.script.now given c.args.nodes.items (Err c.args.cause) c.args.log named c.requires)

pub returns-in-Damaged-clause-told : goal.returns-in-Damaged-clause-told
returns-in-Damaged-clause-told g c = λ damage. (c.in-Damaged.is, refl)

pub returns-in-NoMemory-clause-told : goal.returns-in-NoMemory-clause-told
returns-in-NoMemory-clause-told g c = λ damage. absurd (subst IsDamage c.no_memory.ensures.cause damage)
