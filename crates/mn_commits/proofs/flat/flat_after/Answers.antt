use Rattle.std.proofs.Common.{◌≡◌, ℕ, List, take, ap, subst, sym, ◌∙◌, arith}
use Rattle.std.proofs.lemmas.Grind.{common_steps}
use Rattle.mn_runs.specs.declared.entry.Entry.{Entry}
use Rattle.mn_runs.specs.Commits.{committed_by, memory_after_commit, flat_after}
use Rattle.mn_runs.specs.Protocol.{entries_of}
use Rattle.mn_commits.specs.Laws.{IsFlatRun}
use Rattle.mn_commits.specs.Standing.{StandingTells}
use Rattle.mn_commits.proofs.Bytes.Flat.{flat_run}
use Rattle.mn_runs.proofs.Logs.{newest}
use Rattle.mn_commits.proofs.flat.flat_after.Goals as goal

pub loop-place-preserved : goal.loop-place-preserved
loop-place-preserved c =
    let log = c.args.log.now in
    let i = c.loop-place.place in
    let past = entries_of (take i log) in
    let more = newest log i c.entry.result.now (omega (arith, c.loop-place-test.true, c.len-place-end.ensures)) c.entry.ensures in
    let told = c.loop-place.invariant.tells in
    record {
      long = c.in_ok-step.ensures.length;
      tells = subst (λ (l : List Entry). StandingTells c.step.new.standing l) (sym more) (c.in_ok-step.ensures.tells past told);
      memory = c.step.ensures.memory past told
          ∙ (ap (λ (m : List (List ℕ)). memory_after_commit m (committed_by past c.entry.result.now)) c.loop-place.invariant.memory
          ∙ ap (λ (l : List Entry). flat_after c.args.start.now l) (sym more));
    }

pub returns-clause-run : goal.returns-clause-run
returns-clause-run c =
    let is : c.from_vec.result ≡ flat_after c.args.start.now (entries_of c.args.log.now) = grind (arith, common_steps) in
    λ from r. subst (λ (after : List (List ℕ)). IsFlatRun from c.args.start.now after (entries_of c.args.log.now)) (sym is) (flat_run from c.args.start.now (entries_of c.args.log.now) r)
