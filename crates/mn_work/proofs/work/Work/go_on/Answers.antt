-- A lone Get that is led to its leaf wants it.
use Rattle.std.proofs.Common.{◌≡◌, ◌∙◌, ℕ, List, [], ◌∷◌, Some, ap, subst, sym}
use Rattle.std.specs.Option.{option_map}
use Rattle.mn_base.specs.declared.op.Op.TheVariants.{Tx}
use Rattle.mn_base.specs.declared.op.Step.{Step}
use Rattle.mn_base.specs.declared.op.Step.TheVariants.{Get}
use Rattle.mn_work.specs.declared.get.Descent.{Descent}
use Rattle.mn_work.specs.declared.work.Job.TheVariants as at
use Rattle.mn_work.specs.Paths.{LeadsTo}
use Rattle.mn_work.specs.Walks.{is_later}
use Rattle.mn_work.specs.Works.{JobIsLast, lone_key}
use Rattle.mn_work.proofs.Getting.{wants_leaf}
use Rattle.std.proofs.lemmas.Result.{IfOk-weaker}
use Rattle.std.specs.Prelude.{IfOk}
use Rattle.mn_base.specs.declared.op.Op.{Op}
use Rattle.mn_work.specs.Firsts.{ChildFailsFirst, ScanFailsFirst, StepsFailFirst}
use Rattle.mn_work.proofs.Works.{child_fails, child_last, get_fails, scan_ends, scan_fails, steps_fail_in, steps_last}
use Rattle.mn_work.proofs.work.Work.go_on.Goals as goal

pub returns-in-Some-clause-path : goal.returns-in-Some-clause-path
returns-in-Some-clause-path c = λ key d leaf first gets leads.
    let jobs : at.Get c.in-Get-Tx.descent ≡ at.Get d = sym c.in-Get-Tx.is-0 ∙ gets.job_is in
    let same : c.in-Get-Tx.descent ≡ d = cc in
    let ops : Tx _ c.in-Get-Tx.steps ≡ Tx gets.name (Get key ∷ []) = sym c.in-Get-Tx.is-1 ∙ (c.get.ensures ∙ gets.op_is) in
    let all : c.in-Get-Tx.steps ≡ Get key ∷ [] = cc in
    let keys : Some c.in-Some.key.now ≡ Some key =
    sym (ap (option_map (λ k. k.now)) c.in-Some.is) ∙ (c.lone_get.ensures ∙ ap (λ (s : List Step). lone_key s) all) in
    let the_key : c.in-Some.key.now ≡ key = cc in
    let led = subst (λ (k : List ℕ). LeadsTo c.args.known.now k c.in-Get-Tx.descent leaf) (sym the_key)
    (subst (λ (x : Descent). LeadsTo c.args.known.now key x leaf) (sym same) leads) in
    let on = c.advance.ensures.path leaf led (c.is_later-later.ensures ∙ ap is_later first) in
    record {
      job_is = ap at.Get on.0;
      next_is = on.1 ∙ wants_leaf c.args.known.now leaf leads.at;
    }

-- A lone Get and a scan go by nothing that was shown last.

pub returns-in-Some-clause-last : goal.returns-in-Some-clause-last
returns-in-Some-clause-last c = λ es cached last. tt

pub returns-in-Some-2-clause-last : goal.returns-in-Some-2-clause-last
returns-in-Some-2-clause-last c = λ es cached last. tt

pub returns-in-None-2-clause-last : goal.returns-in-None-2-clause-last
returns-in-None-2-clause-last c = λ es cached last. subst (JobIsLast es) (sym c.end_scan.ensures.job) tt

pub returns-in-Transaction-Tx-clause-last : goal.returns-in-Transaction-Tx-clause-last
returns-in-Transaction-Tx-clause-last c =
    steps_last c.args.known.now.cache c.args.self.now.job c.in-Transaction-Tx.attempt c.advance-in-Transaction-Tx.new.self c.advance-in-Transaction-Tx.result c.in-Transaction-Tx.is-0 c.advance-in-Transaction-Tx.ensures.last

pub returns-in-Child-default-clause-last : goal.returns-in-Child-default-clause-last
returns-in-Child-default-clause-last c =
    child_last c.args.known.now.cache c.args.self.now.job c.in-Child-default.child c.advance-in-Child-default.new.self c.advance-in-Child-default.result c.in-Child-default.is-0 c.advance-in-Child-default.ensures.last

-- Why a first try fails

pub returns-in-Some-clause-first : goal.returns-in-Some-clause-first
returns-in-Some-clause-first c = λ first.
    get_fails c.advance.new.known c.args.self.now.job c.args.self.now.op c.advance.result _ c.in-Get-Tx.steps c.in-Get-Tx.descent c.advance.new.self c.in-Some.key.now c.in-Get-Tx.is-0
    (sym c.get.ensures ∙ c.in-Get-Tx.is-1) (sym c.lone_get.ensures ∙ ap (option_map (λ k. k.now)) c.in-Some.is)
    (c.advance.ensures.first (c.is_later-later.ensures ∙ first))

pub returns-in-Transaction-Tx-clause-first : goal.returns-in-Transaction-Tx-clause-first
returns-in-Transaction-Tx-clause-first c = λ first.
    IfOk-weaker c.advance-in-Transaction-Tx.result
    (StepsFailFirst c.advance-in-Transaction-Tx.new.known c.in-Transaction-Tx.steps c.in-Transaction-Tx.attempt c.advance-in-Transaction-Tx.new.self) _
    (λ next fails.
    steps_fail_in c.advance-in-Transaction-Tx.new.known c.args.self.now.job c.args.self.now.op next _ c.in-Transaction-Tx.steps c.in-Transaction-Tx.attempt c.advance-in-Transaction-Tx.new.self c.in-Transaction-Tx.is-0
    (sym c.get.ensures ∙ c.in-Transaction-Tx.is-1) fails)
    (c.advance-in-Transaction-Tx.ensures.first (c.is_later-later.ensures ∙ first))

pub returns-in-Child-default-clause-first : goal.returns-in-Child-default-clause-first
returns-in-Child-default-clause-first c = λ first.
    IfOk-weaker c.advance-in-Child-default.result
    (ChildFailsFirst c.advance-in-Child-default.new.known c.args.self.now.op c.in-Child-default.child c.advance-in-Child-default.new.self) _
    (λ next fails.
    child_fails c.advance-in-Child-default.new.known c.args.self.now.job c.args.self.now.op next c.in-Child-default.child c.advance-in-Child-default.new.self c.in-Child-default.is-0 fails)
    (subst (λ (o : Op). IfOk c.advance-in-Child-default.result (ChildFailsFirst c.advance-in-Child-default.new.known o c.in-Child-default.child c.advance-in-Child-default.new.self)) c.get.ensures
    (c.advance-in-Child-default.ensures.first (c.is_later-later.ensures ∙ first)))

pub returns-in-Some-2-clause-first : goal.returns-in-Some-2-clause-first
returns-in-Some-2-clause-first c = λ first.
    scan_fails c.advance-in-Scan-Scan.new.known c.args.self.now.job c.args.self.now.op c.in-Some-2.next c.in-Scan-Scan.version _ _ _ c.in-Scan-Scan.scan c.advance-in-Scan-Scan.new.scan c.in-Scan-Scan.is-0
    (sym c.get.ensures ∙ c.in-Scan-Scan.is-1)
    (subst (ScanFailsFirst c.advance-in-Scan-Scan.new.known c.in-Scan-Scan.version c.in-Scan-Scan.scan) c.in-Some-2.is
    (c.in_ok-next-in-Scan-Scan.ensures.first (c.is_later-later.ensures ∙ first)))

pub returns-in-None-2-clause-first : goal.returns-in-None-2-clause-first
returns-in-None-2-clause-first c = λ first.
    scan_ends c.advance-in-Scan-Scan.new.known c.args.self.now.job c.args.self.now.op c.end_scan.result c.in-Scan-Scan.scan c.end_scan.new.self.job c.in-Scan-Scan.is-0 c.end_scan.ensures.job
