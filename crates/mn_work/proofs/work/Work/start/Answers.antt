use Rattle.std.proofs.Common.{sym, subst, ap, ◌∙◌, ◌≡◌, Some}
use Rattle.std.specs.Option.{option_map}
use Rattle.mn_work.specs.Catalogs.{found, root_named}
use Rattle.mn_work.specs.Works.{HasRightSteps, IsJobOf, StartsBy, version_name}
use Rattle.mn_work.specs.declared.work.Started.TheVariants as Started
use Rattle.mn_work.specs.declared.work.Work.{Work}
use Rattle.mn_work.proofs.Works.{admits_start, job_begins, may_root, starts_new}
use Rattle.mn_work.proofs.work.Work.start.Goals as goal

pub returns-clause-starts : goal.returns-clause-starts
returns-clause-starts c =
    let named : version_name c.args.self.now.op ≡ Some c.in-Some-version_of.name.now = ap version_name (sym c.get.ensures) ∙ (sym c.version_of.ensures ∙ ap (option_map (λ n. n.now)) c.in-Some-version_of.is) in
    let root : root_named c.in-Some.kept c.in-Some-version_of.name.now ≡ Some (c.in-Some-root_of.version.0, c.in-Some-root_of.root) = sym c.root_of.ensures ∙ ap (option_map found) c.in-Some-root_of.is in
    subst (λ (w : Work). StartsBy c.args.known.now c.args.self.now w Started.On) (sym c.in_ok-begin_on.ensures.same)
    (starts_new c.args.known.now c.in-Some.kept c.args.self.now c.in-Some.is c.requires.may c.in-Some-version_of.name.now c.in-Some-root_of.version c.in-Some-root_of.root named root c.begin_on.new.self.job c.in_default-job.not-Scan c.in_ok-begin_on.ensures.begins)

pub returns-clause-right : goal.returns-clause-right
returns-clause-right c =
    let named : version_name c.args.self.now.op ≡ Some c.in-Some-version_of.name.now = ap version_name (sym c.get.ensures) ∙ (sym c.version_of.ensures ∙ ap (option_map (λ n. n.now)) c.in-Some-version_of.is) in
    let root : root_named c.in-Some.kept c.in-Some-version_of.name.now ≡ Some (c.in-Some-root_of.version.0, c.in-Some-root_of.root) = sym c.root_of.ensures ∙ ap (option_map found) c.in-Some-root_of.is in
    subst (IsJobOf c.args.known.now) (sym c.in_ok-begin_on.ensures.same)
    (job_begins c.args.known.now c.in-Some.kept c.args.self.now.op c.args.self.now.spoiled c.in-Some-root_of.version c.in-Some-root_of.root c.begin_on.new.self.job c.in-Some.is c.has_entries.ensures (subst HasRightSteps c.get-2.ensures c.has_right_steps.ensures)
    (admits_start c.args.known.now c.in-Some.kept c.args.self.now c.in-Some.is c.requires.may c.in-Some-version_of.name.now c.in-Some-root_of.version c.in-Some-root_of.root named root) c.in_ok-begin_on.ensures.begins)

pub unreachable-requires-in_default-root_of : goal.unreachable-requires-in_default-root_of
unreachable-requires-in_default-root_of c =
    let named : version_name c.args.self.now.op ≡ Some c.in-Some-version_of.name.now = ap version_name (sym c.get.ensures) ∙ (sym c.version_of.ensures ∙ ap (option_map (λ n. n.now)) c.in-Some-version_of.is) in
    may_root c.args.known.now c.args.self.now c.in-Some.kept c.in-Some-version_of.name.now c.requires.may c.in-Some.is named
    (sym c.root_of.ensures ∙ ap (option_map found) c.in_default-root_of.is)
