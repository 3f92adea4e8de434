use Rattle.std.proofs.Common.{◌≡◌, ℕ, List, Bool, refl, true, false, Option, Some, None, subst, sym}
use Rattle.std.specs.Prelude.{MatchOption}
use Rattle.mn_base.specs.declared.answer.Busy.{Busy}
use Rattle.mn_page.specs.declared.entry.CatEntry.{CatEntry}
use Rattle.mn_txn.specs.declared.seen.SeenPage.{SeenPage}
use Rattle.mn_work.specs.declared.attempt.Attempt.{Attempt}
use Rattle.mn_work.specs.declared.known.Known.{Known}
use Rattle.mn_work.specs.Among.{FaultIsMet}
use Rattle.mn_work.specs.Attempts.{IsFault}
use Rattle.mn_work.proofs.attempt.Attempt.fault.Goals as goal

found : (known : Known) (later : Bool) (a : Attempt) (key : List ℕ) (kept : List CatEntry) (o : Option Busy)
    → later ≡ true → known.catalog ≡ Some kept
    → FaultIsMet known.nodes kept a.version key a.root a.pages.items o → IsFault known later a key o
found known later a key kept None is at met = tt
found known true a key kept (Some busy) is at met =
    (refl, subst (λ (c : Option (List CatEntry)). MatchOption c ⊥ (λ es. FaultIsMet known.nodes es a.version key a.root a.pages.items (Some busy))) (sym at) met)
found known false a key kept (Some busy) is at met = absurd cc

pub returns-in-Some : goal.returns-in-Some
returns-in-Some c =
    found c.args.known.now c.args.later c.args.self.now c.args.key.now c.in-Some.kept c.fault_among.result c.if-not-later.false c.in-Some.is
    (subst (λ (key : List ℕ). FaultIsMet c.args.known.now.nodes c.in-Some.kept c.args.self.now.version key c.args.self.now.root c.args.self.now.pages.items c.fault_among.result) c.as_slice-in-Some.ensures.bytes
    (subst (λ (pages : List SeenPage). FaultIsMet c.args.known.now.nodes c.in-Some.kept c.args.self.now.version c.as_slice-in-Some.result.now c.args.self.now.root pages c.fault_among.result) c.as_slice.ensures.value c.fault_among.ensures))
