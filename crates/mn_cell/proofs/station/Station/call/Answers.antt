use Rattle.std.proofs.Common.{rules, ◌≡◌, ℕ, Bool, false, List, Option, ◌∷◌, Some, inl, inr, refl, sym, ap, ◌∙◌, subst}
use Rattle.mn_base.specs.declared.ids.ClientNo.{ClientNo}
use Rattle.mn_base.specs.declared.ids.NodeNo.{NodeNo}
use Rattle.mn_base.specs.declared.ids.Tid.{Tid}
use Rattle.mn_base.specs.declared.gate.StopAt.{StopAt}
use Rattle.mn_mini.specs.declared.request.Request.{Request}
use Rattle.mn_mini.specs.declared.reply.NodeReply.{NodeReply}
use Rattle.mn_mini.specs.declared.reply.NodeReply.TheVariants as Say
use Rattle.mn_actors.specs.declared.actor.Actor.TheVariants.{Client}
use Rattle.mn_actors.specs.Lists.{held}
use Rattle.mn_actors.specs.Sight.{view_of}
use Rattle.mn_runs.specs.declared.entry.Entry.{Entry}
use Rattle.mn_runs.specs.Protocol.{entries_of, start_of}
use Rattle.mn_cell.specs.Calls.{HasLengths, IsLarge, entry_at, what_said}
use Rattle.mn_cell.specs.Promises.{HasRoomForStep, IsOwed, IsOwedAt, IsOwing, decided_by, decided_in}
use Rattle.mn_cell.specs.Station.{HasMadeEntries, list_by, list_in}
use Rattle.mn_cell.proofs.Fills.{fit_lengths}
use Rattle.mn_io.specs.DiskModel.{LeavesOnly}
use Rattle.mn_node.specs.Node.{IsUpToWithOrWithout}
use Rattle.mn_node.specs.State.{response_to}
use Rattle.mn_cell.proofs.Made.{base_is, keeps_stop, made_called, made_unchanged, up_rests}
use Rattle.mn_cell.proofs.OneLog.{owed_here}
use Rattle.mn_cell.proofs.Owed.{newest_entry, owes_what_is_owed, owing_stays}
use Rattle.mn_cell.proofs.Passed.{held_in, list_of_pass}
use Rattle.mn_cell.proofs.station.Station.call.Goals as goal

-- what a step of a call decides
decided_said : (request : Request) (stop : Option StopAt) (reply : NodeReply)
    → decided_in (what_said request stop reply) ≡ decided_by request
decided_said request stop (Say.Done reads) = refl
decided_said request stop (Say.BadLock start size holder) = refl
decided_said request stop (Say.BadCompare item found) = refl
decided_said request stop Say.BadForced = refl
decided_said request stop (Say.Vote verdict) = refl
decided_said request stop Say.Decided = refl
decided_said request stop (Say.Listed doubts) = refl
decided_said request stop (Say.Peeked bytes) = refl
decided_said request stop Say.Down = refl
decided_said request stop Say.Stopped = refl
decided_said request stop Say.NoMemory = refl

pub call_entry-made-requires : goal.call_entry-made-requires
call_entry-made-requires g c =
    subst (λ (l : Option (List ℕ)). HasLengths l c.handle-reply.result) (sym c.in-Ok.ensures.blanks)
    (fit_lengths c.args.request c.handle-reply.result c.handle-reply.ensures.fits)

pub enter-own-requires-clause-place : goal.enter-own-requires-clause-place
enter-own-requires-clause-place g c =
    subst (λ (d : Option Tid). HasRoomForStep c.prepare.new.owing (Some c.prepare.new.list.client) d)
    (sym (ap (λ (e : Entry). decided_in e.what) c.in-Ok-made.ensures.made ∙ decided_said c.args.request c.args.stop c.handle-reply.result))
    (subst (λ (k : ClientNo). HasRoomForStep c.prepare.new.owing (Some k) (decided_by c.args.request)) (sym c.prepare.ensures.client) c.in-Ok.ensures.place)

pub enter-own-requires-clause-owing : goal.enter-own-requires-clause-owing
enter-own-requires-clause-owing g c =
    let n = c.self.inside.number in
    let owing = c.prepare.new.owing in
    let pass = sym c.take.ensures.value ∙ c.in-Some.is in
    subst (λ (l : List (ℕ × Entry)). IsOwing l owing.size owing.owed) (list_of_pass n c.self.inside.pass c.in-Some.own pass)
    (owing_stays _ _ _ _ _ c.self.invariant.1 c.prepare.ensures.owing.0 c.prepare.ensures.owing.1)

pub returns-clause-stop : goal.returns-clause-stop
returns-clause-stop g c = keeps_stop g.D.Disk.state g.D.Disk.faults c.self.inside.node c.handle-reply.new.self c.args.request c.args.stop c.handle-reply.result c.handle-reply.ensures.answers

pub invariant_of-self-2 : goal.invariant_of-self-2
invariant_of-self-2 g c =
    let n = c.self.inside.number in
    let start = start_of g.N.Named.records in
    let es = entries_of (list_by n c.self.inside.pass) in
    let old = c.self.invariant.2 in
    let enter = c.enter-own.ensures in
    let pass = sym c.take.ensures.value ∙ c.in-Some.is in
    let own = list_in n c.in-Some.own in
    let e = entry_at n c.client-client.result (what_said c.args.request c.args.stop c.handle-reply.result) in
    let made = made_called g.D.Disk.state g.D.Disk.faults start n (g.N.Named.faults n.0) (g.N.Named.honest n.0) es c.self.inside.node c.handle-reply.new.self old c.handle-reply.ensures.goes_on (base_is g.N.Named.records n old.among)
    c.client-client.result c.args.request c.args.stop c.handle-reply.result c.handle-reply.ensures.answers (c.is_entry.ensures.yes c.if-not-is_entry.false) in
    let entries = ap (λ (l : List (ℕ × Entry)). entries_of l) enter.ends.ends_node
    ∙ newest_entry own enter.ends.place c.in-Ok-made.entry
    ∙ ap (λ (e : Entry). e ∷ entries_of own) c.in-Ok-made.ensures.made
    ∙ ap (λ (l : List (ℕ × Entry)). e ∷ entries_of l) (sym (list_of_pass n c.self.inside.pass c.in-Some.own pass)) in (
      (enter.board.0 ∙ c.requires.board.0, enter.owns.0, held_in n c.enter-own.result enter.owns.0.0),
      enter.owing,
      subst (λ (l : List Entry). HasMadeEntries g.D.Disk.state g.D.Disk.faults start n (g.N.Named.faults n.0) (g.N.Named.honest n.0) l c.handle-reply.new.self) (sym entries) made,
    )

pub invariant_of-self-then-not-is_entry : goal.invariant_of-self-then-not-is_entry
invariant_of-self-then-not-is_entry g c =
    let n = c.self.inside.number in
    let start = start_of g.N.Named.records in
    let es = entries_of (list_by n c.self.inside.pass) in
    let old = c.self.invariant.2 in
    let made = made_unchanged g.D.Disk.state g.D.Disk.faults start n (g.N.Named.faults n.0) (g.N.Named.honest n.0) es c.self.inside.node c.handle-reply.new.self old c.handle-reply.ensures.goes_on (base_is g.N.Named.records n old.among)
    c.args.request c.args.stop c.handle-reply.result c.handle-reply.ensures.answers (inl (c.is_entry.ensures.no c.if-not-is_entry.true)) in
    (c.self.invariant.0, owing_stays _ _ _ _ _ c.self.invariant.1 c.prepare.ensures.owing.0 c.prepare.ensures.owing.1, made)

pub invariant_of-self-in_default-made : goal.invariant_of-self-in_default-made
invariant_of-self-in_default-made g c =
    let n = c.self.inside.number in
    let start = start_of g.N.Named.records in
    let es = entries_of (list_by n c.self.inside.pass) in
    let old = c.self.invariant.2 in
    let made = made_unchanged g.D.Disk.state g.D.Disk.faults start n (g.N.Named.faults n.0) (g.N.Named.honest n.0) es c.self.inside.node c.handle-reply.new.self old c.handle-reply.ensures.goes_on (base_is g.N.Named.records n old.among)
    c.args.request c.args.stop c.handle-reply.result c.handle-reply.ensures.answers (inr (subst (λ (l : Option (List ℕ)). IsLarge l c.handle-reply.result) c.in-Ok.ensures.blanks c.in_default-made.ensures.large)) in
    (c.self.invariant.0, owing_stays _ _ _ _ _ c.self.invariant.1 c.prepare.ensures.owing.0 c.prepare.ensures.owing.1, made)

pub returns-in_default-clause-list : goal.returns-in_default-clause-list
returns-in_default-clause-list g c = c.compare.ensures.pass.0.1 (Client c.args.list.now.client) ∙ (c.requires.list ∙ ap (λ (l : List (ℕ × Entry)). Some l) (sym c.in_default.ensures.entries))

pub returns-in_default-clause-owed : goal.returns-in_default-clause-owed
returns-in_default-clause-owed g c = λ owed room _.
    let n = c.self.inside.number in
    let decided = decided_by c.args.request in
    let client = c.client-client.result in
    let list = c.args.list.now.entries in
    let own = list_by n c.self.inside.pass in
    let here : IsOwedAt n decided (entries_of list) = subst (λ (k : NodeNo). IsOwedAt k decided (entries_of list)) (ap (λ s. s.number) (sym c.self.view_is)) owed in
    let one = c.compare.ensures.one_log list (subst (λ (k : ClientNo). held (view_of c.args.pass.now) (Client k) ≡ Some list) (sym c.client-client.ensures.client) c.requires.list) in
    let owes = owed_here n client own list one decided here in
    let owes' = subst (λ (k : ClientNo). IsOwed (Some k) decided (entries_of own)) c.client-client.ensures.client owes in
    c.in_default.ensures.owed (owes_what_is_owed own c.self.inside.owing.size c.self.inside.owing.owed c.self.invariant.1 c.args.list.now.client decided owes') room

pub returns-in_default-clause-moments : goal.returns-in_default-clause-moments
returns-in_default-clause-moments g c up honest =
    let state = g.D.Disk.state in
    let n = c.self.inside.node in
    let was : c.args.self.now.node ≡ n = search rules in
    let is : c.compare.new.self.node ≡ n = search rules in
    let down : c.is_down-down.result ≡ false = search rules in
    let rests = up_rests state n (response_to n c.args.request).added c.is_down-down.ensures.within (c.is_down-down.ensures.up down) (g.D.Disk.is_disk n.disk) (subst (λ o. (state o.disk).honest) was honest) in
    let after = subst (λ m. LeavesOnly (state n.disk) (state m.disk) (IsUpToWithOrWithout n.node n.nodes n.records (response_to n c.args.request).added)) (sym is) rests in
    subst (λ o. LeavesOnly (state o.disk) (state c.compare.new.self.node.disk) (IsUpToWithOrWithout o.node o.nodes o.records (response_to o c.args.request).added)) (sym was) after
