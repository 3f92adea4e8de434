use Rattle.std.proofs.Common.{◌≡◌, ℕ, ◌+◌, ◌<◌, ◌&&◌, ◌∷◌, false, Option, if◌then◌else◌, length, vec_len, slice_set, slice_index_or, refl, subst, sym, ap, ◌∙◌, arith}
use Rattle.std.specs.Option.{option_map_or}
use Rattle.std.specs.Vec.{with_item, with_items}
use Rattle.std.proofs.lemmas.List.{with_items_is}
use Rattle.mn_base.specs.Ids.{client_same, tid_same}
use Rattle.mn_base.specs.declared.ids.Tid.{Tid}
use Rattle.mn_runs.specs.Calls.{client_entries}
use Rattle.mn_hist.specs.declared.points.Step.{Step}
use Rattle.mn_hist.specs.declared.points.Watch.{Watch}
use Rattle.mn_hist.specs.Points.{with_met}
use Rattle.mn_hist.specs.Watching.{AreNumbersUnderWay, number_of, step_fits, votes_kept}
use Rattle.mn_hist.proofs.Flags.{step_is}
use Rattle.mn_hist.proofs.Putting.{at_index}
use Rattle.mn_hist.proofs.Watched.{watched_more, numbers_more, votes_more, votes_told}
use Rattle.mn_hist.proofs.points.Watch.note_own.Goals as goal

pub returns-clause-watches : goal.returns-clause-watches
returns-clause-watches c = λ past is watches.
    let client = c.args.client in
    let entry = c.args.entry.now in
    let old = c.args.self.now in
    let numbers = old.numbers.items in
    let s : Step = record { client = client; number = c.index-number.result.now; node = entry.node; votes = c.in_ok-votes.votes; asked = c.asked_in.result } in
    let few : client.0 < 256 = omega arith in
    let number : s.number ≡ number_of (client_entries client past) =
    at_index numbers client.0 s.number (number_of (client_entries client past)) (subst (λ (i : ℕ). s.number ≡ slice_index_or numbers i s.number) c.from.ensures c.index-number.ensures) (watches.numbers client few) in
    let long : length c.meet.new.met ≡ vec_len old.met = c.meet.ensures.long ∙ c.deref_mut.ensures.len in
    let new : Watch = record { numbers = with_item old.numbers c.from-2.result c.number_after.result; votes = c.count_vote.new.votes; met = with_items old.met c.meet.new.met } in
    watched_more old new c.args.points.now past entry client s is
    (step_is past entry client s is refl number refl (c.in_ok-votes.ensures.count ∙ votes_told old.votes past client c.voted_id.result entry.what c.voted_id.ensures watches.votes) c.asked_in.ensures)
    (with_items_is old.met c.meet.new.met long ∙ (c.meet.ensures.met ∙ ap (with_met (step_fits s) c.args.points.now) c.deref_mut.ensures.value))
    (subst (λ (i : ℕ). AreNumbersUnderWay (slice_set numbers i c.number_after.result) (entry ∷ past)) (sym c.from-2.ensures)
    (subst (λ (n : Option ℕ). AreNumbersUnderWay (slice_set numbers client.0 n) (entry ∷ past)) (sym c.number_after.ensures)
    (numbers_more numbers past entry client s.number few is watches.numbers number)))
    (votes_more old.votes c.count_vote.new.votes past entry client is
    (λ d t. c.in_ok-votes.ensures.kept d t ∙ ap (λ (o : Option Tid). if client_same client d && option_map_or (λ u. tid_same u t) o false then votes_kept old.votes d t + 1 else votes_kept old.votes d t) c.voted_id.ensures)
    watches.votes)
    watches
