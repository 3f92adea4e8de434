-- In every run the places of pages and entries are settled; what is held of committed ids has greater
-- numbers at every place.
use Rattle.std.proofs.Common.{◌≡◌, ℕ, ◌<◌, true, List, [], ◌∷◌, ◌++◌, length, refl, subst, sym, ap, ◌∙◌}
use Rattle.std.specs.List.{AllByRecursion}
use Rattle.mn_base.proofs.Lists.{all_both}
use Rattle.mn_base.specs.Store.{Store}
use Rattle.mn_mini.specs.Node.{HeldPart, held_parts, has_voted}
use Rattle.mn_runs.specs.declared.entry.Entry.{Entry}
use Rattle.mn_serial.specs.History.{Placed}
use Rattle.mn_runs.specs.Seen.{Place}
use Rattle.mn_law.specs.Places.{number_in, WritesWhole}
use Rattle.mn_runs.specs.Protocol.{Start, start_nodes, base_at, records_of}
use Rattle.mn_runs.specs.Sound.{is_committed}
use Rattle.mn_law.specs.Opened.{HeldAreGreater}
use Rattle.mn_serial.specs.Settled.{own_content, PlacesAreSettled}
use Rattle.mn_commits.proofs.Bytes.Even.{comm, PartOf, held_at}
use Rattle.mn_commits.proofs.Bytes.Step.{held_voted}
use Rattle.mn_commits.proofs.Bytes.Spaces.{whole_run, held_committed}
use Rattle.mn_serial.proofs.Meaning.Kept.{Known}
use Rattle.mn_serial.proofs.Meaning.Legal.{known_run}
use Rattle.mn_serial.proofs.Meaning.Exists.{history_exists}

pub places_are_settled : PlacesAreSettled
places_are_settled start store past place h numbered low =
    let history = history_exists start store past h in
    let known = known_run start store past history.0 h.opened.sound h.opened h.run history.1 in
    (known.contents place numbered low).settled

pub held_are_greater : (start : Start) (store : Store) (past : List Entry) (placed : List Placed) → Known start store past placed → HeldAreGreater (start_nodes start) (base_at start) (records_of start past)
held_are_greater start store past placed known place numbered low =
    let n = place.node in
    let w = whole_run start past known.sound known.follows in
    let records = records_of start past n in
    let same : AllByRecursion (λ h. is_committed (start_nodes start) (records_of start past) h.tid ≡ comm start past h.tid) (held_parts records) =
    all_both (PartOf start past n) (λ h. has_voted records h.tid ≡ true) (λ h. is_committed (start_nodes start) (records_of start past) h.tid ≡ comm start past h.tid)
    (λ h p v. held_committed start past n h w.kept low p v) (held_parts records) (held_at start past n records (w.kept.records n)) (held_voted records) in
    all_both (λ h. is_committed (start_nodes start) (records_of start past) h.tid ≡ comm start past h.tid)
    (λ h. comm start past h.tid ≡ true → AllByRecursion (WritesWhole place (λ bytes. number_in (own_content start past place) < number_in bytes)) h.part)
    (λ h. is_committed (start_nodes start) (records_of start past) h.tid ≡ true → AllByRecursion (WritesWhole place (λ bytes. number_in (own_content start past place) < number_in bytes)) h.part)
    (λ h is greater on. greater (sym is ∙ on)) (held_parts records) same (known.contents place numbered low).greater
