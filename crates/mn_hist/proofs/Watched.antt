-- What one more entry makes of what is kept to tell which crash points were met.
use Rattle.std.proofs.Common.{◌≡◌, ℕ, zero, suc, ◌+◌, ◌<◌, true, false, ◌&&◌, List, [], ◌∷◌, length, filter, replicate, Option, Some, None, if◌then◌else◌, refl, subst, sym, ap, ◌∙◌, arith}
use Rattle.std.specs.Prelude.{nat_eq, slice_get, slice_set}
use Rattle.std.specs.HashMap.{HashMap}
use Rattle.std.proofs.lemmas.Bool.Decides.{nat_tests}
use Rattle.std.specs.Option.{option_map, option_map_or}
use Rattle.mn_base.specs.Ids.{client_same, tid_same}
use Rattle.mn_base.specs.declared.ids.ClientNo.{ClientNo}
use Rattle.mn_base.specs.declared.ids.Tid.{Tid}
use Rattle.mn_base.proofs.Booleans.{both_parts, clash}
use Rattle.mn_base.proofs.Lists.{set_at}
use Rattle.mn_page.proofs.Alike.{get-set_other}
use Rattle.mn_runs.specs.declared.entry.Entry.{Entry}
use Rattle.mn_runs.specs.declared.entry.What.{What}
use Rattle.mn_runs.specs.declared.entry.What.TheVariants.{Begin, Issue, Called, Stopped, Restarted, Abandoned, Answered}
use Rattle.mn_runs.specs.Calls.{Begun, is_by, client_entries, under_way, under_way_after}
use Rattle.mn_runs.proofs.Same.{client_same-refl, client_same-true, tid_same-true}
use Rattle.mn_script.specs.declared.elements.Point.{Point}
use Rattle.mn_hist.specs.declared.points.Step.{Step}
use Rattle.mn_hist.specs.declared.points.TryKey.{TryKey}
use Rattle.mn_hist.specs.declared.points.Watch.{Watch}
use Rattle.mn_hist.specs.Points.{is_vote_for, points_met, voted_id, votes_for, votes_with, with_met, point_fits}
use Rattle.mn_hist.specs.Watching.{AreNumbersUnderWay, CountsVotes, TellsPointsMet, number_after, number_of, step_fits, votes_kept}
use Rattle.mn_hist.proofs.Flags.{of_no_client, with_none, with_same}

-- Lists of a client

pub by_it : (e : Entry) (c : ClientNo) → e.client ≡ Some c → is_by c e ≡ true
by_it e c is = ap (λ (o : Option ClientNo). option_map_or (client_same c) o false) is ∙ client_same-refl c

pub by_another : (e : Entry) (c d : ClientNo) → e.client ≡ Some c → client_same d c ≡ false → is_by d e ≡ false
by_another e c d is other = ap (λ (o : Option ClientNo). option_map_or (client_same d) o false) is ∙ other

pub by_none : (e : Entry) (d : ClientNo) → e.client ≡ None → is_by d e ≡ false
by_none e d is = ap (λ (o : Option ClientNo). option_map_or (client_same d) o false) is

pub entries_with : (e : Entry) (past : List Entry) (c : ClientNo) → is_by c e ≡ true → client_entries c (e ∷ past) ≡ e ∷ client_entries c past
entries_with e past c by = ap (λ b. if b then e ∷ client_entries c past else client_entries c past) by

pub entries_without : (e : Entry) (past : List Entry) (c : ClientNo) → is_by c e ≡ false → client_entries c (e ∷ past) ≡ client_entries c past
entries_without e past c by = ap (λ b. if b then e ∷ client_entries c past else client_entries c past) by

-- Numbers of operations

number_step : (what : What) (o : Option Begun) → option_map (λ b. b.number) (under_way_after what o) ≡ number_after what (option_map (λ b. b.number) o)
number_step (Begin number op) o = refl
number_step (Answered number answer) o = refl
number_step (Issue tid mini) o = refl
number_step (Called request reply) o = refl
number_step (Stopped request asked) o = refl
number_step (Restarted kept) o = refl
number_step (Abandoned tid) o = refl

set_one : {X : Type 0} (xs : List X) (f g : ClientNo → X) (c : ClientNo) (new : X) → c.0 < 256
    → ((d : ClientNo) → d.0 < 256 → slice_get xs d.0 ≡ Some (f d)) → new ≡ g c → ((d : ClientNo) → client_same d c ≡ false → f d ≡ g d)
    → (d : ClientNo) → d.0 < 256 → slice_get (slice_set xs c.0 new) d.0 ≡ Some (g d)
set_one xs f g c new few are here beside d few' =
    elim (client_same d c) as (λ b. client_same d c ≡ b → slice_get (slice_set xs c.0 new) d.0 ≡ Some (g d)) [
      | true ↦ λ same. subst (λ (x : ClientNo). slice_get (slice_set xs c.0 new) x.0 ≡ Some (g x)) (sym (client_same-true d c same))
          (set_at xs c.0 (f c) new (are c few) ∙ ap Some here)
      | false ↦ λ other. get-set_other xs c.0 d.0 new (λ eq. clash (client_same d c) (subst (λ (n : ℕ). nat_eq n c.0 ≡ true) eq (client_same-refl c)) other)
          ∙ (are d few' ∙ ap Some (beside d other))
    ] refl

pub numbers_more : (numbers : List (Option ℕ)) (past : List Entry) (e : Entry) (c : ClientNo) (n : Option ℕ) → c.0 < 256 → e.client ≡ Some c → AreNumbersUnderWay numbers past
    → n ≡ number_of (client_entries c past) → AreNumbersUnderWay (slice_set numbers c.0 (number_after e.what n)) (e ∷ past)
numbers_more numbers past e c n few is are same =
    set_one numbers (λ d. number_of (client_entries d past)) (λ d. number_of (client_entries d (e ∷ past))) c (number_after e.what n) few are
    (ap (number_after e.what) same ∙ (sym (number_step e.what (under_way (client_entries c past))) ∙ sym (ap number_of (entries_with e past c (by_it e c is)))))
    (λ d other. sym (ap number_of (entries_without e past d (by_another e c d is other))))

pub numbers_kept : (numbers : List (Option ℕ)) (past : List Entry) (e : Entry) → e.client ≡ None → AreNumbersUnderWay numbers past → AreNumbersUnderWay numbers (e ∷ past)
numbers_kept numbers past e none are = λ d few. are d few ∙ ap Some (sym (ap number_of (entries_without e past d (by_none e d none))))

-- a list of one thing has it everywhere
pub all_same : {X : Type 0} (n i : ℕ) (x : X) → i < n → slice_get (replicate n x) i ≡ Some x
all_same zero i x lt = absurd (omega (arith, lt))
all_same (suc n) zero x lt = refl
all_same (suc n) (suc i) x lt = all_same n i x (omega (arith, lt))

-- Votes

-- one more for the id that was counted
pub counted : {S : Type 0} (votes : HashMap TryKey ℕ S) (c d : ClientNo) (tid t : Tid)
    → (if client_same c d && tid_same tid t then votes_kept votes c tid + 1 else votes_kept votes d t) ≡ (if client_same c d && tid_same tid t then votes_kept votes d t + 1 else votes_kept votes d t)
counted votes c d tid t =
    elim (client_same c d && tid_same tid t) as (λ b. (client_same c d && tid_same tid t) ≡ b → (if b then votes_kept votes c tid + 1 else votes_kept votes d t) ≡ (if b then votes_kept votes d t + 1 else votes_kept votes d t)) [
      | true ↦ λ same.
          let parts = both_parts (client_same c d) (tid_same tid t) same in
          λ i. votes_kept votes (client_same-true c d parts.0 i) (tid_same-true tid t parts.1 i) + 1
      | false ↦ λ other. refl
    ] refl

vote_counted : (tid : Tid) (e : Entry) (es : List Entry) → (if is_vote_for tid e then votes_for tid es + 1 else votes_for tid es) ≡ votes_for tid (e ∷ es)
vote_counted tid e es =
    elim (is_vote_for tid e) as (λ b. (if b then votes_for tid es + 1 else votes_for tid es) ≡ length (if b then e ∷ filter (is_vote_for tid) es else filter (is_vote_for tid) es)) [
      | true ↦ one_more (votes_for tid es)
      | false ↦ refl
    ]
  where
    one_more : (n : ℕ) → n + 1 ≡ suc n
    one_more n = omega arith

numbers_turned : (a b : ℕ) → nat_eq a b ≡ nat_eq b a
numbers_turned a b = grind (arith, nat_tests)

clients_turned : (c d : ClientNo) → client_same c d ≡ client_same d c
clients_turned c d = numbers_turned c.0 d.0

ids_turned : (t u : Tid) → tid_same t u ≡ tid_same u t
ids_turned t u = λ i. numbers_turned t.run u.run i && (clients_turned t.client u.client i && numbers_turned t.serial u.serial i)

vote_turned : (t : Tid) (voted : Option Tid) → option_map_or (λ u. tid_same u t) voted false ≡ option_map_or (tid_same t) voted false
vote_turned t None = refl
vote_turned t (Some u) = ids_turned u t

pub votes_more : {S : Type 0} (old new : HashMap TryKey ℕ S) (past : List Entry) (e : Entry) (c : ClientNo) → e.client ≡ Some c
    → ((d : ClientNo) (t : Tid) → votes_kept new d t ≡ (if client_same c d && option_map_or (λ u. tid_same u t) (voted_id e.what) false then votes_kept old d t + 1 else votes_kept old d t))
    → CountsVotes old past → CountsVotes new (e ∷ past)
votes_more old new past e c is more counts = λ d t.
    more d t ∙
    (ap (λ b. if b && option_map_or (λ u. tid_same u t) (voted_id e.what) false then votes_kept old d t + 1 else votes_kept old d t) (clients_turned c d) ∙
    (ap (λ b. if client_same d c && b then votes_kept old d t + 1 else votes_kept old d t) (vote_turned t (voted_id e.what)) ∙
    elim (client_same d c) as (λ b. client_same d c ≡ b → (if b && is_vote_for t e then votes_kept old d t + 1 else votes_kept old d t) ≡ votes_for t (client_entries d (e ∷ past))) [
      | true ↦ λ same.
          ap (λ (n : ℕ). if is_vote_for t e then n + 1 else n) (counts d t)
          ∙ (vote_counted t e (client_entries d past)
          ∙ sym (ap (votes_for t) (entries_with e past d (by_it e d (is ∙ ap Some (sym (client_same-true d c same)))))))
      | false ↦ λ other. counts d t ∙ sym (ap (votes_for t) (entries_without e past d (by_another e c d is other)))
    ] refl))

pub votes_told : {S : Type 0} (votes : HashMap TryKey ℕ S) (past : List Entry) (c : ClientNo) (voted : Option Tid) (what : What) → voted ≡ voted_id what → CountsVotes votes past
    → option_map (λ tid. votes_kept votes c tid + 1) voted ≡ votes_with (client_entries c past) what
votes_told votes past c voted what is counts = all voted ∙ ap (option_map (λ tid. votes_for tid (client_entries c past) + 1)) is
  where
    all : (o : Option Tid) → option_map (λ tid. votes_kept votes c tid + 1) o ≡ option_map (λ tid. votes_for tid (client_entries c past) + 1) o
    all None = refl
    all (Some tid) = ap (λ (n : ℕ). Some (n + 1)) (counts c tid)

pub votes_same : {S : Type 0} (votes : HashMap TryKey ℕ S) (past : List Entry) (e : Entry) → e.client ≡ None → CountsVotes votes past → CountsVotes votes (e ∷ past)
votes_same votes past e none counts = λ d t. counts d t ∙ sym (ap (votes_for t) (entries_without e past d (by_none e d none)))

-- All of it

pub watched_more : (old new : Watch) (points : List Point) (past : List Entry) (e : Entry) (c : ClientNo) (s : Step) → e.client ≡ Some c
    → ((p : Point) → step_fits s p ≡ point_fits past e p) → new.met.items ≡ with_met (step_fits s) points old.met.items
    → AreNumbersUnderWay new.numbers.items (e ∷ past) → CountsVotes new.votes (e ∷ past) → TellsPointsMet old points past → TellsPointsMet new points (e ∷ past)
watched_more old new points past e c s is step met numbers votes watches = record {
  met = met ∙ (ap (with_met (step_fits s) points) watches.met ∙ with_same (step_fits s) (point_fits past e) step points (points_met points past));
  numbers = numbers;
  votes = votes;
}

pub watched_none : (watch : Watch) (points : List Point) (past : List Entry) (e : Entry) → e.client ≡ None → TellsPointsMet watch points past → TellsPointsMet watch points (e ∷ past)
watched_none watch points past e none watches = record {
  met = watches.met ∙ sym (with_none (point_fits past e) (of_no_client past e none) points (points_met points past));
  numbers = numbers_kept watch.numbers.items past e none watches.numbers;
  votes = votes_same watch.votes past e none watches.votes;
}

-- No points

pub meets_none : (points : List Point) (es : List Entry) → length points ≡ 0 → points_met points es ≡ []
meets_none [] [] none = refl
meets_none [] (e ∷ es) none = meets_none [] es refl
meets_none (p ∷ points) es none = absurd (omega (arith, none))
