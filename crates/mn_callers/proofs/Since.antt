-- Where each caller's list only grew, at places from the one that was known, a trail goes on by entries of those.
use Rattle.std.proofs.Common.{◌≡◌, ℕ, suc, ◌<◌, ◌≤◌, ◌⊎◌, Bool, true, false, Option, Some, None, List, [], ◌∷◌, ◌++◌, map, filter, reverse, refl, sym, ap, ◌∙◌, subst, inl, inr, ⊎_elim, arith, if◌then◌else◌, nat_lt}
use Rattle.std.specs.Prelude.{Contains, IsSomeAnd}
use Rattle.std.specs.List.{AllByRecursion}
use Rattle.std.specs.Option.{option_map_or}
use Rattle.std.proofs.lemmas.Bool.{ltb-false, ltb-true}
use Rattle.std.proofs.lemmas.List.{map-append, reverse-reverse}
use Rattle.atomic_table.specs.Seated.{TableId}
use Rattle.mn_actors.specs.declared.clock.View.{View}
use Rattle.mn_actors.specs.Lists.{IsSameLists}
use Rattle.mn_base.specs.Ids.{client_same}
use Rattle.mn_base.specs.declared.ids.ClientNo.{ClientNo}
use Rattle.mn_cell.specs.Hearing.{HasOneLog, StationsStay}
use Rattle.mn_cell.specs.Station.{StationState}
use Rattle.mn_runs.specs.declared.entry.Entry.{Entry}
use Rattle.mn_runs.specs.Calls.{is_by}
use Rattle.mn_runs.specs.Protocol.{Start}
use Rattle.mn_runs.proofs.Same.{client_same-refl}
use Rattle.mn_callers.specs.Hands.{Fall}
use Rattle.mn_callers.specs.Hearing.{GoesOnFrom, HaveGrown, IsAmongOwn}
use Rattle.mn_callers.specs.Logs.{HasLog}
use Rattle.mn_callers.specs.Plays.{HasTrail, IsAtRest, IsManned, PlayState}
use Rattle.mn_callers.specs.Turn.{callers_count, past_in, trail_by}
use Rattle.mn_callers.proofs.Heard.{AreCalled, heard_trail, still_rests}
use Rattle.mn_callers.proofs.OneTrail.{In, fall_climbs, in_back, in_filter, in_front, in_reverse, of_filter, of_reverse, same_lists}

-- Members

in_either : (x : ℕ × Entry) (a b : List (ℕ × Entry)) → In x (a ++ b) → In x a ⊎ In x b
in_either x [] b is = inr is
in_either x (y ∷ a) b is =
    ⊎_elim (λ (e : x ≡ y). inl (inl e)) (λ (there : In x (a ++ b)). ⊎_elim (λ (one : In x a). inl (inr one)) (λ (other : In x b). inr other) (in_either x a b there)) is

all_in : (P : ℕ × Entry → Type 0) (l : List (ℕ × Entry)) (x : ℕ × Entry) → AllByRecursion P l → In x l → P x
all_in P [] x all is = absurd is
all_in P (y ∷ l) x all is = ⊎_elim (λ (e : x ≡ y). subst P (sym e) all.0) (λ (there : In x l). all_in P l x all.1 there) is

-- what holds of each member's entry holds of all entries
all_past : (P : Entry → Type 0) (l : List (ℕ × Entry)) → ((x : ℕ × Entry) → In x l → P x.1) → AllByRecursion P (past_in l)
all_past P [] each = tt
all_past P (x ∷ l) each = (each x (inl refl), all_past P l (λ y is. each y (inr is)))

has_entry : (x : ℕ × Entry) (l : List (ℕ × Entry)) → In x l → Contains (map (λ p. p.1) l) x.1
has_entry x [] is = absurd is
has_entry x (y ∷ l) is = ⊎_elim
    (λ (e : x ≡ y). (0, omega arith, ap (λ (q : ℕ × Entry). q.1) (sym e)))
    (λ (there : In x l). let deep = has_entry x l there in let within = deep.1 in (suc deep.0, omega arith, deep.2))
    is

-- Falling lists

falls_below : (known : ℕ) (t : List (ℕ × Entry)) (x : ℕ × Entry) → Fall known t → In x t → x.0 < known
falls_below known [] x falls is = absurd is
falls_below known (p ∷ t) x falls is = ⊎_elim
    (λ (e : x ≡ p). subst (λ (q : ℕ × Entry). q.0 < known) (sym e) falls.0)
    (λ (there : In x t). let deep : x.0 < p.0 = falls_below p.0 t x falls.1 there in let first = falls.0 in omega arith)
    is

-- those from a place on, and those below it
abbrev upper : ℕ → List (ℕ × Entry) → List (ℕ × Entry)
upper k [] = []
upper k (p ∷ t) = if nat_lt p.0 k then [] else p ∷ upper k t

abbrev lower : ℕ → List (ℕ × Entry) → List (ℕ × Entry)
lower k [] = []
lower k (p ∷ t) = if nat_lt p.0 k then p ∷ t else lower k t

both_parts : (k : ℕ) (t : List (ℕ × Entry)) → t ≡ upper k t ++ lower k t
both_parts k [] = refl
both_parts k (p ∷ t) = by (nat_lt p.0 k) (both_parts k t)
  where
    by : (b : Bool) → t ≡ upper k t ++ lower k t → p ∷ t ≡ (if b then [] else p ∷ upper k t) ++ (if b then p ∷ t else lower k t)
    by true is = refl
    by false is = ap (λ (l : List (ℕ × Entry)). p ∷ l) is

upper_later : (k : ℕ) (t : List (ℕ × Entry)) → AllByRecursion (λ p. k ≤ p.0) (upper k t)
upper_later k [] = tt
upper_later k (p ∷ t) = by (nat_lt p.0 k) refl (upper_later k t)
  where
    by : (b : Bool) → nat_lt p.0 k ≡ b → AllByRecursion (λ p. k ≤ p.0) (upper k t) → AllByRecursion (λ p. k ≤ p.0) (if b then [] else p ∷ upper k t)
    by true is all = tt
    by false is all = (ltb-false p.0 k is, all)

lower_falls : (k m : ℕ) (t : List (ℕ × Entry)) → Fall m t → Fall k (lower k t)
lower_falls k m [] falls = tt
lower_falls k m (p ∷ t) falls = by (nat_lt p.0 k) refl (lower_falls k p.0 t falls.1)
  where
    by : (b : Bool) → nat_lt p.0 k ≡ b → Fall k (lower k t) → Fall k (if b then p ∷ t else lower k t)
    by true is deep = (ltb-true p.0 k is, falls.1)
    by false is deep = deep

-- falling lists with the same members are one
falling_same : (known : ℕ) (a b : List (ℕ × Entry)) → Fall known a → Fall known b → ((x : ℕ × Entry) → In x a → In x b) → ((x : ℕ × Entry) → In x b → In x a) → a ≡ b
falling_same known a b fa fb to back =
    sym (reverse-reverse a)
    ∙ (ap reverse (same_lists 0 (reverse a) (reverse b) (fall_climbs known a fa).0 (fall_climbs known b fb).0 (λ x is. in_reverse x b (to x (of_reverse x a is))) (λ x is. in_reverse x a (back x (of_reverse x b is))))
    ∙ reverse-reverse b)

-- The members of a trail, by their callers

-- a member's caller
record HasOwner (e : Entry) : Type 0 where
  caller : ClientNo
  is : e.client ≡ Some caller
  below : caller.0 < callers_count

owner : (e : Entry) (o : Option ClientNo) → e.client ≡ o → IsSomeAnd o (λ c. c.0 < callers_count) → HasOwner e
owner e None is on = absurd on
owner e (Some c) is on = record { caller = c; is = is; below = on }

of_caller : (c : ClientNo) (t : List (ℕ × Entry)) (x : ℕ × Entry) → In x (trail_by c t) → In x t
of_caller c t x is = of_filter (λ p. is_by c p.1) x t (of_reverse x (filter (λ p. is_by c p.1) t) is)

to_caller : (c : ClientNo) (t : List (ℕ × Entry)) (x : ℕ × Entry) → x.1.client ≡ Some c → In x t → In x (trail_by c t)
to_caller c t x mine is =
    let tells : is_by c x.1 ≡ true = ap (λ (o : Option ClientNo). option_map_or (client_same c) o false) mine ∙ client_same-refl c in
    in_reverse x (filter (λ p. is_by c p.1) t) (in_filter (λ p. is_by c p.1) x t is tells)

-- The trail went on

module _ {D : Type 0} (own : ClientNo → List (ℕ × Entry)) (before p : PlayState D) (past : List Entry) (log : HasLog before past) (grew : HaveGrown own before p.callers) (now : HasTrail p.stations p.view.known p.callers) where
  abbrev k : ℕ
  k = before.view.known

  abbrev old : List (ℕ × Entry)
  old = log.trail.trail

  abbrev new : List (ℕ × Entry)
  new = now.trail

  -- what a caller has in the new trail it had before, or its list went on by it
  lists : (c : ClientNo) → c.0 < callers_count → trail_by c new ≡ trail_by c old ++ own c
  lists c below = sym (now.by c below) ∙ ((grew c below).0 ∙ ap (λ (l : List (ℕ × Entry)). l ++ own c) (log.trail.by c below))

  old_in_new : (x : ℕ × Entry) → In x old → In x new
  old_in_new x is =
      let of = owner x.1 x.1.client refl (all_in (λ q. IsManned q.1) old x log.trail.manned is) in
      of_caller of.caller new x (subst (λ (l : List (ℕ × Entry)). In x l) (sym (lists of.caller of.below)) (in_front x (trail_by of.caller old) (own of.caller) (to_caller of.caller old x of.is is)))

  record IsOwn (x : ℕ × Entry) : Type 0 where
    of : HasOwner x.1
    there : In x (own of.caller)

  new_is : (x : ℕ × Entry) → In x new → In x old ⊎ IsOwn x
  new_is x is =
      let of = owner x.1 x.1.client refl (all_in (λ q. IsManned q.1) new x now.manned is) in
      let here = subst (λ (l : List (ℕ × Entry)). In x l) (lists of.caller of.below) (to_caller of.caller new x of.is is) in
      ⊎_elim (λ (one : In x (trail_by of.caller old)). inl (of_caller of.caller old x one)) (λ (other : In x (own of.caller)). inr (record { of = of; there = other }))
      (in_either x (trail_by of.caller old) (own of.caller) here)

  own_later : (x : ℕ × Entry) → IsOwn x → k ≤ x.0
  own_later x mine = all_in (λ q. k ≤ q.0) (own mine.of.caller) x (grew mine.of.caller mine.of.below).1 mine.there

  old_below : (x : ℕ × Entry) → In x old → x.0 < k
  old_below x is = falls_below k old x log.trail.is.falling is

  lower_in_old : (x : ℕ × Entry) → In x (lower k new) → In x old
  lower_in_old x is =
      let below : x.0 < k = falls_below k (lower k new) x (lower_falls k p.view.known new now.is.falling) is in
      ⊎_elim (λ (there : In x old). there) (λ (mine : IsOwn x). let later = own_later x mine in absurd (omega arith))
      (new_is x (subst (λ (l : List (ℕ × Entry)). In x l) (sym (both_parts k new)) (in_back x (upper k new) (lower k new) is)))

  old_in_lower : (x : ℕ × Entry) → In x old → In x (lower k new)
  old_in_lower x is =
      let below = old_below x is in
      ⊎_elim (λ (high : In x (upper k new)). let later : k ≤ x.0 = all_in (λ q. k ≤ q.0) (upper k new) x (upper_later k new) high in absurd (omega arith)) (λ (there : In x (lower k new)). there)
      (in_either x (upper k new) (lower k new) (subst (λ (l : List (ℕ × Entry)). In x l) (both_parts k new) (old_in_new x is)))

  lower_is : lower k new ≡ old
  lower_is = falling_same k (lower k new) old (lower_falls k p.view.known new now.is.falling) log.trail.is.falling lower_in_old old_in_lower

  upper_own : (x : ℕ × Entry) → In x (upper k new) → IsAmongOwn own x.1
  upper_own x is =
      let later : k ≤ x.0 = all_in (λ q. k ≤ q.0) (upper k new) x (upper_later k new) is in
      let mine : IsOwn x = ⊎_elim (λ (there : In x old). let below = old_below x there in absurd (omega arith)) (λ (m : IsOwn x). m)
      (new_is x (subst (λ (l : List (ℕ × Entry)). In x l) (sym (both_parts k new)) (in_front x (upper k new) (lower k new) is))) in
      subst (λ (o : Option ClientNo). IsSomeAnd o (λ c. (c.0 < callers_count) × Contains (map (λ q. q.1) (own c)) x.1)) (sym mine.of.is) (mine.of.below, has_entry x (own mine.of.caller) mine.there)

  goes_on_from : GoesOnFrom own past p
  goes_on_from = record {
    later = past_in (upper k new);
    log = record {
      trail = now;
      past_is = ap (λ (es : List Entry). past_in (upper k new) ++ es) (log.past_is ∙ ap past_in (sym lower_is))
          ∙ (sym (map-append (λ (q : ℕ × Entry). q.1) (upper k new) (lower k new)) ∙ ap past_in (sym (both_parts k new)));
    };
    whose = all_past (IsAmongOwn own) (upper k new) upper_own;
  }

-- The look

module _ {D : Type 0} (board : TableId) (start : Start) (p : PlayState D) (stations : List (StationState D)) (rest : TableId) (v : View Entry) (rests : IsAtRest board start p) (stay : StationsStay p.stations stations) (passes : rest ≡ board)
    (same : IsSameLists p.view v) (one : HasOneLog v stations) (called : AreCalled stations) where
  abbrev after : PlayState D
  after = record { table = p.table; stations = stations; rest = rest; view = v; callers = p.callers }

  pub heard_log : HasTrail stations v.known p.callers
  heard_log = heard_trail board start after (still_rests board start p stations rest v rests stay passes same) one called

  pub heard_since : (before : PlayState D) (past : List Entry) (own : ClientNo → List (ℕ × Entry)) → HasLog before past → HaveGrown own before p.callers → GoesOnFrom own past after
  heard_since before past own log grew = goes_on_from own before after past log grew heard_log
