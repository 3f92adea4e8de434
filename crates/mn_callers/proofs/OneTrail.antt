-- The trail of a play is the one log of its parts.
use Rattle.std.proofs.Common.{◌≡◌, ℕ, suc, ◌+◌, ◌<◌, ◌≤◌, ◌⊎◌, Bool, true, false, Option, Some, None, List, [], ◌∷◌, ◌++◌, filter, reverse, refl, sym, ap, ◌∙◌, subst, inl, inr, ⊎_elim, arith, if◌then◌else◌}
use Rattle.std.specs.Prelude.{slice_get, IsSomeAnd, ⊤}
use Rattle.std.specs.List.{AllByRecursion}
use Rattle.std.proofs.lemmas.List.{reverse-append, reverse-reverse}
use Rattle.mn_base.specs.Ids.{client_same}
use Rattle.mn_base.specs.declared.ids.ClientNo.{ClientNo}
use Rattle.mn_base.specs.declared.ids.NodeNo.{NodeNo}
use Rattle.mn_actors.specs.declared.actor.Actor.{Actor}
use Rattle.mn_actors.specs.declared.actor.Actor.TheVariants.{Node, Client}
use Rattle.mn_actors.specs.Lines.{Line, IsActor, stands_in}
use Rattle.mn_actors.specs.Log.{IsManned, IsOneLog, entries_from}
use Rattle.mn_runs.specs.declared.entry.Entry.{Entry}
use Rattle.mn_runs.specs.Calls.{is_at, is_by}
use Rattle.mn_runs.specs.Protocol.{entries_of}
use Rattle.mn_runs.proofs.Same.{client_same-refl}
use Rattle.mn_cell.specs.Calls.{IsLegalLine, numbered}
use Rattle.mn_cell.specs.Runs.{placed_from}
use Rattle.mn_callers.specs.Hands.{Fall}
use Rattle.mn_callers.specs.Turn.{past_in, trail_at, trail_by}
use Rattle.mn_callers.proofs.Trails.{entries_back}

-- Members

abbrev pub In : ℕ × Entry → List (ℕ × Entry) → Type 0
In x [] = ⊥
In x (y ∷ l) = (x ≡ y) ⊎ In x l

pub in_front : (x : ℕ × Entry) (a b : List (ℕ × Entry)) → In x a → In x (a ++ b)
in_front x [] b is = absurd is
in_front x (y ∷ a) b is = ⊎_elim (λ (e : x ≡ y). inl e) (λ (there : In x a). inr (in_front x a b there)) is

pub in_back : (x : ℕ × Entry) (a b : List (ℕ × Entry)) → In x b → In x (a ++ b)
in_back x [] b is = is
in_back x (y ∷ a) b is = inr (in_back x a b is)

pub reverse_more : (x : ℕ × Entry) (l : List (ℕ × Entry)) → reverse (x ∷ l) ≡ reverse l ++ x ∷ []
reverse_more x l = reverse-append (x ∷ []) l

pub in_reverse : (x : ℕ × Entry) (l : List (ℕ × Entry)) → In x l → In x (reverse l)
in_reverse x [] is = absurd is
in_reverse x (y ∷ l) is =
    subst (λ (k : List (ℕ × Entry)). In x k) (sym (reverse_more y l))
    (⊎_elim (λ (e : x ≡ y). in_back x (reverse l) (y ∷ []) (inl e)) (λ (there : In x l). in_front x (reverse l) (y ∷ []) (in_reverse x l there)) is)

pub of_reverse : (x : ℕ × Entry) (l : List (ℕ × Entry)) → In x (reverse l) → In x l
of_reverse x l is = subst (λ (k : List (ℕ × Entry)). In x k) (reverse-reverse l) (in_reverse x (reverse l) is)

pub in_filter : (f : ℕ × Entry → Bool) (x : ℕ × Entry) (l : List (ℕ × Entry)) → In x l → f x ≡ true → In x (filter f l)
in_filter f x [] is so = absurd is
in_filter f x (y ∷ l) is so = ⊎_elim (λ (e : x ≡ y). put (f y) (ap f (sym e) ∙ so) e) (λ (there : In x l). more (f y) (in_filter f x l there so)) is
  where
    more : (b : Bool) → In x (filter f l) → In x (if b then y ∷ filter f l else filter f l)
    more true is = inr is
    more false is = is

    put : (b : Bool) → b ≡ true → x ≡ y → In x (if b then y ∷ filter f l else filter f l)
    put true b e = inl e
    put false b e = absurd cc

pub of_filter : (f : ℕ × Entry → Bool) (x : ℕ × Entry) (l : List (ℕ × Entry)) → In x (filter f l) → In x l
of_filter f x [] is = is
of_filter f x (y ∷ l) is = less (f y) (of_filter f x l) is
  where
    less : (b : Bool) → (In x (filter f l) → In x l) → In x (if b then y ∷ filter f l else filter f l) → In x (y ∷ l)
    less true deep is = ⊎_elim (λ (e : x ≡ y). inl e) (λ (there : In x (filter f l)). inr (deep there)) is
    less false deep is = inr (deep is)

-- Lists that ascend

abbrev pub Climb : ℕ → List (ℕ × Entry) → Type 0
Climb low [] = ⊤
Climb low (p ∷ l) = (low ≤ p.0) × Climb (p.0 + 1) l

climbs_from : (low low' : ℕ) (l : List (ℕ × Entry)) → low' ≤ low → Climb low l → Climb low' l
climbs_from low low' [] le is = tt
climbs_from low low' (p ∷ l) le is = (omega (arith, le, is.0), is.1)

in_climbing : (low : ℕ) (l : List (ℕ × Entry)) (x : ℕ × Entry) → Climb low l → In x l → low ≤ x.0
in_climbing low [] x is there = absurd there
in_climbing low (p ∷ l) x is there =
    ⊎_elim (λ (e : x ≡ p). subst (λ (y : ℕ × Entry). low ≤ y.0) (sym e) is.0)
    (λ (more : In x l). let above : p.0 + 1 ≤ x.0 = in_climbing (p.0 + 1) l x is.1 more in omega (arith, above, is.0)) there

placed_climbs : (p : ℕ) (log : List (Line Entry)) → Climb p (placed_from p log)
placed_climbs p [] = tt
placed_climbs p (x ∷ log) = (omega arith, placed_climbs (p + 1) log)

abbrev pub Below : ℕ → List (ℕ × Entry) → Type 0
Below known l = AllByRecursion (λ (q : ℕ × Entry). q.0 < known) l

below_more : (known : ℕ) (l : List (ℕ × Entry)) (x : ℕ × Entry) → Below known l → x.0 < known → Below known (l ++ x ∷ [])
below_more known [] x is lt = (lt, tt)
below_more known (y ∷ l) x is lt = (is.0, below_more known l x is.1 lt)

below_from : (known known' : ℕ) (l : List (ℕ × Entry)) → known ≤ known' → Below known l → Below known' l
below_from known known' [] le is = tt
below_from known known' (y ∷ l) le is = (omega (arith, le, is.0), below_from known known' l le is.1)

climbs_more : (low : ℕ) (l : List (ℕ × Entry)) (x : ℕ × Entry) → Climb low l → Below x.0 l → low ≤ x.0 → Climb low (l ++ x ∷ [])
climbs_more low [] x is below le = (le, tt)
climbs_more low (y ∷ l) x is below le = (is.0, climbs_more (y.0 + 1) l x is.1 below.1 (let lt : y.0 < x.0 = below.0 in omega (arith, lt)))

pub fall_climbs : (known : ℕ) (trail : List (ℕ × Entry)) → Fall known trail → Climb 0 (reverse trail) × Below known (reverse trail)
fall_climbs known [] falls = (tt, tt)
fall_climbs known (p ∷ trail) falls =
    let rest : Climb 0 (reverse trail) × Below p.0 (reverse trail) = fall_climbs p.0 trail falls.1 in
    let le : p.0 ≤ known = (let lt : p.0 < known = falls.0 in omega (arith, lt)) in (
      subst (λ (k : List (ℕ × Entry)). Climb 0 k) (sym (reverse_more p trail)) (climbs_more 0 (reverse trail) p rest.0 rest.1 (omega arith)),
      subst (λ (k : List (ℕ × Entry)). Below known k) (sym (reverse_more p trail)) (below_more known (reverse trail) p (below_from p.0 known (reverse trail) le rest.1) falls.0),
    )

-- such lists with the same members are one
pub same_lists : (low : ℕ) (a b : List (ℕ × Entry)) → Climb low a → Climb low b → ((x : ℕ × Entry) → In x a → In x b) → ((x : ℕ × Entry) → In x b → In x a) → a ≡ b
same_lists low [] [] ca cb to back = refl
same_lists low [] (y ∷ b) ca cb to back = absurd (back y (inl refl))
same_lists low (x ∷ a) [] ca cb to back = absurd (to x (inl refl))
same_lists low (x ∷ a) (y ∷ b) ca cb to back =
    let heads : x ≡ y = head (to x (inl refl)) (back y (inl refl)) in
    let there : (z : ℕ × Entry) → In z a → In z b = λ z is. tail z x y heads a b is (in_climbing (x.0 + 1) a z ca.1 is) (to z (inr is)) in
    let again : (z : ℕ × Entry) → In z b → In z a = λ z is. tail z y x (sym heads) b a is (in_climbing (y.0 + 1) b z cb.1 is) (back z (inr is)) in
    let rest : a ≡ b = same_lists (x.0 + 1) a b ca.1 (subst (λ (z : ℕ × Entry). Climb (z.0 + 1) b) (sym heads) cb.1) there again in
    ap (λ (z : ℕ × Entry). z ∷ a) heads ∙ ap (λ (l : List (ℕ × Entry)). y ∷ l) rest
  where
    head : In x (y ∷ b) → In y (x ∷ a) → x ≡ y
    head one other = ⊎_elim (λ (e : x ≡ y). e) (λ (deep : In x b). ⊎_elim (λ (e : y ≡ x). sym e)
        (λ (low : In y a). let one' : y.0 + 1 ≤ x.0 = in_climbing (y.0 + 1) b x cb.1 deep in let two' : x.0 + 1 ≤ y.0 = in_climbing (x.0 + 1) a y ca.1 low in absurd (omega (arith, one', two'))) other) one

    tail : (z x y : ℕ × Entry) → x ≡ y → (a b : List (ℕ × Entry)) → In z a → x.0 + 1 ≤ z.0 → In z (y ∷ b) → In z b
    tail z x y same a b is above there = ⊎_elim (λ (e : z ≡ y). let at : z.0 ≡ x.0 = ap (λ (q : ℕ × Entry). q.0) (e ∙ sym same) in absurd (omega (arith, above, at))) (λ (deep : In z b). deep) there

-- The log

of_entries : (p : ℕ) (a : Actor) (log : List (Line Entry)) (q : ℕ × Entry) → In q (entries_from p a log) → In q (placed_from p log)
of_entries p a [] q is = is
of_entries p a (x ∷ log) q is = by (stands_in a x) (of_entries (p + 1) a log q) is
  where
    by : (b : Bool) → (In q (entries_from (p + 1) a log) → In q (placed_from (p + 1) log)) → In q (if b then (p, x.entry) ∷ entries_from (p + 1) a log else entries_from (p + 1) a log) → In q ((p, x.entry) ∷ placed_from (p + 1) log)
    by true deep is = ⊎_elim (λ (e : q ≡ (p, x.entry)). inl e) (λ (there : In q (entries_from (p + 1) a log)). inr (deep there)) is
    by false deep is = inr (deep is)

abbrev Made : ℕ → ℕ → ℕ → List (Line Entry) → ℕ × Entry → Type 0
Made nodes clients p log q = (a : Actor) × IsActor nodes clients a × In q (entries_from p a log)

in_entries : (nodes clients p : ℕ) (log : List (Line Entry)) → ((k : ℕ) (x : Line Entry) → slice_get log k ≡ Some x → IsManned nodes clients x) → (q : ℕ × Entry) → In q (placed_from p log) → Made nodes clients p log q
in_entries nodes clients p [] manned q is = absurd is
in_entries nodes clients p (x ∷ log) manned q is = ⊎_elim first (λ (there : In q (placed_from (p + 1) log)). later (in_entries nodes clients (p + 1) log (λ k y at. manned (suc k) y at) q there)) is
  where
    put : (a : Actor) (b : Bool) → b ≡ true → q ≡ (p, x.entry) → In q (if b then (p, x.entry) ∷ entries_from (p + 1) a log else entries_from (p + 1) a log)
    put a true b e = inl e
    put a false b e = absurd cc

    more : (a : Actor) (b : Bool) → In q (entries_from (p + 1) a log) → In q (if b then (p, x.entry) ∷ entries_from (p + 1) a log else entries_from (p + 1) a log)
    more a true is = inr is
    more a false is = is

    first : q ≡ (p, x.entry) → Made nodes clients p (x ∷ log) q
    first e =
        let m : IsManned nodes clients x = manned 0 x refl in
        let a : Actor = m.some_actor.0 in
        (a, m.on_board a m.some_actor.1, put a (stands_in a x) m.some_actor.1 e)

    later : Made nodes clients (p + 1) log q → Made nodes clients p (x ∷ log) q
    later made = (made.0, made.1, more made.0 (stands_in made.0 x) made.2)

-- The trail

some_is : (a b : List (ℕ × Entry)) → Some a ≡ Some b → a ≡ b
some_is a b e = cc

abbrev pub IsMannedBy : ℕ → ℕ × Entry → Type 0
IsMannedBy clients p = IsSomeAnd p.1.client (λ c. c.0 < clients)

manned_in : (clients : ℕ) (trail : List (ℕ × Entry)) (q : ℕ × Entry) → AllByRecursion (IsMannedBy clients) trail → In q trail → IsMannedBy clients q
manned_in clients [] q all is = absurd is
manned_in clients (p ∷ trail) q all is = ⊎_elim (λ (e : q ≡ p). subst (IsMannedBy clients) (sym e) all.0) (λ (there : In q trail). manned_in clients trail q all.1 there) is

module _ (nodes clients clock : ℕ) (owned : Actor → Option (List (ℕ × Entry))) (one : IsOneLog IsLegalLine nodes clients owned clock) (known : ℕ) (trail : List (ℕ × Entry)) (falls : Fall known trail)
    (at : (n : NodeNo) → n.0 < nodes → owned (Node n) ≡ Some (trail_at n.0 trail)) (by : (c : ClientNo) → c.0 < clients → owned (Client c) ≡ Some (trail_by c trail)) (manned : AllByRecursion (IsMannedBy clients) trail) where
  to_trail : (q : ℕ × Entry) → In q (placed_from 0 one.log) → In q (reverse trail)
  to_trail q is = go made.0 made.1 made.2
    where
      made : Made nodes clients 0 one.log q
      made = in_entries nodes clients 0 one.log one.manned q is

      go : (a : Actor) → IsActor nodes clients a → In q (entries_from 0 a one.log) → In q (reverse trail)
      go (Node n) on there =
          let same : entries_from 0 (Node n) one.log ≡ trail_at n.0 trail = some_is _ _ (sym (one.lists (Node n) on) ∙ at n on) in
          in_reverse q trail (of_filter (λ p. is_at (numbered n.0) p.1) q trail (of_reverse q (filter (λ p. is_at (numbered n.0) p.1) trail) (subst (λ (l : List (ℕ × Entry)). In q l) same there)))
      go (Client c) on there =
          let same : entries_from 0 (Client c) one.log ≡ trail_by c trail = some_is _ _ (sym (one.lists (Client c) on) ∙ by c on) in
          in_reverse q trail (of_filter (λ p. is_by c p.1) q trail (of_reverse q (filter (λ p. is_by c p.1) trail) (subst (λ (l : List (ℕ × Entry)). In q l) same there)))

  from_trail : (q : ℕ × Entry) → In q (reverse trail) → In q (placed_from 0 one.log)
  from_trail q is = go q.1.client refl (manned_in clients trail q manned there)
    where
      there : In q trail
      there = of_reverse q trail is

      go : (o : Option ClientNo) → q.1.client ≡ o → IsSomeAnd o (λ c. c.0 < clients) → In q (placed_from 0 one.log)
      go None e on = absurd on
      go (Some c) e on =
          let same : entries_from 0 (Client c) one.log ≡ trail_by c trail = some_is _ _ (sym (one.lists (Client c) on) ∙ by c on) in
          let mine : is_by c q.1 ≡ true = ap (λ (o : Option ClientNo). Rattle.std.specs.Option.option_map_or (client_same c) o false) e ∙ client_same-refl c in
          let found : In q (trail_by c trail) = in_reverse q (filter (λ p. is_by c p.1) trail) (in_filter (λ p. is_by c p.1) q trail there mine) in
          of_entries 0 (Client c) one.log q (subst (λ (l : List (ℕ × Entry)). In q l) (sym same) found)

  pub trail_is_log : placed_from 0 one.log ≡ reverse trail
  trail_is_log = same_lists 0 (placed_from 0 one.log) (reverse trail) (placed_climbs 0 one.log) (fall_climbs known trail falls).0 to_trail from_trail

  pub trail_is_past : entries_of (placed_from 0 one.log) ≡ past_in trail
  trail_is_past = ap entries_of trail_is_log ∙ entries_back trail
