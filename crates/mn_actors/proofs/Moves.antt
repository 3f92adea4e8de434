-- Each step keeps the rule of the clock.
use Rattle.std.proofs.Common.{◌≡◌, ◌≢◌, ◌⊎◌, ℕ, zero, suc, cond, eqb, eq-eqb, ne_eqb, length-set, ◌+◌, ◌*◌, ◌%◌, ◌^◌, ◌<◌, ◌≤◌, Bool, true, false, Option, Some, None, List, [], ◌∷◌, ◌++◌, length, get_or, set, refl, sym, ap, ◌∙◌, subst, ⊎_elim, inl, inr, arith, length-append}
use Rattle.std.proofs.lemmas.Bool.{cases_eq}
use Rattle.std.proofs.lemmas.Option.{same_Some}
use mathlib.Core.Option.{some, none, some-ne-none, some-injective}
use lib.ListN.{get_elem?}
use lib.Seq.{set-get_or}
use Rattle.atomic_table.specs.Table.{Me, step, keeps, opening, Allows, Splits, Joins, Final, Seen}
use Rattle.atomic_table.proofs.Lists.{at_set, at_longer, at_last, set_else}
use Rattle.mn_actors.specs.declared.actor.Actor.{Actor}
use Rattle.mn_actors.specs.declared.actor.Actor.TheVariants.{Node, Client}
use Rattle.mn_actors.specs.declared.clock.View.{View}
use Rattle.mn_actors.specs.Lines.{Line, stands_in, same_actor, IsActor}
use Rattle.mn_actors.specs.Lists.{held, grow, Owns, OwnsAll, IsSplit, MayAppend}
use Rattle.mn_actors.specs.Log.{Ascends, IsManned, IsPlace, IsOneLog}
use Rattle.mn_actors.specs.Rule.{list_of, node_list, client_list, first_view, appended, without, alone, joined, spent, Fits, Kept, adds}
use Rattle.mn_actors.specs.Look.{knowing, hears, looks}
use Rattle.mn_actors.proofs.Growing.{held_appended, own_node_is, own_client_is, replicate_at, replicate_here, replicate_past, same_true, same_itself, room_of, actor_of, held_without, held_alone, held_joined}
use Rattle.mn_actors.proofs.Counting.{log_bound}
use Rattle.mn_actors.proofs.Ordered.{ordered, length_ordered, ordered_list, ordered_manned, ordered_legal}
use Rattle.mn_actors.proofs.Places.{list_ascends, each_place}

module _ {E : Type 0} (legal : List (ℕ × E) → List (ℕ × E) → Line E → Type 0) (nodes clients : ℕ) where
  knowing_lists : (v : View E) (p : ℕ) (a : Actor) → held (knowing p v) a ≡ held v a
  knowing_lists v p (Node n) = refl
  knowing_lists v p (Client c) = refl

  first_owned : (a : Actor) (l : List (ℕ × E)) → held (first_view nodes clients) a ≡ Some l → (◌≡◌ {A = ℕ} 0 0) × (l ≡ list_of a []) × IsActor nodes clients a
  first_owned (Node n) l e = let r = replicate_at nodes n.0 l e in (refl, r.0, r.1)
  first_owned (Client c) l e = let r = replicate_at clients c.0 l e in (refl, r.0, r.1)

  pub first_owns : (a : Actor) → IsActor nodes clients a → held (first_view {E = E} nodes clients) a ≡ Some []
  first_owns (Node n) on = replicate_here nodes n.0 on
  first_owns (Client c) on = replicate_here clients c.0 on

  pub first_others : (a : Actor) → ¬ IsActor nodes clients a → held (first_view {E = E} nodes clients) a ≡ None
  first_others (Node n) not = replicate_past nodes n.0 (Some []) not
  first_others (Client c) not = replicate_past clients c.0 (Some []) not

  first_fits : Fits {E = E} nodes clients [] (λ _. 0) 0 (first_view nodes clients)
  first_fits = record { known = omega arith; owned = first_owned }

  pub begins : {S : Type 0} (homes : List S) → Kept legal nodes clients {S = S} (opening (0 ∷ []) homes (first_view nodes clients))
  begins homes = record { log = []; owner = λ _. 0; clock_is = refl; manned = tt; legal_log = tt; bounded = λ a. omega arith; views = one; each_owned = λ a on. (first_view nodes clients, refl, ([], first_owns a on)) }
    where
      one : (id : ℕ) (v : View E) → get_elem? (first_view nodes clients ∷ []) id ≡ some v → Fits nodes clients [] (λ _. 0) id v
      one zero v e = subst (Fits {E = E} nodes clients [] (λ _. 0) 0) (some-injective _ _ e) first_fits
      one (suc id) v e = absurd (some-ne-none v (sym e))

  -- the views after a step of one seat
  pub views_set : (Fit : ℕ → View E → Type 0) (views : List (View E)) (id : ℕ) (w : View E) → ((j : ℕ) (u : View E) → j ≢ id → get_elem? views j ≡ some u → Fit j u) → Fit id w
      → (j : ℕ) (u : View E) → get_elem? (set views id w) j ≡ some u → Fit j u
  views_set Fit views id w others mine j u e = ⊎_elim
      (λ (t : (j ≡ id) × (w ≡ u)). subst (λ (z : ℕ × View E). Fit z.0 z.1) (λ i. (sym t.0 i, t.1 i)) mine)
      (λ (t : (j ≢ id) × (get_elem? views j ≡ some u)). others j u t.0 t.1)
      (at_set views id j w u e)

  set_at : (l : List (View E)) (i : ℕ) (v w : View E) → get_elem? l i ≡ some v → get_elem? (set l i w) i ≡ some w
  set_at [] i v w e = absurd (some-ne-none v (sym e))
  set_at (x ∷ xs) zero v w e = refl
  set_at (x ∷ xs) (suc i) v w e = set_at xs i v w e

  abbrev Owned : List (View E) → ℕ → Actor → Type 0
  Owned views at a = (u : View E) × (get_elem? views at ≡ some u) × Owns u a

  -- where the view of one seat changes, and owns what it did
  owned_set : (views : List (View E)) (id at : ℕ) (v w : View E) (a : Actor) → get_elem? views id ≡ some v → (Owns v a → Owns w a) → Owned views at a → Owned (set views id w) at a
  owned_set views id at v w a here keep o = ⊎_elim
      (λ (is : at ≡ id). (
        w,
        ap (λ (k : ℕ). get_elem? (set views id w) k) is ∙ set_at views id v w here,
        keep (subst (λ (u : View E). Owns u a) (some-injective _ _ (sym o.1 ∙ (ap (λ (k : ℕ). get_elem? views k) is ∙ here))) o.2),
      ))
      (λ (not : at ≡ id → ⊥). (o.0, set_else views id at w not ∙ o.1, o.2))
      (cases_eq at id)

  module _ (log : List (Line E)) (owner : Actor → ℕ) (id : ℕ) (v : View E) (x : Line E) (fits : Fits nodes clients log owner id v) (may : MayAppend legal v x) where
    abbrev next : View E
    next = appended v (length log) x

    -- who adds the line owns its actors
    ours : (a : Actor) → stands_in a x ≡ true → (held v a ≡ Some (list_of a log)) × (length (list_of a log) < 2 ^ 58) × (owner a ≡ id) × IsActor nodes clients a
    ours a is =
        let r = room_of legal v x may a is in
        let f = fits.owned a r.0 r.1 in
        (r.1 ∙ ap (λ (l : List (ℕ × E)). Some l) f.1, subst (λ (l : List (ℕ × E)). length l < 2 ^ 58) f.1 r.2, f.0, f.2)

    mine_at : (a : Actor) (l : List (ℕ × E)) → held next a ≡ Some l → (b : Bool) → stands_in a x ≡ b → (owner a ≡ id) × (l ≡ list_of a (x ∷ log)) × IsActor nodes clients a
    mine_at a l e true is =
        let o = ours a is in
        let now : held next a ≡ Some (list_of a log ++ (length log, x.entry) ∷ []) = held_appended v (length log) x a ∙ (rw is (ap (λ (h : Option (List (ℕ × E))). grow h (length log, x.entry)) o.0)) in
        (o.2, rw is (same_Some _ _ (sym e ∙ now)), o.3)
    mine_at a l e false is =
        let same : held next a ≡ held v a = held_appended v (length log) x a ∙ (rw is refl) in
        let f = fits.owned a l (sym same ∙ e) in
        (f.0, rw is f.1, f.2)

    mine : Fits nodes clients (x ∷ log) owner id next
    mine = record { known = omega arith; owned = λ a l e. mine_at a l e (stands_in a x) refl }

    theirs_at : (j : ℕ) (u : View E) → j ≢ id → Fits nodes clients log owner j u → (a : Actor) (l : List (ℕ × E)) → held u a ≡ Some l → (b : Bool) → stands_in a x ≡ b → (owner a ≡ j) × (l ≡ list_of a (x ∷ log)) × IsActor nodes clients a
    theirs_at j u apart f a l e true is = absurd (apart (sym (f.owned a l e).0 ∙ (ours a is).2))
    theirs_at j u apart f a l e false is = let g = f.owned a l e in (g.0, rw is g.1, g.2)

    theirs : (j : ℕ) (u : View E) → j ≢ id → Fits nodes clients log owner j u → Fits nodes clients (x ∷ log) owner j u
    theirs j u apart f = record { known = let k = f.known in omega arith; owned = λ a l e. theirs_at j u apart f a l e (stands_in a x) refl }

    still_bounded : (a : Actor) → length (list_of a log) ≤ 2 ^ 58 → (b : Bool) → stands_in a x ≡ b → length (list_of a (x ∷ log)) ≤ 2 ^ 58
    still_bounded a h true is = let o = (ours a is).1 in rw is (omega (arith, length-append (list_of a log) ((length log, x.entry) ∷ [])))
    still_bounded a h false is = rw is h

    still_owns_if : (a : Actor) → Owns v a → (b : Bool) → stands_in a x ≡ b → Owns next a
    still_owns_if a o true is = (o.0 ++ (length log, x.entry) ∷ [], held_appended v (length log) x a ∙ (rw is (ap (λ (h : Option (List (ℕ × E))). grow h (length log, x.entry)) o.1)))
    still_owns_if a o false is = (o.0, held_appended v (length log) x a ∙ (rw is o.1))

    still_owns : (a : Actor) → Owns v a → Owns next a
    still_owns a o = still_owns_if a o (stands_in a x) refl

    legal_now : legal (node_list x.node log) (client_list x.client log) x
    legal_now = subst (λ (p : List (ℕ × E) × List (ℕ × E)). legal p.0 p.1 x)
        (λ i. (own_node_is v log x.node (λ n is. (ours (Node n) is).0) i, own_client_is v log x.client (λ c is. (ours (Client c) is).0) i)) may.is_legal

    manned_now : IsManned nodes clients x
    manned_now = record { some_actor = actor_of x.node x.client x.entry may.some_actor; on_board = λ a is. (ours a is).3 }

  pub adds_moves : {S : Type 0} (slots id : ℕ) (me : Me S (View E)) (x : Line E) → nodes ≤ 8 → clients ≤ 21 → MayAppend legal me.0 x
      → Allows (Kept legal nodes clients {S = S}) slots id me 0 (λ n. (n + 1) % 2 ^ 64) (adds (Some x) (step slots 0 1 0 none) me)
  adds_moves slots id me x few few' may s r wide at small =
      let p : ℕ = get_or s.words 0 0 in
      let n : ℕ = length r.log in
      let is : p ≡ n = ap (λ ws. get_or ws 0 0) r.clock_is in
      let within : n ≤ 29 * 2 ^ 58 = log_bound nodes clients (2 ^ 58) r.log few few' r.manned r.bounded in
      let up : (p + 1) % 2 ^ 64 ≡ suc n = omega arith in
      let fits = r.views id me.0 at in (
        appended me.0 n x,
        keeps,
        tt,
        record {
          log = x ∷ r.log;
          owner = r.owner;
          clock_is = ap (λ (ws : List ℕ). set ws 0 ((p + 1) % 2 ^ 64)) r.clock_is ∙ ap (λ (k : ℕ). k ∷ []) up;
          manned = (manned_now r.log r.owner id me.0 x fits may, r.manned);
          legal_log = (legal_now r.log r.owner id me.0 x fits may, r.legal_log);
          bounded = λ a. still_bounded r.log r.owner id me.0 x fits may a (r.bounded a) (stands_in a x) refl;
          views = views_set (Fits nodes clients (x ∷ r.log) r.owner) s.views id (appended me.0 n x)
              (λ j u apart e. theirs r.log r.owner id me.0 x fits may j u apart (r.views j u e))
              (mine r.log r.owner id me.0 x fits may);
          each_owned = λ a on. owned_set s.views id (r.owner a) me.0 (appended me.0 n x) a at (still_owns r.log r.owner id me.0 x fits may a) (r.each_owned a on);
        },
        (let k = fits.known in omega arith, omega arith, ap (λ (k : ℕ). (appended me.0 k x, me.1)) (sym is)),
      )

  -- who owns all actors has the whole log
  pub ends : {S : Type 0} (id : ℕ) (v : View E) (ws : List ℕ) (xs : List S) (clock : ℕ) → OwnsAll nodes clients v → Final (Seen (Kept legal nodes clients {S = S}) id v) ws xs → get_elem? ws 0 ≡ some clock
      → IsOneLog legal nodes clients (held v) clock
  ends id v ws xs clock all f e =
      let r = f.1.0 in
      let fits = r.views id v f.1.1 in
      let words : length r.log ∷ [] ≡ ws = sym r.clock_is ∙ f.2 in
      let is : clock ≡ length r.log = sym (some-injective _ _ (ap (λ (l : List ℕ). get_elem? l 0) words ∙ e)) in
      record {
        log = ordered r.log;
        clock_is = is ∙ sym (length_ordered r.log);
        lists = λ a on. let o = all a on in o.1 ∙ ap (λ (l : List (ℕ × E)). Some l) ((fits.owned a o.0 o.1).1 ∙ sym (ordered_list a r.log));
        ascending = λ a. subst Ascends (sym (ordered_list a r.log)) (list_ascends a r.log);
        manned = ordered_manned nodes clients r.log r.manned;
        legal_then = ordered_legal legal r.log r.legal_log;
        once = λ p lt.
            let o = each_place r.log p (omega arith) in
            (o.0, o.1, subst (λ (f : Actor → List (ℕ × E)). IsPlace f p o.0) (λ i a. sym (ordered_list a r.log) i) o.2);
      }

  -- a step that looks
  pub hears_moves : {S : Type 0} (slots id : ℕ) (me : Me S (View E)) → Allows (Kept legal nodes clients {S = S}) slots id me 0 (λ n. n) (hears legal (step slots 0 0 0 none) me)
  hears_moves slots id me s r wide at small =
      let p : ℕ = get_or s.words 0 0 in
      let n : ℕ = length r.log in
      let is : p ≡ n = ap (λ ws. get_or ws 0 0) r.clock_is in
      let fits = r.views id me.0 at in
      let w : View E = knowing p me.0 in
      let same : (a : Actor) → held w a ≡ held me.0 a = knowing_lists me.0 p in (
        w,
        keeps,
        tt,
        record {
          log = r.log;
          owner = r.owner;
          clock_is = set-get_or s.words 0 0 ∙ r.clock_is;
          manned = r.manned;
          legal_log = r.legal_log;
          bounded = r.bounded;
          views = views_set (Fits nodes clients r.log r.owner) s.views id w (λ j u apart e. r.views j u e)
              record { known = omega arith; owned = λ a l e. fits.owned a l (sym (same a) ∙ e) };
          each_owned = λ a on. owned_set s.views id (r.owner a) me.0 w a at (λ o. (o.0, same a ∙ o.1)) (r.each_owned a on);
        },
        (
          let k = fits.known in omega arith,
          refl,
          record {
            of_log = record { log = r.log; legal_log = r.legal_log; lists = λ a l e. (fits.owned a l (sym (same a) ∙ e)).1 };
            count = sym is;
          },
        ),
      )

  -- a step that looks at the lists
  pub looks_moves : {S : Type 0} (slots id : ℕ) (me : Me S (View E)) (p : ℕ) → p ≤ me.0.known → Allows (Kept legal nodes clients {S = S}) slots id me 0 (λ n. n) (looks legal p (step slots 0 0 0 none) me)
  looks_moves slots id me p before s r wide at small =
      let fits = r.views id me.0 at in
      let w : View E = knowing p me.0 in
      let same : (a : Actor) → held w a ≡ held me.0 a = knowing_lists me.0 p in (
        w,
        keeps,
        tt,
        record {
          log = r.log;
          owner = r.owner;
          clock_is = set-get_or s.words 0 0 ∙ r.clock_is;
          manned = r.manned;
          legal_log = r.legal_log;
          bounded = r.bounded;
          views = views_set (Fits nodes clients r.log r.owner) s.views id w (λ j u apart e. r.views j u e)
              record { known = let k = fits.known in omega (arith, before); owned = λ a l e. fits.owned a l (sym (same a) ∙ e) };
          each_owned = λ a on. owned_set s.views id (r.owner a) me.0 w a at (λ o. (o.0, same a ∙ o.1)) (r.each_owned a on);
        },
        (record { log = r.log; legal_log = r.legal_log; lists = λ a l e. (fits.owned a l e).1 }, refl),
      )

  at_snoc_end : (l : List (View E)) (a b : View E) (j : ℕ) → get_elem? (l ++ a ∷ []) j ≡ some b → (get_elem? l j ≡ some b) ⊎ ((j ≡ length l) × (a ≡ b))
  at_snoc_end [] a b zero e = inr (refl, some-injective a b e)
  at_snoc_end [] a b (suc j) e = absurd (some-ne-none b (sym e))
  at_snoc_end (x ∷ xs) a b zero e = inl e
  at_snoc_end (x ∷ xs) a b (suc j) e = ⊎_elim inl (λ (t : (j ≡ length xs) × (a ≡ b)). inr (ap suc t.0, t.1)) (at_snoc_end xs a b j e)

  -- a pass of its own for the actor a
  module _ (log : List (Line E)) (owner : Actor → ℕ) (id new : ℕ) (v : View E) (a : Actor) (fits : Fits nodes clients log owner id v) (owns : Owns v a) where
    abbrev given_to : Actor → ℕ
    given_to b = cond (same_actor b a) new (owner b)

    given_else : (b : Actor) → same_actor b a ≡ false → given_to b ≡ owner b
    given_else b is = rw is refl

    owner_is : owner a ≡ id
    owner_is = (fits.owned a owns.0 owns.1).0

    split_other_at : (j : ℕ) (u : View E) → j ≢ id → Fits nodes clients log owner j u → (b : Actor) (l : List (ℕ × E)) → held u b ≡ Some l → (t : Bool) → same_actor b a ≡ t → (given_to b ≡ j) × (l ≡ list_of b log) × IsActor nodes clients b
    split_other_at j u apart f b l e true is = let same = same_true b a is in absurd (apart (sym (f.owned b l e).0 ∙ (ap owner same ∙ owner_is)))
    split_other_at j u apart f b l e false is = let g = f.owned b l e in (rw is g.0, g.1, g.2)

    split_other : (j : ℕ) (u : View E) → j ≢ id → Fits nodes clients log owner j u → Fits nodes clients log given_to j u
    split_other j u apart f = record { known = f.known; owned = λ b l e. split_other_at j u apart f b l e (same_actor b a) refl }

    split_left_at : (b : Actor) (l : List (ℕ × E)) → held (without v a) b ≡ Some l → (t : Bool) → same_actor b a ≡ t → (given_to b ≡ id) × (l ≡ list_of b log) × IsActor nodes clients b
    split_left_at b l e true is = let gone : held (without v a) b ≡ None = held_without v a b ∙ (rw is refl) in absurd (cc)
    split_left_at b l e false is = let same : held (without v a) b ≡ held v b = held_without v a b ∙ (rw is refl) in let g = fits.owned b l (sym same ∙ e) in (rw is g.0, g.1, g.2)

    without_known : (c : Actor) → (without v c).known ≡ v.known
    without_known (Node n) = refl
    without_known (Client n) = refl

    alone_known : (c : Actor) → (alone v c).known ≡ v.known
    alone_known (Node n) = refl
    alone_known (Client n) = refl

    split_left : Fits nodes clients log given_to id (without v a)
    split_left = record { known = let k = fits.known in let e = without_known a in omega arith; owned = λ b l e. split_left_at b l e (same_actor b a) refl }

    split_right_at : (b : Actor) (l : List (ℕ × E)) → held (alone v a) b ≡ Some l → (t : Bool) → same_actor b a ≡ t → (given_to b ≡ new) × (l ≡ list_of b log) × IsActor nodes clients b
    split_right_at b l e true is = let same : held (alone v a) b ≡ held v b = held_alone v a b ∙ (rw is refl) in let g = fits.owned b l (sym same ∙ e) in (rw is refl, g.1, g.2)
    split_right_at b l e false is = let gone : held (alone v a) b ≡ None = held_alone v a b ∙ (rw is refl) in absurd (cc)

    split_right : Fits nodes clients log given_to new (alone v a)
    split_right = record { known = let k = fits.known in let e = alone_known a in omega arith; owned = λ b l e. split_right_at b l e (same_actor b a) refl }

    split_owned : (views : List (View E)) → get_elem? views id ≡ some v → length views ≡ new → (b : Actor) → Owned views (owner b) b → (t : Bool) → same_actor b a ≡ t → Owned (set views id (without v a) ++ alone v a ∷ []) (given_to b) b
    split_owned views at wide b o true is =
        let last : get_elem? (set views id (without v a) ++ alone v a ∷ []) new ≡ some (alone v a) = at_last (set views id (without v a)) (alone v a) new (length-set views id (without v a) ∙ wide) in
        let same : held (alone v a) b ≡ held v b = held_alone v a b ∙ (rw is refl) in
        let here : held v b ≡ held v a = ap (held v) (same_true b a is) in
        (alone v a, rw is last, (owns.0, same ∙ (here ∙ owns.1)))
    split_owned views at wide b o false is =
        let same : held (without v a) b ≡ held v b = held_without v a b ∙ (rw is refl) in
        let q = owned_set views id (owner b) v (without v a) b at (λ p. (p.0, same ∙ p.1)) o in
        let stays : given_to b ≡ owner b = given_else b is in
        (q.0, ap (λ (k : ℕ). get_elem? (set views id (without v a) ++ alone v a ∷ []) k) stays ∙ at_longer (set views id (without v a)) (alone v a ∷ []) (owner b) q.0 q.1, q.2)

  pub splits_moves : {S : Type 0} (id : ℕ) (v : View E) (a : Actor) → Owns v a → Splits (Kept legal nodes clients {S = S}) id v (without v a) (alone v a)
  splits_moves id v a owns s r at =
      let new : ℕ = length s.views in
      let fits = r.views id v at in
      let longer : length (set s.views id (without v a)) ≡ new = length-set s.views id (without v a) in
      record {
        log = r.log;
        owner = given_to r.log r.owner id new v a fits owns;
        clock_is = r.clock_is;
        manned = r.manned;
        legal_log = r.legal_log;
        bounded = r.bounded;
        views = λ j u e. ⊎_elim
            (λ was. views_set (Fits nodes clients r.log (given_to r.log r.owner id new v a fits owns)) s.views id (without v a)
            (λ i y apart e'. split_other r.log r.owner id new v a fits owns i y apart (r.views i y e'))
            (split_left r.log r.owner id new v a fits owns) j u was)
            (λ (t : (j ≡ length (set s.views id (without v a))) × (alone v a ≡ u)). subst (λ (z : ℕ × View E). Fits nodes clients r.log (given_to r.log r.owner id new v a fits owns) z.0 z.1)
            (λ i. (sym (t.0 ∙ longer) i, t.1 i)) (split_right r.log r.owner id new v a fits owns))
            (at_snoc_end (set s.views id (without v a)) (alone v a) u j e);
        each_owned = λ b on. split_owned r.log r.owner id new v a fits owns s.views at refl b (r.each_owned b on) (same_actor b a) refl;
      }

  -- one pass takes in another
  module _ (log : List (Line E)) (owner : Actor → ℕ) (id other : ℕ) (v w : View E) (apart : other ≢ id) (fits : Fits nodes clients log owner id v) (theirs_fit : Fits nodes clients log owner other w) where
    abbrev taken_by : Actor → ℕ
    taken_by b = cond (eqb (owner b) other) id (owner b)

    taken : (b : Actor) → owner b ≡ other → taken_by b ≡ id
    taken b e = rw (eq-eqb (owner b) other e) refl

    not_taken : (b : Actor) → owner b ≢ other → taken_by b ≡ owner b
    not_taken b ne = rw (ne_eqb (owner b) other ne) refl

    join_other : (j : ℕ) (u : View E) → j ≢ id → j ≢ other → Fits nodes clients log owner j u → Fits nodes clients log taken_by j u
    join_other j u ne ne' f = record { known = f.known; owned = λ b l e. let g = f.owned b l e in (not_taken b (λ is. ne' (sym g.0 ∙ is)) ∙ g.0, g.1, g.2) }

    join_both_at : (b : Actor) (l : List (ℕ × E)) → held (joined v w) b ≡ Some l → (o : Option (List (ℕ × E))) → held v b ≡ o → (taken_by b ≡ id) × (l ≡ list_of b log) × IsActor nodes clients b
    join_both_at b l e None is =
        let from : held (joined v w) b ≡ held w b = held_joined v w b ∙ (rw is refl) in
        let g = theirs_fit.owned b l (sym from ∙ e) in
        (taken b g.0, g.1, g.2)
    join_both_at b l e (Some k) is =
        let from : held (joined v w) b ≡ Some k = held_joined v w b ∙ (rw is refl) in
        let g = fits.owned b l (is ∙ (sym from ∙ e)) in
        (not_taken b (λ (h : owner b ≡ other). apart (sym h ∙ g.0)) ∙ g.0, g.1, g.2)

    join_both : Fits nodes clients log taken_by id (joined v w)
    join_both = record { known = let k = fits.known in let k' = theirs_fit.known in omega arith; owned = λ b l e. join_both_at b l e (held v b) refl }

    spent_held : (b : Actor) → held (spent {E = E}) b ≡ None
    spent_held (Node n) = refl
    spent_held (Client c) = refl

    join_spent : Fits nodes clients log taken_by other spent
    join_spent = record { known = omega arith; owned = λ b l e. let gone = spent_held b in absurd (cc) }

    join_owned : (views : List (View E)) → get_elem? views id ≡ some v → get_elem? views other ≡ some w → (b : Actor) → Owned views (owner b) b → Owned (set (set views id (joined v w)) other spent) (taken_by b) b
    join_owned views at there b o = ⊎_elim
        (λ (is : owner b ≡ other).
        let u_is : o.0 ≡ w = some-injective _ _ (sym o.1 ∙ (ap (λ (k : ℕ). get_elem? views k) is ∙ there)) in
        let theirs : Owns w b = subst (λ (u : View E). Owns u b) u_is o.2 in (
          joined v w,
          ap (λ (k : ℕ). get_elem? (set (set views id (joined v w)) other spent) k) (taken b is) ∙ (set_else (set views id (joined v w)) other id spent (λ e. apart (sym e)) ∙ set_at views id v (joined v w) at),
          owns_theirs (held v b) refl theirs,
        ))
        (λ (not : owner b ≡ other → ⊥).
        let q = owned_set views id (owner b) v (joined v w) b at (λ p. (p.0, held_joined v w b ∙ (rw p.1 refl))) o in
        (q.0, ap (λ (k : ℕ). get_elem? (set (set views id (joined v w)) other spent) k) (not_taken b not) ∙ (set_else (set views id (joined v w)) other (owner b) spent not ∙ q.1), q.2))
        (cases_eq (owner b) other)
      where
        owns_theirs : (h : Option (List (ℕ × E))) → held v b ≡ h → Owns w b → Owns (joined v w) b
        owns_theirs None is p = (p.0, held_joined v w b ∙ (rw is p.1))
        owns_theirs (Some k) is p = (k, held_joined v w b ∙ (rw is refl))

  pub joins_moves : {S : Type 0} (id : ℕ) (v : View E) (other : ℕ) (w : View E) → Joins (Kept legal nodes clients {S = S}) id v other w (joined v w) spent
  joins_moves id v other w s r at apart there =
      let was : get_elem? s.views other ≡ some w = sym (set_else s.views id other (joined v w) apart) ∙ there in
      let f = r.views id v at in
      let g = r.views other w was in
      record {
        log = r.log;
        owner = taken_by r.log r.owner id other v w apart f g;
        clock_is = r.clock_is;
        manned = r.manned;
        legal_log = r.legal_log;
        bounded = r.bounded;
        views = views_set (Fits nodes clients r.log (taken_by r.log r.owner id other v w apart f g)) (set s.views id (joined v w)) other spent
            (λ j u ne e. views_set (λ i y. i ≢ other → Fits nodes clients r.log (taken_by r.log r.owner id other v w apart f g) i y) s.views id (joined v w)
            (λ i y far e' far'. join_other r.log r.owner id other v w apart f g i y far far' (r.views i y e'))
            (λ _. join_both r.log r.owner id other v w apart f g) j u e ne)
            (join_spent r.log r.owner id other v w apart f g);
        each_owned = λ b on. join_owned r.log r.owner id other v w apart f g s.views at was b (r.each_owned b on);
      }

pub is_split : {E : Type 0} (v : View E) (a : Actor) (w u : View E) → w ≡ without v a → u ≡ alone v a → IsSplit v a w u
is_split {E} v a w u left right = subst (λ (p : View E × View E). IsSplit v a p.0 p.1) (λ i. (sym left i, sym right i)) record {
  known = (first a, second a);
  given = (held_alone v a a ∙ (rw (same_itself a) refl), held_without v a a ∙ (rw (same_itself a) refl));
  others = λ b not. (held_without v a b ∙ (rw not refl), held_alone v a b ∙ (rw not refl));
}
  where
    first : (c : Actor) → (without v c).known ≡ v.known
    first (Node n) = refl
    first (Client n) = refl

    second : (c : Actor) → (alone v c).known ≡ v.known
    second (Node n) = refl
    second (Client n) = refl
