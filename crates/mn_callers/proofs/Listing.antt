-- The lists of all callers, in order of number.
use Rattle.std.proofs.Common.{◌≡◌, ℕ, zero, suc, ◌+◌, ◌-◌, ◌<◌, ◌≤◌, Bool, true, false, Some, List, [], ◌∷◌, ◌++◌, length, map, refl, sym, ap, ◌∙◌, arith, nat_eq, nat_lt, replicate}
use Rattle.std.specs.Prelude.{slice_get}
use Rattle.std.specs.Option.{option_map, option_map_or}
use Rattle.std.proofs.lemmas.Bool.{eqb-false, eqb-true, ltb-false, ltb-true}
use Rattle.std.proofs.lemmas.List.{get_or-replicate, length-append, length-map, length-replicate, map-append}
use Rattle.std.proofs.lemmas.Option.{slice_get-get_or, slice_get-map}
use Rattle.mn_base.proofs.Lists.{before_last}
use Rattle.mn_runs.specs.declared.entry.Entry.{Entry}
use Rattle.mn_runs.specs.Lists.{ClientState}
use Rattle.mn_callers.specs.declared.client.Client.{Client}
use Rattle.mn_callers.specs.declared.desk.Desk.{Desk}
use Rattle.mn_callers.specs.declared.callers.Callers.{Callers}
use Rattle.mn_callers.specs.Ended.{AreLists}
use Rattle.mn_callers.specs.Turn.{callers_count}
use Rattle.mn_callers.proofs.Apart.{get_middle}
use Rattle.mn_callers.proofs.Replacing.{list_of}

-- Places

replicate_at : {X : Type 0} (n k : ℕ) (x : X) → k < n → slice_get (replicate n x) k ≡ Some x
replicate_at n k x below = slice_get-get_or (replicate n x) k x (let long = length-replicate n x in omega arith) ∙ ap (λ y. Some y) (get_or-replicate n k x x below)

-- behind a front
get_after : {X : Type 0} (xs ys : List X) (j k : ℕ) → j ≡ length xs + k → slice_get (xs ++ ys) j ≡ slice_get ys k
get_after [] ys j k is = let same : j ≡ k = omega arith in ap (slice_get ys) same
get_after (x ∷ xs) ys zero k is = absurd (omega arith)
get_after (x ∷ xs) ys (suc j) k is = get_after xs ys j k (omega arith)

-- a list that was made as long as this
filled_at : {X Y : Type 0} (f : X → List Y) (xs : List X) (n k : ℕ) → k < n → slice_get (map f xs ++ replicate (n - length xs) []) k ≡ Some (option_map_or f (slice_get xs k) [])
filled_at f [] n k below = let same : n - 0 ≡ n = omega arith in ap (λ (i : ℕ). slice_get (replicate i []) k) same ∙ replicate_at n k [] below
filled_at f (x ∷ xs) n zero below = refl
filled_at f (x ∷ xs) n (suc k) below =
    let less : n - length (x ∷ xs) ≡ (n - 1) - length xs = omega arith in
    ap (λ (i : ℕ). slice_get (map f xs ++ replicate i []) k) less ∙ filled_at f xs (n - 1) k (omega arith)

-- The lists

module _ (callers : Callers) (few : length callers.clients.items ≤ 16) (four : length callers.desks.items ≡ 4) where
  abbrev front : List (List (ℕ × Entry))
  front = map (λ (k : Client). k.list.entries) callers.clients.items ++ replicate (16 - length callers.clients.items) []

  abbrev back : List (List (ℕ × Entry))
  back = map (λ (d : Desk). d.list.entries) callers.desks.items

  abbrev whole : List (List (ℕ × Entry))
  whole = (front ++ callers.closer.list.entries ∷ []) ++ back

  front_long : length front ≡ 16
  front_long =
      let sum = length-append (map (λ (k : Client). k.list.entries) callers.clients.items) (replicate (16 - length callers.clients.items) []) in
      let one = length-map callers.clients.items (λ (k : Client). k.list.entries) in
      let other = length-replicate {A = List (ℕ × Entry)} (16 - length callers.clients.items) [] in
      omega arith

  at : (n : ℕ) (x y : Bool) → nat_lt n 16 ≡ x → nat_eq n 16 ≡ y → n < callers_count
      → slice_get whole n ≡ Some (list_of x y (slice_get callers.clients.items n) callers.closer.list.entries (slice_get callers.desks.items (n - 17)))
  at n true y low is below =
      let long = front_long in
      let sum = length-append front (callers.closer.list.entries ∷ []) in
      let under : n < 16 = ltb-true n 16 low in
      before_last (front ++ callers.closer.list.entries ∷ []) back n (omega arith)
      ∙ (before_last front (callers.closer.list.entries ∷ []) n (omega arith)
      ∙ filled_at (λ (k : Client). k.list.entries) callers.clients.items 16 n under)
  at n false true low is below =
      let long = front_long in
      let here : n ≡ length front = eqb-true n 16 is ∙ sym long in
      let sum = length-append front (callers.closer.list.entries ∷ []) in
      before_last (front ++ callers.closer.list.entries ∷ []) back n (omega arith)
      ∙ (ap (slice_get (front ++ callers.closer.list.entries ∷ [])) here ∙ get_middle front [] callers.closer.list.entries)
  at n false false low is below =
      let long = front_long in
      let above : 16 ≤ n = ltb-false n 16 low in
      let apart = eqb-false n 16 is in
      let sum = length-append front (callers.closer.list.entries ∷ []) in
      let within : n - 17 < length callers.desks.items = omega arith in
      get_after (front ++ callers.closer.list.entries ∷ []) back n (n - 17) (omega arith)
      ∙ (slice_get-map (λ (d : Desk). d.list.entries) callers.desks.items (n - 17) ∙ there callers.desks.items (n - 17) within)
    where
      there : (ds : List Desk) (k : ℕ) → k < length ds → option_map (λ (d : Desk). d.list.entries) (slice_get ds k) ≡ Some (option_map_or (λ (d : Desk). d.list.entries) (slice_get ds k) [])
      there [] k within = absurd (omega arith)
      there (d ∷ ds) zero within = refl
      there (d ∷ ds) (suc k) within = there ds k (omega arith)

  whole_long : length whole ≡ callers_count
  whole_long =
      let long = front_long in
      let one = length-append (front ++ callers.closer.list.entries ∷ []) back in
      let two = length-append front (callers.closer.list.entries ∷ []) in
      let three = length-map callers.desks.items (λ (d : Desk). d.list.entries) in
      omega arith

  pub are_lists : (clients filled closed lists : List ClientState) → clients ≡ map (λ (k : Client). k.list) callers.clients.items
      → map (λ (l : ClientState). l.entries) filled ≡ map (λ (l : ClientState). l.entries) clients ++ replicate (16 - length clients) [] → closed ≡ filled ++ callers.closer.list ∷ []
      → lists ≡ closed ++ map (λ (d : Desk). d.list) callers.desks.items → AreLists callers lists
  are_lists clients filled closed lists one two three four' =
      let all = is in
      record {
        count = sym (length-map lists (λ (l : ClientState). l.entries)) ∙ (ap length all ∙ whole_long);
        each = λ c below. ap (λ (l : List (List (ℕ × Entry))). slice_get l c.0) all ∙ at c.0 (nat_lt c.0 16) (nat_eq c.0 16) refl refl below;
      }
    where
      mapped : {X : Type 0} (f : X → ClientState) (xs : List X) → map (λ (l : ClientState). l.entries) (map f xs) ≡ map (λ (x : X). (f x).entries) xs
      mapped f [] = refl
      mapped {X} f (x ∷ xs) = ap (λ l. (f x).entries ∷ l) (mapped f xs)

      first : map (λ (l : ClientState). l.entries) clients ≡ map (λ (k : Client). k.list.entries) callers.clients.items
      first = ap (map (λ (l : ClientState). l.entries)) one ∙ mapped (λ (k : Client). k.list) callers.clients.items

      size : length clients ≡ length callers.clients.items
      size = ap length one ∙ length-map callers.clients.items (λ (k : Client). k.list)

      second : map (λ (l : ClientState). l.entries) filled ≡ front
      second = two ∙ (ap (λ (l : List (List (ℕ × Entry))). l ++ replicate (16 - length clients) []) first
          ∙ ap (λ (n : ℕ). map (λ (k : Client). k.list.entries) callers.clients.items ++ replicate (16 - n) []) size)

      third : map (λ (l : ClientState). l.entries) closed ≡ front ++ callers.closer.list.entries ∷ []
      third = ap (map (λ (l : ClientState). l.entries)) three ∙ (map-append (λ (l : ClientState). l.entries) filled (callers.closer.list ∷ []) ∙ ap (λ (l : List (List (ℕ × Entry))). l ++ callers.closer.list.entries ∷ []) second)

      is : map (λ (l : ClientState). l.entries) lists ≡ whole
      is = ap (map (λ (l : ClientState). l.entries)) four' ∙ (map-append (λ (l : ClientState). l.entries) closed (map (λ (d : Desk). d.list) callers.desks.items)
          ∙ (ap (λ (l : List (List (ℕ × Entry))). l ++ map (λ (l : ClientState). l.entries) (map (λ (d : Desk). d.list) callers.desks.items)) third
          ∙ ap (λ (l : List (List (ℕ × Entry))). (front ++ callers.closer.list.entries ∷ []) ++ l) (mapped (λ (d : Desk). d.list) callers.desks.items)))
