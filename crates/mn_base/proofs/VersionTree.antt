-- A tree of versions with one more behind the others, the child of one of them: it is a tree of
-- versions still.
use Rattle.std.proofs.Common.{◌≡◌, ℕ, ◌+◌, ◌<◌, ◌≤◌, inl, inr, Bool, true, false, not, ◌&&◌, ◌||◌, List, [], ◌∷◌, ◌++◌, length, map, reverse, Option, Some, None, refl, subst, sym, ap, ◌∙◌, arith, if◌then◌else◌, slice_get, slice_set}
use Rattle.std.specs.Prelude.{nat_eq, nat_le, is_some, bytes_eq}
use Rattle.std.specs.List.{list_any}
use Rattle.std.specs.Option.{option_map_or}
use Rattle.std.proofs.lemmas.Bool.{eq-eqb, ne_eqb, leb-false, and_parts, and_from, cases_eq}
use Rattle.std.proofs.lemmas.List.{reverse-append, length-reverse, length-map, length-append, length-set, map-append}
use Rattle.std.proofs.lemmas.List.Folds.{list_any-append}
use Rattle.std.proofs.lemmas.Option.{slice_get_within}
use Rattle.mn_base.specs.Store.{Head, frozen_head, head_named, child_refusal}
use Rattle.mn_base.specs.Tree.{parents_of, HaveParents, are_distinct, has_child, IsVersionTree}
use Rattle.mn_base.specs.declared.reply.Reply.TheVariants as says
use Rattle.mn_base.proofs.Keys.{bytes_eq-true, bytes_eq-refl}
use Rattle.mn_base.proofs.Lists.{any_map, any_turned, set_at, set_beside, set_mapped, before_last, last_at}

-- the parents with one more
abbrev pub longer : List (Option ℕ) → ℕ → List (Option ℕ)
longer parents v = parents ++ Some v ∷ []

-- Heads

abbrev pub child_head : ℕ → List ℕ → Head
child_head v child = record { name = child; parent = Some v; frozen = false }

abbrev pub heads_after : List Head → ℕ → Head → List ℕ → List Head
heads_after heads v h child = slice_set heads v (frozen_head h) ++ child_head v child ∷ []

-- a child is refused where its name is taken, or where there is no room
pub child_admitted : (heads : List Head) (child : List ℕ) → child_refusal heads child ≡ None → (head_named heads child ≡ None) × (length heads < 64)
child_admitted heads child e = by_name (head_named heads child) refl e
  where
    by_room : (b : Bool) → nat_le 64 (length heads) ≡ b → (if b then Some says.VersionsFull else None) ≡ None → length heads < 64
    by_room true f g = absurd cc
    by_room false f g = leb-false 64 (length heads) f

    by_name : (o : Option Head) → head_named heads child ≡ o → (if is_some o then Some says.NameTaken else (if nat_le 64 (length heads) then Some says.VersionsFull else None)) ≡ None → (o ≡ None) × (length heads < 64)
    by_name (Some h) f g = absurd cc
    by_name None f g = (refl, by_room (nat_le 64 (length heads)) refl g)

names_any : (hs : List Head) (name : List ℕ) → list_any (λ (g : Head). bytes_eq g.name name) hs ≡ list_any (λ n. bytes_eq n name) (map (λ (g : Head). g.name) hs)
names_any hs name = sym (any_map (λ n. bytes_eq n name) (λ (g : Head). g.name) hs)

-- whether names are different is said by the names
names_distinct : (hs gs : List Head) → map (λ (h : Head). h.name) hs ≡ map (λ (h : Head). h.name) gs → are_distinct hs ≡ are_distinct gs
names_distinct [] [] e = refl
names_distinct [] (g ∷ gs) e = absurd cc
names_distinct (h ∷ hs) [] e = absurd cc
names_distinct (h ∷ hs) (g ∷ gs) e =
    let first : h.name ≡ g.name = cc in
    let rest : map (λ (x : Head). x.name) hs ≡ map (λ (x : Head). x.name) gs = cc in
    ap (λ b. not b && are_distinct hs) (names_any hs h.name ∙ (ap (λ (ns : List (List ℕ)). list_any (λ n. bytes_eq n h.name) ns) rest ∙ (ap (λ (x : List ℕ). list_any (λ n. bytes_eq n x) (map (λ (y : Head). y.name) gs)) first ∙ sym (names_any gs g.name))))
    ∙ ap (λ b. not (list_any (λ (y : Head). bytes_eq y.name g.name) gs) && b) (names_distinct hs gs rest)

-- one more name that is not taken
distinct_more : (hs : List Head) (k : Head) → are_distinct hs ≡ true → head_named hs k.name ≡ None → are_distinct (hs ++ k ∷ []) ≡ true
distinct_more [] k e free = refl
distinct_more (h ∷ hs) k e free = by_name (bytes_eq h.name k.name) refl free (λ f. distinct_more hs k parts.1 f)
  where
    parts : (not (list_any (λ (g : Head). bytes_eq g.name h.name) hs) ≡ true) × (are_distinct hs ≡ true)
    parts = and_parts (not (list_any (λ (g : Head). bytes_eq g.name h.name) hs)) (are_distinct hs) e

    off : (b : Bool) → not b ≡ true → b ≡ false
    off true f = absurd cc
    off false f = refl

    other : bytes_eq h.name k.name ≡ false → (t : Bool) → bytes_eq k.name h.name ≡ t → bytes_eq k.name h.name ≡ false
    other f true g =
        let same = bytes_eq-true k.name h.name g in
        let itself : bytes_eq h.name k.name ≡ true = ap (λ (x : List ℕ). bytes_eq h.name x) same ∙ bytes_eq-refl h.name in absurd cc
    other f false g = g

    by_name : (t : Bool) → bytes_eq h.name k.name ≡ t → (if t then Some h else head_named hs k.name) ≡ None → (head_named hs k.name ≡ None → are_distinct (hs ++ k ∷ []) ≡ true) → are_distinct ((h ∷ hs) ++ k ∷ []) ≡ true
    by_name true f g rest = absurd cc
    by_name false f g rest =
        and_from (not (list_any (λ (x : Head). bytes_eq x.name h.name) (hs ++ k ∷ []))) (are_distinct (hs ++ k ∷ []))
        (ap not (list_any-append (λ (x : Head). bytes_eq x.name h.name) hs (k ∷ []) ∙ (ap (λ b. b || (bytes_eq k.name h.name || false)) (off _ parts.0) ∙ ap (λ b. b || false) (other f (bytes_eq k.name h.name) refl))))
        (rest g)

-- whether a version has a child is said by the parents
parents_any : (heads : List Head) (u : ℕ) → has_child heads u ≡ list_any (λ o. option_map_or (nat_eq u) o false) (parents_of heads)
parents_any heads u = sym (any_map (λ o. option_map_or (nat_eq u) o false) (λ (h : Head). h.parent) heads)

-- who isn't there yet has no child
no_child : (older : List (Option ℕ)) → HaveParents older → (m : ℕ) → length older ≤ m → list_any (λ o. option_map_or (nat_eq m) o false) older ≡ false
no_child [] have m past = absurd have
no_child (None ∷ []) have m past = refl
no_child (None ∷ (parent ∷ older)) have m past = absurd have
no_child (Some p ∷ older) have m past =
    let low = have.0 in
    ap (λ b. b || list_any (λ o. option_map_or (nat_eq m) o false) older) (ne_eqb m p (λ e. absurd (omega arith))) ∙ no_child older have.1 m (omega arith)

module _ (heads : List Head) (v : ℕ) (h : Head) (child : List ℕ) (tree : IsVersionTree heads) (there : slice_get heads v ≡ Some h) (admitted : child_refusal heads child ≡ None) where
  in' : v < length heads
  in' = slice_get_within heads v h there

  free : (head_named heads child ≡ None) × (length heads < 64)
  free = child_admitted heads child admitted

  names_are : map (λ (g : Head). g.name) (slice_set heads v (frozen_head h)) ≡ map (λ (g : Head). g.name) heads
  names_are = set_mapped (λ (g : Head). g.name) heads v h (frozen_head h) there refl

  pub parents_after : parents_of (heads_after heads v h child) ≡ longer (parents_of heads) v
  parents_after =
      map-append (λ (g : Head). g.parent) (slice_set heads v (frozen_head h)) (child_head v child ∷ [])
      ∙ ap (λ (ps : List (Option ℕ)). ps ++ Some v ∷ []) (set_mapped (λ (g : Head). g.parent) heads v h (frozen_head h) there refl)

  many : length (slice_set heads v (frozen_head h)) ≡ length heads
  many = length-set heads v (frozen_head h)

  -- the parent has a child now, and each other version as before
  has_child_after : (u : ℕ) → has_child (heads_after heads v h child) u ≡ (has_child heads u || (nat_eq u v || false))
  has_child_after u =
      parents_any (heads_after heads v h child) u
      ∙ (ap (list_any (λ o. option_map_or (nat_eq u) o false)) parents_after
      ∙ (list_any-append (λ o. option_map_or (nat_eq u) o false) (parents_of heads) (Some v ∷ []) ∙ ap (λ b. b || (nat_eq u v || false)) (sym (parents_any heads u))))

  none_yet : has_child heads (length heads) ≡ false
  none_yet =
      parents_any heads (length heads)
      ∙ (sym (any_turned (λ o. option_map_or (nat_eq (length heads)) o false) (parents_of heads))
      ∙ no_child (reverse (parents_of heads)) tree.parents (length heads) (let e : length (reverse (parents_of heads)) ≡ length heads = length-reverse (parents_of heads) ∙ length-map heads (λ (g : Head). g.parent) in omega arith))

  -- a name is still free where the parent is frozen
  still_free : (hs gs : List Head) (name : List ℕ) → map (λ (g : Head). g.name) hs ≡ map (λ (g : Head). g.name) gs → head_named gs name ≡ None → head_named hs name ≡ None
  still_free [] gs name e none = refl
  still_free (x ∷ hs) [] name e none = absurd cc
  still_free (x ∷ hs) (y ∷ gs) name e none =
      let first : x.name ≡ y.name = cc in
      let rest : map (λ (g : Head). g.name) hs ≡ map (λ (g : Head). g.name) gs = cc in
      ap (λ (n : List ℕ). if bytes_eq n name then Some x else head_named hs name) first ∙ by_name (bytes_eq y.name name) none (still_free hs gs name rest)
    where
      by_name : (t : Bool) → (if t then Some y else head_named gs name) ≡ None → (head_named gs name ≡ None → head_named hs name ≡ None) → (if t then Some x else head_named hs name) ≡ None
      by_name true f rest = absurd cc
      by_name false f rest = rest f

  pub tree_after : IsVersionTree (heads_after heads v h child)
  tree_after = record {
    count = let e : length (heads_after heads v h child) ≡ length heads + 1 = length-append (slice_set heads v (frozen_head h)) (child_head v child ∷ []) ∙ ap (λ k. k + 1) many in let few = free.1 in omega arith;
    parents = subst HaveParents (sym (ap reverse parents_after ∙ reverse-append (parents_of heads) (Some v ∷ [])))
        ((let e : length (reverse (parents_of heads)) ≡ length heads = length-reverse (parents_of heads) ∙ length-map heads (λ (g : Head). g.parent) in subst (λ k. v < k) (sym e) in'), tree.parents);
    names = distinct_more (slice_set heads v (frozen_head h)) (child_head v child) (names_distinct (slice_set heads v (frozen_head h)) heads names_are ∙ tree.names)
        (still_free (slice_set heads v (frozen_head h)) heads child names_are free.0);
    frozen = frozen;
  }
    where
      head_same : (g k : Head) → Some g ≡ Some k → g ≡ k
      head_same g k e = cc

      right : (b : Bool) → (b || (true || false)) ≡ true
      right true = refl
      right false = refl

      left : (b : Bool) → (b || (false || false)) ≡ b
      left true = refl
      left false = refl

      frozen : (u : ℕ) (g : Head) → slice_get (heads_after heads v h child) u ≡ Some g → g.frozen ≡ has_child (heads_after heads v h child) u
      frozen u g at = elim (cases_eq u (length heads)) as (λ _. g.frozen ≡ has_child (heads_after heads v h child) u) [
        | inl last ↦
            let is : child_head v child ≡ g =
            head_same (child_head v child) g (sym (last_at (slice_set heads v (frozen_head h)) (child_head v child)) ∙ (ap (slice_get (heads_after heads v h child)) (many ∙ sym last) ∙ at)) in
            let off : nat_eq u v ≡ false = ne_eqb u v (λ e. absurd (omega (arith, in'))) in
            ap (λ (k : Head). k.frozen) (sym is) ∙ sym (has_child_after u ∙ (ap (λ k. has_child heads k || (nat_eq u v || false)) last ∙ (ap (λ b. b || (nat_eq u v || false)) none_yet ∙ ap (λ b. b || false) off)))
        | inr early ↦ elim (cases_eq u v) as (λ _. g.frozen ≡ has_child (heads_after heads v h child) u) [
          | inl same ↦
              let is : frozen_head h ≡ g = head_same (frozen_head h) g (sym (set_at heads v h (frozen_head h) there)
              ∙ (sym (before_last (slice_set heads v (frozen_head h)) (child_head v child ∷ []) v (subst (λ k. v < k) (sym many) in')) ∙ (ap (slice_get (heads_after heads v h child)) (sym same) ∙ at))) in
              ap (λ (k : Head). k.frozen) (sym is) ∙ sym (has_child_after u ∙ (ap (λ b. has_child heads u || (b || false)) (eq-eqb u v same) ∙ right (has_child heads u)))
          | inr differ ↦
              let within = slice_get_within (heads_after heads v h child) u g at in
              let all : length (heads_after heads v h child) ≡ length heads + 1 = length-append (slice_set heads v (frozen_head h)) (child_head v child ∷ []) ∙ ap (λ k. k + 1) many in
              let low : u < length heads = below u (length heads) (subst (λ k. u < k) all within) early in
              tree.frozen u g (sym (before_last (slice_set heads v (frozen_head h)) (child_head v child ∷ []) u (subst (λ k. u < k) (sym many) low) ∙ set_beside heads v (frozen_head h) u differ) ∙ at)
              ∙ sym (has_child_after u ∙ (ap (λ b. has_child heads u || (b || false)) (ne_eqb u v differ) ∙ left (has_child heads u)))
        ]
      ]
        where
          below : (m n : ℕ) → m < n + 1 → (m ≡ n → ⊥) → m < n
          below m n low off = elim (cases_eq m n) as (λ _. m < n) [ inl e ↦ absurd (off e) | inr apart ↦ omega (arith, apart) ]
