-- The images of a transaction, as they join and as they are looked for.
use Rattle.std.proofs.Common.{◌≡◌, ℕ, suc, ◌+◌, ◌<◌, Bool, true, false, cond, not, ◌&&◌, nat_eq, List, [], ◌∷◌, ◌++◌, length, get_or, set, Some, None, refl, sym, ap, subst, ◌∙◌, arith}
use Rattle.std.specs.List.{AllByRecursion, position_or_len}
use Rattle.std.proofs.lemmas.Cmp.{nat_eq_equiv}
use Rattle.mn_base.specs.declared.ids.NodeNo.{NodeNo}
use Rattle.mn_txn.specs.declared.image.Image.{Image}
use Rattle.mn_txn.specs.State.{State, image, is_at, joined, bytes_at, ImagesAreApart}
use Rattle.mn_txn.specs.Plan.{is_last, is_last_read, is_worn}

-- Bytes that are kept

module _ (node : NodeNo) (start : ℕ) (bytes : List ℕ) where
  abbrev place : List Image → ℕ
  place xs = position_or_len (is_at node start) xs

  -- they take the place of older ones
  joined_there : (xs : List Image) (d : Image) → place xs < length xs → joined xs (image node start bytes) ≡ set xs (place xs) (record (get_or xs (place xs) d) { bytes = bytes })
  joined_there [] d l = absurd (omega arith)
  joined_there (x ∷ xs) d l = by (is_at node start x) (joined_there xs d) l
    where
      by : (b : Bool) → (place xs < length xs → joined xs (image node start bytes) ≡ set xs (place xs) (record (get_or xs (place xs) d) { bytes = bytes })) → cond (not b) (1 + place xs) 0 < length (x ∷ xs)
          → cond b (image x.node x.start bytes ∷ xs) (x ∷ joined xs (image node start bytes)) ≡ set (x ∷ xs) (cond (not b) (1 + place xs) 0) (record (get_or (x ∷ xs) (cond (not b) (1 + place xs) 0) d) { bytes = bytes })
      by true later l = refl
      by false later l = let next : 1 + place xs ≡ suc (place xs) = omega arith in rw next (ap (λ ys. x ∷ ys) (later (omega arith)))

  pub kept_there : (xs : List Image) (at : ℕ) (kept : Image) → at ≡ place xs → at < length xs → kept ≡ get_or xs at kept → set xs at (record kept { bytes = bytes }) ≡ joined xs (image node start bytes)
  kept_there xs at kept e l k =
      ap (λ (x : Image). set xs at (record x { bytes = bytes })) k
      ∙ ap (λ (n : ℕ). set xs n (record (get_or xs n kept) { bytes = bytes })) e
      ∙ sym (joined_there xs kept (subst (λ (n : ℕ). n < length xs) e l))

  -- or else they come last
  pub joined_last : (xs : List Image) → (place xs < length xs → ⊥) → joined xs (image node start bytes) ≡ xs ++ image node start bytes ∷ []
  joined_last [] past = refl
  joined_last (x ∷ xs) past = by (is_at node start x) (joined_last xs) past
    where
      by : (b : Bool) → ((place xs < length xs → ⊥) → joined xs (image node start bytes) ≡ xs ++ image node start bytes ∷ []) → (cond (not b) (1 + place xs) 0 < length (x ∷ xs) → ⊥)
          → cond b (image x.node x.start bytes ∷ xs) (x ∷ joined xs (image node start bytes)) ≡ x ∷ (xs ++ image node start bytes ∷ [])
      by true later past = absurd (past (omega arith))
      by false later past = ap (λ ys. x ∷ ys) (later (λ l. past (omega (arith, l))))

-- Images apart

pub turned : (a b : Image) → is_at a.node a.start b ≡ is_at b.node b.start a
turned a b = ap (λ x. x && nat_eq a.start b.start) (nat_eq_equiv.symm a.node.0 b.node.0) ∙ ap (λ x. nat_eq b.node.0 a.node.0 && x) (nat_eq_equiv.symm a.start b.start)

apart_more : (x i : Image) (ys : List Image) → is_at x.node x.start i ≡ false → AllByRecursion (λ y. is_at x.node x.start y ≡ false) ys → AllByRecursion (λ y. is_at x.node x.start y ≡ false) (joined ys i)
apart_more x i [] f a = (f, tt)
apart_more x i (y ∷ ys) f a = by (is_at i.node i.start y) (apart_more x i ys f a.1)
  where
    by : (b : Bool) → AllByRecursion (λ y. is_at x.node x.start y ≡ false) (joined ys i) → AllByRecursion (λ y. is_at x.node x.start y ≡ false) (cond b (image y.node y.start i.bytes ∷ ys) (y ∷ joined ys i))
    by true later = a
    by false later = (a.0, later)

pub apart_joined : (xs : List Image) (i : Image) → ImagesAreApart xs → ImagesAreApart (joined xs i)
apart_joined [] i a = (tt, tt)
apart_joined (x ∷ xs) i a = by (is_at i.node i.start x) refl (apart_joined xs i a.1)
  where
    by : (b : Bool) → is_at i.node i.start x ≡ b → ImagesAreApart (joined xs i) → ImagesAreApart (cond b (image x.node x.start i.bytes ∷ xs) (x ∷ joined xs i))
    by true t later = a
    by false f later = (apart_more x i xs (turned x i ∙ f) a.0, later)

-- The last number

module _ (t : State) (i : Image) (f : nat_eq i.start 16 ≡ false) where
  not_count : (b : Bool) → b ≡ (not (nat_eq i.start 16) && b)
  not_count b = ap (λ c. not c && b) (sym f)

  pub worn_read : (bytes : List ℕ) → bytes_at i.node i.start t.reads ≡ Some bytes → is_last bytes ≡ is_worn t i
  worn_read bytes h = ap (λ o. is_last_read o (is_last_read (bytes_at i.node i.start t.dirty) false)) (sym h) ∙ not_count _

  pub worn_unread : bytes_at i.node i.start t.reads ≡ None → bytes_at i.node i.start t.dirty ≡ None → false ≡ is_worn t i
  worn_unread h k = ap (λ o. is_last_read o false) (sym k) ∙ ap (λ o. is_last_read o (is_last_read (bytes_at i.node i.start t.dirty) false)) (sym h) ∙ not_count _
