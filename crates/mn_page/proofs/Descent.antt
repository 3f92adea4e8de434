-- One more version behind the others, the child of one of them: who is above whom then, and which
-- versions a page serves.
use Rattle.std.proofs.Common.{◌≡◌, ℕ, ◌+◌, ◌^◌, ◌<◌, inl, inr, Bool, true, false, not, ◌&&◌, ◌||◌, List, [], ◌∷◌, length, reverse, Option, Some, refl, subst, sym, ap, ◌∙◌, arith, if◌then◌else◌}
use Rattle.std.specs.Prelude.{filter, nat_eq}
use Rattle.std.specs.Int.Bits.{bit_or}
use Rattle.std.specs.List.{AllByRecursion, list_any, range_with_len}
use Rattle.std.proofs.lemmas.Bool.{eqb-true, eq-eqb, ne_eqb, and_from, and_right, cases_eq}
use Rattle.std.proofs.lemmas.List.{reverse-append, length-reverse}
use Rattle.mn_base.specs.Tree.{is_above, is_ancestor, has_version, versions_in, serves, HaveParents}
use Rattle.mn_page.proofs.Ancestors.{above_le}
use Rattle.mn_page.proofs.Copy.{joined_bit}
use Rattle.mn_base.proofs.Lists.{weaker, any_agree, any_same, any_filter, any_hit, range_at}
use Rattle.mn_base.proofs.VersionTree.{longer}

-- Who is above whom

module _ (parents : List (Option ℕ)) (v : ℕ) where
  long : length (reverse parents) ≡ length parents
  long = length-reverse parents

  turned : reverse (longer parents v) ≡ Some v ∷ reverse parents
  turned = reverse-append parents (Some v ∷ [])

  -- the older ones stand as they stood
  pub old_ancestor : (a u : ℕ) → u < length parents → is_ancestor (longer parents v) a u ≡ is_ancestor parents a u
  old_ancestor a u low =
      ap (λ (ps : List (Option ℕ)). is_above ps a u) turned
      ∙ ap (λ b. if b then nat_eq a u || is_above (reverse parents) a v else is_above (reverse parents) a u) (ne_eqb u (length (reverse parents)) (λ e. apart (e ∙ long)))
    where
      apart : u ≡ length parents → ⊥
      apart e = absurd (omega arith)

  -- above the new one stand it and who is above its parent
  pub new_ancestor : (a : ℕ) → is_ancestor (longer parents v) a (length parents) ≡ (nat_eq a (length parents) || is_ancestor parents a v)
  new_ancestor a =
      ap (λ (ps : List (Option ℕ)). is_above ps a (length parents)) turned
      ∙ ap (λ b. if b then nat_eq a (length parents) || is_above (reverse parents) a v else is_above (reverse parents) a (length parents)) (eq-eqb (length parents) (length (reverse parents)) (sym long))

  -- Pages that stand

  -- for the older versions they serve what they served
  pub old_serves : (made copied u : ℕ) → u < length parents → serves (longer parents v) made copied u ≡ serves parents made copied u
  old_serves made copied u low =
      ap (λ b. b && not (list_any (λ w. is_ancestor (longer parents v) w u) (versions_in copied))) (old_ancestor made u low)
      ∙ ap (λ b. is_ancestor parents made u && not b) (any_same (λ w. is_ancestor (longer parents v) w u) (λ w. is_ancestor parents w u) (λ w. old_ancestor w u low) (versions_in copied))

  -- and the new one where they serve its parent
  pub new_serves : (made copied : ℕ) → made < length parents → AllByRecursion (λ w. w < length parents) (versions_in copied) → serves (longer parents v) made copied (length parents) ≡ serves parents made copied v
  new_serves made copied low all =
      ap (λ b. b && not (list_any (λ w. is_ancestor (longer parents v) w (length parents)) (versions_in copied))) (below made low)
      ∙ ap (λ b. is_ancestor parents made v && not b)
      (any_agree (λ w. is_ancestor (longer parents v) w (length parents)) (λ w. is_ancestor parents w v) (versions_in copied)
      (weaker (λ w. w < length parents) (λ w. is_ancestor (longer parents v) w (length parents) ≡ is_ancestor parents w v) below (versions_in copied) all))
    where
      below : (a : ℕ) → a < length parents → is_ancestor (longer parents v) a (length parents) ≡ is_ancestor parents a v
      below a low = new_ancestor a ∙ ap (λ b. b || is_ancestor parents a v) (ne_eqb a (length parents) (λ e. absurd (omega arith)))

  -- no older one is below a newer one
  not_above : HaveParents (reverse parents) → (u : ℕ) → u < length parents → is_ancestor parents (length parents) u ≡ false
  not_above have u low = cases (is_ancestor parents (length parents) u) refl
    where
      cases : (b : Bool) → is_ancestor parents (length parents) u ≡ b → is_ancestor parents (length parents) u ≡ false
      cases true e = let le = above_le (reverse parents) have (length parents) u e in absurd (omega arith)
      cases false e = e

  -- A page that is copied for the new one

  abbrev pub with_new : ℕ → ℕ
  with_new copied = bit_or copied (2 ^ length parents)

  -- it serves the older ones as before
  pub marked_old : HaveParents (reverse parents) → (made copied u : ℕ) → u < length parents → serves (longer parents v) made (with_new copied) u ≡ serves parents made copied u
  marked_old have made copied u low =
      old_serves made (with_new copied) u low
      ∙ ap (λ b. is_ancestor parents made u && not b)
      (any_filter (λ w. is_ancestor parents w u) (has_version (with_new copied)) (range_with_len 0 64)
      ∙ (any_same (λ w. has_version (with_new copied) w && is_ancestor parents w u) (λ w. has_version copied w && is_ancestor parents w u) each (range_with_len 0 64)
      ∙ sym (any_filter (λ w. is_ancestor parents w u) (has_version copied) (range_with_len 0 64))))
    where
      off : (b c : Bool) → c ≡ false → ((b || true) && c) ≡ (b && c)
      off true c e = refl
      off false c e = e

      or_false : (b : Bool) → (b || false) ≡ b
      or_false true = refl
      or_false false = refl

      each : (w : ℕ) → (has_version (with_new copied) w && is_ancestor parents w u) ≡ (has_version copied w && is_ancestor parents w u)
      each w = ap (λ b. b && is_ancestor parents w u) (joined_bit copied (length parents) w) ∙ elim (cases_eq w (length parents)) as (λ _. ((has_version copied w || nat_eq w (length parents)) && is_ancestor parents w u) ≡ (has_version copied w && is_ancestor parents w u)) [
        | inl e ↦ ap (λ b. (has_version copied w || b) && is_ancestor parents w u) (eq-eqb w (length parents) e) ∙ off (has_version copied w) (is_ancestor parents w u) (ap (λ k. is_ancestor parents k u) e ∙ not_above have u low)
        | inr differ ↦ ap (λ b. (has_version copied w || b) && is_ancestor parents w u) (ne_eqb w (length parents) differ) ∙ ap (λ b. b && is_ancestor parents w u) (or_false (has_version copied w))
      ]

  -- and not the new one
  pub marked_new : length parents < 64 → (made copied : ℕ) → serves (longer parents v) made (with_new copied) (length parents) ≡ false
  marked_new few made copied =
      ap (λ b. is_ancestor (longer parents v) made (length parents) && not b)
      (any_filter (λ w. is_ancestor (longer parents v) w (length parents)) (has_version (with_new copied)) (range_with_len 0 64)
      ∙ any_hit (λ w. has_version (with_new copied) w && is_ancestor (longer parents v) w (length parents)) (range_with_len 0 64) (length parents) (length parents)
      (range_at 0 64 (length parents) few ∙ (let e : 0 + length parents ≡ length parents = omega arith in ap Some e))
      (and_from (has_version (with_new copied) (length parents)) (is_ancestor (longer parents v) (length parents) (length parents))
      (joined_bit copied (length parents) (length parents) ∙ (ap (λ b. has_version copied (length parents) || b) (eq-eqb (length parents) (length parents) refl) ∙ last (has_version copied (length parents)))) itself))
      ∙ and_right (is_ancestor (longer parents v) made (length parents)) false refl
    where
      last : (b : Bool) → (b || true) ≡ true
      last true = refl
      last false = refl

      itself : is_ancestor (longer parents v) (length parents) (length parents) ≡ true
      itself = new_ancestor (length parents) ∙ ap (λ b. b || is_ancestor parents (length parents) v) (eq-eqb (length parents) (length parents) refl)

  -- the copy serves the new one alone
  pub copy_old : HaveParents (reverse parents) → (u : ℕ) → u < length parents → serves (longer parents v) (length parents) 0 u ≡ false
  copy_old have u low = ap (λ b. b && true) (old_ancestor (length parents) u low ∙ not_above have u low)

  pub copy_new : serves (longer parents v) (length parents) 0 (length parents) ≡ true
  copy_new = ap (λ b. b && true) (new_ancestor (length parents) ∙ ap (λ b. b || is_ancestor parents (length parents) v) (eq-eqb (length parents) (length parents) refl))

-- what holds of the versions of a set, and of one more
pub with_new_all : (P : ℕ → Type 0) (copied w : ℕ) → P w → AllByRecursion P (versions_in copied) → AllByRecursion P (versions_in (bit_or copied (2 ^ w)))
with_new_all P copied w one all = chosen (range_with_len 0 64) all
  where
    chosen : (ws : List ℕ) → AllByRecursion P (filter (has_version copied) ws) → AllByRecursion P (filter (has_version (bit_or copied (2 ^ w))) ws)
    chosen [] all = tt
    chosen (x ∷ ws) all = subst (λ b. AllByRecursion P (if b then x ∷ filter (has_version (bit_or copied (2 ^ w))) ws else filter (has_version (bit_or copied (2 ^ w))) ws)) (sym (joined_bit copied w x)) (cases (has_version copied x) (nat_eq x w) refl all (chosen ws))
      where
        cases : (b c : Bool) → nat_eq x w ≡ c → AllByRecursion P (if b then x ∷ filter (has_version copied) ws else filter (has_version copied) ws)
            → (AllByRecursion P (filter (has_version copied) ws) → AllByRecursion P (filter (has_version (bit_or copied (2 ^ w))) ws))
            → AllByRecursion P (if b || c then x ∷ filter (has_version (bit_or copied (2 ^ w))) ws else filter (has_version (bit_or copied (2 ^ w))) ws)
        cases true c e all rest = (all.0, rest all.1)
        cases false true e all rest = (subst P (sym (eqb-true x w e)) one, rest all)
        cases false false e all rest = rest all
