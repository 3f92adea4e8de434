-- A page with one more version in its copied set: what it serves, and that it is a page.
use Rattle.std.proofs.Common.{◌≡◌, ℕ, ◌+◌, ◌-◌, ◌^◌, ◌<◌, Bool, true, false, not, ◌&&◌, ◌||◌, Some, refl, sym, ap, ◌∙◌, arith, slice_get}
use Rattle.std.specs.Int.Bits.{bit_or}
use Rattle.std.specs.List.{list_any, range_with_len}
use Rattle.std.proofs.lemmas.Bool.{eq-eqb}
use Rattle.mn_base.specs.Store.{max_versions}
use Rattle.mn_base.specs.Tree.{is_ancestor, has_version, versions_in}
use Rattle.mn_base.specs.declared.ids.VersionNo.{VersionNo}
use Rattle.mn_base.proofs.Booleans.{or_false}
use Rattle.mn_base.proofs.Lists.{range_at}
use Rattle.mn_page.specs.declared.page.Page.{Page}
use Rattle.mn_page.proofs.Copy.{joined_bit, any_same, any_joined}
use Rattle.mn_page.specs.Copies.{marked_for, copy_for}
use Rattle.mn_cow.specs.Serving.{ServesOthers, ServesItsOwn}

-- Serving

and_not_or : (a b t : Bool) → (a && not (b || t)) ≡ ((a && not b) && not t)
and_not_or false b t = refl
and_not_or true true t = refl
and_not_or true false t = refl

or_true : (b : Bool) → (b || true) ≡ true
or_true true = refl
or_true false = refl

-- some version of the set with one more passes where that one does, or some version did
any_marked : (test : ℕ → Bool) (copied v : ℕ) → v < 64
    → list_any test (versions_in (bit_or copied (2 ^ v))) ≡ (list_any test (versions_in copied) || test v)
any_marked test copied v few = go (test v) refl
  where
    there : slice_get (range_with_len 0 max_versions) v ≡ Some v
    there = range_at 0 64 v few ∙ (let e : 0 + v ≡ v = omega arith in ap Some e)

    in_set : has_version (bit_or copied (2 ^ v)) v ≡ true
    in_set = joined_bit copied v v ∙ ap (λ b. has_version copied v || b) (eq-eqb v v refl) ∙ or_true (has_version copied v)

    go : (b : Bool) → test v ≡ b
        → list_any test (versions_in (bit_or copied (2 ^ v))) ≡ (list_any test (versions_in copied) || test v)
    go true e =
        any_joined test (has_version (bit_or copied (2 ^ v))) v in_set e (range_with_len 0 max_versions) v there
        ∙ sym (ap (λ b. list_any test (versions_in copied) || b) e ∙ or_true (list_any test (versions_in copied)))
    go false e =
        any_same test (has_version (bit_or copied (2 ^ v))) (has_version copied) v (joined_bit copied v) e (range_with_len 0 max_versions)
        ∙ sym (ap (λ b. list_any test (versions_in copied) || b) e ∙ or_false (list_any test (versions_in copied)))

pub old_serves : (v : VersionNo) (p : Page) → v.0 < 64 → ServesOthers v.0 p (marked_for v p)
old_serves v p few parents w =
    ap (λ b. is_ancestor parents p.made.0 w && not b) (any_marked (λ x. is_ancestor parents x w) p.copied v.0 few)
    ∙ and_not_or (is_ancestor parents p.made.0 w) (list_any (λ x. is_ancestor parents x w) (versions_in p.copied)) (is_ancestor parents v.0 w)

and_true : (b : Bool) → (b && true) ≡ b
and_true true = refl
and_true false = refl

pub copy_serves : (v : VersionNo) (p : Page) → ServesItsOwn v.0 (copy_for v p)
copy_serves v p parents w = and_true (is_ancestor parents v.0 w)
