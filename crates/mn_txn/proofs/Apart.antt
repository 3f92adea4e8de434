-- Images at different places.
use Rattle.std.proofs.Common.{◌≡◌, ℕ, ◌+◌, ◌*◌, Bool, true, false, ◌&&◌, nat_eq, List, [], ◌∷◌, ◌++◌, refl, sym, ap, ◌∙◌, arith}
use Rattle.std.specs.List.{AllByRecursion}
use Rattle.std.proofs.lemmas.Bool.{and_parts, eqb-true, ne_eqb}
use Rattle.mn_base.specs.declared.ids.Addr.{Addr}
use Rattle.mn_base.proofs.Booleans.{and_false}
use Rattle.mn_base.proofs.Lists.{all_append, weaker}
use Rattle.mn_page.specs.declared.page.Page.{Page}
use Rattle.mn_page.proofs.Spelled.{same_addr}
use Rattle.mn_txn.specs.declared.image.Image.{Image}
use Rattle.mn_txn.specs.State.{is_at, ImagesAreApart}
use Rattle.mn_txn.specs.Attempt.{page_image}

pub starts_differ : (a b : Image) → (a.start ≡ b.start → ⊥) → is_at a.node a.start b ≡ false
starts_differ a b differ = ap (λ t. nat_eq a.node.0 b.node.0 && t) (ne_eqb a.start b.start differ) ∙ and_false (nat_eq a.node.0 b.node.0)

pub pages_differ : (a b : Addr) (q : Page) → (b ≡ a → ⊥)
    → is_at a.node (20480 + 1024 * a.slot) (page_image b q) ≡ false
pages_differ a b q differ = by_test (is_at a.node (20480 + 1024 * a.slot) (page_image b q)) refl
  where
    by_test : (t : Bool) → is_at a.node (20480 + 1024 * a.slot) (page_image b q) ≡ t → t ≡ false
    by_test true e =
        let both = and_parts (nat_eq a.node.0 b.node.0) (nat_eq (20480 + 1024 * a.slot) (20480 + 1024 * b.slot)) e in
        let starts = eqb-true (20480 + 1024 * a.slot) (20480 + 1024 * b.slot) both.1 in
        absurd (differ (sym (same_addr a b (eqb-true a.node.0 b.node.0 both.0) (omega (arith, starts)))))
    by_test false e = refl

pub nodes_differ : (a b : Image) → (a.node.0 ≡ b.node.0 → ⊥) → is_at a.node a.start b ≡ false
nodes_differ a b differ = ap (λ t. t && nat_eq a.start b.start) (ne_eqb a.node.0 b.node.0 differ)

-- Lists of images apart

-- none of these stands at the place of the image
abbrev pub AreOff : List Image → Image → Type 0
AreOff ys x = AllByRecursion (λ y. is_at x.node x.start y ≡ false) ys

pub apart_append : (xs ys : List Image) → ImagesAreApart xs → ImagesAreApart ys
    → AllByRecursion (λ x. AreOff ys x) xs → ImagesAreApart (xs ++ ys)
apart_append [] ys u v off = v
apart_append (x ∷ xs) ys u v off = (all_append (λ y. is_at x.node x.start y ≡ false) xs ys u.0 off.0, apart_append xs ys u.1 v off.1)

-- starts of two sorts
pub apart_sorts : (P Q : ℕ → Type 0) → ((m n : ℕ) → P m → Q n → m ≡ n → ⊥) → (xs ys : List Image)
    → AllByRecursion (λ x. P x.start) xs → AllByRecursion (λ y. Q y.start) ys
    → AllByRecursion (λ x. AreOff ys x) xs
apart_sorts P Q differ xs ys all others =
    weaker (λ x. P x.start) (λ x. AreOff ys x)
    (λ x p. weaker (λ y. Q y.start) (λ y. is_at x.node x.start y ≡ false) (λ y q. starts_differ x y (differ x.start y.start p q)) ys others) xs all
