-- Where the catalog, slots and pages stand.
use Rattle.std.proofs.Common.{◌≡◌, ℕ, ◌+◌, ◌-◌, ◌*◌, ◌/◌, ◌≤◌, Bool, true, false, ◌&&◌, refl, sym, ap, ◌∙◌, arith, nat_eq}
use Rattle.std.proofs.Math.Nat.{mul-div_cancel_left}
use Rattle.std.proofs.lemmas.Bool.{eq-eqb}
use Rattle.mn_base.specs.declared.ids.Addr.{Addr}
use Rattle.mn_base.specs.declared.ids.NodeNo.{NodeNo}
use Rattle.mn_base.proofs.Booleans.{both_parts, clash}
use Rattle.mn_page.proofs.FrontFields.{is_at}
use Rattle.mn_runs.specs.Seen.{Place, Seen}
use Rattle.mn_law.specs.Places.{page_place}
use Rattle.mn_law.specs.Shown.{IsCatalogRead}
use Rattle.mn_hist.specs.Shown.{TestDecides, is_of_catalog}

decides_eq : (x y : ℕ) (T : Type 0) → (x ≡ y → T) → (T → x ≡ y) → TestDecides (nat_eq x y) T
decides_eq x y T to from =
    elim (nat_eq x y) as (λ b. nat_eq x y ≡ b → TestDecides b T) [
      | true ↦ λ e. to (is_at x y e)
      | false ↦ λ e t. clash (nat_eq x y) (eq-eqb x y (from t)) e
    ] refl
  where
    clash : (b : Bool) → b ≡ true → b ≡ false → ⊥
    clash b p q = cc

there : (start slot : ℕ) → 20480 ≤ start → 1024 * slot ≡ start - 20480 → 20480 + 1024 * slot ≡ start
there start slot le e = omega arith

rest_of : (start slot : ℕ) → 20480 + 1024 * slot ≡ start → start - 20480 ≡ 1024 * slot
rest_of start slot e = omega arith

pub slot_test : (start : ℕ) → 20480 ≤ start → TestDecides (nat_eq (1024 * ((start - 20480) / 1024)) (start - 20480)) ((slot : ℕ) × (20480 + 1024 * slot ≡ start))
slot_test start le =
    decides_eq (1024 * ((start - 20480) / 1024)) (start - 20480) ((slot : ℕ) × (20480 + 1024 * slot ≡ start))
    (λ e. ((start - 20480) / 1024, there start ((start - 20480) / 1024) le e))
    (λ s. let r = rest_of start s.0 s.1 in
    ap (λ n. 1024 * (n / 1024)) r ∙ (ap (λ n. 1024 * n) (mul-div_cancel_left s.0 {n = 1024} (omega arith)) ∙ sym r))

-- the range of a page
pub page_test : (node : NodeNo) (start long : ℕ) → long ≡ 1024 → (b : Bool) → TestDecides b ((slot : ℕ) × (20480 + 1024 * slot ≡ start))
    → TestDecides b ((addr : Addr) × (◌≡◌ {A = Place} (record { node = node; start = start; length = long }) (page_place addr)))
page_test node start long is true (slot, e) = (record { node = node; slot = slot }, λ i. record { node = node; start = sym e i; length = is i })
page_test node start long is false none = λ at. none (at.0.slot, ap (λ (p : Place). p.start) (sym at.1))

-- Reads of the catalog

pub catalog_read : (seen : Seen) → is_of_catalog seen ≡ true → IsCatalogRead seen
catalog_read seen is =
    let p = both_parts (nat_eq seen.place.node.0 0) (nat_eq seen.place.start 64 && nat_eq seen.place.length 4096) is in
    let q = both_parts (nat_eq seen.place.start 64) (nat_eq seen.place.length 4096) p.1 in
    let node = is_at seen.place.node.0 0 p.0 in
    let start = is_at seen.place.start 64 q.0 in
    let long = is_at seen.place.length 4096 q.1 in
    λ i. record { node = record { 0 = node i }; start = start i; length = long i }

pub no_catalog_read : (seen : Seen) → is_of_catalog seen ≡ false → IsCatalogRead seen → ⊥
no_catalog_read seen other is =
    let same : is_of_catalog seen ≡ true = ap (λ (p : Place). nat_eq p.node.0 0 && (nat_eq p.start 64 && nat_eq p.length 4096)) is in
    clash (is_of_catalog seen) same other
