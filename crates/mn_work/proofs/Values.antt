-- The values of a page are no longer than they may be.
use Rattle.std.proofs.Common.{◌≡◌, ℕ, ◌≤◌, Bool, true, false, List, [], ◌∷◌, length, Option, Some, refl, subst, arith}
use Rattle.std.specs.Prelude.{IsTrue, bytes_eq, if◌then◌else◌}
use Rattle.std.specs.List.{AllByRecursion}
use Rattle.mn_base.specs.Order.{covers_key}
use Rattle.mn_base.specs.Refusal.{RefusesValue}
use Rattle.mn_base.specs.Store.{value_at}
use Rattle.mn_base.specs.declared.error.BaseError.{BaseError}
use Rattle.mn_base.specs.declared.error.BaseError.TheVariants as refusals
use Rattle.mn_base.specs.declared.reply.Pair.{Pair}
use Rattle.mn_page.specs.declared.page.Body.{Body}
use Rattle.mn_page.specs.declared.page.Body.TheVariants.{Leaf, Inner}
use Rattle.mn_page.specs.declared.page.Page.{Page}
use Rattle.mn_page.specs.Grammar.{IsBody, IsKey, IsPage, IsValue}
use Rattle.mn_page.specs.Holds.{pairs_in}

in_pairs : (low : List ℕ) (high : Option (List ℕ)) (pairs : List Pair) (key value : List ℕ)
    → AllByRecursion (λ p. IsKey p.key × IsValue p.value × IsTrue (covers_key low high p.key)) pairs
    → value_at pairs key ≡ Some value → length value ≤ 64
in_pairs low high [] key value all at = absurd cc
in_pairs low high (p ∷ ps) key value all at = by (in_pairs low high ps key value all.1) (bytes_eq p.key key) at
  where
    by : (value_at ps key ≡ Some value → length value ≤ 64) → (same : Bool)
        → (if same then Some p.value else value_at ps key) ≡ Some value → length value ≤ 64
    by rest true is = let e : p.value ≡ value = cc in subst (λ (v : List ℕ). length v ≤ 64) e all.0.1.0
    by rest false is = rest is

body_value : (low : List ℕ) (high : Option (List ℕ)) (body : Body) (key value : List ℕ) → IsBody low high body
    → value_at (pairs_in body) key ≡ Some value → length value ≤ 64
body_value low high (Leaf pairs) key value is at = in_pairs low high pairs key value is.2 at
body_value low high (Inner height first rest) key value is at = absurd cc

pub value_fits : (p : Page) (key value : List ℕ) → IsPage p → value_at (pairs_in p.body) key ≡ Some value
    → length value ≤ 64
value_fits p key value is at = body_value p.low p.high p.body key value is.body at

-- such bytes make no value only for want of memory
pub refuses_want : (bytes : List ℕ) (error : BaseError) → length bytes ≤ 64 → RefusesValue bytes error
    → error ≡ refusals.NoMemory
refuses_want bytes refusals.Empty few refused = absurd refused
refuses_want bytes (refusals.TooLong n) few refused =
    let long = refused.0 in let more = refused.1 in absurd (omega arith)
refuses_want bytes (refusals.BadName at) few refused = absurd refused
refuses_want bytes (refusals.BadSteps n) few refused = absurd refused
refuses_want bytes refusals.NoMemory few refused = refl
