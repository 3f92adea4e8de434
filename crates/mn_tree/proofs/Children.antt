-- The children of a page with one in another's place.
use Rattle.std.proofs.Common.{◌≡◌, ℕ, suc, ◌+◌, ◌<◌, true, false, List, [], ◌∷◌, ◌++◌, length, drop, get_or, Option, refl, sym, ap, ◌∙◌, append_assoc, add-one, drop-cons}
use Rattle.std.specs.Option.{option_to_list}
use Rattle.mn_base.specs.Ids.{addr_same}
use Rattle.mn_base.specs.declared.ids.Addr.{Addr}
use Rattle.mn_page.specs.declared.page.Child.{Child}
use Rattle.mn_page.specs.Overlay.{rest_with}

split : (rest : List Child) (at : ℕ) (c : Child) → at < length rest → c ≡ get_or rest at c → drop at rest ≡ c ∷ drop (at + 1) rest
split rest at c within is = drop-cons rest at c within ∙ ap (λ (q : Child). q ∷ drop (suc at) rest) (sym is) ∙ ap (λ n. c ∷ drop n rest) (sym (add-one at))

module _ (found rest : List Child) (at : ℕ) (c : Child) (addr now : Addr) (more : Option Child) (whole : List Child)
    (within : at < length rest) (is : c ≡ get_or rest at c) (so_far : found ++ rest_with (drop at rest) addr now more ≡ whole) where
  -- the child stands here
  pub child_here : addr_same c.addr addr ≡ true → found ++ (record { separator = c.separator; addr = now } ∷ (option_to_list more ++ drop (at + 1) rest)) ≡ whole
  child_here same =
      let here : rest_with (c ∷ drop (at + 1) rest) addr now more ≡ record { separator = c.separator; addr = now } ∷ (option_to_list more ++ drop (at + 1) rest) = rw same refl in
      ap (λ l. found ++ l) (sym (ap (λ l. rest_with l addr now more) (split rest at c within is) ∙ here)) ∙ so_far

  -- it stands behind
  pub child_behind : addr_same c.addr addr ≡ false → (found ++ c ∷ []) ++ rest_with (drop (at + 1) rest) addr now more ≡ whole
  child_behind other =
      let there : rest_with (c ∷ drop (at + 1) rest) addr now more ≡ c ∷ rest_with (drop (at + 1) rest) addr now more = rw other refl in
      append_assoc found (c ∷ []) (rest_with (drop (at + 1) rest) addr now more)
      ∙ ap (λ l. found ++ l) (sym (ap (λ l. rest_with l addr now more) (split rest at c within is) ∙ there)) ∙ so_far
