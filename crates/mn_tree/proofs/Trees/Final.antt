-- The tree that a path's new body gives once each page of the path that was made in another version
-- is copied.
use Rattle.std.proofs.Common.{◌≡◌, Bool, true, false, List, [], ◌∷◌, None, sym, ap, ◌∙◌, if◌then◌else◌}
use Rattle.std.specs.Prelude.{nat_eq}
use Rattle.std.specs.List.{AllByRecursion}
use Rattle.mn_base.specs.declared.ids.Addr.{Addr}
use Rattle.mn_base.specs.declared.ids.VersionNo.{VersionNo}
use Rattle.mn_page.specs.declared.page.Page.{Page}
use Rattle.mn_page.specs.declared.page.Body.{Body}
use Rattle.mn_page.specs.Holds.{PagesAt}
use Rattle.mn_page.specs.Overlay.{Held, page_with, new_page, copied_for, body_with}
use Rattle.mn_tree.proofs.Trees.Puts.{put, put_else, put_swap}

abbrev pub own_page : Held → Body → Page
own_page h body = page_with h.page h.page.low h.page.high body

abbrev pub copy_page : VersionNo → Held → Body → Page
copy_page v h body = new_page v h.page.low h.page.high body

-- copies go to the addresses that are listed
abbrev pub final : VersionNo → Held → List Held → Body → List Addr → PagesAt → PagesAt
final v h [] body ns at = put at h.addr (own_page h body)
final v h (parent ∷ above) body [] at = put at h.addr (own_page h body)
final v h (parent ∷ above) body (n ∷ ns) at =
    if nat_eq h.page.made.0 v.0 then put at h.addr (own_page h body)
    else final v parent above (body_with parent.page.body h.addr n None) ns (put (put at n (copy_page v h body)) h.addr (copied_for v h.page))

-- an address that no page of the path and no copy has
abbrev pub IsAway : Addr → List Held → List Addr → Type 0
IsAway x path ns = AllByRecursion (λ h. h.addr ≡ x → ⊥) path × AllByRecursion (λ n. n ≡ x → ⊥) ns

pub final_put : (v : VersionNo) (h : Held) (above : List Held) (body : Body) (ns : List Addr) (at : PagesAt) (x : Addr) (p : Page) → IsAway x (h ∷ above) ns → final v h above body ns (put at x p) ≡ put (final v h above body ns at) x p
final_put v h [] body ns at x p away = put_swap at x h.addr p (own_page h body) (λ e. (away.0).0 (sym e))
final_put v h (parent ∷ above) body [] at x p away = put_swap at x h.addr p (own_page h body) (λ e. (away.0).0 (sym e))
final_put v h (parent ∷ above) body (n ∷ ns) at x p away =
    cases (nat_eq h.page.made.0 v.0) (final_put v parent above (body_with parent.page.body h.addr n None) ns (put (put at n (copy_page v h body)) h.addr (copied_for v h.page)) x p ((away.0).1, (away.1).1))
  where
    cases : (t : Bool)
        → final v parent above (body_with parent.page.body h.addr n None) ns (put (put (put at n (copy_page v h body)) h.addr (copied_for v h.page)) x p)
        ≡ put (final v parent above (body_with parent.page.body h.addr n None) ns (put (put at n (copy_page v h body)) h.addr (copied_for v h.page))) x p
        → (if t then put (put at x p) h.addr (own_page h body)
        else final v parent above (body_with parent.page.body h.addr n None) ns (put (put (put at x p) n (copy_page v h body)) h.addr (copied_for v h.page)))
        ≡ put (if t then put at h.addr (own_page h body) else final v parent above (body_with parent.page.body h.addr n None) ns (put (put at n (copy_page v h body)) h.addr (copied_for v h.page))) x p
    cases true rest = put_swap at x h.addr p (own_page h body) (λ e. (away.0).0 (sym e))
    cases false rest =
        ap (final v parent above (body_with parent.page.body h.addr n None) ns)
        (ap (λ (t : PagesAt). put t h.addr (copied_for v h.page)) (put_swap at x n p (copy_page v h body) (λ e. (away.1).0 (sym e)))
        ∙ put_swap (put at n (copy_page v h body)) x h.addr p (copied_for v h.page) (λ e. (away.0).0 (sym e)))
        ∙ rest

pub final_else : (v : VersionNo) (h : Held) (above : List Held) (body : Body) (ns : List Addr) (at : PagesAt) (x : Addr) → IsAway x (h ∷ above) ns → final v h above body ns at x ≡ at x
final_else v h [] body ns at x away = put_else at h.addr (own_page h body) x (away.0).0
final_else v h (parent ∷ above) body [] at x away = put_else at h.addr (own_page h body) x (away.0).0
final_else v h (parent ∷ above) body (n ∷ ns) at x away =
    cases (nat_eq h.page.made.0 v.0) (final_else v parent above (body_with parent.page.body h.addr n None) ns (put (put at n (copy_page v h body)) h.addr (copied_for v h.page)) x ((away.0).1, (away.1).1))
  where
    cases : (t : Bool)
        → final v parent above (body_with parent.page.body h.addr n None) ns (put (put at n (copy_page v h body)) h.addr (copied_for v h.page)) x ≡ put (put at n (copy_page v h body)) h.addr (copied_for v h.page) x
        → (if t then put at h.addr (own_page h body) else final v parent above (body_with parent.page.body h.addr n None) ns (put (put at n (copy_page v h body)) h.addr (copied_for v h.page))) x ≡ at x
    cases true rest = put_else at h.addr (own_page h body) x (away.0).0
    cases false rest = rest ∙ (put_else (put at n (copy_page v h body)) h.addr (copied_for v h.page) x (away.0).0 ∙ put_else at n (copy_page v h body) x (away.1).0)
