-- What the writes of a step leave is what the step leaves.
use Rattle.std.specs.Prelude.{◌≢◌, if◌then◌else◌, is_some, Bool, true, false, Option, Some, Result, Ok, Err, IfOk}
use Rattle.std.proofs.Common.{◌≡◌, ℕ, ◌+◌, ◌≤◌, List, ◌∷◌, ◌++◌, length, None, refl, sym, ap, subst, ◌∙◌, arith, length-append}
use Rattle.mn_base.specs.declared.ids.Addr.{Addr}
use Rattle.mn_base.specs.declared.ids.VersionNo.{VersionNo}
use Rattle.mn_base.specs.declared.op.Step.{Step}
use Rattle.mn_base.specs.Store.{is_unmet, value_at}
use Rattle.mn_base.specs.declared.error.NoMemory.{NoMemory}
use Rattle.mn_base.specs.declared.op.Step.TheVariants.{Get, Put, Del, Check}
use Rattle.mn_base.specs.declared.reply.Pair.{Pair}
use Rattle.mn_page.specs.declared.page.Page.{Page}
use Rattle.mn_page.specs.Overlay.{Held, Overlay, path_pairs}
use Rattle.mn_tree.specs.declared.stepped.Stepped.{Stepped}
use Rattle.mn_tree.specs.declared.stepped.Stepped.TheVariants.{Changed, Same, Unmet}
use Rattle.mn_tree.specs.declared.write.Write.{Write}
use Rattle.mn_tree.specs.Writes.{origins_in, step_writes, all_written, joined, all_joined}
use Rattle.mn_tree.specs.State.{TreeState, Drafted, AsksFor, told, touched, all_drafted, drafted_after}
use Rattle.mn_tree.proofs.Changes.{drafted_is, step_is}

pub runs : (v : VersionNo) (d : Drafted) (step : Step) (h : Held) (above : List Held) (leaf : Addr) (ws : List Write) → d.overlay.fresh ≡ length d.origins → h.addr ≡ leaf
    → ws ≡ step_writes v (length d.origins) d.origins step (h ∷ above) → all_drafted (touched d leaf) ws ≡ drafted_after v d step (h ∷ above)
runs v d step h above leaf ws fresh there is =
    let all : Overlay → Addr → List Write → Drafted = λ o a l. record { overlay = o; read = all_joined (joined d.read a) l; origins = d.origins ++ origins_in l } in
    let ws' = step_writes v d.overlay.fresh d.origins step (h ∷ above) in
    let same : ws ≡ ws' = is ∙ ap (λ n. step_writes v n d.origins step (h ∷ above)) (sym fresh) in
    drafted_is (touched d leaf) ws
    ∙ ap (λ (l : List Write). all (all_written d.overlay l) leaf l) same
    ∙ ap (λ (a : Addr). all (all_written d.overlay ws') a ws') (sym there)
    ∙ ap (λ (o : Overlay). all o h.addr ws') (sym (step_is v d.overlay d.origins step (h ∷ above)))

pub stays_within : (n : ℕ) (d new : Drafted) (leaf : Addr) (ws : List Write) → new ≡ all_drafted (touched d leaf) ws → length d.origins + length (origins_in ws) ≤ n → length new.origins ≤ n
stays_within n d new leaf ws is few =
    let e : new.origins ≡ d.origins ++ origins_in ws = ap (λ (x : Drafted). x.origins) (is ∙ drafted_is (touched d leaf) ws) in
    omega (arith, ap (λ (l : List Addr). length l) e, length-append d.origins (origins_in ws), few)

-- a step that is done asks for nothing
told_asks : (s : TreeState) (step : Step) (ps : List Pair) → AsksFor s (told step ps)
told_asks s (Get key) ps = tt
told_asks s (Put key value) ps = tt
told_asks s (Del key) ps = by (is_some (value_at ps key))
  where
    by : (b : Bool) → AsksFor s (if b then Changed else Same)
    by true = tt
    by false = tt
told_asks s (Check key want) ps = by (is_unmet ps (Check key want))
  where
    by : (b : Bool) → AsksFor s (if b then Unmet (value_at ps key) else Same)
    by true = tt
    by false = tt

pub asks_nothing : (s : TreeState) (step : Step) (path : Page → List Held) (o : Option Page) (p : Page) → o ≡ Some p
    → (r : Result Stepped NoMemory) → IfOk r (λ answer. (leaf : Page) → o ≡ Some leaf → answer ≡ told step (path_pairs (path leaf))) → IfOk r (AsksFor s)
asks_nothing s step path o p is (Ok answer) tells = subst (AsksFor s) (sym (tells p is)) (told_asks s step (path_pairs (path p)))
asks_nothing s step path o p is (Err e) tells = tt

-- a page is there
pub there : (o : Option Page) → o ≢ None → (p : Page) × (o ≡ Some p)
there None some = absurd (some refl)
there (Some p) some = (p, refl)
