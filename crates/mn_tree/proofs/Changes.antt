-- The plain model's changes of a tree are its writes, one by one.
use Rattle.std.proofs.Common.{◌≡◌, ℕ, ◌+◌, Bool, true, false, cond, List, [], ◌∷◌, ◌++◌, length, Option, Some, None, refl, sym, ap, ◌∙◌, arith, nat_eq, is_some, length-append, append_assoc}
use Rattle.std.specs.Prelude.{if◌then◌else◌}
use Rattle.std.specs.Option.{option_to_list}
use Rattle.mn_base.specs.Store.{value_at, pairs_with, pairs_without}
use Rattle.mn_base.specs.declared.ids.Addr.{Addr}
use Rattle.mn_base.specs.declared.ids.VersionNo.{VersionNo}
use Rattle.mn_base.specs.declared.op.Step.{Step}
use Rattle.mn_base.specs.declared.op.Step.TheVariants.{Get, Put, Del, Check}
use Rattle.mn_page.specs.declared.page.Body.{Body}
use Rattle.mn_page.specs.declared.page.Body.TheVariants.{Leaf}
use Rattle.mn_page.specs.declared.page.Child.{Child}
use Rattle.mn_page.specs.Holds.{pairs_in}
use Rattle.mn_page.specs.Overlay.{Held, Overlay, Halves, Asked, Nothing, Child_is, Changed, halves_of, body_with, placed_addr, root_changed, own_changed, other_changed, page_changed, when_asked, raised, step_on}
use Rattle.mn_tree.specs.declared.write.Write.{Write}
use Rattle.mn_tree.specs.Writes.{own_writes, own_asks, other_writes, other_asks, root_writes, page_writes, page_asks, origins_in, writes_if, writes_up, step_writes, written, all_written, joined, all_joined}
use Rattle.mn_tree.specs.State.{Drafted, draft_written, all_drafted}

-- Lists of writes

pub all_written-append : (o : Overlay) (ws more : List Write) → all_written o (ws ++ more) ≡ all_written (all_written o ws) more
all_written-append o [] more = refl
all_written-append o (w ∷ ws) more = all_written-append (written o w) ws more

fresh_by : (n : ℕ) (origin : Option Addr) → (if is_some origin then n + 1 else n) ≡ n + length (option_to_list origin)
fresh_by n None = omega arith
fresh_by n (Some addr) = refl

pub fresh_after : (o : Overlay) (ws : List Write) → (all_written o ws).fresh ≡ o.fresh + length (origins_in ws)
fresh_after o [] = omega arith
fresh_after o (w ∷ ws) =
    omega (arith, fresh_after (written o w) ws, fresh_by o.fresh w.origin, length-append (option_to_list w.origin) (origins_in ws))

pub drafted_is : (d : Drafted) (ws : List Write) → all_drafted d ws ≡ record { overlay = all_written d.overlay ws; read = all_joined d.read ws; origins = d.origins ++ origins_in ws }
drafted_is d [] = ap (λ l. record { overlay = d.overlay; read = d.read; origins = l }) (sym (append_nil d.origins))
  where
    append_nil : {X : Type 0} (xs : List X) → xs ++ [] ≡ xs
    append_nil [] = refl
    append_nil (x ∷ xs) = ap (λ l. x ∷ l) (append_nil xs)
drafted_is d (w ∷ ws) =
    drafted_is (draft_written d w) ws
    ∙ ap (λ l. record { overlay = all_written (written d.overlay w) ws; read = all_joined (joined d.read w.addr) ws; origins = l }) (append_assoc d.origins (option_to_list w.origin) (origins_in ws))

-- Changes of one page

own_is : (v : VersionNo) (o : Overlay) (origin : Addr) (h : Held) (body : Body) (halves : Option Halves)
    → own_changed v o h body halves ≡ record { overlay = all_written o (own_writes v o.fresh origin h body halves); asked = own_asks o.fresh h halves }
own_is v o origin h body None = refl
own_is v o origin h body (Some halves) = refl

other_is : (v : VersionNo) (o : Overlay) (origin : Addr) (h : Held) (body : Body) (halves : Option Halves)
    → other_changed v o h body halves ≡ record { overlay = all_written o (other_writes v o.fresh origin h body halves); asked = other_asks o.fresh halves }
other_is v o origin h body None = refl
other_is v o origin h body (Some halves) = refl

root_is : (v : VersionNo) (o : Overlay) (origin : Addr) (h : Held) (body : Body) (halves : Option Halves) → root_changed v o h body halves ≡ all_written o (root_writes v o.fresh origin h body halves)
root_is v o origin h body None = refl
root_is v o origin h body (Some halves) = refl

page_is : (v : VersionNo) (o : Overlay) (origin : Addr) (h : Held) (body : Body)
    → page_changed v o h body ≡ record { overlay = all_written o (page_writes v o.fresh origin h body); asked = page_asks v o.fresh h body }
page_is v o origin h body = by (nat_eq h.page.made.0 v.0)
  where
    by : (b : Bool) → cond b (own_changed v o h body (halves_of body)) (other_changed v o h body (halves_of body))
        ≡ record {
          overlay = all_written o (cond b (own_writes v o.fresh origin h body (halves_of body)) (other_writes v o.fresh origin h body (halves_of body)));
          asked = cond b (own_asks o.fresh h (halves_of body)) (other_asks o.fresh (halves_of body));
        }
    by true = own_is v o origin h body (halves_of body)
    by false = other_is v o origin h body (halves_of body)

-- Changes up a path

asked_is : (o : Overlay) (asked : Asked) (more : Addr → Option Child → Overlay) (writes : Addr → Option Child → List Write)
    → ((now : Addr) (child : Option Child) → more now child ≡ all_written o (writes now child)) → when_asked o asked more ≡ all_written o (writes_if asked writes)
asked_is o Nothing more writes same = refl
asked_is o (Child_is now child) more writes same = same now child

pub raised_is : (v : VersionNo) (o : Overlay) (origins : List Addr) (h : Held) (above : List Held) (body : Body) → raised v o h above body ≡ all_written o (writes_up v o.fresh origins h above body)
raised_is v o origins h [] body = root_is v o (placed_addr origins h.addr) h body (halves_of body)
raised_is v o origins h (parent ∷ above) body =
    let ws = page_writes v o.fresh (placed_addr origins h.addr) h body in
    let asks = page_asks v o.fresh h body in
    let o' = all_written o ws in
    let later = λ (n : ℕ) (now : Addr) (more : Option Child). writes_up v n origins parent above (body_with parent.page.body h.addr now more) in
    ap (λ (c : Changed). when_asked c.overlay c.asked (λ now more. raised v c.overlay parent above (body_with parent.page.body h.addr now more))) (page_is v o (placed_addr origins h.addr) h body)
    ∙ asked_is o' asks (λ now more. raised v o' parent above (body_with parent.page.body h.addr now more)) (later (o.fresh + length (origins_in ws)))
    (λ now more. raised_is v o' origins parent above (body_with parent.page.body h.addr now more) ∙ ap (λ n. all_written o' (later n now more)) (fresh_after o ws))
    ∙ sym (all_written-append o ws (writes_if asks (later (o.fresh + length (origins_in ws)))))

pub step_is : (v : VersionNo) (o : Overlay) (origins : List Addr) (step : Step) (path : List Held) → step_on v o step path ≡ all_written o (step_writes v o.fresh origins step path)
step_is v o origins (Get key) [] = refl
step_is v o origins (Put key value) [] = refl
step_is v o origins (Del key) [] = refl
step_is v o origins (Check key want) [] = refl
step_is v o origins (Put key value) (h ∷ above) = raised_is v o origins h above (Leaf (pairs_with (pairs_in h.page.body) key value))
step_is v o origins (Del key) (h ∷ above) = by (is_some (value_at (pairs_in h.page.body) key))
  where
    by : (b : Bool) → cond b (raised v o h above (Leaf (pairs_without (pairs_in h.page.body) key))) o
        ≡ all_written o (cond b (writes_up v o.fresh origins h above (Leaf (pairs_without (pairs_in h.page.body) key))) [])
    by true = raised_is v o origins h above (Leaf (pairs_without (pairs_in h.page.body) key))
    by false = refl
step_is v o origins (Get key) (h ∷ above) = refl
step_is v o origins (Check key want) (h ∷ above) = refl
