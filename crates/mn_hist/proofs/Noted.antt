-- What is noted of a client's reads tells where a reply has its place.
use Rattle.std.proofs.Common.{◌≡◌, ℕ, ◌⊎◌, inl, inr, true, false, List, [], ◌∷◌, ◌++◌, length, map, Option, Some, None, refl, subst, sym, ap, ◌∙◌, arith, if◌then◌else◌, Contains}
use Rattle.std.specs.Prelude.{flat_map}
use Rattle.std.proofs.lemmas.List.Elements.{All-contains, All-from_recursion, Contains-append_left, Contains-append_right}
use Rattle.mn_base.specs.declared.answer.Answer.{Answer}
use Rattle.mn_base.specs.declared.ids.ClientNo.{ClientNo}
use Rattle.mn_base.specs.declared.ids.NodeNo.{NodeNo}
use Rattle.mn_base.specs.declared.op.Op.{Op}
use Rattle.mn_base.specs.declared.op.Op.TheVariants.{Scan}
use Rattle.mn_base.specs.declared.reply.Reply.{Reply}
use Rattle.mn_base.specs.declared.reply.Reply.TheVariants as Say
use Rattle.mn_base.proofs.Booleans.{clash}
use Rattle.mn_runs.specs.declared.entry.Entry.{Entry}
use Rattle.mn_runs.specs.declared.entry.What.{What}
use Rattle.mn_runs.specs.declared.entry.What.TheVariants.{Begin, Issue, Called, Stopped, Restarted, Abandoned, Answered}
use Rattle.mn_runs.specs.Calls.{Begun, Call, call_in, is_by, client_entries, begun_in, under_way, under_way_after, since_begin, since_begin_after}
use Rattle.mn_serial.specs.History.{LastShown, ShowsHere, FirstCatalogAt, ReadPlace, NoCatalog}
use Rattle.mn_runs.specs.Seen.{Seen, seen_at, seen_by, seen_in}
use Rattle.mn_law.specs.Shown.{IsCatalogRead, ReadShows}
use Rattle.mn_runs.proofs.Seen.{nothing}
use Rattle.mn_serial.proofs.Meaning.Tell.{one_read, only}
use Rattle.mn_law.proofs.Sees.{brought_in, seen_in-cons}
use Rattle.mn_hist.proofs.Places.{catalog_read, no_catalog_read}
use Rattle.mn_hist.specs.History.{Note, CallerState, with_seen, state_after, caller_state, HasNoPlace, IsLastNote, IsFirstNote, IsOnlyNote, IsNotedPlace, LastCatalogsServe, NoneIsOfCatalog, NoneShows}
use Rattle.mn_hist.specs.Shown.{is_of_catalog, HasCatalog, IsShownBy, IsUnshownBy, LastServesAll}

-- The operation under way

with_begun : (n : ℕ) (seens : List Seen) (s : CallerState) → (with_seen n seens s).begun ≡ s.begun
with_begun n [] s = refl
with_begun n (x ∷ xs) s = refl

begun_step : (n : ℕ) (what : What) (seens : List Seen) (s : CallerState) → (state_after n what seens s).begun ≡ under_way_after what s.begun
begun_step n (Begin number op) seens s = refl
begun_step n (Answered number answer) seens s = refl
begun_step n (Issue tid mini) seens s = with_begun n seens s
begun_step n (Called request reply) seens s = with_begun n seens s
begun_step n (Stopped request asked) seens s = with_begun n seens s
begun_step n (Restarted kept) seens s = with_begun n seens s
begun_step n (Abandoned tid) seens s = with_begun n seens s

pub begun_is : (c : ClientNo) (past : List Entry) → (caller_state c past).begun ≡ under_way (client_entries c past)
begun_is c [] = refl
begun_is c (e ∷ past) =
    elim (is_by c e) as (λ b. (if b then state_after (length past) e.what (seen_at e) (caller_state c past) else caller_state c past).begun ≡ under_way (if b then e ∷ client_entries c past else client_entries c past)) [
      | true ↦ begun_step (length past) e.what (seen_at e) (caller_state c past) ∙ ap (under_way_after e.what) (begun_is c past)
      | false ↦ begun_is c past
    ]

-- The catalog that was read last

has_older : (e : Entry) (es : List Entry) (o : Option (List ℕ)) → HasCatalog es o → HasCatalog (e ∷ es) o
has_older e es None has = has
has_older e es (Some bytes) (seen, has, is, same) = (seen, subst (λ (l : List Seen). Contains l seen) (sym (seen_in-cons e es)) (Contains-append_right (seen_at e) (seen_in es) seen has), is, same)

with_catalog : (e : Entry) (es : List Entry) (n : ℕ) (seens : List Seen) (s : CallerState) → ((x : Seen) → Contains seens x → Contains (seen_in (e ∷ es)) x) → HasCatalog (e ∷ es) s.catalog → HasCatalog (e ∷ es) (with_seen n seens s).catalog
with_catalog e es n [] s there has = has
with_catalog e es n (x ∷ xs) s there has =
    elim (is_of_catalog x) as (λ b. is_of_catalog x ≡ b → HasCatalog (e ∷ es) (if b then Some x.bytes else s.catalog)) [
      | true ↦ λ is. (x, there x (0, omega arith, refl), catalog_read x is, refl)
      | false ↦ λ is. has
    ] refl

catalog_step : (e : Entry) (es : List Entry) (n : ℕ) (what : What) (seens : List Seen) (s : CallerState) → ((x : Seen) → Contains seens x → Contains (seen_in (e ∷ es)) x) → HasCatalog (e ∷ es) s.catalog → HasCatalog (e ∷ es) (state_after n what seens s).catalog
catalog_step e es n (Begin number op) seens s there has = has
catalog_step e es n (Answered number answer) seens s there has = has
catalog_step e es n (Issue tid mini) seens s there has = with_catalog e es n seens s there has
catalog_step e es n (Called request reply) seens s there has = with_catalog e es n seens s there has
catalog_step e es n (Stopped request asked) seens s there has = with_catalog e es n seens s there has
catalog_step e es n (Restarted kept) seens s there has = with_catalog e es n seens s there has
catalog_step e es n (Abandoned tid) seens s there has = with_catalog e es n seens s there has

pub catalog_has : (c : ClientNo) (past : List Entry) → HasCatalog (client_entries c past) (caller_state c past).catalog
catalog_has c [] = tt
catalog_has c (e ∷ past) =
    elim (is_by c e) as (λ b. HasCatalog (if b then e ∷ client_entries c past else client_entries c past) (if b then state_after (length past) e.what (seen_at e) (caller_state c past) else caller_state c past).catalog) [
      | true ↦ catalog_step e (client_entries c past) (length past) e.what (seen_at e) (caller_state c past)
          (λ x has. subst (λ (l : List Seen). Contains l x) (sym (seen_in-cons e (client_entries c past))) (Contains-append_left (seen_at e) (seen_in (client_entries c past)) x has))
          (has_older e (client_entries c past) (caller_state c past).catalog (catalog_has c past))
      | false ↦ catalog_has c past
    ]

-- The last read that shows a reply

serve_before : (e : Entry) (past : List Entry) → LastCatalogsServe (e ∷ past) → LastCatalogsServe past
serve_before e past serve c later before split = serve c (e ∷ later) before (ap (λ (l : List Entry). e ∷ l) split)

serve_here : (e : Entry) (past : List Entry) (c : ClientNo) → LastCatalogsServe (e ∷ past) → LastServesAll (client_entries c past) (caller_state c past).catalog
serve_here e past c serve = serve c (e ∷ []) past refl

no_split : (newer : List Note) (note : Note) (older : List Note) → [] ≡ newer ++ note ∷ older → ⊥
no_split [] note older e = cc
no_split (x ∷ newer) note older e = cc

last_quiet : (c : ClientNo) (op : Op) (reply : Reply) (past : List Entry) (e : Entry) (place : ℕ)
    → LastCatalogsServe (e ∷ past) → is_by c e ≡ true → begun_in e.what ≡ []
    → (IsLastNote (caller_state c past).notes op reply place → LastShown c op reply past place)
    → (seen_at e ≡ []) ⊎ ((seen : Seen) × (seen_at e ≡ seen ∷ []))
    → IsLastNote (with_seen (length past) (seen_at e) (caller_state c past)).notes op reply place
    → LastShown c op reply (e ∷ past) place
last_quiet c op reply past e place serve by none rest (inl empty) l =
    inr (
      λ h. nothing h.1.0 (subst (λ (x : List Seen). Contains x h.1.0) empty h.1.1),
      inr none,
      rest (subst (λ (x : List Seen). IsLastNote (with_seen (length past) x (caller_state c past)).notes op reply place) empty l),
    )
last_quiet c op reply past e place serve by none rest (inr (x, is)) l =
    at (subst (λ (y : List Seen). IsLastNote (with_seen (length past) y (caller_state c past)).notes op reply place) is l)
  where
    here : Note
    here = record { place = length past; seen = x; catalog = (caller_state c past).catalog }

    first : (newer older : List Note) (note : Note) → here ∷ (caller_state c past).notes ≡ newer ++ note ∷ older → place ≡ note.place
        → IsShownBy note.catalog note.seen op reply → NoneShows newer op reply
        → LastShown c op reply (e ∷ past) place
    first [] older note split is_place shown unseen =
        let same : note ≡ here = cc in
        let shows : IsShownBy (caller_state c past).catalog x op reply = subst (λ (n : Note). IsShownBy n.catalog n.seen op reply) same shown in
        inl ((by, (x, subst (λ (y : List Seen). Contains y x) (sym is) (0, omega arith, refl), shows (client_entries c past) (catalog_has c past))), is_place ∙ ap (λ (n : Note). n.place) same)
    first (y ∷ newer) older note split is_place shown unseen =
        let same : y ≡ here = cc in
        let tail : (caller_state c past).notes ≡ newer ++ note ∷ older = cc in
        let unshown : IsUnshownBy (caller_state c past).catalog x op reply = subst (λ (n : Note). IsUnshownBy n.catalog n.seen op reply) same unseen.0 in
        inr (
          λ h. unshown (client_entries c past) (serve_here e past c serve) (subst (λ (z : Seen). ReadShows (client_entries c past) z op reply) (sym (only x h.1.0 (subst (λ (y : List Seen). Contains y h.1.0) is h.1.1))) h.1.2),
          inr none,
          rest (record { newer = newer; note = note; older = older; split = tail; is_place = is_place; shown = shown; none = unseen.1 }),
        )

    at : IsLastNote (here ∷ (caller_state c past).notes) op reply place → LastShown c op reply (e ∷ past) place
    at l = first l.newer l.older l.note l.split l.is_place l.shown l.none

last_step : (c : ClientNo) (op : Op) (reply : Reply) (past : List Entry) (e : Entry) (place : ℕ)
    → LastCatalogsServe (e ∷ past) → is_by c e ≡ true → (what : What) → e.what ≡ what
    → (IsLastNote (caller_state c past).notes op reply place → LastShown c op reply past place)
    → IsLastNote (state_after (length past) what (seen_at e) (caller_state c past)).notes op reply place
    → LastShown c op reply (e ∷ past) place
last_step c op reply past e place serve by (Begin number op') is rest l = absurd (no_split l.newer l.note l.older l.split)
last_step c op reply past e place serve by (Answered number answer) is rest l = absurd (no_split l.newer l.note l.older l.split)
last_step c op reply past e place serve by (Issue tid mini) is rest l = last_quiet c op reply past e place serve by (ap begun_in is) rest (one_read e) l
last_step c op reply past e place serve by (Called request reply') is rest l = last_quiet c op reply past e place serve by (ap begun_in is) rest (one_read e) l
last_step c op reply past e place serve by (Stopped request asked) is rest l = last_quiet c op reply past e place serve by (ap begun_in is) rest (one_read e) l
last_step c op reply past e place serve by (Restarted kept) is rest l = last_quiet c op reply past e place serve by (ap begun_in is) rest (one_read e) l
last_step c op reply past e place serve by (Abandoned tid) is rest l = last_quiet c op reply past e place serve by (ap begun_in is) rest (one_read e) l

pub last_note : (c : ClientNo) (op : Op) (reply : Reply) (past : List Entry) (place : ℕ) → LastCatalogsServe past → IsLastNote (caller_state c past).notes op reply place → LastShown c op reply past place
last_note c op reply [] place serve l = absurd (no_split l.newer l.note l.older l.split)
last_note c op reply (e ∷ past) place serve l =
    elim (is_by c e) as (λ b. is_by c e ≡ b → IsLastNote (if b then state_after (length past) e.what (seen_at e) (caller_state c past) else caller_state c past).notes op reply place → LastShown c op reply (e ∷ past) place) [
      | true ↦ λ by l. last_step c op reply past e place serve by e.what refl (last_note c op reply past place (serve_before e past serve)) l
      | false ↦ λ by l. inr (λ h. clash (is_by c e) h.0 by, inl by, last_note c op reply past place (serve_before e past serve) l)
    ] refl l

-- The first read of the catalog

skip : (c : ClientNo) (e : Entry) (l : List Entry) → is_by c e ≡ false → client_entries c (e ∷ l) ≡ client_entries c l
skip c e l by = ap (λ b. if b then e ∷ client_entries c l else client_entries c l) by

keep : (c : ClientNo) (e : Entry) (l : List Entry) → is_by c e ≡ true → client_entries c (e ∷ l) ≡ e ∷ client_entries c l
keep c e l by = ap (λ b. if b then e ∷ client_entries c l else client_entries c l) by

-- what was noted is what was read since the operation began
seens_quiet : (e : Entry) (es : List Entry) (n : ℕ) (s : CallerState) → map (λ (x : Note). x.seen) s.notes ≡ seen_in es
    → (seen_at e ≡ []) ⊎ ((seen : Seen) × (seen_at e ≡ seen ∷ []))
    → map (λ (x : Note). x.seen) (with_seen n (seen_at e) s).notes ≡ seen_in (e ∷ es)
seens_quiet e es n s same (inl empty) =
    ap (λ (l : List Seen). map (λ (x : Note). x.seen) (with_seen n l s).notes) empty
    ∙ (same ∙ sym (seen_in-cons e es ∙ ap (λ (l : List Seen). l ++ seen_in es) empty))
seens_quiet e es n s same (inr (x, is)) =
    ap (λ (l : List Seen). map (λ (y : Note). y.seen) (with_seen n l s).notes) is
    ∙ (ap (λ (l : List Seen). x ∷ l) same ∙ sym (seen_in-cons e es ∙ ap (λ (l : List Seen). l ++ seen_in es) is))

seens_step : (e : Entry) (es : List Entry) (n : ℕ) (what : What) (s : CallerState) → map (λ (x : Note). x.seen) s.notes ≡ seen_in (since_begin es)
    → map (λ (x : Note). x.seen) (state_after n what (seen_at e) s).notes ≡ seen_in (since_begin_after what e (since_begin es))
seens_step e es n (Begin number op) s same = refl
seens_step e es n (Answered number answer) s same = refl
seens_step e es n (Issue tid mini) s same = seens_quiet e (since_begin es) n s same (one_read e)
seens_step e es n (Called request reply) s same = seens_quiet e (since_begin es) n s same (one_read e)
seens_step e es n (Stopped request asked) s same = seens_quiet e (since_begin es) n s same (one_read e)
seens_step e es n (Restarted kept) s same = seens_quiet e (since_begin es) n s same (one_read e)
seens_step e es n (Abandoned tid) s same = seens_quiet e (since_begin es) n s same (one_read e)

notes_seens : (c : ClientNo) (past : List Entry) → map (λ (x : Note). x.seen) (caller_state c past).notes ≡ seen_in (since_begin (client_entries c past))
notes_seens c [] = refl
notes_seens c (e ∷ past) =
    elim (is_by c e) as (λ b. map (λ (x : Note). x.seen) (if b then state_after (length past) e.what (seen_at e) (caller_state c past) else caller_state c past).notes ≡ seen_in (since_begin (if b then e ∷ client_entries c past else client_entries c past))) [
      | true ↦ seens_step e (client_entries c past) (length past) e.what (caller_state c past) (notes_seens c past)
      | false ↦ notes_seens c past
    ]

none_read : (notes : List Note) → NoneIsOfCatalog notes → NoCatalog (map (λ (n : Note). n.seen) notes)
none_read [] none = tt
none_read (n ∷ notes) none = (no_catalog_read n.seen none.0, none_read notes none.1)

first_quiet : (c : ClientNo) (past : List Entry) (e : Entry) (place : ℕ) → is_by c e ≡ true
    → since_begin (e ∷ client_entries c past) ≡ e ∷ since_begin (client_entries c past)
    → (IsFirstNote (caller_state c past).notes place → FirstCatalogAt c past place)
    → (seen_at e ≡ []) ⊎ ((seen : Seen) × (seen_at e ≡ seen ∷ []))
    → IsFirstNote (with_seen (length past) (seen_at e) (caller_state c past)).notes place
    → FirstCatalogAt c (e ∷ past) place
first_quiet c past e place by since rest one l = by_read one l
  where
    further : FirstCatalogAt c past place → FirstCatalogAt c (e ∷ past) place
    further r = record {
      entry = r.entry;
      later = e ∷ r.later;
      before = r.before;
      split = ap (λ (x : List Entry). e ∷ x) r.split;
      here = r.here;
      is_place = r.is_place;
      since = ap since_begin (keep c e past by) ∙ (since ∙ (ap (λ (x : List Entry). e ∷ x) r.since ∙ ap (λ (x : List Entry). x ++ r.entry ∷ since_begin (client_entries c r.before)) (sym (keep c e r.later by))));
      first = r.first;
    }

    first : (x : Seen) → seen_at e ≡ x ∷ [] → (newer older : List Note) (note : Note)
        → record { place = length past; seen = x; catalog = (caller_state c past).catalog } ∷ (caller_state c past).notes ≡ newer ++ note ∷ older
        → place ≡ note.place → is_of_catalog note.seen ≡ true → NoneIsOfCatalog older
        → FirstCatalogAt c (e ∷ past) place
    first x is [] older note split is_place catalog none =
        let same : note ≡ record { place = length past; seen = x; catalog = (caller_state c past).catalog } = cc in
        let tail : older ≡ (caller_state c past).notes = cc in
        record {
          entry = e;
          later = [];
          before = past;
          split = refl;
          here = (by, (x, subst (λ (y : List Seen). Contains y x) (sym is) (0, omega arith, refl), catalog_read x (sym (ap (λ (n : Note). is_of_catalog n.seen) same) ∙ catalog)));
          is_place = is_place ∙ ap (λ (n : Note). n.place) same;
          since = ap since_begin (keep c e past by) ∙ since;
          first = subst NoCatalog (notes_seens c past) (none_read (caller_state c past).notes (subst NoneIsOfCatalog tail none));
        }
    first x is (y ∷ newer) older note split is_place catalog none =
        let tail : (caller_state c past).notes ≡ newer ++ note ∷ older = cc in
        further (rest (record { newer = newer; note = note; older = older; split = tail; is_place = is_place; catalog = catalog; none = none }))

    at : (x : Seen) → seen_at e ≡ x ∷ [] → IsFirstNote (record { place = length past; seen = x; catalog = (caller_state c past).catalog } ∷ (caller_state c past).notes) place → FirstCatalogAt c (e ∷ past) place
    at x is l = first x is l.newer l.older l.note l.split l.is_place l.catalog l.none

    by_read : (seen_at e ≡ []) ⊎ ((seen : Seen) × (seen_at e ≡ seen ∷ []))
        → IsFirstNote (with_seen (length past) (seen_at e) (caller_state c past)).notes place
        → FirstCatalogAt c (e ∷ past) place
    by_read (inl empty) l = further (rest (subst (λ (x : List Seen). IsFirstNote (with_seen (length past) x (caller_state c past)).notes place) empty l))
    by_read (inr (x, is)) l = at x is (subst (λ (y : List Seen). IsFirstNote (with_seen (length past) y (caller_state c past)).notes place) is l)

first_step : (c : ClientNo) (past : List Entry) (e : Entry) (place : ℕ) → is_by c e ≡ true
    → (what : What) → e.what ≡ what
    → (IsFirstNote (caller_state c past).notes place → FirstCatalogAt c past place)
    → IsFirstNote (state_after (length past) what (seen_at e) (caller_state c past)).notes place
    → FirstCatalogAt c (e ∷ past) place
first_step c past e place by (Begin number op) is rest l = absurd (none l.newer l.split)
  where
    none : (newer : List Note) → [] ≡ newer ++ l.note ∷ l.older → ⊥
    none newer s = no_split newer l.note l.older s
first_step c past e place by (Answered number answer) is rest l = absurd (none l.newer l.split)
  where
    none : (newer : List Note) → [] ≡ newer ++ l.note ∷ l.older → ⊥
    none newer s = no_split newer l.note l.older s
first_step c past e place by (Issue tid mini) is rest l = first_quiet c past e place by (ap (λ (w : What). since_begin_after w e (since_begin (client_entries c past))) is) rest (one_read e) l
first_step c past e place by (Called request reply) is rest l = first_quiet c past e place by (ap (λ (w : What). since_begin_after w e (since_begin (client_entries c past))) is) rest (one_read e) l
first_step c past e place by (Stopped request asked) is rest l = first_quiet c past e place by (ap (λ (w : What). since_begin_after w e (since_begin (client_entries c past))) is) rest (one_read e) l
first_step c past e place by (Restarted kept) is rest l = first_quiet c past e place by (ap (λ (w : What). since_begin_after w e (since_begin (client_entries c past))) is) rest (one_read e) l
first_step c past e place by (Abandoned tid) is rest l = first_quiet c past e place by (ap (λ (w : What). since_begin_after w e (since_begin (client_entries c past))) is) rest (one_read e) l

pub first_note : (c : ClientNo) (past : List Entry) (place : ℕ) → IsFirstNote (caller_state c past).notes place → FirstCatalogAt c past place
first_note c [] place l = absurd (no_split l.newer l.note l.older l.split)
first_note c (e ∷ past) place l =
    elim (is_by c e) as (λ b. is_by c e ≡ b → IsFirstNote (if b then state_after (length past) e.what (seen_at e) (caller_state c past) else caller_state c past).notes place → FirstCatalogAt c (e ∷ past) place) [
      | true ↦ λ by l. first_step c past e place by e.what refl (first_note c past place) l
      | false ↦ λ by l.
          let r = first_note c past place l in
          record {
            entry = r.entry;
            later = e ∷ r.later;
            before = r.before;
            split = ap (λ (x : List Entry). e ∷ x) r.split;
            here = r.here;
            is_place = r.is_place;
            since = ap since_begin (skip c e past by) ∙ (r.since ∙ ap (λ (x : List Entry). x ++ r.entry ∷ since_begin (client_entries c r.before)) (sym (skip c e r.later by)));
            first = r.first;
          }
    ] refl l

-- The only read

with_one : (n : ℕ) (x : Seen) (xs : List Seen) (s : CallerState) → xs ≡ x ∷ [] → (with_seen n xs s).notes ≡ record { place = n; seen = x; catalog = s.catalog } ∷ s.notes
with_one n x xs s is = ap (λ (l : List Seen). (with_seen n l s).notes) is

with_none : (n : ℕ) (xs : List Seen) (s : CallerState) → xs ≡ [] → (with_seen n xs s).notes ≡ s.notes
with_none n xs s is = ap (λ (l : List Seen). (with_seen n l s).notes) is

shows_none : (c : ClientNo) (past : List Entry) (e : Entry) (op : Op) (reply : Reply) → seen_at e ≡ [] → ShowsHere c past e op reply → ⊥
shows_none c past e op reply empty h = nothing h.1.0 (subst (λ (x : List Seen). Contains x h.1.0) empty h.1.1)

pub begin_sees : (e : Entry) (number : ℕ) (op : Op) → e.what ≡ Begin number op → seen_at e ≡ []
begin_sees e number op is = ap (λ (w : What). flat_map (λ (k : Call). seen_by k.node k.request k.reply) (call_in e.node w)) is ∙ at e.node
  where
    at : (n : Option NodeNo) → flat_map (λ (k : Call). seen_by k.node k.request k.reply) (call_in n (Begin number op)) ≡ []
    at None = refl
    at (Some n) = refl

pub answered_sees : (e : Entry) (number : ℕ) (answer : Answer) → e.what ≡ Answered number answer → seen_at e ≡ []
answered_sees e number answer is = ap (λ (w : What). flat_map (λ (k : Call). seen_by k.node k.request k.reply) (call_in e.node w)) is ∙ at e.node
  where
    at : (n : Option NodeNo) → flat_map (λ (k : Call). seen_by k.node k.request k.reply) (call_in n (Answered number answer)) ≡ []
    at None = refl
    at (Some n) = refl

-- nothing that shows a reply stands before the Begin
after_begin : (c : ClientNo) (op : Op) (reply : Reply) (past : List Entry) (e : Entry) (place number : ℕ) (begun : Op) → is_by c e ≡ true → e.what ≡ Begin number begun
    → LastShown c op reply (e ∷ past) place → ⊥
after_begin c op reply past e place number begun by is (inl h) = shows_none c past e op reply (begin_sees e number begun is) h.0
after_begin c op reply past e place number begun by is (inr h) = at h.1
  where
    at : (is_by c e ≡ false) ⊎ (begun_in e.what ≡ []) → ⊥
    at (inl off) = clash (is_by c e) by off
    at (inr none) = let void : begun_in (Begin number begun) ≡ [] = sym (ap begun_in is) ∙ none in cc

none_quiet : (c : ClientNo) (op : Op) (reply : Reply) (past : List Entry) (e : Entry) (place : ℕ)
    → LastCatalogsServe (e ∷ past)
    → (LastShown c op reply past place → NoneShows (caller_state c past).notes op reply → ⊥)
    → (seen_at e ≡ []) ⊎ ((seen : Seen) × (seen_at e ≡ seen ∷ []))
    → LastShown c op reply (e ∷ past) place → NoneShows (with_seen (length past) (seen_at e) (caller_state c past)).notes op reply → ⊥
none_quiet c op reply past e place serve rest (inl empty) (inl h) none = shows_none c past e op reply empty h.0
none_quiet c op reply past e place serve rest (inl empty) (inr h) none = rest h.2 (subst (λ (ns : List Note). NoneShows ns op reply) (with_none (length past) (seen_at e) (caller_state c past) empty) none)
none_quiet c op reply past e place serve rest (inr (x, is)) l none = by l (subst (λ (ns : List Note). NoneShows ns op reply) (with_one (length past) x (seen_at e) (caller_state c past) is) none)
  where
    by : LastShown c op reply (e ∷ past) place → IsUnshownBy (caller_state c past).catalog x op reply × NoneShows (caller_state c past).notes op reply → ⊥
    by (inl h) both =
        both.0 (client_entries c past) (serve_here e past c serve)
        (subst (λ (z : Seen). ReadShows (client_entries c past) z op reply) (sym (only x h.0.1.0 (subst (λ (l : List Seen). Contains l h.0.1.0) is h.0.1.1))) h.0.1.2)
    by (inr h) both = rest h.2 both.1

none_step : (c : ClientNo) (op : Op) (reply : Reply) (past : List Entry) (e : Entry) (place : ℕ) (b : Begun)
    → LastCatalogsServe (e ∷ past) → is_by c e ≡ true → (what : What) → e.what ≡ what
    → (LastShown c op reply past place → (caller_state c past).begun ≡ Some b → NoneShows (caller_state c past).notes op reply → ⊥)
    → LastShown c op reply (e ∷ past) place
    → (state_after (length past) what (seen_at e) (caller_state c past)).begun ≡ Some b
    → NoneShows (state_after (length past) what (seen_at e) (caller_state c past)).notes op reply → ⊥
none_step c op reply past e place b serve by (Begin number begun) is rest l under none = after_begin c op reply past e place number begun by is l
none_step c op reply past e place b serve by (Answered number answer) is rest l under none = absurd cc
none_step c op reply past e place b serve by (Issue tid mini) is rest l under none = none_quiet c op reply past e place serve (λ m. rest m (sym (with_begun (length past) (seen_at e) (caller_state c past)) ∙ under)) (one_read e) l none
none_step c op reply past e place b serve by (Called request reply') is rest l under none = none_quiet c op reply past e place serve (λ m. rest m (sym (with_begun (length past) (seen_at e) (caller_state c past)) ∙ under)) (one_read e) l none
none_step c op reply past e place b serve by (Stopped request asked) is rest l under none = none_quiet c op reply past e place serve (λ m. rest m (sym (with_begun (length past) (seen_at e) (caller_state c past)) ∙ under)) (one_read e) l none
none_step c op reply past e place b serve by (Restarted kept) is rest l under none = none_quiet c op reply past e place serve (λ m. rest m (sym (with_begun (length past) (seen_at e) (caller_state c past)) ∙ under)) (one_read e) l none
none_step c op reply past e place b serve by (Abandoned tid) is rest l under none = none_quiet c op reply past e place serve (λ m. rest m (sym (with_begun (length past) (seen_at e) (caller_state c past)) ∙ under)) (one_read e) l none

-- where a read shows a reply, one of those that were noted does
none_shown : (c : ClientNo) (op : Op) (reply : Reply) (past : List Entry) (place : ℕ) (b : Begun) → LastCatalogsServe past → LastShown c op reply past place
    → (caller_state c past).begun ≡ Some b → NoneShows (caller_state c past).notes op reply → ⊥
none_shown c op reply [] place b serve l under none = absurd l
none_shown c op reply (e ∷ past) place b serve l under none =
    elim (is_by c e) as (λ t. is_by c e ≡ t
    → (if t then state_after (length past) e.what (seen_at e) (caller_state c past) else caller_state c past).begun ≡ Some b
    → NoneShows (if t then state_after (length past) e.what (seen_at e) (caller_state c past) else caller_state c past).notes op reply → ⊥) [
      | true ↦ λ by under none. none_step c op reply past e place b serve by e.what refl (none_shown c op reply past place b (serve_before e past serve)) l under none
      | false ↦ λ off under none. others (λ m. none_shown c op reply past place b (serve_before e past serve) m under none) l off
    ] refl under none
  where
    others : (LastShown c op reply past place → ⊥) → LastShown c op reply (e ∷ past) place → is_by c e ≡ false → ⊥
    others rest (inl h) off = clash (is_by c e) h.0.0 off
    others rest (inr h) off = rest h.2

-- so it does where there are none
none_noted : (c : ClientNo) (op : Op) (reply : Reply) (past : List Entry) (place : ℕ) (b : Begun) → LastCatalogsServe past → LastShown c op reply past place
    → (caller_state c past).begun ≡ Some b → (caller_state c past).notes ≡ [] → ⊥
none_noted c op reply past place b serve l under void = none_shown c op reply past place b serve l under (subst (λ (ns : List Note). NoneShows ns op reply) (sym void) tt)

only_quiet : (c : ClientNo) (op : Op) (reply : Reply) (past : List Entry) (e : Entry) (place : ℕ) (note : Note)
    → (LastShown c op reply past place → (caller_state c past).notes ≡ [] → ⊥)
    → (LastShown c op reply past place → (caller_state c past).notes ≡ note ∷ [] → place ≡ note.place)
    → (seen_at e ≡ []) ⊎ ((seen : Seen) × (seen_at e ≡ seen ∷ []))
    → LastShown c op reply (e ∷ past) place → (with_seen (length past) (seen_at e) (caller_state c past)).notes ≡ note ∷ [] → place ≡ note.place
only_quiet c op reply past e place note none rest (inl empty) (inl h) one = absurd (shows_none c past e op reply empty h.0)
only_quiet c op reply past e place note none rest (inl empty) (inr h) one = rest h.2 (sym (with_none (length past) (seen_at e) (caller_state c past) empty) ∙ one)
only_quiet c op reply past e place note none rest (inr (x, is)) (inl h) one =
    let all : record { place = length past; seen = x; catalog = (caller_state c past).catalog } ∷ (caller_state c past).notes ≡ note ∷ [] = sym (with_one (length past) x (seen_at e) (caller_state c past) is) ∙ one in
    let same : record { place = length past; seen = x; catalog = (caller_state c past).catalog } ≡ note = cc in
    h.1 ∙ ap (λ (n : Note). n.place) same
only_quiet c op reply past e place note none rest (inr (x, is)) (inr h) one =
    let all : record { place = length past; seen = x; catalog = (caller_state c past).catalog } ∷ (caller_state c past).notes ≡ note ∷ [] = sym (with_one (length past) x (seen_at e) (caller_state c past) is) ∙ one in
    let void : (caller_state c past).notes ≡ [] = cc in
    absurd (none h.2 void)

quiet_one : (c : ClientNo) (op : Op) (reply : Reply) (past : List Entry) (e : Entry) (place : ℕ) (b : Begun) (note : Note)
    → LastCatalogsServe past → (LastShown c op reply past place → (caller_state c past).begun ≡ Some b → (caller_state c past).notes ≡ note ∷ [] → place ≡ note.place)
    → LastShown c op reply (e ∷ past) place
    → (with_seen (length past) (seen_at e) (caller_state c past)).begun ≡ Some b
    → (with_seen (length past) (seen_at e) (caller_state c past)).notes ≡ note ∷ [] → place ≡ note.place
quiet_one c op reply past e place b note serve rest l under one =
    let before : (caller_state c past).begun ≡ Some b = sym (with_begun (length past) (seen_at e) (caller_state c past)) ∙ under in
    only_quiet c op reply past e place note (λ m void. none_noted c op reply past place b serve m before void) (λ m. rest m before) (one_read e) l one

only_step : (c : ClientNo) (op : Op) (reply : Reply) (past : List Entry) (e : Entry) (place : ℕ) (b : Begun) (note : Note)
    → LastCatalogsServe past → is_by c e ≡ true → (what : What) → e.what ≡ what
    → (LastShown c op reply past place → (caller_state c past).begun ≡ Some b → (caller_state c past).notes ≡ note ∷ [] → place ≡ note.place)
    → LastShown c op reply (e ∷ past) place
    → (state_after (length past) what (seen_at e) (caller_state c past)).begun ≡ Some b
    → (state_after (length past) what (seen_at e) (caller_state c past)).notes ≡ note ∷ [] → place ≡ note.place
only_step c op reply past e place b note serve by (Begin number begun) is rest l under one = absurd (after_begin c op reply past e place number begun by is l)
only_step c op reply past e place b note serve by (Answered number answer) is rest l under one = absurd cc
only_step c op reply past e place b note serve by (Issue tid mini) is rest l under one = quiet_one c op reply past e place b note serve rest l under one
only_step c op reply past e place b note serve by (Called request reply') is rest l under one = quiet_one c op reply past e place b note serve rest l under one
only_step c op reply past e place b note serve by (Stopped request asked) is rest l under one = quiet_one c op reply past e place b note serve rest l under one
only_step c op reply past e place b note serve by (Restarted kept) is rest l under one = quiet_one c op reply past e place b note serve rest l under one
only_step c op reply past e place b note serve by (Abandoned tid) is rest l under one = quiet_one c op reply past e place b note serve rest l under one

-- the only read is the last that shows a reply
only_shown : (c : ClientNo) (op : Op) (reply : Reply) (past : List Entry) (place : ℕ) (b : Begun) (note : Note) → LastCatalogsServe past → LastShown c op reply past place
    → (caller_state c past).begun ≡ Some b → (caller_state c past).notes ≡ note ∷ [] → place ≡ note.place
only_shown c op reply [] place b note serve l under one = absurd l
only_shown c op reply (e ∷ past) place b note serve l under one =
    elim (is_by c e) as (λ t. is_by c e ≡ t
    → (if t then state_after (length past) e.what (seen_at e) (caller_state c past) else caller_state c past).begun ≡ Some b
    → (if t then state_after (length past) e.what (seen_at e) (caller_state c past) else caller_state c past).notes ≡ note ∷ [] → place ≡ note.place) [
      | true ↦ λ by under one. only_step c op reply past e place b note (serve_before e past serve) by e.what refl (only_shown c op reply past place b note (serve_before e past serve)) l under one
      | false ↦ λ off under one. others (λ m. only_shown c op reply past place b note (serve_before e past serve) m under one) l off
    ] refl under one
  where
    others : (LastShown c op reply past place → place ≡ note.place) → LastShown c op reply (e ∷ past) place → is_by c e ≡ false → place ≡ note.place
    others rest (inl h) off = absurd (clash (is_by c e) h.0.0 off)
    others rest (inr h) off = rest h.2

-- Where a reply that no plan gives has its place

only_or_last : (c : ClientNo) (op : Op) (reply : Reply) (past : List Entry) (place : ℕ) (b : Begun) → LastCatalogsServe past → (caller_state c past).begun ≡ Some b
    → ((p : ℕ) × LastShown c op reply past p) → IsOnlyNote (caller_state c past).notes place ⊎ IsLastNote (caller_state c past).notes op reply place → LastShown c op reply past place
only_or_last c op reply past place b serve under has (inl (inl none)) = absurd (none_noted c op reply past has.0 b serve has.1 under none)
only_or_last c op reply past place b serve under has (inl (inr one)) =
    subst (λ p. LastShown c op reply past p) (only_shown c op reply past has.0 b one.0 serve has.1 under one.1 ∙ sym one.2) has.1
only_or_last c op reply past place b serve under has (inr last) = last_note c op reply past place serve last

pub noted_place : (c : ClientNo) (past : List Entry) (op : Op) (reply : Reply) (place : ℕ) (b : Begun) → LastCatalogsServe past → (caller_state c past).begun ≡ Some b
    → ((p : ℕ) × ReadPlace c past op reply p) → IsNotedPlace (caller_state c past).notes op reply place → ReadPlace c past op reply place
noted_place c past (Scan version low high limit) (Say.Pairs pairs) place b serve under has at = first_note c past place at
noted_place c past op reply place b serve under has at = only_or_last c op reply past place b serve under has at

-- A reply has a place

no_first : (c : ClientNo) (past : List Entry) (place : ℕ) → NoneIsOfCatalog (caller_state c past).notes → FirstCatalogAt c past place → ⊥
no_first c past place none first =
    All-contains (λ (s : Seen). IsCatalogRead s → ⊥) (seen_in (since_begin (client_entries c past))) first.here.1.0
    (All-from_recursion (λ (s : Seen). IsCatalogRead s → ⊥) (seen_in (since_begin (client_entries c past))) (subst NoCatalog (notes_seens c past) (none_read (caller_state c past).notes none)))
    (subst (λ (es : List Entry). Contains (seen_in es) first.here.1.0) (sym first.since) (brought_in (client_entries c first.later) first.entry (since_begin (client_entries c first.before)) first.here.1.0 first.here.1.1))
    first.here.1.2

-- the reads that were noted give a reply its place, if it has one
pub no_place : (c : ClientNo) (past : List Entry) (op : Op) (reply : Reply) (b : Begun) → LastCatalogsServe past → (caller_state c past).begun ≡ Some b
    → ((p : ℕ) × ReadPlace c past op reply p) → HasNoPlace (caller_state c past).notes op reply → ⊥
no_place c past (Scan version low high limit) (Say.Pairs pairs) b serve under has none = no_first c past has.0 none has.1
no_place c past op reply b serve under has none = none_shown c op reply past has.0 b serve has.1 under none
