-- The votes whose parts are held, as a node keeps them.
use Rattle.std.proofs.Common.{◌≡◌, ◌<◌, ◌≤◌, ◌+◌, ℕ, zero, suc, Bool, true, false, not, ◌||◌, List, [], ◌∷◌, ◌++◌, length, reverse, take, get_or, slice_get, Some, is_some, refl, ap, sym, ◌∙◌, subst, arith, append-nil, if◌then◌else◌}
use Rattle.std.specs.List.{AllByRecursion, AllZip, list_any}
use Rattle.std.proofs.lemmas.Option.{get_or_from_slice_get, slice_get_within}
use Rattle.std.proofs.lemmas.Slice.Zip.{AllZip-long}
use Rattle.std.proofs.lemmas.List.{take_more, take_all, reverse-append, reverse-reverse}
use Rattle.mn_base.specs.Ids.{tid_same}
use Rattle.mn_base.specs.declared.ids.NodeNo.{NodeNo}
use Rattle.mn_base.specs.declared.ids.Tid.{Tid}
use Rattle.mn_base.proofs.Lists.{any_turned, before_last, last_at}
use Rattle.mn_mini.specs.declared.doubt.Doubt.{Doubt}
use Rattle.mn_mini.specs.declared.part.PartItem.{PartItem}
use Rattle.mn_mini.specs.declared.record.Record.{Record}
use Rattle.mn_mini.specs.declared.record.Record.TheVariants.{Voted, Decided}
use Rattle.mn_mini.specs.Flat.{space_after_part}
use Rattle.mn_mini.specs.Node.{HeldPart, doubts_of, held_parts, held_part_of, is_held, with_doubt, with_held, without_tid}
use Rattle.mn_mini.specs.RecordGrammar.{IsRecord, IsPart}
use Rattle.mn_page.proofs.Grid.{all_at_place}
use Rattle.mn_node.specs.declared.held.Vote.{Vote}
use Rattle.mn_node.specs.Held.{AreHeldVotes, IsVote, IsVoteFor, votes_of_others}

-- One record more

got_more : (xs ys : List Record) (i : ℕ) (x : Record) → slice_get xs i ≡ Some x → slice_get (xs ++ ys) i ≡ Some x
got_more xs ys i x e = before_last xs ys i (slice_get_within xs i x e) ∙ e

votes_more : (records more : List Record) (vs : List Vote) (hs : List HeldPart) → AllZip (IsVoteFor records) vs hs → AllZip (IsVoteFor (records ++ more)) vs hs
votes_more records more [] [] z = tt
votes_more records more [] (h ∷ hs) z = absurd z
votes_more records more (v ∷ vs) [] z = absurd z
votes_more records more (v ∷ vs) (h ∷ hs) z = (record { tid = z.0.tid; record_is = got_more records more v.place (Voted h.tid h.participants h.part) z.0.record_is }, votes_more records more vs hs z.1)

one_more : (records : List Record) (vs : List Vote) (hs : List HeldPart) (v : Vote) (h : HeldPart) → AllZip (IsVoteFor records) vs hs → IsVoteFor records v h → AllZip (IsVoteFor records) (vs ++ v ∷ []) (hs ++ h ∷ [])
one_more records [] [] v h z is = (is, tt)
one_more records [] (g ∷ hs) v h z is = absurd z
one_more records (w ∷ vs) [] v h z is = absurd z
one_more records (w ∷ vs) (g ∷ hs) v h z is = (z.0, one_more records vs hs v h z.1 is)

without-append : (t : Tid) (xs ys : List HeldPart) → without_tid t (xs ++ ys) ≡ without_tid t xs ++ without_tid t ys
without-append t [] ys = refl
without-append t (x ∷ xs) ys = of (tid_same x.tid t) (without-append t xs ys)
  where
    of : (b : Bool) → without_tid t (xs ++ ys) ≡ without_tid t xs ++ without_tid t ys
        → (if b then without_tid t (xs ++ ys) else x ∷ without_tid t (xs ++ ys)) ≡ (if b then without_tid t xs else x ∷ without_tid t xs) ++ without_tid t ys
    of true ih = ih
    of false ih = ap (λ (l : List HeldPart). x ∷ l) ih

without-reverse : (t : Tid) (hs : List HeldPart) → without_tid t (reverse hs) ≡ reverse (without_tid t hs)
without-reverse t [] = refl
without-reverse t (h ∷ hs) =
    ap (λ (l : List HeldPart). without_tid t l) (reverse-append (h ∷ []) hs) ∙ without-append t (reverse hs) (h ∷ []) ∙ of (tid_same h.tid t) (without-reverse t hs)
  where
    of : (b : Bool) → without_tid t (reverse hs) ≡ reverse (without_tid t hs) → without_tid t (reverse hs) ++ (if b then [] else h ∷ []) ≡ reverse (if b then without_tid t hs else h ∷ without_tid t hs)
    of true ih = append-nil (without_tid t (reverse hs)) ∙ ih
    of false ih = ap (λ (l : List HeldPart). l ++ h ∷ []) ih ∙ sym (reverse-append (h ∷ []) (without_tid t hs))

others_left : (records : List Record) (tid : Tid) (vs : List Vote) (hs : List HeldPart) → AllZip (IsVoteFor records) vs hs → AllZip (IsVoteFor records) (votes_of_others tid vs) (without_tid tid hs)
others_left records tid [] [] z = tt
others_left records tid [] (h ∷ hs) z = absurd z
others_left records tid (v ∷ vs) [] z = absurd z
others_left records tid (v ∷ vs) (h ∷ hs) z = of (tid_same v.tid tid) (tid_same h.tid tid) (ap (λ (t : Tid). tid_same t tid) z.0.tid) (others_left records tid vs hs z.1)
  where
    of : (a b : Bool) → a ≡ b → AllZip (IsVoteFor records) (votes_of_others tid vs) (without_tid tid hs)
        → AllZip (IsVoteFor records) (if not a then v ∷ votes_of_others tid vs else votes_of_others tid vs) (if b then without_tid tid hs else h ∷ without_tid tid hs)
    of true true e ih = ih
    of true false e ih = absurd cc
    of false true e ih = absurd cc
    of false false e ih = (z.0, ih)

pub newest : (records : List Record) (r : Record) → reverse (records ++ r ∷ []) ≡ r ∷ reverse records
newest records r = reverse-append records (r ∷ [])

pub held_voted : (records : List Record) (vs : List Vote) (tid : Tid) (ps : List NodeNo) (part : List PartItem) (place : ℕ) → place ≡ length records → AreHeldVotes records vs → AreHeldVotes (records ++ Voted tid ps part ∷ []) (vs ++ record { tid = tid; place = place } ∷ [])
held_voted records vs tid ps part place at are =
    let h : HeldPart = record { tid = tid; participants = ps; part = part } in
    let v : Vote = record { tid = tid; place = place } in
    let r : Record = Voted tid ps part in
    let old = reverse (held_parts (reverse records)) in
    let parts : reverse (held_parts (reverse (records ++ r ∷ []))) ≡ old ++ h ∷ [] = ap (λ (l : List Record). reverse (held_parts l)) (newest records r) ∙ reverse-append (h ∷ []) (held_parts (reverse records)) in
    subst (λ (l : List HeldPart). AllZip (IsVoteFor (records ++ r ∷ [])) (vs ++ v ∷ []) l) (sym parts)
    (one_more (records ++ r ∷ []) vs old v h (votes_more records (r ∷ []) vs old are) (record { tid = refl; record_is = ap (λ (n : ℕ). slice_get (records ++ r ∷ []) n) at ∙ last_at records r }))

-- a record that changes nothing of what is held
pub held_same : (records : List Record) (vs : List Vote) (r : Record) → held_parts (r ∷ reverse records) ≡ held_parts (reverse records) → AreHeldVotes records vs → AreHeldVotes (records ++ r ∷ []) vs
held_same records vs r same are =
    let old = reverse (held_parts (reverse records)) in
    let parts : reverse (held_parts (reverse (records ++ r ∷ []))) ≡ old = ap (λ (l : List Record). reverse (held_parts l)) (newest records r) ∙ ap (λ (l : List HeldPart). reverse l) same in
    subst (λ (l : List HeldPart). AllZip (IsVoteFor (records ++ r ∷ [])) vs l) (sym parts) (votes_more records (r ∷ []) vs old are)

pub held_decided : (records : List Record) (vs : List Vote) (tid : Tid) (verdict : Bool) → AreHeldVotes records vs → AreHeldVotes (records ++ Decided tid verdict ∷ []) (votes_of_others tid vs)
held_decided records vs tid verdict are =
    let r : Record = Decided tid verdict in
    let old = reverse (held_parts (reverse records)) in
    let parts : reverse (held_parts (reverse (records ++ r ∷ []))) ≡ without_tid tid old = ap (λ (l : List Record). reverse (held_parts l)) (newest records r) ∙ sym (without-reverse tid (held_parts (reverse records))) in
    subst (λ (l : List HeldPart). AllZip (IsVoteFor (records ++ r ∷ [])) (votes_of_others tid vs) l) (sym parts)
    (others_left (records ++ r ∷ []) tid vs old (votes_more records (r ∷ []) vs old are))

-- Votes of an id

found_any : (tid : Tid) (hs : List HeldPart) → list_any (λ h. tid_same h.tid tid) hs ≡ is_some (held_part_of tid hs)
found_any tid [] = refl
found_any tid (h ∷ hs) = of (tid_same h.tid tid) (found_any tid hs)
  where
    of : (b : Bool) → list_any (λ g. tid_same g.tid tid) hs ≡ is_some (held_part_of tid hs) → (b || list_any (λ g. tid_same g.tid tid) hs) ≡ is_some (if b then Some h else held_part_of tid hs)
    of true ih = refl
    of false ih = ih

any_zip : (records : List Record) (tid : Tid) (vs : List Vote) (hs : List HeldPart) → AllZip (IsVoteFor records) vs hs → list_any (λ v. tid_same v.tid tid) vs ≡ list_any (λ h. tid_same h.tid tid) hs
any_zip records tid [] [] z = refl
any_zip records tid [] (h ∷ hs) z = absurd z
any_zip records tid (v ∷ vs) [] z = absurd z
any_zip records tid (v ∷ vs) (h ∷ hs) z =
    ap (λ (t : Tid). tid_same t tid || list_any (λ (w : Vote). tid_same w.tid tid) vs) z.0.tid ∙ ap (λ (b : Bool). tid_same h.tid tid || b) (any_zip records tid vs hs z.1)

pub any_held : (records : List Record) (vs : List Vote) (tid : Tid) → AreHeldVotes records vs → list_any (λ v. tid_same v.tid tid) vs ≡ is_held (reverse records) tid
any_held records vs tid are =
    let hs = held_parts (reverse records) in
    any_zip records tid vs (reverse hs) are ∙ any_turned (λ (h : HeldPart). tid_same h.tid tid) hs ∙ found_any tid hs

no_more : (tid : Tid) (vs : List Vote) → length (votes_of_others tid vs) ≤ length vs
no_more tid [] = omega arith
no_more tid (v ∷ vs) = of (tid_same v.tid tid) (no_more tid vs)
  where
    of : (b : Bool) → length (votes_of_others tid vs) ≤ length vs → length (if not b then v ∷ votes_of_others tid vs else votes_of_others tid vs) ≤ suc (length vs)
    of true ih = omega arith
    of false ih = omega arith

-- of an id that has a vote fewer are left
pub fewer : (tid : Tid) (vs : List Vote) → list_any (λ v. tid_same v.tid tid) vs ≡ true → length (votes_of_others tid vs) + 1 ≤ length vs
fewer tid [] some = absurd cc
fewer tid (v ∷ vs) some = of (tid_same v.tid tid) (fewer tid vs) some
  where
    of : (b : Bool) → (list_any (λ w. tid_same w.tid tid) vs ≡ true → length (votes_of_others tid vs) + 1 ≤ length vs) → (b || list_any (λ w. tid_same w.tid tid) vs) ≡ true
        → length (if not b then v ∷ votes_of_others tid vs else votes_of_others tid vs) + 1 ≤ suc (length vs)
    of true ih some = let most = no_more tid vs in omega (arith, most)
    of false ih some = let less = ih some in omega (arith, less)

-- The first votes, one after the other

-- the parts of the first so many votes, the newest first
abbrev pub first_held_parts : List Record → ℕ → List HeldPart
first_held_parts records n = reverse (take n (reverse (held_parts (reverse records))))

zip_at : (records : List Record) (vs : List Vote) (hs : List HeldPart) (n : ℕ) (d : Vote) → AllZip (IsVoteFor records) vs hs → n < length vs → (h : HeldPart) × IsVoteFor records (get_or vs n d) h × (n < length hs) × (get_or hs n h ≡ h)
zip_at records [] hs n d z less = absurd (omega (arith, less))
zip_at records (v ∷ vs) [] n d z less = absurd z
zip_at records (v ∷ vs) (h ∷ hs) zero d z less = (h, z.0, omega arith, refl)
zip_at records (v ∷ vs) (h ∷ hs) (suc n) d z less = let rest = zip_at records vs hs n d z.1 (omega (arith, less)) in (rest.0, rest.1, omega (arith, rest.2), rest.3)

pub next_held : (records : List Record) (vs : List Vote) (n : ℕ) (d : Vote) → AreHeldVotes records vs → n < length vs → (h : HeldPart) × IsVoteFor records (get_or vs n d) h × (first_held_parts records (n + 1) ≡ h ∷ first_held_parts records n)
next_held records vs n d are less =
    let hs = reverse (held_parts (reverse records)) in
    let at = zip_at records vs hs n d are less in (
      at.0,
      at.1,
      ap (λ (l : List HeldPart). reverse l) (take_more hs n at.0 at.2) ∙ reverse-append (take n hs) (get_or hs n at.0 ∷ []) ∙ ap (λ (h : HeldPart). h ∷ reverse (take n hs)) at.3,
    )

pub is_vote : (records : List Record) (vs : List Vote) (n : ℕ) (d : Vote) → AreHeldVotes records vs → n < length vs → IsVote records (get_or vs n d)
is_vote records vs n d are less = let next = next_held records vs n d are less in (next.0, next.1)

pub all_held : (records : List Record) (vs : List Vote) (n : ℕ) → AreHeldVotes records vs → length vs ≤ n → first_held_parts records n ≡ held_parts (reverse records)
all_held records vs n are most =
    let hs = reverse (held_parts (reverse records)) in
    let same = AllZip-long (IsVoteFor records) vs hs are in
    ap (λ (l : List HeldPart). reverse l) (take_all n hs (omega (arith, same, most))) ∙ reverse-reverse (held_parts (reverse records))

pub part_sound : (records : List Record) (v : Vote) (h : HeldPart) → AllByRecursion IsRecord records → IsVoteFor records v h → IsPart h.part
part_sound records v h all is = (all_at_place IsRecord records v.place (Voted h.tid h.participants h.part) all is.record_is).follows.1

pub vote_sound : (records : List Record) (v : Vote) (part : List PartItem) → AllByRecursion IsRecord records → IsVote records v → ((h : HeldPart) → IsVoteFor records v h → part ≡ h.part) → IsPart part
vote_sound records v part all is told = subst IsPart (sym (told is.0 is.1)) (part_sound records v is.0 all is.1)

-- What stands at their places

pub place_within : (records : List Record) (v : Vote) → IsVote records v → v.place < length records
place_within records v is = slice_get_within records v.place (Voted is.0.tid is.0.participants is.0.part) is.1.record_is

pub vote_read : (records : List Record) (v : Vote) (h : HeldPart) (r : Record) → IsVoteFor records v h → r ≡ get_or records v.place r → r ≡ Voted h.tid h.participants h.part
vote_read records v h r is e = e ∙ get_or_from_slice_get records v.place (Voted h.tid h.participants h.part) r is.record_is

-- What they write and list

pub next_written : (records : List Record) (n : ℕ) (v : Vote) (tid : Tid) (base old new : List ℕ) (next : (h : HeldPart) × IsVoteFor records v h × (first_held_parts records (n + 1) ≡ h ∷ first_held_parts records n))
    → ((h : HeldPart) → IsVoteFor records v h → new ≡ (if tid_same h.tid tid then space_after_part old h.part else old)) → old ≡ with_held (λ t. tid_same t tid) base (first_held_parts records n)
    → new ≡ with_held (λ t. tid_same t tid) base (first_held_parts records (n + 1))
next_written records n v tid base old new next told before =
    let h = next.0 in
    told h next.1 ∙ ap (λ (l : List ℕ). if tid_same h.tid tid then space_after_part l h.part else l) before ∙ sym (ap (λ (l : List HeldPart). with_held (λ t. tid_same t tid) base l) next.2)

pub made_doubt : (records : List Record) (v : Vote) (h : HeldPart) (ps : List NodeNo) → IsVoteFor records v h → ps ≡ h.participants → (let made : Doubt = record { tid = v.tid; participants = ps } in made) ≡ record { tid = h.tid; participants = h.participants }
made_doubt records v h ps is told =
    ap (λ (t : Tid). let made : Doubt = record { tid = t; participants = ps } in made) is.tid ∙ ap (λ (l : List NodeNo). let made : Doubt = record { tid = h.tid; participants = l } in made) told

pub next_listed : (records : List Record) (n : ℕ) (v : Vote) (d : Doubt) (old new : List Doubt) (next : (h : HeldPart) × IsVoteFor records v h × (first_held_parts records (n + 1) ≡ h ∷ first_held_parts records n))
    → ((h : HeldPart) → IsVoteFor records v h → d ≡ record { tid = h.tid; participants = h.participants }) → new ≡ with_doubt d old → old ≡ doubts_of (first_held_parts records n)
    → new ≡ doubts_of (first_held_parts records (n + 1))
next_listed records n v d old new next told e before =
    let h = next.0 in
    e ∙ ap (λ (x : Doubt). with_doubt x old) (told h next.1) ∙ ap (λ (l : List Doubt). with_doubt (record { tid = h.tid; participants = h.participants }) l) before ∙ sym (ap (λ (l : List HeldPart). doubts_of l) next.2)
