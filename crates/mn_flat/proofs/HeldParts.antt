-- The held parts, kept oldest first, as the definitions have them.
use Rattle.std.proofs.Common.{◌≡◌, ◌<◌, ◌+◌, ℕ, Bool, true, false, not, cond, ◌||◌, List, [], ◌∷◌, ◌++◌, length, take, map, reverse, filter, get_or, Some, refl, ap, sym, ◌∙◌, if◌then◌else◌}
use Rattle.std.specs.List.{list_any}
use Rattle.std.proofs.lemmas.List.{take_more, reverse-append, map_push}
use Rattle.std.proofs.lemmas.List.Sorted.{list_any-IsPermutation, IsPermutation-reverse}
use Rattle.mn_base.specs.Ids.{tid_same}
use Rattle.mn_base.specs.declared.ids.Tid.{Tid}
use Rattle.mn_mini.specs.declared.part.PartItem.{PartItem}
use Rattle.mn_mini.specs.Mini.{parts_conflict}
use Rattle.mn_mini.specs.Node.{HeldPart, held_part_of, without_tid}
use Rattle.mn_runs.specs.Sound.{is_free}
use Rattle.mn_flat.specs.declared.held.Held.{Held}
use Rattle.mn_flat.specs.Known.{held_seen, parts_seen}

pub held_push : (held : List Held) (h : Held) → parts_seen (held ++ h ∷ []) ≡ held_seen h ∷ parts_seen held
held_push held h = ap (λ (l : List HeldPart). reverse l) (map_push held_seen held h) ∙ reverse-append (map held_seen held) (held_seen h ∷ [])

-- one held part more
pub next_held : (held : List Held) (n : ℕ) (h : Held) → n < length held → h ≡ get_or held n h → parts_seen (take (n + 1) held) ≡ held_seen h ∷ parts_seen (take n held)
next_held held n h less is =
    ap parts_seen (take_more held n h less ∙ ap (λ (x : Held). take n held ++ x ∷ []) (sym is)) ∙ held_push (take n held) h

any_seen : (p : HeldPart → Bool) (held : List Held) → list_any p (map held_seen held) ≡ list_any (λ h. p (held_seen h)) held
any_seen p [] = refl
any_seen p (h ∷ held) = ap (λ (b : Bool). p (held_seen h) || b) (any_seen p held)

pub free_seen : (held : List Held) (part : List PartItem) (b : Bool) → b ≡ list_any (λ h. parts_conflict part h.part.now) held → not b ≡ is_free (parts_seen held) part
free_seen held part b e =
    ap (λ (x : Bool). not x) (e ∙ sym (any_seen (λ h. parts_conflict part h.part) held) ∙ list_any-IsPermutation (λ h. parts_conflict part h.part) (map held_seen held) (reverse (map held_seen held)) (IsPermutation-reverse (map held_seen held)))

without_push : (t : Tid) (hs : List HeldPart) (h : HeldPart) → without_tid t (hs ++ h ∷ []) ≡ without_tid t hs ++ (if tid_same h.tid t then [] else h ∷ [])
without_push t [] h = refl
without_push t (x ∷ hs) h =
    of (tid_same x.tid t) (without_push t hs h)
  where
    of : (b : Bool) → without_tid t (hs ++ h ∷ []) ≡ without_tid t hs ++ (if tid_same h.tid t then [] else h ∷ [])
        → (if b then without_tid t (hs ++ h ∷ []) else x ∷ without_tid t (hs ++ h ∷ [])) ≡ (if b then without_tid t hs else x ∷ without_tid t hs) ++ (if tid_same h.tid t then [] else h ∷ [])
    of true ih = ih
    of false ih = ap (λ (l : List HeldPart). x ∷ l) ih

nil_behind : (hs : List HeldPart) → hs ++ [] ≡ hs
nil_behind [] = refl
nil_behind (h ∷ hs) = ap (λ (l : List HeldPart). h ∷ l) (nil_behind hs)

seen_first : (h : Held) (held : List Held) → parts_seen (h ∷ held) ≡ parts_seen held ++ held_seen h ∷ []
seen_first h held = reverse-append (held_seen h ∷ []) (map held_seen held)

pub left_seen : (t : Tid) (held : List Held) → parts_seen (filter (λ h. not (tid_same h.tid t)) held) ≡ without_tid t (parts_seen held)
left_seen t [] = refl
left_seen t (h ∷ held) =
    of (tid_same h.tid t) refl (left_seen t held)
  where
    rest : without_tid t (parts_seen (h ∷ held)) ≡ without_tid t (parts_seen held) ++ (if tid_same h.tid t then [] else held_seen h ∷ [])
    rest = ap (λ (l : List HeldPart). without_tid t l) (seen_first h held) ∙ without_push t (parts_seen held) (held_seen h)

    of : (b : Bool) → tid_same h.tid t ≡ b → parts_seen (filter (λ h. not (tid_same h.tid t)) held) ≡ without_tid t (parts_seen held)
        → parts_seen (cond (not b) (h ∷ filter (λ h. not (tid_same h.tid t)) held) (filter (λ h. not (tid_same h.tid t)) held)) ≡ without_tid t (parts_seen (h ∷ held))
    of true e ih = ih ∙ sym (rest ∙ ap (λ (b : Bool). without_tid t (parts_seen held) ++ (if b then [] else held_seen h ∷ [])) e ∙ nil_behind (without_tid t (parts_seen held)))
    of false e ih =
        seen_first h (filter (λ h. not (tid_same h.tid t)) held) ∙ ap (λ (l : List HeldPart). l ++ held_seen h ∷ []) ih
        ∙ sym (rest ∙ ap (λ (b : Bool). without_tid t (parts_seen held) ++ (if b then [] else held_seen h ∷ [])) e)

-- the part of an id, one held part more
pub found_here : (t : Tid) (h : Held) (hs : List HeldPart) → tid_same h.tid t ≡ true → Some (held_seen h) ≡ held_part_of t (held_seen h ∷ hs)
found_here t h hs e = sym (ap (λ (b : Bool). if b then Some (held_seen h) else held_part_of t hs) e)

pub not_here : (t : Tid) (h : Held) (hs : List HeldPart) → tid_same h.tid t ≡ false → held_part_of t hs ≡ held_part_of t (held_seen h ∷ hs)
not_here t h hs e = sym (ap (λ (b : Bool). if b then Some (held_seen h) else held_part_of t hs) e)
