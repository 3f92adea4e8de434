-- Entries of one client over two nodes, for worked examples: a list is put together of them, newest
-- first.
use Rattle.std.proofs.Common.{◌≡◌, ℕ, zero, suc, ◌+◌, ◌<◌, ◌⊎◌, inl, inr, Bool, true, false, ◌&&◌, List, [], ◌∷◌, ◌++◌, Option, Some, None, if◌then◌else◌, refl, subst, sym, ap, ◌∙◌, arith, lit<, lit≤, Contains}
use Rattle.std.specs.Prelude.{⊤}
use Rattle.std.specs.List.{flat_map}
use Rattle.std.proofs.lemmas.List.Elements.{Contains-append_left, Contains-append_right}
use Rattle.std.proofs.lemmas.Grind.{flat_map-append}
use Rattle.mn_base.specs.declared.ids.Addr.{Addr}
use Rattle.mn_base.specs.declared.ids.NodeNo.{NodeNo}
use Rattle.mn_base.specs.declared.ids.VersionNo.{VersionNo}
use Rattle.mn_base.specs.Store.{Head, head_named, refusal, refusal_at}
use Rattle.mn_base.specs.declared.op.Step.TheVariants.{Get}
use Rattle.mn_base.specs.declared.op.Op.{Op}
use Rattle.mn_base.specs.declared.op.Op.TheVariants.{Tx}
use Rattle.mn_base.specs.declared.reply.Reply.TheVariants.{Values, Frozen}
use Rattle.mn_base.specs.declared.answer.Answer.{Answer}
use Rattle.mn_base.specs.declared.reply.Pair.{Pair}
use Rattle.mn_mini.specs.declared.item.Item.TheVariants.{Read}
use Rattle.mn_mini.specs.declared.request.Request.{Request}
use Rattle.mn_mini.specs.declared.request.Request.TheVariants as Ask
use Rattle.mn_mini.specs.declared.reply.NodeReply.{NodeReply}
use Rattle.mn_mini.specs.declared.reply.NodeReply.TheVariants as Say
use Rattle.mn_mini.specs.Mini.{Mini, part_of}
use Rattle.mn_page.specs.declared.entry.CatEntry.{CatEntry}
use Rattle.mn_page.specs.Grammar.{padded, entry_bytes, IsEntry}
use Rattle.mn_page.specs.Forest.{main_entry}
use Rattle.mn_page.specs.Space.{catalog_size}
use Rattle.mn_runs.specs.declared.entry.Entry.{Entry}
use Rattle.mn_runs.specs.declared.entry.What.{What}
use Rattle.mn_runs.specs.declared.entry.What.TheVariants as Did
use Rattle.mn_runs.specs.Calls.{Call, calls_of, Issued, issues_of}
use Rattle.mn_runs.specs.Clients.{is_plan}
use Rattle.mn_runs.specs.Seen.{Place, Seen, seen_by, seen_in}
use Rattle.mn_law.specs.Places.{page_place, entry_place, catalog_place}
use Rattle.mn_law.specs.Answers.{LastIssue}
use Rattle.mn_law.specs.Shown.{SeesCatalog, TellsPlace}
use Rattle.mn_law.specs.Run.{IsLegalBy}
use Rattle.mn_run_examples.proofs.TwoNodes.{node, client, id}
use Rattle.mn_runs.proofs.NewCalls.{calls_append}

-- Steps of client 0

abbrev pub own : What → Entry
own what = record { node = None; client = Some (client 0); what = what }

abbrev pub begin : Op → Entry
begin op = own (Did.Begin 1 op)

abbrev pub answered : Answer → Entry
answered answer = own (Did.Answered 1 answer)

abbrev pub called : ℕ → Request → NodeReply → Entry
called n request reply = record { node = Some (node n); client = Some (client 0); what = Did.Called request reply }

-- each entry is legal by the list before it
abbrev pub AreLegal : List Entry → Type 0
AreLegal [] = ⊤
AreLegal (e ∷ es) = AreLegal es × IsLegalBy es e

-- Reads

abbrev pub read_of : Place → Mini
read_of place = record { nodes = 2; items = Read place.node place.start place.length ∷ [] }

abbrev pub issue_read : ℕ → Place → Entry
issue_read serial place = own (Did.Issue (id 0 serial) (read_of place))

abbrev pub exec_read : ℕ → Place → NodeReply → Entry
exec_read serial place reply = called place.node.0 (Ask.Exec (id 0 serial) (part_of (read_of place) place.node)) reply

-- a read of a place, answered Done with these bytes
abbrev pub read : ℕ → Place → List ℕ → List Entry
read serial place bytes = exec_read serial place (Say.Done (bytes ∷ [])) ∷ issue_read serial place ∷ []

abbrev pub seen : Place → List ℕ → Seen
seen place bytes = record { place = place; bytes = bytes }

-- Catalogs and pairs

abbrev pub catalog_of : List CatEntry → List ℕ
catalog_of entries = padded catalog_size (flat_map entry_bytes entries)

abbrev pub version : ℕ → VersionNo
version v = record { 0 = v }

abbrev pub main : List ℕ
main = main_entry.name

main_is_entry : IsEntry main_entry
main_is_entry = record { seq_low = lit≤ tt; seq_high = lit< tt; parent = tt; root = (lit< tt, lit< tt); name = (lit≤ tt, lit≤ tt, refl) }

-- the catalog whose one version is main
pub sees_main : SeesCatalog (seen catalog_place (catalog_of (main_entry ∷ []))) (main_entry ∷ [])
sees_main = (refl, lit≤ tt, (main_is_entry, tt), refl)

-- k1, k2 and so on
abbrev pub key : ℕ → List ℕ
key n = 107 ∷ (48 + n) ∷ []

abbrev pub pair : ℕ → Pair
pair n = record { key = key n; value = 118 ∷ [] }

-- What a list does not show

pub only : {A : Type 0} (x z : A) → Contains (x ∷ []) z → x ≡ z
only x z (zero, in', is) = cc
only x z (suc k, in', is) = absurd (omega arith)

pub one_of_two : {A : Type 0} (x y z : A) → Contains (x ∷ y ∷ []) z → (x ≡ z) ⊎ (y ≡ z)
one_of_two x y z (zero, in', is) = inl cc
one_of_two x y z (suc zero, in', is) = inr cc
one_of_two x y z (suc (suc k), in', is) = absurd (omega arith)

pub one_of_three : {A : Type 0} (x y z w : A) → Contains (x ∷ y ∷ z ∷ []) w
    → (x ≡ w) ⊎ (y ≡ w) ⊎ (z ≡ w)
one_of_three x y z w (zero, in', is) = inl cc
one_of_three x y z w (suc zero, in', is) = inr (inl cc)
one_of_three x y z w (suc (suc zero), in', is) = inr (inr cc)
one_of_three x y z w (suc (suc (suc k)), in', is) = absurd (omega arith)

-- an operation whose last issue is a read is answered by no plan
pub read_is_no_plan : (es now before : List Entry) (i j : Issued) (js : List Issued)
    → issues_of now ≡ j ∷ js → is_plan j.mini.items ≡ false → LastIssue es now i before
    → is_plan i.mini.items ≡ true → ⊥
read_is_no_plan es now before i j js issued reads last plans =
    let same : j ≡ i = let e : j ∷ js ≡ i ∷ last.earlier = sym issued ∙ last.of_operation in cc in
    false_not_true (sym reads ∙ (ap (λ (x : Issued). is_plan x.mini.items) same ∙ plans))
  where
    false_not_true : false ≡ true → ⊥
    false_not_true e = cc

-- no catalog refuses a lone Get with values
pub values_refuse_nothing : (heads : List Head) (name k : List ℕ) (found : List (Option (List ℕ)))
    → refusal heads (Tx name (Get k ∷ [])) ≡ Some (Values found) → ⊥
values_refuse_nothing heads name k found e = at (head_named heads name) e
  where
    frozen : (b : Bool) → (if b && false then Some Frozen else None) ≡ Some (Values found) → ⊥
    frozen true e = cc
    frozen false e = cc

    at : (h : Option Head) → refusal_at heads (Tx name (Get k ∷ [])) h ≡ Some (Values found) → ⊥
    at None e = cc
    at (Some h) e = frozen h.frozen e

-- a read of a page tells no entry
pub page_tells_no_entry : (addr : Addr) (bytes : List ℕ) (n : NodeNo) (v : ℕ) (other : List ℕ)
    → v < 64 → TellsPlace (seen (page_place addr) bytes) (entry_place n v) other → ⊥
page_tells_no_entry addr bytes n v other few (inl gives) = let low = gives.begins in absurd (omega arith)
page_tells_no_entry addr bytes n v other few (inr (entry, gives)) = let low = gives.begins in absurd (omega arith)

-- Lists that are put together

-- what a part of a list has seen, the whole has seen
pub seen_in_part : (now rest part earlier : List Entry) (s : Seen) → now ≡ rest ++ part ++ earlier
    → Contains (seen_in part) s → Contains (seen_in now) s
seen_in_part now rest part earlier s split has =
    let parts : seen_in (rest ++ part ++ earlier) ≡ seen_in rest ++ seen_in part ++ seen_in earlier =
    seen_append (rest ++ part) earlier ∙ ap (λ (l : List Seen). l ++ seen_in earlier) (seen_append rest part) in
    subst (λ (l : List Seen). Contains l s) (sym (ap seen_in split ∙ parts)) (Contains-append_left (seen_in rest ++ seen_in part) (seen_in earlier) s (Contains-append_right (seen_in rest) (seen_in part) s has))
  where
    seen_append : (xs ys : List Entry) → seen_in (xs ++ ys) ≡ seen_in xs ++ seen_in ys
    seen_append xs ys = ap (flat_map (λ (c : Call). seen_by c.node c.request c.reply)) (calls_append xs ys) ∙ flat_map-append (λ (c : Call). seen_by c.node c.request c.reply) (calls_of xs) (calls_of ys)
