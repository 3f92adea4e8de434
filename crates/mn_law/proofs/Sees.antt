-- The reads of lists that are put together.
use Rattle.std.proofs.Common.{◌≡◌, List, ◌∷◌, ◌++◌, subst, sym, ap, ◌∙◌, Contains}
use Rattle.std.proofs.lemmas.Grind.{flat_map-append}
use Rattle.std.proofs.lemmas.List.Elements.{Contains-append_left, Contains-append_right}
use Rattle.mn_base.specs.declared.op.Op.{Op}
use Rattle.mn_base.specs.declared.reply.Reply.{Reply}
use Rattle.mn_runs.specs.declared.entry.Entry.{Entry}
use Rattle.mn_runs.specs.Calls.{Call, call_in, calls_of}
use Rattle.mn_runs.specs.Seen.{Seen, seen_by, seen_in, seen_at}
use Rattle.mn_law.specs.Answers.{SomeReadShows}
use Rattle.mn_runs.proofs.NewCalls.{calls_append}

pub seen_in-append : (xs ys : List Entry) → seen_in (xs ++ ys) ≡ seen_in xs ++ seen_in ys
seen_in-append xs ys =
    ap (Rattle.std.specs.List.flat_map (λ (c : Call). seen_by c.node c.request c.reply)) (calls_append xs ys) ∙ flat_map-append (λ (c : Call). seen_by c.node c.request c.reply) (calls_of xs) (calls_of ys)

pub seen_in-cons : (x : Entry) (xs : List Entry) → seen_in (x ∷ xs) ≡ seen_at x ++ seen_in xs
seen_in-cons x xs = flat_map-append (λ (c : Call). seen_by c.node c.request c.reply) (call_in x.node x.what) (calls_of xs)

-- the reads of a list are those of its newer part, of an entry and of its older part
pub seen_in-split : (newer : List Entry) (x : Entry) (older : List Entry) → seen_in (newer ++ x ∷ older) ≡ seen_in newer ++ (seen_at x ++ seen_in older)
seen_in-split newer x older = seen_in-append newer (x ∷ older) ∙ ap (λ (ss : List Seen). seen_in newer ++ ss) (seen_in-cons x older)

-- what an entry of the list brought
pub brought_in : (newer : List Entry) (x : Entry) (older : List Entry) (seen : Seen) → Contains (seen_at x) seen → Contains (seen_in (newer ++ x ∷ older)) seen
brought_in newer x older seen has =
    subst (λ (ss : List Seen). Contains ss seen) (sym (seen_in-split newer x older)) (Contains-append_right (seen_in newer) (seen_at x ++ seen_in older) seen (Contains-append_left (seen_at x) (seen_in older) seen has))

pub brought_since : (es now : List Entry) (op : Op) (reply : Reply) (shown : SomeReadShows es now op reply) → Contains (seen_in now) shown.seen
brought_since es now op reply shown = subst (λ (l : List Entry). Contains (seen_in l) shown.seen) (sym shown.since) (brought_in shown.newer shown.entry shown.older shown.seen shown.brought)
