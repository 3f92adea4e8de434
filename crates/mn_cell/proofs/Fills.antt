-- The lengths of what is read.
use Rattle.std.proofs.Common.{◌≡◌, ℕ, Bool, true, false, Some, None, List, [], ◌∷◌, refl, ap, ◌∙◌, if◌then◌else◌}
use Rattle.mn_mini.specs.declared.part.PartItem.{PartItem}
use Rattle.mn_mini.specs.declared.part.PartItem.TheVariants.{Compare, Read, Write}
use Rattle.mn_mini.specs.declared.request.Request.{Request}
use Rattle.mn_mini.specs.declared.request.Request.TheVariants as Ask
use Rattle.mn_mini.specs.declared.reply.NodeReply.{NodeReply}
use Rattle.mn_mini.specs.declared.reply.NodeReply.TheVariants as Say
use Rattle.mn_mini.specs.Mini.{has_write}
use Rattle.mn_mini.specs.Sound.{AreReadsOf, Fits, OfPart}
use Rattle.mn_cell.specs.Calls.{HasLengths, HaveLengths, lengths_by, lengths_of, read_lengths}

-- What is read has the lengths that the request asks for

reads_lengths : (reads : List (List ℕ)) (part : List PartItem) → AreReadsOf reads part → lengths_of reads ≡ read_lengths part
reads_lengths [] [] are = refl
reads_lengths [] (Compare start bytes ∷ part) are = reads_lengths [] part are
reads_lengths [] (Read start size ∷ part) are = absurd are
reads_lengths [] (Write start bytes ∷ part) are = reads_lengths [] part are
reads_lengths (r ∷ reads) [] are = absurd are
reads_lengths (r ∷ reads) (Compare start bytes ∷ part) are = reads_lengths (r ∷ reads) part are
reads_lengths (r ∷ reads) (Read start size ∷ part) are = ap (λ (n : ℕ). n ∷ lengths_of reads) are.0 ∙ ap (λ (l : List ℕ). size ∷ l) (reads_lengths reads part are.1)
reads_lengths (r ∷ reads) (Write start bytes ∷ part) are = reads_lengths (r ∷ reads) part are

have_if : (w : Bool) (reads : List (List ℕ)) (lengths : List ℕ) → lengths_of reads ≡ lengths → HaveLengths reads (if w then Some lengths else None)
have_if true reads lengths is = is
have_if false reads lengths is = tt

done_lengths : (request : Request) (reads : List (List ℕ)) → OfPart (AreReadsOf reads) request → HaveLengths reads (lengths_by request)
done_lengths (Ask.Prepare tid participants part) reads are = reads_lengths reads part are
done_lengths (Ask.Exec tid part) reads are = have_if (has_write part) reads (read_lengths part) (reads_lengths reads part are)
done_lengths (Ask.Decide tid verdict) reads are = absurd are
done_lengths (Ask.Force tid) reads are = absurd are
done_lengths Ask.List reads are = absurd are
done_lengths (Ask.Peek start size) reads are = absurd are

pub fit_lengths : (request : Request) (reply : NodeReply) → Fits request reply → HasLengths (lengths_by request) reply
fit_lengths request (Say.Done reads) fits = done_lengths request reads fits
fit_lengths request (Say.BadLock start size holder) fits = tt
fit_lengths request (Say.BadCompare item found) fits = tt
fit_lengths request Say.BadForced fits = tt
fit_lengths request (Say.Vote verdict) fits = tt
fit_lengths request Say.Decided fits = tt
fit_lengths request (Say.Listed doubts) fits = tt
fit_lengths request (Say.Peeked bytes) fits = tt
fit_lengths request Say.Down fits = tt
fit_lengths request Say.Stopped fits = tt
fit_lengths request Say.NoMemory fits = tt
