-- Whatever a stop leaves of a run, its store comes of a history that explains what was said.
use Rattle.std.proofs.Common.{◌≡◌, ℕ, Bool, true, false, List, [], ◌∷◌, ◌++◌, length, map, reverse, take, refl, subst, sym, ap, ◌∙◌, if◌then◌else◌, ◌&&◌}
use Rattle.std.specs.List.{AllByRecursion}
use Rattle.mn_base.proofs.Booleans.{and_false}
use Rattle.mn_base.specs.Store.{Store}
use Rattle.mn_base.specs.declared.ids.ClientNo.{ClientNo}
use Rattle.mn_callers.specs.Acts.{ops_by}
use Rattle.mn_callers.specs.Trace.{BeginsInOrder}
use Rattle.mn_hist.specs.Audit.{said_after, said_by, said_in}
use Rattle.mn_promise.specs.Promise.{Recovers}
use Rattle.mn_report.specs.declared.lines.LineAnswer.{LineAnswer}
use Rattle.mn_runs.specs.declared.entry.Entry.{Entry}
use Rattle.mn_runs.specs.declared.entry.What.{What}
use Rattle.mn_runs.specs.declared.entry.What.TheVariants.{Begin, Issue, Called, Stopped, Restarted, Abandoned, Answered}
use Rattle.mn_runs.specs.Calls.{Begun, begun_in, begun_of, client_entries, is_by}
use Rattle.mn_runs.specs.Protocol.{Start, start_nodes}
use Rattle.mn_script.specs.Script.{Script}
use Rattle.mn_serial.specs.History.{pasts_of}
use Rattle.mn_serial.specs.Meaning.{IsStop}
use Rattle.mn_top.proofs.Promise.Explaining.{explained}
use Rattle.mn_top.proofs.Promise.Holding.{stop_holds}
use Rattle.mn_top.proofs.Promise.Sayings.{SaysAs, is_answer, is_begin, place_by, times_by}
use Rattle.mn_top.specs.Crashes.{IsStopped}
use Rattle.mn_top.specs.Promise.{HoldsStore}

-- A stop answers nothing

says_same : (n : ℕ) (what : What) (before : LineAnswer) → IsStop what → said_after n what before ≡ before
says_same n (Stopped request asked) before is = refl
says_same n (Restarted kept) before is = refl
says_same n (Begin number op) before is = absurd is
says_same n (Issue tid mini) before is = absurd is
says_same n (Called request reply) before is = absurd is
says_same n (Abandoned tid) before is = absurd is
says_same n (Answered number answer) before is = absurd is

begins_none : (n : ℕ) (what : What) → IsStop what → is_begin n what ≡ false
begins_none n (Stopped request asked) is = refl
begins_none n (Restarted kept) is = refl
begins_none n (Begin number op) is = absurd is
begins_none n (Issue tid mini) is = absurd is
begins_none n (Called request reply) is = absurd is
begins_none n (Abandoned tid) is = absurd is
begins_none n (Answered number answer) is = absurd is

answers_none : (n : ℕ) (what : What) → IsStop what → is_answer n what ≡ false
answers_none n (Stopped request asked) is = refl
answers_none n (Restarted kept) is = refl
answers_none n (Begin number op) is = absurd is
answers_none n (Issue tid mini) is = absurd is
answers_none n (Called request reply) is = absurd is
answers_none n (Abandoned tid) is = absurd is
answers_none n (Answered number answer) is = absurd is

none_begun : (what : What) → IsStop what → begun_in what ≡ []
none_begun (Stopped request asked) is = refl
none_begun (Restarted kept) is = refl
none_begun (Begin number op) is = absurd is
none_begun (Issue tid mini) is = absurd is
none_begun (Called request reply) is = absurd is
none_begun (Abandoned tid) is = absurd is
none_begun (Answered number answer) is = absurd is

module _ (past : List Entry) (c : ClientNo) where
  said_same : (n : ℕ) (stops : List Entry) → AllByRecursion (λ e. IsStop e.what) stops → said_by (stops ++ past) c n ≡ said_by past c n
  said_same n [] are = refl
  said_same n (e ∷ stops) are = by (is_by c e) ∙ said_same n stops are.1
    where
      by : (b : Bool) → said_in n (if b then e ∷ client_entries c (stops ++ past) else client_entries c (stops ++ past)) ≡ said_by (stops ++ past) c n
      by true = says_same n e.what (said_by (stops ++ past) c n) are.0
      by false = refl

  place_same : (test : What → Bool) → ((what : What) → IsStop what → test what ≡ false) → (stops : List Entry) → AllByRecursion (λ e. IsStop e.what) stops → place_by test c (stops ++ past) ≡ place_by test c past
  place_same test fails [] are = refl
  place_same test fails (e ∷ stops) are =
      ap (λ (b : Bool). if is_by c e && b then length (stops ++ past) else place_by test c (stops ++ past)) (fails e.what are.0)
      ∙ (ap (λ (b : Bool). if b then length (stops ++ past) else place_by test c (stops ++ past)) (and_false (is_by c e)) ∙ place_same test fails stops are.1)

  begun_same : (stops : List Entry) → AllByRecursion (λ e. IsStop e.what) stops → begun_of (client_entries c (stops ++ past)) ≡ begun_of (client_entries c past)
  begun_same [] are = refl
  begun_same (e ∷ stops) are = by (is_by c e) ∙ begun_same stops are.1
    where
      by : (b : Bool) → begun_of (if b then e ∷ client_entries c (stops ++ past) else client_entries c (stops ++ past)) ≡ begun_of (client_entries c (stops ++ past))
      by true = ap (λ (l : List Begun). l ++ begun_of (client_entries c (stops ++ past))) (none_begun e.what are.0)
      by false = refl

pub recovers : (start : Start) (store : Store) (script : Script) (past : List Entry) (images : List (List ℕ)) → length images ≡ start_nodes start → BeginsInOrder script past → IsStopped start store past images → Recovers script store (said_by past) (times_by past) HoldsStore images
recovers start store script past images count order stopped = record {
  history = pasts_of stopped.placed;
  explains = explained start store script (stopped.stops ++ past) stopped.placed stopped.follow goes_on stopped.one (said_by past) (times_by past) says;
  held = stop_holds start store past images count stopped;
}
  where
    goes_on : BeginsInOrder script (stopped.stops ++ past)
    goes_on c = subst (λ (bs : List Begun). map (λ b. b.op) (reverse bs) ≡ take (length bs) (ops_by script.clients c)) (sym (begun_same past c stopped.stops stopped.are)) (order c)

    says : SaysAs (stopped.stops ++ past) (said_by past) (times_by past)
    says = record {
      says = λ c n. sym (said_same past c n stopped.stops stopped.are);
      begun = λ c n. sym (place_same past c (is_begin n) (begins_none n) stopped.stops stopped.are);
      answered = λ c n. sym (place_same past c (is_answer n) (answers_none n) stopped.stops stopped.are);
    }
