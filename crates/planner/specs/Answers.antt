-- The planner's answers, in the words of the theory of series.
use Rattle.std.specs.Prelude.{◌≡◌, Bool, Ok, Err, IfOk, Result}
use Rattle.feeds.specs.declared.fault.FeedFault.{FeedFault}
use Rattle.lots.specs.declared.lot.Lot.{Lot}
use Rattle.theory.specs.Series as series
use Rattle.theory.specs.Series.{Handed, Refusal, none_proved, lot_waits, window_full, limit_reached, feed_ended, feed_faulty, given_lot, accepted_read, refused_call}
use Rattle.planner.specs.declared.refusals.ReadRefusal.{ReadRefusal}
use Rattle.planner.specs.declared.refusals.ReadRefusal.TheVariants.{LotWaits, WindowFull, LimitReached, FeedEnded, Feed}
use Rattle.planner.specs.declared.refusals.TakeRefusal.{TakeRefusal}
use Rattle.planner.specs.declared.refusals.TakeRefusal.TheVariants.{NoneProved}
use Rattle.planner.specs.declared.calls.Call.{Call}
use Rattle.planner.specs.declared.calls.Call.TheVariants.{Read as CallsRead, Take as CallsTake}
use Rattle.planner.specs.declared.calls.Answer.{Answer}
use Rattle.planner.specs.declared.calls.Answer.TheVariants.{Read as OfRead, Take as OfTake}
use Rattle.planner.specs.declared.calls.Entry.{Entry}
use Rattle.lots.specs.declared.lot.LotKind.TheVariants.{Frozen}

-- a lot as it was handed out, with its evidence beside it
abbrev pub handed_lot : Lot → Handed
handed_lot y = record { lot = record { from = y.from; through = y.through; amount = y.amount; costs = y.cost }; evidence = y.evidence }

-- why a read was refused
abbrev pub read_refusal : ReadRefusal → Refusal FeedFault
read_refusal LotWaits = lot_waits
read_refusal WindowFull = window_full
read_refusal LimitReached = limit_reached
read_refusal FeedEnded = feed_ended
read_refusal (Feed f) = feed_faulty f

-- why a take was refused
abbrev pub take_refusal : TakeRefusal → Refusal FeedFault
take_refusal NoneProved = none_proved

-- what a read answered
abbrev pub read_answer : Result Bool ReadRefusal → series.Answer FeedFault
read_answer (Ok proved) = accepted_read proved
read_answer (Err r) = refused_call (read_refusal r)

-- what a take answered
abbrev pub take_answer : Result Lot TakeRefusal → series.Answer FeedFault
take_answer (Ok y) = given_lot (handed_lot y)
take_answer (Err r) = refused_call (take_refusal r)

-- a call, as the theory has it
abbrev pub call_of : Call → series.Call
call_of CallsRead = series.read_call
call_of CallsTake = series.take_call

-- an answer, as the theory has it
abbrev pub answer_of : Answer → series.Answer FeedFault
answer_of (OfRead result) = read_answer result
answer_of (OfTake result) = take_answer result

-- a call with its answer, as the theory has it
abbrev pub entry_of : Entry → series.Entry FeedFault
entry_of e = record { call = call_of e.call; answer = answer_of e.answer }

-- a lot that an answer hands out is frozen
abbrev pub HandsOutFrozen : Answer → Type 0
HandsOutFrozen (OfRead result) = Unit {0}
HandsOutFrozen (OfTake result) = IfOk result (λ y. y.kind ≡ Frozen)
