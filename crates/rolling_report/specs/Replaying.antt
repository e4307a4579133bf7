-- What is printed of a series of calls that is replayed on a forecast.
use Rattle.std.specs.Prelude.{ℕ, ◌+◌, true, false, cond, List, [], ◌∷◌, ◌++◌, map, flat_map, Some, None, Ok, Err, vec_items, codes, Option, Result, Vec, ◌==◌}
use Rattle.std.specs.declared.alloc.Global.{Global}
use Rattle.theory.specs.Endings.{Ending}
use Rattle.theory.specs.Recursion.{case_of, plan}
use Rattle.theory.specs.Regeneration.{after}
use Rattle.theory.specs.Series as series
use Rattle.theory.specs.Series.{none_proved, lot_waits, window_full, limit_reached, feed_ended, feed_faulty, given_lot, accepted_read, refused_call, periods_read, taken, base, go_on}
use Rattle.lots.specs.Lots.{Terms}
use Rattle.lots.specs.declared.lot.LotKind.TheVariants.{Closing}
use Rattle.costs.specs.Constant.{constant_price}
use Rattle.feeds.specs.declared.fault.FeedFault.{FeedFault}
use Rattle.feeds.specs.Forecasts.{Forecast}
use Rattle.feeds.specs.Text.{forecast}
use Rattle.planner.specs.Answers.{call_of}
use Rattle.planner.specs.Lots.{handed}
use Rattle.planner.specs.Refusals.{take_number}
use Rattle.planner.specs.Rolling.{frozen_terms}
use Rattle.planner.specs.declared.calls.Call.{Call}
use Rattle.planner.specs.declared.calls.Call.TheVariants.{Read, Take}
use Rattle.planner.specs.declared.refusals.ReadRefusal.TheVariants.{LotWaits, WindowFull, LimitReached, FeedEnded, Feed}
use Rattle.planner.specs.declared.refusals.TakeRefusal.TheVariants.{NoneProved}
use Rattle.reporting.specs.declared.refusal.Refusal.{Refusal}
use Rattle.reporting.specs.Costing.{Priced, costs_due}
use Rattle.reporting.specs.Lines.{lot_line, total_line, line_of_refusal}
use Rattle.reporting.specs.Planning.{total_cost}
use Rattle.reporting.specs.Printing.{lot_lines}
use Rattle.reporting.specs.Refusals.{read_told, read_place, refusal_number, refusal_place}

-- the call that a letter stands for: r is a read, t a take
abbrev pub call_of_letter : ℕ → Option Call
call_of_letter b = cond (b == 114) (Some Read) (cond (b == 116) (Some Take) None)

-- the calls that letters stand for, the first of them in front
abbrev pub calls_then : Option Call → Option (List Call) → Option (List Call)
calls_then None rest = None
calls_then (Some call) None = None
calls_then (Some call) (Some rest) = Some (call ∷ rest)

-- the calls of a word, if each of its letters stands for one
unfoldable pub calls_of : List ℕ → Option (List Call)
calls_of [] = Some []
calls_of (b ∷ bs) = calls_then (call_of_letter b) (calls_of bs)

-- calls that may be there, as a list
abbrev pub calls_told : Option (Vec Call Global) → Option (List Call)
calls_told None = None
calls_told (Some v) = Some (vec_items v)

-- the line of a refused call
abbrev pub refused_line : series.Refusal FeedFault → List ℕ
refused_line none_proved = line_of_refusal (take_number NoneProved) 0
refused_line lot_waits = line_of_refusal (read_told LotWaits) (read_place LotWaits)
refused_line window_full = line_of_refusal (read_told WindowFull) (read_place WindowFull)
refused_line limit_reached = line_of_refusal (read_told LimitReached) (read_place LimitReached)
refused_line feed_ended = line_of_refusal (read_told FeedEnded) (read_place FeedEnded)
refused_line (feed_faulty f) = line_of_refusal (read_told (Feed f)) (read_place (Feed f))

-- the line of an answer: a lot, whether a lot is proved now, or a refusal
abbrev pub answer_line : series.Answer FeedFault → List ℕ
answer_line (given_lot h) = lot_line (frozen_terms h)
answer_line (accepted_read true) = codes "read yes\n"
answer_line (accepted_read false) = codes "read no\n"
answer_line (refused_call r) = refused_line r

-- what the lot of an answer costs, if it hands out one
abbrev pub answer_cost : series.Answer FeedFault → ℕ
answer_cost (given_lot h) = h.lot.costs
answer_cost (accepted_read proved) = 0
answer_cost (refused_call r) = 0

-- a line for each answer
abbrev pub answer_lines : List (series.Entry FeedFault) → List ℕ
answer_lines es = flat_map (λ e. answer_line e.answer) es

-- a line for each answer and each closing lot, and then the total of all lots
abbrev pub series_lines : List (series.Entry FeedFault) → List Terms → List ℕ
series_lines es closing = answer_lines es ++ (lot_lines closing ++ total_line (total_cost (map frozen_terms (taken es)) + total_cost closing))

-- what is printed of calls at the charges K and the prices V: each call gets the answer due, and the rest of the plan closes
abbrev pub replay_due : (ℕ → ℕ) → (ℕ → ℕ → ℕ) → List ℕ → Ending FeedFault → List series.Call → List ℕ
replay_due K V ds ending calls =
    let es : List (series.Entry FeedFault) = go_on K V ds ending [] calls in
    let t : ℕ = periods_read es in
    series_lines es (map (handed Closing t) (after (base es) (plan (case_of K V ds) t)))

-- the same at the costs of an input's line, or the line of the refusal
abbrev pub replay_at : List Call → Result Priced Refusal → List ℕ
replay_at calls (Err r) = line_of_refusal (refusal_number r) (refusal_place r)
replay_at calls (Ok c) =
    let f : Forecast = forecast 0 0 c.rest in
    replay_due (λ _. c.setup) (constant_price c.unit c.holding) f.demands f.ending (map call_of calls)

-- what is printed of calls that are replayed on an input of costs and a forecast text
unfoldable pub replayed : List Call → List ℕ → List ℕ
replayed calls bs = replay_at calls (costs_due bs)
