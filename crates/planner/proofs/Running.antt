-- A series of calls, made one by one and then emptied, obeys the law of whole runs.
use Rattle.std.proofs.Common.{◌≡◌, ℕ, ◌+◌, ◌<◌, List, [], ◌∷◌, ◌++◌, map, length, get_or, take, sym, refl, ap, ◌∙◌, subst, subst₂, arith}
use Rattle.std.specs.List.{AllByRecursion}
use Rattle.std.proofs.slice.Lists.{all_by_recursion_push}
use Rattle.std.proofs.lemmas.List.{map_push, take_more}
use Rattle.feeds.specs.declared.fault.FeedFault.{FeedFault}
use Rattle.feeds.specs.Forecasts.{Forecast}
use Rattle.lots.specs.declared.lot.Lot.{Lot}
use Rattle.theory.specs.Recursion.{LawfulCosts}
use Rattle.theory.specs.Series as series
use Rattle.theory.specs.Series.{periods_read, base, taken, Rests}
use Rattle.theory.specs.Regeneration.{end_of}
use Rattle.theory.specs.Runs.{WholeRun}
use Rattle.theory.proofs.Series.{ran_none}
use Rattle.theory.proofs.Runs.{whole_run}
use Rattle.planner.specs.declared.calls.Call.{Call}
use Rattle.planner.specs.declared.calls.Answer.{Answer}
use Rattle.planner.specs.declared.calls.Entry.{Entry}
use Rattle.planner.specs.Answers.{call_of, answer_of, entry_of, handed_lot, HandsOutFrozen}
use Rattle.planner.specs.Resting.{EmptiesTo}
use Rattle.planner.specs.Standing.{Charges, case_at}
use Rattle.planner.specs.Tracking.{Outlook, Tracks, Leads}
use Rattle.planner.specs.Windows.{empty}
use Rattle.planner.proofs.Growth.{empty_describes}

-- the first i calls were made, and the planner has followed them
pub record Running (c : Charges) (all : Forecast) (calls : List Call) (i : ℕ) (entries : List Entry) (o : Outlook) : Type 0 where
  pub made : map (λ e. e.call) entries ≡ take i calls
  pub tracks : Tracks c all (map entry_of entries) o
  pub frozen : AllByRecursion (λ e. HandsOutFrozen e.answer) entries

-- before any call
pub tracks_none : (c : Charges) (all : Forecast) → Tracks c all [] (record { window = empty; left = all })
unfolding end_of taken periods_read
tracks_none c all = record {
  ran = ran_none c.K c.V all.demands all.ending;
  read = refl;
  since = refl;
  describes = empty_describes (case_at c all);
  within = omega arith;
  left = refl;
}

pub running_none : (c : Charges) (all : Forecast) (calls : List Call) (entries : List Entry) → entries ≡ [] → Running c all calls 0 entries (record { window = empty; left = all })
running_none c all calls entries none =
    subst (λ (es : List Entry). Running c all calls 0 es (record { window = empty; left = all })) (sym none)
    (record { made = refl; tracks = tracks_none c all; frozen = tt })

pub running_more : (c : Charges) (all : Forecast) (calls : List Call) (i : ℕ) (entries new : List Entry) (o o' : Outlook) (call : Call) (answer : Answer) →
    Running c all calls i entries o → i < length calls → call ≡ get_or calls i call →
    Leads c o (call_of call) (answer_of answer) o' → HandsOutFrozen answer → new ≡ entries ++ (record { call = call; answer = answer } ∷ []) →
    Running c all calls (i + 1) new o'
running_more c all calls i entries new o o' call answer r within read f frozen listed =
    let e : Entry = record { call = call; answer = answer } in
    subst (λ (es : List Entry). Running c all calls (i + 1) es o') (sym listed)
    (record {
      made = map_push (λ x. x.call) entries e ∙ ap (λ (ks : List Call). ks ++ (call ∷ [])) r.made ∙ ap (λ k. take i calls ++ (k ∷ [])) read ∙ sym (take_more calls i call within);
      tracks = subst (λ (es : List (series.Entry FeedFault)). Tracks c all es o') (sym (map_push entry_of entries e)) (f all (map entry_of entries) r.tracks);
      frozen = all_by_recursion_push _ entries e r.frozen frozen;
    })

-- the whole series, and the lots that emptying handed out behind it
pub running_all : (c : Charges) → LawfulCosts c.K c.V → (all : Forecast) (calls : List Call) (i : ℕ) (entries : List Entry) (o : Outlook) (closing : List Lot) →
    Running c all calls i entries o → EmptiesTo o.window o.window.base closing →
    WholeRun c.K c.V all.demands all.ending (map entry_of entries) (map handed_lot closing)
running_all c lawful all calls i entries o closing r rests =
    let tr = r.tracks in
    let rest : Rests (case_at c all) (periods_read (map entry_of entries)) (base (map entry_of entries)) (map handed_lot closing) =
    subst₂ (λ t b. Rests (case_at c all) t b (map handed_lot closing)) tr.read tr.since (rests (case_at c all) tr.describes) in
    whole_run FeedFault c.K c.V all.demands all.ending (map entry_of entries) lawful tr.ran (map handed_lot closing) rest
