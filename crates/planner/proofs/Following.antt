-- What a planner's calls are due after a series, told from its rows and its feed.
use Rattle.std.proofs.Common.{◌≡◌, ℕ, suc, ◌-◌, ◌<◌, ◌≤◌, Bool, true, false, leb, List, [], ◌∷◌, ◌++◌, length, get_or, drop, is_some, Some, None, Option, sym, refl, ap, ap₂, ◌∙◌, subst, subst₂, arith}
use Rattle.std.specs.Option.{option_map}
use Rattle.std.proofs.lemmas.List.{append-nil, length_push}
use Rattle.std.proofs.lemmas.Bool.{le-leb, lt-leb, cond-true, cond-false}
use Rattle.feeds.specs.Feeding.{others}
use Rattle.feeds.specs.declared.fault.FeedFault.{FeedFault}
use Rattle.feeds.specs.Forecasts.{Forecast}
use Rattle.theory.specs.Endings.{Ending, finished_feed, faulty_feed}
use Rattle.theory.specs.Recursion.{Case, LawfulCosts, Lot}
use Rattle.theory.specs.Regeneration.{proves, end_of}
use Rattle.theory.specs.Series.{Call, read_call, Handed, Refusal, lot_waits, window_full, limit_reached, feed_ended, feed_faulty, none_proved, Answer, accepted_read, refused_call, Entry, read_by, given_by, periods_read, taken, lots, base, due_read, due_at, due_answer, told}
use Rattle.theory.proofs.Series.{ran_push, read_push, taken_push}
use Rattle.planner.specs.declared.rows.row.Span.{Span}
use Rattle.planner.specs.declared.refusals.TakeRefusal.{TakeRefusal}
use Rattle.planner.specs.declared.refusals.TakeRefusal.TheVariants.{NoneProved}
use Rattle.planner.specs.Answers.{take_refusal}
use Rattle.planner.specs.Describing.{Window, reading, Describes, Grown}
use Rattle.planner.specs.Lots.{span_of}
use Rattle.planner.specs.Proving.{TellsProved}
use Rattle.planner.specs.Standing.{Charges, case_at}
use Rattle.planner.specs.Tracking.{Outlook, Tracks, Leads, beyond}
use Rattle.planner.specs.Windows.{empty}
use Rattle.theory.proofs.Laws.{last_zero}
use Rattle.planner.proofs.Proven.{unproved_idle}
use Rattle.planner.proofs.Steps.{Meets}
use Rattle.planner.proofs.Growth.{grown_describes}
use Rattle.planner.proofs.Feeding.{never, next_demand, none_left}

-- what a call is due after a series
abbrev pub due_after : Charges → Forecast → List (Entry FeedFault) → Call → Answer FeedFault
due_after c all es call = due_answer c.K c.V all.demands all.ending es call

-- a span that is there is that of a lot that is there
pub lot_behind : (o : Option Lot) (s : Span) → Some s ≡ option_map span_of o → (y : Lot) × (o ≡ Some y) × (s ≡ span_of y)
lot_behind None s e = absurd (never (cc))
lot_behind (Some y) s e = (y, refl, cc)

pub none_behind : (o : Option Lot) → None ≡ option_map span_of o → o ≡ None
none_behind None e = refl
none_behind (Some y) e = absurd (never (cc))

pub some_behind : (o : Option Lot) (p : Option Span) → p ≡ option_map span_of o → is_some p ≡ is_some o
some_behind None p e = ap is_some e
some_behind (Some y) p e = ap is_some e

module _ (c : Charges) (all : Forecast) (es : List (Entry FeedFault)) (o : Outlook) (tr : Tracks c all es o) where
  -- what the rows prove is what the series proves
  pub proves_here : proves (case_at c all) o.window.base (reading o.window) ≡ proves (case_at c all) (base es) (periods_read es)
  proves_here = ap (λ b. proves (case_at c all) b (reading o.window)) tr.since ∙ ap (proves (case_at c all) (base es)) tr.read

  pub proved_here : (p : Option Span) → TellsProved o.window p → p ≡ option_map span_of (proves (case_at c all) (base es) (periods_read es))
  proved_here p h = h (case_at c all) tr.describes ∙ ap (option_map span_of) proves_here

  over_base : periods_read es - base es ≡ length o.window.rows
  over_base = omega (arith, tr.read, tr.since)

  -- a refused call leaves everything
  pub stays : (call : Call) (r : Refusal FeedFault) → refused_call r ≡ due_after c all es call →
      Tracks c all (es ++ (record { call = call; answer = refused_call r } ∷ [])) o
  unfolding read_by given_by
  stays call r is =
      let e : Entry FeedFault = record { call = call; answer = refused_call r } in
      let same : periods_read (es ++ (e ∷ [])) ≡ periods_read es = omega (arith, read_push es e) in
      let kept : taken (es ++ (e ∷ [])) ≡ taken es = taken_push es e ∙ append-nil (taken es) in
      record {
        ran = ran_push c.K c.V all.demands all.ending es e tr.ran is;
        read = tr.read ∙ sym same;
        since = tr.since ∙ sym (ap (λ (hs : List Handed). end_of 0 (lots hs)) kept);
        describes = tr.describes;
        within = omega (arith, tr.within);
        left = tr.left ∙ ap (λ k. beyond k all) (sym same);
      }

  -- the same of an answer that means the refusal, and of a feed that tells what it told
  pub stays_so : (call : Call) (r : Refusal FeedFault) (a : Answer FeedFault) (o' : Outlook) → a ≡ refused_call r → o' ≡ o →
      refused_call r ≡ due_after c all es call → Tracks c all (es ++ (record { call = call; answer = a } ∷ [])) o'
  stays_so call r a o' means same is =
      subst₂ (λ x l. Tracks c all (es ++ (record { call = call; answer = x } ∷ [])) l) (sym means) (sym same) (stays call r is)

  pub waits : (s : Span) → TellsProved o.window (Some s) → refused_call lot_waits ≡ due_after c all es read_call
  unfolding due_at due_read
  waits s h =
      let y = lot_behind _ s (proved_here (Some s) h) in
      sym (ap (λ p. due_read (length all.demands) all.ending (periods_read es) (base es) p (proves (case_at c all) (base es) (suc (periods_read es)))) y.1)

  -- what a read is due where nothing is proved
  unproved : TellsProved o.window None → (a : Answer FeedFault) →
      a ≡ due_read (length all.demands) all.ending (periods_read es) (base es) None (proves (case_at c all) (base es) (suc (periods_read es))) →
      a ≡ due_after c all es read_call
  unfolding due_at
  unproved h a is =
      is ∙ sym (ap (λ p. due_read (length all.demands) all.ending (periods_read es) (base es) p (proves (case_at c all) (base es) (suc (periods_read es)))) (none_behind _ (proved_here None h)))

  pub full : TellsProved o.window None → 256 ≤ length o.window.rows → refused_call window_full ≡ due_after c all es read_call
  unfolding due_read
  full h l = unproved h _ (sym (cond-true (leb 256 (periods_read es - base es)) _ _ (le-leb 256 (periods_read es - base es) (omega (arith, over_base)))))

  open_window : length o.window.rows < 256 → leb 256 (periods_read es - base es) ≡ false
  open_window l = lt-leb 256 (periods_read es - base es) (omega (arith, over_base))

  pub limit : TellsProved o.window None → length o.window.rows < 256 → 10000 ≤ reading o.window → refused_call limit_reached ≡ due_after c all es read_call
  unfolding due_read
  limit h l m =
      unproved h _ (sym (cond-false (leb 256 (periods_read es - base es)) _ _ (open_window l) ∙ cond-true (leb 10000 (periods_read es)) _ _ (le-leb 10000 (periods_read es) (omega (arith, tr.read)))))

  under_limit : reading o.window < 10000 → leb 10000 (periods_read es) ≡ false
  under_limit l = lt-leb 10000 (periods_read es) (omega (arith, tr.read))

  over_end : TellsProved o.window None → length o.window.rows < 256 → reading o.window < 10000 → o.left.demands ≡ [] →
      refused_call (told o.left.ending) ≡ due_after c all es read_call
  unfolding due_read
  over_end h l m none =
      let left : o.left.demands ≡ drop (periods_read es) all.demands = ap (λ f. f.demands) tr.left in
      let whole : periods_read es ≡ length all.demands = none_left all.demands o.left.demands (periods_read es) tr.within left none in
      ap (λ f. refused_call (told f.ending)) tr.left
      ∙ unproved h _ (sym (cond-false (leb 256 (periods_read es - base es)) _ _ (open_window l) ∙ (cond-false (leb 10000 (periods_read es)) _ _ (under_limit m)
      ∙ cond-true (leb (length all.demands) (periods_read es)) _ _ (le-leb (length all.demands) (periods_read es) (omega arith)))))

  pub ended : TellsProved o.window None → length o.window.rows < 256 → reading o.window < 10000 → o.left.demands ≡ [] → o.left.ending ≡ finished_feed →
      refused_call feed_ended ≡ due_after c all es read_call
  unfolding told
  ended h l m none is = ap (λ x. refused_call (told x)) (sym is) ∙ over_end h l m none

  pub faulty : TellsProved o.window None → length o.window.rows < 256 → reading o.window < 10000 → o.left.demands ≡ [] → (f : FeedFault) → o.left.ending ≡ faulty_feed f →
      refused_call (feed_faulty f) ≡ due_after c all es read_call
  unfolding told
  faulty h l m none f is = ap (λ x. refused_call (told x)) (sym is) ∙ over_end h l m none

  -- a read that is accepted
  pub goes_on : LawfulCosts c.K c.V → TellsProved o.window None → length o.window.rows < 256 → reading o.window < 10000 → (d : ℕ) (o' : Outlook) (p : Option Span) (now-proved : Bool) →
      now-proved ≡ is_some p → o.left.demands ≡ d ∷ others o.left.demands → o'.left.demands ≡ others o.left.demands → o'.left.ending ≡ o.left.ending →
      Grown c.K c.V d o.window o'.window → TellsProved o'.window p →
      Tracks c all (es ++ (record { call = read_call; answer = accepted_read now-proved } ∷ [])) o'
  unfolding read_by given_by due_read
  goes_on lawful h l m d o' p now-proved tells some others-left same g now =
      let k : Case = case_at c all in
      let t : ℕ = periods_read es in
      let e : Entry FeedFault = record { call = read_call; answer = accepted_read now-proved } in
      let next = next_demand all.demands o.left.demands t d (ap (λ f. f.demands) tr.left) some in
      let at : suc (reading o.window) - 1 ≡ t = omega (arith, tr.read) in
      let meets : Meets k (reading o.window) c.K c.V d = record { setup = refl; price = λ _. refl; demand = ap (λ i. get_or all.demands i 0) at ∙ next.0 } in
      let described : Describes k o'.window = grown_describes k lawful o.window o'.window c.K c.V d tr.describes meets g in
      let read_on : reading o'.window ≡ suc t = omega (arith, g.base, ap length g.rows, length_push o.window.rows g.row, tr.read) in
      let proved_now : p ≡ option_map span_of (proves k (base es) (suc t)) =
      now k described ∙ ap (λ b. option_map span_of (proves k b (reading o'.window))) (g.base ∙ tr.since) ∙ ap (λ i. option_map span_of (proves k (base es) i)) read_on in
      let due : accepted_read now-proved ≡ due_after c all es read_call =
      ap accepted_read (tells ∙ some_behind _ p proved_now)
      ∙ unproved h _ (sym (cond-false (leb 256 (t - base es)) _ _ (open_window l) ∙ (cond-false (leb 10000 t) _ _ (under_limit m)
      ∙ cond-false (leb (length all.demands) t) _ _ (lt-leb (length all.demands) t next.1)))) in
      let counted : periods_read (es ++ (e ∷ [])) ≡ suc t = omega (arith, read_push es e) in
      let kept : taken (es ++ (e ∷ [])) ≡ taken es = taken_push es e ∙ append-nil (taken es) in
      let still : o'.left.demands ≡ drop (periods_read (es ++ (e ∷ []))) all.demands = others-left ∙ next.2 ∙ ap (λ i. drop i all.demands) (sym counted) in
      let ending : o'.left.ending ≡ all.ending = same ∙ ap (λ f. f.ending) tr.left in
      record {
        ran = ran_push c.K c.V all.demands all.ending es e tr.ran due;
        read = read_on ∙ sym counted;
        since = g.base ∙ tr.since ∙ sym (ap (λ (hs : List Handed). end_of 0 (lots hs)) kept);
        describes = described;
        within = omega (arith, next.1);
        left = ap₂ (λ (ds : List ℕ) (end : Ending FeedFault). record { demands = ds; ending = end }) still ending;
      }

-- nothing is proved before anything is read
pub empty_proves : (w : Window) → w ≡ empty → TellsProved w None
empty_proves w e = subst (λ v. TellsProved v None) (sym e) (λ c h. unproved_idle c 0 0 (last_zero c))

-- a test on what is proved
pub some_told : (w : Window) (p : Option Span) → is_some p ≡ true → TellsProved w p → (s : Span) × TellsProved w (Some s)
some_told w None e h = absurd (never (cc))
some_told w (Some s) e h = (s, h)

pub none_told : (w : Window) (p : Option Span) → is_some p ≡ false → TellsProved w p → TellsProved w None
none_told w None e h = h
none_told w (Some s) e h = absurd (never (cc))

-- a window that grew has read one period more
pub grown_reads : {K : ℕ → ℕ} {V : ℕ → ℕ → ℕ} {d : ℕ} (w v : Window) → Grown K V d w v → reading v ≡ suc (reading w)
grown_reads w v g = omega (arith, g.base, ap length g.rows, length_push w.rows g.row)

-- charges that are the same, and an answer that means the same
pub leads_as : (c c' : Charges) (o o' : Outlook) (call : Call) (a b : Answer FeedFault) → c ≡ c' → a ≡ b → Leads c o call a o' → Leads c' o call b o'
leads_as c c' o o' call a b same means f = subst₂ (λ k x. Leads k o call x o') same means f

-- a take has one refusal
pub take_refused : (r : TakeRefusal) → refused_call (take_refusal r) ≡ refused_call none_proved
take_refused NoneProved = refl
