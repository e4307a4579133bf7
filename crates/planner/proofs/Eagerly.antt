-- Taking every proved lot before the next read is eager planning.
use Rattle.std.proofs.Common.{◌≡◌, ℕ, suc, ◌+◌, ◌-◌, ◌<◌, ◌≤◌, Bool, List, [], ◌∷◌, ◌++◌, map, length, Some, None, Option, sym, refl, ap, ◌∙◌, ap₂, subst, append_assoc, append-nil, zero-add, arith}
use Rattle.std.proofs.lemmas.List.{map_push, length_push}
use Rattle.feeds.specs.declared.fault.FeedFault.{FeedFault}
use Rattle.feeds.specs.Forecasts.{Forecast}
use Rattle.lots.specs.Lots.{Terms, terms}
use Rattle.lots.specs.declared.lot.Lot as code
use Rattle.lots.specs.declared.lot.LotKind.TheVariants.{Frozen}
use Rattle.theory.specs.Eager.{Outcome, after_read, eager_in}
use Rattle.theory.specs.Recursion.{Lot}
use Rattle.theory.specs.Regeneration.{proves, end_of}
use Rattle.theory.specs.Series.{Call, read_call, take_call, Handed, Refusal, none_proved, Answer, given_lot, accepted_read, refused_call, Entry, given_by, read_by, periods_read, taken, base, due_take, due_at}
use Rattle.theory.proofs.Eagerly.{with_lots, still, step_take, step_read}
use Rattle.theory.proofs.Series.{taken_push, read_push}
use Rattle.planner.specs.declared.refusals.ReadRefusal.{ReadRefusal}
use Rattle.planner.specs.Answers.{handed_lot, read_refusal}
use Rattle.planner.specs.Freezing.{FrozenAs}
use Rattle.planner.specs.Describing.{reading, Describes}
use Rattle.planner.specs.Rolling.{frozen_terms}
use Rattle.planner.specs.Standing.{Charges, case_at}
use Rattle.planner.specs.Tracking.{Outlook, Tracks, Leads}
use Rattle.planner.proofs.Feeding.{never}
use Rattle.planner.proofs.Following.{due_after}

-- where the series came to so far, as the lots in the vector, is how eager planning begins
pub record Eagerly (c : Charges) (all : Forecast) (before now : List code.Lot) (o : Outlook) : Type 0 where
  pub es : List (Entry FeedFault)
  pub tracks : Tracks c all es o
  pub listed : map terms now ≡ map terms before ++ map frozen_terms (taken es)
  pub begins : (k : ℕ) → eager_in (case_at c all) (length all.demands) all.ending (length es + k) 0 0
      ≡ with_lots (taken es) (eager_in (case_at c all) (length all.demands) all.ending k (periods_read es) (base es))
  pub spent : length es + still (reading o.window) o.window.base ≤ 20000

-- the last answer of a series that was run is the one due
last_due : (c : Charges) (all : Forecast) (es : List (Entry FeedFault)) (call : Call) (a : Answer FeedFault) (o : Outlook) →
    Tracks c all (es ++ (record { call = call; answer = a } ∷ [])) o → a ≡ due_after c all es call
last_due c all es call a o tr = tr.ran es [] (record { call = call; answer = a }) refl

-- what an answer says of what is proved
given_proved : (t : ℕ) (o : Option Lot) (h : Handed) → ◌≡◌ {A = Answer FeedFault} (given_lot h) (due_take t o) → (o ≡ Some h.lot) × (h.evidence ≡ t)
unfolding due_take
given_proved t None h e = absurd (never (cc))
given_proved t (Some y) h e = let same : h ≡ record { lot = y; evidence = t } = cc in (ap (λ x. Some x.lot) (sym same), ap (λ x. x.evidence) same)

none_proved_lem : (t : ℕ) (o : Option Lot) → ◌≡◌ {A = Answer FeedFault} (refused_call none_proved) (due_take t o) → o ≡ None
unfolding due_take
none_proved_lem t None e = refl
none_proved_lem t (Some y) e = absurd (never (cc))

module _ (c : Charges) (all : Forecast) where
  -- so many calls of eager planning, with t periods read and the base b
  abbrev go : ℕ → ℕ → ℕ → Outcome FeedFault
  go k t b = eager_in (case_at c all) (length all.demands) all.ending k t b

  pub eager_start : (before : List code.Lot) (o : Outlook) → Tracks c all [] o → Eagerly c all before before o
  unfolding periods_read taken end_of
  eager_start before o tr = record {
    es = [];
    tracks = tr;
    listed = sym (append-nil (map terms before));
    begins = λ k. ap (λ n. go n 0 0) (zero-add k);
    spent = omega (arith, tr.read, tr.since);
  }

  module _ (before now : List code.Lot) (o : Outlook) (e : Eagerly c all before now o) where
    -- one call more of the series is one more of eager planning
    begins_more : (entry : Entry FeedFault) (hs : List Handed) (t b : ℕ) → taken (e.es ++ (entry ∷ [])) ≡ taken e.es ++ hs → periods_read (e.es ++ (entry ∷ [])) ≡ t →
        base (e.es ++ (entry ∷ [])) ≡ b → ((k : ℕ) → go (suc k) (periods_read e.es) (base e.es) ≡ with_lots hs (go k t b)) →
        (k : ℕ) → go (length (e.es ++ (entry ∷ [])) + k) 0 0
        ≡ with_lots (taken (e.es ++ (entry ∷ []))) (go k (periods_read (e.es ++ (entry ∷ []))) (base (e.es ++ (entry ∷ []))))
    begins_more entry hs t b took read based step k =
        let more : List (Entry FeedFault) = e.es ++ (entry ∷ []) in
        let longer : length more + k ≡ length e.es + suc k = omega (arith, length_push e.es entry) in
        let x : Outcome FeedFault = go k t b in
        ap (λ n. go n 0 0) longer ∙ e.begins (suc k) ∙ ap (with_lots (taken e.es)) (step k)
        ∙ ap (λ (ys : List Handed). record { lots = ys; read = x.read; base = x.base; stop = x.stop }) (sym (append_assoc (taken e.es) hs x.lots))
        ∙ ap (λ (ys : List Handed). with_lots ys x) (sym took)
        ∙ ap₂ (λ n m. with_lots (taken more) (go k n m)) (sym read) (sym based)

    -- a lot more
    pub eager_take : (y : code.Lot) (new : List code.Lot) (o' : Outlook) →
        Leads c o take_call (given_lot (handed_lot y)) o' → y.kind ≡ Frozen → new ≡ now ++ (y ∷ []) →
        o.window.base < y.through → o'.window.base ≡ y.through → reading o'.window ≡ reading o.window → Eagerly c all before new o'
    unfolding given_by read_by due_at
    eager_take y new o' f frozen listed onward moved same =
        let entry : Entry FeedFault = record { call = take_call; answer = given_lot (handed_lot y) } in
        let tr = f all e.es e.tracks in
        let t : ℕ = periods_read e.es in
        let due = given_proved t (proves (case_at c all) (base e.es) t) (handed_lot y) (last_due c all e.es take_call (given_lot (handed_lot y)) o' tr) in
        let took : taken (e.es ++ (entry ∷ [])) ≡ taken e.es ++ (handed_lot y ∷ []) = taken_push e.es entry in
        let read : periods_read (e.es ++ (entry ∷ [])) ≡ t = omega (arith, read_push e.es entry) in
        let based : base (e.es ++ (entry ∷ [])) ≡ y.through = sym tr.since ∙ moved in
        let is_frozen : terms y ≡ frozen_terms (handed_lot y) =
        λ i. record { kind = frozen i; from = y.from; through = y.through; amount = y.amount; cost = y.cost; evidence = y.evidence } in
        record {
          es = e.es ++ (entry ∷ []);
          tracks = tr;
          listed = ap (map terms) listed ∙ map_push terms now y ∙ ap (λ (xs : List Terms). xs ++ (terms y ∷ [])) e.listed
              ∙ append_assoc (map terms before) (map frozen_terms (taken e.es)) (terms y ∷ [])
              ∙ ap (λ x. map terms before ++ (map frozen_terms (taken e.es) ++ (x ∷ []))) is_frozen
              ∙ ap (λ (xs : List Terms). map terms before ++ xs) (sym (map_push frozen_terms (taken e.es) (handed_lot y)))
              ∙ ap (λ (hs : List Handed). map terms before ++ map frozen_terms hs) (sym took);
          begins = begins_more entry (handed_lot y ∷ []) t y.through took read based
              (λ k. step_take c.K c.V all.demands all.ending k t (base e.es) (handed_lot y) due.0 due.1);
          spent = omega (arith, length_push e.es entry, e.spent);
        }

    -- nothing is proved where a take is refused
    pub eager_none : (o' : Outlook) → Leads c o take_call (refused_call none_proved) o' → proves (case_at c all) (base e.es) (periods_read e.es) ≡ None
    unfolding due_at
    eager_none o' f = none_proved_lem _ _ (last_due c all e.es take_call (refused_call none_proved) o' (f all e.es e.tracks))

    -- a period more
    pub eager_read : proves (case_at c all) (base e.es) (periods_read e.es) ≡ None → (proved : Bool) (o' : Outlook) →
        Leads c o read_call (accepted_read proved) o' → o'.window.base ≡ o.window.base → reading o'.window ≡ suc (reading o.window) → reading o'.window ≤ 10000 →
        Eagerly c all before now o'
    unfolding given_by read_by after_read
    eager_read none proved o' f same more within =
        let entry : Entry FeedFault = record { call = read_call; answer = accepted_read proved } in
        let tr = f all e.es e.tracks in
        let t : ℕ = periods_read e.es in
        let took : taken (e.es ++ (entry ∷ [])) ≡ taken e.es = taken_push e.es entry ∙ append-nil (taken e.es) in
        let read : periods_read (e.es ++ (entry ∷ [])) ≡ suc t = omega (arith, read_push e.es entry) in
        let based : base (e.es ++ (entry ∷ [])) ≡ base e.es = sym tr.since ∙ same ∙ e.tracks.since in
        record {
          es = e.es ++ (entry ∷ []);
          tracks = tr;
          listed = e.listed ∙ ap (λ (hs : List Handed). map terms before ++ map frozen_terms hs) (sym took);
          begins = begins_more entry [] (suc t) (base e.es) (taken_push e.es entry) read based
              (λ k. step_read c.K c.V all.demands all.ending k t (base e.es) (accepted_read proved) none (last_due c all e.es read_call (accepted_read proved) o' tr));
          spent = omega (arith, length_push e.es entry, e.spent);
        }

    -- no period more
    pub eager_stop : proves (case_at c all) (base e.es) (periods_read e.es) ≡ None → (refusal : ReadRefusal) (o' : Outlook) →
        Leads c o read_call (refused_call (read_refusal refusal)) o' → o'.window ≡ o.window → FrozenAs c all before refusal now o'.window
    unfolding after_read
    eager_stop none refusal o' f same =
        let tr = f all e.es e.tracks in
        let t : ℕ = periods_read e.es in
        let r : Refusal FeedFault = read_refusal refusal in
        let k : ℕ = 20000 - length e.es in
        let enough : 20001 ≡ length e.es + suc k = omega (arith, e.spent) in
        let end-there = ap (λ n. go n 0 0) enough ∙ e.begins (suc k)
        ∙ ap (with_lots (taken e.es)) (step_read c.K c.V all.demands all.ending k t (base e.es) (refused_call r) none (last_due c all e.es read_call (refused_call r) o' tr)) in
        record {
          taken = taken e.es;
          listed = e.listed;
          describes = subst (Describes (case_at c all)) (sym same) e.tracks.describes;
          eagerly = end-there ∙ ap (λ (hs : List Handed). record { lots = hs; read = t; base = base e.es; stop = r }) (append-nil (taken e.es))
              ∙ ap (λ n. record { lots = taken e.es; read = n; base = base e.es; stop = r }) (sym (ap reading same ∙ e.tracks.read))
              ∙ ap (λ b. record { lots = taken e.es; read = reading o'.window; base = b; stop = r }) (sym (ap (λ x. x.base) same ∙ e.tracks.since));
        }
