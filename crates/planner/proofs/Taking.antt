-- The lot that is proved can be handed out, and the window moved behind it.
use Rattle.std.proofs.Common.{◌≡◌, ℕ, ◌-◌, ◌<◌, ◌≤◌, List, [], ◌∷◌, ◌++◌, length, Some, None, sym, ap, ◌∙◌, subst, arith, length-drop}
use mathlib.Core.Logic.{∥∥₁_elim}
use native.Mathlib.Nat.{ℕ_set}
use native.Mathlib.Bridge.{le_prop}
use Rattle.feeds.specs.declared.fault.FeedFault.{FeedFault}
use Rattle.feeds.specs.Forecasts.{Forecast}
use Rattle.lots.specs.Lots.{Terms, terms}
use Rattle.lots.specs.declared.lot.Lot as code
use Rattle.lots.specs.declared.lot.LotKind.TheVariants.{Frozen}
use Rattle.theory.specs.Recursion.{Case, last, Lot, lot}
use Rattle.theory.specs.Regeneration.{proves, Proved, end_of}
use Rattle.theory.specs.Series.{take_call, Handed, none_proved, given_lot, refused_call, Entry, read_by, given_by, periods_read, taken, lots, base, due_take, due_at}
use Rattle.theory.proofs.Laws.{last_le}
use Rattle.theory.proofs.Kept.{end_push}
use Rattle.theory.proofs.Proving.{next_own, proves_sound, proved_ends}
use Rattle.theory.proofs.Series.{ran_push, read_push, taken_push}
use Rattle.planner.specs.declared.rows.row.Span.{Span}
use Rattle.planner.specs.Answers.{handed_lot}
use Rattle.planner.specs.Describing.{Window, row_after, reading, Describes, Sound, moved_to}
use Rattle.planner.specs.Lots.{span_of, handed, Spans}
use Rattle.planner.specs.Proving.{TellsProved}
use Rattle.planner.specs.Standing.{Charges, case_at}
use Rattle.planner.specs.Tracking.{Outlook, Tracks, beyond}
use Rattle.planner.proofs.Backward.{last_is}
use Rattle.planner.proofs.Following.{due_after, lot_behind, none_behind, proves_here, proved_here}
use Rattle.planner.proofs.Moving.{moved_describes}

-- what a case says of the lot whose span is told
module _ (c : Case) (w : Window) (h : Describes c w) (s : Span) (told : TellsProved w (Some s)) where
  found : (y : Lot) × (proves c w.base (reading w) ≡ Some y) × (s ≡ span_of y)
  found = lot_behind _ s (told c h)

  is_proved : Proved c w.base (reading w) found.0
  is_proved = proves_sound c w.base (reading w) found.0 found.1

  pub starts : w.base < s.from
  starts = subst (λ x. w.base < x.from) (sym found.2) (proved_ends c _ _ _ is_proved).0

  pub goes_forward : s.from ≤ s.through
  goes_forward = subst (λ x. x.from ≤ x.through) (sym found.2) (proved_ends c _ _ _ is_proved).1

  pub ends_before : s.through < reading w
  ends_before = subst (λ x. x.through < reading w) (sym found.2) (proved_ends c _ _ _ is_proved).2

  set_up : last c s.through ≡ s.from
  set_up = subst (λ x. last c x.through ≡ x.from) (sym found.2) (proved_ends c _ _ _ is_proved).3.set_up

  pub ends_row : (row_after w (s.through - w.base)).last ≡ s.from
  ends_row = last_is c w h s.through (omega (arith, starts, goes_forward)) (omega (arith, ends_before)) ∙ set_up

  pub before_last : s.through ≤ last c (reading w) - 1
  before_last =
      let at = is_proved.all (last c (reading w) - 1) (omega arith) (omega (arith, is_proved.some, within)) in
      subst (λ x. x.through ≤ last c (reading w) - 1) (sym found.2) (next_own c _ _ _ at).2
    where
      within : last c (reading w) ≤ reading w
      within = last_le c (reading w)

  -- so the lot that is proved is the recursion's own over the span
  pub proved_lot : proves c w.base (reading w) ≡ Some (lot c s.from s.through)
  proved_lot = found.1 ∙ ap Some ((proved_ends c _ _ _ is_proved).3.is_lot ∙ ap (λ x. lot c x.from x.through) (sym found.2))

-- so of any window that is right about some case
module _ (w : Window) (sound : ∥ Sound w ∥₁) (s : Span) (told : TellsProved w (Some s)) where
  pub proved_spans : Spans w w.base s
  proved_spans = record {
    later = ∥∥₁_elim sound le_prop (λ x. starts x.case w x.describes s told);
    read = ∥∥₁_elim sound le_prop (λ x. omega (arith, ends_before x.case w x.describes s told));
    ends = ∥∥₁_elim sound (ℕ_set _ _) (λ x. ends_row x.case w x.describes s told);
  }

  pub proved_settled : s.through < reading w
  proved_settled = ∥∥₁_elim sound le_prop (λ x. ends_before x.case w x.describes s told)

  pub proved_onward : w.base ≤ s.through
  proved_onward = ∥∥₁_elim sound le_prop (λ x. omega (arith, starts x.case w x.describes s told, goes_forward x.case w x.describes s told))

  pub proved_strictly : w.base < s.through
  proved_strictly = ∥∥₁_elim sound le_prop (λ x. omega (arith, starts x.case w x.describes s told, goes_forward x.case w x.describes s told))

  -- as many periods were read after the base has moved
  pub moved_reads : (v : Window) → v ≡ moved_to s.through w → reading v ≡ reading w
  moved_reads v moved = ap reading moved ∙ omega (arith, length-drop (s.through - w.base) w.rows, proved_onward, proved_settled)

  pub proved_inside : s.through ≤ (row_after w (length w.rows)).last - 1
  proved_inside = ∥∥₁_elim sound le_prop (λ x.
      omega (arith, before_last x.case w x.describes s told, (x.describes.told (length w.rows) (omega arith)).last))

-- a lot's numbers as the theory has them
abbrev pub as_handed : Terms → Handed
as_handed t = record { lot = record { from = t.from; through = t.through; amount = t.amount; costs = t.cost }; evidence = t.evidence }

module _ (c : Charges) (all : Forecast) (es : List (Entry FeedFault)) (o : Outlook) (tr : Tracks c all es o) where
  pub untaken : TellsProved o.window None → refused_call none_proved ≡ due_after c all es take_call
  unfolding due_at due_take
  untaken h = sym (ap (due_take (periods_read es)) (none_behind _ (proved_here c all es o tr None h)))

  pub takes : (s : Span) → TellsProved o.window (Some s) → (y : code.Lot) →
      ((k : Case) → Describes k o.window → terms y ≡ handed Frozen (reading o.window) (lot k s.from s.through)) → (v : Window) → v ≡ moved_to s.through o.window →
      Tracks c all (es ++ (record { call = take_call; answer = given_lot (handed_lot y) } ∷ [])) (record o { window = v })
  unfolding due_at due_take read_by given_by lot
  takes s told y is v moved =
      let k : Case = case_at c all in
      let w : Window = o.window in
      let t : ℕ = periods_read es in
      let z : Lot = lot k s.from s.through in
      let h : Describes k w = tr.describes in
      let e : Entry FeedFault = record { call = take_call; answer = given_lot (handed_lot y) } in
      let given : handed_lot y ≡ record { lot = z; evidence = t } =
      ap as_handed (is k h) ∙ ap (λ n. record { lot = z; evidence = n }) tr.read in
      let there : proves k (base es) t ≡ Some z = sym (proves_here c all es o tr) ∙ proved_lot k w h s told in
      let due : given_lot (handed_lot y) ≡ due_after c all es take_call = ap given_lot given ∙ sym (ap (due_take t) there) in
      let same : periods_read (es ++ (e ∷ [])) ≡ t = omega (arith, read_push es e) in
      let kept : taken (es ++ (e ∷ [])) ≡ taken es ++ (handed_lot y ∷ []) = taken_push es e in
      let onward : w.base ≤ s.through = omega (arith, starts k w h s told, goes_forward k w h s told) in
      let still : reading v ≡ reading w =
      ap reading moved ∙ omega (arith, length-drop (s.through - w.base) w.rows, ends_before k w h s told) in
      record {
        ran = ran_push c.K c.V all.demands all.ending es e tr.ran due;
        read = still ∙ tr.read ∙ sym same;
        since = ap (λ x. x.base) moved ∙ sym (ap (λ (hs : List Handed). end_of 0 (lots hs)) kept ∙ end_push 0 (taken es) (handed_lot y) ∙ ap (λ n. n.through) (is k h));
        describes = subst (Describes k) (sym moved) (moved_describes k w s.through h onward (before_last k w h s told));
        within = omega (arith, tr.within);
        left = tr.left ∙ ap (λ n. beyond n all) (sym same);
      }
