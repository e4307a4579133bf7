-- What holds of every netting layer: which are made, what they net, and what they tell.
use Rattle.std.proofs.Common.{◌≡◌, ℕ, zero, suc, ◌+◌, ◌-◌, ◌≤◌, true, ltb, leb, List, [], ◌∷◌, ◌++◌, length, get_or, drop, Some, None, Ok, Err, Option, Result, MatchResult, sym, refl, ap, ◌∙◌, subst, append_assoc, append-nil, add-one, arith, drop-cons}
use lib.Seq.{drop-length}
use Rattle.std.proofs.lemmas.Bool.{and_parts, and_from, ltb-true, ltb-false, le-leb}
use Rattle.lots.specs.declared.dated.FirstDate.TheVariants.{AtLeast}
use Rattle.lots.proofs.Lines.{passed, some_or_none, mapped_none, unearned_parts}
use Rattle.lots.specs.Dated.{rises_behind, are_dates_right, earned_first}
use Rattle.theory.specs.Endings.{Ending, finished_feed, faulty_feed}
use Rattle.theory.specs.Netting as theory
use Rattle.feeds.specs.declared.fault.FeedFault.{FeedFault}
use Rattle.feeds.specs.declared.netting.fault.NettingFault.TheVariants.{Stock, Receipts}
use Rattle.feeds.specs.declared.receipt.Receipt.{Receipt}
use Rattle.feeds.specs.Feeding.{next_told, others, Small}
use Rattle.feeds.specs.Netting.{risen, above}
use Rattle.feeds.specs.Receipts.{receipt_fault, receipts_fault, coming_from, supplies, netted, supply_fault}
use Rattle.feeds.proofs.Supplies.{comes}

-- an amount that earns nothing is not too large
small_amount : (x : Receipt) → receipt_fault x ≡ None → x.amount ≤ 1000000000
small_amount x e = ltb-false 1000000000 x.amount (some_or_none (ltb 1000000000 x.amount) (record {}) None e).0

-- receipts whose dates rise and that earn nothing come one after another
rise_coming : (last : ℕ) (xs : List Receipt) → rises_behind (λ x. x.period) last xs ≡ true → earned_first receipt_fault xs ≡ None → coming_from (last + 1) xs ≡ true
rise_coming last [] r e = refl
rise_coming last (x ∷ xs) r e =
    let p = and_parts (ltb last x.period) (rises_behind (λ x. x.period) x.period xs) r in
    let n = unearned_parts receipt_fault x xs e in
    and_from (leb (last + 1) x.period) _ (le-leb _ _ (omega (arith, ltb-true last x.period p.0)))
    (and_from (leb x.amount 1000000000) _ (le-leb _ _ (small_amount x n.0)) (rise_coming x.period xs p.1 n.1))

first_coming : (xs : List Receipt) → are_dates_right (λ x. x.period) (AtLeast 1) xs ≡ true → earned_first receipt_fault xs ≡ None → coming_from 1 xs ≡ true
first_coming [] r e = refl
first_coming (x ∷ xs) r e =
    let p = and_parts (leb 1 x.period) (rises_behind (λ x. x.period) x.period xs) r in
    let n = unearned_parts receipt_fault x xs e in
    and_from (leb 1 x.period) _ p.0 (and_from (leb x.amount 1000000000) _ (le-leb _ _ (small_amount x n.0)) (rise_coming x.period xs p.1 n.1))

-- what stock and receipts are like where a layer can be made of them
pub record Right (stock : ℕ) (xs : List Receipt) : Type 0 where
  pub bounded : stock ≤ 1000000000
  pub few : length xs ≤ 32
  pub coming : coming_from 1 xs ≡ true

pub supply_right : (stock : ℕ) (xs : List Receipt) → supply_fault stock xs ≡ None → Right stock xs
supply_right stock xs e =
    let p = some_or_none (ltb 1000000000 stock) Stock _ e in
    let q = passed (λ x. x.period) receipt_fault 0 32 (AtLeast 1) xs (mapped_none Receipts (receipts_fault xs) p.1) in
    record { bounded = ltb-false 1000000000 stock p.0; few = q.few; coming = first_coming xs q.dates q.unearned }

-- such receipts rise, as the arithmetic of netting wants it
pub coming_rising : (p : ℕ) (xs : List Receipt) → coming_from (p + 1) xs ≡ true → theory.Rising p (supplies xs)
coming_rising p [] e = tt
coming_rising p (x ∷ xs) e = let c = comes (p + 1) x xs e in (omega (arith, c.date), coming_rising x.period xs c.others)

-- the net demands one after another are those of the arithmetic of netting
nets_go : (s : ℕ) (rs : List theory.Receipt) (gross : List ℕ) (k : ℕ) → k ≤ length gross
    → theory.nets s rs gross k ++ netted rs (suc k) (theory.carried s rs gross k) (drop k gross) ≡ netted rs 1 s gross
unfolding theory.nets theory.carried theory.net netted
nets_go s rs gross zero l = refl
nets_go s rs gross (suc k) l =
    let c : ℕ = theory.carried s rs gross k in
    let r : ℕ = theory.received rs (suc k) in
    let here : theory.asked gross (suc k) ≡ get_or gross k 0 = ap (λ j. get_or gross j 0) (omega arith) in
    append_assoc (theory.nets s rs gross k) _ _
    ∙ ap (λ t. theory.nets s rs gross k ++ t)
    ((λ i. (here i - (c + r)) ∷ netted rs (sym (add-one (suc k)) i) (c + r - here i) (drop (suc k) gross)) ∙ ap (netted rs (suc k) c) (sym (drop-cons gross k 0 l)))
    ∙ nets_go s rs gross k (omega arith)

pub nets_are : (s : ℕ) (rs : List theory.Receipt) (gross : List ℕ) → netted rs 1 s gross ≡ theory.nets s rs gross (length gross)
unfolding netted
nets_are s rs gross =
    sym (nets_go s rs gross (length gross) (omega arith))
    ∙ ap (λ t. theory.nets s rs gross (length gross) ++ netted rs (suc (length gross)) (theory.carried s rs gross (length gross)) t) (drop-length gross)
    ∙ append-nil (theory.nets s rs gross (length gross))

-- what the feed below told, where its fault was set apart to rise
pub below_fault : {D : Type 0} (told : Result (Option ℕ) FeedFault) (b : D) (fault : FeedFault) → MatchResult told (λ o. ◌≡◌ {A = Result (Option ℕ) D} (Err b) (Ok o)) (λ f. fault ≡ f) → told ≡ Err fault
below_fault (Ok o) b fault h = let z : ◌≡◌ {A = ℕ} 0 1 = cc in absurd (omega arith)
below_fault (Err f) b fault h = ap Err (sym h)

pub below_demand : (D : Type 0) (told : Result (Option ℕ) FeedFault) (o : Option ℕ) → MatchResult told (λ x. ◌≡◌ {A = Result (Option ℕ) D} (Ok o) (Ok x)) (λ f. ⊥) → told ≡ Ok o
below_demand D (Ok x) o h = let z : o ≡ x = cc in ap Ok (sym z)
below_demand D (Err f) o h = absurd h

-- what was told of a list says what the list is
pub told_fault : (ds : List ℕ) (e : Ending FeedFault) (f : FeedFault) → Err f ≡ next_told ds e → (ds ≡ []) × (e ≡ faulty_feed f)
told_fault [] finished_feed f h = let z : ◌≡◌ {A = ℕ} 0 1 = cc in absurd (omega arith)
told_fault [] (faulty_feed x) f h = let z : x ≡ f = cc in (refl, ap faulty_feed z)
told_fault (d ∷ ds) e f h = let z : ◌≡◌ {A = ℕ} 0 1 = cc in absurd (omega arith)

pub told_finished : (ds : List ℕ) (e : Ending FeedFault) → Ok None ≡ next_told ds e → (ds ≡ []) × (e ≡ finished_feed)
told_finished [] finished_feed h = (refl, refl)
told_finished [] (faulty_feed x) h = let z : ◌≡◌ {A = ℕ} 0 1 = cc in absurd (omega arith)
told_finished (d ∷ ds) e h = let z : ◌≡◌ {A = ℕ} 0 1 = cc in absurd (omega arith)

pub told_demand : (ds : List ℕ) (e : Ending FeedFault) (d : ℕ) → Ok (Some d) ≡ next_told ds e → ds ≡ d ∷ others ds
told_demand [] finished_feed d h = let z : ◌≡◌ {A = ℕ} 0 1 = cc in absurd (omega arith)
told_demand [] (faulty_feed x) d h = let z : ◌≡◌ {A = ℕ} 0 1 = cc in absurd (omega arith)
told_demand (x ∷ ds) e d h = let z : x ≡ d = cc in ap (λ y. y ∷ ds) z

-- no gross demand, no net demand
pub net_none : (rs : List theory.Receipt) (i stock : ℕ) (ds : List ℕ) → ds ≡ [] → netted rs i stock ds ≡ []
unfolding netted
net_none rs i stock ds e = ap (netted rs i stock) e

-- what is told above a layer, where the net demands are these
pub tell_fault : (net : List ℕ) (e : Ending FeedFault) (f : FeedFault) → net ≡ [] → e ≡ faulty_feed f → Err (risen f) ≡ next_told net (above e)
tell_fault net e f n h = sym ((λ i. next_told (n i) (above (h i))))

pub tell_finished : (net : List ℕ) (e : Ending FeedFault) → net ≡ [] → e ≡ finished_feed → Ok None ≡ next_told net (above e)
tell_finished net e n h = sym ((λ i. next_told (n i) (above (h i))))

pub tell_demand : (net rest : List ℕ) (d : ℕ) (e : Ending FeedFault) → net ≡ d ∷ rest → Ok (Some d) ≡ next_told net e
tell_demand net rest d e n = sym (ap (λ l. next_told l e) n)

pub none_left : (net after : List ℕ) → net ≡ [] → after ≡ [] → after ≡ others net
none_left net after n a = a ∙ sym (ap others n)

pub not_none : (net rest : List ℕ) (d : ℕ) → net ≡ d ∷ rest → net ≡ [] → ⊥
not_none net rest d n e = omega (arith, ap length n, ap length e)

pub first_small : (ds rest : List ℕ) (d : ℕ) → ds ≡ d ∷ rest → Small ds → d ≤ 1000000
first_small ds rest d e s = (subst Small e s).0
