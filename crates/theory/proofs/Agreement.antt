-- Two series that are alike hand out alike lots: each lot is taken as soon as it is proved, and that rests on what is alike.
use Rattle.std.proofs.Common.{◌≡◌, ℕ, suc, ◌<◌, ◌≤◌, List, [], ◌∷◌, ◌++◌, Some, None, sym, refl, ap, ◌∙◌, subst, inl, inr, arith}
use Rattle.std.proofs.lemmas.Bool.{cases_lt, cases_order, le-leb, lt-leb}
use Rattle.theory.specs.Recursion.{Case, case_of, Lot}
use Rattle.theory.specs.Regeneration.{Alike, proves, end_of}
use Rattle.theory.specs.Endings.{Ending}
use Rattle.theory.specs.Series.{Handed, Entry, periods_read, taken, lots, up_to, Ran}
use Rattle.theory.specs.Runs.{AgreePast, TwoSeriesAgree}
use Rattle.theory.proofs.Laws.{alike_back}
use Rattle.theory.proofs.Proving.{none_is_not_some, proves_alike}
use Rattle.theory.proofs.Series.{series_ind}

-- from p on nothing is proved before q
abbrev Quiet : Case → ℕ → ℕ → ℕ → Type 0
Quiet c b p q = (i : ℕ) (y : Lot) → p ≤ i → i < q → proves c b i ≡ Some y → ⊥

-- each lot was handed out as soon as it was proved, from p on with the base b, and r periods are read
abbrev Prompt : Case → ℕ → ℕ → ℕ → List Handed → Type 0
Prompt c r p b [] = (p ≤ r) × Quiet c b p r
Prompt c r p b (h ∷ hs) =
    (p ≤ h.evidence) × Quiet c b p h.evidence × (proves c b h.evidence ≡ Some h.lot) × Prompt c r h.evidence h.lot.through hs

prompt_le : (c : Case) (r p b : ℕ) (hs : List Handed) → Prompt c r p b hs → p ≤ r
prompt_le c r p b [] q = q.0
prompt_le c r p b (h ∷ hs) q = omega (arith, q.0, prompt_le c r h.evidence h.lot.through hs q.3)

prompt_read : (c : Case) (r p b : ℕ) (hs : List Handed) → Prompt c r p b hs → proves c (end_of b (lots hs)) r ≡ None → Prompt c (suc r) p b hs
unfolding end_of
prompt_read c r p b [] q e = (
  omega (arith, q.0),
  λ i y l m f.
      elim (cases_lt i r) [
        | inl k ↦ q.1 i y l k f
        | inr k ↦
            let same : r ≡ i = omega arith in
            none_is_not_some y (sym e ∙ (ap (proves c b) same ∙ f))
      ],
)
prompt_read c r p b (h ∷ hs) q e = (q.0, q.1, q.2, prompt_read c r h.evidence h.lot.through hs q.3 e)

prompt_take : (c : Case) (r p b : ℕ) (hs : List Handed) (y : Lot) → Prompt c r p b hs → proves c (end_of b (lots hs)) r ≡ Some y →
    Prompt c r p b (hs ++ (record { lot = y; evidence = r } ∷ []))
unfolding end_of
prompt_take c r p b [] y q e = (q.0, q.1, e, (omega arith, λ i z l m f. absurd (omega arith)))
prompt_take c r p b (h ∷ hs) y q e = (q.0, q.1, q.2, prompt_take c r h.evidence h.lot.through hs y q.3 e)

pub prompt : {F : Type 0} (K : ℕ → ℕ) (V : ℕ → ℕ → ℕ) (ds : List ℕ) (ending : Ending F) (es : List (Entry F)) → Ran K V ds ending es →
    Prompt (case_of K V ds) (periods_read es) 0 0 (taken es)
prompt K V ds ending es r =
    series_ind K V ds ending (λ t hs. Prompt (case_of K V ds) t 0 0 hs)
    (λ t hs q e u v w. prompt_read (case_of K V ds) t 0 0 hs q e)
    (λ t hs y q e. prompt_take (case_of K V ds) t 0 0 hs y q e)
    (omega arith, λ i y l m f. absurd (omega arith)) es r

-- the evidence of the first lot, or the periods read where there is none

first_of : ℕ → List Handed → ℕ
first_of r [] = r
first_of r (h ∷ hs) = h.evidence

quiet_before : (c : Case) (r p b : ℕ) (hs : List Handed) → Prompt c r p b hs → Quiet c b p (first_of r hs) × (first_of r hs ≤ r)
unfolding first_of
quiet_before c r p b [] q = (q.1, omega arith)
quiet_before c r p b (h ∷ hs) q = (q.1, prompt_le c r h.evidence h.lot.through hs q.3)

up_to_none : (c : Case) (r p b t : ℕ) (hs : List Handed) → Prompt c r p b hs → t < p → up_to t hs ≡ []
unfolding up_to
up_to_none c r p b t [] q l = refl
up_to_none c r p b t (h ∷ hs) q l =
    rw (lt-leb h.evidence t (omega (arith, q.0))) (up_to_none c r h.evidence h.lot.through t hs q.3 (omega (arith, q.0)))

up_to_later : (c : Case) (r p b t : ℕ) (hs : List Handed) → Prompt c r p b hs → t < first_of r hs → up_to t hs ≡ []
unfolding up_to first_of
up_to_later c r p b t [] q l = refl
up_to_later c r p b t (h ∷ hs) q l = rw (lt-leb h.evidence t l) (up_to_none c r h.evidence h.lot.through t hs q.3 l)

-- lists of lots that agree

agree_swap : (t r s : ℕ) (xs ys : List Handed) → AgreePast t r s xs ys → AgreePast t s r ys xs
agree_swap t r s xs ys k =
    record { begins = elim k.begins [ inl f ↦ inr f | inr f ↦ inl f ]; same = λ a b. sym (k.same b a) }

agree_none : (t r s : ℕ) (xs ys : List Handed) → xs ≡ [] → ys ≡ [] → AgreePast t r s xs ys
agree_none t r s xs ys p q = record { begins = inl (ys, ap (λ (zs : List Handed). zs ++ ys) (sym p)); same = λ _ _. p ∙ sym q }

agree_more : (t r s : ℕ) (x y : Handed) (xs ys : List Handed) → x ≡ y → AgreePast t r s xs ys → AgreePast t r s (x ∷ xs) (y ∷ ys)
agree_more t r s x y xs ys e k =
    record {
      begins = elim k.begins [
        | inl f ↦ inl (f.0, (let g = f.1 in cc))
        | inr f ↦ inr (f.0, (let g = f.1 in cc))
      ];
      same = λ a b. (let g = k.same a b in cc);
    }

handed_same : (h i : Handed) → h.lot ≡ i.lot → h.evidence ≡ i.evidence → h ≡ i
handed_same h i p q = λ k. record { lot = p k; evidence = q k }

module _ (t : ℕ) where
  -- a lot of one series that comes before all of the other has evidence past t: else the other would have waited for it
  agree_early : (c e : Case) (r s : ℕ) → ((u : ℕ) → u ≤ t → u ≤ r → u ≤ s → Alike c e u) →
      (p b : ℕ) (h : Handed) (hs is : List Handed) → Prompt c r p b (h ∷ hs) → Prompt e s p b is → h.evidence < first_of s is →
      AgreePast t r s (up_to t (h ∷ hs)) (up_to t is)
  unfolding first_of
  agree_early c e r s alike p b h hs is v w l =
      let q = quiet_before e s p b is w in
      elim (cases_lt t h.evidence) [
        | inl k ↦
            agree_none t r s (up_to t (h ∷ hs)) (up_to t is) (up_to_later c r p b t (h ∷ hs) v k) (up_to_later e s p b t is w (omega arith))
        | inr k ↦
            let hr : h.evidence ≤ r = prompt_le c r h.evidence h.lot.through hs v.3 in
            absurd (q.0 h.evidence h.lot v.0 l
            (proves_alike c e b h.evidence h.lot (alike h.evidence k hr (omega (arith, q.1))) v.2))
      ]

  -- one series took none, and read no further than the first lot of the other
  agree_short : (c e : Case) (r s : ℕ) → ((u : ℕ) → u ≤ t → u ≤ r → u ≤ s → Alike c e u) →
      (p b : ℕ) (h : Handed) (hs : List Handed) → Prompt c r p b (h ∷ hs) → Prompt e s p b [] → AgreePast t r s (up_to t (h ∷ hs)) (up_to t [])
  unfolding up_to first_of
  agree_short c e r s alike p b h hs v w =
      elim (cases_lt h.evidence s) [
        | inl l ↦ agree_early c e r s alike p b h hs [] v w l
        | inr l ↦ record { begins = inr (up_to t (h ∷ hs), refl); same = λ f g. up_to_later c r p b t (h ∷ hs) v (omega arith) }
      ]

  agree : (c e : Case) (r s : ℕ) → ((u : ℕ) → u ≤ t → u ≤ r → u ≤ s → Alike c e u) →
      (p b : ℕ) (hs is : List Handed) → Prompt c r p b hs → Prompt e s p b is → AgreePast t r s (up_to t hs) (up_to t is)
  unfolding up_to first_of
  agree c e r s alike p b [] [] v w = agree_none t r s [] [] refl refl
  agree c e r s alike p b (h ∷ hs) [] v w = agree_short c e r s alike p b h hs v w
  agree c e r s alike p b [] (i ∷ is) v w =
      agree_swap t s r (up_to t (i ∷ is)) (up_to t []) (agree_short e c s r (λ u l m k. alike_back c e u (alike u l k m)) p b i is w v)
  agree c e r s alike p b (h ∷ hs) (i ∷ is) v w =
      elim (cases_order h.evidence i.evidence) [
        | inl same ↦
            elim (cases_lt t h.evidence) [
              | inl l ↦
                  agree_none t r s (up_to t (h ∷ hs)) (up_to t (i ∷ is))
                  (up_to_later c r p b t (h ∷ hs) v l) (up_to_later e s p b t (i ∷ is) w (omega arith))
              | inr l ↦
                  let hr : h.evidence ≤ r = prompt_le c r h.evidence h.lot.through hs v.3 in
                  let is' : i.evidence ≤ s = prompt_le e s i.evidence i.lot.through is w.3 in
                  let f : proves e b h.evidence ≡ Some h.lot =
                  proves_alike c e b h.evidence h.lot (alike h.evidence l hr (omega arith)) v.2 in
                  let g : proves e b h.evidence ≡ Some i.lot = ap (proves e b) same ∙ w.2 in
                  let lot : h.lot ≡ i.lot = cc in
                  let back : i ≡ h = sym (handed_same h i lot same) in
                  let rest : Prompt e s h.evidence h.lot.through is =
                  subst (λ (j : Handed). Prompt e s j.evidence j.lot.through is) back w.3 in
                  rw (le-leb h.evidence t l, le-leb i.evidence t (omega arith))
                  (agree_more t r s h i (up_to t hs) (up_to t is) (handed_same h i lot same)
                  (agree c e r s alike h.evidence h.lot.through hs is v.3 rest))
            ]
        | inr (inl k) ↦ agree_early c e r s alike p b h hs (i ∷ is) v w k
        | inr (inr k) ↦
            agree_swap t s r (up_to t (i ∷ is)) (up_to t (h ∷ hs))
            (agree_early e c s r (λ u l m n. alike_back c e u (alike u l n m)) p b i is (h ∷ hs) w v k)
      ]

pub two_series : (F : Type 0) → TwoSeriesAgree F
two_series F K V ds ending es r K' V' ds' ending' es' r' t a =
    agree t (case_of K V ds) (case_of K' V' ds') (periods_read es) (periods_read es')
    (λ u l m k. record {
      setups = λ j x y. a.setups j x (omega arith);
      prices = λ j i x y z. a.prices j i x y (omega arith);
      demands = λ i x y. a.demands i x (omega arith) (omega arith) (omega arith);
    })
    0 0 (taken es) (taken es') (prompt K V ds ending es r) (prompt K' V' ds' ending' es' r')
