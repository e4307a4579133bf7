use Rattle.std.proofs.Common.{◌≡◌, ◌≤◌, List, map, length, None, Ok, vec_items, Option, sym, ap, ◌∙◌, rules, arith}
use Rattle.std.proofs.lemmas.List.{length-map, take_rest}
use Rattle.costs.specs.Constants.{constant_lawful}
use Rattle.lots.specs.Lots.{terms}
use Rattle.lots.specs.declared.lot.Lot.{Lot}
use Rattle.lotfile.specs.LotWords.{file_bytes}
use Rattle.planner.specs.declared.refusals.ReadRefusal.{ReadRefusal}
use Rattle.reporting.specs.LotFiles.{file_unless, file_of_plan}
use Rattle.reporting.proofs.Planned.{planned_lem, planned_fits}
use Rattle.reporting.proofs.filing.file_input.Goals as goal

pub returns-in-Some : goal.returns-in-Some
returns-in-Some g c =
    let planned = planned_lem g.P.Planning.due (λ text. g.F.Format.forecast text 0 0) c.args.input.now _ _ _ c.in_ok-costs.ensures.told (c.new.ensures.whole ∙ ap (λ text. g.F.Format.forecast text 0 0) (take_rest c.args.input.now c.in_ok-costs.costs.length)) c.in_ok-planned.ensures in
    ap (λ (o : Option ReadRefusal). file_unless o (map terms (vec_items c.in_ok-planned.planned.lots))) (sym c.in-Some.is) ∙ ap file_of_plan planned

pub returns : goal.returns
returns g c =
    let planned = planned_lem g.P.Planning.due (λ text. g.F.Format.forecast text 0 0) c.args.input.now _ _ _ c.in_ok-costs.ensures.told (c.new.ensures.whole ∙ ap (λ text. g.F.Format.forecast text 0 0) (take_rest c.args.input.now c.in_ok-costs.costs.length)) c.in_ok-planned.ensures in
    let whole : c.in_ok-planned.planned.stop ≡ None = search rules in
    ap Ok (c.in_ok-file_of.ensures ∙ ap (λ (xs : List Lot). file_bytes (map terms xs)) c.deref.ensures.value)
    ∙ ap (λ (o : Option ReadRefusal). file_unless o (map terms (vec_items c.in_ok-planned.planned.lots))) (sym whole) ∙ ap file_of_plan planned

pub file_of-requires : goal.file_of-requires
file_of-requires g c =
    let m = c.in_ok-costs.costs.model in
    let lawful = constant_lawful m.setup m.unit m.holding m.charged m.setup_fits m.unit_fits m.holding_fits in
    let fits = planned_fits g.P.Planning.due g.met.P.Planning.fits _ _ _ lawful (g.met.F.Format.small _ _ _) c.in_ok-planned.ensures in
    let few : length (vec_items c.in_ok-planned.planned.lots) ≤ 10000 = omega (arith, length-map (vec_items c.in_ok-planned.planned.lots) terms, fits.1) in
    rw c.deref.ensures.value few
