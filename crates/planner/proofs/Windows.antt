-- How long the lists of a window are.
use Rattle.std.proofs.Common.{◌≡◌, List, length, sym, ◌∙◌}
use Rattle.std.specs.Vec.{vec_len}
use Rattle.std.proofs.lemmas.List.{length-map}
use Rattle.planner.specs.declared.rows.row.Period.{Period}
use Rattle.planner.specs.declared.rows.Rows.{Rows}
use Rattle.planner.specs.Describing.{rows_of, options_of}
use Rattle.planner.specs.Windows.{window}

pub rows_long : (ps : List Period) → length (rows_of ps) ≡ length ps
rows_long ps = length-map ps (λ p. p.row)

pub options_long : (ps : List Period) → length (options_of ps) ≡ length ps
options_long ps = length-map ps (λ p. p.option)

pub window_long : (r : Rows) → length (window r).rows ≡ vec_len r.periods
window_long r = rows_long r.periods.items ∙ sym r.periods.ok.0

pub window_paired : (r : Rows) → length (window r).options ≡ length (window r).rows
window_paired r = options_long r.periods.items ∙ sym (rows_long r.periods.items)
