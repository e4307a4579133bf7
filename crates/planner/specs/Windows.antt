-- The window that the planner's rows hold.
use Rattle.std.specs.Prelude.{[], vec_items}
use Rattle.planner.specs.declared.rows.Rows.{Rows}
use Rattle.planner.specs.Describing.{Window, window_of, window_from}

abbrev pub window : Rows → Window
window r = window_from r.base r.before (vec_items r.periods)

-- the window before anything is read
abbrev pub empty : Window
empty = window_of 0 (record { demanded = 0; least = 0; last = 0 }) [] []
