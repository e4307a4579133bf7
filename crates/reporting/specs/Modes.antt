-- The words that name the modes of a program.
use Rattle.std.specs.Prelude.{ℕ, List, Some, None, Option, bytes_eq, codes, if◌then◌else◌}
use Rattle.reporting.specs.declared.mode.Mode.{Mode}
use Rattle.reporting.specs.declared.mode.Mode.TheVariants.{Orders, File}

-- the mode that a word names, if it names one
abbrev pub mode_named : List ℕ → Option Mode
mode_named word = if bytes_eq word (codes "orders") then Some Orders else (if bytes_eq word (codes "file") then Some File else None)
