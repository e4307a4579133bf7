-- What a feed tells and leaves when it is asked for the next demand.
use Rattle.std.specs.Prelude.{ℕ, ◌≤◌, List, [], ◌∷◌, Some, None, Ok, Err, Option, Result}
use Rattle.theory.specs.Endings.{Ending, finished_feed, faulty_feed}
use Rattle.feeds.specs.declared.fault.FeedFault.{FeedFault}

-- how an ending is told
abbrev pub end_told : Ending FeedFault → Result (Option ℕ) FeedFault
end_told finished_feed = Ok None
end_told (faulty_feed f) = Err f

-- what is told of the demands still to come: the first of them, or the ending
abbrev pub next_told : List ℕ → Ending FeedFault → Result (Option ℕ) FeedFault
next_told [] e = end_told e
next_told (d ∷ ds) e = Ok (Some d)

-- the demands that are left after the first
abbrev pub others : List ℕ → List ℕ
others [] = []
others (d ∷ ds) = ds

-- no demand is above 1,000,000
abbrev pub Small : List ℕ → Type 0
Small [] = Unit {0}
Small (d ∷ ds) = (d ≤ 1000000) × Small ds
