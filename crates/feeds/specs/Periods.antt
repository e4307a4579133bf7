-- What is known of every word of an order file, and of every period that is read.
use Rattle.std.specs.Prelude.{◌≡◌, ℕ, ◌+◌, ◌<◌, ◌≤◌, List, length, Ok, Err, Result}
use Rattle.lots.specs.declared.word.Word.{Word}
use Rattle.lots.specs.Words.{word_kind, number_of_word}
use Rattle.feeds.specs.declared.fault.RecordFault.{RecordFault}
use Rattle.feeds.specs.declared.period.Period.{Period}
use Rattle.feeds.specs.Orders.{cut_at}

-- what is told of the word at the front of bs, which begin at this place: the word, or that it is cut
abbrev pub WordTold : ℕ → ℕ → List ℕ → Result Word RecordFault → Type 0
WordTold place handed bs (Ok w) = (4 ≤ length bs) × (w.kind ≡ word_kind bs) × (w.number ≡ number_of_word bs)
WordTold place handed bs (Err f) = (length bs < 4) × (f ≡ cut_at place handed bs)

-- a period that was read from this place of so many bytes, with so many periods of at most so many handed out before it
pub record PeriodFits (most place handed long : ℕ) (p : Period) : Type 0 where
  pub demand : p.demand ≤ 1000000
  pub onward : place < p.next
  pub within : p.next ≤ long
  pub few : handed + 1 ≤ most
