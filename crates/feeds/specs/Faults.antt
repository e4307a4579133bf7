-- What each fault of a feed tells: its number, its place, its period, and the layers it rose through.
use Rattle.std.specs.Prelude.{ℕ, ◌+◌, min}
use Rattle.feeds.specs.declared.fault.RecordFaultKind.{RecordFaultKind}
use Rattle.feeds.specs.declared.fault.RecordFaultKind.TheVariants.{OtherLayout, WrongPeriod, DemandTooLarge, NothingLeft, BytesAfterEnd, CutWord, BeforeFirstPeriod, CancelsTooMuch, WrongCount}
use Rattle.feeds.specs.declared.fault.RecordFault.{RecordFault}
use Rattle.feeds.specs.declared.fault.FeedFault.{FeedFault}

-- the number under which a fault of each kind is told
abbrev pub kind_number : RecordFaultKind → ℕ
kind_number OtherLayout = 9
kind_number WrongPeriod = 10
kind_number DemandTooLarge = 11
kind_number NothingLeft = 12
kind_number BytesAfterEnd = 13
kind_number CutWord = 14
kind_number BeforeFirstPeriod = 15
kind_number CancelsTooMuch = 16
kind_number WrongCount = 17

-- the number under which a record's fault is told
abbrev pub record_number : RecordFault → ℕ
record_number f = kind_number f.kind

-- the byte at which it was found
abbrev pub record_place : RecordFault → ℕ
record_place f = f.place

-- the period that was being read
abbrev pub record_period : RecordFault → ℕ
record_period f = f.period

-- a feed tells the number, place and period of the record's fault inside its own
abbrev pub fault_number : FeedFault → ℕ
fault_number f = record_number f.fault

abbrev pub fault_place : FeedFault → ℕ
fault_place f = record_place f.fault

abbrev pub fault_period : FeedFault → ℕ
fault_period f = record_period f.fault

abbrev pub fault_layers : FeedFault → ℕ
fault_layers f = f.layers

-- the period that is being read once so many were handed out, held at 2^30
abbrev pub period_read : ℕ → ℕ
period_read handed = min (handed + 1) 1073741824

-- a fault that was found at this place, once so many periods were handed out
abbrev pub found : ℕ → ℕ → RecordFaultKind → RecordFault
found place handed kind = record { kind = kind; place = place; period = period_read handed }
