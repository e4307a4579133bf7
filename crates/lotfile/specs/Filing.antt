-- What comes of making the bytes of a whole file.
use Rattle.std.specs.Prelude.{◌≡◌, ℕ, ◌<◌, ◌≤◌, List, map, length, Ok, Err, vec_items, Result, Vec}
use Rattle.std.specs.declared.alloc.Global.{Global}
use Rattle.lots.specs.declared.failure.Failure.{Failure}
use Rattle.lots.specs.declared.failure.Failure.TheVariants.{Refused, NoMemory}
use Rattle.lots.specs.declared.lot.Lot.{Lot}
use Rattle.lots.specs.Lots.{terms}
use Rattle.lotfile.specs.declared.fault.WriteFault.{WriteFault}
use Rattle.lotfile.specs.declared.fault.WriteFault.TheVariants.{TooMany}
use Rattle.lotfile.specs.LotWords.{file_bytes}

-- the bytes of the file, or the refusal of more than 10,000 lots, or, for no more than that, no memory
abbrev pub Filed : List Lot → Result (Vec ℕ Global) (Failure WriteFault) → Type 0
Filed lots (Ok bytes) = (length lots ≤ 10000) × (vec_items bytes ≡ file_bytes (map terms lots))
Filed lots (Err (Refused fault)) = (10000 < length lots) × (fault ≡ TooMany)
Filed lots (Err (NoMemory e)) = length lots ≤ 10000
