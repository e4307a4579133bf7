-- What writing at a place of a buffer tells and leaves.
use Rattle.std.specs.Prelude.{ℕ, ◌+◌, cond, List, ◌++◌, length, take, drop, Some, None, Option, nat_lt}
use Rattle.std.specs.Option.{option_or}
use Rattle.lotfile.specs.declared.fault.WriteFault.{WriteFault}
use Rattle.lotfile.specs.declared.fault.WriteFault.TheVariants.{NoRoom, TooMany}

-- the number by which each refusal is told
abbrev pub write_number : WriteFault → ℕ
write_number NoRoom = 25
write_number TooMany = 25

-- so many bytes want room behind the place
abbrev pub room_refused : ℕ → List ℕ → ℕ → Option WriteFault
room_refused n buffer place = cond (nat_lt (length buffer) (place + n)) (Some NoRoom) None

-- a lot takes 24 bytes
abbrev pub lot_refused : List ℕ → ℕ → Option WriteFault
lot_refused buffer place = room_refused 24 buffer place

-- a file has at most 10,000 lots
abbrev pub count_refused : ℕ → Option WriteFault
count_refused count = cond (nat_lt 10000 count) (Some TooMany) None

-- the word at the end takes 4 bytes, and counts the lots
abbrev pub end_refused : List ℕ → ℕ → ℕ → Option WriteFault
end_refused buffer place count = option_or (room_refused 4 buffer place) (count_refused count)

-- the buffer with these bytes at a place, and every other byte as it was
unfoldable pub spliced : List ℕ → ℕ → List ℕ → List ℕ
spliced buffer place bytes = take place buffer ++ (bytes ++ drop (place + length bytes) buffer)

-- the buffer after a writing: unchanged where it is refused
abbrev pub after : Option WriteFault → List ℕ → ℕ → List ℕ → List ℕ
after None buffer place bytes = spliced buffer place bytes
after (Some f) buffer place bytes = buffer
