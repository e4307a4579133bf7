-- How a forecast ends.

-- a forecast ends whole, or with a fault
pub data Ending (F : Type 0) : Type 0 where
  finished_feed : Ending F
  faulty_feed : F → Ending F
