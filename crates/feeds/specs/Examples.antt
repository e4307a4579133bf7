-- Worked examples: what the definitions come to on bytes and numbers that can be checked by hand.
use Rattle.std.specs.Prelude.{◌≡◌, ℕ, List, [], ◌∷◌, codes}
use Rattle.theory.specs.Endings.{finished_feed}
use Rattle.theory.specs.Netting as theory
use Rattle.feeds.specs.Orders.{orders}
use Rattle.feeds.specs.Receipts.{netted}
use Rattle.feeds.specs.Text.{forecast}

-- the words 80000001, 00000007, 40000002 and C0000001
abbrev pub four_words : List ℕ
four_words = 128 ∷ 0 ∷ 0 ∷ 1 ∷ 0 ∷ 0 ∷ 0 ∷ 7 ∷ 64 ∷ 0 ∷ 0 ∷ 2 ∷ 192 ∷ 0 ∷ 0 ∷ 1 ∷ []

-- ten units that come in the second period
abbrev pub ten_in_two : List theory.Receipt
ten_in_two = record { period = 2; amount = 10 } ∷ []

pub record FeedExamples : Type 0 where
  pub text : forecast 0 0 (codes "1,4\n2,3\nend\n") ≡ record { demands = 4 ∷ 3 ∷ []; ending = finished_feed }
  pub words : orders four_words 0 0 ≡ record { demands = 5 ∷ []; ending = finished_feed }
  pub stock : netted [] 1 5 (3 ∷ 4 ∷ 1 ∷ []) ≡ 0 ∷ 2 ∷ 1 ∷ []
  pub receipt : netted ten_in_two 1 5 (3 ∷ 4 ∷ 1 ∷ []) ≡ 0 ∷ 0 ∷ 0 ∷ []
