use Rattle.std.proofs.Common.{refl}
use Rattle.lots.specs.Decimals.{digits_at, worth, well_formed, number_at, field_at}
use Rattle.lots.specs.Words.{word_kind, number_of_word}
use Rattle.theory.specs.Netting.{received}
use Rattle.feeds.specs.Orders.{period_in, period_at, order_at, orders_in, orders}
use Rattle.feeds.specs.Receipts.{netted}
use Rattle.feeds.specs.Text.{line_at, record_at, forecast_in, forecast}
use Rattle.feeds.proofs.examples.examples_hold.Goals as goal

pub returns : goal.returns
unfolding digits_at worth well_formed number_at field_at word_kind number_of_word received period_in period_at order_at orders_in orders netted line_at record_at forecast_in forecast
returns c = record { text = refl; words = refl; stock = refl; receipt = refl }
