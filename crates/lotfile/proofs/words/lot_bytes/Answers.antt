use Rattle.std.proofs.Common.{◌≡◌, ◌<◌, length, ap, ◌∙◌, sym, arith, rules}
use lib.ListN.{length-map}
use Rattle.lotfile.specs.LotWords.{words_bytes}
use Rattle.lotfile.proofs.Filing.{words_flat}
use Rattle.lotfile.proofs.words.lot_bytes.Goals as goal

pub returns : goal.returns
returns c =
    let six : length c.lot_words.result ≡ 6 = sym (length-map c.lot_words.result (λ w. (w.kind, w.number))) ∙ ap length c.lot_words.ensures in
    let as_many : length c.map.result ≡ 6 = c.map.ensures.items.long in
    words_flat c.lot_words.result c.map.result (as_many ∙ sym six) (λ i w b l. let below : i < 6 = omega (arith, six) in let called = c.map.ensures.items.at i w b below in search (rules, called.2))
    ∙ ap words_bytes c.lot_words.ensures
