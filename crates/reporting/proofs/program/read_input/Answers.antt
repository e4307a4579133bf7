use Rattle.reporting.proofs.Reading.{limited}
use Rattle.reporting.proofs.program.read_input.Goals as goal

pub returns : goal.returns
returns g c =
    limited g.R.Read.remaining 65537 c.take.result.limit c.args.from c.take.result.inner c.new-input.result.items c.read_to_end.new.buf.items
    c.take.ensures.limit c.take.ensures.inner c.new-input.ensures.items c.in_ok-read_to_end.ensures.bytes
