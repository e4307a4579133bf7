use Rattle.std.proofs.Common.{List, sym, ap, ◌∙◌}
use Rattle.planner.specs.declared.calls.Call.{Call}
use Rattle.rolling_report.specs.Replaying.{calls_of}
use Rattle.rolling_report.proofs.Lettering.{behind_calls, behind_none, letter_more, letter_other, letters_all}
use Rattle.rolling_report.proofs.letters.calls_of.Goals as goal

pub loop-letter-init : goal.loop-letter-init
loop-letter-init c = behind_none (calls_of c.args.letters.now) ∙ ap (λ (ks : List Call). behind_calls ks (calls_of c.args.letters.now)) (sym c.new-calls.ensures.items)

pub loop-letter-preserved : goal.loop-letter-preserved
loop-letter-preserved c =
    letter_more c.args.letters.now c.loop-letter.letter-index c.loop-letter-test.true c.in-Some.call _ _ (sym c.in-Some.ensures)
    c.in_ok-push.ensures.items c.loop-letter.invariant

pub returns-in_default : goal.returns-in_default
returns-in_default c =
    letter_other c.args.letters.now c.loop-letter.letter-index c.loop-letter-test.true _ (sym c.in_default.ensures) c.loop-letter.invariant

pub returns : goal.returns
returns c = letters_all c.args.letters.now c.loop-letter.letter-index _ c.loop-letter-test.false c.loop-letter.invariant
