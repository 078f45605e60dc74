-- `answers::open_answer` meets its contract: beside a refusal stands the board that is all 0.
use mathlib.Core.Path.{sym, ap, ◌∙◌}
use Rattle.supply.specs.declared.record.Board.{Board}
use Rattle.supply.specs.Opening.{answered}
use Rattle.exports.specs.Answers.{with_board, open_answer}
use Rattle.exports.proofs.answers.open_answer.Goals as goal

pub returns-in-Ok : goal.returns-in-Ok
returns-in-Ok c = c.beside.ensures ∙ (ap (with_board _) c.serving.ensures ∙ ap (λ o. open_answer (answered o)) (sym c.in-Ok.is))

pub returns-in-Err : goal.returns-in-Err
returns-in-Err c =
    c.beside-in-Err.ensures
    ∙ (ap (λ (b : Board). with_board b c.refusing.result) c.empty_board.ensures
    ∙ (ap (with_board _) c.refusing.ensures ∙ ap (λ o. open_answer (answered o)) (sym c.in-Err.is)))
