-- What opening leaves of an accepted file has the row of each component.
use Rattle.answers.specs.Answer.{answer}
use Rattle.verdict.proofs.Rows.{opened_filled}
use Rattle.verdict.proofs.open_alone.Goals as goal

pub returns : goal.returns
returns c =
    let o = c.opened in
    let filled = opened_filled c.args.file.now 64 (answer o.result.verdict) o.result.rows o.ensures.0 o.ensures.1 in
    (o.ensures.0, filled.0, filled.1, o.ensures.1)
