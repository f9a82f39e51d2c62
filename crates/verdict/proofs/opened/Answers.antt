-- Every row of an accepted file may be handed on, and handed on they are what opening leaves.
use Rattle.std.proofs.Common.{ℕ, replicate, ap, ◌∙◌}
use Rattle.signatures.specs.Rows.{zero_row}
use Rattle.answers.specs.Answer.{answer}
use Rattle.verdict.proofs.Every.{may_hold_placed, hands_on_placed}
use Rattle.verdict.proofs.opened.Goals as goal

pub hold-requires : goal.hold-requires
hold-requires c =
    let read = c.read-verdict in
    may_hold_placed c.args.file.now _ read.new.table (answer read.result) read.ensures.0 c.all_rows.result c.all_rows.ensures read.auto.table

pub returns : goal.returns
returns c =
    let read = c.read-verdict in
    (read.ensures.0, c.hold.ensures ∙ hands_on_placed c.args.file.now _ read.new.table (answer read.result) read.ensures.0 c.all_rows.result c.all_rows.ensures read.ensures.1, c.clear.ensures ∙ ap (λ (n : ℕ). replicate n zero_row) read.auto.table)
