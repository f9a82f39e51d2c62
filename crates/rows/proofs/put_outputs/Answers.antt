use Rattle.std.proofs.Common.{rules, ◌+◌}
use Rattle.rows.specs.Rows.{output_row, output_rows}
use Rattle.rows.proofs.put_outputs.Goals as goal

pub returns : goal.returns
unfolding output_rows
returns c = c.put_each.ensures (λ o. output_row o (c.args.r + o)) (λ i row l made. search rules)
