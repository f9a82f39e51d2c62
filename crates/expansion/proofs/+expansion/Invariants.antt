-- What falls at each call is the pair of the component number and the notes left.
use Rattle.std.proofs.Common.{◌+◌, ◌-◌, ◌*◌}
use Rattle.expansion.specs.Notes.{first_note}
use Rattle.expansion.proofs.+expansion.Given as goal

abbrev pub decreases-expand : goal.decreases-expand
decreases-expand l = 4096 * l.c + 4000

abbrev pub decreases-expand_invocations : goal.decreases-expand_invocations
decreases-expand_invocations l = 4096 * l.c + (first_note l.notes.now.ends (l.c + 1) - l.e)
