-- What other crates cite besides the definitions and Main.
-- Assumes nothing.

-- The end of a list: its length, and what stands where.
pub use Rattle.entry.proofs.Lists.{none_in_empty, empty_of_length, add_last_append, length_add_last, at_old, at_new, length_change_last, at_last, at_before}
-- Every rule that is asked of a record is kept; every record of a list keeps them, and nothing is missing at its end.
pub use Rattle.entry.proofs.Good.{Keeps}
unfoldable pub use Rattle.entry.proofs.Unbroken.{Unbroken}
pub use Rattle.entry.proofs.Refused.{accepted_unbroken, unbroken_accepted}
-- What then holds of what has been entered, and that its records are those that have been read.
pub use Rattle.entry.proofs.Good.{Good, Finished}
pub use Rattle.entry.proofs.Steps.{Sound, sound_step, records_step}
-- The numbers of the records run on without a gap.
pub use Rattle.entry.proofs.Numbered.{first_component, next_component, all_components}
-- A refusal has some refusal's number.
pub use Rattle.entry.proofs.Sure.{verdict_sure}
