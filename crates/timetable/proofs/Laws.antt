-- What other crates cite besides Main.
-- Assumes nothing.

-- n covers what it is the greatest of, and nothing less does.
pub use Rattle.timetable.proofs.States.{states_cover, states_least, states_only}
-- A component's rows are those that Places tells; they grow invocation by invocation, and no other list has each in its place.
pub use Rattle.timetable.proofs.Rows.{rows_are, rows_next, rows_last, length_invocation, length_before, length_rows, row_at, place_has, rows_only}
-- Rows that are right in any other order, with guards split in any way, drive the same.
pub use Rattle.timetable.proofs.Right.{Guarded, Wanted, Right, rows_right, drives_exactly, starts_exactly, connects_exactly}
-- Sixteen bytes a row, joined as the rows are, and each a byte where the rows' numbers fit.
pub use Rattle.timetable.proofs.Bytes.{length_row, length_bytes, bytes_append, rows_are_bytes, rows_back}
