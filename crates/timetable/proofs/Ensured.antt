-- What lowering ensures, put together: for a lawful design, over the list of its records.
-- Assumes nothing.
use Rattle.std.specs.Prelude.{ℕ, ◌<◌, ◌≡◌, List, [], length}
use Rattle.std.proofs.Common.{append-nil}
use Rattle.timeline.specs.Design.{Design, built, class}
use Rattle.timeline.specs.Rules.{Lawful}
use Rattle.timeline.proofs.Down.{Placed}
use Rattle.entry.specs.Records.{Record, records}
use Rattle.entry.specs.Numbers.{Standing}
use Rattle.entry.proofs.Main.{each_stands}
use Rattle.timetable.specs.Rows.{rows}
use Rattle.timetable.specs.Lowered.{Lowered, Wired}
use Rattle.timetable.proofs.Rows.{rows_are}
use Rattle.timetable.proofs.Right.{rows_right, drives_exactly, starts_exactly, connects_exactly}
use Rattle.timetable.proofs.One.{one_driver}
use Rattle.timetable.proofs.Sizes.{states_most, within, rows_most, rows_fit}
use Rattle.timetable.proofs.Begun.{begins_exactly, units_spaced, one_in_unit}
use Rattle.timetable.proofs.Carried.{carries_exactly}

module _ (D : Design) (lawful : Lawful D) (rs : List Record) (its : records D ≡ rs) where
  -- Each part stands at its number.
  stand : (c : ℕ) → c < length D → Standing D c rs
  stand c there = rw (append-nil (records D), its) at (each_stands D [] c there)

  pub lowered : (c : ℕ) → c < length D → class D c ≡ built → (S : ℕ → Type 0) → Lowered D c rs S
  lowered c there is_built S =
      let h : Placed D c = record { lawful = lawful; there = there } in
      let drives = drives_exactly h (rows D c) (rows_right h) S rs (stand c there) in
      record {
        drives = drives;
        starts = starts_exactly h (rows D c) (rows_right h) S;
        connects = connects_exactly h (rows D c) (rows_right h) rs (stand c there) is_built;
        one_driver = λ apart x n i s s' r r' j j' t t' d e. one_driver (record { placed = h; starts = apart }) x n i s s' r r' j j' t t' ((drives x n i s r j t).0 d) ((drives x n i s' r' j' t').0 e);
        states_most = states_most h;
        states_within = λ r m. within h r ((rows_are D c r).0 m);
        rows_most = rows_most h;
        numbers_fit = rows_fit h is_built rs (stand c there);
      }

  pub wired : (top : ℕ) → top < length D → (S : ℕ → Type 0) → Wired D top rs S
  wired top there S =
      let h : Placed D top = record { lawful = lawful; there = there } in
      record {
        begins = begins_exactly h S;
        carries = carries_exactly h S rs stand;
        spaced = λ apart. units_spaced (record { placed = h; starts = apart });
        one_driver = λ apart u. one_in_unit (record { placed = h; starts = apart }) u rs stand;
      }
