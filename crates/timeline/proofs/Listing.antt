-- What the flat listing ensures, proved: its rows are the unit starts of demand 3, each once, and its unit numbers tell units apart.
-- Assumes nothing.
use Rattle.std.specs.Prelude.{ℕ, ◌<◌, ◌≡◌, refl, [], map, length, get_or}
use Rattle.std.proofs.Common.{ap}
use Rattle.timeline.specs.Design.{Design}
use Rattle.timeline.specs.Rules.{Lawful}
use Rattle.timeline.specs.Paths.{by_invocations, by_instances}
use Rattle.timeline.specs.Demand3.{Use, unit_of}
use Rattle.timeline.specs.Flat.{LeafPath, InOrder, rows, uses, unit_number, row_of}
use Rattle.timeline.proofs.Down.{Placed, instances_down, invocations_down}
use Rattle.timeline.proofs.Leaves.{in_order, place_tells}
use Rattle.timeline.proofs.Rows.{rows_of_uses, rows_length, use_row, unit_leaf}
use Rattle.timeline.specs.Listing.{no_row, Listed}

-- The units, "invoked or not", are numbered from 0 to their count: a unit's number is its place in the list that goes depth first by rising instance number.
pub units_in_order : (D : Design) → Lawful D → (top : ℕ) → top < length D → InOrder D (by_instances D) top
units_in_order D lawful top there = in_order (instances_down (record { lawful = lawful; there = there }))

-- The uses of leaf units are listed each once, as the rows are.
pub uses_in_order : (D : Design) → Lawful D → (top : ℕ) → top < length D → InOrder D (by_invocations D) top
uses_in_order D lawful top there = in_order (invocations_down (record { lawful = lawful; there = there }))

pub rows_are_uses : (D : Design) (top : ℕ) → rows D top ≡ map (row_of D top) (uses D top)
rows_are_uses D top = rows_of_uses D top

-- The use as a path to a leaf.
use_path : (D : Design) (top : ℕ) (S : ℕ → Type 0) (u : Use D top S) → LeafPath D (by_invocations D) top u.path
use_path D top S u = record { path = u.is_path; to_leaf = u.to_leaf }

pub flat_listing : (D : Design) → Lawful D → (top : ℕ) → top < length D → (S : ℕ → Type 0) → Listed D top S
unfolding rows row_of
flat_listing D lawful top there S =
    let h : Placed D top = record { lawful = lawful; there = there } in
    let o = uses_in_order D lawful top there in
    record {
      row_total = rows_length D top 0 0;
      use_has_row = λ u. (o.placed u.path (use_path D top S u)).0;
      row_cycle = λ u. rw (use_row h u.path (use_path D top S u) no_row);
      row_unit = λ u. rw (use_row h u.path (use_path D top S u) no_row);
      row_component = λ u. rw (use_row h u.path (use_path D top S u) no_row);
      row_has_use = λ t i s l. let r = o.listed i l in
          (record { start = t; started = s; path = get_or (uses D top) i []; is_path = r.0.path; to_leaf = r.0.to_leaf }, refl, r.1);
      row_of_one = λ u v e f. (e, place_tells (invocations_down h) u.path v.path (use_path D top S u) (use_path D top S v) f);
      number_tells = λ u v. (
        place_tells (instances_down h) _ _ (unit_leaf h u.path (use_path D top S u)) (unit_leaf h v.path (use_path D top S v)),
        ap (unit_number D top),
      );
      number_below = λ u. ((units_in_order D lawful top there).placed (unit_of D top S u) (unit_leaf h u.path (use_path D top S u))).0;
    }
