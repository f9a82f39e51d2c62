-- What the rows of every unit carry is what the wires of demand 3 carry: step by step, each row says what the design says there.
-- Assumes nothing.
use Rattle.std.specs.Prelude.{ℕ, ◌+◌, ◌≤◌, ◌<◌, ◌≡◌, List, ◌∷◌, ◌↔◌, length}
use Rattle.std.proofs.Math.Path.{refl, sym, ap}
use Rattle.std.proofs.Common.{◌∙◌, arith}
use Rattle.timeline.specs.Design.{Design, Source, own, output_of, constant, built, class, input_count, invocation_count, input, instance, invoked, offset, argument, connection}
use Rattle.timeline.specs.Rules.{Holds, Whole, There, Rules}
use Rattle.timeline.specs.Uses.{reach, PathOf, unit, after}
use Rattle.timeline.specs.Wires
use Rattle.timeline.specs.Wires.{Pin, component_of, invoked_unit, Carries}
use Rattle.timeline.proofs.Down.{Placed, path_there, unit_component, instances_down}
use Rattle.entry.specs.Records.{Record}
use Rattle.entry.specs.Numbers.{argument_number, connection_number, Standing}
use Rattle.timetable.specs.Lists.{Has}
use Rattle.timetable.specs.Table.{TableDrives, TableConnects}
use Rattle.timetable.specs.Rows.{go, go_row, rows}
use Rattle.timetable.specs.Drives.{RowsDrive, RowsConnect}
use Rattle.timetable.specs.Units.{unit_rows, UnitThere, SourceThere, RowsBegin, UseBegins, RowsCarry, by_constant, by_top, by_leaf, by_connection, by_argument}
use Rattle.timetable.proofs.Rows.{rows_are}
use Rattle.timetable.proofs.Right.{rows_right, drives_exactly, connects_exactly}
use Rattle.timetable.proofs.Begun.{begun_component, begins_exactly}

there_more : (D : Design) (c n m : ℕ) (s : Source) → n ≤ m → There D c n s → There D c m s
there_more D c n m (own i) l h = h
there_more D c n m (output_of j o) l h = (omega (arith, h.0), h.1, h.2)
there_more D c n m (constant v) l h = tt

-- The instance that a go row names is the invocation's.
go_names : (D : Design) (c j n k : ℕ) → Has (rows D c) (go j n k) → (j < invocation_count D c) × (n ≡ instance D c j)
unfolding go_row
go_names D c j n k g = let e = (rows_are D c (go j n k)).0 g in (e.0, cc e.1)

names_go : (D : Design) (c j : ℕ) → j < invocation_count D c → Has (rows D c) (go j (instance D c j) (offset D c j))
unfolding go_row
names_go D c j l = (rows_are D c (go j (instance D c j) (offset D c j))).1 (l, refl)

module _ (D : Design) (top : ℕ) where
  -- The unit around is of the component around.
  around : (u : List ℕ) (n j : ℕ) (p : List ℕ) → n ∷ u ≡ unit D top (j ∷ p) → component_of D top u ≡ reach D top p
  around u n j p e = let v : u ≡ unit D top p = cc (e) in ap (component_of D top) v ∙ unit_component D top p

module _ {D : Design} {top : ℕ} (h : Placed D top) (S : ℕ → Type 0) (rs : List Record) (standing : (c : ℕ) → c < length D → Standing D c rs) (x : ℕ) where
  unit_placed : (u : List ℕ) → UnitThere D top u → Placed D (component_of D top u)
  unit_placed u p = record { lawful = h.lawful; there = path_there (instances_down h) u p }

  rules : (u : List ℕ) → UnitThere D top u → Rules D (component_of D top u)
  rules u p = h.lawful.rules (component_of D top u) (unit_placed u p).there

  whole : (u : List ℕ) → UnitThere D top u → Whole D (component_of D top u)
  whole u p = h.lawful.whole (component_of D top u) (unit_placed u p).there

  invoked_there : (u : List ℕ) (j : ℕ) → UnitThere D top u → j < invocation_count D (component_of D top u) → UnitThere D top (invoked_unit D top u j)
  invoked_there u j p l = ((rules u p).references.named j l, p)

  -- What the timetable of the unit around drives an own input with, the guard of the use that begins that unit lets through; and the other way round.
  guard_wire : (u : List ℕ) (n i : ℕ) (s : Source) (w : Pin) (r j t : ℕ) → UseBegins D top S u t
      → TableDrives D (component_of D top u) (RowsBegin D top S u) x n i s r j t → Carries D top S x u s w → Carries D top S x (n ∷ u) (own i) w
  guard_wire u n i s w r j t b d m =
      let q : component_of D top u ≡ reach D top b.path = begun_component h b in
      let y : Holds (input D (invoked D (reach D top b.path) j) i) (t + offset D (reach D top b.path) j) x = rw q at d.during in
      Wires.by_argument {n = n} {u = u} {i = i} {w = w} b.start j b.path b.started (rw q at d.invocation_there, b.is_path)
      (cc (d.instance_is, b.unit_is, q)) (record { from = omega (arith, y, b.when); upto = omega (arith, y, b.when) }) (rw (d.source_is, q) at m)

  wire_guard : (u : List ℕ) (n i t j : ℕ) (p : List ℕ) → S t → PathOf D top (j ∷ p) → n ∷ u ≡ unit D top (j ∷ p)
      → Holds (input D (reach D top (j ∷ p)) i) (t + after D top (j ∷ p)) x → i < input_count D (reach D top (j ∷ p))
      → TableDrives D (component_of D top u) (RowsBegin D top S u) x n i (argument D (component_of D top u) j i) (argument_number D (component_of D top u) j i) j (t + after D top p)
  wire_guard u n i t j p s v e y k =
      let b : UseBegins D top S u (t + after D top p) = record { start = t; started = s; path = p; is_path = v.1; unit_is = cc (e); when = refl } in
      let q = around D top u n j p e in
      let o : n ≡ instance D (reach D top p) j = cc (e) in
      record {
        started = (begins_exactly h S u (t + after D top p)).1 b;
        invocation_there = rw q v.0;
        instance_is = rw q o;
        input_there = rw q k;
        during = rw q (record { from = omega (arith, y); upto = omega (arith, y) });
        source_is = refl;
        record_is = refl;
      }

  drives : (u : List ℕ) → UnitThere D top u → (n i : ℕ) (s : Source) (r j t : ℕ)
      → RowsDrive (unit_rows D top u) rs (RowsBegin D top S u) x n i s r j t ↔ TableDrives D (component_of D top u) (RowsBegin D top S u) x n i s r j t
  drives u p n i s r j t =
      let a = unit_placed u p in
      drives_exactly a (unit_rows D top u) (rows_right a) (RowsBegin D top S u) rs (standing (component_of D top u) a.there) x n i s r j t

  connects : (u : List ℕ) → UnitThere D top u → class D (component_of D top u) ≡ built → (o : ℕ) (s : Source) (r : ℕ)
      → RowsConnect (unit_rows D top u) rs o s r ↔ TableConnects D (component_of D top u) o s r
  connects u p is_built o s r =
      let a = unit_placed u p in
      connects_exactly a (unit_rows D top u) (rows_right a) rs (standing (component_of D top u) a.there) is_built o s r

  to_wires : {u : List ℕ} {s : Source} {w : Pin} → RowsCarry D top S rs x u s w → UnitThere D top u → Carries D top S x u s w
  to_wires by_constant p = Wires.by_constant
  to_wires by_top p = Wires.by_top
  to_wires (by_leaf {u = u} {j = j} {o = o} n k g c) p =
      let e = go_names D (component_of D top u) j n k g in
      rw e.1 (Wires.by_leaf {u = u} {j = j} {o = o} (rw e.1 at c))
  to_wires (by_connection {u = u} {j = j} {o = o} {w = w} n k r s g c d m) p =
      let e = go_names D (component_of D top u) j n k g in
      let q : UnitThere D top (n ∷ u) = rw e.1 (invoked_there u j p e.0) in
      let f = (connects (n ∷ u) q c o s r).0 d in
      let v = to_wires m q in
      Wires.by_connection {u = u} {j = j} {o = o} {w = w} (rw e.1 at c) (rw (f.source_is, e.1) at v)
  to_wires (by_argument {u = u} {n = n} {i = i} {w = w} r j t s d m) p =
      let f = (drives u p.1 n i s r j t).0 d in
      guard_wire u n i s w r j t ((begins_exactly h S u t).0 f.started) f (to_wires m p.1)

  to_rows : {u : List ℕ} {s : Source} {w : Pin} → Carries D top S x u s w → UnitThere D top u → SourceThere D top u s → RowsCarry D top S rs x u s w
  unfolding invoked
  to_rows Wires.by_constant p a = by_constant
  to_rows Wires.by_top p a = by_top
  to_rows (Wires.by_leaf {u = u} {j = j} {o = o} c) p a =
      by_leaf (instance D (component_of D top u) j) (offset D (component_of D top u) j) (names_go D (component_of D top u) j a.1) c
  to_rows (Wires.by_connection {u = u} {j = j} {o = o} {w = w} c m) p a =
      let v = invoked_unit D top u j in
      let q = invoked_there u j p a.1 in
      let k = (whole v q).all_connections c in
      let s = connection D (component_of D top v) o in
      let r = connection_number D (component_of D top v) o in
      by_connection (instance D (component_of D top u) j) (offset D (component_of D top u) j) r s
      (names_go D (component_of D top u) j a.1) c
      ((connects v q c o s r).1 (record { output_there = a.2; source_is = refl; record_is = refl }))
      (to_rows m q ((rules v q).references.connection_there o (omega (arith, a.2))))
  to_rows (Wires.by_argument {n = n} {u = u} {i = i} {w = w} t j p s v e y m) q a =
      let c = component_of D top u in
      let z : component_of D top (n ∷ u) ≡ reach D top (j ∷ p) = ap (component_of D top) e ∙ unit_component D top (j ∷ p) in
      let d = wire_guard u n i t j p s v e y (rw z at a) in
      let k = (whole u q.1).all_arguments j d.invocation_there in
      let b = (rules u q.1).references.argument_there j d.invocation_there i (omega (arith, d.input_there)) in
      let f : reach D top p ≡ c = sym (around D top u n j p e) in
      by_argument (argument_number D c j i) j (t + after D top p) (argument D c j i) ((drives u q.1 n i _ _ j _).1 d)
      (rw f at (to_rows m q.1 (rw f (there_more D c j (invocation_count D c) (argument D c j i) (omega (arith, d.invocation_there)) b))))

  pub carries_exactly : (u : List ℕ) (s : Source) (w : Pin) → UnitThere D top u → SourceThere D top u s → RowsCarry D top S rs x u s w ↔ Carries D top S x u s w
  carries_exactly u s w p a = (λ m. to_wires m p, λ m. to_rows m p a)
