-- The units below a top are started by the rows around them exactly when the uses of demand 3 start them.
-- So their starts keep their delay apart, and at most one invocation of one start drives an input.
-- Assumes nothing.
use Rattle.std.specs.Prelude.{ℕ, ◌+◌, ◌≤◌, ◌<◌, ◌≡◌, refl, List, [], ◌∷◌, ◌↔◌, length}
use Rattle.std.proofs.Common.{sym, ap, ◌∙◌, inl, inr, ⊎_elim, arith}
use Rattle.timeline.specs.Design.{Design, built, class, delay, instance, offset}
use Rattle.timeline.specs.Uses.{Spaced, reach, PathOf, unit, after, lasts}
use Rattle.timeline.specs.Wires.{component_of}
use Rattle.timeline.proofs.Takes.{takes_built}
use Rattle.timeline.proofs.Down.{Placed, Started, has_parts, unit_component, invocations_down, use_there}
use Rattle.timeline.proofs.Apart.{nil≢cons, Once, once}
use Rattle.entry.specs.Records.{Record}
use Rattle.entry.specs.Numbers.{Standing}
use Rattle.timetable.specs.Drives.{OneDriver}
use Rattle.timetable.specs.Units.{unit_rows, RowsBegin, UseBegins}
use Rattle.timetable.proofs.Right.{rows_right, drives_exactly, starts_exactly}
use Rattle.timetable.proofs.One.{one_driver}

top_path : (D : Design) (top : ℕ) (p : List ℕ) → unit D top p ≡ [] → p ≡ []
top_path D top [] e = refl
top_path D top (j ∷ p) e = absurd (nil≢cons (sym e))

module _ {D : Design} {top : ℕ} (h : Placed D top) {S : ℕ → Type 0} where
  -- The unit's component is the one that the use's path leads to.
  pub begun_component : {u : List ℕ} {x : ℕ} (b : UseBegins D top S u x) → component_of D top u ≡ reach D top b.path
  begun_component b = ap (component_of D top) (sym b.unit_is) ∙ unit_component D top b.path

  begun_placed : {u : List ℕ} {x : ℕ} → UseBegins D top S u x → Placed D (component_of D top u)
  begun_placed b = record { lawful = h.lawful; there = rw (begun_component b) (use_there h b.path b.is_path) }

module _ {D : Design} {top : ℕ} (h : Placed D top) (S : ℕ → Type 0) where
  -- One level down, by an invocation in the use that begins the unit around.
  up : (u : List ℕ) (n x : ℕ) → ((t : ℕ) → RowsBegin D top S u t → UseBegins D top S u t) → RowsBegin D top S (n ∷ u) x → UseBegins D top S (n ∷ u) x
  up u n x around (j, t, r) =
      let b = around t r.active.active.started in
      let d = (starts_exactly (begun_placed h b) (unit_rows D top u) (rows_right (begun_placed h b)) (RowsBegin D top S u) x n j t).0 r in
      let q = begun_component h b in
      let o : offset D (component_of D top u) j ≡ offset D (reach D top b.path) j = ap (λ c. offset D c j) q in
      record {
        start = b.start;
        started = b.started;
        path = j ∷ b.path;
        is_path = (rw q at d.invocation_there, b.is_path);
        unit_is = cc (d.instance_is, b.unit_is, q);
        when = omega (arith, d.when, b.when);
      }

  down : (u : List ℕ) (n x : ℕ) → ((t : ℕ) → UseBegins D top S u t → RowsBegin D top S u t)
      → (p : List ℕ) (b : UseBegins D top S (n ∷ u) x) → b.path ≡ p → RowsBegin D top S (n ∷ u) x
  down u n x around [] b e = absurd (nil≢cons (sym (ap (unit D top) e) ∙ b.unit_is))
  down u n x around (j ∷ p) b e =
      let v : unit D top (j ∷ p) ≡ n ∷ u = sym (ap (unit D top) e) ∙ b.unit_is in
      let w : PathOf D top (j ∷ p) = rw e at b.is_path in
      let i : instance D (reach D top p) j ≡ n = cc (v) in
      let t = b.start + after D top p in
      let a : UseBegins D top S u t = record { start = b.start; started = b.started; path = p; is_path = w.1; unit_is = cc (v); when = refl } in
      let q : component_of D top u ≡ reach D top p = begun_component h a in
      let m : after D top b.path ≡ after D top p + offset D (reach D top p) j = ap (after D top) e in (
        j,
        t,
        (starts_exactly (begun_placed h a) (unit_rows D top u) (rows_right (begun_placed h a)) (RowsBegin D top S u) x n j t).1 (record {
          started = around t a;
          invocation_there = rw q w.0;
          instance_is = rw q (sym i);
          when = rw q (omega (arith, b.when));
        }),
      )

  pub begins_exactly : (u : List ℕ) (x : ℕ) → RowsBegin D top S u x ↔ UseBegins D top S u x
  begins_exactly [] x = (
    λ s. record { start = x; started = s; path = []; is_path = tt; unit_is = refl; when = omega arith },
    λ b.
        let a : after D top b.path ≡ 0 = ap (after D top) (top_path D top b.path b.unit_is) in
        let e : b.start ≡ x = omega (arith, b.when) in
        rw e at b.started,
  )
  begins_exactly (n ∷ u) x = (
    up u n x (λ t. (begins_exactly u t).0),
    λ b. down u n x (λ t. (begins_exactly u t).1) b.path b refl,
  )

  pub unit_placed : (u : List ℕ) (x : ℕ) → RowsBegin D top S u x → Placed D (component_of D top u)
  unit_placed u x s = begun_placed h ((begins_exactly u x).0 s)

lasts_delay : (D : Design) (top : ℕ) (p : List ℕ) → class D (reach D top p) ≡ built → lasts D top p ≡ delay D (reach D top p)
lasts_delay D top [] e = refl
lasts_delay D top (j ∷ p) e = takes_built D (reach D top p) j e

module _ {D : Design} {top : ℕ} {S : ℕ → Type 0} (g : Started D top S) (u : List ℕ) where
  pub units_spaced : class D (component_of D top u) ≡ built → Spaced (delay D (component_of D top u)) (RowsBegin D top S u)
  units_spaced is_built = record { spaced = λ x y r s l. far x y ((begins_exactly g.placed S u x).0 r) ((begins_exactly g.placed S u y).0 s) l }
    where
      apart : (x y : ℕ) (a : UseBegins D top S u x) (b : UseBegins D top S u y) → x < y
          → Once a.start a.path (after D top a.path) (lasts D top a.path) b.start b.path (after D top b.path) (lasts D top b.path)
          → x + delay D (component_of D top u) ≤ y
      apart x y a b l (inl e) =
          let m : after D top a.path ≡ after D top b.path = ap (after D top) e.1 in
          absurd (omega (arith, a.when, b.when, e.0))
      apart x y a b l (inr e) =
          let q = begun_component g.placed a in
          let m : lasts D top a.path ≡ delay D (reach D top a.path) = lasts_delay D top a.path (rw q at is_built) in
          let d : delay D (component_of D top u) ≡ delay D (reach D top a.path) = ap (delay D) q in
          ⊎_elim (λ z. omega (arith, a.when, b.when)) (λ z. omega (arith, a.when, b.when)) e

      far : (x y : ℕ) → UseBegins D top S u x → UseBegins D top S u y → x < y → x + delay D (component_of D top u) ≤ y
      far x y a b l =
          apart x y a b l
          (once g a.start b.start a.started b.started a.path b.path a.is_path b.is_path (a.unit_is ∙ sym b.unit_is))

  module _ (rs : List Record) (standing : (c : ℕ) → c < length D → Standing D c rs) where
    pub one_in_unit : OneDriver (unit_rows D top u) rs (RowsBegin D top S u)
    one_in_unit x n i s s' r r' j j' t t' d e =
        let p = unit_placed g.placed S u t d.active.active.started in
        let drives = drives_exactly p (unit_rows D top u) (rows_right p) (RowsBegin D top S u) rs (standing (component_of D top u) p.there) in
        let a = (drives x n i s r j t).0 d in
        let k : class D (component_of D top u) ≡ built = has_parts (invocations_down p) (component_of D top u) j p.there a.invocation_there in
        one_driver (record { placed = p; starts = units_spaced k }) x n i s s' r r' j j' t t' a ((drives x n i s' r' j' t').0 e)
