-- Rows that are right for a component, in any order and with its guards split in any way, drive what its timetable drives. Its own rows are right.
-- Assumes nothing.
use Rattle.std.specs.Prelude.{ℕ, ◌+◌, ◌-◌, ◌≤◌, ◌<◌, ◌≡◌, refl, List, [], ◌∷◌, ◌↔◌}
use Rattle.std.proofs.Math.ListN.{get_or}
use native.Mathlib.Omega.{arith}
use Rattle.timeline.specs.Design.{Design, Source, built, class, delay, input_count, output_count, invocation_count, input, invoked, offset, argument, connection}
use Rattle.timeline.specs.Rules.{PortRange, Whole, Holds}
use Rattle.timeline.proofs.Down.{Placed, use_ranges}
use Rattle.entry.specs.Records
use Rattle.entry.specs.Records.{Record, wrong, part}
use Rattle.entry.specs.Numbers.{argument_number, connection_number, Standing}
use Rattle.timetable.specs.Lists.{Has}
use Rattle.timetable.specs.Table.{TableDrives, TableStarts, TableConnects}
use Rattle.timetable.specs.States.{states}
use Rattle.timetable.specs.Rows.{Row, register, go, guard, out, first_state, last_state, register_row, go_row, guard_row, out_row, rows}
use Rattle.timetable.specs.Places.{RowOf}
use Rattle.timetable.specs.Drives.{StateActive, RowsDrive, RowsStart, RowsConnect}
use Rattle.timetable.proofs.Rows.{rows_are}
use Rattle.timetable.proofs.States.{states_cover}

-- Some guard of input i of invocation j, with record r, has state q.
pub record Guarded (l : List Row) (j i r q : ℕ) : Type 0 where
  pub first : ℕ
  pub last : ℕ
  pub guard_row : Has l (guard j i first last r)
  pub from : first ≤ q
  pub upto : q ≤ last

-- State q is one in which the timetable drives input i of invocation j, by the argument in record r.
pub record Wanted (D : Design) (c j i r q : ℕ) : Type 0 where
  pub invocation_there : j < invocation_count D c
  pub input_there : i < input_count D (invoked D c j)
  pub record_is : r ≡ argument_number D c j i
  pub during : Holds (input D (invoked D c j) i) (offset D c j) q

-- A register with no state too few, the component's own go and output rows, and guards with the wanted states.
pub record Right (D : Design) (c : ℕ) (l : List Row) : Type 0 where
  pub delay_said : ℕ
  pub states_said : ℕ
  pub register_said : Has l (register delay_said states_said)
  pub enough : states D c ≤ states_said
  pub goes : (j n k : ℕ) → Has l (go j n k) ↔ RowOf D c (go j n k)
  pub guards : (j i r q : ℕ) → Guarded l j i r q ↔ Wanted D c j i r q
  pub outs : (o r : ℕ) → Has l (out o r) ↔ RowOf D c (out o r)

module _ {D : Design} {c : ℕ} (h : Placed D c) where
  pub input_range : (j i : ℕ) → j < invocation_count D c → i < input_count D (invoked D c j) → PortRange (input D (invoked D c j) i)
  input_range j i l k = (use_ranges h (j ∷ []) (l, tt)).input_range i k

  whole : Whole D c
  whole = h.lawful.whole c h.there

  -- From k+s to k+e−1 is from k+s to before k+e, where the interval is not empty.
  wanted : (j i r q : ℕ) → Guarded (rows D c) j i r q → Wanted D c j i r q
  unfolding guard_row first_state last_state
  wanted j i r q g =
      let a = (rows_are D c (guard j i g.first g.last r)).0 g.guard_row in
      let b = (input_range j i a.0 a.1).some in
      let f : g.first ≡ first_state D c j i = cc a.2 in
      let l : g.last ≡ last_state D c j i = cc a.2 in
      record {
        invocation_there = a.0;
        input_there = a.1;
        record_is = cc a.2;
        during = record { from = omega (arith, g.from); upto = omega (arith, g.upto) };
      }

  guarded : (j i r q : ℕ) → Wanted D c j i r q → Guarded (rows D c) j i r q
  unfolding guard_row first_state last_state
  guarded j i r q w =
      record {
        first = first_state D c j i;
        last = last_state D c j i;
        guard_row = (rows_are D c (guard j i _ _ r)).1 (w.invocation_there, w.input_there, cc w.record_is);
        from = omega (arith, w.during);
        upto = omega (arith, w.during);
      }

  pub rows_right : Right D c (rows D c)
  unfolding register_row
  rows_right =
      record {
        delay_said = delay D c;
        states_said = states D c;
        register_said = (rows_are D c (register (delay D c) (states D c))).1 refl;
        enough = omega arith;
        goes = λ j n k. rows_are D c (go j n k);
        guards = λ j i r q. (wanted j i r q, guarded j i r q);
        outs = λ o r. rows_are D c (out o r);
      }

  module _ (l : List Row) (right : Right D c l) (S : ℕ → Type 0) where
    -- A state below n is active if a start lay so many cycles before.
    active : (x q t : ℕ) → S t → t + q ≡ x → q < states D c → StateActive l S x q t
    active x q t s e b =
        record {
          delay = right.delay_said;
          states = right.states_said;
          row = right.register_said;
          active = record { below = omega (arith, right.enough); started = s; before = e };
        }

    module _ (rs : List Record) (standing : Standing D c rs) (x n i : ℕ) (s : Source) (r j t : ℕ) where
      read_argument : j < invocation_count D c → i < input_count D (invoked D c j) → r ≡ argument_number D c j i → get_or rs r wrong ≡ part (Records.argument (argument D c j i))
      read_argument b k e = rw e ((standing.argument_at j b i (omega (arith, whole.all_arguments j b))).is wrong)

      to_table : RowsDrive l rs S x n i s r j t → TableDrives D c S x n i s r j t
      unfolding go_row
      to_table d =
          let w = (right.guards j i r d.state).0 (record { first = d.first; last = d.last; guard_row = d.guard_row; from = d.from; upto = d.upto }) in
          let g = (right.goes j n d.begin).0 d.go_row in
          let a = d.active.active.before in
          let m = read_argument w.invocation_there w.input_there w.record_is in
          let q : part (Records.argument s) ≡ part (Records.argument (argument D c j i)) = cc (d.read, m) in
          record {
            started = d.active.active.started;
            invocation_there = w.invocation_there;
            instance_is = cc g.1;
            input_there = w.input_there;
            during = record { from = omega (arith, w.during); upto = omega (arith, w.during) };
            source_is = cc;
            record_is = w.record_is;
          }

      to_rows : TableDrives D c S x n i s r j t → RowsDrive l rs S x n i s r j t
      unfolding go_row
      to_rows d =
          let a = (states_cover D c).inputs j d.invocation_there i d.input_there in
          let m = read_argument d.invocation_there d.input_there d.record_is in
          let u = d.during in
          let g = (right.guards j i r (x - t)).1 (record {
            invocation_there = d.invocation_there;
            input_there = d.input_there;
            record_is = d.record_is;
            during = record { from = omega arith; upto = omega arith };
          }) in
          record {
            state = x - t;
            first = g.first;
            last = g.last;
            begin = offset D c j;
            active = active x (x - t) t d.started (omega arith) (omega arith);
            guard_row = g.guard_row;
            from = g.from;
            upto = g.upto;
            go_row = (right.goes j n (offset D c j)).1 (d.invocation_there, cc d.instance_is);
            read = rw d.source_is m;
          }

      pub drives_exactly : RowsDrive l rs S x n i s r j t ↔ TableDrives D c S x n i s r j t
      drives_exactly = (to_table, to_rows)

    pub starts_exactly : (x n j t : ℕ) → RowsStart l S x n j t ↔ TableStarts D c S x n j t
    unfolding go_row
    starts_exactly x n j t = (
      λ d.
          let g = (right.goes j n d.state).0 d.go_row in
          let k : d.state ≡ offset D c j = cc g.1 in
          record {
            started = d.active.active.started;
            invocation_there = g.0;
            instance_is = cc g.1;
            when = omega (arith, d.active.active.before);
          },
      λ d.
          let a = (states_cover D c).starts j d.invocation_there in
          record {
            state = offset D c j;
            active = active x (offset D c j) t d.started d.when (omega arith);
            go_row = (right.goes j n (offset D c j)).1 (d.invocation_there, cc d.instance_is);
          },
    )

  -- Of a built component every own output has a connection.
  pub connects_exactly : (l : List Row) → Right D c l → (rs : List Record) → Standing D c rs → class D c ≡ built → (o : ℕ) (s : Source) (r : ℕ)
      → RowsConnect l rs o s r ↔ TableConnects D c o s r
  unfolding out_row
  connects_exactly l right rs standing is_built o s r = (
    λ d.
        let a = (right.outs o r).0 d.out_row in
        let e : r ≡ connection_number D c o = cc a.1 in
        let m = read_connection a.0 e in
        let q : part (Records.connection s) ≡ part (Records.connection (connection D c o)) = cc (d.read, m) in
        record { output_there = a.0; source_is = cc; record_is = e },
    λ d.
        let m = read_connection d.output_there d.record_is in
        record { out_row = (right.outs o r).1 (d.output_there, cc d.record_is); read = rw d.source_is m },
  )
    where
      read_connection : o < output_count D c → r ≡ connection_number D c o → get_or rs r wrong ≡ part (Records.connection (connection D c o))
      read_connection k e = rw e ((standing.connection_at o (omega (arith, whole.all_connections is_built))).is wrong)
