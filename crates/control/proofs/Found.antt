-- What stands in a judged file for one of its components: its ports and how long it lasts, where its groups of records begin and where it ends.
-- Assumes nothing.
use Prim.Native.Nat.{ℕ, suc, ◌+◌, ◌-◌, ◌≤◌, ◌<◌}
use mathlib.Core.Bool.{true, false, not, false≢true}
use mathlib.Core.Path.{◌≡◌, refl, sym, ap, ◌∙◌}
use lib.Dec.{eqb}
use borrow.Author.Tests.{lt-ltb, le-ltb, ne_eqb}
use mathlib.Core.List.{List}
use native.Mathlib.Omega.{arith}
use native.Mathlib.Nat.{le-max_left, le-max_right, max-le}
use native.Mathlib.Decide.{dec_lt}
use lib.ListN.{length}
use Rattle.signatures.specs.declared.Signature.{Signature}
use Rattle.reading.specs.Tests.{is_built}
use Rattle.control.specs.Stands.{can_lower}
use Rattle.timeline.specs.Design.{Design, Class, leaf, Port, output, built, class, input_count, output_count, invocation_count, input}
use Rattle.timeline.specs.Rules.{Counts}
use Rattle.entry.specs.Numbers.{component_number, input_number, output_number, instance_number, invocation_number, connection_number}
use Rattle.reading.specs.Reader.{Row}
use Rattle.reader.specs.Rows.{row, row_in}
use Rattle.look.specs.Look.{look}
use Rattle.groups.specs.Groups.{design_of, Opened, past_ports, end_of}
use Rattle.groups.proofs.Laws.{row_is, input_says, output_says, component_ends, end_is, next_below}
use Rattle.rows.specs.Rows.{latest, lasting}
use Rattle.rows.proofs.Laws.{latest_above, latest_least}
use Rattle.control.proofs.Places.{from_first}
use Rattle.control.proofs.Reached.{Lasts}

pub built_class : (k : Class) → is_built k ≡ true → k ≡ built
unfolding is_built
built_class leaf e = absurd (false≢true e)
built_class built e = refl

module _ {file rows : List ℕ} {n : ℕ} (h : Opened file rows n) where
  abbrev D : Design
  D = design_of file n

  pub none_there : (c : ℕ) → length D ≤ c → can_lower D c ≡ false
  none_there c l = rw (le-ltb c (length D) l)

  module _ (c : ℕ) (there : c < length D) where
    pub counts_of : Counts D c
    counts_of = h.lawful.counts c there

    -- What the row says of the class.
    module _ (r : Signature) (e : row r ≡ row_in rows c) where
      says_class : is_built (class D c) ≡ not (eqb r.class 0)
      says_class = sym (ap (λ (w : Row). w.built) (e ∙ row_is h c there))

      pub leaf_there : r.class ≡ 0 → can_lower D c ≡ false
      leaf_there z = rw (lt-ltb c (length D) there, says_class, z)

      pub built_there : (r.class ≡ 0 → ⊥) → class D c ≡ built
      built_there z = built_class (class D c) (says_class ∙ rw (ne_eqb r.class 0 z))

    -- The port of input i, and that of output o, counted from the component record on.
    pub input_found : (i : ℕ) → i < input_count D c → look file (component_number D c + 1 + i) ≡ input D c i
    unfolding input_number
    input_found i l = input_says h c there i l

    pub output_found : (o : ℕ) → o < output_count D c → look file (component_number D c + 1 + (input_count D c + o)) ≡ output D c o
    unfolding input_number output_number
    output_found o l =
        let e : component_number D c + 1 + (input_count D c + o) ≡ component_number D c + 1 + input_count D c + o = omega arith in
        rw e (output_says h c there o l)

    -- How long the component lasts, by the ports in the file.
    pub lasts : Lasts D c (lasting file (component_number D c) (input_count D c + output_count D c))
    unfolding lasting
    lasts =
        let a = le-max_left 1 (latest file (component_number D c + 1) (input_count D c + output_count D c)) in
        let b = le-max_right 1 (latest file (component_number D c + 1) (input_count D c + output_count D c)) in
        record {
          one = a;
          inputs = λ i l.
              let e = ap (λ (p : Port). p.end) (input_found i l) in
              let k = latest_above file (component_number D c + 1) (input_count D c + output_count D c) i (omega arith) in
              omega arith;
          outputs = λ o l.
              let e = ap (λ (p : Port). p.end) (output_found o l) in
              let k = latest_above file (component_number D c + 1) (input_count D c + output_count D c) (input_count D c + o) (omega arith) in
              omega arith;
          least = λ x one inputs outputs.
              max-le one (latest_least file (component_number D c + 1) (input_count D c + output_count D c) x (each x inputs outputs));
        }
      where
        each : (x : ℕ) → ((i : ℕ) → i < input_count D c → (input D c i).end ≤ x) → ((o : ℕ) → o < output_count D c → (output D c o).end ≤ x)
            → (p : ℕ) → p < input_count D c + output_count D c → (look file (component_number D c + 1 + p)).end ≤ x
        each x inputs outputs p l = go (dec_lt p (input_count D c))
          where
            go : Dec (p < input_count D c) → (look file (component_number D c + 1 + p)).end ≤ x
            go (yes k) = rw (input_found p k) (inputs p k)
            go (no k) =
                let e : p ≡ input_count D c + (p - input_count D c) = omega arith in
                let m : p - input_count D c < output_count D c = omega arith in
                let q = output_found (p - input_count D c) m in
                rw (e, q) (outputs (p - input_count D c) m)

    pub lasting_most : lasting file (component_number D c) (input_count D c + output_count D c) ≤ 1024
    lasting_most =
        let r = h.lawful.ranges c there in
        lasts.least 1024 (omega arith) (λ i l. (r.input_range i l).most) (λ o l. (r.output_range o l).most)

    -- Where the instances begin, by the component's row.
    pub instances_from : past_ports (row_in rows c) ≡ instance_number D c 0
    unfolding input_number output_number instance_number
    instances_from = rw (row_is h c there) (omega arith)

    module _ (is_built : class D c ≡ built) where
      pub connections_end : component_number D (suc c) ≡ connection_number D c 0 + output_count D c
      unfolding connection_number
      connections_end = let a = component_ends h c there is_built in omega arith

      -- Where the connections end, by the table and the component's row.
      pub connections_to : (components : ℕ) → components ≡ length D → end_of rows components n c ≡ connection_number D c 0 + (row_in rows c).outputs
      connections_to components e =
          let d = ap (λ (v : Row). v.outputs) (row_is h c there) in
          let a = end_is h c there components e ∙ connections_end in
          omega arith

      pub instances_below : instance_number D c 0 ≤ n
      unfolding connection_number instance_number invocation_number
      instances_below =
          let a = connections_end in
          let k = next_below h c there in
          let f = from_first D c (invocation_count D c) in
          omega arith
