-- Where the instances and invocations of an opened component stand, and that its records lie in order.
-- Assumes nothing.
use Prim.Native.Nat.{ℕ, suc, ◌+◌, ◌-◌, ◌*◌, ◌/◌, ◌≤◌, ◌<◌}
use mathlib.Core.Path.{◌≡◌, refl, ap, sym, ◌∙◌}
use mathlib.Core.Bool.{true, false, false≢true}
use mathlib.Core.List.{List}
use native.Mathlib.Omega.{arith}
use native.Mathlib.Numerals.{add-one}
use lib.ListN.{length}
use Rattle.timeline.specs.Design.{Design, Class, leaf, built, class, input_count, output_count, instance_count, invocation_count, made_of, instance, invoked, offset}
use Rattle.entry.specs.Numbers.{component_number, input_number, output_number, instance_number, invocation_number, connection_number}
use Rattle.entry.proofs.Laws.{next_component}
use Rattle.reading.specs.Tests.{is_built}
use Rattle.reading.specs.Reader.{Row}
use Rattle.reader.specs.Rows.{row_in}
use Rattle.groups.specs.Groups.{design_of, Lies, first_number, second_number, past_ports, past_instances, end_of}
use Rattle.groups.proofs.Laws.{lies, row_is, instance_below, invocation_below, instance_says, invocation_says, next_invocation, component_ends, end_is, next_below, past_is}
use Rattle.groups.proofs.Order.{invocations_rise}
use Rattle.counting.specs.Known.{OpenedAt}

module _ (D : Design) (c : ℕ) where
  pub instance_on : (m : ℕ) → instance_number D c m ≡ instance_number D c 0 + m
  unfolding instance_number
  instance_on m = omega arith

  pub instances_end : invocation_number D c 0 ≡ instance_number D c 0 + instance_count D c
  unfolding invocation_number
  instances_end = instance_on (instance_count D c)

  -- Each group of a component's records begins where the one before it ends, or later.
  pub record InOrder : Type 0 where
    pub ports : component_number D c ≤ instance_number D c 0
    pub instances : instance_number D c 0 ≤ invocation_number D c 0
    pub invocations : invocation_number D c 0 ≤ invocation_number D c (invocation_count D c)
    pub connections : invocation_number D c (invocation_count D c) ≤ component_number D (c + 1)

  pub in_order : c < length D → InOrder
  unfolding connection_number input_number output_number instance_number
  in_order h =
      let e = next_component D c h in
      let i = instances_end in
      let z : invocation_count D c + 0 ≡ invocation_count D c = omega arith in
      let j = rw z at (invocations_rise D c (invocation_count D c) 0) in
      record { ports = omega arith; instances = omega arith; invocations = omega arith; connections = rw (add-one c) (omega arith) }

module _ {file table : List ℕ} {components n c : ℕ} (o : OpenedAt file table components n c) where
  abbrev D : Design
  D = design_of file n

  pub present : c < length D
  present = let e = o.all in let l = o.there in omega arith

  pub few_components : components ≤ 64
  few_components = let e = o.all in let l = o.opened.lawful.few in omega arith

  pub ports_end : past_ports (row_in table c) ≡ instance_number D c 0
  unfolding input_number output_number instance_number
  ports_end = rw (row_is o.opened c present) (omega arith)

  pub component_within : component_number D (c + 1) ≤ n
  component_within = rw (add-one c) (next_below o.opened c present)

  module _ (b : class D c ≡ built) where
    -- Its connections are its last records.
    pub calls_end : end_of table components n c ≡ invocation_number D c (invocation_count D c) + output_count D c
    unfolding connection_number
    calls_end = end_is o.opened c present components o.all ∙ component_ends o.opened c present b

  -- What stands in the record of instance m, counted from the first.
  module _ {first : ℕ} (ef : first ≡ instance_number D c 0) where
    pub instance_read : (m : ℕ) → m < instance_count D c → Lies file (first + m) × (first_number file (first + m) ≡ made_of D c m)
    instance_read m l =
        let e : first + m ≡ instance_number D c m = rw ef (sym (instance_on D c m)) in
        rw e (lies o.opened (instance_number D c m) (instance_below o.opened c present m l), instance_says o.opened c present m l)

    -- And in that of invocation j: its instance and offset; the invoked component stands in the record of the instance.
    pub record Read (i j : ℕ) : Type 0 where
      pub there : Lies file i
      pub instance_there : Lies file (first + first_number file i)
      pub instance_is : first_number file i ≡ instance D c j
      pub component_is : first_number file (first + first_number file i) ≡ invoked D c j
      pub offset_is : second_number file i ≡ offset D c j
      pub named : instance D c j < instance_count D c
      pub lower : invoked D c j < c
      pub next : invocation_number D c (suc j) ≡ i + 1 + input_count D (invoked D c j)

    pub invocation_read : {i j : ℕ} → i ≡ invocation_number D c j → j < invocation_count D c → Read i j
    unfolding invoked
    invocation_read {i} {j} e l =
        let s = invocation_says o.opened c present j l in
        let r = (o.opened.lawful.rules c present).references in
        let m = r.named j l in
        let t = instance_read (instance D c j) m in
        rw e (record {
          there = lies o.opened (invocation_number D c j) (invocation_below o.opened c present j l);
          instance_there = rw s.0 t.0;
          instance_is = s.0;
          component_is = rw s.0 t.1;
          offset_is = s.1;
          named = m;
          lower = r.lower (instance D c j) m;
          next = next_invocation o.opened c present j l;
        })

  pub instance_lower : (m : ℕ) → m < instance_count D c → made_of D c m < c
  instance_lower m l = (o.opened.lawful.rules c present).references.lower m l

  pub few_instances : instance_count D c ≤ 32
  few_instances = (o.opened.lawful.counts c present).few_instances

  pub inputs_are : (d : ℕ) → d < length D → (row_in table d).inputs ≡ input_count D d
  inputs_are d l = ap (λ w. w.inputs) (row_is o.opened d l)

  pub outputs_are : (row_in table c).outputs ≡ output_count D c
  outputs_are = ap (λ w. w.outputs) (row_is o.opened c present)

  -- What finding the end of the instances asks and says.
  module _ {first : ℕ} (ef : first ≡ past_ports (row_in table c)) where
    pub begins : first ≡ instance_number D c 0
    begins = ef ∙ ports_end

    pub instances_asked : (first ≤ n) × (n ≤ 3968) × (n ≤ 31 * (length file / 512))
    instances_asked =
        let e = begins in
        let i = in_order D c present in
        let w = component_within in
        (omega arith, o.opened.few, o.opened.held)

    pub instances_pass : {end : ℕ} → end ≡ past_instances file (n - first) first → (end ≡ first + instance_count D c) × (end ≡ invocation_number D c 0)
    instances_pass {end} e =
        let b = begins in
        let q : end ≡ invocation_number D c 0 = e ∙ rw b (past_is o.opened c present) in
        (q ∙ instances_end D c ∙ ap (λ k. k + instance_count D c) (sym b), q)

  -- The class of the component, from its row.
  module _ {w : Row} (e : w ≡ row_in table c) where
    class_said : is_built (class D c) ≡ w.built
    class_said = sym (ap (λ v. v.built) (e ∙ row_is o.opened c present))

    pub said_built : w.built ≡ true → class D c ≡ built
    unfolding is_built
    said_built t = go (class D c) refl
      where
        go : (k : Class) → class D c ≡ k → class D c ≡ built
        go leaf q = absurd (false≢true (sym (ap is_built q) ∙ class_said ∙ t))
        go built q = q

    pub said_leaf : w.built ≡ false → class D c ≡ leaf
    unfolding is_built
    said_leaf t = go (class D c) refl
      where
        go : (k : Class) → class D c ≡ k → class D c ≡ leaf
        go leaf q = q
        go built q = absurd (false≢true (sym t ∙ sym class_said ∙ ap is_built q))
