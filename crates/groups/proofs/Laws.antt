-- What stands in an opened file: each part of its design under its number, and the row of each component.
-- Assumes nothing.
use Prim.Native.Nat.{ℕ, zero, suc, ◌+◌, ◌-◌, ◌≤◌, ◌<◌}
use mathlib.Core.Bool.{cond}
use mathlib.Core.Path.{◌≡◌, sym, ap, ◌∙◌}
use mathlib.Core.List.{List, [], append-nil}
use mathlib.Core.Logic.{◌≢◌}
use native.Mathlib.Omega.{arith}
use native.Mathlib.Numerals.{add-one}
use native.Mathlib.Decide.{dec_lt}
use lib.ListN.{length}
use lib.Dec.{ltb}
use borrow.Author.Tests.{lt-ltb, le-ltb}
use Rattle.answers.specs.Answer.{accepted, Counts}
use Rattle.numbers.specs.Numbers.{Bytes}
use Rattle.timeline.specs.Design.{Design, built, class, delay, input_count, output_count, instance_count, invocation_count, connection_count, input, output, connection, made_of, call, instance, invoked, offset}
use Rattle.entry.specs.Records as Records
use Rattle.entry.specs.Records.{Record, part, records}
use Rattle.entry.specs.Numbers.{component_number, input_number, output_number, instance_number, invocation_number, connection_number, At, Standing}
use Rattle.entry.specs.Entered.{design}
use Rattle.entry.proofs.Main.{accepted_exactly, each_stands, the_design}
use Rattle.entry.proofs.Laws.{next_component, all_components}
use Rattle.reading.specs.Tests.{is_built}
use Rattle.reading.specs.Reader.{Row}
use Rattle.reader.specs.Rows.{row_in}
use Rattle.look.specs.Look.{sixteen, look, kind}
use Rattle.look.proofs.Laws.{sixteen_small}
use Rattle.look.specs.Listed.{records_of}
use Rattle.verdict.specs.Judgement.{judgement, Filled}
use Rattle.verdict.proofs.Whole.{Holds, length_from, looked, right}
use Rattle.verdict.proofs.Passed.{passed, record_total, said_lawful}
use Rattle.verdict.proofs.Counts.{count_bounds}
use Rattle.groups.specs.Groups.{design_of, Opened, Lies, first_number, second_number, past_instances, end_of}
use Rattle.groups.proofs.Past.{instances_go_on, instances_stop, instances_end}
use Rattle.look.proofs.Light.{component_kind, connection_kind, instance_there, invocation_there, kind_is, first_is, second_is}

-- A file that has been accepted is open, with the rows that its table was left with.
module _ (file rows : List ℕ) (numbers : ℕ) (k : Counts) (small : Bytes file) (e : judgement file numbers ≡ accepted k) where
  pub opened : Filled (accepted k) file rows → length rows ≡ 320 → Opened file rows k.records
  opened f l =
      let p = passed file numbers k e in
      let s = said_lawful file k p in
      let b = count_bounds file p.count p.blocks in
      let t = record_total file k p in
      record { small = small; lawful = s.0; records_are = s.1; few = rw t b.1; held = rw t b.2; room = l; filled = f }

  pub component_total : length (design_of file k.records) ≡ k.components
  component_total =
      let p = passed file numbers k e in
      let h = (accepted_exactly (records_of file p.count) k).0 p.rules in
      rw (record_total file k p) (ap length (ap design (sym h.2) ∙ the_design h.0 h.1.whole) ∙ h.3)

module _ {file rows : List ℕ} {n : ℕ} (h : Opened file rows n) where
  abbrev D : Design
  D = design_of file n

  holds : Holds file n
  holds = record { within = h.held; few = h.few; small = h.small }

  pub lies : (i : ℕ) → i < n → Lies file i
  lies i l = let w = h.held in let m = h.few in (omega arith, omega arith)

  -- The component records follow each other, and the last component ends with the file.
  pub component_end : component_number D (length D) ≡ n
  component_end = all_components D ∙ ap length h.records_are ∙ length_from file 0 n

  module _ (c : ℕ) (present : c < length D) where
    stands : Standing D c (records_of file n)
    stands = rw (append-nil (records D), h.records_are) at (each_stands D [] c present)

    below : {i : ℕ} {x : Record} → At (records_of file n) i x → i < n
    below a = rw (length_from file 0 n) at a.below

    pub component_below : component_number D c < n
    component_below = below (stands).component_at

    pub row_is : row_in rows c ≡ record { built = is_built (class D c); delay = delay D c; inputs = input_count D c; outputs = output_count D c; first = component_number D c }
    unfolding class delay input_count output_count
    row_is = let w = h.filled c present in rw (← w.built, ← w.delay, ← w.inputs, ← w.outputs, ← w.first)

    pub input_below : (i : ℕ) → i < input_count D c → input_number D c i < n
    input_below i l = below ((stands).input_at i l)

    pub output_below : (o : ℕ) → o < output_count D c → output_number D c o < n
    output_below o l = below ((stands).output_at o l)

    pub instance_below : (m : ℕ) → m < instance_count D c → instance_number D c m < n
    instance_below m l = below ((stands).instance_at m l)

    pub invocation_below : (j : ℕ) → j < invocation_count D c → invocation_number D c j < n
    invocation_below j l = below ((stands).invocation_at j l)

    pub input_says : (i : ℕ) → i < input_count D c → look file (input_number D c i) ≡ input D c i
    input_says i l = ((right file n holds).looks (input_number D c i) (input D c i)).0 ((stands).input_at i l)

    pub output_says : (o : ℕ) → o < output_count D c → look file (output_number D c o) ≡ output D c o
    output_says o l = ((right file n holds).looks (output_number D c o) (output D c o)).1 ((stands).output_at o l)

    instance_kind : (m : ℕ) → m < instance_count D c → (kind file (instance_number D c m) ≡ 3) × (first_number file (instance_number D c m) ≡ made_of D c m)
    instance_kind m l =
        let i = instance_number D c m in
        let w = looked file n holds i (part (Records.instance (made_of D c m))) ((stands).instance_at m l) in
        let t = instance_there (sixteen file i) (sixteen_small file i h.small) (made_of D c m) w.0 in
        (kind_is file i ∙ t.0, first_is file i ∙ t.1)

    pub instance_says : (m : ℕ) → m < instance_count D c → first_number file (instance_number D c m) ≡ made_of D c m
    instance_says m l = (instance_kind m l).1

    invocation_kind : (j : ℕ) → j < invocation_count D c → (kind file (invocation_number D c j) ≡ 4) × (first_number file (invocation_number D c j) ≡ instance D c j) × (second_number file (invocation_number D c j) ≡ offset D c j)
    unfolding instance offset
    invocation_kind j l =
        let i = invocation_number D c j in
        let w = looked file n holds i (part (Records.invocation (call D c j))) ((stands).invocation_at j l) in
        let t = invocation_there (sixteen file i) (sixteen_small file i h.small) (call D c j) w.0 in
        (kind_is file i ∙ t.0, first_is file i ∙ t.1, second_is file i ∙ t.2)

    pub invocation_says : (j : ℕ) → j < invocation_count D c → (first_number file (invocation_number D c j) ≡ instance D c j) × (second_number file (invocation_number D c j) ≡ offset D c j)
    invocation_says j l = let t = invocation_kind j l in (t.1, t.2)

    -- "One argument for every input of the invoked component": so far is it to the next invocation.
    pub next_invocation : (j : ℕ) → j < invocation_count D c → invocation_number D c (suc j) ≡ invocation_number D c j + 1 + input_count D (invoked D c j)
    unfolding invocation_number
    next_invocation j l = ap (λ (k : ℕ). invocation_number D c j + 1 + k) ((h.lawful.whole c present).all_arguments j l)

    -- "One connection for every own output": they are the last records of a built component.
    pub component_ends : class D c ≡ built → component_number D (suc c) ≡ connection_number D c (output_count D c)
    component_ends b = next_component D c present ∙ ap (connection_number D c) ((h.lawful.whole c present).all_connections b)

    component_kind_at : kind file (component_number D c) ≡ 1
    component_kind_at =
        let i = component_number D c in
        let w = looked file n holds i (Records.component (class D c) (delay D c)) (stands).component_at in
        kind_is file i ∙ component_kind (sixteen file i) (sixteen_small file i h.small) (class D c) (delay D c) w.0

    connection_kind_at : (o : ℕ) → o < connection_count D c → kind file (connection_number D c o) ≡ 6
    connection_kind_at o l =
        let i = connection_number D c o in
        let w = looked file n holds i (part (Records.connection (connection D c o))) ((stands).connection_at o l) in
        kind_is file i ∙ connection_kind (sixteen file i) (sixteen_small file i h.small) (connection D c o) w.0

  module _ (c : ℕ) (present : c < length D) where
    -- A component ends where the next one begins, or with the file.
    pub end_is : (components : ℕ) → components ≡ length D → end_of rows components n c ≡ component_number D (suc c)
    unfolding end_of
    end_is components e = go (dec_lt (c + 1) components)
      where
        go : Dec (c + 1 < components) → cond (ltb (c + 1) components) (row_in rows (c + 1)).first n ≡ component_number D (suc c)
        go (yes l) =
            let k : c + 1 < length D = omega arith in
            rw (lt-ltb (c + 1) components l) (ap (λ (w : Row). w.first) (row_is (c + 1) k) ∙ ap (component_number D) (add-one c))
        go (no l) =
            let k : suc c ≡ length D = omega arith in
            rw (le-ltb (c + 1) components (omega arith)) (sym (ap (component_number D) k ∙ component_end))

    pub next_below : component_number D (suc c) ≤ n
    next_below = go (dec_lt (suc c) (length D))
      where
        go : Dec (suc c < length D) → component_number D (suc c) ≤ n
        go (yes l) = let a = component_below (suc c) l in omega arith
        go (no l) =
            let e : suc c ≡ length D = omega arith in
            let a = ap (component_number D) e ∙ component_end in
            omega arith

    -- Where there are no invocations the connections begin where the instances end.
    no_calls : (o : ℕ) → invocation_count D c ≡ 0 → connection_number D c o ≡ invocation_number D c 0 + o
    unfolding connection_number
    no_calls o none = ap (λ (j : ℕ). invocation_number D c j + o) none

    -- What stands there is no instance: an invocation, a connection, the next component, or nothing.
    not_instance : invocation_number D c 0 < n → kind file (invocation_number D c 0) ≢ 3
    not_instance l z = by_calls (dec_lt 0 (invocation_count D c))
      where
        by_next : Dec (suc c < length D) → invocation_count D c ≡ 0 → connection_count D c ≡ 0 → ⊥
        by_next (yes q) none empty =
            let e : component_number D (suc c) ≡ invocation_number D c 0 = next_component D c present ∙ no_calls (connection_count D c) none ∙ omega arith in
            let k = rw e at (component_kind_at (suc c) q) in
            omega arith
        by_next (no q) none empty =
            let s : suc c ≡ length D = omega arith in
            let e : component_number D (suc c) ≡ invocation_number D c 0 = next_component D c present ∙ no_calls (connection_count D c) none ∙ omega arith in
            let m = ap (component_number D) s ∙ component_end in
            omega arith

        by_connections : Dec (0 < connection_count D c) → invocation_count D c ≡ 0 → ⊥
        by_connections (yes q) none =
            let e : connection_number D c 0 ≡ invocation_number D c 0 = no_calls 0 none ∙ omega arith in
            let k = rw e at (connection_kind_at c present 0 q) in
            omega arith
        by_connections (no q) none = by_next (dec_lt (suc c) (length D)) none (omega arith)

        by_calls : Dec (0 < invocation_count D c) → ⊥
        by_calls (yes q) = let k = (invocation_kind c present 0 q).0 in omega arith
        by_calls (no q) = by_connections (dec_lt 0 (connection_count D c)) (omega arith)

    next_instance : (m : ℕ) → instance_number D c m + 1 ≡ instance_number D c (suc m)
    unfolding instance_number
    next_instance m = omega arith

    from_instance : (left m : ℕ) → left + m ≡ instance_count D c → past_instances file (n - instance_number D c m) (instance_number D c m) ≡ invocation_number D c 0
    unfolding invocation_number
    from_instance zero m e = let f : m ≡ instance_count D c = omega arith in rw f (stop (dec_lt (invocation_number D c 0) n))
      where
        stop : Dec (invocation_number D c 0 < n) → past_instances file (n - invocation_number D c 0) (invocation_number D c 0) ≡ invocation_number D c 0
        stop (yes l) = instances_stop file n (invocation_number D c 0) l (not_instance l)
        stop (no l) = instances_end file n (invocation_number D c 0) (omega arith)
    from_instance (suc left) m e =
        instances_go_on file n (instance_number D c m) (instance_below c present m (omega arith)) (instance_kind c present m (omega arith)).0
        ∙ rw (next_instance m) (from_instance left (suc m) (omega arith))

    pub past_is : past_instances file (n - instance_number D c 0) (instance_number D c 0) ≡ invocation_number D c 0
    past_is = from_instance (instance_count D c) 0 (omega arith)
