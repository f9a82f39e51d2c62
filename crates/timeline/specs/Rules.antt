-- What document 01 asks of a design, by the numbers of the refusals: in range (4), whole (5), not too many (6), and the rules 7 to 12.
-- Everything is said of component c by the numbers of its parts.
-- Assumes nothing.
use Rattle.std.specs.Prelude.{ℕ, ◌+◌, ◌^◌, ◌≤◌, ◌<◌, ◌≡◌, ◌⊎◌, ◌≢◌, length}
use Rattle.timeline.specs.Design.{Design, Port, Source, own, output_of, constant, leaf, built, component, class, delay, input_count, output_count, instance_count, invocation_count, argument_count, connection_count, input, output, made_of, instance, invoked, offset, argument, connection, takes, gives}

-- "start s; end e, with s < e ≤ 1,024; width, 1 to 64"
pub record PortRange (p : Port) : Type 0 where
  pub some : p.start < p.end
  pub most : p.end ≤ 1024
  pub wide : 1 ≤ p.width
  pub narrow : p.width ≤ 64

-- "own input number, 0 to 15"; "invocation, 0 to 63; output number, 0 to 15"; "bytes 8–15 the constant"
abbrev pub SourceRange : Source → Type 0
SourceRange (own i) = i < 16
SourceRange (output_of j o) = (j < 64) × (o < 16)
SourceRange (constant v) = v < 2 ^ 64

-- What begins at x and takes d is over when what begins at y, and takes e, begins; or the other way round.
abbrev pub Clear : (x d y e : ℕ) → Type 0
Clear x d y e = (x + d ≤ y) ⊎ (y + e ≤ x)

-- Port p, its event at cycle t, holds cycle x.
pub record Holds (p : Port) (t x : ℕ) : Type 0 where
  pub from : t + p.start ≤ x
  pub upto : x < t + p.end

-- "The source's interval contains the required one": port p, its event at cycle a, contains port q, its event at cycle b.
pub record Contains (p : Port) (a : ℕ) (q : Port) (b : ℕ) : Type 0 where
  pub from : a + p.start ≤ b + q.start
  pub upto : b + q.end ≤ a + p.end

module _ (D : Design) (c : ℕ) where
  -- 4: "kind, range or zero byte wrong in a record". A design has no kinds and no zero bytes; its numbers are in range.
  pub record Ranges : Type 0 where
    pub delay_some : 1 ≤ delay D c
    pub delay_most : delay D c ≤ 1024
    pub input_range : (i : ℕ) → i < input_count D c → PortRange (input D c i)
    pub output_range : (o : ℕ) → o < output_count D c → PortRange (output D c o)
    pub instance_range : (n : ℕ) → n < instance_count D c → made_of D c n < 64
    pub invocation_range : (j : ℕ) → j < invocation_count D c → (instance D c j < 32) × (offset D c j < 1024)
    pub argument_range : (j : ℕ) → j < invocation_count D c → (i : ℕ) → i < argument_count D c j → SourceRange (argument D c j i)
    pub connection_range : (o : ℕ) → o < connection_count D c → SourceRange (connection D c o)

  -- 5: "one argument for every input of the invoked component", "one connection for every own output"; "a leaf ends" with its ports.
  pub record Whole : Type 0 where
    pub all_arguments : (j : ℕ) → j < invocation_count D c → argument_count D c j ≡ input_count D (invoked D c j)
    pub all_connections : class D c ≡ built → connection_count D c ≡ output_count D c
    pub leaf_instances : class D c ≡ leaf → instance_count D c ≡ 0
    pub leaf_invocations : class D c ≡ leaf → invocation_count D c ≡ 0
    pub leaf_connections : class D c ≡ leaf → connection_count D c ≡ 0
    pub argument_lists : length (component D c).arguments ≡ invocation_count D c

  -- 6: "in each 16 inputs, 16 outputs, 32 instances, 64 invocations"
  pub record Counts : Type 0 where
    pub few_inputs : input_count D c ≤ 16
    pub few_outputs : output_count D c ≤ 16
    pub few_instances : instance_count D c ≤ 32
    pub few_invocations : invocation_count D c ≤ 64

  -- 7: the source is there, an output of an invocation before number n.
  abbrev pub There : (n : ℕ) → Source → Type 0
  There n (own i) = i < input_count D c
  There n (output_of j o) = (j < n) × (j < invocation_count D c) × (o < output_count D (invoked D c j))
  There n (constant v) = Unit

  -- 7: "instance's component not below its own; instance, own input, output or invocation absent; argument naming its own or a later invocation"
  pub record References : Type 0 where
    pub lower : (n : ℕ) → n < instance_count D c → made_of D c n < c
    pub named : (j : ℕ) → j < invocation_count D c → instance D c j < instance_count D c
    pub argument_there : (j : ℕ) → j < invocation_count D c → (i : ℕ) → i < argument_count D c j → There j (argument D c j i)
    pub connection_there : (o : ℕ) → o < connection_count D c → There (invocation_count D c) (connection D c o)

  -- "Source and reader are equally wide; a constant is below 2 to the width."
  abbrev pub Wide : Source → Port → Type 0
  Wide (own i) q = (input D c i).width ≡ q.width
  Wide (output_of j o) q = (gives D c j o).width ≡ q.width
  Wide (constant v) q = v < 2 ^ q.width

  -- 8
  pub record Widths : Type 0 where
    pub argument_wide : (j : ℕ) → j < invocation_count D c → (i : ℕ) → i < argument_count D c j → Wide (argument D c j i) (input D (invoked D c j) i)
    pub connection_wide : (o : ℕ) → o < connection_count D c → Wide (connection D c o) (output D c o)

  -- 9: "every port, input or output, leaf or built, has e−s ≤ its own component's D"
  pub record Intervals : Type 0 where
    pub input_interval : (i : ℕ) → i < input_count D c → (input D c i).end ≤ (input D c i).start + delay D c
    pub output_interval : (o : ℕ) → o < output_count D c → (output D c o).end ≤ (output D c o).start + delay D c

  -- 10: "two invocations of one instance stand at least d cycles apart"
  abbrev pub Spacing : Type 0
  Spacing = (j : ℕ) → j < invocation_count D c → (j' : ℕ) → j' < invocation_count D c → instance D c j ≡ instance D c j' → j ≢ j' → Clear (offset D c j) (takes D c j) (offset D c j') (takes D c j')

  -- 11: "for one instance, greatest offset − least offset + d ≤ D"; one invocation alone, j = j', gives d ≤ D.
  abbrev pub Span : Type 0
  Span = (j : ℕ) → j < invocation_count D c → (j' : ℕ) → j' < invocation_count D c → instance D c j ≡ instance D c j' → offset D c j' + takes D c j' ≤ offset D c j + delay D c

  -- "A constant is always available. An own input has its declared interval; an invocation's output the shifted one." Required: port q, its event k cycles after the component's.
  abbrev pub Ready : Source → Port → ℕ → Type 0
  Ready (own i) q k = Contains (input D c i) 0 q k
  Ready (output_of j o) q k = Contains (gives D c j o) (offset D c j) q k
  Ready (constant v) q k = Unit

  -- 12
  pub record Reading : Type 0 where
    pub argument_ready : (j : ℕ) → j < invocation_count D c → (i : ℕ) → i < argument_count D c j → Ready (argument D c j i) (input D (invoked D c j) i) (offset D c j)
    pub connection_ready : (o : ℕ) → o < connection_count D c → Ready (connection D c o) (output D c o) 0

  pub record Rules : Type 0 where
    pub references : References
    pub widths : Widths
    pub intervals : Intervals
    pub spacing : Spacing
    pub span : Span
    pub reading : Reading

-- A design that is in range, whole and keeps the rules.
pub record Lawful (D : Design) : Type 0 where
  pub some : 0 < length D
  pub few : length D ≤ 64
  pub ranges : (c : ℕ) → c < length D → Ranges D c
  pub whole : (c : ℕ) → c < length D → Whole D c
  pub counts : (c : ℕ) → c < length D → Counts D c
  pub rules : (c : ℕ) → c < length D → Rules D c
