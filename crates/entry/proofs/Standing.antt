-- At the number of each part stands its record.
-- Assumes nothing.
use Prim.Native.Nat.{ℕ, zero, suc, ◌+◌, ◌<◌}
use Rattle.std.specs.Prelude.{◌≡◌, refl, length, take, drop}
use Rattle.std.proofs.Common.{ap, ◌∙◌, length-append, get_or-append-add}
use mathlib.Core.List.{List, [], ◌∷◌, ◌++◌, map, append_assoc}
use Rattle.std.proofs.Math.ListN.{get_or, length-map}
use native.Mathlib.Omega.{arith}
use Rattle.std.proofs.Math.Decide.{dec_lt}
use Rattle.timeline.specs.Design.{Design, Component, Call, Source, constant, leaf, no_component, no_port, no_call, component, class, delay, input_count, output_count, instance_count, invocation_count, argument_count, connection_count, input, output, made_of, call, argument, connection}
use Rattle.entry.specs.Records
use Rattle.entry.specs.Records.{Record, part, invocations, parts, records}
use Rattle.entry.specs.Numbers.{component_number, input_number, output_number, instance_number, invocation_number, argument_number, connection_number, At, Standing}

-- The record list of a component, its first record included.
abbrev own_records : Component → List Record
own_records C = Records.component C.class C.delay ∷ parts C

past_end : {A : Type 0} (xs : List A) (n : ℕ) (d : A) → ¬ (n < length xs) → get_or xs n d ≡ d
past_end [] n d h = refl
past_end (x ∷ xs) zero d h = absurd (h (omega arith))
past_end (x ∷ xs) (suc n) d h = past_end xs n d (λ l. h (omega arith))

-- What stands there whatever would stand past the end is in the list.
stands : (rs : List Record) (n : ℕ) (x : Record) → ((r : Record) → get_or rs n r ≡ x) → At rs n x
stands rs n x h = record { below = go (dec_lt n (length rs)); is = h }
  where
    go : Dec (n < length rs) → n < length rs
    go (yes l) = l
    go (no m) =
        let a = past_end rs n Records.wrong m in
        let b = past_end rs n (Records.component leaf 0) m in
        let c = h Records.wrong in
        let d = h (Records.component leaf 0) in
        let z : ◌≡◌ {A = ℕ} 0 1 = cc in
        absurd (omega arith)

at_map : {A : Type 0} (f : A → Record) (xs : List A) (more : List Record) (i : ℕ) (d : A) (r : Record) → i < length xs → get_or (map f xs ++ more) i r ≡ f (get_or xs i d)
at_map f [] more i d r l = absurd (omega arith)
at_map f (x ∷ xs) more zero d r l = refl
at_map f (x ∷ xs) more (suc i) d r l = at_map f xs more i d r (omega arith)

past : {A : Type 0} (xs ys : List A) (m n : ℕ) (r : A) → m ≡ length xs + n → get_or (xs ++ ys) m r ≡ get_or ys n r
past xs ys m n r e = ap (λ k. get_or (xs ++ ys) k r) e ∙ get_or-append-add xs ys n r

-- From its number on stand the records of component c.
from_component : (D : Design) (more : List Record) (c n : ℕ) (r : Record) → c < length D
    → get_or (records D ++ more) (component_number D c + n) r ≡ get_or (own_records (get_or D c no_component) ++ (records (drop (suc c) D) ++ more)) n r
unfolding component_number records
from_component [] more c n r l = absurd (omega arith)
from_component (C ∷ D) more zero n r l = let z : 0 + n ≡ n = omega arith in rw (append_assoc (own_records C) (records D) more, z)
from_component (C ∷ D) more (suc c) n r l =
    let z = length-append (own_records C) (records (take c D)) in
    rw (append_assoc (own_records C) (records D) more)
    (past (own_records C) (records D ++ more) (length (own_records C ++ records (take c D)) + n) (component_number D c + n) r (omega arith) ∙ from_component D more c n r (omega arith))

-- How many records stand before invocation j, of the invocations' records.
unfoldable pub up_to : List (List Source) → ℕ → ℕ
up_to lists zero = 0
up_to lists (suc j) = up_to lists j + 1 + length (get_or lists j [])

-- The lists of arguments after the first.
abbrev pub rest : List (List Source) → List (List Source)
rest [] = []
rest (a ∷ lists) = lists

at_rest : (lists : List (List Source)) (j : ℕ) → get_or lists (suc j) [] ≡ get_or (rest lists) j []
at_rest [] j = refl
at_rest (a ∷ lists) j = refl

pub up_to_next : (lists : List (List Source)) (j : ℕ) → up_to lists (suc j) ≡ suc (length (get_or lists 0 [])) + up_to (rest lists) j
unfolding up_to
up_to_next lists zero = omega arith
up_to_next lists (suc j) = let h = up_to_next lists j in let e = ap length (at_rest lists j) in omega arith

abbrev pub of_argument : Source → Record
of_argument s = part (Records.argument s)

-- The records of the first invocation, and those of the others.
pub first_invocation : (v : Call) (calls : List Call) (lists : List (List Source)) → invocations (v ∷ calls) lists ≡ part (Records.invocation v) ∷ (map of_argument (get_or lists 0 []) ++ invocations calls (rest lists))
unfolding invocations
first_invocation v calls [] = refl
first_invocation v calls (a ∷ lists) = refl

module _ (more : List Record) (r : Record) where
  past_first : (v : Call) (calls : List Call) (lists : List (List Source)) (j n : ℕ)
      → get_or (invocations (v ∷ calls) lists ++ more) (up_to lists (suc j) + n) r ≡ get_or (invocations calls (rest lists) ++ more) (up_to (rest lists) j + n) r
  past_first v calls lists j n =
      let h = part (Records.invocation v) ∷ map of_argument (get_or lists 0 []) in
      let z = up_to_next lists j in
      let y = length-map (get_or lists 0 []) of_argument in
      rw (first_invocation v calls lists, append_assoc (map of_argument (get_or lists 0 [])) (invocations calls (rest lists)) more)
      (past h (invocations calls (rest lists) ++ more) (up_to lists (suc j) + n) (up_to (rest lists) j + n) r (omega arith))

  invocation_stands : (calls : List Call) (lists : List (List Source)) (j : ℕ) → j < length calls → get_or (invocations calls lists ++ more) (up_to lists j + 0) r ≡ part (Records.invocation (get_or calls j no_call))
  unfolding up_to
  invocation_stands [] lists j l = absurd (omega arith)
  invocation_stands (v ∷ calls) lists zero l = rw (first_invocation v calls lists)
  invocation_stands (v ∷ calls) lists (suc j) l = past_first v calls lists j 0 ∙ invocation_stands calls (rest lists) j (omega arith)

  argument_stands : (calls : List Call) (lists : List (List Source)) (j i : ℕ) → j < length calls → i < length (get_or lists j [])
      → get_or (invocations calls lists ++ more) (up_to lists j + suc i) r ≡ part (Records.argument (get_or (get_or lists j []) i (constant 0)))
  unfolding up_to
  argument_stands [] lists j i l k = absurd (omega arith)
  argument_stands (v ∷ calls) lists zero i l k =
      let a = get_or lists 0 [] in
      let z : 0 + suc i ≡ suc i = omega arith in
      rw (first_invocation v calls lists, z, append_assoc (map of_argument a) (invocations calls (rest lists)) more) (at_map of_argument a (invocations calls (rest lists) ++ more) i (constant 0) r k)
  argument_stands (v ∷ calls) lists (suc j) i l k =
      past_first v calls lists j (suc i) ∙ (rw (at_rest lists j) (argument_stands calls (rest lists) j i (omega arith) (rw (at_rest lists j) at k)))

  past_invocations : (calls : List Call) (lists : List (List Source)) (n : ℕ) → get_or (invocations calls lists ++ more) (up_to lists (length calls) + n) r ≡ get_or more n r
  unfolding up_to invocations
  past_invocations [] lists n = let z : 0 + n ≡ n = omega arith in rw z
  past_invocations (v ∷ calls) lists n = past_first v calls lists (length calls) n ∙ past_invocations calls (rest lists) n

module _ (D : Design) (more : List Record) (c : ℕ) (present : c < length D) where
  abbrev C : Component
  C = component D c

  abbrev rs : List Record
  rs = records D ++ more

  -- What follows each group of records.
  abbrev after_connections : List Record
  after_connections = records (drop (suc c) D) ++ more

  abbrev after_invocations : List Record
  after_invocations = map (λ s. part (Records.connection s)) C.connections ++ after_connections

  abbrev after_instances : List Record
  after_instances = invocations C.calls C.arguments ++ after_invocations

  abbrev after_outputs : List Record
  after_outputs = map (λ n. part (Records.instance n)) C.instances ++ after_instances

  abbrev after_inputs : List Record
  after_inputs = map (λ p. part (Records.output p)) C.outputs ++ after_outputs

  from_inputs : (n : ℕ) (r : Record) → get_or rs (input_number D c n) r ≡ get_or (map (λ p. part (Records.input p)) C.inputs ++ after_inputs) n r
  unfolding input_number parts component
  from_inputs n r =
      let e : component_number D c + 1 + n ≡ component_number D c + suc n = omega arith in
      rw e (from_component D more c (suc n) r present ∙ simp append_assoc)

  from_outputs : (n : ℕ) (r : Record) → get_or rs (output_number D c n) r ≡ get_or after_inputs n r
  unfolding input_number output_number input_count
  from_outputs n r =
      let e : output_number D c n ≡ input_number D c (input_count D c + n) = omega arith in
      let z = length-map C.inputs (λ p. part (Records.input p)) in
      rw e (from_inputs (input_count D c + n) r ∙ past (map (λ p. part (Records.input p)) C.inputs) after_inputs (input_count D c + n) n r (omega arith))

  from_instances : (n : ℕ) (r : Record) → get_or rs (instance_number D c n) r ≡ get_or after_outputs n r
  unfolding output_number instance_number output_count
  from_instances n r =
      let e : instance_number D c n ≡ output_number D c (output_count D c + n) = omega arith in
      let z = length-map C.outputs (λ p. part (Records.output p)) in
      rw e (from_outputs (output_count D c + n) r ∙ past (map (λ p. part (Records.output p)) C.outputs) after_outputs (output_count D c + n) n r (omega arith))

  pub invocation_up_to : (j : ℕ) → invocation_number D c j ≡ instance_number D c (instance_count D c + up_to C.arguments j)
  unfolding invocation_number instance_number argument_count up_to
  invocation_up_to zero = omega arith
  invocation_up_to (suc j) = let h = invocation_up_to j in omega arith

  from_invocations : (j n : ℕ) (r : Record) → get_or rs (invocation_number D c j + n) r ≡ get_or after_instances (up_to C.arguments j + n) r
  unfolding instance_number instance_count
  from_invocations j n r =
      let h = invocation_up_to j in
      let e : invocation_number D c j + n ≡ instance_number D c (instance_count D c + (up_to C.arguments j + n)) = omega arith in
      let z = length-map C.instances (λ n. part (Records.instance n)) in
      rw e (from_instances (instance_count D c + (up_to C.arguments j + n)) r
      ∙ past (map (λ n. part (Records.instance n)) C.instances) after_instances (instance_count D c + (up_to C.arguments j + n)) (up_to C.arguments j + n) r (omega arith))

  from_connections : (n : ℕ) (r : Record) → get_or rs (connection_number D c n) r ≡ get_or after_invocations n r
  unfolding connection_number invocation_count
  from_connections n r = from_invocations (invocation_count D c) n r ∙ past_invocations after_invocations r C.calls C.arguments n

  pub standing : Standing D c rs
  unfolding class delay input_count output_count instance_count invocation_count argument_count connection_count component input output made_of call argument connection argument_number
  standing =
      record {
        component_at = stands rs _ _ (λ r. at_component r);
        input_at = λ i l. stands rs _ _ (λ r. from_inputs i r ∙ at_map _ C.inputs after_inputs i no_port r l);
        output_at = λ o l. stands rs _ _ (λ r. from_outputs o r ∙ at_map _ C.outputs after_outputs o no_port r l);
        instance_at = λ n l. stands rs _ _ (λ r. from_instances n r ∙ at_map _ C.instances after_instances n 0 r l);
        invocation_at = λ j l. stands rs _ _ (λ r. at_invocation j l r);
        argument_at = λ j l i k. stands rs _ _ (λ r. at_argument j l i k r);
        connection_at = λ o l. stands rs _ _ (λ r. from_connections o r ∙ at_map _ C.connections after_connections o (constant 0) r l);
      }
    where
      at_component : (r : Record) → get_or rs (component_number D c) r ≡ Records.component C.class C.delay
      at_component r = let e : component_number D c ≡ component_number D c + 0 = omega arith in rw e (from_component D more c 0 r present)

      at_invocation : (j : ℕ) → j < length C.calls → (r : Record) → get_or rs (invocation_number D c j) r ≡ part (Records.invocation (get_or C.calls j no_call))
      at_invocation j l r =
          let e : invocation_number D c j ≡ invocation_number D c j + 0 = omega arith in
          rw e (from_invocations j 0 r ∙ invocation_stands after_invocations r C.calls C.arguments j l)

      at_argument : (j : ℕ) → j < length C.calls → (i : ℕ) → i < length (get_or C.arguments j []) → (r : Record) → get_or rs (argument_number D c j i) r ≡ part (Records.argument (get_or (get_or C.arguments j []) i (constant 0)))
      at_argument j l i k r =
          let e : argument_number D c j i ≡ invocation_number D c j + suc i = omega arith in
          rw e (from_invocations j (suc i) r ∙ argument_stands after_invocations r C.calls C.arguments j i l k)
