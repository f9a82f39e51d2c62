-- n, found invocation by invocation: how long the component itself lasts, and then each of its invocations from its offset on.
-- Assumes nothing.
use Prim.Native.Nat.{ℕ, ◌+◌, ◌-◌, ◌≤◌, ◌<◌, max}
use mathlib.Core.Path.{◌≡◌}
use native.Mathlib.Omega.{arith}
use native.Mathlib.Nat.{le-max_left, le-max_right, max-le}
use native.Mathlib.Decide.{ℕ_discrete}
use Rattle.timeline.specs.Design.{Design, input_count, output_count, invocation_count, input, output, invoked, offset, gives}
use Rattle.timetable.specs.States.{states}
use Rattle.timetable.proofs.Laws.{states_cover, states_only}

-- m is the greatest of 1 and the ends of component d's ports.
pub record Lasts (D : Design) (d m : ℕ) : Type 0 where
  pub one : 1 ≤ m
  pub inputs : (i : ℕ) → i < input_count D d → (input D d i).end ≤ m
  pub outputs : (o : ℕ) → o < output_count D d → (output D d o).end ≤ m
  pub least : (x : ℕ) → 1 ≤ x → ((i : ℕ) → i < input_count D d → (input D d i).end ≤ x) → ((o : ℕ) → o < output_count D d → (output D d o).end ≤ x) → m ≤ x

module _ (D : Design) (c : ℕ) where
  -- m covers component c's own ports and its first j invocations, and is not above n.
  pub record Reached (j m : ℕ) : Type 0 where
    pub one : 1 ≤ m
    pub own_inputs : (i : ℕ) → i < input_count D c → (input D c i).end ≤ m
    pub own_outputs : (o : ℕ) → o < output_count D c → (output D c o).end ≤ m
    pub starts : (k : ℕ) → k < j → offset D c k + 1 ≤ m
    pub inputs : (k : ℕ) → k < j → (i : ℕ) → i < input_count D (invoked D c k) → offset D c k + (input D (invoked D c k) i).end ≤ m
    pub outputs : (k : ℕ) → k < j → (o : ℕ) → o < output_count D (invoked D c k) → offset D c k + (gives D c k o).end ≤ m
    pub most : m ≤ states D c

  pub reached_own : (m : ℕ) → Lasts D c m → Reached 0 m
  reached_own m h =
      let s = states_cover D c in
      record {
        one = h.one;
        own_inputs = h.inputs;
        own_outputs = h.outputs;
        starts = λ k l. absurd (omega arith);
        inputs = λ k l. absurd (omega arith);
        outputs = λ k l. absurd (omega arith);
        most = h.least (states D c) s.one s.own_inputs s.own_outputs;
      }

  module _ (j m e : ℕ) (there : j < invocation_count D c) (h : Reached j m) (g : Lasts D (invoked D c j) e) where
    abbrev more : ℕ
    more = max m (offset D c j + e)

    before : {x : ℕ} → x ≤ m → x ≤ more
    before l = let k = le-max_left m (offset D c j + e) in omega arith

    now : {x : ℕ} → x ≤ offset D c j + e → x ≤ more
    now l = let k = le-max_right m (offset D c j + e) in omega arith

    -- What holds of the earlier invocations and of this one holds of all up to this one.
    each : {P : ℕ → Type 0} → ((k : ℕ) → k < j → P k) → P j → (k : ℕ) → k < j + 1 → P k
    each {P} p q k l = go (ℕ_discrete k j)
      where
        go : Dec (k ≡ j) → P k
        go (yes r) = rw r q
        go (no r) = p k (omega arith)

    within : offset D c j + e ≤ states D c
    unfolding gives
    within =
        let s = states_cover D c in
        let a = s.starts j there in
        let k = g.least (states D c - offset D c j) (omega arith) (λ i l. let b = s.inputs j there i l in omega arith) (λ o l. let b = s.outputs j there o l in omega arith) in
        omega arith

    pub reached_next : Reached (j + 1) (max m (offset D c j + e))
    unfolding gives
    reached_next =
        record {
          one = before h.one;
          own_inputs = λ i l. before (h.own_inputs i l);
          own_outputs = λ o l. before (h.own_outputs o l);
          starts = each (λ k l. before (h.starts k l)) (let a = g.one in now (omega arith));
          inputs = each (λ k l i p. before (h.inputs k l i p)) (λ i p. let a = g.inputs i p in now (omega arith));
          outputs = each (λ k l o p. before (h.outputs k l o p)) (λ o p. let a = g.outputs o p in now (omega arith));
          most = max-le h.most within;
        }

  pub reached_last : (j m : ℕ) → j ≡ invocation_count D c → Reached j m → m ≡ states D c
  reached_last j m e h =
      let k = rw e at h in
      states_only D c m (record { one = k.one; own_inputs = k.own_inputs; own_outputs = k.own_outputs; starts = k.starts; inputs = k.inputs; outputs = k.outputs }) k.most
