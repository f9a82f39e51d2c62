-- Where no test fails, every test passes; and where one does, its refusal is told.
-- Assumes nothing.
use Prim.Native.Nat.{ℕ, ◌-◌, ◌<◌}
use mathlib.Core.Bool.{Bool, true, false, cond, ◌&&◌}
use mathlib.Core.Path.{◌≡◌, refl}
use mathlib.Core.List.{[], ◌∷◌}
use lib.Dec.{T, eqb, ltb, ltb→lt}
use native.Mathlib.Omega.{arith}
use borrow.Author.Tests.{ne_eqb}
use Rattle.answers.specs.Answer.{Answer, refused, Counts, Numbered, Refusal}
use Rattle.timeline.specs.Design.{Port, Call, Source, own, output_of, constant}
use Rattle.entry.specs.Records.{Part, input, output, instance, invocation, argument, connection, Record, wrong, component, part}
use Rattle.reading.specs.Scan.{Tests, tried}
use Rattle.reading.specs.Reader.{Reader, View, waits, reads, source_tests, part_tests, tests}
use Rattle.reading.specs.Reads.{Passes}
use Rattle.rules.specs.Failed.{first_failed}

-- Every number is some refusal's.
abbrev pub Numbers : Tests → Type 0
Numbers [] = Unit
Numbers (t ∷ rest) = Numbered t.0 × Numbers rest

module _ (t : ℕ × Bool) (rest : Tests) where
  pass_more : Numbers (t ∷ rest) → (first_failed rest ≡ 0 → Passes rest) → first_failed (t ∷ rest) ≡ 0 → Passes (t ∷ rest)
  pass_more n ih e = go t.1 e
    where
      go : (b : Bool) → cond b (first_failed rest) t.0 ≡ 0 → T b × Passes rest
      go true e = (tt, ih e)
      go false e = absurd (let m = n.0 in omega arith)

  tried_more : Numbers (t ∷ rest) → (tell : ℕ → Refusal) (k : Answer Counts) → tried rest tell k ≡ cond (eqb (first_failed rest) 0) k (refused (tell (first_failed rest)))
      → tried (t ∷ rest) tell k ≡ cond (eqb (first_failed (t ∷ rest)) 0) k (refused (tell (first_failed (t ∷ rest))))
  unfolding tried
  tried_more n tell k ih = go t.1
    where
      go : (b : Bool) → cond b (tried rest tell k) (refused (tell t.0)) ≡ cond (eqb (cond b (first_failed rest) t.0) 0) k (refused (tell (cond b (first_failed rest) t.0)))
      go true = ih
      go false = let m = n.0 in rw (ne_eqb t.0 0 (λ z. absurd (omega arith)))

pub passes : (ts : Tests) → Numbers ts → first_failed ts ≡ 0 → Passes ts
passes [] n e = tt
passes (t ∷ rest) n e = pass_more t rest n (passes rest n.1) e

pub tried_first : (ts : Tests) → Numbers ts → (tell : ℕ → Refusal) (k : Answer Counts) → tried ts tell k ≡ cond (eqb (first_failed ts) 0) k (refused (tell (first_failed ts)))
unfolding tried
tried_first [] n tell k = refl
tried_first (t ∷ rest) n tell k = tried_more t rest n tell k (tried_first rest n.1 tell k)

-- The numbers that stand in the tests.
module _ (look : ℕ → Port) where
  source_numbered : (r : Reader) (n : ℕ) (x : Source) (q : Port) (k : ℕ) → Numbers (source_tests look r n x q k)
  source_numbered r n (own i) q k = (omega arith, (omega arith, (omega arith, tt)))
  source_numbered r n (output_of j o) q k = (omega arith, (omega arith, (omega arith, tt)))
  source_numbered r n (constant v) q k = (omega arith, (omega arith, (omega arith, tt)))

  pub part_numbered : (r : Reader) (x : Part) → Numbers (part_tests look r x)
  part_numbered r (input p) = (omega arith, (omega arith, (omega arith, tt)))
  part_numbered r (output p) = (omega arith, (omega arith, (omega arith, tt)))
  part_numbered r (instance n) = (omega arith, (omega arith, (omega arith, tt)))
  part_numbered r (invocation v) =
      (omega arith, (omega arith, (omega arith, (omega arith, (omega arith, tt)))))
  part_numbered r (argument x) = (omega arith, source_numbered r (r.place.invocations - 1) x (look r.input_record) r.due_offset)
  part_numbered r (connection x) = (omega arith, source_numbered r r.place.invocations x _ 0)

  pub numbered : (v : View) (x : Record) → Numbers (tests look v x)
  numbered waits wrong = (omega arith, tt)
  numbered waits (component k d) = (omega arith, tt)
  numbered waits (part x) = (omega arith, (omega arith, tt))
  numbered (reads r) wrong = (omega arith, tt)
  numbered (reads r) (component k d) = (omega arith, (omega arith, (omega arith, tt)))
  numbered (reads r) (part x) = (omega arith, part_numbered r x)

  -- What the passed tests of a part are good for.
  module _ (r : Reader) where
    pub room_input : (p : Port) → first_failed (part_tests look r (input p)) ≡ 0 → r.place.inputs < 16
    room_input p e = ltb→lt _ _ (passes (part_tests look r (input p)) (part_numbered r (input p)) e).1.0

    pub room_output : (p : Port) → first_failed (part_tests look r (output p)) ≡ 0 → r.place.outputs < 16
    room_output p e = ltb→lt _ _ (passes (part_tests look r (output p)) (part_numbered r (output p)) e).1.0

    pub room_instance : (n : ℕ) → first_failed (part_tests look r (instance n)) ≡ 0 → r.place.instances < 32
    room_instance n e = ltb→lt _ _ (passes (part_tests look r (instance n)) (part_numbered r (instance n)) e).1.0

    pub room_invocation : (v : Call) → first_failed (part_tests look r (invocation v)) ≡ 0 → r.place.invocations < 64
    room_invocation v e = ltb→lt _ _ (passes (part_tests look r (invocation v)) (part_numbered r (invocation v)) e).1.0

    pub invocation_built : (v : Call) → first_failed (part_tests look r (invocation v)) ≡ 0 → r.place.built ≡ true
    invocation_built v e = go r.place.built (passes (part_tests look r (invocation v)) (part_numbered r (invocation v)) e).0
      where
        go : (b : Bool) → T (b && (eqb r.place.due 0 && eqb r.place.connections 0)) → b ≡ true
        go true t = refl
        go false t = absurd t

    pub argument_due : (x : Source) → first_failed (part_tests look r (argument x)) ≡ 0 → 0 < r.place.due
    argument_due x e = go r.place.built (passes (part_tests look r (argument x)) (part_numbered r (argument x)) e).0
      where
        go : (b : Bool) → T (b && ltb 0 r.place.due) → 0 < r.place.due
        go true t = ltb→lt _ _ t
        go false t = absurd t

    pub connection_due : (x : Source) → first_failed (part_tests look r (connection x)) ≡ 0 → r.place.connections < r.place.outputs
    connection_due x e = go r.place.built (eqb r.place.due 0) (passes (part_tests look r (connection x)) (part_numbered r (connection x)) e).0
      where
        go : (b c : Bool) → T (b && (c && ltb r.place.connections r.place.outputs)) → r.place.connections < r.place.outputs
        go true true t = ltb→lt _ _ t
        go true false t = absurd t
        go false c t = absurd t
