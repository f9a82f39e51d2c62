-- The records of a file: the loop reads them rightly, so what it answers is the verdict, and its last table has the rows of the design.
-- Assumes nothing.
use Prim.Native.Nat.{ℕ, zero, suc, ◌+◌, ◌*◌, ◌/◌, ◌≤◌, ◌<◌}
use mathlib.Core.Path.{◌≡◌, refl, sym, ap, ◌∙◌}
use mathlib.Core.List.{List, map}
use native.Mathlib.Omega.{arith}
use native.Mathlib.Nat.{zero-add, sub-zero}
use lib.ListN.{length, get_or}
use Rattle.answers.specs.Answer.{accepted, Counts}
use Rattle.entry.specs.Records.{Record, wrong, part, input, output}
use Rattle.entry.specs.Numbers.{At}
use Rattle.entry.specs.Entered.{design}
use Rattle.entry.specs.Verdict.{verdict}
use Rattle.reading.specs.Reads.{Ranged, Reads}
use Rattle.reading.specs.Table.{TableOf, table}
use Rattle.reading.proofs.Main as Reading
use Rattle.numbers.specs.Numbers.{Bytes}
use Rattle.blocks.specs.File.{record_place}
use Rattle.records.specs.Decoded.{decoded}
use Rattle.look.specs.Look.{sixteen, look}
use Rattle.look.proofs.Laws.{decoded_ranged, sixteen_small, look_is, input_port, output_port}
use Rattle.look.specs.Listed.{sixteens, records_of}
use Rattle.component.specs.Run.{Run, waits, view, next, Own, rest, last}
use Rattle.component.proofs.Keeps.{own_next}

-- What is known of the bytes: n records stand in them.
pub record Holds (file : List ℕ) (n : ℕ) : Type 0 where
  pub within : n ≤ 31 * (length file / 512)
  pub few : n ≤ 3968
  pub small : Bytes file

module _ (file : List ℕ) where
  pub length_from : (i n : ℕ) → length (map decoded (sixteens file i n)) ≡ n
  unfolding sixteens
  length_from i zero = refl
  length_from i (suc n) = ap suc (length_from (suc i) n)

  at_from : (i n j : ℕ) (x : Record) → j < n → get_or (map decoded (sixteens file i n)) j x ≡ decoded (sixteen file (i + j))
  unfolding sixteens
  at_from i zero j x l = absurd (omega arith)
  at_from i (suc n) zero x l = let e : i + 0 ≡ i = omega arith in rw e
  at_from i (suc n) (suc j) x l = let e : i + suc j ≡ suc i + j = omega arith in rw e (at_from (suc i) n j x (omega arith))

  pub record_there : (n j : ℕ) (x : Record) → j < n → get_or (records_of file n) j x ≡ decoded (sixteen file j)
  record_there n j x l = at_from 0 n j x l ∙ ap (λ (k : ℕ). decoded (sixteen file k)) (zero-add j)

  module _ (n : ℕ) (h : Holds file n) where
    pub in_file : (j : ℕ) → j < n → record_place j + 16 ≤ length file
    in_file j l = let w = h.within in omega arith

    pub looked : (j : ℕ) (x : Record) → At (records_of file n) j x → (decoded (sixteen file j) ≡ x) × (record_place j + 16 ≤ length file) × (j < 65536)
    looked j x a =
        let l : j < n = rw (length_from 0 n) at a.below in
        let m = h.few in
        (sym (record_there n j wrong l) ∙ a.is wrong, in_file j l, omega arith)

    pub right : Reads Run view next Own (records_of file n) (look file)
    right =
        record {
          ranged = λ j l. (let m : j < n = rw (length_from 0 n) at l in rw (record_there n j wrong m) (decoded_ranged (sixteen file j) (sixteen_small file j h.small)));
          looks = λ j p. (λ a. (let w = looked j (part (input p)) a in look_is file j w.1 ∙ input_port (sixteen file j) (sixteen_small file j h.small) p w.0), λ a. (let w = looked j (part (output p)) a in look_is file j w.1 ∙ output_port (sixteen file j) (sixteen_small file j h.small) p w.0));
          keeps = λ s p x o a t. (let w = looked p x a in let r : Ranged x = rw w.0 at (decoded_ranged (sixteen file p) (sixteen_small file p h.small)) in own_next (look file) s p x w.2 o r t);
        }

    pub whole : verdict (records_of file n) ≡ rest file n waits 0
    whole = rw (sub-zero n) (Reading.answer_verdict Run view next Own (records_of file n) (look file) right waits refl tt)

    pub rows_right : (k : Counts) → rest file n waits 0 ≡ accepted k → TableOf (design (records_of file n)) (table (view (last file n waits 0)))
    rows_right k e = rw (sub-zero n) (Reading.last_table Run view next Own (records_of file n) (look file) right waits refl tt k (whole ∙ e))
