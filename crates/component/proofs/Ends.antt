-- What is answered where a component's records end: each way to end is one of the contract's.
-- Assumes nothing.
use Prim.Native.Nat.{ℕ, ◌+◌, ◌≤◌, ◌<◌}
use mathlib.Core.Bool.{true, false}
use mathlib.Core.Path.{◌≡◌, refl, sym, ap, ◌∙◌, subst}
use mathlib.Core.List.{List}
use native.Mathlib.Omega.{arith}
use native.Mathlib.Numerals.{add-one}
use Rattle.answers.specs.Answer.{accepted}
use Rattle.timeline.specs.Design.{Port, Class}
use Rattle.entry.specs.Records.{Part, Record, wrong, component, part}
use Rattle.reading.specs.Reader as Reading
use Rattle.reading.specs.Reader.{Row, tests}
use Rattle.rules.specs.Failed.{first_failed}
use Rattle.signatures.specs.declared.Signature.{Signature}
use Rattle.reader.specs.declared.Reader.{Reader}
use Rattle.reader.specs.Rows.{row, signature, none}
use Rattle.reader.specs.State.{State, fresh, begin, viewed, own_row, opened, is_component}
use Rattle.reader.proofs.Class.{row_back}
use Rattle.component.specs.declared.Progress.{Progress}
use Rattle.component.specs.Run.{reads, rest, last, Onward}
use Rattle.component.specs.Component.{Begun, with_row, run, Goes, Stops}
use Rattle.component.proofs.Turns.{after_some}

-- Which record it is.
pub component_of : (x : Record) → is_component x ≡ true → (k : Class) × (d : ℕ) × (x ≡ component k d)
component_of wrong e = absurd (let z : ◌≡◌ {A = ℕ} 0 1 = cc in omega arith)
component_of (component k d) e = (k, d, refl)
component_of (part y) e = absurd (let z : ◌≡◌ {A = ℕ} 0 1 = cc in omega arith)

pub part_of : (look : ℕ → Port) (s : State) (x : Record) (m : ℕ) → is_component x ≡ false → m ≡ first_failed (tests look (Reading.reads (viewed none s)) x) → m ≡ 0 → (y : Part) × (x ≡ part y)
part_of look s wrong m e t z = absurd (omega arith)
part_of look s (component k d) m e t z = absurd (let z : ◌≡◌ {A = ℕ} 0 1 = cc in omega arith)
part_of look s (part y) m e t z = (y, refl)

module _ (file : List ℕ) (n : ℕ) (rows : ℕ → Row) (q : Progress) (r : Reader) (w : Signature) where
  -- All the records are read.
  pub whole_read : (s : State) → rest file n (run rows q) q.at ≡ accepted (record { components = q.count; records = n }) → last file n (run rows q) q.at ≡ reads rows s → s.number ≡ r.number → q.count ≡ r.number + 1 → w ≡ signature (own_row s) → Stops file n rows q r.number w
  whole_read s answer leads number count own = record { accepts = answer; count = count; whole = record { final = s; leads = leads; number = number; row = sym (ap row own ∙ row_back (own_row s)) } }

  -- The next component has begun, with record i.
  pub goes_read : (p : Progress) (i : ℕ) (k : Class) (d : ℕ) → fresh p.reader ≡ begin k d i q.count → p.at ≡ i + 1 → p.count ≡ q.count + 1 → w ≡ signature (own_row (fresh r)) → q.at ≤ i → i < n → q.count < 64 → d < 65536
      → Onward file n (run rows q) q.at (reads (with_row q.count rows (own_row (fresh r))) (begin k d i q.count)) (i + 1) → Goes file n rows q w p
  goes_read p i k d s a c own from l room small onward =
      record {
        later = (let y = a in omega arith);
        within = (let y = a in omega arith);
        begins = subst (λ (at : ℕ). Begun at p.count (fresh p.reader)) (sym (a ∙ add-one i)) (k, d, q.count, c, room, small, s);
        count = c;
        onward = rw (a, ap row own ∙ row_back (own_row (fresh r)), after_some (i + 1) (with_row q.count rows (own_row (fresh r))) (fresh p.reader) (omega arith), s) onward;
      }

-- The reader that a component record, number i, leaves.
pub opens : (x : Record) (i c : ℕ) (k : Class) (d : ℕ) → x ≡ component k d → opened x i c ≡ begin k d i c
opens x i c k d e = rw e
