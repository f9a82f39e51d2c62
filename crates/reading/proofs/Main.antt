-- The main page: one pass over the records with a small state gives the verdict.
-- Assumes nothing.
use Rattle.std.specs.Prelude.{ℕ, ◌≡◌, List, []}
use Rattle.answers.specs.Answer.{accepted, Counts, Refusal}
use Rattle.timeline.specs.Design.{Port}
use Rattle.entry.specs.Records.{Record}
use Rattle.entry.specs.Entered.{Entered, nothing, design}
use Rattle.entry.specs.Verdict.{verdict}
use Rattle.reading.specs.Scan.{Tests, scan, Follows}
use Rattle.reading.specs.Reader.{View, waits}
use Rattle.reading.specs.Table.{TableOf, table}
use Rattle.reading.specs.Reads.{Reads, answer, last_state}
use Rattle.reading.proofs.Scanned as Scanned
use Rattle.reading.proofs.Followed as Followed

-- Any scan whose tests mean the rules, and whose state follows what is entered.
pub scan_verdict : (S : Type 0) (tests : S → Record → Tests) (ends : S → Tests) (tells : S → Record → (p n : ℕ) → Refusal) (count : S → ℕ) (next : S → ℕ → Record → S) (file : List Record) (Fits : Entered → List Record → S → Type 0)
    → Follows S tests ends tells count next file Fits → (s : S) → Fits nothing [] s → verdict file ≡ scan S tests ends tells count next s 0 file
scan_verdict S tests ends tells count next file Fits follows s h = Scanned.scan_verdict S tests ends tells count next file Fits follows s h

-- Any program that reads rightly.
module _ (S : Type 0) (view : S → View) (next : S → ℕ → Record → S) (Own : S → Type 0) (file : List Record) (look : ℕ → Port) (right : Reads S view next Own file look)
    (s : S) (waiting : view s ≡ waits) (own : Own s) where
  pub answer_verdict : verdict file ≡ answer S view next Own file look s 0 file
  answer_verdict = Followed.answer_verdict S view next Own file look right s waiting own

  -- Where the list is accepted, the table has the row of every component of the design.
  pub last_table : (k : Counts) → verdict file ≡ accepted k → TableOf (design file) (table (view (last_state S view next Own file look s 0 file)))
  last_table k a = Followed.last_table S view next Own file look right s waiting own k a
