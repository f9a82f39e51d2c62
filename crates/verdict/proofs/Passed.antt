-- What acceptance has passed: the table's length, the blocks, the records.
-- Assumes nothing.
use Prim.Native.Nat.{ℕ, ◌≤◌}
use mathlib.Core.Path.{◌≡◌, refl, sym, ap, ◌∙◌}
use mathlib.Core.List.{List}
use mathlib.Core.Bool.{Bool, true, false, cond}
use lib.ListN.{length}
use lib.Dec.{ltb}
use borrow.Author.Tests.{ltb-false}
use Rattle.answers.specs.Fault as Fault
use Rattle.answers.specs.Answer.{Answer, accepted, refused, then, refusal, Counts}
use Rattle.answers.specs.Once.{apart}
use Rattle.blocks.specs.File.{sound}
use Rattle.timeline.specs.Rules.{Lawful}
use Rattle.entry.specs.Records.{records}
use Rattle.entry.specs.Entered.{design}
use Rattle.entry.specs.Verdict.{verdict}
use Rattle.entry.proofs.Main.{accepted_exactly, its_records, the_design}
use Rattle.verdict.proofs.Whole.{length_from}
use Rattle.look.specs.Listed.{records_of}
use Rattle.verdict.specs.Judgement.{judgement}

pub record Passed (file : List ℕ) (k : Counts) : Type 0 where
  pub count : ℕ
  pub blocks : sound file ≡ accepted count
  pub rules : verdict (records_of file count) ≡ accepted k

pub passed : (file : List ℕ) (rows : ℕ) (k : Counts) → judgement file rows ≡ accepted k → Passed file k
unfolding judgement
passed file rows k e = go (ltb rows 64) (sound file) refl e
  where
    go : (t : Bool) (a : Answer ℕ) → sound file ≡ a
        → ◌≡◌ {A = Answer Counts} (cond t (refused (refusal Fault.Room 0)) (then a (λ (n : ℕ). verdict (records_of file n)))) (accepted k) → Passed file k
    go true a q e = absurd (apart (sym e))
    go false (accepted n) q e = record { count = n; blocks = q; rules = e }
    go false (refused r) q e = absurd (apart (sym e))

pub enough_rows : (file : List ℕ) (rows : ℕ) (k : Counts) → judgement file rows ≡ accepted k → ltb rows 64 ≡ false
unfolding judgement
enough_rows file rows k e = go (ltb rows 64) e
  where
    go : (t : Bool) → ◌≡◌ {A = Answer Counts} (cond t (refused (refusal Fault.Room 0)) (then (sound file) (λ (n : ℕ). verdict (records_of file n)))) (accepted k) → t ≡ false
    go true e = absurd (apart (sym e))
    go false e = refl

pub length_records : (file : List ℕ) (n : ℕ) → length (records_of file n) ≡ n
length_records file n = length_from file 0 n

module _ (file : List ℕ) (k : Counts) (p : Passed file k) where
  -- As many records as the blocks hold.
  pub record_total : k.records ≡ p.count
  record_total = let (D, lawful, e, g, h) = (accepted_exactly (records_of file p.count) k).0 p.rules in sym h ∙ length_records file p.count

  -- As many components as its design has.
  component_total : length (design (records_of file k.records)) ≡ k.components
  component_total =
      let (D, lawful, e, g, h) = (accepted_exactly (records_of file p.count) k).0 p.rules in
      rw (record_total, sym e) (ap length (the_design D lawful.whole) ∙ g)

  pub said_lawful : Lawful (design (records_of file k.records)) × (records (design (records_of file k.records)) ≡ records_of file k.records)
  said_lawful = rw record_total (its_records (records_of file p.count) k p.rules)

-- An accepted file has at most 64 components, the table a row for each.
pub said_few : (file : List ℕ) (rows : ℕ) (k : Counts) → judgement file rows ≡ accepted k → (length (design (records_of file k.records)) ≤ 64) × (length (design (records_of file k.records)) ≡ k.components) × (64 ≤ rows)
said_few file rows k e =
    let p = passed file rows k e in
    ((said_lawful file k p).0.few, component_total file k p, ltb-false rows 64 (enough_rows file rows k e))
