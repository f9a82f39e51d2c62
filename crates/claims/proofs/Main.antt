-- The main page: what is proved of every file of bytes. `judgement file lent` is what the contract of `verdict::judge` says of a file and a working table of so many lent, five to a row.
-- Assumes nothing.
use Prim.Native.Nat.{ℕ, ◌≤◌, ◌<◌}
use mathlib.Core.Path.{◌≡◌, refl, ap, sym, ◌∙◌}
use mathlib.Core.List.{List, map}
use mathlib.Core.Bool.{Bool, true, false, cond}
use mathlib.Core.Logic.{◌↔◌, ◌⊎◌, inl, inr}
use lib.ListN.{length}
use lib.Dec.{ltb}
use borrow.Author.Tests.{lt-ltb, le-ltb, ltb-true, ltb-false}
use Rattle.answers.specs.Fault as Fault
use Rattle.answers.specs.Answer.{Answer, accepted, refused, then, refusal, Counts, Refusal}
use Rattle.answers.specs.Once.{one_refusal}
use Rattle.numbers.specs.Numbers.{Bytes}
use Rattle.blocks.specs.File.{sound}
use Rattle.blocks.proofs.Accepted.{sound_count}
use Rattle.timeline.specs.Design.{built, class, delay}
use Rattle.timeline.specs.Rules.{Lawful}
use Rattle.timeline.specs.Uses.{Spaced}
use Rattle.timeline.specs.Demand3.{Safe}
use Rattle.timeline.proofs.Demand3.{demand_3}
use Rattle.timeline.specs.Listing.{Listed}
use Rattle.timeline.proofs.Listing.{flat_listing}
use Rattle.entry.specs.Records.{Record, records}
use Rattle.entry.specs.Answers as Entry
use Rattle.entry.specs.Verdict.{verdict}
use Rattle.entry.proofs.Main as Entry-main
use Rattle.timetable.specs.Lowered.{Lowered, Wired}
use Rattle.timetable.proofs.Main as Timetable
use Rattle.packing.specs.Packed.{packed}
use Rattle.records.specs.Encoded.{encoded}
use Rattle.look.specs.Listed.{records_of}
use Rattle.verdict.specs.Judgement.{judgement}
use Rattle.verdict.proofs.Passed.{passed}
use Rattle.claims.specs.File.{joined, file_of, HoldsLawful, said_records, said_design}
use Rattle.claims.proofs.Accepted.{file_again, judged_exactly}

-- Demand 2: "A file is accepted exactly when the rules hold": when it is the packing of the record list of a design that is in range, whole and keeps them.
pub accepted_exactly : (file : List ℕ) → Bytes file → (lent : ℕ) → 64 ≤ lent → (k : Counts)
    → (judgement file lent ≡ accepted k) ↔ HoldsLawful file k
accepted_exactly = judged_exactly

-- Demand 1: "the first in the fixed order": the table, then the blocks, then the records, of which `Refuses` names the first that breaks a rule and tells the first rule of the table that it breaks.
abbrev pub First : List ℕ → (lent : ℕ) → Refusal → Type 0
First file lent r =
    ((lent < 64) × (r ≡ refusal Fault.Room 0))
    ⊎ ((64 ≤ lent) × ((sound file ≡ refused r) ⊎ ((k : ℕ) × (sound file ≡ accepted k) × Entry.Refuses (records_of file k) r)))

pub refused_exactly : (file : List ℕ) (lent : ℕ) (r : Refusal) → (judgement file lent ≡ refused r) ↔ First file lent r
unfolding judgement
refused_exactly file lent r = (to (ltb lent 64) refl (sound file) refl, from)
  where
    to : (t : Bool) → ltb lent 64 ≡ t → (a : Answer ℕ) → sound file ≡ a
        → ◌≡◌ {A = Answer Counts} (cond t (refused (refusal Fault.Room 0)) (then a (λ (k : ℕ). verdict (records_of file k)))) (refused r) → First file lent r
    to true e a q h = inl (ltb-true lent 64 e, sym (one_refusal h))
    to false e (refused m) q h = inr (ltb-false lent 64 e, inl (q ∙ ap refused (one_refusal h)))
    to false e (accepted k) q h = inr (ltb-false lent 64 e, inr (k, q, (Entry-main.refused_exactly (records_of file k) r).0 h))

    from : First file lent r → judgement file lent ≡ refused r
    from (inl h) = rw (lt-ltb lent 64 h.0, h.1)
    from (inr (l, inl h)) = rw (le-ltb lent 64 l, h)
    from (inr (l, inr (k, h, f))) = rw (le-ltb lent 64 l, h) ((Entry-main.refused_exactly (records_of file k) r).1 f)

-- Of an accepted file, over its bytes: the records that it holds and the design that they say.
module _ (file : List ℕ) (lent : ℕ) (k : Counts) (is_accepted : judgement file lent ≡ accepted k) where
  rules_kept : verdict (said_records file) ≡ accepted k
  rules_kept = let p = passed file lent k is_accepted in rw (sound_count file p.count p.blocks) at p.rules

  pub its_design : Lawful (said_design file) × (records (said_design file) ≡ said_records file) × (length (said_design file) ≡ k.components)
  its_design = let h = Entry-main.its_records (said_records file) k rules_kept in (h.0, h.1, Timetable.said_count (said_records file) k rules_kept)

  -- The file is that design's.
  pub its_file : Bytes file → file_of (said_design file) ≡ file
  its_file small =
      let p = passed file lent k is_accepted in
      let n = sound_count file p.count p.blocks in
      ap (λ (rs : List Record). packed (joined (map encoded rs))) its_design.1 ∙ rw n at (file_again file small k p)

  within : (top : ℕ) → top < k.components → top < length (said_design file)
  within top l = rw its_design.2 l

  -- Demand 3: every built component of it, started at any cycles at least its delay apart, is safe.
  pub safe : (top : ℕ) → top < k.components → class (said_design file) top ≡ built → (S : ℕ → Type 0) → Spaced (delay (said_design file) top) S → Safe (said_design file) top S
  safe top l = demand_3 (said_design file) its_design.0 top (within top l)

  -- Demand 2, of the rows that a built component is lowered to, and of those of all units below it.
  pub lowered : (top : ℕ) → top < k.components → class (said_design file) top ≡ built → (S : ℕ → Type 0) → Lowered (said_design file) top (said_records file) S
  lowered = Timetable.accepted_lowering (said_records file) k rules_kept

  pub wired : (top : ℕ) → top < k.components → (S : ℕ → Type 0) → Wired (said_design file) top (said_records file) S
  wired = Timetable.accepted_wiring (said_records file) k rules_kept

  -- Demand 2, of the flat listing of any component.
  pub listed : (top : ℕ) → top < k.components → (S : ℕ → Type 0) → Listed (said_design file) top S
  listed top l = flat_listing (said_design file) its_design.0 top (within top l)
