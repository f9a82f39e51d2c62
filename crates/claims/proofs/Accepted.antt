-- A file of bytes is accepted exactly when it is that of a lawful design.
-- Assumes nothing.
use Prim.Native.Nat.{ℕ, ◌*◌, ◌/◌, ◌%◌, ◌≤◌, ◌<◌}
use mathlib.Core.Path.{◌≡◌, refl, ap, sym, ◌∙◌}
use mathlib.Core.List.{List, [], ◌∷◌, map}
use mathlib.Core.Logic.{◌↔◌}
use native.Mathlib.Omega.{arith}
use lib.ListN.{length, length-append, length-map}
use borrow.Author.Tests.{le-ltb, eq-eqb}
use Rattle.answers.specs.Answer.{accepted, Counts}
use Rattle.numbers.specs.Numbers.{Bytes}
use Rattle.blocks.specs.File.{sound}
use Rattle.packing.specs.Packed.{packed, unpacked}
use Rattle.packing.proofs.Main as Packing
use Rattle.timeline.specs.Design.{Design}
use Rattle.timeline.specs.Rules.{Lawful}
use Rattle.entry.specs.Records.{Record, component, parts, records}
use Rattle.entry.specs.Verdict.{verdict}
use Rattle.entry.proofs.Main.{accepted_exactly}
use Rattle.reading.proofs.Ranges.{AllInRange, accepted_in_range}
use Rattle.records.specs.Decoded.{decoded}
use Rattle.records.specs.Encoded.{encoded}
use Rattle.look.specs.Listed.{sixteens, records_of}
use Rattle.verdict.specs.Judgement.{judgement}
use Rattle.verdict.proofs.Passed.{Passed, passed, length_records}
use Rattle.claims.specs.File.{joined, list_bytes, file_of, HoldsLawful}
use Rattle.claims.proofs.Pieces.{pieces, joined_all, length_joined, pieces_joined, sixteens_are}
use Rattle.claims.proofs.Coded.{decode_encoded, sixteens_encoded, joined_small, encode_decoded}

module _ (file : List ℕ) (small : Bytes file) (k : Counts) (p : Passed file k) where
  abbrev holds : Packing.File file
  holds = record { count = p.count; passes = p.blocks; small = small }

  -- Its records, encoded again, are its list, and packed again the file.
  list_again : joined (map encoded (records_of file p.count)) ≡ unpacked file
  list_again =
      let u = Packing.list_of file holds in
      let s : sixteens file 0 p.count ≡ pieces (unpacked file) 0 p.count = sixteens_are file holds in
      let v : verdict (map decoded (pieces (unpacked file) 0 p.count)) ≡ accepted k = rw s at p.rules in
      let a = accepted_in_range (map decoded (pieces (unpacked file) 0 p.count)) k v in
      rw s (ap joined (encode_decoded (unpacked file) u.small 0 p.count a) ∙ joined_all (unpacked file) p.count (Packing.count_is file holds))

  pub file_again : packed (joined (map encoded (records_of file p.count))) ≡ file
  file_again = ap packed list_again ∙ Packing.back_and_there file holds

  to_design : HoldsLawful file k
  to_design =
      let (D, lawful, e, g, h) = (accepted_exactly (records_of file p.count) k).0 p.rules in
      let n : k.records ≡ p.count = sym h ∙ length_records file p.count in
      let m = Packing.count_is file holds in
      let q = (Packing.list_of file holds).allowed.most in
      record {
        design = D;
        lawful = lawful;
        is = ap (λ (rs : List Record). packed (joined (map encoded rs))) e ∙ file_again;
        components = g;
        count = ap length e ∙ h;
        few = omega arith;
      }

some_record : (D : Design) → 0 < length D → 1 ≤ length (records D)
unfolding records
some_record [] l = absurd (omega arith)
some_record (C ∷ D) l = omega (arith, length-append (component C.class C.delay ∷ parts C) (records D))

-- The file of a lawful design.
module _ (D : Design) (lawful : Lawful D) (few : length (records D) ≤ 3968) where
  abbrev counts : Counts
  counts = record { components = length D; records = length (records D) }

  in_order : verdict (records D) ≡ accepted counts
  in_order = (accepted_exactly (records D) counts).1 (D, lawful, refl, refl, refl)

  ranges : AllInRange (records D)
  ranges = accepted_in_range (records D) counts in_order

  long : length (list_bytes D) ≡ 16 * length (records D)
  long = length_joined (map encoded (records D)) (sixteens_encoded (records D) ranges) ∙ ap (λ (n : ℕ). 16 * n) (length-map (records D) encoded)

  listed : Packing.Records (list_bytes D)
  listed =
      let e = long in
      let s = some_record D lawful.some in
      record {
        allowed = record { least = omega arith; most = omega arith; also = eq-eqb (length (list_bytes D) % 16) 0 (omega arith) };
        small = joined_small (records D) ranges;
      }

  held : sound (file_of D) ≡ accepted (length (records D))
  held = let e = long in let n : length (list_bytes D) / 16 ≡ length (records D) = omega arith in rw n at (Packing.packed_passes (list_bytes D) listed)

  said : records_of (file_of D) (length (records D)) ≡ records D
  said =
      let f : Packing.File (file_of D) = record { count = length (records D); passes = held; small = (Packing.file_of (list_bytes D) listed).small } in
      let u : unpacked (file_of D) ≡ list_bytes D = Packing.there_and_back (list_bytes D) listed in
      let m : length (map encoded (records D)) ≡ length (records D) = length-map (records D) encoded in
      let p : pieces (list_bytes D) 0 (length (records D)) ≡ map encoded (records D) = rw m at (pieces_joined (map encoded (records D)) (sixteens_encoded (records D) ranges)) in
      ap (map decoded) (sixteens_are (file_of D) f ∙ ap (λ (l : List ℕ). pieces l 0 (length (records D))) u ∙ p) ∙ decode_encoded (records D) ranges

  pub from_design : (lent : ℕ) → 64 ≤ lent → judgement (file_of D) lent ≡ accepted counts
  unfolding judgement
  from_design lent room = rw (le-ltb lent 64 room, held, said, in_order)

pub judged_exactly : (file : List ℕ) → Bytes file → (lent : ℕ) → 64 ≤ lent → (k : Counts)
    → (judgement file lent ≡ accepted k) ↔ HoldsLawful file k
judged_exactly file small lent room k = (
  λ e. to_design file small k (passed file lent k e),
  λ h. rw (← h.is, ← h.components, ← h.count) (from_design h.design h.lawful (rw h.count h.few) lent room),
)
