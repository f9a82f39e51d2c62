-- Nothing is lost in the struct: where two calls give a host the same struct, they have the same answer. A refusal has a number of its own, and 0 is acceptance.
-- Assumes nothing.
use Prim.Native.Nat.{ℕ}
use mathlib.Core.Bool.{Bool, true, false, cond, ◌&&◌}
use mathlib.Core.List.{List}
use mathlib.Core.Path.{◌≡◌, refl, ap, ◌∙◌, sym}
use native.Mathlib.Omega.{arith}
use lib.ListN.{length}
use lib.Dec.{ltb}
use Rattle.answers.specs.Answer.{Answer, accepted, refused, Sure, Counts, Refusal}
use Rattle.answers.specs.Once.{sure_then}
use Rattle.blocks.specs.File.{sound, present, record_answer}
use Rattle.blocks.proofs.Accepted.{sound_sure}
use Rattle.packing.specs.Packed.{list_allowed}
use Rattle.packing.specs.Answer.{into, pack_answer, unpack_answer}
use Rattle.timeline.specs.Design.{class}
use Rattle.entry.proofs.Laws.{verdict_sure}
use Rattle.reading.specs.Tests.{is_built}
use Rattle.look.specs.Listed.{records_of}
use Rattle.timeline.specs.Flat.{row_count, unit_count}
use Rattle.timetable.specs.Rows.{Row}
use Rattle.verdict.specs.Judgement.{judgement}
use Rattle.groups.specs.Groups.{design_of}
use Rattle.lowering.specs.Answer.{component_rows, how_many, lowered, lower_answer}
use Rattle.listing.specs.Answer.{fits, flat_answer, list_answer}
use Rattle.host.specs.declared.Reply.{Reply}
use Rattle.host.specs.Reply.{reply, counts, amount, place}

-- One of two answers.
either_sure : {A : Type 0} (t : Bool) (a b : Answer A) → Sure a → Sure b → Sure (cond t a b)
either_sure true a b s r = s
either_sure false a b s r = r

judged_sure : (file : List ℕ) (lent : ℕ) → Sure (judgement file lent)
unfolding judgement
judged_sure file lent = either_sure (ltb lent 64) _ _ (omega arith) (sure_then (sound file) _ (sound_sure file) (λ n. verdict_sure (records_of file n)))

found_sure : (file : List ℕ) (i : ℕ) → Sure (record_answer file i)
unfolding record_answer
found_sure file i = sure_then (sound file) (present i) (sound_sure file) (λ n. either_sure (ltb i n) _ _ tt (omega arith))

into_sure : (room size : ℕ) → Sure (into room size)
into_sure room size = either_sure (ltb room size) _ _ (omega arith) tt

packed_sure : (list : List ℕ) (room : ℕ) → Sure (pack_answer list room)
unfolding pack_answer
packed_sure list room = either_sure (list_allowed (length list)) _ _ (into_sure room _) (omega arith)

unpacked_sure : (file : List ℕ) (room : ℕ) → Sure (unpack_answer file room)
unfolding unpack_answer
unpacked_sure file room = sure_then (sound file) _ (sound_sure file) (λ n. into_sure room _)

counted_sure : (a : Answer (List Row)) → Sure a → Sure (how_many a)
counted_sure (accepted l) s = tt
counted_sure (refused r) s = s

lowered_sure : (file : List ℕ) (lent asked room : ℕ) → Sure (lower_answer file lent asked room)
unfolding lowered component_rows
lowered_sure file lent asked room =
    counted_sure (lowered file lent asked room)
    (sure_then (judgement file lent) _ (judged_sure file lent) (λ k.
    either_sure (ltb asked (length (design_of file k.records)) && is_built (class (design_of file k.records) asked)) _ _ (either_sure (ltb room _) _ _ (omega arith) tt) (omega arith)))

listed_sure : (file : List ℕ) (lent asked room : ℕ) → Sure (list_answer file lent asked room)
unfolding list_answer flat_answer
listed_sure file lent asked room =
    sure_then (judgement file lent) _ (judged_sure file lent) (λ k.
    either_sure (ltb asked (length (design_of file k.records))) _ _ (either_sure (fits (row_count (design_of file k.records) asked) (unit_count (design_of file k.records) asked) room) _ _ tt (omega arith)) (omega arith))

module _ {A : Type 0} (given : A → Reply) (free : (a : A) → (given a).refusal ≡ 0) (back : (a b : A) → given a ≡ given b → a ≡ b) where
  same_answer : (a b : Answer A) → Sure a → Sure b → reply given a ≡ reply given b → a ≡ b
  same_answer (accepted a) (accepted b) n m e = ap accepted (back a b e)
  same_answer (accepted a) (refused q) n m e =
      let z : q.number ≡ 0 = sym (ap (λ (r : Reply). r.refusal) e) ∙ free a in
      absurd (omega arith)
  same_answer (refused p) (accepted b) n m e =
      let z : p.number ≡ 0 = ap (λ (r : Reply). r.refusal) e ∙ free b in
      absurd (omega arith)
  same_answer (refused p) (refused q) n m e = ap refused (ap refusing_back e)
    where
      refusing_back : Reply → Refusal
      refusing_back r = record { number = r.refusal; position = r.position }

same_counts : (a b : Counts) → counts a ≡ counts b → a ≡ b
same_counts a b e = ap counted e
  where
    counted : Reply → Counts
    counted r = record { components = r.components; records = r.count }

same_amount : (a b : ℕ) → amount a ≡ amount b → a ≡ b
same_amount a b e = ap (λ (r : Reply). r.count) e

-- Of any two calls of a function.
module _ (f g : List ℕ) (l m : ℕ) where
  pub one_verdict_told : reply counts (judgement f l) ≡ reply counts (judgement g m) → judgement f l ≡ judgement g m
  one_verdict_told = same_answer counts (λ a. refl) same_counts (judgement f l) (judgement g m) (judged_sure f l) (judged_sure g m)

  pub one_packing_told : reply amount (pack_answer f l) ≡ reply amount (pack_answer g m) → pack_answer f l ≡ pack_answer g m
  one_packing_told = same_answer amount (λ a. refl) same_amount (pack_answer f l) (pack_answer g m) (packed_sure f l) (packed_sure g m)

  pub one_unpacking_told : reply amount (unpack_answer f l) ≡ reply amount (unpack_answer g m) → unpack_answer f l ≡ unpack_answer g m
  one_unpacking_told = same_answer amount (λ a. refl) same_amount (unpack_answer f l) (unpack_answer g m) (unpacked_sure f l) (unpacked_sure g m)

  pub one_place_told : (i : ℕ) → reply (place i) (record_answer f i) ≡ reply (place i) (record_answer g i) → record_answer f i ≡ record_answer g i
  one_place_told i = same_answer (place i) (λ a. refl) (λ a b q. refl) (record_answer f i) (record_answer g i) (found_sure f i) (found_sure g i)

  module _ (a b r s : ℕ) where
    pub one_lowering_told : reply amount (lower_answer f l a r) ≡ reply amount (lower_answer g m b s) → lower_answer f l a r ≡ lower_answer g m b s
    one_lowering_told = same_answer amount (λ a. refl) same_amount (lower_answer f l a r) (lower_answer g m b s) (lowered_sure f l a r) (lowered_sure g m b s)

    pub one_listing_told : reply amount (list_answer f l a r) ≡ reply amount (list_answer g m b s) → list_answer f l a r ≡ list_answer g m b s
    one_listing_told = same_answer amount (λ a. refl) same_amount (list_answer f l a r) (list_answer g m b s) (listed_sure f l a r) (listed_sure g m b s)
