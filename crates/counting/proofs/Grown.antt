-- One component more has been counted.
-- Assumes nothing.
use Prim.Native.Nat.{ℕ, zero, suc, ◌+◌, ◌-◌, ◌≤◌, ◌<◌}
use mathlib.Core.Path.{◌≡◌, refl, ap, ◌∙◌}
use mathlib.Core.List.{List}
use native.Mathlib.Omega.{arith}
use native.Mathlib.Decide.{ℕ_discrete}
use lib.ListN.{length, get_or, set, replicate, length-set, length-replicate, get_or-replicate}
use lib.Seq.{get_or-set_same, get_or-set_other}
use Rattle.timeline.specs.Design.{Design, leaf, built, class, invocation_count}
use Rattle.timeline.specs.Rules.{Lawful}
use Rattle.timeline.specs.Flat.{row_count, unit_count}
use Rattle.timeline.proofs.Rows.{row_count_leaf, unit_count_leaf}
use Rattle.entry.specs.Numbers.{component_number}
use Rattle.expansion.specs.declared.Note.{Note}
use Rattle.expansion.specs.Notes.{no_note, first_note}
use Rattle.expansion.specs.Noted.{capped, NotesOf, Alike, Noted}
use Rattle.expansion.proofs.Noting.{notes_start, notes_alike}
use Rattle.groups.specs.Groups.{design_of}
use Rattle.counting.specs.declared.Totals.{Totals}
use Rattle.counting.specs.Known.{OpenedAt, Counts, Noting, Known}
use Rattle.counting.proofs.Places.{in_order, present, few_components, component_within}
use Rattle.counting.proofs.Turns.{rows_all}

pub counts_more : (count : ℕ → ℕ) (c x : ℕ) (l : List ℕ) → Counts count c l → c < length l → x ≡ capped (count c) → Counts count (c + 1) (set l c x)
counts_more count c x l k h e d b = go (ℕ_discrete d c)
  where
    go : Dec (d ≡ c) → get_or (set l c x) d 0 ≡ capped (count d)
    go (yes q) = rw q (get_or-set_same l c x 0 h ∙ e)
    go (no q) = get_or-set_other l c d x 0 q ∙ k d (omega arith)

module _ (ends : List ℕ) (c z : ℕ) where
  first_same : (d : ℕ) → d ≤ c → first_note (set ends (c + 1) z) d ≡ first_note ends d
  unfolding first_note
  first_same d l = get_or-set_other ends (c + 1) d z 0 (λ e. absurd (omega arith))

  first_last : c + 1 < length ends → first_note (set ends (c + 1) z) (c + 1) ≡ z
  unfolding first_note
  first_last l = get_or-set_same ends (c + 1) z 0 l

module _ (D : Design) (noted : List Note) (ends : List ℕ) (c : ℕ) (n : Noted D noted ends c) where
  rising_to : (x d : ℕ) → x + d ≡ c → first_note ends d ≤ first_note ends c
  rising_to zero d e = let q : d ≡ c = omega arith in rw q (omega arith)
  rising_to (suc x) d e =
      let h = rising_to x (d + 1) (omega arith) in
      let o = (n.notes d (omega arith)).order in
      omega arith

  pub noted_more : (new : List Note) (z : ℕ) → Alike new noted (first_note ends c) → NotesOf D new c (invocation_count D c) (first_note ends c) z → z ≤ 3968 → c + 1 < length ends
      → Noted D new (set ends (c + 1) z) (c + 1)
  noted_more new z s m w l = record { within = λ d b. within d b (ℕ_discrete d c); notes = λ d b. notes d b (ℕ_discrete d c) }
    where
      within : (d : ℕ) → d < c + 1 → Dec (d ≡ c) → first_note (set ends (c + 1) z) (d + 1) ≤ 3968
      within d b (yes q) = rw (q, first_last ends c z l) w
      within d b (no q) = rw (first_same ends c z (d + 1) (omega arith)) (n.within d (omega arith))

      notes : (d : ℕ) → d < c + 1 → Dec (d ≡ c) → NotesOf D new d (invocation_count D d) (first_note (set ends (c + 1) z) d) (first_note (set ends (c + 1) z) (d + 1))
      notes d b (yes q) = rw (q, first_last ends c z l, first_same ends c z c (omega arith)) m
      notes d b (no q) =
          let r = rising_to (c - (d + 1)) (d + 1) (omega arith) in
          rw (first_same ends c z (d + 1) (omega arith), first_same ends c z d (omega arith))
          (notes_alike D d new noted (invocation_count D d) (first_note ends d) (first_note ends (d + 1)) (λ i k. s i (omega arith)) (n.notes d (omega arith)))

module _ {file table : List ℕ} {components n c : ℕ} (o : OpenedAt file table components n c) {old : Totals} (k : Known (design_of file n) c old) where
  abbrev D : Design
  D = design_of file n

  abbrev lawful : Lawful D
  lawful = o.opened.lawful

  few : c < 64
  few = let f = few_components o in let t = o.there in omega arith

  end : component_number D (c + 1) ≤ 3968
  end = let w = component_within o in let f = o.opened.few in omega arith

  pub known_leaf : class D c ≡ leaf
      → Known D (c + 1) (record { rows = set old.rows c 1; units = set old.units c 1; notes = record { noted = old.notes.noted; ends = set old.notes.ends (c + 1) (first_note old.notes.ends c) } })
  known_leaf e =
      let f = few in
      let m = end in
      let lr = k.long_rows in
      let lu = k.long_units in
      let le = k.long_ends in
      let q = in_order D c (present o) in
      let p = k.place in
      let z = (lawful.whole c (present o)).leaf_invocations e in
      record {
        row_counts = counts_more (row_count D) c 1 old.rows k.row_counts (omega arith) (rw (row_count_leaf lawful c (present o) e));
        unit_counts = counts_more (unit_count D) c 1 old.units k.unit_counts (omega arith) (rw (unit_count_leaf lawful c (present o) e));
        notes = noted_more D old.notes.noted old.notes.ends c k.notes old.notes.noted (first_note old.notes.ends c) (λ i b. refl) (rw z (notes_start D c old.notes.noted (first_note old.notes.ends c))) (omega arith) (omega arith);
        place = rw (first_last old.notes.ends c (first_note old.notes.ends c) (omega arith)) (omega arith);
        long_rows = simp length-set lr;
        long_units = simp length-set lu;
        long_noted = k.long_noted;
        long_ends = simp length-set le;
      }

  pub known_built : {s u z : ℕ} {new : List Note} → class D c ≡ built → u ≡ capped (unit_count D c) → Noting D c (invocation_count D c) (first_note old.notes.ends c) z s old.notes.noted new
      → Known D (c + 1) (record { rows = set old.rows c s; units = set old.units c u; notes = record { noted = new; ends = set old.notes.ends (c + 1) z } })
  known_built {s} {u} {z} {new} e eu t =
      let f = few in
      let m = end in
      let lr = k.long_rows in
      let lu = k.long_units in
      let le = k.long_ends in
      let q = in_order D c (present o) in
      let p = t.place in
      record {
        row_counts = counts_more (row_count D) c s old.rows k.row_counts (omega arith) (t.rows_are ∙ ap capped (rows_all lawful c (present o) e));
        unit_counts = counts_more (unit_count D) c u old.units k.unit_counts (omega arith) eu;
        notes = noted_more D old.notes.noted old.notes.ends c k.notes new z t.kept t.notes (omega arith) (omega arith);
        place = rw (first_last old.notes.ends c z (omega arith)) (omega arith);
        long_rows = simp length-set lr;
        long_units = simp length-set lu;
        long_noted = t.long;
        long_ends = simp length-set le;
      }

-- No component has been counted.
pub known_none : (D : Design) → Known D 0 (record { rows = replicate 64 0; units = replicate 64 0; notes = record { noted = replicate 3968 no_note; ends = replicate 65 0 } })
unfolding first_note
known_none D = record {
  row_counts = λ c h. absurd (omega arith);
  unit_counts = λ c h. absurd (omega arith);
  notes = record { within = λ c h. absurd (omega arith); notes = λ c h. absurd (omega arith) };
  place = rw (get_or-replicate {A = ℕ} 65 0 0 0 (omega arith)) (omega arith);
  long_rows = length-replicate {A = ℕ} 64 0;
  long_units = length-replicate {A = ℕ} 64 0;
  long_noted = length-replicate {A = Note} 3968 no_note;
  long_ends = length-replicate {A = ℕ} 65 0;
}
