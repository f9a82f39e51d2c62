-- One instance more, and one invocation more.
-- Assumes nothing.
use Prim.Native.Nat.{ℕ, suc, ◌+◌, ◌≤◌, ◌<◌}
use mathlib.Core.Path.{◌≡◌, refl, ap, sym, ◌∙◌}
use mathlib.Core.List.{List}
use native.Mathlib.Omega.{arith}
use native.Mathlib.Numerals.{add-one}
use native.Mathlib.Decide.{ℕ_discrete}
use lib.ListN.{length, get_or, set, length-set}
use lib.Seq.{get_or-set_same, get_or-set_other}
use borrow.Author.Tests.{eq-eqb, ne_eqb}
use Rattle.timeline.specs.Design.{Design, built, class, instance_count, invocation_count, made_of, instance, invoked, offset}
use Rattle.timeline.specs.Rules.{Lawful}
use Rattle.timeline.specs.Flat.{row_count, unit_count, units_before}
use Rattle.timeline.proofs.Rows.{row_count_built, unit_count_built, units_before_sum}
use Rattle.entry.specs.Numbers.{invocation_number}
use Rattle.groups.proofs.Order.{invocations_rise}
use Rattle.expansion.specs.declared.Note.{Note}
use Rattle.expansion.specs.Notes.{put_note}
use Rattle.expansion.specs.Noted.{capped}
use Rattle.expansion.proofs.Noting.{notes_start, notes_alike, notes_skip, notes_next, put_alike, put_length, put_there}
use Rattle.counting.specs.Known.{units_to, UnitsBefore, rows_to, kept_note, next_note, Noting}

-- ---- instances
-- The instances of component c before number m have been counted.
pub record Counted (D : Design) (c m sum : ℕ) (before : List ℕ) : Type 0 where
  pub few : m ≤ instance_count D c
  pub sum_is : sum ≡ capped (units_to D c m)
  pub before_is : UnitsBefore D c m before
  pub long : length before ≡ 32

pub counted_none : (D : Design) (c : ℕ) (before : List ℕ) → length before ≡ 32 → Counted D c 0 0 before
unfolding units_to
counted_none D c before l = record { few = omega arith; sum_is = refl; before_is = λ i h. absurd (omega arith); long = l }

module _ {D : Design} {c m sum : ℕ} {before : List ℕ} (s : Counted D c m sum before) (l : m < instance_count D c) (most : instance_count D c ≤ 32) where
  pub counted_more : {k next : ℕ} → k ≡ capped (unit_count D (made_of D c m)) → next ≡ capped (sum + k) → Counted D c (m + 1) next (set before m sum)
  unfolding units_to
  counted_more ek en =
      let e = s.sum_is in
      let w = s.long in
      record {
        few = omega arith;
        sum_is = rw (add-one m) (omega arith);
        before_is = λ i h. go i h (ℕ_discrete i m);
        long = simp length-set s.long;
      }
    where
      go : (i : ℕ) → i < m + 1 → Dec (i ≡ m) → get_or (set before m sum) i 0 ≡ capped (units_to D c i)
      go i h (yes e) = let w = s.long in rw e (get_or-set_same before m sum 0 (omega arith) ∙ s.sum_is)
      go i h (no e) = get_or-set_other before m i sum 0 e ∙ s.before_is i (omega arith)

module _ {D : Design} (lawful : Lawful D) (c : ℕ) (h : c < length D) where
  units_all : class D c ≡ built → units_to D c (instance_count D c) ≡ unit_count D c
  unfolding units_to
  units_all e = sym (unit_count_built lawful c h e)

  pub counted_all : {m sum : ℕ} {before : List ℕ} → class D c ≡ built → Counted D c m sum before → m ≡ instance_count D c
      → (sum ≡ capped (unit_count D c)) × UnitsBefore D c (instance_count D c) before
  counted_all e s q = (s.sum_is ∙ ap capped (rw q (units_all e)), rw q at s.before_is)

  pub rows_all : class D c ≡ built → rows_to D c (invocation_count D c) ≡ row_count D c
  unfolding rows_to
  rows_all e = sym (row_count_built lawful c h e)

  pub units_of : (j : ℕ) → units_to D c (instance D c j) ≡ units_before D c j
  unfolding units_to
  units_of j = sym (units_before_sum lawful c h j)

  -- ---- invocations
  pub noting_none : (a : ℕ) (noted : List Note) → a ≤ invocation_number D c 0 → length noted ≡ 3968 → Noting D c 0 a a 0 noted noted
  unfolding rows_to
  noting_none a noted p w = record { few = omega arith; notes = notes_start D c noted a; rows_are = refl; place = p; kept = λ i l. refl; long = w }

  module _ (j a z s : ℕ) (old mid : List Note) (t : Noting D c j a z s old mid) (l : j < invocation_count D c)
      (n : ℕ) (note : Note) (en : n ≡ capped (row_count D (invoked D c j))) (ec : note.component ≡ invoked D c j) (eo : note.offset ≡ offset D c j) (eu : note.units ≡ capped (units_before D c j))
      (below : z < 3968) where
    room : z < length mid
    room = let w = t.long in omega arith

    sums : capped (s + n) ≡ capped (rows_to D c (suc j))
    unfolding rows_to
    sums = let e = t.rows_are in omega arith

    skipped : n ≡ 0 → Noting D c (suc j) a z (capped (s + n)) old mid
    skipped e =
        let p = t.place in
        let q = invocations_rise D c 1 j in
        let w : 1 + j ≡ suc j = omega arith in
        let v = rw w at q in
        record { few = omega arith; notes = notes_skip D c mid j a z t.notes (omega arith); rows_are = sums; place = omega arith; kept = t.kept; long = t.long }

    noted : 0 < n → Noting D c (suc j) a (z + 1) (capped (s + n)) old (put_note mid z note)
    noted e =
        let p = t.place in
        let o = t.notes.order in
        let q = invocations_rise D c 1 j in
        let w : 1 + j ≡ suc j = omega arith in
        let v = rw w at q in
        let m = notes_alike D c (put_note mid z note) mid j a z (put_alike mid z note) t.notes in
        record {
          few = omega arith;
          notes = notes_next D c (put_note mid z note) j a z m lawful h l (record {
            live = omega arith;
            component_is = ap (λ (x : Note). x.component) (put_there mid z note room) ∙ ec;
            offset_is = ap (λ (x : Note). x.offset) (put_there mid z note room) ∙ eo;
            units_is = ap (λ (x : Note). x.units) (put_there mid z note room) ∙ eu;
          });
          rows_are = sums;
          place = omega arith;
          kept = λ i b. put_alike mid z note i (omega arith) ∙ t.kept i b;
          long = put_length mid z note ∙ t.long;
        }

    -- The next invocation, with a note where it has rows.
    pub noting_more : (z₁ s₁ : ℕ) (new : List Note) → z₁ ≡ next_note z n → new ≡ kept_note mid z n note → s₁ ≡ capped (s + n) → Noting D c (suc j) a z₁ s₁ old new
    noting_more z₁ s₁ new ez e es = rw (ez, e, es) (go (ℕ_discrete n 0))
      where
        go : Dec (n ≡ 0) → Noting D c (suc j) a (next_note z n) (capped (s + n)) old (kept_note mid z n note)
        go (yes q) = rw (eq-eqb n 0 q) (skipped q)
        go (no q) = rw (ne_eqb n 0 q) (noted (omega arith))
