-- Notes one after the other: an invocation without rows needs none, one with rows a note behind the others.
-- Assumes nothing.
use Prim.Native.Nat.{ℕ, zero, suc, ◌+◌, ◌-◌, ◌≤◌, ◌<◌}
use mathlib.Core.Path.{◌≡◌, ap, sym, ◌∙◌}
use mathlib.Core.List.{List, ◌++◌, append_assoc, append-nil}
use native.Mathlib.Omega.{arith}
use native.Mathlib.Decide.{dec_lt}
use lib.ListN.{length, length-set}
use lib.Seq.{get_or-set_same, get_or-set_other}
use Rattle.timeline.specs.Design.{Design, invocation_count, invoked, offset}
use Rattle.timeline.specs.Rules.{Lawful}
use Rattle.timeline.specs.Flat.{row_count, units_before, rows_from}
use Rattle.timeline.proofs.Rows.{rows_none}
use Rattle.expansion.specs.declared.Note.{Note}
use Rattle.expansion.specs.Notes.{no_note, note_at, note_component, note_offset, note_units, join_from, put_note}
use Rattle.expansion.specs.Noted.{capped, Named, note_rows, invocation_rows, NotesOf, Alike}
use Rattle.expansion.proofs.Listed.{join_from_same}
use Rattle.expansion.proofs.Units.{units_within}

-- The join with one part more at its end.
join_from_last : {A : Type 0} (n e : ℕ) (f : ℕ → List A) → join_from (suc n) e f ≡ join_from n e f ++ f (e + n)
unfolding join_from
join_from_last zero e f = let z : e + 0 ≡ e = omega arith in rw z (append-nil (f e))
join_from_last (suc n) e f =
    let z : e + 1 + n ≡ e + suc n = omega arith in
    ap (λ r. f e ++ r) (join_from_last n (e + 1) f ∙ rw z) ∙ sym (append_assoc (f e) (join_from n (e + 1) f) (f (e + suc n)))

module _ (D : Design) (c : ℕ) where
  pub notes_start : (noted : List Note) (a : ℕ) → NotesOf D noted c 0 a a
  unfolding note_rows invocation_rows join_from
  notes_start noted a = record {
    order = omega arith;
    named = λ e l m. absurd (omega arith);
    same_rows = λ s t u. let z : a - a ≡ 0 = omega arith in rw z;
  }

  pub notes_alike : (new old : List Note) (j a z : ℕ) → Alike new old z → NotesOf D old c j a z → NotesOf D new c j a z
  unfolding note_rows
  notes_alike new old j a z s n = record {
    order = n.order;
    named = λ e l m. let w = n.named e l m in record {
      invocation = w.invocation;
      below = w.below;
      component_is = ap (λ (n : Note). n.component) (s e m) ∙ w.component_is;
      live = w.live;
    };
    same_rows = λ h t u. join_from_same (z - a) a (λ e. rows_from D (note_component new e) (t + note_offset new e) (u + note_units new e)) (λ e. rows_from D (note_component old e) (t + note_offset old e) (u + note_units old e)) (λ e l m. let k : e < z = (let o = n.order in omega arith) in ap (λ (x : Note). rows_from D x.component (t + x.offset) (u + x.units)) (s e k)) ∙ n.same_rows h t u;
  }

  module _ (noted : List Note) (j a z : ℕ) (n : NotesOf D noted c j a z) where
    named_more : (e : ℕ) → a ≤ e → e < z → Named D noted c (suc j) e
    named_more e l m = let w = n.named e l m in record {
      invocation = w.invocation;
      below = let b = w.below in omega arith;
      component_is = w.component_is;
      live = w.live;
    }

    -- An invocation without rows adds nothing.
    pub notes_skip : row_count D (invoked D c j) ≡ 0 → NotesOf D noted c (suc j) a z
    unfolding invocation_rows
    notes_skip h = record {
      order = n.order;
      named = named_more;
      same_rows = λ s t u. n.same_rows s t u ∙ rw (rows_none D (invoked D c j) (t + offset D c j) (u + units_before D c j) h) (sym (append-nil _));
    }

    -- One with rows has the next note.
    pub record NotedNext : Type 0 where
      pub live : 0 < row_count D (invoked D c j)
      pub component_is : note_component noted z ≡ invoked D c j
      pub offset_is : note_offset noted z ≡ offset D c j
      pub units_is : note_units noted z ≡ capped (units_before D c j)

    pub notes_next : Lawful D → c < length D → j < invocation_count D c → NotedNext → NotesOf D noted c (suc j) a (z + 1)
    unfolding note_rows invocation_rows
    notes_next lawful h l w = record {
      order = let o = n.order in omega arith;
      named = λ e p q. go e p q (dec_lt e z);
      same_rows = λ s t u.
          let o = n.order in
          let b = units_within lawful c h j l in
          let x : z + 1 - a ≡ suc (z - a) = omega arith in
          let y : a + (z - a) ≡ z = omega arith in
          let v : note_units noted z ≡ units_before D c j = (let k = w.units_is in omega arith) in
          rw (x, join_from_last (z - a) a (λ e. rows_from D (note_component noted e) (t + note_offset noted e) (u + note_units noted e)), y, w.component_is, w.offset_is, v)
          (ap (λ r. r ++ rows_from D (invoked D c j) (t + offset D c j) (u + units_before D c j)) (n.same_rows s t u));
    }
      where
        go : (e : ℕ) → a ≤ e → e < z + 1 → Dec (e < z) → Named D noted c (suc j) e
        go e p q (yes m) = named_more e p m
        go e p q (no m) = let x : e ≡ z = omega arith in record { invocation = j; below = omega arith; component_is = rw x w.component_is; live = w.live }

-- ---- a note put at place z
module _ (noted : List Note) (z : ℕ) (note : Note) where
  pub put_alike : Alike (put_note noted z note) noted z
  unfolding put_note note_at
  put_alike i l = get_or-set_other noted z i note no_note (λ e. absurd (omega arith))

  pub put_length : length (put_note noted z note) ≡ length noted
  unfolding put_note
  put_length = simp length-set

  pub put_there : z < length noted → note_at (put_note noted z note) z ≡ note
  unfolding put_note note_at
  put_there l = get_or-set_same noted z note no_note l
