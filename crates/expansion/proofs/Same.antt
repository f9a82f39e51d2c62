-- The notes of a design list its rows.
-- Assumes nothing.
use Prim.Native.Nat.{ℕ, zero, suc, ◌+◌, ◌-◌, ◌≤◌, ◌<◌}
use mathlib.Core.Path.{◌≡◌, refl, ap, sym, ◌∙◌}
use mathlib.Core.List.{List, []}
use native.Mathlib.Omega.{arith}
use native.Mathlib.Decide.{dec_lt}
use lib.ListN.{length}
use Rattle.timeline.specs.Design.{Design, Class, leaf, built, class}
use Rattle.timeline.specs.Rules.{Lawful}
use Rattle.timeline.specs.Flat.{row_count, unit_count, rows_from}
use Rattle.timeline.proofs.Rows.{rows_length, rows_leaf, rows_built}
use Rattle.expansion.specs.declared.Note.{Note}
use Rattle.expansion.specs.Notes.{note_component, note_offset, note_units, first_note, join_from, listed}
use Rattle.expansion.specs.Asked.{Sound}
use Rattle.expansion.specs.Noted.{note_rows, invocation_rows, Noted}
use Rattle.expansion.proofs.Listed.{join_from_same, listed_leaf, listed_join}
use Rattle.expansion.proofs.Units.{units_within, invoked_lower}

module _ {D : Design} (lawful : Lawful D) {noted : List Note} {ends : List ℕ} {k : ℕ} (n : Noted D noted ends k) (few : k ≤ length D) where
  pub noted_sound : Sound noted ends k
  noted_sound = record {
    rising = λ c h. (n.notes c h).order;
    within = n.within;
    lower = λ c h e l m. let w = (n.notes c h).named e l m in rw w.component_is (invoked_lower lawful c (omega arith) w.invocation w.below);
  }

  -- A leaf has no note, a built component with rows has some.
  leaf_none : (c : ℕ) → c < k → class D c ≡ leaf → first_note ends (c + 1) ≤ first_note ends c
  leaf_none c h e = go (dec_lt (first_note ends c) (first_note ends (c + 1)))
    where
      go : Dec (first_note ends c < first_note ends (c + 1)) → first_note ends (c + 1) ≤ first_note ends c
      go (yes m) =
          let w = (n.notes c h).named (first_note ends c) (omega arith) m in
          let z = (lawful.whole c (omega arith)).leaf_invocations e in
          let b = w.below in
          absurd (omega arith)
      go (no m) = omega arith

  built_rows : (c t u : ℕ) → c < k → class D c ≡ built → unit_count D c ≤ 4096 → rows_from D c t u ≡ note_rows D noted c (first_note ends c) (first_note ends (c + 1)) t u
  unfolding invocation_rows
  built_rows c t u h e s = rows_built lawful c t u (omega arith) e ∙ sym ((n.notes c h).same_rows s t u)

  built_some : (c : ℕ) → c < k → class D c ≡ built → unit_count D c ≤ 4096 → 0 < row_count D c → first_note ends c < first_note ends (c + 1)
  unfolding note_rows join_from
  built_some c h e s r = go (dec_lt (first_note ends c) (first_note ends (c + 1)))
    where
      go : Dec (first_note ends c < first_note ends (c + 1)) → first_note ends c < first_note ends (c + 1)
      go (yes m) = m
      go (no m) =
          let z : first_note ends (c + 1) - first_note ends c ≡ 0 = omega arith in
          let q : rows_from D c 0 0 ≡ [] = built_rows c 0 0 h e s ∙ rw z in
          let l : length (rows_from D c 0 0) ≡ 0 = ap length q in
          let w = rows_length D c 0 0 in
          absurd (omega arith)

  -- Where no count of units was stopped, the notes of a component with rows list its rows.
  pub listed_rows : (f c t u : ℕ) → c < f → c < k → 0 < row_count D c → unit_count D c ≤ 4096 → listed noted ends c t u ≡ rows_from D c t u
  listed_rows zero c t u p h r s = absurd (omega arith)
  listed_rows (suc f) c t u p h r s = go (class D c) refl (λ d t u q. listed_rows f d t u (omega arith) (omega arith))
    where
      go : (x : Class) → class D c ≡ x → ((d t u : ℕ) → d < c → 0 < row_count D d → unit_count D d ≤ 4096 → listed noted ends d t u ≡ rows_from D d t u) → listed noted ends c t u ≡ rows_from D c t u
      go leaf e below = listed_leaf noted ends c t u (leaf_none c h e) ∙ sym (rows_leaf D c t u e)
      go built e below =
          listed_join noted ends k noted_sound c t u h (built_some c h e s r)
          ∙ join_from_same (first_note ends (c + 1) - first_note ends c) (first_note ends c) _ _ (λ i l m.
          let w = (n.notes c h).named i l (let o = (n.notes c h).order in omega arith) in
          let b = units_within lawful c (omega arith) w.invocation w.below in
          let d = invoked_lower lawful c (omega arith) w.invocation w.below in
          below (note_component noted i) (t + note_offset noted i) (u + note_units noted i) (rw w.component_is d) (rw w.component_is w.live) (rw w.component_is (omega arith)))
          ∙ unfold note_rows in sym (built_rows c t u h e s)
