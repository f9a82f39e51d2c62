-- An unbroken list of records says a design whose components are all finished, and is the list of its records.
-- Assumes nothing.
use Rattle.std.specs.Prelude.{suc, ◌≤◌, ◌<◌, ◌≡◌, refl, List, [], ◌∷◌, ◌++◌, get_or, take}
use Rattle.std.proofs.Common.{sym, ap, ◌∙◌, append-nil, append_assoc}
use Rattle.std.proofs.Math.ListN.{length}
use Rattle.std.proofs.Math.Seq.{take-append-le, take_at}
use native.Mathlib.Omega.{arith}
use Rattle.std.proofs.Math.Decide.{ℕ_discrete}
use Rattle.timeline.specs.Design.{Design, Component, no_component}
use Rattle.entry.specs.Lists.{add_last}
use Rattle.entry.specs.Records.{Part, input, output, instance, invocation, argument, connection, Record, wrong, component, part, invocations, parts, records}
use Rattle.entry.specs.Entered.{Entered, nothing, after, new, enter, enter_all, said, design}
use Rattle.entry.specs.Asks.{Place, part_asks, asks, ending}
use Rattle.entry.proofs.Lists.{length_add_last, at_old, at_new}
use Rattle.entry.proofs.Good.{Keeps, Good, Finished, All, AllFinished}
use Rattle.entry.proofs.Kept.{kept, new_good}
use Rattle.entry.proofs.Grown.{records_component, records_part}
use Rattle.entry.proofs.Unbroken.{Unbroken}

-- One component more, and one less.
module _ (P : List Component → Component → Type 0) (D : Design) (C : Component) where
  pub all_more : All D P → P D C → All (add_last D C) P
  unfolding add_last
  all_more h n c l = go (ℕ_discrete c (length D))
    where
      go : Dec (c ≡ length D) → P (take c (add_last D C)) (get_or (add_last D C) c no_component)
      go (yes e) = rw (e, at_new no_component D C, take_at D (C ∷ []) (length D) refl) n
      go (no d) =
          let k : c < length D = let z = length_add_last D C in omega arith in
          rw (at_old no_component D C c k, take-append-le c D (C ∷ []) (omega arith)) (h c k)

  pub all_less : All (add_last D C) P → All D P × P D C
  unfolding add_last
  all_less h =
      let z = length_add_last D C in (
        λ c l. rw (at_old no_component D C c l, take-append-le c D (C ∷ []) (omega arith)) at (h c (omega arith)),
        rw (at_new no_component D C, take_at D (C ∷ []) (length D) refl) at (h (length D) (omega arith)),
      )

-- What has been entered, of records that keep the rules: the components before are finished, and this one is good so far.
abbrev pub Sound : Entered → Type 0
Sound nothing = Unit
Sound (after E C) = All E Finished × Good E C × (suc (length E) ≤ 64)

pub sound_step : (e : Entered) (r : Record) → Sound e → Keeps (asks e r) → Sound (enter e r)
sound_step nothing wrong h n = absurd n.0
sound_step nothing (component k d) h n = (λ c l. absurd (omega arith), new_good [] k d n.0, omega arith)
sound_step nothing (part x) h n = absurd n.1.0
sound_step (after E C) wrong h n = absurd n.0
sound_step (after E C) (component k d) h (range, (complete, (few, _))) =
    let z = length_add_last E C in
    (all_more Finished E C h.0 (h.1, complete), new_good (add_last E C) k d range, omega arith)
sound_step (after E C) (part x) h n = (h.0, kept E C h.1 x n, h.2)

placed : (E : List Component) (C : Component) (x : Part) → Keeps (part_asks E C x) → Place E C x
placed E C (input p) k = k.0
placed E C (output p) k = k.0
placed E C (instance n) k = k.0
placed E C (invocation v) k = k.0
placed E C (argument s) k = k.0
placed E C (connection s) k = k.0

pub records_step : (e : Entered) (r : Record) → Sound e → Keeps (asks e r) → records (said (enter e r)) ≡ records (said e) ++ (r ∷ [])
unfolding records parts invocations add_last
records_step nothing wrong h n = absurd n.0
records_step nothing (component k d) h n = refl
records_step nothing (part x) h n = absurd n.1.0
records_step (after E C) wrong h n = absurd n.0
records_step (after E C) (component k d) h n = records_component (add_last E C) (new k d)
records_step (after E C) (part x) h n = records_part E C x (placed E C x n.1) h.1.even

finished_said : (e : Entered) → Sound e → Keeps (ending e) → AllFinished (said e)
finished_said nothing h k = absurd k.0
finished_said (after E C) h k =
    let z = length_add_last E C in
    let y = h.2 in
    record { each = all_more Finished E C h.0 (h.1, k.0); some = omega arith; few = omega arith }

walk : (e : Entered) (rs : List Record) → Sound e → Unbroken e rs → AllFinished (said (enter_all e rs)) × (records (said (enter_all e rs)) ≡ records (said e) ++ rs)
unfolding enter_all Unbroken
walk e [] h u = (finished_said e h u, sym (append-nil _))
walk e (r ∷ rs) h u =
    let w = walk (enter e r) rs (sound_step e r h u.0) u.1 in
    (w.0, w.1 ∙ ap (◌++ rs) (records_step e r h u.0) ∙ append_assoc (records (said e)) (r ∷ []) rs)

pub unbroken_finished : (rs : List Record) → Unbroken nothing rs → AllFinished (design rs) × (records (design rs) ≡ rs)
unfolding design records
unbroken_finished rs u = walk nothing rs tt u
