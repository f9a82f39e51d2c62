-- The records of a design whose components are all finished break no rule: each stands in its place, and from the finished design one walks backwards.
-- Assumes nothing.
use Rattle.std.specs.Prelude.{List, [], ◌∷◌}
use Rattle.std.proofs.Common.{arith}
use Rattle.timeline.specs.Design.{Design}
use Rattle.entry.specs.Records.{Record, wrong, component, part, records}
use Rattle.entry.specs.Entered.{Entered, nothing, after, enter, enter_all, said, design}
use Rattle.entry.specs.Asks.{asks, ending}
use Rattle.entry.proofs.Lists.{length_add_last}
use Rattle.entry.proofs.Good.{Keeps, Finished, All, AllFinished}
use Rattle.entry.proofs.Back.{back}
use Rattle.entry.proofs.Unbroken.{Unbroken}
use Rattle.entry.proofs.Steps.{all_less, Sound}
use Rattle.entry.proofs.Rebuilt.{chain, design_records}
use Rattle.entry.proofs.Placed.{Allowed, Placed, Whole, placed_records}

back_step : (e : Entered) (r : Record) → Allowed e r → Sound (enter e r) → Sound e × Keeps (asks e r)
back_step nothing wrong w h = absurd w
back_step nothing (component k d) w h = (tt, (h.1.delay, tt))
back_step nothing (part x) w h = absurd w
back_step (after E C) wrong w h = absurd w
back_step (after E C) (component k d) w h =
    let f = all_less Finished E C h.0 in
    let z = length_add_last E C in
    let y = h.2 in
    ((f.0, f.1.0, omega arith), (h.1.delay, (w, (omega arith, tt))))
back_step (after E C) (part x) w h = let b = back E C x w h.1 in ((h.0, b.0, h.2), b.1)

back_walk : (e : Entered) (rs : List Record) → Placed e rs → Sound (enter_all e rs) → Keeps (ending (enter_all e rs)) → Sound e × Unbroken e rs
unfolding Placed enter_all Unbroken
back_walk e [] w h k = (h, k)
back_walk e (r ∷ rs) w h k =
    let u = back_walk (enter e r) rs w.1 h k in
    let b = back_step e r w.0 u.0 in
    (b.0, (b.1, u.1))

-- What has been entered where the design is finished.
sound_said : (e : Entered) → AllFinished (said e) → Sound e × Keeps (ending e)
sound_said nothing h = let z = h.some in absurd (omega arith)
sound_said (after E C) h =
    let f = all_less Finished E C h.each in
    let z = length_add_last E C in
    let y = h.few in
    ((f.0, f.1.0, omega arith), (f.1.1, tt))

pub finished_unbroken : (D : Design) → AllFinished D → Unbroken nothing (records D)
unfolding design
finished_unbroken D h =
    let whole : All D Whole = λ c l. let f = h.each c l in (f.1, f.0.even, f.0.ports_only) in
    let s = sound_said (enter_all nothing (records D)) (rw (design_records D (λ c l. (h.each c l).0.even)) h) in
    (back_walk nothing (records D) (placed_records D (chain Whole [] D whole)) s.0 s.1).1
