-- A program that reads rightly follows what is entered, so that its scan is the verdict.
-- Assumes nothing.
use Rattle.std.specs.Prelude.{ℕ, suc, ◌+◌, true, ◌≡◌, List, [], ◌∷◌, ◌++◌, length}
use Rattle.std.proofs.Math.Path.{refl, sym, ap}
use Rattle.std.proofs.Common.{◌∙◌, length-append, arith}
use Rattle.std.proofs.Math.Seq.{get_or-append_seam}
use Rattle.answers.specs.Answer.{accepted, Counts}
use Rattle.timeline.specs.Design.{Port}
use Rattle.entry.specs.Lists.{add_last}
use Rattle.entry.specs.Records.{Record, wrong, component, part, records}
use Rattle.entry.specs.Numbers.{At}
use Rattle.entry.specs.Entered.{Entered, nothing, after, enter, enter_all, said, design}
use Rattle.entry.specs.Asks.{Asks, asks, ending}
use Rattle.entry.specs.Told as Entry
use Rattle.entry.specs.Verdict.{verdict}
use Rattle.entry.proofs.Laws.{length_add_last, Keeps, Sound, sound_step, records_step}
use Rattle.reading.specs.Tests.{Means, means_never, means_below}
use Rattle.reading.specs.Changed.{changed_there, changed_below}
use Rattle.reading.specs.Scan.{Tests, Agree, Follows}
use Rattle.reading.specs.Reader.{View, waits, reads, tests, ends, count}
use Rattle.reading.specs.Told.{told}
use Rattle.reading.specs.Step.{own_row, Step}
use Rattle.reading.specs.Table.{TableOf, table}
use Rattle.reading.specs.Reads.{Passes, Ranged, Reads, answer, last_state}
use Rattle.reading.proofs.Scanned.{scan_verdict, final_fits}
use Rattle.reading.proofs.Placed.{means_complete}
use Rattle.reading.proofs.Fits.{Fits}
use Rattle.reading.proofs.Agreed.{agree_part}
use Rattle.reading.proofs.Onward.{rows_with_own, onward_part, onward_component, onward_first}

-- The view fits what has been entered by the records that are done.
abbrev pub ViewFits : Entered → List Record → View → Type 0
ViewFits nothing done waits = done ≡ []
ViewFits nothing done (reads r) = ⊥
ViewFits (after E C) done waits = ⊥
ViewFits (after E C) done (reads r) = Sound (after E C) × (done ≡ records (add_last E C)) × Fits E C r

whole_table : (e : Entered) (done : List Record) (v : View) → ViewFits e done v → TableOf (said e) (table v)
whole_table nothing done waits h = λ c l. absurd (omega arith)
whole_table nothing done (reads r) h = absurd h
whole_table (after E C) done waits h = absurd h
whole_table (after E C) done (reads r) h =
    rows_with_own E C r r h.2 (table (reads r)) (changed_below r.row r.number (own_row r)) (changed_there r.row r.number (own_row r))

passes : (l : Asks) (ts : Tests) → Agree l ts → Keeps l → Passes ts
passes [] [] h k = tt
passes [] (t ∷ ts) h k = absurd h
passes (a ∷ l) [] h k = absurd h
passes (a ∷ l) (t ∷ ts) h k = (h.1.from k.0, passes l ts (h.2 k.0) k.1)

holds : {P : Type 0} → P → Means true P
holds p = record { to = λ t. p; from = λ q. tt }

module _ (S : Type 0) (view : S → View) (next : S → ℕ → Record → S) (Own : S → Type 0) (file : List Record) (look : ℕ → Port) (right : Reads S view next Own file look) where
  at_place : (done : List Record) (r : Record) (rs : List Record) → file ≡ done ++ (r ∷ rs) → At file (length done) r
  at_place done r rs w = record { below = let z = length-append done (r ∷ rs) in let y = ap length w in omega arith; is = λ d. rw w (get_or-append_seam done r rs d) }

  in_range : (done : List Record) (r : Record) (rs : List Record) → file ≡ done ++ (r ∷ rs) → Ranged r
  in_range done r rs w = let a = at_place done r rs w in rw (a.is wrong) at (right.ranged (length done) a.below)

  agree : (e : Entered) (done : List Record) (v : View) (r : Record) (rs : List Record) → ViewFits e done v → file ≡ done ++ (r ∷ rs) → Ranged r → Agree (asks e r) (tests look v r)
  agree nothing done waits wrong rs h w g = (refl, means_never, λ t. tt)
  agree nothing done waits (component k d) rs h w g = (refl, holds g, λ t. tt)
  agree nothing done waits (part x) rs h w g = (refl, holds g, λ t. (refl, means_never, λ u. tt))
  agree nothing done (reads s) r rs h w g = absurd h
  agree (after E C) done waits r rs h w g = absurd h
  agree (after E C) done (reads s) wrong rs h w g = (refl, means_never, λ t. tt)
  agree (after E C) done (reads s) (component k d) rs h w g =
      let e : s.number + 1 ≡ suc (length E) = let z = h.2.number in omega arith in
      (refl, holds g, λ t. (refl, means_complete E C s.place h.2.stands, λ c. (refl, rw e (means_below (suc (length E)) 64), λ n. tt)))
  agree (after E C) done (reads s) (part x) rs h w g =
      (refl, holds g, λ t. agree_part file look right.looks E C s h.0.1 h.2 (part x ∷ rs) (w ∙ ap (◌++ (part x ∷ rs)) h.1) x)

  agree_end : (e : Entered) (v : View) → ViewFits e file v → Agree (ending e) (ends v)
  agree_end nothing waits h = (refl, means_never, λ t. tt)
  agree_end nothing (reads s) h = absurd h
  agree_end (after E C) waits h = absurd h
  agree_end (after E C) (reads s) h = (refl, means_complete E C s.place h.2.stands, λ c. tt)

  counts : (e : Entered) (v : View) → ViewFits e file v → Keeps (ending e) → count v ≡ length (said e)
  counts nothing waits h k = absurd k.0
  counts nothing (reads s) h k = absurd h
  counts (after E C) waits h k = absurd h
  counts (after E C) (reads s) h k = let z = length_add_last E C in let y = h.2.number in omega arith

  -- A reader tells what has been entered tells.
  tells_so : (e : Entered) (done : List Record) (v : View) (r : Record) (n : ℕ) → ViewFits e done v → Entry.told e r (length done) n ≡ told v r (length done) n
  unfolding Entry.told told
  tells_so e done v r n h = refl

  goes_on : (e : Entered) (done : List Record) (v v' : View) (r : Record) → ViewFits e done v → Keeps (asks e r) → Step v (length done) r v' → ViewFits (enter e r) (add_last done r) v'
  unfolding add_last records
  goes_on nothing done waits v' wrong h k s = absurd k.0
  goes_on nothing done waits waits (component c d) h k s = absurd s
  goes_on nothing done waits (reads r') (component c d) h k s =
      (sound_step nothing (component c d) tt k, rw h (sym (records_step nothing (component c d) tt k)), onward_first c d r' (rw h at s))
  goes_on nothing done waits v' (part x) h k s = absurd k.1.0
  goes_on nothing done (reads r) v' x h k s = absurd h
  goes_on (after E C) done waits v' x h k s = absurd h
  goes_on (after E C) done (reads r) v' wrong h k s = absurd k.0
  goes_on (after E C) done (reads r) waits (component c d) h k s = absurd s
  goes_on (after E C) done (reads r) (reads r') (component c d) h k s = (
    sound_step (after E C) (component c d) h.0 k,
    ap (◌++ (component c d ∷ [])) h.1 ∙ sym (records_step (after E C) (component c d) h.0 k),
    onward_component E C r r' h.2 c d (rw h.1 at s.0) s.1,
  )
  goes_on (after E C) done (reads r) waits (part x) h k s = absurd s
  goes_on (after E C) done (reads r) (reads r') (part x) h k s = (
    sound_step (after E C) (part x) h.0 k,
    ap (◌++ (part x ∷ [])) h.1 ∙ sym (records_step (after E C) (part x) h.0 k),
    onward_part E C r r' h.2 x k.1 s,
  )

  -- What the state fits.
  abbrev pub StateFits : Entered → List Record → S → Type 0
  StateFits e done s = ViewFits e done (view s) × Own s

  follows : Follows S (λ s. tests look (view s)) (λ s. ends (view s)) (λ s. told (view s)) (λ s. count (view s)) next file StateFits
  follows =
      record {
        at_record = λ e done s r rs h w. agree e done (view s) r rs h.0 w (in_range done r rs w);
        at_end = λ e s h. agree_end e (view s) h.0;
        tells_so = λ e done s r n h. tells_so e done (view s) r n h.0;
        counts = λ e s h k. counts e (view s) h.0 k;
        goes_on = λ e done s r rs h w k.
            let p = passes (asks e r) (tests look (view s) r) (agree e done (view s) r rs h.0 w (in_range done r rs w)) k in
            let t = right.keeps s (length done) r h.1 (at_place done r rs w) p in
            (goes_on e done (view s) (view (next s (length done) r)) r h.0 k t.0, t.1);
      }

  begins : (s : S) → view s ≡ waits → Own s → StateFits nothing [] s
  begins s v o = let f : ViewFits nothing [] (view s) = rw v refl in (f, o)

  pub answer_verdict : (s : S) → view s ≡ waits → Own s → verdict file ≡ answer S view next Own file look s 0 file
  answer_verdict s v o = scan_verdict S _ _ _ _ next file StateFits follows s (begins s v o)

  pub last_fits : (s : S) → view s ≡ waits → Own s → (k : Counts) → verdict file ≡ accepted k → StateFits (enter_all nothing file) file (last_state S view next Own file look s 0 file)
  last_fits s v o k a = final_fits S _ _ _ _ next file StateFits follows s (begins s v o) k a

  pub last_table : (s : S) → view s ≡ waits → Own s → (k : Counts) → verdict file ≡ accepted k → TableOf (design file) (table (view (last_state S view next Own file look s 0 file)))
  unfolding design
  last_table s v o k a = whole_table (enter_all nothing file) file (view (last_state S view next Own file look s 0 file)) (last_fits s v o k a).0
