-- A scan that follows gives the verdict; and where that is accepted, its last state fits all that has been entered.
-- Assumes nothing.
use Rattle.std.specs.Prelude.{ℕ, Bool, true, false, ◌≡◌}
use Rattle.std.proofs.Math.Path.{refl, ap}
use Rattle.std.proofs.Common.{sym, ◌∙◌}
use mathlib.Core.List.{List, [], ◌∷◌, ◌++◌, append-nil}
use Rattle.std.proofs.Math.ListN.{length}
use Rattle.answers.specs.Answer.{Answer, accepted, refused, Counts, Refusal}
use Rattle.entry.specs.Lists.{add_last}
use Rattle.entry.specs.Records.{Record, wrong}
use Rattle.entry.specs.Entered.{Entered, nothing, enter, enter_all}
use Rattle.entry.specs.Asks.{Asks, asks, ending}
use Rattle.entry.specs.Decide.{Decided, decide, decide_end}
use Rattle.entry.specs.Verdict.{first, judge, verdict}
use Rattle.entry.proofs.Laws.{length_add_last, add_last_append, Keeps, Unbroken, accepted_unbroken}
use Rattle.reading.specs.Tests.{Means}
use Rattle.reading.specs.Scan.{Tests, tried, Agree, scan, final, Follows}

-- Where a rule is broken, what would follow does not matter.
first_tried : (l : Asks) (ts : Tests) (d : Decided l) (tell tell' : ℕ → Refusal) (k k' : Answer Counts) → Agree l ts → ((n : ℕ) → tell n ≡ tell' n) → (Keeps l → k ≡ k') → first l d tell k ≡ tried ts tell' k'
unfolding first tried
first_tried [] [] d tell tell' k k' h t f = f tt
first_tried [] (x ∷ ts) d tell tell' k k' h t f = absurd h
first_tried (a ∷ l) [] d tell tell' k k' h t f = absurd h
first_tried (a ∷ l) (x ∷ ts) d tell tell' k k' h t f = go d.0 x.1 h.1 (λ y. first_tried l ts d.1 tell tell' k k' (h.2 y) t (λ n. f (y, n)))
  where
    go : (z : Dec a.1) (b : Bool) → Means b a.1 → (a.1 → first l d.1 tell k ≡ tried ts tell' k') → first (a ∷ l) (z, d.1) tell k ≡ tried ((x.0, b) ∷ ts) tell' k'
    go (yes y) true m g = g y
    go (yes y) false m g = absurd (m.from y)
    go (no y) true m g = absurd (y (m.to tt))
    go (no y) false m g = ap refused (t a.0 ∙ ap tell' h.0)

module _ (S : Type 0) (tests : S → Record → Tests) (ends : S → Tests) (tells : S → Record → (p n : ℕ) → Refusal) (count : S → ℕ) (next : S → ℕ → Record → S)
    (file : List Record) (Fits : Entered → List Record → S → Type 0) (follows : Follows S tests ends tells count next file Fits) where
  abbrev run : S → ℕ → List Record → Answer Counts
  run s p rs = scan S tests ends tells count next s p rs

  -- One record more is done.
  onward : (done : List Record) (r : Record) (rs : List Record) → file ≡ done ++ (r ∷ rs) → file ≡ add_last done r ++ rs
  onward done r rs w = w ∙ sym (add_last_append done r rs)

  scans : (rs done : List Record) (e : Entered) (s : S) → Fits e done s → file ≡ done ++ rs → judge e (length done) rs ≡ run s (length done) rs
  unfolding judge scan
  scans [] done e s h w =
      let z : file ≡ done = w ∙ append-nil done in
      let g : Fits e file s = rw z h in
      first_tried (ending e) (ends s) (decide_end e) _ _ _ _ (follows.at_end e s g) (λ n. follows.tells_so e done s wrong n h)
      (λ k. ap (λ (c : ℕ). accepted (record { components = c; records = length done })) (sym (follows.counts e s g k)))
  scans (r ∷ rs) done e s h w =
      first_tried (asks e r) (tests s r) (decide e r) _ _ _ _ (follows.at_record e done s r rs h w) (λ n. follows.tells_so e done s r n h)
      (λ k. rw (length_add_last done r) at (scans rs (add_last done r) (enter e r) (next s (length done) r) (follows.goes_on e done s r rs h w k) (onward done r rs w)))

  pub scan_verdict : (s : S) → Fits nothing [] s → verdict file ≡ run s 0 file
  unfolding verdict
  scan_verdict s h = scans file [] nothing s h refl

  lasts : (rs done : List Record) (e : Entered) (s : S) → Fits e done s → file ≡ done ++ rs → Unbroken e rs → Fits (enter_all e rs) file (final S tests ends tells count next s (length done) rs)
  unfolding final enter_all Unbroken
  lasts [] done e s h w u = let z : file ≡ done = w ∙ append-nil done in rw z h
  lasts (r ∷ rs) done e s h w u =
      rw (length_add_last done r) at (lasts rs (add_last done r) (enter e r) (next s (length done) r) (follows.goes_on e done s r rs h w u.0) (onward done r rs w) u.1)

  pub final_fits : (s : S) → Fits nothing [] s → (k : Counts) → verdict file ≡ accepted k → Fits (enter_all nothing file) file (final S tests ends tells count next s 0 file)
  final_fits s h k a = lasts file [] nothing s h refl (accepted_unbroken file k a).0
