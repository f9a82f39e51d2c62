-- The rows of all components of an accepted file may be handed to `hold`; put into zeros they are what opening leaves.
-- Assumes nothing.
use Prim.Native.Nat.{ℕ, zero, suc, ◌+◌, ◌-◌, ◌*◌, ◌≤◌}
use mathlib.Core.Path.{◌≡◌, refl, sym, ap, ◌∙◌}
use mathlib.Core.List.{List}
use native.Mathlib.Omega.{arith}
use lib.ListN.{length, replicate}
use Rattle.std.specs.Prelude.{Option, IfSome}
use Rattle.answers.specs.Answer.{Answer, accepted, refused, Counts}
use Rattle.signatures.specs.declared.Signature.{Signature}
use Rattle.entry.specs.Entered.{design}
use Rattle.look.specs.Listed.{records_of}
use Rattle.component.specs.declared.Wanted.{Wanted}
use Rattle.component.specs.Wanted.{in_order, wanted, placed, every_below, Sound, gathered}
use Rattle.component.proofs.Gathered.{in_order_length}
use Rattle.verdict.specs.Judgement.{judgement, components_of, kept}
use Rattle.verdict.specs.Opening.{zeros, opening_rows, Fills}
use Rattle.verdict.proofs.Passed.{said_few}
use Rattle.verdict.proofs.Holding.{at_zero}
use Rattle.verdict.proofs.Rows.{gathers_all}

-- No more than 64 components, and a row for each in the table.
few_components : (file : List ℕ) (rows : ℕ) (a : Answer Counts) → a ≡ judgement file rows → (components_of a ≤ 64) × (1 ≤ components_of a → 64 ≤ rows)
few_components file rows (accepted k) j = let s = said_few file rows k (sym j) in (let l = s.0 in let c = s.1 in omega arith, λ _. s.2)
few_components file rows (refused r) j = (omega arith, λ l. absurd (omega arith))

-- So many components, one after the other.
all_in_order : (file : List ℕ) (n : ℕ) → wanted file (every_below n) ≡ in_order n 0
unfolding in_order
all_in_order file zero = refl
all_in_order file (suc n) = let e : suc n - 1 ≡ n = omega arith in rw e

-- The first of them, which may be handed to `hold`.
sound_below : (file : List ℕ) (n : ℕ) → n ≤ 64 → IfSome (every_below n) (Sound file)
sound_below file zero l = tt
sound_below file (suc n) l = record { below = omega arith; place = omega arith; follows = (refl, l) }

placed_below : (n : ℕ) → {A : Type 0} → (1 ≤ n → A) → IfSome (every_below n) (λ w. (w.place ≡ 0) × A)
placed_below zero e = tt
placed_below (suc n) e = (refl, e (omega arith))

module _ (file : List ℕ) (rows : ℕ) (table : List Signature) (a : Answer Counts) (judges : a ≡ judgement file rows) (first : Option Wanted) (wants : first ≡ every_below (components_of a)) where
  pub may_hold : length table ≡ rows → IfSome first (Sound file) × IfSome first (λ w. (w.place ≡ 0) × (64 ≤ length table)) × (5 * length (wanted file first) ≤ 320)
  may_hold e =
      let n = components_of a in
      let few = few_components file rows a judges in
      let l = few.0 in
      let y : length (wanted file (every_below n)) ≡ n = ap length (all_in_order file n) ∙ in_order_length n 0 in
      rw wants (sound_below file n (omega arith), placed_below n (λ some. let h = few.1 (omega arith) in omega arith), omega arith)

  pub hands_on : Fills a file (kept table) → gathered (replicate 320 0) table 0 (wanted file first) ≡ opening_rows a file
  unfolding zeros gathered in_order
  hands_on fills = rw (wants, all_in_order file (components_of a)) (go a judges fills)
    where
      go : (b : Answer Counts) → b ≡ judgement file rows → Fills b file (kept table) → gathered (zeros 320) table 0 (in_order (components_of b) 0) ≡ opening_rows b file
      go (accepted k) j f = let s = said_few file rows k (sym j) in rw (sym s.1) (gathers_all (design (records_of file k.records)) table f s.0)
      go (refused r) j f = refl

  -- The same of the place that the first one names, as `hold` asks for it and leaves it: for it is 0.
  pub may_hold_placed : length table ≡ rows → IfSome first (Sound file) × IfSome first (λ w. 64 ≤ length table) × (5 * (placed first + length (wanted file first)) ≤ 320)
  may_hold_placed e =
      let h = may_hold e in
      let z = at_zero first (64 ≤ length table) h.1 in
      let y = z.0 in
      (h.0, z.1, omega arith)

  pub hands_on_placed : Fills a file (kept table) → gathered (replicate 320 0) table (placed first) (wanted file first) ≡ opening_rows a file
  hands_on_placed fills =
      let some : IfSome first (λ w. (w.place ≡ 0) × (1 ≤ components_of a)) = rw wants (placed_below (components_of a) (λ l. l)) in
      rw (at_zero first (1 ≤ components_of a) some).0 (hands_on fills)
