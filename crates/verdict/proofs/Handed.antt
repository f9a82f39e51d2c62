-- What a table has after a row has been stored in it; and that the rows of the instances ahead, handed on as numbers, show what it shows.
-- Assumes nothing.
use Prim.Native.Nat.{ℕ, ◌+◌, ◌-◌, ◌*◌, ◌≤◌, ◌<◌}
use mathlib.Core.Path.{◌≡◌, refl, ◌∙◌}
use mathlib.Core.List.{List}
use native.Mathlib.Omega.{arith}
use native.Mathlib.Nat.{zero-add}
use native.Mathlib.Decide.{ℕ_discrete}
use lib.ListN.{length, get_or, set}
use lib.Seq.{get_or-set_same, get_or-set_other}
use borrow.Author.Tests.{eq-eqb, ne_eqb}
use Rattle.std.specs.Prelude.{Option, None, Some, IfSome}
use Rattle.reading.specs.Changed.{changed}
use Rattle.reading.specs.Reader.{Row}
use Rattle.signatures.specs.declared.Signature.{Signature}
use Rattle.signatures.specs.Rows.{zero_row}
use Rattle.reader.specs.Rows.{row_in}
use Rattle.component.specs.declared.Wanted.{Wanted}
use Rattle.component.specs.Ahead.{ahead}
use Rattle.component.specs.Component.{HoldsRows}
use Rattle.component.specs.Wanted.{wanted, placed as place_of, gathered}
use Rattle.component.proofs.Gathered.{gathered_row, ahead_short}
use Rattle.verdict.specs.Judgement.{kept, shown}
use Rattle.verdict.proofs.Holding.{at_zero}

pub kept_stored : (table new : List Signature) (p : ℕ) (s : Signature) → new ≡ set table p s → p < length table → (c : ℕ) → kept new c ≡ changed (kept table) p s c
unfolding changed
kept_stored table new p s e l c = rw e (go (ℕ_discrete c p))
  where
    go : Dec (c ≡ p) → kept (set table p s) c ≡ changed (kept table) p s c
    go (yes e) = rw (e, eq-eqb p p refl) (get_or-set_same table p s zero_row l)
    go (no d) = rw (ne_eqb c p d) (get_or-set_other table p c s zero_row d)

-- Beside a place, what is known anyhow.
pub placed : (first : Option Wanted) → IfSome first (λ w. w.place ≡ 0) → {A : Type 0} → A → IfSome first (λ w. (w.place ≡ 0) × A)
placed None p a = tt
placed (Some w) p a = (p, a)

-- Of the first one, if there is one: what is known anyhow.
pub for_first : (first : Option Wanted) → {A : Type 0} → A → IfSome first (λ w. A)
for_first None a = tt
for_first (Some w) a = a

-- The rows of the instances ahead.
module _ (file : List ℕ) (n at : ℕ) (first : Option Wanted) (are : wanted file first ≡ ahead file (n - at) at 0) where
  few_ahead : length (ahead file (n - at) at 0) ≤ 32
  few_ahead = let z = ahead_short file (n - at) at 0 (omega arith) in omega arith

  pub few_wanted : 5 * length (wanted file first) ≤ 160
  few_wanted = let z = few_ahead in rw are (omega arith)

  pub held_ahead : (table : List Signature) (held : List ℕ) (rows : ℕ → Row) (number : ℕ) → length held ≡ 160 → ((c : ℕ) → c < number → shown table c ≡ rows c) → HoldsRows file n rows at number (gathered held table 0 (wanted file first))
  held_ahead table held rows number e shows m l k =
      let z = few_ahead in
      let y : row_in (gathered held table 0 (ahead file (n - at) at 0)) (0 + m) ≡ shown table (get_or (ahead file (n - at) at 0) m 0) = gathered_row held table 0 (ahead file (n - at) at 0) (omega arith) m l in
      rw are (rw (zero-add m) at y ∙ shows (get_or (ahead file (n - at) at 0) m 0) k)

  -- The same of the place that the first one names, as `hold` asks for it and leaves it: for it is 0.
  module _ (place : IfSome first (λ w. w.place ≡ 0)) where
    from_zero : place_of first ≡ 0
    from_zero = (at_zero first (0 ≤ 0) (placed first place (omega arith))).0

    pub few_placed : 5 * (place_of first + length (wanted file first)) ≤ 160
    few_placed = let e = from_zero in let z = few_wanted in omega arith

    pub held_placed : (table : List Signature) (held : List ℕ) (rows : ℕ → Row) (number : ℕ) → length held ≡ 160 → ((c : ℕ) → c < number → shown table c ≡ rows c) → HoldsRows file n rows at number (gathered held table (place_of first) (wanted file first))
    held_placed = rw from_zero held_ahead
